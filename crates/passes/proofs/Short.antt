-- A pass leaves no more rows than there were.
-- Assumes nothing.
use Rattle.std.specs.Prelude.{not}
use Rattle.std.proofs.Math.Bool.{Bool, true, false}
use mathlib.Core.List.{List, [], ◌∷◌}
use Prim.Native.Nat.{ℕ, suc, ◌+◌, ◌≤◌}
use native.Mathlib.Omega.{arith}
use Rattle.std.proofs.Math.ListN.{length}
use Rattle.columns.specs.First.{keep_if}
use Rattle.blocks.specs.Kind.{one_of}
use Rattle.passes.specs.Passes.{unnamed_from}

module _ (names : List ℕ) where
  pub unnamed_short : (k : ℕ) (xs : List ℕ) → length (unnamed_from names k xs) ≤ length xs
  unfolding unnamed_from
  unnamed_short k [] = omega arith
  unnamed_short k (x ∷ xs) = go (not (one_of names k)) (unnamed_short (k + 1) xs)
    where
      go : (b : Bool) → length (unnamed_from names (k + 1) xs) ≤ length xs → length (keep_if b x (unnamed_from names (k + 1) xs)) ≤ suc (length xs)
      go true h = omega arith
      go false h = omega arith
