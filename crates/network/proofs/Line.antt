-- Settling computes: the five rows of the test book's third case, as a network.
-- Assumes nothing.
use mathlib.Core.Path.{◌≡◌, refl}
use mathlib.Core.Bool.{Bool, false, ◌&&◌, ◌||◌}
use mathlib.Core.List.{List, [], ◌∷◌}
use Prim.Native.Nat.{ℕ}
use lib.Dec.{eqb}
use Rattle.network.specs.Network.{Network}
use Rattle.network.specs.Settled.{rounds_of, settled}
use Rattle.network.specs.Computing.{computing}
use Rattle.network.specs.Laws.Loop.{unmapped}
use Rattle.network.specs.Laws.Keys.{rounds_by, last_dust, last_weak}

-- the pairs of rows (a, b) and (c, d)
pairs : ℕ → ℕ → ℕ → ℕ → ℕ → ℕ → Bool
pairs a b c d j i = (eqb j a && eqb i b) || (eqb j c && eqb i d)

-- row 0 a redstone block, rows 1 and 3 solid, rows 2 and 4 the dust on them
line : Network
unfolding pairs
line =
    record {
      size = 5;
      dust = λ i. eqb i 2 || eqb i 4;
      mapped = λ i. eqb i 1 || eqb i 3;
      emitted_to_strong = λ j i. false;
      strong_to_weak = λ j i. false;
      dust_to_weak = pairs 2 1 4 3;
      transmits = pairs 2 4 4 2;
      emitted_to_dust = pairs 0 2 0 2;
      strong_to_dust = λ j i. false;
    }

emits : List ℕ
emits = 15 ∷ 0 ∷ 0 ∷ 0 ∷ 0 ∷ []

rounds : rounds_of line emits ≡ 4
unfolding computing line emits
rounds = refl

signals : (settled line emits).signal ≡ 15 ∷ 0 ∷ 15 ∷ 0 ∷ 14 ∷ []
unfolding computing line emits
signals = refl

weak : (settled line emits).weak ≡ 0 ∷ 15 ∷ 0 ∷ 14 ∷ 0 ∷ []
unfolding computing line emits
weak = refl

-- the keys 240 and 223 give the same number
keyed : rounds_by line emits (0 ∷ 0 ∷ 240 ∷ 0 ∷ 223 ∷ []) ≡ 4
unfolding computing line emits rounds_by last_dust last_weak unmapped pairs
keyed = refl
