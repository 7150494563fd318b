-- Document 02, Change 2, computed: what the look-up answers where the rows are in order, and where they are not.
-- Assumes nothing.
use mathlib.Core.List.{List, [], ◌∷◌, ◌++◌}
use Prim.Native.Nat.{ℕ}
use lib.ListN.{drop, replicate}
use lib.Dec.{T}
use lib.IntN.{ℤ, pos, negsuc}
use Rattle.columns.specs.Column.{Bytes, Column}
use Rattle.columns.specs.First.{on_found}
use Rattle.columns.specs.declared.Found.{Found}
use Rattle.blocks.specs.Kind.{Solid}
use Rattle.places.specs.declared.Pos.{Pos}
use Rattle.places.specs.Places.{cell}
use Rattle.world.specs.Find.{find, first_standing}
use Rattle.cases.proofs.Computing.{computing}
use Rattle.cases.proofs.Build.{block}
use Rattle.cases.proofs.Cases.{Case, passes}

-- blocks at (x, 1, 0), one a row
strip : List ℕ → Bytes
strip [] = []
strip (x ∷ xs) = block Solid x 1 0 ++ strip xs

-- a block at (-1, 1, 0)
west : Bytes
west = 255 ∷ 255 ∷ 255 ∷ 255 ∷ drop 4 (block Solid 0 1 0)

-- the row found, or 99
row_or99 : Found → ℕ
row_or99 f = on_found (λ i. i) 99 f

at : Bytes → ℤ → ℤ → ℤ → ℕ
unfolding computing row_or99
at t x y z = row_or99 (find t (cell x y z))

-- the rows found in turn at (0, 1, 0) to (5, 1, 0)
along : (Bytes → Pos → Found) → Bytes → Column
unfolding row_or99
along look t = let f : ℕ → ℕ = λ x. row_or99 (look t (cell (pos x) (pos 1) (pos 0))) in f 0 ∷ f 1 ∷ f 2 ∷ f 3 ∷ f 4 ∷ f 5 ∷ []

cases : List Case
unfolding computing first_standing strip west at along
cases =
    -- rows in order, by the look-up and by the reading that goes through all rows; then with equal positions
    record { given = along find (strip (1 ∷ 2 ∷ 4 ∷ [])); wanted = 99 ∷ 0 ∷ 1 ∷ 99 ∷ 2 ∷ 99 ∷ [] }
    ∷ record { given = along first_standing (strip (1 ∷ 2 ∷ 4 ∷ [])); wanted = 99 ∷ 0 ∷ 1 ∷ 99 ∷ 2 ∷ 99 ∷ [] }
    ∷ record { given = along find (strip (1 ∷ 2 ∷ 2 ∷ 4 ∷ [])); wanted = 99 ∷ 0 ∷ 1 ∷ 99 ∷ 3 ∷ 99 ∷ [] }
    ∷ record { given = along first_standing (strip (1 ∷ 2 ∷ 2 ∷ 4 ∷ [])); wanted = 99 ∷ 0 ∷ 1 ∷ 99 ∷ 3 ∷ 99 ∷ [] }
    -- the largest x first: the look-up ends there for every x up to it
    ∷ record { given = along find (strip (4 ∷ 1 ∷ 2 ∷ [])); wanted = 99 ∷ 99 ∷ 99 ∷ 99 ∷ 0 ∷ 99 ∷ [] }
    ∷ record { given = along first_standing (strip (4 ∷ 1 ∷ 2 ∷ [])); wanted = 99 ∷ 1 ∷ 2 ∷ 99 ∷ 0 ∷ 99 ∷ [] }
    -- the least x last: at its position the look-up has ended before it
    ∷ record { given = along find (strip (2 ∷ 4 ∷ 1 ∷ [])); wanted = 99 ∷ 99 ∷ 0 ∷ 99 ∷ 1 ∷ 99 ∷ [] }
    -- equal positions out of order: the first of them
    ∷ record { given = along find (strip (1 ∷ 2 ∷ 2 ∷ 2 ∷ 1 ∷ [])); wanted = 99 ∷ 0 ∷ 1 ∷ 99 ∷ 99 ∷ 99 ∷ [] }
    -- beside a row, by each coordinate, on both sides
    ∷ record {
      given =
          (let t = strip (1 ∷ []) in
          at t (pos 0) (pos 1) (pos 0) ∷ at t (pos 2) (pos 1) (pos 0) ∷ at t (pos 1) (pos 0) (pos 0) ∷ at t (pos 1) (pos 2) (pos 0)
          ∷ at t (pos 1) (pos 1) (negsuc 0) ∷ at t (pos 1) (pos 1) (pos 1) ∷ []);
      wanted = 99 ∷ 99 ∷ 99 ∷ 99 ∷ 99 ∷ 99 ∷ [];
    }
    -- x before y, y before z, and -1 before 1
    ∷ record {
      given =
          (let t = block Solid 0 1 0 ++ block Solid 1 0 0 in
          let u = block Solid 0 0 1 ++ block Solid 0 1 0 in
          let v = west ++ block Solid 1 1 0 in
          at t (pos 0) (pos 1) (pos 0) ∷ at t (pos 1) (pos 0) (pos 0) ∷ at u (pos 0) (pos 0) (pos 1) ∷ at u (pos 0) (pos 1) (pos 0)
          ∷ at v (negsuc 0) (pos 1) (pos 0) ∷ at v (pos 1) (pos 1) (pos 0) ∷ []);
      wanted = 0 ∷ 1 ∷ 0 ∷ 1 ∷ 0 ∷ 1 ∷ [];
    }
    -- no rows, and bytes that are no whole row
    ∷ record { given = at [] (pos 0) (pos 0) (pos 0) ∷ at (replicate 31 0) (pos 0) (pos 0) (pos 0) ∷ []; wanted = 99 ∷ 99 ∷ [] }
    ∷ []

claim : T (passes cases)
unfolding passes cases
claim = tt
