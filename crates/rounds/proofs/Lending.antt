-- Laws of the output columns of a call, and of the front of an array of zeros, lent as a column.
-- Assumes nothing.
use mathlib.Core.Path.{◌≡◌}
use mathlib.Core.Bool.{true, ◌&&◌}
use Prim.Native.Nat.{ℕ}
use lib.ListN.{length, take, replicate}
use lib.Dec.{eqb}
use borrow.Author.Tests.{eqb-true}
use Rattle.columns.specs.Column.{Column}
use Rattle.columns.proofs.Columns.{length_zeros}
use Rattle.columns.proofs.Truth.{and_true}
use Rattle.circuit.specs.Circuit.{Shaped}
use Rattle.rounds.specs.Prepared.{Outputs}

-- those that pass their check are of n rows
pub outputs : (n : ℕ) (signal weak strong : Column) → (eqb (length signal) n && (eqb (length weak) n && eqb (length strong) n)) ≡ true
    → Outputs n signal weak strong
outputs n signal weak strong h =
    let (s, others) = and_true (eqb (length signal) n) _ h in
    let (w, g) = and_true (eqb (length weak) n) _ others in
    record { signal_rows = eqb-true _ _ s; weak_rows = eqb-true _ _ w; strong_rows = eqb-true _ _ g }

-- one entry for each row
pub front : {near class : Column} → Shaped near class → length (take {A = ℕ} (length class) (replicate 1024 0)) ≡ length class
front shaped = length_zeros _ 1024 shaped.few
