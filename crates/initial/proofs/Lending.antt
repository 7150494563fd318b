-- Laws of what fresh leaves in columns of one entry a row, which are the front of arrays of zeros.
-- Assumes nothing.
use Rattle.std.proofs.Common.{Ok, Err}
use mathlib.Core.Path.{◌≡◌, ap, ◌∙◌}
use mathlib.Core.List.{◌++◌}
use Prim.Native.Nat.{ℕ, ◌*◌, ◌≤◌}
use native.Mathlib.Omega.{arith}
use lib.ListN.{length, take, drop, length-append, length-drop, length-replicate, take-append-drop}
use lib.Seq.{take_at}
use borrow.Author.Tests.{eq-eqb}
use Rattle.columns.specs.Column.{Bytes, Column}
use Rattle.world.specs.Rows.{rows}
use Rattle.refusals.specs.Check.{Checked, accepted, check_input, written}
use Rattle.refusals.proofs.Passed.{or_accepted}
use Rattle.updates.specs.Calls.{check_fresh}
use Rattle.initial.specs.SettlesFresh.{zeros, column_of}

-- once the part has come back, the array is the column
pub given_back : (n : ℕ) (c : Checked) (numbers last : Column) → length last ≡ n → last ≡ written c (take n zeros) numbers → last ++ drop n zeros ≡ column_of c numbers
given_back n (Ok _) numbers last l e = rw (← l, e)
given_back n (Err fault) numbers last l e = ap (λ s. s ++ drop n zeros) e ∙ take-append-drop n zeros

-- and its first entries are the numbers, where nothing was refused
pub column_front : (n : ℕ) (c : Checked) (numbers column : Column) → c ≡ accepted → length numbers ≡ n → column ≡ column_of c numbers → take n column ≡ numbers
column_front n c numbers column a l e = rw (e, a) (take_at numbers (drop (length numbers) zeros) n l)

-- it has 1,024 entries
pub column_sized : (c : Checked) (numbers : Column) → length numbers ≤ 1024 → length (column_of c numbers) ≡ 1024
column_sized (Ok _) numbers l = rw (length-append, length-drop, length-replicate) (omega arith)
column_sized (Err fault) numbers l = length-replicate {A = ℕ} 1024 0

-- with columns of one entry a row, and sixteen bytes of state, fresh refuses what the table and the profile are refused for
pub fresh_check : (p t : Bytes) (state signal weak strong : ℕ) → state ≡ rows t * 16 → signal ≡ rows t → weak ≡ rows t → strong ≡ rows t
    → check_fresh p t state signal weak strong ≡ check_input p t
unfolding check_fresh
fresh_check p t state signal weak strong a b c d = rw (eq-eqb _ _ a, eq-eqb _ _ b, eq-eqb _ _ c, eq-eqb _ _ d) (or_accepted (check_input p t))
