-- A copy is the slice at the front of an array of zeros, and its front is what was copied.
-- Assumes nothing.
use mathlib.Core.Path.{◌≡◌, refl, ◌∙◌}
use mathlib.Core.List.{◌++◌}
use mathlib.Core.Logic.{by_cases}
use Prim.Native.Nat.{ℕ, ◌+◌, ◌-◌, ◌≤◌, ◌<◌, min}
use native.Mathlib.Decide.{dec_lt}
use native.Mathlib.Omega.{arith}
use lib.ListN.{length, take, drop, replicate, length-append, length-drop, length-replicate, get_or-append}
use lib.Seq.{length-take-le, get_or-take, get_or-append_right}
use Rattle.std.proofs.lemmas.List.{get_or-drop, get_or-replicate, get_or_past}
use Rattle.columns.specs.Column.{Bytes, row}
use Rattle.columns.proofs.Columns.{length_tabulate, row_tabulate, same_rows, is_tabulate}
use Rattle.records.specs.Record.{most_bytes, copied}

pub front_copied : (s : Bytes) → length s ≤ most_bytes → take (length s) (copied s) ≡ s
front_copied s h =
    same_rows (length s) (take (length s) (copied s)) s (length-take-le (length s) (copied s) (rw (length_tabulate most_bytes 0 (row s)) h)) refl
    (λ i l. rw (get_or-take (length s) (copied s) i 0 l) (row_tabulate most_bytes (row s) i (omega arith)))

module _ (s : Bytes) (n : ℕ) (is : n ≡ min (length s) most_bytes) where
  front : length (take n s) ≡ n
  front = length-take-le n s (omega arith)

  entry : (k : ℕ) → k < most_bytes → row (take n s ++ drop n (replicate most_bytes 0)) k ≡ row s k
  entry k l =
      by_cases (dec_lt k n)
      (λ before. get_or-append (take n s) _ 0 k (rw front before) ∙ get_or-take n s k 0 before)
      (λ past.
      let zero : row (drop n (replicate most_bytes 0)) (k - n) ≡ 0 = get_or-drop n (replicate most_bytes 0) (k - n) 0 ∙ get_or-replicate most_bytes (n + (k - n)) 0 0 (omega arith) in
      let end : length s ≤ k = omega arith in
      rw (get_or-append_right (take n s) (drop n (replicate most_bytes 0)) k 0 (rw front (omega arith)), front, zero, get_or_past s k 0 end))

  pub copy_is : take n s ++ drop n (replicate most_bytes 0) ≡ copied s
  copy_is = is_tabulate _ most_bytes (row s) (rw (length-append, front, length-drop, length-replicate) (omega arith)) entry
