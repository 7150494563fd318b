-- Laws of a loop that lends each row's sixteen bytes of a state to be written.
-- Assumes nothing.
use mathlib.Core.Path.{◌≡◌, ap, ◌∙◌}
use Prim.Native.Nat.{ℕ, ◌+◌, ◌*◌, ◌-◌, ◌<◌}
use native.Mathlib.Nat.{add-zero}
use native.Mathlib.Omega.{arith}
use lib.ListN.{length, get_or}
use borrow.Rule.Slice.PartMut.{mid_of, put_mid}
use Rattle.columns.specs.Column.{Bytes, part}
use Rattle.columns.proofs.Parts.{length_part, part_at, Written, written_lent, written_more}

-- a row's end less its start
width : (i : ℕ) → i * 16 + 16 - i * 16 ≡ 16
width i = omega arith

-- the sixteen bytes of row i of a state that is read
pub lent_part : (s : Bytes) (i : ℕ) → mid_of (i * 16) (i * 16 + 16 - i * 16) s ≡ part 16 s i
lent_part s i = rw (width i)

-- the device byte of row i
pub device_at : (s : Bytes) (i : ℕ) → get_or (part 16 s i) 0 0 ≡ get_or s (i * 16) 0
device_at s i = part_at 16 s i 0 (omega arith) ∙ ap (λ k. get_or s k 0) (add-zero (i * 16))

-- after i rows of the state s row k is g k of what it was; the row that is lent then comes back as g i of what was lent, as long as it was: one row more
pub turns_more : (g : ℕ → Bytes → Bytes) {s now r : Bytes} {n i : ℕ} → Written 16 (λ k. g k (part 16 s k)) s i now → length now ≡ n * 16 → i < n
    → r ≡ g i (mid_of (i * 16) (i * 16 + 16 - i * 16) now) → length r ≡ length (mid_of (i * 16) (i * 16 + 16 - i * 16) now)
    → Written 16 (λ k. g k (part 16 s k)) s (i + 1) (put_mid (i * 16) (i * 16 + 16 - i * 16) now r)
turns_more g {now = now} {i = i} h sized l e k =
    let whole : length (mid_of (i * 16) (i * 16 + 16 - i * 16) now) ≡ 16 = rw (width i) (length_part 16 now i (omega arith)) in
    rw (width i) (written_more h (e ∙ ap (g i) (lent_part now i ∙ written_lent h)) (k ∙ whole))
