-- Laws of the loop that lends the column of each place to be written.
-- Assumes nothing.
use mathlib.Core.Path.{◌≡◌, sym, ◌∙◌}
use Prim.Native.Nat.{ℕ, ◌+◌, ◌*◌, ◌-◌, ◌≤◌, ◌<◌}
use native.Mathlib.Nat.{suc-mul, mul-le-mul_right}
use native.Mathlib.Omega.{arith}
use lib.ListN.{length}
use borrow.Rule.Slice.PartMut.{mid_of, put_mid, same_len_mid}
use Rattle.columns.specs.Column.{Bytes, Column}
use Rattle.columns.proofs.Parts.{length_part, Written, written_none, written_more, written_all}
use Rattle.world.specs.Rows.{rows}
use Rattle.classes.specs.Towards.{places}
use Rattle.adjacency.specs.Adjacency.{near_of}
use Rattle.adjacency.specs.Search.{column_by}
use Rattle.adjacency.proofs.Beside.{column_long}

-- the columns of the first k places of the table's n rows are written
pub record Placing (t : Bytes) (old : Column) (n k : ℕ) (now : Column) : Type 0 where
  pub all : n ≡ rows t
  pub within : k ≤ places
  pub old_long : length old ≡ places * n
  pub long : length now ≡ places * n
  pub written : Written n (column_by t) old k now

pub placing_none : {t : Bytes} {old : Column} {n : ℕ} → n ≡ rows t → length old ≡ places * rows t → Placing t old n 0 old
placing_none {t} {old} {n} e h =
    let l : length old ≡ places * n = rw e h in
    record { all = e; within = omega arith; old_long = l; long = l; written = written_none }

width : (k n : ℕ) → k * n + n - k * n ≡ n
width k n = omega arith

module _ {t : Bytes} {old : Column} {n k : ℕ} {now : Column} (h : Placing t old n k now) (l : k < places) where
  -- the column that is lent is within
  pub placing_fits : k * n + n ≤ length now
  placing_fits = rw h.long (omega (arith, suc-mul k n, mul-le-mul_right n l))

  pub placing_room : length (mid_of (k * n) (k * n + n - k * n) now) ≡ rows t
  placing_room = rw (width k n) (length_part n now k placing_fits ∙ h.all)

  -- and it comes back as that of its place
  pub placing_more : {r : Column} → r ≡ column_by t k → Placing t old n (k + 1) (put_mid (k * n) (k * n + n - k * n) now r)
  placing_more {r} e =
      let r-long : length r ≡ n = rw e (column_long t k ∙ sym h.all) in
      record {
        all = h.all;
        within = omega arith;
        old_long = h.old_long;
        long = same_len_mid (k * n) (k * n + n - k * n) now r (r-long ∙ h.all ∙ sym placing_room) ∙ h.long;
        written = rw (width k n) (written_more h.written e r-long);
      }

pub placing_all : {t : Bytes} {old : Column} {n k : ℕ} {now : Column} → Placing t old n k now → places ≤ k → now ≡ near_of t
unfolding near_of
placing_all h l = written_all h.written places (omega (arith, h.within)) h.old_long
