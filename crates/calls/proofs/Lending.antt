-- The buffers that are lent to a call: the front of a blank array, and how much of it a well-formed record asks for.
-- Assumes nothing.
use mathlib.Core.Path.{◌≡◌, ap, ◌∙◌}
use mathlib.Core.Bool.{true, ◌&&◌}
use Prim.Native.Nat.{ℕ, ◌≤◌}
use native.Mathlib.Omega.{arith}
use lib.ListN.{length, take, length-replicate}
use mathlib.Core.List.{◌++◌}
use lib.Seq.{length-take-le, take_at}
use lib.Dec.{leb}
use borrow.Author.Tests.{leb-true}
use Rattle.columns.specs.Column.{Bytes}
use Rattle.columns.proofs.Truth.{and_true}
use Rattle.world.specs.Rows.{rows}
use Rattle.records.specs.Record.{slice_of, number, has_parts, most_rows, most_bytes, is_small, well_formed}
use Rattle.records.proofs.Blank.{front_blank}
use Rattle.calls.specs.Calls.{blanks, most_ticks, well_formed_ticks}

-- ---- blank arrays

module _ {n m : ℕ} (l : n ≤ m) {array : Bytes} (blank : array ≡ blanks m) where
  -- the front of a blank array is blank
  pub lent_blank : {k : ℕ} → n ≡ k → take n array ≡ blanks k
  lent_blank is = rw blank (front_blank n m _ l ∙ ap blanks is)

  -- and what a call leaves in it stands at the array's front
  pub given_back : (last rest : Bytes) → length last ≡ length (take n array) → take n (last ++ rest) ≡ last
  given_back last rest kept = take_at last rest n (kept ∙ length-take-le n array (rw (blank, length-replicate) l))

-- ---- well-formed records

-- n is the number of rows of the record's table
pub record Small (r : Bytes) (n : ℕ) : Type 0 where
  pub is : n ≡ rows (slice_of r 1)
  pub few : n ≤ most_rows
  pub table : length (slice_of r 1) ≤ most_bytes

pub small : (r : Bytes) (slices rest : ℕ) {t : Bytes} {n : ℕ} → well_formed r slices rest ≡ true → t ≡ slice_of r 1 → n ≡ rows t → Small r n
small r slices rest h e is =
    let short : length (slice_of r 1) ≤ most_bytes = leb-true _ _ (and_true (has_parts r slices rest) (is_small (slice_of r 1)) h).1 in
    let there = rw e at is in
    record { is = there; few = omega arith; table = short }

module _ (r : Bytes) (h : well_formed_ticks r ≡ true) where
  parts : (well_formed r 7 12 ≡ true) × ((is_small (slice_of r 2) && leb (number r 7 4) most_ticks) ≡ true)
  parts = and_true (well_formed r 7 12) (is_small (slice_of r 2) && leb (number r 7 4) most_ticks) h

  pub ticks_form : well_formed r 7 12 ≡ true
  ticks_form = parts.0

  pub ticks_state : length (slice_of r 2) ≤ most_bytes
  ticks_state = leb-true _ _ (and_true (is_small (slice_of r 2)) (leb (number r 7 4) most_ticks) parts.1).0
