-- Document 02, Change 6, of two tables that are merged: what the result holds, and that it is accepted where both are.
-- Assumes nothing.
use mathlib.Core.Path.{◌≡◌}
use mathlib.Core.Logic.{◌⊎◌, inl, inr, ⊎_elim}
use mathlib.Core.Bool.{false, not}
use mathlib.Core.List.{Memᴰ}
use Prim.Native.Nat.{ℕ, ◌*◌, ◌≤◌, ◌<◌}
use lib.ListN.{length}
use lib.Dec.{leb}
use borrow.Author.Tests.{leb-true, not-true}
use Rattle.columns.specs.Column.{Bytes}
use Rattle.places.specs.declared.Pos.{Pos}
use Rattle.world.specs.Rows.{rows, pos_of}
use Rattle.refusals.specs.Accepted.{Table}
use Rattle.refusals.specs.Check.{accepted, check_table, IsAccepted}
use Rattle.refusals.proofs.Passed.{passed_unless}
use Rattle.refusals.proofs.Accepted.{OfKinds, different, accepted_table, accepted_of_kinds, accepted_input, accepted_kinds, table_accepted, input_accepted}
use Rattle.moving.specs.Move.{moved_table}
use Rattle.moving.proofs.Moved.{moved-table, moved_kinds}
use Rattle.unions.specs.Union.{rows_of, HasRow, union_rows, has_clash}
use Rattle.unions.proofs.Rising.{Rising, rising_union}
use Rattle.unions.proofs.Rows.{rising_rows}
use Rattle.unions.proofs.Members.{shared_same, union_has_first, union_has_second, union_only}
use Rattle.unions.proofs.Tables.{Of32, has_member, member_has, rows_of_32, rows_joined, whole_joined, rows_of_joined, table_rows, rows_table}
use Rattle.merge.specs.Merge.{moved_rows, merged_rows, merged_table, check_merge}
use Rattle.merge.specs.Holds.{HasMoved, Holds}
use Rattle.merge.specs.Parts.{check_union}
use Rattle.merge.proofs.Checks.{Given, given, both_passed}
use Rattle.merge.proofs.Moved.{rows_of_moved, moved_has, has_moved}

-- ---- rows of both at one position

-- of accepted tables, of which the second may be moved
module _ (a b : Bytes) (by : Pos) (bytes : ℕ) (g : Given a b by bytes) where
  first-table : Table a
  first-table = accepted_table 14 a g.first

  second_table : Table b
  second_table = accepted_table 14 b g.second

  moved_second : Table (moved_table by b)
  moved_second = moved-table by b second_table g.ground

  pub rising_first : Rising (rows_of a)
  rising_first = rising_rows a first-table

  pub rising_second : Rising (moved_rows b by)
  rising_second = rw (← rows_of_moved by b second_table.whole) (rising_rows (moved_table by b) moved_second)

  -- r is one of the moved rows just where the second has it, moved
  pub member_moved : (r : Bytes) → Memᴰ r (moved_rows b by) → HasMoved by b r
  member_moved r m =
      has_moved by b second_table.whole r (member_has (moved_table by b) r (rw (rows_of_moved by b second_table.whole) m))

  pub moved_member : (r : Bytes) → HasMoved by b r → Memᴰ r (moved_rows b by)
  moved_member r h =
      rw (rows_of_moved by b second_table.whole) at (has_member (moved_table by b) r (moved_has by b second_table.whole r h))

-- ---- tables that are merged

module _ (a b : Bytes) (by : Pos) (bytes : ℕ) (passed : check_merge a b by bytes ≡ accepted) where
  tested : Given a b by bytes
  tested = given a b by bytes (both_passed a b by bytes passed).0

  first : Table a
  first = first-table a b by bytes tested

  second : Table b
  second = second_table a b by bytes tested

  moved : Table (moved_table by b)
  moved = moved_second a b by bytes tested

  tests : (has_clash (rows_of a) (moved_rows b by) ≡ false) × (length (merged_rows a b by) ≤ 1024)
  unfolding check_union merged_rows
  tests =
      let (none, next) = passed_unless 12 (not (has_clash (rows_of a) (moved_rows b by))) _ (both_passed a b by bytes passed).1 in
      let (few, _) = passed_unless 3 (leb (length (union_rows (rows_of a) (moved_rows b by))) 1024) _ next in
      (not-true _ none, leb-true _ 1024 few)

  -- ---- its rows

  -- r is one of them just where the first has it or, moved, the second
  merged_member : (r : Bytes) → Memᴰ r (merged_rows a b by) → HasRow a r ⊎ HasMoved by b r
  unfolding merged_rows
  merged_member r m =
      ⊎_elim (λ n. inl (member_has a r n)) (λ n. inr (member_moved a b by bytes tested r n)) (union_only r (rows_of a) (moved_rows b by) m)

  member_first : (r : Bytes) → HasRow a r → Memᴰ r (merged_rows a b by)
  unfolding merged_rows
  member_first r h = union_has_first r (rows_of a) (moved_rows b by) (has_member a r h)

  member_second : (r : Bytes) → HasMoved by b r → Memᴰ r (merged_rows a b by)
  unfolding merged_rows
  member_second r h =
      union_has_second (rows_of a) r (moved_rows b by) (rising_second a b by bytes tested)
      (λ x y. shared_same x y (rows_of a) (moved_rows b by) tests.0)
      (moved_member a b by bytes tested r h)

  of_32 : Of32 (merged_rows a b by)
  of_32 r m =
      ⊎_elim (λ h. rows_of_32 a first.whole r (has_member a r h))
      (λ h. rows_of_32 (moved_table by b) moved.whole r (has_member (moved_table by b) r (moved_has by b second.whole r h)))
      (merged_member r m)

  -- the rows of the result are these, in order
  pub rows_merged : rows_of (merged_table a b by) ≡ merged_rows a b by
  unfolding merged_table
  rows_merged = rows_of_joined (merged_rows a b by) of_32

  -- "the answer is the result's row count"
  pub count_merged : rows (merged_table a b by) ≡ length (merged_rows a b by)
  unfolding merged_table
  count_merged = rows_joined (merged_rows a b by) of_32

  -- at most 1,024
  pub few_merged : length (merged_rows a b by) ≤ 1024
  few_merged = tests.1

  in_order : Rising (rows_of (merged_table a b by))
  unfolding merged_rows
  in_order = rw rows_merged (rising_union (rows_of a) (moved_rows b by) (rising_first a b by bytes tested))

  -- ---- "Every input row, the second's moved, is in the result and nothing else is."

  has_merged : (r : Bytes) → Memᴰ r (merged_rows a b by) → HasRow (merged_table a b by) r
  has_merged r m = member_has (merged_table a b by) r (rw rows_merged m)

  merged_has : (r : Bytes) → HasRow (merged_table a b by) r → Memᴰ r (merged_rows a b by)
  merged_has r h = rw rows_merged at (has_member (merged_table a b by) r h)

  pub merged_holds : Holds a b by (merged_table a b by)
  merged_holds =
      record {
        first = λ r h. has_merged r (member_first r h);
        second = λ r h. has_merged r (member_second r h);
        only = λ r h. merged_member r (merged_has r h);
      }

  -- ---- the result is accepted

  pub whole_merged : length (merged_table a b by) ≡ rows (merged_table a b by) * 32
  unfolding merged_table
  whole_merged = whole_joined (merged_rows a b by) of_32

  merged-table : (kinds : ℕ) → OfKinds kinds a → OfKinds kinds b → Table (merged_table a b by) × OfKinds kinds (merged_table a b by)
  merged-table kinds k l =
      rows_table (merged_table a b by) kinds whole_merged (rw count_merged few_merged) in_order
      (λ r h.
      ⊎_elim (table_rows a kinds first k r)
      (λ m. table_rows (moved_table by b) kinds moved (moved_kinds by b second.whole kinds l) r (moved_has by b second.whole r m))
      (merged_member r (merged_has r h)))

  -- so that it may be merged again
  pub merged_again : check_table 14 (merged_table a b by) ≡ accepted
  merged_again =
      let (t, k) = merged-table 14 (accepted_of_kinds 14 a tested.first) (accepted_of_kinds 14 b tested.second) in
      table_accepted 14 (merged_table a b by) t k

  -- "is written once": no two of its rows stand at one position
  pub merged_once : (i j : ℕ) → i < rows (merged_table a b by) → j < rows (merged_table a b by) → pos_of (merged_table a b by) i ≡ pos_of (merged_table a b by) j → i ≡ j
  merged_once = different (merged_table a b by) (accepted_table 14 (merged_table a b by) merged_again)

  -- by every profile under which both tables are
  pub merged_accepted : (p : Bytes) → IsAccepted p a → IsAccepted p b → IsAccepted p (merged_table a b by)
  merged_accepted p g h =
      let (t, k) = merged-table (length p) (accepted_kinds p a g) (accepted_kinds p b h) in
      input_accepted p (merged_table a b by) (accepted_input p a g).0 t k
