-- Document 02, Change 6: no accepted table but the merged one holds the first and the moved second and nothing else; and once 2 to 11 are passed, 12 and
-- 3 fall only where there is no such table.
-- Assumes nothing.
use mathlib.Core.Path.{◌≡◌, ap, sym, ◌∙◌}
use mathlib.Core.Logic.{⊎_elim}
use mathlib.Core.List.{Memᴰ}
use Prim.Native.Nat.{ℕ}
use Rattle.columns.specs.Column.{Bytes}
use Rattle.places.specs.declared.Pos.{Pos}
use Rattle.refusals.specs.Check.{accepted}
use Rattle.refusals.specs.Accepted.{Table}
use Rattle.unions.specs.Union.{rows_of, joined, union_rows}
use Rattle.unions.proofs.Rising.{rising_union}
use Rattle.unions.proofs.Rows.{rising_rows}
use Rattle.unions.proofs.Members.{shared_same, union_has_first, union_has_second, union_only, rising_unique}
use Rattle.unions.proofs.Tables.{has_member, member_has, length_rows, same_at, joined_rows_of}
use Rattle.merge.specs.Merge.{moved_rows, merged_rows, merged_table, check_merge}
use Rattle.merge.specs.Holds.{Holds, Differ}
use Rattle.merge.proofs.Checks.{Given}
use Rattle.merge.proofs.MergedTables.{rising_first, rising_second, member_moved, moved_member}
use Rattle.merge.proofs.Refusals.{none_differs, merge_passes}

module _ (a b : Bytes) (by : Pos) (bytes : ℕ) (g : Given a b by bytes) (t : Bytes) (table : Table t) (h : Holds a b by t) where
  none : ¬ (Differ a b by)
  none d = d.differ (same_at t table d.one d.other (h.first d.one d.has) (h.second d.other d.has_moved) d.shared)

  held : (r : Bytes) → Memᴰ r (union_rows (rows_of a) (moved_rows b by)) → Memᴰ r (rows_of t)
  held r m =
      has_member t r
      (⊎_elim (λ n. h.first r (member_has a r n)) (λ n. h.second r (member_moved a b by bytes g r n)) (union_only r (rows_of a) (moved_rows b by) m))

  holds : (r : Bytes) → Memᴰ r (rows_of t) → Memᴰ r (union_rows (rows_of a) (moved_rows b by))
  holds r m =
      ⊎_elim (λ x. union_has_first r (rows_of a) (moved_rows b by) (has_member a r x))
      (λ x.
      union_has_second (rows_of a) r (moved_rows b by) (rising_second a b by bytes g)
      (λ y z. shared_same y z (rows_of a) (moved_rows b by) (none_differs a b by bytes g none))
      (moved_member a b by bytes g r x))
      (h.only r (member_has t r m))

  its_rows : merged_rows a b by ≡ rows_of t
  unfolding merged_rows
  its_rows =
      rising_unique (union_rows (rows_of a) (moved_rows b by)) (rows_of t)
      (rising_union (rows_of a) (moved_rows b by) (rising_first a b by bytes g)) (rising_rows t table) held holds

  -- it is the merged table
  pub only_merged : t ≡ merged_table a b by
  unfolding merged_table
  only_merged = sym (joined_rows_of t table.whole) ∙ ap joined (sym its_rows)

  -- and neither 12 nor 3 falls
  pub held_merged : check_merge a b by bytes ≡ accepted
  held_merged = merge_passes a b by bytes g none (rw (its_rows, length_rows t) table.few)
