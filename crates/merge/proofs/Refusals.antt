-- Document 02, Change 6: where a merge is refused, with which number, and that it is refused nowhere else.
-- Assumes nothing.
use mathlib.Core.Path.{◌≡◌, refl, sym, ◌∙◌}
use mathlib.Core.Bool.{Bool, true, false, not}
use Prim.Native.Nat.{ℕ, ◌≤◌, ◌<◌}
use native.Mathlib.Omega.{arith}
use lib.ListN.{length}
use lib.Dec.{leb}
use borrow.Author.Tests.{ne_eqb, eq-eqb, le-leb, lt-leb}
use Rattle.columns.specs.Column.{Bytes}
use Rattle.columns.proofs.Truth.{refuted}
use Rattle.places.specs.declared.Pos.{Pos}
use Rattle.refusals.proofs.Passed.{same_number}
use Rattle.refusals.specs.Check.{accepted, refused, refuse_unless, check_table}
use Rattle.moving.specs.Move.{on_ground}
use Rattle.unions.specs.Union.{rows_of, has_clash}
use Rattle.unions.proofs.Members.{Clashing, some_clash, clash_some}
use Rattle.unions.proofs.Tables.{has_member, member_has}
use Rattle.merge.specs.Merge.{moved_rows, merged_rows, check_merge}
use Rattle.merge.specs.Holds.{Differ}
use Rattle.merge.proofs.Checks.{Given}
use Rattle.merge.proofs.MergedTables.{member_moved, moved_member}

module _ (a b : Bytes) (by : Pos) (bytes : ℕ) where
  -- "The first table's checks come before the second's, rows counted in the table at fault"
  pub first_refused : {n i : ℕ} → check_table 14 a ≡ refused n i → check_merge a b by bytes ≡ refused n i
  unfolding check_merge
  first_refused h = rw h refl

  module _ (first : check_table 14 a ≡ accepted) where
    pub second_refused : {n i : ℕ} → check_table 14 b ≡ refused n i → check_merge a b by bytes ≡ refused n i
    unfolding check_merge
    second_refused h = rw (first, h) refl

    module _ (second : check_table 14 b ≡ accepted) where
      -- "The lent output has 32,768 bytes, else number 7"
      pub size_refused : ¬ (bytes ≡ 32768) → check_merge a b by bytes ≡ refused 7 0
      unfolding check_merge
      size_refused n = rw (first, second, ne_eqb bytes 32768 n) refl

      -- "11, off ground"
      pub off_ground_refused : bytes ≡ 32768 → on_ground by b ≡ false → check_merge a b by bytes ≡ refused 11 0
      unfolding check_merge
      off_ground_refused e h = rw (first, second, eq-eqb bytes 32768 e, h) refl

  -- ---- once these are passed

  module _ (g : Given a b by bytes) where
    last_tests : check_merge a b by bytes ≡ refuse_unless 12 (not (has_clash (rows_of a) (moved_rows b by))) (refuse_unless 3 (leb (length (merged_rows a b by)) 1024) accepted)
    unfolding check_merge
    last_tests = rw (g.first, g.second, eq-eqb bytes 32768 g.size, g.ground) refl

    clashing : Differ a b by → Clashing (rows_of a) (moved_rows b by)
    clashing d =
        record {
          one = d.one;
          other = d.other;
          in_first = has_member a d.one d.has;
          in_second = moved_member a b by bytes g d.other d.has_moved;
          shared = d.shared;
          differ = d.differ;
        }

    differing : Clashing (rows_of a) (moved_rows b by) → Differ a b by
    differing c =
        record {
          one = c.one;
          other = c.other;
          has = member_has a c.one c.in_first;
          has_moved = member_moved a b by bytes g c.other c.in_second;
          shared = c.shared;
          differ = c.differ;
        }

    pub none_differs : ¬ (Differ a b by) → has_clash (rows_of a) (moved_rows b by) ≡ false
    none_differs n = refuted (has_clash (rows_of a) (moved_rows b by)) (λ e. n (differing (some_clash (rows_of a) (moved_rows b by) e)))

    -- "12, clash, if a shared position differs",
    pub clash_refused : Differ a b by → check_merge a b by bytes ≡ refused 12 0
    clash_refused d = last_tests ∙ rw (clash_some (rows_of a) (moved_rows b by) (clashing d)) refl

    -- and only then
    pub refused_clash : check_merge a b by bytes ≡ refused 12 0 → Differ a b by
    refused_clash h = go (has_clash (rows_of a) (moved_rows b by)) refl (leb (length (merged_rows a b by)) 1024) (sym last_tests ∙ h)
      where
        go : (x : Bool) → has_clash (rows_of a) (moved_rows b by) ≡ x → (y : Bool) → refuse_unless 12 (not x) (refuse_unless 3 y accepted) ≡ refused 12 0 → Differ a b by
        go true e y f = differing (some_clash (rows_of a) (moved_rows b by) e)
        go false e true f = let z : ◌≡◌ {A = ℕ} 0 1 = cc in absurd (omega arith)
        go false e false f = let z : ◌≡◌ {A = ℕ} 3 12 = same_number f in absurd (omega arith)

    -- "then 3", where they have more than 1,024 rows together
    pub crowded_refused : ¬ (Differ a b by) → 1024 < length (merged_rows a b by) → check_merge a b by bytes ≡ refused 3 0
    crowded_refused n l = last_tests ∙ rw (none_differs n, lt-leb (length (merged_rows a b by)) 1024 l) refl

    -- and nothing else is refused
    pub merge_passes : ¬ (Differ a b by) → length (merged_rows a b by) ≤ 1024 → check_merge a b by bytes ≡ accepted
    merge_passes n l = last_tests ∙ rw (none_differs n, le-leb (length (merged_rows a b by)) 1024 l) refl
