-- Which refusals a merge gives, and what its answer tells.
-- Assumes nothing.
use mathlib.Core.Path.{◌≡◌, refl, ap, sym, ◌∙◌}
use mathlib.Core.Bool.{not}
use Prim.Native.Nat.{ℕ, ◌*◌, ◌≤◌, ◌<◌}
use native.Mathlib.Omega.{arith}
use lib.ListN.{length, take, drop}
use lib.Seq.{take_at, drop_at}
use lib.Dec.{eqb, leb}
use Rattle.columns.specs.Column.{Bytes, at_front}
use Rattle.places.specs.declared.Pos.{Pos}
use Rattle.world.specs.Rows.{rows}
use Rattle.refusals.specs.Check.{IsAccepted}
use Rattle.refusals.specs.Answers.{Gives, Tells}
use Rattle.refusals.proofs.Gives.{accepted_gives, or_gives, unless_gives, wider_gives, table_gives}
use Rattle.refusals.proofs.Tells.{tells, told_accepted}
use Rattle.moving.specs.Move.{on_ground}
use Rattle.unions.specs.Union.{rows_of, has_clash}
use Rattle.merge.specs.Merge.{moved_rows, merged_rows, merged_table, check_merge, of_merge, Merges}
use Rattle.merge.specs.Holds.{Holds}
use Rattle.merge.proofs.MergedTables.{few_merged, whole_merged, count_merged, merged_holds, merged_accepted}

pub merge_gives : (a b : Bytes) (by : Pos) (bytes : ℕ) → Gives of_merge (check_merge a b by bytes)
unfolding check_merge
merge_gives a b by bytes =
    or_gives _ (wider_gives refl (table_gives 14 a)) λ _.
    or_gives _ (wider_gives refl (table_gives 14 b)) λ _.
    unless_gives 7 refl (eqb bytes 32768) _ λ _.
    unless_gives 11 refl (on_ground by b) _ λ _.
    unless_gives 12 refl (not (has_clash (rows_of a) (moved_rows b by))) _ λ _.
    unless_gives 3 refl (leb (length (merged_rows a b by)) 1024) _ λ _. accepted_gives

-- ---- the answer: "the result's row count", at most 1,024, or 65,536 times the number plus the row

module _ (a b : Bytes) (by : Pos) (out : Bytes) {out' : Bytes} {r : ℕ} (m : Merges a b by out out' r) where
  pub merge_tells : Tells of_merge (check_merge a b by (length out)) r
      ((r ≡ rows (merged_table a b by)) × (r ≤ 1024) × (out' ≡ at_front (merged_table a b by) out))
      (out' ≡ out)
  unfolding merged_table
  merge_tells =
      tells refl (merge_gives a b by (length out)) (λ p. omega (arith, few_merged a b by (length out) p)) m.answer
      (λ p is. (is ∙ sym (count_merged a b by (length out) p), omega (arith, few_merged a b by (length out) p, is), rw p at m.bytes))
      (λ n i p. rw p at m.bytes)

  -- below 65,536 the output's front is the merged table, and "what lies past the result is untouched"
  pub merge_front : r < 65536 → (take (r * 32) out' ≡ merged_table a b by) × (drop (r * 32) out' ≡ drop (r * 32) out)
  merge_front l =
      let (count, _, bytes) = merge_tells.done l in
      let long : length (merged_table a b by) ≡ r * 32 = whole_merged a b by (length out) (told_accepted merge_tells l) ∙ ap (λ n. n * 32) (sym count) in
      let rest = drop (length (merged_table a b by)) out in (
        rw bytes (take_at (merged_table a b by) rest (r * 32) long),
        rw bytes (drop_at (merged_table a b by) rest (r * 32) long ∙ ap (λ n. drop n out) long),
      )

  -- so that what is written holds "Every input row, the second's moved", and "nothing else"
  pub merge_writes : r < 65536 → Holds a b by (take (r * 32) out')
  merge_writes l = rw (merge_front l).0 (merged_holds a b by (length out) (told_accepted merge_tells l))

  -- and is accepted by every profile under which both tables are
  pub merge_writes_accepted : r < 65536 → (p : Bytes) → IsAccepted p a → IsAccepted p b → IsAccepted p (take (r * 32) out')
  merge_writes_accepted l p g h = rw (merge_front l).0 (merged_accepted a b by (length out) (told_accepted merge_tells l) p g h)
