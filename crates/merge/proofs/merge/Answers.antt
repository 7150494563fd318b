-- `merge::merge` meets its contract, by what the checks answer: the moved copy is an accepted table. Assumes nothing.
use Rattle.std.proofs.Common.{◌≡◌, refl, ap, sym, ◌∙◌, ◌≤◌, length, arith}
use Rattle.columns.specs.Column.{Bytes}
use Rattle.places.specs.declared.Pos.{Pos}
use Rattle.columns.proofs.Columns.{length_zeros}
use Rattle.refusals.specs.Check.{accepted}
use Rattle.refusals.proofs.Accepted.{accepted_table}
use Rattle.moving.specs.Move.{moved_table}
use Rattle.moving.proofs.Moved.{moved-table}
use Rattle.merge.specs.Parts.{check_given}
use Rattle.merge.specs.Merge.{merged_rows}
use Rattle.merge.proofs.Checks.{given, refused_given, passed_given}
use Rattle.merge.proofs.Moved.{rows_of_moved}
use Rattle.merge.proofs.merge.Goals as goal

-- where nothing of what is given is refused, the second has at most 1,024 rows
few : (a b : Bytes) (by : Pos) (out : Bytes) → check_given a b by (length out) ≡ accepted → length b ≤ 32768
few a b by out accepted =
    let t = accepted_table 14 b (given a b by (length out) accepted).second in
    omega (arith, t.whole, t.few)

pub returns-in-Err : goal.returns-in-Err
returns-in-Err c = let told = c.in-Err.is in
    let a = c.args in
    let refused = refused_given a.first.now a.second.now a.by (length a.out.now) (sym c.check_given.ensures ∙ told) in
    record { answer = rw refused c.answer.ensures; bytes = rw refused refl }

pub slice_bounds-room-end : goal.slice_bounds-room-end
slice_bounds-room-end c = few c.args.first.now c.args.second.now c.args.by c.args.out.now (sym c.check_given.ensures ∙ c.in_default.is)

pub slice_bounds-moved-end : goal.slice_bounds-moved-end
slice_bounds-moved-end c = sym (length_zeros _ 32768 (few c.args.first.now c.args.second.now c.args.by c.args.out.now (sym c.check_given.ensures ∙ c.in_default.is)))

pub copy_from_slice-requires : goal.copy_from_slice-requires
copy_from_slice-requires c = length_zeros _ 32768 (few c.args.first.now c.args.second.now c.args.by c.args.out.now (sym c.check_given.ensures ∙ c.in_default.is))

pub move_rows-requires : goal.move_rows-requires
move_rows-requires c =
    let a = c.args in
    let g = given a.first.now a.second.now a.by (length a.out.now) (sym c.check_given.ensures ∙ c.in_default.is) in
    rw c.copy_from_slice.ensures.after ((accepted_table 14 _ g.second).whole, g.ground)

pub merge_moved-requires : goal.merge_moved-requires
merge_moved-requires c =
    let a = c.args in
    let g = given a.first.now a.second.now a.by (length a.out.now) (sym c.check_given.ensures ∙ c.in_default.is) in
    let second = accepted_table 14 a.second.now g.second in
    let is = c.move_rows.ensures ∙ ap (moved_table a.by) c.copy_from_slice.ensures.after in
    (accepted_table 14 _ g.first, rw is (moved-table a.by a.second.now second g.ground), g.size)

pub returns : goal.returns
unfolding merged_rows
returns c =
    let a = c.args in
    let accepted = sym c.check_given.ensures ∙ c.in_default.is in
    let g = given a.first.now a.second.now a.by (length a.out.now) accepted in
    let second = accepted_table 14 a.second.now g.second in
    let is = c.move_rows.ensures ∙ ap (moved_table a.by) c.copy_from_slice.ensures.after in
    let check = passed_given a.first.now a.second.now a.by (length a.out.now) accepted in
    let whole = rw (is, rows_of_moved a.by a.second.now second.whole) at c.merge_moved.ensures in
    record { answer = rw check whole.answer; bytes = rw check whole.bytes }
