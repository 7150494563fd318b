-- Answers of `moving::move_rows`.
use mathlib.Core.Path.{◌≡◌, refl, ap, ◌∙◌}
use Prim.Native.Nat.{◌*◌, ◌+◌, ◌-◌, ◌<◌}
use native.Mathlib.Omega.{arith}
use lib.ListN.{length}
use borrow.Author.Rules.{rules}
use Rattle.columns.specs.Column.{part}
use Rattle.columns.proofs.Parts.{length_part, written_none, written_lent, written_more, written_all}
use Rattle.world.specs.Rows.{rows}
use Rattle.moving.specs.Move.{moved_table}
use Rattle.layout.proofs.Fields.{part_place}
use Rattle.moving.proofs.Moved.{length_row, stays}
use Rattle.moving.proofs.move_rows.Goals as goal

pub loop-i-init : goal.loop-i-init
loop-i-init c = (refl, written_none)

pub move_row-requires : goal.move_row-requires
move_row-requires c = let l = c in
    let s = l in
    let i = l.loop-i.i in
    let t = s.args.table.now in
    let e : i * 32 + 32 - i * 32 ≡ 32 = omega arith in
    let inside : i < rows t = omega (arith, l.rows-i-end.ensures) in
    rw (e, written_lent l.loop-i.invariant.1) (length_part 32 t i (omega arith), rw (part_place t i) (stays s.args.by t s.requires.1 i inside))

pub loop-i-preserved : goal.loop-i-preserved
loop-i-preserved c = let l = c in
    let s = l in
    let i = l.loop-i.i in
    let t = s.args.table.now in
    let w = l.loop-i.invariant.1 in
    let e : i * 32 + 32 - i * 32 ≡ 32 = omega arith in
    let row = rw (e, written_lent w) at c.move_row.ensures in
    let moved = written_more w row (ap length row ∙ length_row s.args.by (part 32 t i) (length_part 32 t i (omega arith))) in
    (search rules, rw e moved)

pub shape_of-table : goal.shape_of-table
shape_of-table c = c.loop-i.invariant.0

pub returns : goal.returns
unfolding moved_table
returns c = let s = c in
    written_all c.loop-i.invariant.1 _ (omega (arith, c.rows-i-end.ensures)) s.requires.0
