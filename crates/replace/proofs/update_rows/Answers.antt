-- Answers of `replace::update_rows`.
use mathlib.Core.Path.{refl, sym, ◌∙◌}
use Prim.Native.Nat.{◌*◌}
use native.Mathlib.Omega.{arith}
use borrow.Rule.Slice.PartMut.{same_len_mid}
use Rattle.columns.proofs.Parts.{length_part, written_none, written_more, written_skip, written_all}
use Rattle.feeding.specs.Around.{entries_in, updated_in}
use Rattle.feeders.proofs.Fed.{entries_long}
use Rattle.replace.proofs.update_rows.Goals as goal
use Rattle.replace.proofs.update_rows.Goals.{then-is_renewed, else-is_renewed}

pub loop-i-init : goal.loop-i-init
loop-i-init c = (omega arith, refl, written_none)

pub loop-i-preserved : goal.loop-i-preserved
unfolding updated_in
loop-i-preserved c = let l = c in
    let a = l.args in
    let entries = entries_in a.network.near.now a.network.class.now l.loop-i.i in
    let twelve = entries_long a.network.near.now a.network.class.now l.loop-i.i in
    let list_long = l.requires.1 in
    let lent = length_part 12 l.loop-i.list l.loop-i.i (omega (arith, l.loop-i.invariant.1)) in
    let renewed = c.is_renewed.ensures in
    elim c.if-is_renewed.branch [
      | then-is_renewed w ↦
          rw (w.list-is ∙ w.write_row.ensures) (
            omega arith,
            same_len_mid (l.loop-i.i * 12) 12 l.loop-i.list entries (twelve ∙ sym lent) ∙ l.loop-i.invariant.1,
            written_more l.loop-i.invariant.2 {r = entries} (rw (← renewed, w.if-is_renewed.true)) twelve,
          )
      | else-is_renewed w ↦
          rw w.list-is
          (omega arith, l.loop-i.invariant.1, written_skip l.loop-i.invariant.2 (rw (← renewed, w.if-is_renewed.false)) (omega arith))
    ]

pub shape_of-list : goal.shape_of-list
shape_of-list c = c.loop-i.invariant.1

pub returns : goal.returns
returns c = let l = c in
    written_all l.loop-i.invariant.2 _ (omega (arith, l.loop-i.invariant.0)) l.requires.1
