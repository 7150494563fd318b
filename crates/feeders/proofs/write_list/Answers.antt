-- Answers of `feeders::write_list`.
use mathlib.Core.Path.{refl}
use native.Mathlib.Omega.{arith}
use Rattle.columns.proofs.Parts.{written_none, written_more, written_all}
use Rattle.feeders.proofs.Fed.{entries_long}
use Rattle.feeders.proofs.write_list.Goals as goal

pub loop-i-init : goal.loop-i-init
loop-i-init c = written_none

pub loop-i-preserved : goal.loop-i-preserved
loop-i-preserved c =
    let a = c.args in
    rw c.write_row.ensures (written_more c.loop-i.invariant refl (entries_long a.network.near.now a.network.class.now c.loop-i.i))

pub returns : goal.returns
returns c = written_all c.loop-i.invariant _ (omega arith) c.requires.list_len
