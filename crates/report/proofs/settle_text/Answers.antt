-- `report::settle_text` meets its contract. Assumes nothing.
use native.Mathlib.Omega.{arith}
use lib.ListN.{length}
use borrow.Author.Tests.{lt-leb, le-leb}
use Rattle.report.specs.Text.{reported}
use Rattle.text.proofs.Putting.{puts_front, puts_length}
use Rattle.report.proofs.settle_text.Goals as goal

pub returns-then-out-lt-ROOM : goal.returns-then-out-lt-ROOM
unfolding reported
returns-then-out-lt-ROOM c = let out = c.args.out.now in
    let none = lt-leb 65536 (length out) c.if-out-lt-ROOM.true in
    record { answer = rw none; text = rw none; within = omega arith }

pub returns : goal.returns
unfolding reported
returns c = let out = c.args.out.now in
    let roomy = le-leb 65536 (length out) c.if-out-lt-ROOM.false in
    let put = c.whole.ensures in
    let (answer, text) = puts_front put in
    record { answer = rw roomy answer; text = rw roomy text; within = omega (arith, put.within, puts_length put) }
