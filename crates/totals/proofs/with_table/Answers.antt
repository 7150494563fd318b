-- `totals::with_table` meets its contract. Assumes nothing.
use mathlib.Core.Path.{sym, ap, ◌∙◌}
use Prim.Native.Nat.{ℕ, ◌<◌}
use lib.ListN.{take}
use lib.Seq.{length-take-le}
use Rattle.columns.specs.Column.{Bytes}
use Rattle.world.specs.Rows.{rows}
use Rattle.refusals.proofs.Tells.{told_accepted, told_refused}
use Rattle.electrical.specs.Answer.{SettledTo}
use Rattle.electrical.proofs.Demand.{settled_capped, settled_sized}
use Rattle.updates.specs.State.{fresh_devices}
use Rattle.initial.specs.declared.Initial.{Initial}
use Rattle.initial.specs.SettlesFresh.{SettlesFresh}
use Rattle.initial.proofs.Answers.{initial_tells, initial_sized}
use Rattle.figures.proofs.Sums.{added_refused}
use Rattle.totals.proofs.Reading.{with-settled}
use Rattle.totals.proofs.with_table.Goals as goal

pub returns-then-answer-ge65536 : goal.returns-then-answer-ge65536
returns-then-answer-ge65536 c =
    let a = c.args in
    let sized = c.requires.0.sized in
    let refused = told_refused (initial_tells c.settle-settled.ensures) c.if-answer-ge65536.true in
    c.with_refused.ensures ∙ sym (added_refused a.profile.now a.figures a.table.now refused sized.0 sized.1)

pub slice_bounds-signal-end : goal.slice_bounds-signal-end
slice_bounds-signal-end c = rw (initial_sized c.settle-settled.ensures c.requires.1).0 (rw c.rows-n.ensures c.requires.1)

-- what it settled to
done : {p t : Bytes} {r : Initial} → SettlesFresh p t r → r.answer < 65536
    → SettledTo p t (fresh_devices t) (take (rows t) r.signal) (take (rows t) r.weak) (take (rows t) r.strong) r.answer
done s h = (initial_tells s).done h

pub slice_bounds-with_settled-end : goal.slice_bounds-with_settled-end
slice_bounds-with_settled-end c = sym (length-take-le c.rows-n.result c.settle-settled.result.signal (rw (initial_sized c.settle-settled.ensures c.requires.1).0 (rw c.rows-n.ensures c.requires.1)))

pub with_settled-requires : goal.with_settled-requires
with_settled-requires c =
    let a = c.args in
    let s = done c.settle-settled.ensures c.if-answer-ge65536.false in
    record {
      room = c.requires.0;
      le_rounds = s.range;
      capped =
          record {
            few = c.requires.1;
            sized = rw (c.rows-n.ensures, s.signals) (settled_sized a.profile.now a.table.now (fresh_devices a.table.now)).signal;
            level = λ i l d. rw (c.rows-n.ensures, s.signals) (settled_capped a.profile.now a.table.now (fresh_devices a.table.now) i l d);
          };
    }

pub returns : goal.returns
returns c =
    let accepted = told_accepted (initial_tells c.settle-settled.ensures) c.if-answer-ge65536.false in
    let signal = ap (λ (n : ℕ). take n c.settle-settled.result.signal) c.rows-n.ensures ∙ (done c.settle-settled.ensures c.if-answer-ge65536.false).signals in
    let a = c.args in
    with-settled a.profile.now a.figures a.table.now accepted (done c.settle-settled.ensures c.if-answer-ge65536.false).rounds signal c.with_settled.ensures
