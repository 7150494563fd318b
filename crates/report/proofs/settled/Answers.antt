-- `report::settled` meets its contract: an accepted table has no more rows than the columns have room for. Assumes nothing.
use mathlib.Core.Path.{◌≡◌}
use Prim.Native.Nat.{ℕ}
use lib.ListN.{take}
use Rattle.columns.specs.Column.{Bytes}
use Rattle.world.specs.Rows.{rows}
use Rattle.refusals.specs.Check.{accepted, check_input}
use Rattle.refusals.proofs.Accepted.{accepted_input}
use Rattle.refusals.proofs.Tells.{accepted_told}
use Rattle.electrical.specs.Answer.{SettledTo}
use Rattle.electrical.proofs.Demand.{settled_to_at_most_15}
use Rattle.updates.specs.State.{fresh_devices}
use Rattle.running.proofs.Valid.{fresh_devices_valid}
use Rattle.initial.specs.declared.Initial.{Initial}
use Rattle.initial.specs.SettlesFresh.{SettlesFresh}
use Rattle.initial.proofs.Answers.{initial_tells}
use Rattle.report.specs.Text.{run_text}
use Rattle.report.proofs.settled.Goals as goal

-- the entries of the rows are what the table settles to
entries : (p t : Bytes) (r : Initial) (n : ℕ) → check_input p t ≡ accepted → SettlesFresh p t r → n ≡ rows t
    → SettledTo p t (fresh_devices t) (take n r.signal) (take n r.weak) (take n r.strong) r.answer
entries p t r n a s e = let told = initial_tells s in rw e (told.done (accepted_told told a))

pub invariant_of-columns : goal.invariant_of-columns
invariant_of-columns c = let t = c.args.table.now in
    let e = entries c.args.profile.now t c.settle-made.result c.rows-n.result c.requires.0 c.settle-made.ensures c.rows-n.ensures in
    record { at_most15 = settled_to_at_most_15 (fresh_devices_valid t (accepted_input c.args.profile.now t c.requires.0).1) e }

pub returns : goal.returns
unfolding run_text
returns c = let p = c.args.profile.now in
    let t = c.args.table.now in
    let e = entries p t c.settle-made.result c.rows-n.result c.requires.0 c.settle-made.ensures c.rows-n.ensures in
    rw (← e.rounds, ← e.signals, ← e.weaks, ← e.strongs) c.settled.ensures
