-- `initial::settle` meets its contract. Assumes nothing.
use mathlib.Core.Path.{sym, ap, ◌∙◌}
use Prim.Native.Nat.{ℕ, ◌*◌, ◌≤◌}
use native.Mathlib.Omega.{arith}
use Rattle.columns.proofs.Columns.{length_zeros}
use Rattle.refusals.specs.Check.{check_input}
use Rattle.electrical.specs.Answer.{settled}
use Rattle.updates.specs.State.{fresh_devices}
use Rattle.initial.proofs.Lending.{given_back, fresh_check}
use Rattle.initial.proofs.settle.Goals as goal

pub slice_bounds-fresh-end : goal.slice_bounds-fresh-end
slice_bounds-fresh-end c = sym (length_zeros _ 16384 (omega arith))

pub slice_bounds-fresh-end-2 : goal.slice_bounds-fresh-end-2
slice_bounds-fresh-end-2 c = sym (length_zeros _ 1024 (omega arith))

pub slice_bounds-fresh-end-3 : goal.slice_bounds-fresh-end-3
slice_bounds-fresh-end-3 c = sym (length_zeros _ 1024 (omega arith))

pub slice_bounds-fresh-end-4 : goal.slice_bounds-fresh-end-4
slice_bounds-fresh-end-4 c = sym (length_zeros _ 1024 (omega arith))

pub returns : goal.returns
returns c =
    let a = c.args in
    let n = c.rows-n.result in
    let few : n ≤ 1024 = omega arith in
    let size = length_zeros n 1024 few in
    let column = size ∙ c.rows-n.ensures in
    let whole = fresh_check a.profile.now a.table.now _ _ _ _ (length_zeros (n * 16) 16384 (omega arith) ∙ ap (λ (k : ℕ). k * 16) c.rows-n.ensures) column column column in
    let check = check_input a.profile.now a.table.now in
    let s = settled a.profile.now a.table.now (fresh_devices a.table.now) in
    let columns = c.fresh-answer.ensures.columns in
    let last = c.fresh-answer.new in
    let kept = c.fresh-answer.auto in
    record {
      answer = rw whole at c.fresh-answer.ensures.answer;
      signals = given_back n check s.signal last.signal (kept.signal ∙ size) (rw whole at columns.signals);
      weaks = given_back n check s.weak last.weak (kept.weak ∙ size) (rw whole at columns.weaks);
      strongs = given_back n check s.strong last.strong (kept.strong ∙ size) (rw whole at columns.strongs);
    }
