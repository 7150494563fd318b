-- `solver::settle` meets its contract, by what its checks say. Assumes nothing.
use Rattle.solver.proofs.Answering.{passed_call, passes, answers_solved, answers_refused}
use Rattle.solver.proofs.settle.Goals as goal

pub returns-in-Err : goal.returns-in-Err
returns-in-Err g c = let a = c.args in
    answers_refused a.profile.now a.table.now a.devices.now a.signal.now a.weak.now a.strong.now
    c.check_call-checked.ensures c.in-Err.is c.answer.ensures

pub solve-requires : goal.solve-requires
solve-requires g c = let a = c.args in
    let (table, outputs) = passed_call a.profile.now a.table.now a.devices.now a.signal.now a.weak.now a.strong.now (passes a.profile.now a.table.now a.devices.now a.signal.now a.weak.now a.strong.now c.check_call-checked.ensures c.in_default.is) in
    record { table = table; outputs = outputs }

pub returns : goal.returns
returns g c = let a = c.args in
    rw c.answer_by.ensures
    (answers_solved a.profile.now a.table.now a.devices.now a.signal.now a.weak.now a.strong.now
    c.check_call-checked.ensures c.in_default.is c.solve.ensures)
