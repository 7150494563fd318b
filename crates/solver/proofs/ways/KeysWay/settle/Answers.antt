-- `solver::ways::KeysWay::settle` meets its contract. Assumes nothing.
use Rattle.solver.proofs.Solving.{keyed}
use Rattle.solver.proofs.ways.KeysWay.settle.Goals as goal

pub returns : goal.returns
returns c =
    let written = c.write.ensures in
    keyed c.settle.ensures c.outcome_of-rounds.ensures written.signal_after written.weak_after written.strong_after
