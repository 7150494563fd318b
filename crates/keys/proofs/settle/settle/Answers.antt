-- `keys::settle::settle` meets its contract. Assumes nothing.
use Rattle.keys.proofs.Settled.{settles}
use Rattle.keys.proofs.settle.settle.Goals as goal

pub returns : goal.returns
returns c =
    let reach = c.fill_reach.ensures in
    let settled = c.fill_settled.ensures in
    settles c.args.network.shaped c.fill_power.ensures reach.keys reach.under settled.signal settled.weak settled.rounds
