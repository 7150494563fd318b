-- `spread::spread_from` meets its contract. Assumes nothing.
use mathlib.Core.Path.{sym, ◌∙◌}
use Rattle.circuit.proofs.Ends.{none_sent}
use Rattle.spread.proofs.Spreads.{spread_nowhere}
use Rattle.spread.proofs.spread_from.Goals as goal

pub returns-else-sends_in : goal.returns-else-sends_in
returns-else-sends_in c =
    let a = c.args in
    spread_nowhere a.edge a.network.near.now a.network.class.now a.j a.level a.out.now
    (λ i. none_sent a.network.shaped a.edge a.j i (rw (← c.class_at.ensures) (sym c.sends_in.ensures ∙ c.if-sends_in.false)))
