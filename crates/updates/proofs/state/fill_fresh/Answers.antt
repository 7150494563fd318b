-- Answers of `updates::state::fill_fresh`.
use Rattle.std.proofs.Common.{rules}
use Rattle.fresh.specs.Fresh.{fresh_row}
use Rattle.updates.proofs.state.fill_fresh.Goals as goal

pub returns : goal.returns
returns c = let a = c.args in
    rw (← c.rows.ensures) (c.each_row.ensures (λ i _. fresh_row a.table.now a.weak.now a.strong.now i) (λ i r r' l p. search rules))
