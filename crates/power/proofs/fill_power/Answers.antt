-- `power::fill_power` meets its contract. Assumes nothing.
use Rattle.power.proofs.fill_power.Goals as goal

pub returns : goal.returns
returns c = let strong = c.fill_strong.ensures in
    record {
      strong_is = strong;
      base_is = rw strong at c.fill_base.ensures;
      direct_is = rw strong at c.fill_direct.ensures;
    }
