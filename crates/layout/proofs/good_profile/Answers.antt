-- `layout::good_profile` meets its contract. Assumes nothing.
use Rattle.layout.specs.Good.{good_profile}
use Rattle.layout.proofs.good_profile.Goals as goal

pub returns : goal.returns
unfolding good_profile
returns c = cc
