-- `wire::transfer::dust_transmits` meets its contract. Assumes nothing.
use Rattle.wire.specs.Transfer.{dust_transmits}
use Rattle.wire.proofs.transfer.dust_transmits.Goals as goal

pub returns : goal.returns
unfolding dust_transmits
returns c = rw (← c.dust_transfer.ensures) c.is_some.ensures
