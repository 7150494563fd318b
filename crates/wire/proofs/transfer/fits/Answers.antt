-- `wire::transfer::fits` meets its contract: in each arm the number is the arm's, or none of them. Assumes nothing.
use native.Mathlib.Omega.{arith}
use borrow.Author.Tests.{ne_eqb}
use Rattle.wire.specs.Transfer.{fits}
use Rattle.wire.proofs.transfer.fits.Goals as goal

pub returns-in-0 : goal.returns-in-0
unfolding fits
returns-in-0 c = rw c.in-0.is c.fits_horizontal.ensures

pub returns-in-1 : goal.returns-in-1
unfolding fits
returns-in-1 c = rw c.in-1.is c.fits_rise.ensures

pub returns-in_default : goal.returns-in_default
unfolding fits
returns-in_default c = rw (ne_eqb c.args.height 0 (λ e. omega arith), ne_eqb c.args.height 1 (λ e. omega arith)) c.fits_fall.ensures
