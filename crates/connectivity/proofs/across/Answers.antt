-- `connectivity::across` meets its contract: in each arm the number is one of the arm's, or none of them. Assumes nothing.
use Rattle.std.proofs.Common.{Some}
use mathlib.Core.Path.{ap, ap₂}
use mathlib.Core.Logic.{⊎_elim}
use native.Mathlib.Omega.{arith}
use borrow.Author.Tests.{ne_eqb}
use Rattle.connectivity.specs.Ports.{across}
use Rattle.connectivity.proofs.across.Goals as goal

pub returns-in-1 : goal.returns-in-1
unfolding across
returns-in-1 c = let both = ap Some (ap₂ (λ a b. (a, b)) c.beside.ensures c.beside-in-1.ensures) in
    ⊎_elim (λ e. rw e both) (λ e. rw e both) c.in-1.is

pub returns-in-2 : goal.returns-in-2
unfolding across
returns-in-2 c = let both = ap Some (ap₂ (λ a b. (a, b)) c.beside-in-2.ensures c.beside-in-2-2.ensures) in
    ⊎_elim (λ e. rw e both) (λ e. rw e both) c.in-2.is

pub returns-in_default : goal.returns-in_default
unfolding across
returns-in_default c = grind (arith, ne_eqb)
