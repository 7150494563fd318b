-- `traits::of_shape` meets its contract: in each arm the number is the arm's, or none of them. Assumes nothing.
use mathlib.Core.Logic.{⊎_elim, inl, inr}
use borrow.Author.Tests.{ne_eqb}
use mathlib.Core.Logic.{⊎_elim}
use Rattle.traits.specs.Traits.{of_shape}
use Rattle.traits.proofs.of_shape.Goals as goal

pub returns-in-2 : goal.returns-in-2
unfolding of_shape
returns-in-2 c = ⊎_elim (λ e. rw e) (λ e. rw e) c.in-2.is

pub returns-in-3 : goal.returns-in-3
unfolding of_shape
returns-in-3 c = rw c.in-3.is

pub returns-in-6 : goal.returns-in-6
unfolding of_shape
returns-in-6 c = rw c.in-6.is

pub returns-in_default : goal.returns-in_default
unfolding of_shape
returns-in_default c = let none = c.in_default.in_default-own.rest in
    simp (ne_eqb _ 2 (λ e. none.0.0.1 (inl e)), ne_eqb _ 5 (λ e. none.0.0.1 (inr e)), ne_eqb _ 3 none.0.1, ne_eqb _ 6 none.1) c.nothing.ensures
