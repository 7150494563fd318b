-- `connectivity::of_kind` meets its contract, by what the look-up finds. Assumes nothing.
use mathlib.Core.Path.{sym, ◌∙◌}
use borrow.Author.Tests.{eq-eqb, ne_eqb}
use Rattle.connectivity.specs.Ports.{of_kind}
use Rattle.connectivity.proofs.of_kind.Goals as goal

pub returns-in_default : goal.returns-in_default
unfolding of_kind
returns-in_default c = rw (sym c.find.ensures ∙ c.in_default.is)

pub returns-then-kind_of-kind : goal.returns-then-kind_of-kind
unfolding of_kind
returns-then-kind_of-kind c = let found = sym c.find.ensures ∙ c.in-At.is in
    rw (found, ← c.kind_of.ensures, eq-eqb _ _ c.if-kind_of-kind.true)

pub returns : goal.returns
unfolding of_kind
returns c = let found = sym c.find.ensures ∙ c.in-At.is in
    rw (found, ← c.kind_of.ensures, ne_eqb _ _ c.if-kind_of-kind.false)
