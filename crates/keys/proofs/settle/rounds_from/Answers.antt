-- `keys::settle::rounds_from` meets its contract. Assumes nothing.
use mathlib.Core.Path.{◌≡◌, sym, ◌∙◌}
use mathlib.Core.Bool.{true, false}
use native.Mathlib.Omega.{arith}
use Rattle.power.specs.Power.{none_mapped}
use Rattle.keys.specs.Settle.{rounds_from}
use Rattle.keys.proofs.settle.rounds_from.Goals as goal

pub returns-then-none_mapped : goal.returns-then-none_mapped
unfolding rounds_from
returns-then-none_mapped c = let none : none_mapped c.args.class.now ≡ true = sym c.none_mapped.ensures ∙ c.if-none_mapped.true in
    rw (c.last_of.ensures, none) (omega arith)

pub returns-else-none_mapped : goal.returns-else-none_mapped
unfolding rounds_from
returns-else-none_mapped c = let some : none_mapped c.args.class.now ≡ false = sym c.none_mapped.ensures ∙ c.if-none_mapped.false in
    c.max.ensures ∙ rw (c.last_of.ensures, c.last_shown.ensures, some)
