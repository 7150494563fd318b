-- Answers of `wire::transfer::dust_transfer`.
use Rattle.std.proofs.Common.{Some}
use mathlib.Core.Path.{refl, sym, ap, ◌∙◌}
use native.Mathlib.Omega.{arith}
use Rattle.wire.specs.Transfer.{transfer_by, dust_transfer}
use Rattle.wire.proofs.Found.{transfer_found}
use Rattle.wire.proofs.Turns.{from_first, enter, hit, miss, out, done}
use Rattle.wire.proofs.transfer.dust_transfer.Goals as goal

pub returns-in_default : goal.returns-in_default
unfolding dust_transfer
returns-in_default c = rw (sym c.find.ensures ∙ c.in_default.is)

pub returns-in_default-find : goal.returns-in_default-find
unfolding dust_transfer
returns-in_default-find c = rw (sym c.find.ensures ∙ c.in-At.is, sym c.find-2.ensures ∙ c.in_default-find.is)

pub returns-then-not-are_dust : goal.returns-then-not-are_dust
unfolding transfer_by
returns-then-not-are_dust c =
    let between = transfer_found _ _ _ _ _ _ (sym c.find.ensures ∙ c.in-At.is) (sym c.find-2.ensures ∙ c.in-At-find.is) in
    sym (between ∙ rw (← c.are_dust.ensures, c.if-not-are_dust.true))

pub facings-init : goal.facings-init
facings-init c = (omega arith, omega arith, refl, refl)

pub heights-init : goal.heights-init
heights-init c = let o = c.facings in
    (omega arith, omega arith, omega arith, o.invariant.2, o.invariant.3 ∙ enter _ _ _ _ _ o.facing (omega arith) (omega arith))

pub heights-preserved : goal.heights-preserved
heights-preserved c = let l = c.heights in
    (omega arith, omega arith, omega arith, l.invariant.3, l.invariant.4 ∙ miss _ _ _ _ _ _ l.height _ (omega arith) c.fits.ensures c.if-fits.false)

pub facings-preserved : goal.facings-preserved
facings-preserved c = let l = c.heights in
    (omega arith, omega arith, l.invariant.3, l.invariant.4 ∙ out _ _ _ _ _ _ l.height _ (omega arith))

pub returns-after-facings : goal.returns-after-facings
returns-after-facings c =
    let o = c.facings in
    let between = transfer_found _ _ _ _ _ _ (sym c.find.ensures ∙ c.in-At.is) (sym c.find-2.ensures ∙ c.in-At-find.is) in
    let first = between ∙ from_first _ _ _ _ _ (sym c.are_dust.ensures ∙ c.if-not-are_dust.false) in
    o.invariant.2 ∙ sym (first ∙ o.invariant.3 ∙ done _ _ _ _ _ o.facing (omega arith))

pub returns-then-fits : goal.returns-then-fits
returns-then-fits c =
    let between = transfer_found _ _ _ _ _ _ (sym c.find.ensures ∙ c.in-At.is) (sym c.find-2.ensures ∙ c.in-At-find.is) in
    let first = between ∙ from_first _ _ _ _ _ (sym c.are_dust.ensures ∙ c.if-not-are_dust.false) in
    ap Some c.rule_of.ensures
    ∙ sym (first ∙ c.heights.invariant.4 ∙ hit _ _ _ _ _ _ c.heights.height _ (omega arith) c.fits.ensures c.if-fits.true)
