-- `places::Pos::beside` meets its contract, by the step that `horizontal_offset` gives, or by none. Assumes nothing.
use Rattle.std.proofs.Common.{Option, Some, None}
use mathlib.Core.Path.{◌≡◌, refl, sym, ap, ◌∙◌}
use mathlib.Core.Bool.{Bool, true, false, cond, false≢true}
use Prim.Native.Nat.{ℕ}
use lib.Dec.{eqb}
use borrow.Author.Rules.{rules}
use borrow.Author.Tests.{eqb-true}
use mir.Syntax.{w32}
use mir.Val.{SFits}
use Rattle.places.proofs.Signs.{back32}
use Rattle.places.specs.Signed.{zero_z}
use Rattle.places.specs.Places.{North, East, South, West, cell, offset, step, is_horizontal, horizontal_offset, beside}
use Rattle.places.specs.declared.Pos.{Pos}
use Rattle.places.proofs.Pos.beside.Goals as goal

-- the step to a place, and no step to nowhere

abbrev step_or : Option Pos → Pos
step_or (Some d) = d
step_or None = cell zero_z zero_z zero_z

-- a facing that is not horizontal is none of the four

other : (f k : ℕ) → is_horizontal k ≡ true → is_horizontal f ≡ false → eqb f k ≡ false
other f k h n = go (eqb f k) refl
  where
    go : (b : Bool) → eqb f k ≡ b → eqb f k ≡ false
    go true e = absurd (false≢true (sym n ∙ ap is_horizontal (eqb-true f k e) ∙ h))
    go false e = e

step_is : (f : ℕ) → step_or (horizontal_offset f) ≡ step f
unfolding horizontal_offset step
step_is f = go (is_horizontal f) refl
  where
    go : (b : Bool) → is_horizontal f ≡ b → step_or (cond b (Some (step f)) None) ≡ step f
    go true e = refl
    go false e = rw (other f North refl e, other f East refl e, other f South refl e, other f West refl e)

beside_is : (q : Pos) (f : ℕ) {found : Option Pos} → horizontal_offset f ≡ found
    → offset q (step_or found).x zero_z (step_or found).z ≡ beside q f
unfolding beside
beside_is q f h = ap (λ d. offset q d.x zero_z d.z) (sym (ap step_or h) ∙ step_is f)

pub returns-in_default : goal.returns-in_default
returns-in_default c = c.offset.ensures ∙ beside_is _ _ (sym c.horizontal_offset.ensures ∙ c.in_default.is)

pub returns : goal.returns
returns c =
    let fx : SFits w32 c.in-Some.step.x = search rules in
    let fz : SFits w32 c.in-Some.step.z = search rules in
    rw (c.offset-2.ensures, back32 _ fx, back32 _ fz)
    (beside_is _ _ (sym c.horizontal_offset.ensures ∙ c.in-Some.is))
