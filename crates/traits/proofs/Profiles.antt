-- What the traits of a row read of a profile: the properties of its kind. Assumes nothing.
use mathlib.Core.Path.{◌≡◌, refl, ap}
use Prim.Native.Nat.{ℕ}
use lib.ListN.{length}
use Rattle.columns.specs.Column.{Bytes}
use Rattle.columns.specs.First.{on_found}
use Rattle.blocks.specs.Kind.{CopperBulb}
use Rattle.blocks.specs.Profile.{properties_of}
use Rattle.blocks.proofs.Bulbs.{with_bulb, kind-properties}
use Rattle.places.specs.declared.Pos.{Pos}
use Rattle.world.specs.Rows.{kind_of}
use Rattle.world.specs.Find.{find}
use Rattle.traits.specs.Traits.{nothing, plain, traits, traits_at}

-- a row has the same traits by two profiles that have the same properties for its kind
pub same_traits : (q p t : Bytes) (i : ℕ) → properties_of q (kind_of t i) ≡ properties_of p (kind_of t i) → traits q t i ≡ traits p t i
unfolding traits plain properties_of
same_traits q p t i same =
    rw (ap (λ r. r.supports_components) same, ap (λ r. r.receives_weak_power) same, ap (λ r. r.receives_strong_power) same, ap (λ r. r.strong_power_drives_dust) same)
    refl

-- and so has what stands at a cell, where every row has
pub same_traits_at : (q p t : Bytes) → ((i : ℕ) → traits q t i ≡ traits p t i) → (c : Pos) → traits_at q t c ≡ traits_at p t c
unfolding traits_at
same_traits_at q p t same c = λ x. on_found (λ i. same i x) nothing (find t c)

-- where no row is a bulb, the bulb's byte makes no difference
pub traits_with_bulb : (p t : Bytes) → length p ≡ 13 → ((i : ℕ) → ¬ (kind_of t i ≡ CopperBulb)) → (b i : ℕ) → traits (with_bulb p b) t i ≡ traits p t i
traits_with_bulb p t long none b i = same_traits (with_bulb p b) p t i (kind-properties p b long (kind_of t i) (none i))
