-- The traits of a block: `redstone_traits`, of its kind's profile and its shape.
-- Assumes nothing.
use Rattle.std.specs.Prelude.{Bool, true, false, cond, not, ◌&&◌, ◌||◌, [], ◌∷◌, ℕ, eqb}
use Rattle.blocks.specs.Kind.{Solid, one_of}
use Rattle.blocks.specs.Profile.{supports_components, receives_weak, receives_strong, drives_dust}
use Rattle.places.specs.declared.Pos.{Pos}
use Rattle.columns.specs.Column.{Bytes}
use Rattle.columns.specs.First.{on_found}
use Rattle.traits.specs.declared.BlockRedstoneTraits.{BlockRedstoneTraits}
use Rattle.world.specs.Rows.{kind_of, shape_of}
use Rattle.world.specs.Find.{find}
use Rattle.traits.specs.Shapes.{Plain, TopSlab, DoubleSlab, TopStairs, Glass}

-- an arm, and a rise: "1 None, 2 Side, 3 Up" (`WireConnection` of the original)
abbrev pub ArmNone : ℕ
ArmNone = 1

abbrev pub ArmSide : ℕ
ArmSide = 2

abbrev pub ArmUp : ℕ
ArmUp = 3

abbrev pub is_arm : ℕ → Bool
is_arm a = not (eqb a ArmNone)

-- bottom slab, bottom stairs: "nothing"; and no block
abbrev pub nothing : BlockRedstoneTraits
nothing = record { supports = false; rise = ArmNone; blocks = false; weak = false; strong = false; drives = false }

-- top slab, top stairs: "supports, rise Side"
abbrev pub top_half : BlockRedstoneTraits
top_half = record { supports = true; rise = ArmSide; blocks = false; weak = false; strong = false; drives = false }

-- double slab: "supports, rise Up, blocks a rise, conducts weak and strong, drives dust"
abbrev pub double_slab : BlockRedstoneTraits
double_slab = record { supports = true; rise = ArmUp; blocks = true; weak = true; strong = true; drives = true }

-- glass: "supports, rise Up"
abbrev pub glass : BlockRedstoneTraits
glass = record { supports = true; rise = ArmUp; blocks = false; weak = false; strong = false; drives = false }

-- "Plain traits come from the profile: wire rise is Up where components are supported, and only Solid blocks a rise from above"
abbrev pub plain_rise : Bool → ℕ
plain_rise supports = cond supports ArmUp ArmNone

unfoldable pub plain : Bytes → ℕ → BlockRedstoneTraits
plain p k =
    record {
      supports = supports_components p k;
      rise = plain_rise (supports_components p k);
      blocks = eqb k Solid;
      weak = receives_weak p k;
      strong = receives_strong p k;
      drives = drives_dust p k;
    }

-- "1 bottom slab, 2 top slab, 3 double slab, 4 bottom stairs, 5 top stairs, 6 glass"
unfoldable pub of_shape : ℕ → BlockRedstoneTraits
of_shape s = cond (one_of (TopSlab ∷ TopStairs ∷ []) s) top_half (cond (eqb s DoubleSlab) double_slab (cond (eqb s Glass) glass nothing))

-- the traits of row i, under the profile p: "Other shapes replace all of them"
unfoldable pub traits : Bytes → Bytes → ℕ → BlockRedstoneTraits
traits p t i = cond (eqb (shape_of t i) Plain) (plain p (kind_of t i)) (of_shape (shape_of t i))

-- the traits of what stands at q
unfoldable pub traits_at : Bytes → Bytes → Pos → BlockRedstoneTraits
traits_at p t q = on_found (traits p t) nothing (find t q)

-- the block has a rise, and it is a. A block without one, whose rise is written None like an arm, equals no arm, not even a stored None: `rise` is
-- an `Option` in the original, and None is no rise there.
abbrev pub rises_by : BlockRedstoneTraits → ℕ → Bool
rises_by r a = is_arm r.rise && eqb r.rise a

-- receives weak or strong power
abbrev pub conducts : BlockRedstoneTraits → Bool
conducts r = r.weak || r.strong
