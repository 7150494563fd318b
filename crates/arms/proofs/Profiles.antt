-- What the arms of dust read of a profile: the traits of the rows. Assumes nothing.
use mathlib.Core.Path.{◌≡◌, refl}
use Prim.Native.Nat.{ℕ}
use Rattle.columns.specs.Column.{Bytes}
use Rattle.places.specs.declared.Pos.{Pos}
use Rattle.places.specs.Places.{beside, above}
use Rattle.world.specs.Rows.{pos_of}
use Rattle.traits.specs.Traits.{traits}
use Rattle.traits.proofs.Profiles.{same_traits_at}
use Rattle.arms.specs.Arms.{rises, infer_past, infer_wire_connection, arm_of}

-- by two profiles by which every row has the same traits
module _ (q p t : Bytes) (same : (i : ℕ) → traits q t i ≡ traits p t i) where
  pub same_infer_by : (c : Pos) (f : ℕ) → infer_wire_connection q t c f ≡ infer_wire_connection p t c f
  unfolding infer_wire_connection infer_past rises
  same_infer_by c f = rw (same_traits_at q p t same (beside c f), same_traits_at q p t same (above c)) refl

  pub same_arms_by : arm_of q t ≡ arm_of p t
  unfolding arm_of
  same_arms_by = λ x i f. arm i f x
    where
      arm : (i f : ℕ) → arm_of q t i f ≡ arm_of p t i f
      arm i f = rw (same_infer_by (pos_of t i) f) refl
