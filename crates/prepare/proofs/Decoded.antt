-- Laws: each part of a row's class is read back from it, in an accepted table.
-- Assumes nothing.
use mathlib.Core.Path.{◌≡◌, refl}
use mathlib.Core.Bool.{Bool, true, false, cond, ◌&&◌}
use mathlib.Core.Logic.{⊎_elim}
use mathlib.Core.List.{[], ◌∷◌, Memᴰ}
use Prim.Native.Nat.{ℕ, ◌+◌, ◌-◌, ◌*◌, ◌/◌, ◌%◌, ◌≤◌, ◌<◌}
use native.Mathlib.Omega.{arith}
use lib.Dec.{eqb, leb}
use borrow.Author.Tests.{eqb-true, eqb-false, leb-true}
use Rattle.columns.specs.Column.{Bytes}
use Rattle.columns.specs.First.{on_found, all_below}
use Rattle.columns.specs.declared.Found.{Found}
use Rattle.columns.specs.declared.Found.TheVariants.{At, Nothing}
use Rattle.columns.proofs.First.{all_at}
use Rattle.columns.proofs.Members.{all_member}
use Rattle.columns.proofs.Truth.{and_true, or_true}
use Rattle.blocks.specs.Kind.{one_of, is_dust}
use Rattle.blocks.specs.Profile.{supports_components, torch_charges_above}
use Rattle.places.specs.declared.Pos.{Pos}
use Rattle.places.specs.Places.{North, East, South, West, horizontals, is_horizontal, beside}
use Rattle.world.specs.Rows.{rows, byte_of, pos_of, kind_of, facing_of, shape_of, has_stored_arms, arm_entry, stored_arm}
use Rattle.world.specs.Find.{find}
use Rattle.traits.specs.Shapes.{Plain, TopSlab, DoubleSlab, TopStairs, Glass}
use Rattle.traits.specs.Traits.{nothing, top_half, double_slab, glass, plain, of_shape, traits, traits_at}
use Rattle.layout.specs.Good.{is_entry}
use Rattle.layout.proofs.Fields.{Kind, Facing, Arms, good-field}
use Rattle.refusals.specs.Accepted.{Table}
use Rattle.arms.specs.Arms.{joins, rises, drops, infer_past, infer_wire_connection, arm_of}
use Rattle.classes.specs.Class.{has, rise_in, blocks_in, weak_in, strong_in, drives_in, charges_above_in, kind_in, facing_in, arm_in}
use Rattle.prepare.specs.Classes.{bit, armless, arm_bits, arms_along, class_of}

-- ---- arms and rises

-- "1 None, 2 Side, 3 Up"
pub record ArmNumber (a : ℕ) : Type 0 where
  pub some : 1 ≤ a
  pub few : a ≤ 3

either : {A : Type 0} (P : A → Type 0) (b : Bool) {x y : A} → P x → P y → P (cond b x y)
either P true h g = h
either P false h g = g

pub no_arm : ArmNumber 1
no_arm = omega arith

side : ArmNumber 2
side = omega arith

up : ArmNumber 3
up = omega arith

module _ (p t : Bytes) where
  pub rise_number : (i : ℕ) → ArmNumber (traits p t i).rise
  unfolding traits plain of_shape
  rise_number i = let s = shape_of t i in go (eqb s Plain) (one_of (TopSlab ∷ TopStairs ∷ []) s) (eqb s DoubleSlab) (eqb s Glass)
    where
      go : (a b c d : Bool) → ArmNumber (cond a (plain p (kind_of t i)) (cond b top_half (cond c double_slab (cond d glass nothing)))).rise
      go true b c d = either ArmNumber (supports_components p (kind_of t i)) up no_arm
      go false true c d = side
      go false false true d = up
      go false false false true = up
      go false false false false = no_arm

  rise_at : (q : Pos) → ArmNumber (traits_at p t q).rise
  unfolding traits_at
  rise_at q = go (find t q)
    where
      go : (x : Found) → ArmNumber (on_found (traits p t) nothing x).rise
      go (At i) = rise_number i
      go Nothing = no_arm

  inferred_number : (q : Pos) (f : ℕ) → ArmNumber (infer_wire_connection p t q f)
  unfolding infer_wire_connection infer_past
  inferred_number q f =
      let x = beside q f in
      either ArmNumber (is_horizontal f)
      (either ArmNumber (joins t x f) side (either ArmNumber (rises p t q x) (rise_at x) (either ArmNumber (drops t x) side no_arm)))
      no_arm

module _ (t : Bytes) (table : Table t) (i : ℕ) (inside : i < rows t) where
  -- "kind 1 to 13", "facing 0 to 6"
  pub kind_number : (1 ≤ kind_of t i) × (kind_of t i ≤ 13)
  kind_number =
      let (some, few) = and_true (leb 1 (kind_of t i)) _ (good-field t i (table.good i inside) Kind) in
      (leb-true 1 (kind_of t i) some, leb-true (kind_of t i) 13 few)

  pub facing_number : facing_of t i ≤ 6
  facing_number = leb-true (facing_of t i) 6 (good-field t i (table.good i inside) Facing)

  pub stored_small : (f : ℕ) → stored_arm t i f ≤ 3
  unfolding stored_arm arm_entry
  stored_small f = go (has_stored_arms t i) (is_horizontal f) refl
    where
      entry : (k : ℕ) → k < 4 → byte_of t i (24 + k) ≤ 3
      entry k l =
          let b : ℕ → ℕ = byte_of t i in
          ⊎_elim (λ h. let is : b (24 + k) ≡ 0 = eqb-true _ 0 (all_at (λ k. eqb (b (24 + k)) 0) 4 (and_true (eqb (b 23) 0) _ h).1 k l) in omega arith)
          (λ h. leb-true _ 3 (all_at (λ k. is_entry (b (24 + k))) 4 (and_true (eqb (b 23) 1) _ h).1 k l))
          (or_true (eqb (b 23) 0 && all_below (λ k. eqb (b (24 + k)) 0) 4) _ (good-field t i (table.good i inside) Arms))

      go : (b c : Bool) → is_horizontal f ≡ c → cond b (cond c (byte_of t i (23 + f)) 0) 0 ≤ 3
      go true true h =
          let (low, high) = and_true (leb 1 f) (leb f 4) h in
          let at : 23 + f ≡ 24 + (f - 1) = omega (arith, leb-true 1 f low) in
          rw at (entry (f - 1) (omega (arith, leb-true 1 f low, leb-true f 4 high)))
      go true false h = omega arith
      go false c h = omega arith

  pub arm_number : (p : Bytes) (f : ℕ) → ArmNumber (arm_of p t i f)
  unfolding arm_of
  arm_number p f = either ArmNumber (is_dust (kind_of t i)) (go (eqb (stored_arm t i f) 0) refl) no_arm
    where
      go : (b : Bool) → eqb (stored_arm t i f) 0 ≡ b → ArmNumber (cond b (infer_wire_connection p t (pos_of t i) f) (stored_arm t i f))
      go true e = inferred_number p t (pos_of t i) f
      go false e = record { some = let n = eqb-false (stored_arm t i f) 0 e in omega arith; few = stored_small f }

-- ---- numbers in the bits of a sum

module _ (r b w s d a k f n e o v : ℕ) where
  abbrev sum : ℕ
  sum =
      r + (4 * b + (8 * w + (16 * s + 32 * d))) + (128 * a + (k * 256 + f * 65536))
      + (n * 16777216 + (e * 67108864 + (o * 268435456 + v * 1073741824)))

  record Parts : Type 0 where
    rise : sum % 4 ≡ r
    blocks : sum / 4 % 2 ≡ b
    weak : sum / 8 % 2 ≡ w
    strong : sum / 16 % 2 ≡ s
    drives : sum / 32 % 2 ≡ d
    above : sum / 128 % 2 ≡ a
    kind : sum / 256 % 256 ≡ k
    facing : sum / 65536 % 256 ≡ f
    north : sum / 16777216 % 4 ≡ n
    east : sum / 67108864 % 4 ≡ e
    south : sum / 268435456 % 4 ≡ o
    west : sum / 1073741824 % 4 ≡ v

  parts : r < 4 → b < 2 → w < 2 → s < 2 → d < 2 → a < 2 → k < 256 → f < 256 → n < 4 → e < 4 → o < 4 → v < 4 → Parts
  parts = omega arith

-- a bit of it that is set where b is true
bit_small : (b : Bool) → bit 1 b < 2
bit_small true = omega arith
bit_small false = omega arith

bit_times : (b : Bool) (v : ℕ) → bit v b ≡ v * bit 1 b
bit_times true v = omega arith
bit_times false v = omega arith

has_bit : (v c : ℕ) (b : Bool) → c / v % 2 ≡ bit 1 b → has v c ≡ b
has_bit v c true e = rw e
has_bit v c false e = rw e

-- ---- the class c of row i, with these arms

abbrev pub all_arms : (ℕ → ℕ) → ℕ
all_arms arm = arm North * 16777216 + (arm East * 67108864 + (arm South * 268435456 + arm West * 1073741824))

pub record Decoded (arm : ℕ → ℕ) (p t : Bytes) (i c : ℕ) : Type 0 where
  pub rise : rise_in c ≡ (traits p t i).rise - 1
  pub blocks : blocks_in c ≡ (traits p t i).blocks
  pub weak : weak_in c ≡ (traits p t i).weak
  pub strong : strong_in c ≡ (traits p t i).strong
  pub drives : drives_in c ≡ (traits p t i).drives
  pub above : charges_above_in c ≡ torch_charges_above p
  pub kind : kind_in c ≡ kind_of t i
  pub facing : facing_in c ≡ facing_of t i
  pub arms : (f : ℕ) → Memᴰ f horizontals → arm_in c f ≡ arm f

module _ (p t : Bytes) (table : Table t) (i : ℕ) (inside : i < rows t) where
  pub decoded_with : (arm : ℕ → ℕ) → ((f : ℕ) → arm f < 4)
      → Decoded arm p t i (armless p t i + all_arms arm)
  unfolding armless
  decoded_with arm small =
      let r = traits p t i in
      let above = torch_charges_above p in
      let n =
      parts (r.rise - 1) (bit 1 r.blocks) (bit 1 r.weak) (bit 1 r.strong) (bit 1 r.drives) (bit 1 above) (kind_of t i) (facing_of t i)
      (arm North) (arm East) (arm South) (arm West)
      (omega (arith, (rise_number p t i).few))
      (bit_small r.blocks)
      (bit_small r.weak)
      (bit_small r.strong)
      (bit_small r.drives)
      (bit_small above)
      (omega (arith, (kind_number t table i inside).1))
      (omega (arith, facing_number t table i inside))
      (small North)
      (small East)
      (small South)
      (small West) in
      rw (bit_times r.blocks 4, bit_times r.weak 8, bit_times r.strong 16, bit_times r.drives 32, bit_times above 128)
      (record {
        rise = n.rise;
        blocks = has_bit 4 _ r.blocks n.blocks;
        weak = has_bit 8 _ r.weak n.weak;
        strong = has_bit 16 _ r.strong n.strong;
        drives = has_bit 32 _ r.drives n.drives;
        above = has_bit 128 _ above n.above;
        kind = n.kind;
        facing = n.facing;
        arms = all_member (λ f. arm_in _ f ≡ arm f) horizontals (n.north, (n.east, (n.south, (n.west, tt))));
      })

  arm_bits_small : (f : ℕ) → arm_bits p t i f < 4
  unfolding arm_bits
  arm_bits_small f = go (find t (beside (pos_of t i) f))
    where
      go : (x : Found) → on_found (λ _. arm_of p t i f - 1) 0 x < 4
      go (At j) = omega (arith, (arm_number t table i inside p f).few)
      go Nothing = omega arith

  pub decoded : Decoded (arm_bits p t i) p t i (class_of p t i)
  unfolding class_of arms_along
  decoded = decoded_with (arm_bits p t i) arm_bits_small
