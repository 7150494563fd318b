-- Laws over a region of positions: where two tables have the same blocks at its positions, arms whose cells lie in it are inferred alike,
-- and dust whose cells lie in it transmits alike. Of a block beside, its kind, its facing and its shape are read.
-- Assumes nothing.
use mathlib.Core.Path.{◌≡◌, refl}
use mathlib.Core.Bool.{Bool, true, false, cond}
use Prim.Native.Nat.{ℕ, ◌<◌}
use Rattle.blocks.specs.Kind.{Air}
use Rattle.columns.specs.Column.{Bytes}
use Rattle.columns.specs.First.{on_found}
use Rattle.columns.specs.declared.Found.{Found}
use Rattle.columns.specs.declared.Found.TheVariants.{At, Nothing}
use Rattle.places.specs.declared.Pos.{Pos}
use Rattle.places.specs.Places.{is_horizontal, beside, above, below}
use Rattle.world.specs.Rows.{rows, pos_of, kind_of, facing_of, shape_of, stored_arm}
use Rattle.world.specs.Find.{find, kind_at}
use Rattle.traits.specs.Traits.{nothing, traits, traits_at, ArmNone}
use Rattle.world.proofs.Finding.{found_stands, same_find}
use Rattle.arms.specs.Arms.{connects, component_connects, joins, rises, drops, infer_past, infer_wire_connection, arm_of}
use Rattle.wire.specs.Transfer.{transmits_by}
use Rattle.wire.proofs.Same.{SameRow, SameTraits, same_transmits}

-- row j of t and row k of u
pub record SameBlock (t u : Bytes) (j k : ℕ) : Type 0 where
  pub kind : kind_of t j ≡ kind_of u k
  pub facing : facing_of t j ≡ facing_of u k
  pub shape : shape_of t j ≡ shape_of u k

-- what a look-up in t and one in u find
pub data SameFound (t u : Bytes) : Found → Found → Type 0 where
  both : {j k : ℕ} → SameBlock t u j k → SameFound t u (At j) (At k)
  neither : SameFound t u Nothing Nothing

-- the two tables have the same blocks at the positions of the region
pub record AlikeOver (R : Pos → Type 0) (t u : Bytes) : Type 0 where
  pub at : (q : Pos) → R q → SameFound t u (find t q) (find u q)

-- the region holds the cells that dust at q asks for: above, below, and along each facing the one beside, above that and below that
pub record Holds (R : Pos → Type 0) (q : Pos) : Type 0 where
  pub over : R (above q)
  pub under : R (below q)
  pub side : (f : ℕ) → is_horizontal f ≡ true → R (beside q f)
  pub side_over : (f : ℕ) → is_horizontal f ≡ true → R (above (beside q f))
  pub side_under : (f : ℕ) → is_horizontal f ≡ true → R (below (beside q f))

-- tables whose rows have the same positions are alike over a region where the rows that stand in it have the same blocks
pub rows_alike : {R : Pos → Type 0} (t u : Bytes) → rows t ≡ rows u → ((i : ℕ) → i < rows t → pos_of t i ≡ pos_of u i)
    → ((i : ℕ) → i < rows t → R (pos_of t i) → SameBlock t u i i) → AlikeOver R t u
rows_alike {R} t u same_rows places blocks = record { at = λ q r. rw (← same_find t u same_rows places q) (go q r (find t q) refl) }
  where
    go : (q : Pos) → R q → (x : Found) → find t q ≡ x → SameFound t u x x
    go q r (At i) e = let (l, stands) = found_stands t q i e in both (blocks i l (rw stands r))
    go q r Nothing e = neither

module _ {A : Type 0} {t u : Bytes} (f g : ℕ → A) (none : A) (same : (j k : ℕ) → SameBlock t u j k → f j ≡ g k) where
  on_same : {x y : Found} → SameFound t u x y → on_found f none x ≡ on_found g none y
  on_same (both {j} {k} s) = same j k s
  on_same neither = refl

module _ {R : Pos → Type 0} {t u : Bytes} (a : AlikeOver R t u) where
  pub kind_over : (q : Pos) → R q → kind_at t q ≡ kind_at u q
  unfolding kind_at
  kind_over q r = on_same (kind_of t) (kind_of u) Air (λ j k s. s.kind) (a.at q r)

  component_over : (q : Pos) (f : ℕ) → R q → component_connects t q f ≡ component_connects u q f
  unfolding component_connects connects
  component_over q f r = on_same (connects t f) (connects u f) false (λ j k s. rw (s.kind, s.facing)) (a.at q r)

  module _ (p : Bytes) where
    pub traits_over : (q : Pos) → R q → traits_at p t q ≡ traits_at p u q
    unfolding traits_at traits
    traits_over q r = on_same (traits p t) (traits p u) nothing (λ j k s. rw (s.shape, s.kind)) (a.at q r)

    module _ (q : Pos) (h : Holds R q) where
      past_over : (f : ℕ) → is_horizontal f ≡ true → infer_past p t q (beside q f) f ≡ infer_past p u q (beside q f) f
      unfolding infer_past joins rises drops
      past_over f e =
          rw (kind_over (beside q f) (h.side f e), component_over (beside q f) f (h.side f e), traits_over (beside q f) (h.side f e), kind_over (above (beside q f)) (h.side_over f e), traits_over (above q) h.over, kind_over (below (beside q f)) (h.side_under f e))

      pub infer_over : (f : ℕ) → infer_wire_connection p t q f ≡ infer_wire_connection p u q f
      unfolding infer_wire_connection
      infer_over f = go (is_horizontal f) refl
        where
          go : (b : Bool) → is_horizontal f ≡ b → cond b (infer_past p t q (beside q f) f) ArmNone ≡ cond b (infer_past p u q (beside q f) f) ArmNone
          go true e = past_over f e
          go false e = refl

      pub around_over : SameTraits p t u q
      around_over = record { side = λ f e. traits_over (beside q f) (h.side f e); under = traits_over (below q) h.under }

    -- ---- with the arms of the tables, where a row has the same ones stored

    module _ (i : ℕ) (kind : kind_of t i ≡ kind_of u i) (place : pos_of t i ≡ pos_of u i) (stored : (f : ℕ) → stored_arm t i f ≡ stored_arm u i f)
        (h : Holds R (pos_of u i)) where
      pub arm_over : (f : ℕ) → arm_of p t i f ≡ arm_of p u i f
      unfolding arm_of
      arm_over f = rw (kind, stored f, place, infer_over (pos_of u i) h f)

      pub row_over : SameRow (arm_of p t) (arm_of p u) t u i
      row_over = record { kind = kind; place = place; arms = λ _ f _. arm_over f }

    -- ---- with any arms

    pub transmits_over : {a b : ℕ → ℕ → ℕ} {j i : ℕ} → SameRow a b t u j → SameRow a b t u i → Holds R (pos_of u j) → transmits_by a p t j i ≡ transmits_by b p u j i
    transmits_over {j = j} source sink h = same_transmits source sink p (around_over (pos_of u j) h)
