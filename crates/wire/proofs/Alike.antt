-- Laws: inferring an arm reads bytes 0 to 13 and 28 of the rows and no other, so neither powered (14) nor the arms (23 to 27); a
-- transfer reads the stored arms besides.
-- Assumes nothing.
use mathlib.Core.Path.{◌≡◌, refl, ap}
use mathlib.Core.Logic.{◌⊎◌, inl, inr}
use mathlib.Core.Bool.{Bool, true, false, cond}
use Prim.Native.Nat.{ℕ, ◌+◌, ◌/◌, ◌≤◌, ◌<◌}
use native.Mathlib.Omega.{arith}
use lib.Dec.{leb}
use lib.ListN.{length}
use borrow.Author.Tests.{leb-true}
use Rattle.columns.specs.Column.{Bytes}
use Rattle.columns.proofs.Truth.{and_true}
use Rattle.places.specs.declared.Pos.{Pos}
use Rattle.places.specs.Places.{North, West, is_horizontal}
use Rattle.world.specs.Rows.{rows, byte_of, word_of, pos_of, kind_of, facing_of, has_stored_arms, arm_entry, stored_arm}
use Rattle.traits.specs.Traits.{traits}
use Rattle.arms.specs.Arms.{infer_wire_connection, arm_of}
use Rattle.wire.specs.Transfer.{transmits}
use Rattle.wire.proofs.Same.{SameRow, SameTraits}
use Rattle.wire.proofs.Region.{AlikeOver, Holds, rows_alike, around_over, infer_over, row_over, transmits_over}

-- the bytes of a row that are read
abbrev pub Read : ℕ → Type 0
Read b = (b < 14) ⊎ (b ≡ 28)

-- two tables of one length that agree on these bytes of every row
pub record Alike (t u : Bytes) : Type 0 where
  pub long : length t ≡ length u
  pub agree : (i b : ℕ) → Read b → byte_of t i b ≡ byte_of u i b

-- so they are alike over the region of all positions, which holds the cells around each
abbrev pub Everywhere : Pos → Type 0
Everywhere q = Unit

pub all_hold : (q : Pos) → Holds Everywhere q
all_hold q = record { over = tt; under = tt; side = λ f e. tt; side_over = λ f e. tt; side_under = λ f e. tt }

-- rows that agree on the bytes of the arms have the same arms stored
pub same_stored : (t u : Bytes) (i : ℕ) → ((b : ℕ) → 23 ≤ b → b < 28 → byte_of t i b ≡ byte_of u i b) → (f : ℕ) → stored_arm t i f ≡ stored_arm u i f
unfolding stored_arm arm_entry
same_stored t u i agree f = rw (agree 23 (omega arith) (omega arith)) (go (is_horizontal f) refl)
  where
    go : (b : Bool) → is_horizontal f ≡ b → cond (has_stored_arms u i) (cond b (byte_of t i (23 + f)) 0) 0 ≡ cond (has_stored_arms u i) (cond b (byte_of u i (23 + f)) 0) 0
    go true e =
        let (_, low) = and_true (leb North f) (leb f West) e in
        rw (agree (23 + f) (omega arith) (omega (arith, leb-true f West low)))
    go false e = refl

module _ {t u : Bytes} (a : Alike t u) where
  pub same_rows : rows t ≡ rows u
  same_rows = ap (λ n. n / 32) a.long

  pub same_kind : (i : ℕ) → kind_of t i ≡ kind_of u i
  same_kind i = a.agree i 12 (inl (omega arith))

  pub same_facing : (i : ℕ) → facing_of t i ≡ facing_of u i
  same_facing i = a.agree i 13 (inl (omega arith))

  same_word : (i b : ℕ) → b + 3 < 14 → word_of t i b ≡ word_of u i b
  same_word i b h =
      rw (a.agree i b (inl (omega arith)), a.agree i (b + 1) (inl (omega arith)), a.agree i (b + 2) (inl (omega arith)), a.agree i (b + 3) (inl (omega arith)))

  pub same_place : (i : ℕ) → pos_of t i ≡ pos_of u i
  unfolding pos_of
  same_place i = rw (same_word i 0 (omega arith), same_word i 4 (omega arith), same_word i 8 (omega arith))

  pub same_traits : (p : Bytes) (i : ℕ) → traits p t i ≡ traits p u i
  unfolding traits
  same_traits p i = rw (a.agree i 28 (inr refl), same_kind i)

  pub everywhere : AlikeOver Everywhere t u
  everywhere =
      rows_alike t u same_rows (λ i _. same_place i) (λ i _ _. record { kind = same_kind i; facing = same_facing i; shape = a.agree i 28 (inr refl) })

  pub same_around : (p : Bytes) (q : Pos) → SameTraits p t u q
  same_around p q = around_over everywhere p q (all_hold q)

  -- tables that are alike infer the same
  pub same_infer : (p : Bytes) (q : Pos) (f : ℕ) → infer_wire_connection p t q f ≡ infer_wire_connection p u q f
  same_infer p q f = infer_over everywhere p q (all_hold q) f

  -- ---- with the same arms stored

  module _ (stored : (i f : ℕ) → stored_arm t i f ≡ stored_arm u i f) (p : Bytes) where
    same_row : (i : ℕ) → SameRow (arm_of p t) (arm_of p u) t u i
    same_row i = row_over everywhere p i (same_kind i) (same_place i) (stored i) (all_hold (pos_of u i))

    pub same_transmits : (j i : ℕ) → transmits p t j i ≡ transmits p u j i
    same_transmits j i = transmits_over everywhere p (same_row j) (same_row i) (all_hold (pos_of u j))
