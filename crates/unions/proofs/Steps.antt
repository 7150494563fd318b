-- Laws of a step of the walk along two accepted tables: the row it takes is the next of both, and the rows that are left are those of the
-- tables past it.
-- Assumes nothing.
use mathlib.Core.Path.{◌≡◌, refl, sym, ◌∙◌}
use mathlib.Core.Logic.{⊎_elim}
use mathlib.Core.Bool.{Bool, true, false, cond, ◌||◌, true≢false}
use mathlib.Core.List.{◌∷◌}
use Rattle.std.proofs.Common.{Some}
use Prim.Native.Nat.{ℕ, ◌+◌, ◌≤◌, ◌<◌}
use native.Mathlib.Omega.{arith}
use lib.Dec.{eqb}
use borrow.Author.Tests.{eqb-true, eqb-false}
use Rattle.columns.specs.Column.{Bytes, part}
use Rattle.places.specs.declared.Pos.{Pos}
use Rattle.places.specs.Places.{before}
use Rattle.places.proofs.Order.{before_asym, at_or_past}
use Rattle.world.specs.Rows.{rows, pos_of}
use Rattle.layout.proofs.Fields.{part_place}
use Rattle.refusals.specs.Accepted.{Table}
use Rattle.unions.specs.declared.Next.{Next}
use Rattle.unions.specs.declared.Next.TheVariants.{First, Second, Both}
use Rattle.unions.specs.Union.{union_rows, has_clash}
use Rattle.unions.specs.declared.Walk.{Walk}
use Rattle.unions.specs.Walk.{next_of, in_first, in_second, past, clash_at, next_row, Within, OnWay, Steps}
use Rattle.unions.proofs.Rising.{Past, past_earlier, union_first, union_second, union_shared, clash_first, clash_second, clash_shared}
use Rattle.unions.proofs.Rows.{rows_left, rows-left, none_left, past_left}

module _ (a : Bytes) (i : ℕ) (b : Bytes) (j : ℕ) where
  pub record Step (next : Next) : Type 0 where
    pub within : Within a b next
    pub row : union_rows (rows_left a i) (rows_left b j) ≡ next_row a b next ∷ union_rows (rows_left a (past (in_first next) i)) (rows_left b (past (in_second next) j))
    pub clash : has_clash (rows_left a i) (rows_left b j) ≡ (clash_at a b next || has_clash (rows_left a (past (in_first next) i)) (rows_left b (past (in_second next) j)))
    pub first_in : past (in_first next) i ≤ rows a
    pub second_in : past (in_second next) j ≤ rows b
    pub on : i + j < past (in_first next) i + past (in_second next) j

module _ (a b : Bytes) (ta : Table a) (tb : Table b) (i j : ℕ) where
  -- row i of the first is taken, which stands before all that are left of the second
  take_first : i < rows a → j ≤ rows b → Past (pos_of a i) (rows_left b j) → Step a i b j (First i)
  take_first l m h =
      let behind = rw (sym (part_place a i)) at h in
      record {
        within = omega (arith, ta.whole);
        row = rw (rows-left a i l) (union_first (part 32 a i) (rows_left a (i + 1)) (rows_left b j) behind);
        clash = rw (rows-left a i l) (clash_first (part 32 a i) (rows_left a (i + 1)) (rows_left b j) behind);
        first_in = omega arith;
        second_in = m;
        on = omega arith;
      }

  -- row j of the second, which stands before all that are left of the first
  take_second : i ≤ rows a → j < rows b → Past (pos_of b j) (rows_left a i) → Step a i b j (Second j)
  take_second l m h =
      let behind = rw (sym (part_place b j)) at h in
      let own = rw (sym (part_place b j)) at (past_left b tb j m) in
      record {
        within = omega (arith, tb.whole);
        row = rw (rows-left b j m) (union_second (rows_left a i) (part 32 b j) (rows_left b (j + 1)) behind own);
        clash = rw (rows-left b j m) (clash_second (rows_left a i) (part 32 b j) (rows_left b (j + 1)) behind);
        first_in = l;
        second_in = omega arith;
        on = omega arith;
      }

  -- both, which stand at one position
  take_both : i < rows a → j < rows b → pos_of a i ≡ pos_of b j → Step a i b j (Both i j)
  take_both l m e =
      let same : pos_of (part 32 a i) 0 ≡ pos_of (part 32 b j) 0 = part_place a i ∙ e ∙ sym (part_place b j) in
      let own-a = rw (sym (part_place a i)) at (past_left a ta i l) in
      let own-b = rw (sym (part_place b j)) at (past_left b tb j m) in
      record {
        within = (omega (arith, ta.whole), omega (arith, tb.whole));
        row = rw (rows-left a i l, rows-left b j m) (union_shared (part 32 a i) (rows_left a (i + 1)) (part 32 b j) (rows_left b (j + 1)) same own-b);
        clash =
            rw (rows-left a i l, rows-left b j m)
            (clash_shared (part 32 a i) (rows_left a (i + 1)) (part 32 b j) (rows_left b (j + 1)) same own-a own-b);
        first_in = omega arith;
        second_in = omega arith;
        on = omega arith;
      }

  -- all that are left of a table stand past a position that the next one stands past
  past_all : (t : Bytes) → Table t → (k : ℕ) → k < rows t → (q : Pos) → before q (pos_of t k) ≡ true → Past q (rows_left t k)
  past_all t h k l q p =
      rw (rows-left t k l) (rw (part_place t k) p, past_earlier q (pos_of t k) (rows_left t (k + 1)) p (past_left t h k l))

  -- where rows are left of both, by their positions
  take_next : i < rows a → j < rows b → Step a i b j (cond (before (pos_of a i) (pos_of b j)) (First i) (cond (before (pos_of b j) (pos_of a i)) (Second j) (Both i j)))
  take_next l m = go (before (pos_of a i) (pos_of b j)) refl (before (pos_of b j) (pos_of a i)) refl
    where
      go : (x : Bool) → before (pos_of a i) (pos_of b j) ≡ x → (y : Bool) → before (pos_of b j) (pos_of a i) ≡ y → Step a i b j (cond x (First i) (cond y (Second j) (Both i j)))
      go true e true f = absurd (true≢false (sym f ∙ before_asym (pos_of a i) (pos_of b j) e))
      go true e false f = take_first l (omega arith) (past_all b tb j m (pos_of a i) e)
      go false e true f = take_second (omega arith) m (past_all a ta i l (pos_of b j) f)
      go false e false f = take_both l m (⊎_elim (λ s. s) (λ p. absurd (true≢false (sym p ∙ f))) (at_or_past (pos_of a i) (pos_of b j) e))

  below_end : (k n : ℕ) → k ≤ n → ¬ (k ≡ n) → k < n
  below_end k n h d = omega arith

  -- The step that the walk takes, where rows are left.
  pub step : i ≤ rows a → j ≤ rows b → i + j < rows a + rows b → Step a i b j (next_of a i b j)
  unfolding next_of
  step l m h = go (eqb i (rows a)) refl (eqb j (rows b)) refl
    where
      go : (x : Bool) → eqb i (rows a) ≡ x → (y : Bool) → eqb j (rows b) ≡ y
          → Step a i b j (cond x (Second j) (cond y (First i) (cond (before (pos_of a i) (pos_of b j)) (First i) (cond (before (pos_of b j) (pos_of a i)) (Second j) (Both i j)))))
      go true e y f = take_second l (omega (arith, eqb-true i (rows a) e)) (rw (none_left a i (eqb-true i (rows a) e)) tt)
      go false e true f = take_first (omega (arith, eqb-true j (rows b) f)) m (rw (none_left b j (eqb-true j (rows b) f)) tt)
      go false e false f = take_next (below_end i (rows a) l (eqb-false i (rows a) e)) (below_end j (rows b) m (eqb-false j (rows b) f))

-- ---- the walk

-- the walk s along a and b has taken the next row, and is t then
pub record Taken (a b : Bytes) (s : Walk) (next : Next) (t : Walk) : Type 0 where
  pub step : Step a s.i b s.j next
  pub first : t.first.now ≡ a
  pub second : t.second.now ≡ b
  pub i : t.i ≡ past (in_first next) s.i
  pub j : t.j ≡ past (in_second next) s.j

pub taken : (a b : Bytes) (s : Walk) (next : Next) (t : Walk) → OnWay s → s.first.now ≡ a → s.second.now ≡ b → Steps s (Some next) t → Taken a b s next t
taken a b s next t w f g (left, is, moved) =
    let on : Step s.first.now s.i s.second.now s.j next = rw is (step s.first.now s.second.now w.first w.second s.i s.j w.first_in w.second_in left) in
    record { step = rw (f, g) at on; first = rw moved f; second = rw moved g; i = rw moved refl; j = rw moved refl }
