-- Laws: an edge of the columns, as a test at each place by a row of an accepted table; and what it asks of the two rows, factored out.
-- Assumes nothing.
use mathlib.Core.Path.{◌≡◌, refl, ap, ap₂, sym, ◌∙◌}
use mathlib.Core.Bool.{Bool, true, false, ◌&&◌, ◌||◌, and-true, and-false, or-true, or-false, and_assoc, or_assoc, and_comm, or_comm, and-or_distrib_left, and-or_distrib_right}
use mathlib.Core.List.{Memᴰ}
use Prim.Native.Nat.{ℕ, zero, suc, ◌+◌, ◌≤◌, ◌<◌}
use native.Mathlib.Omega.{arith}
use lib.ListN.{length}
use lib.Dec.{eqb, ltb}
use borrow.Author.Count.{below_none, below_more}
use borrow.Author.Tests.{lt-ltb}
use Rattle.columns.specs.Column.{Bytes}
use Rattle.places.specs.Places.{horizontals, is_at}
use Rattle.world.specs.Rows.{rows, pos_of}
use Rattle.refusals.specs.Accepted.{Table}
use Rattle.classes.specs.Towards.{places}
use Rattle.circuit.specs.Circuit.{sink_if, some_below}
use Rattle.adjacency.specs.Adjacency.{place_by, row_by}
use Rattle.prepare.specs.Classes.{classes_of}
use Rattle.prepare.proofs.Rows.{next_to, length_classes, beside_is, is_row, is_sink}

-- ---- what holds at some place

-- a part c of the test that is the same at every place
module _ (at test rest : ℕ → Bool) (c : Bool) where
  some_part : (n : ℕ) → ((k : ℕ) → k < n → at k ≡ true → test k ≡ (c && rest k))
      → some_below (λ k. at k && test k) n ≡ (c && some_below (λ k. at k && rest k) n)
  unfolding some_below
  some_part zero h = sym (and-false c)
  some_part (suc n) h =
      ap₂ ◌||◌ (some_part n (λ k l. h k (omega arith))) (go (at n) refl)
      ∙ sym (and-or_distrib_left c (some_below (λ k. at k && rest k) n) (at n && rest n))
    where
      go : (b : Bool) → at n ≡ b → (b && test n) ≡ (c && (b && rest n))
      go true e = h n (omega arith) e
      go false e = sym (and-false c)

-- tests that answer alike at every place
some_same : (f g : ℕ → Bool) (n : ℕ) → ((k : ℕ) → k < n → f k ≡ g k) → some_below f n ≡ some_below g n
unfolding some_below
some_same f g zero h = refl
some_same f g (suc n) h = ap₂ ◌||◌ (some_same f g n (λ k l. h k (omega arith))) (h n (omega arith))

-- ---- the order of a test's parts

pub or_left : (a b c : Bool) → (a || (b || c)) ≡ (b || (a || c))
or_left true b c = sym (or-true b)
or_left false b c = refl

pub and_left : (a b c : Bool) → (a && (b && c)) ≡ (b && (a && c))
and_left true b c = refl
and_left false b c = sym (and-false b)

-- what sorts the parts of a disjunction of conjunctions
pub ruleset sorted =
    (and-true, and-false, or-false, and-or_distrib_left, and-or_distrib_right, and_assoc, and_comm, and_left, or_assoc, or_comm, or_left)

-- ---- the four facings

pub horizontal : (k : ℕ) → k < 4 → Memᴰ (k + 1) horizontals
horizontal =
    below_more _ 3
    (below_more _ 2
    (below_more _ 1
    (below_more _ 0 (below_none (λ k. Memᴰ (k + 1) horizontals)) (Memᴰ.head refl))
    (Memᴰ.tail (Memᴰ.head refl)))
    (Memᴰ.tail (Memᴰ.tail (Memᴰ.head refl))))
    (Memᴰ.tail (Memᴰ.tail (Memᴰ.tail (Memᴰ.head refl))))

-- ---- the places by row j, and row i

-- row i stands at place k by row j
abbrev pub stands_by : Bytes → ℕ → ℕ → ℕ → Bool
stands_by t j i k = is_at (place_by t j k) (pos_of t i)

module _ (p t : Bytes) (table : Table t) (j i : ℕ) (hj : j < rows t) (hi : i < rows t) where
  pub beside_row : (k : ℕ) → k < places → eqb (next_to p t j k) i ≡ stands_by t j i k
  unfolding row_by
  beside_row k h = rw (beside_is p t j k hj h) (is_row t table i hi (place_by t j k))

  module _ (test : ℕ → ℕ → Bool) (c : Bool) (rest : ℕ → Bool) (n : ℕ) (few : n ≤ places) where
    pub edge_part : ((k : ℕ) → k < n → stands_by t j i k ≡ true → test k i ≡ (c && rest k))
        → (ltb i (length (classes_of p t)) && some_below (λ k. eqb (sink_if (test k (next_to p t j k)) (next_to p t j k)) i) n)
        ≡ (c && some_below (λ k. stands_by t j i k && rest k) n)
    edge_part h =
        rw (length_classes p t, lt-ltb i (rows t) hi)
        (some_same _ (λ k. stands_by t j i k && test k i) n
        (λ k l. is_sink t table i hi (test k) _ ∙ ap (λ b. b && test k i) (beside_row k (omega arith)))
        ∙ some_part (stands_by t j i) (λ k. test k i) rest c n h)
