-- An edge is one of the ways from a row that lead to a row.
-- Assumes nothing.
use mathlib.Core.Path.{◌≡◌, refl, sym}
use mathlib.Core.Logic.{⊎_elim, by_cases}
use mathlib.Core.Bool.{Bool, true, false, true≢false, or-true}
use Prim.Native.Nat.{ℕ, zero, suc, ◌-◌, ◌≤◌, ◌<◌}
use native.Mathlib.Nat.{le_refl, le_of_suc-le-suc, eq-or-lt_of_le, not-suc-le-zero}
use native.Mathlib.Decide.{dec_lt}
use native.Mathlib.Omega.{arith}
use lib.ListN.{length}
use borrow.Author.Tests.{lt-ltb, le-ltb, ltb-true, eq-eqb, eqb-true}
use Rattle.columns.specs.Column.{Column, row}
use Rattle.columns.proofs.Truth.{and_true}
use Rattle.columns.proofs.Truth.{or_true as either}
use Rattle.circuit.specs.Circuit.{no_row, Shaped, sink_if, beside_in, level_sink, upper_sink, lower_sink, sink_of, ways, some_below, edge_in}
use Rattle.circuit.specs.declared.Edge.{Edge}
use Rattle.circuit.specs.declared.Edge.TheVariants.{Transmits}
use Rattle.circuit.proofs.Shape.{beside_none}

-- ---- a test that holds somewhere below n

pub record Holds (f : ℕ → Bool) (n : ℕ) : Type 0 where
  pub at : ℕ
  pub below : at < n
  pub holds : f at ≡ true

pub some_holds : (f : ℕ → Bool) (n : ℕ) → some_below f n ≡ true → Holds f n
unfolding some_below
some_holds f zero h = absurd (true≢false (sym h))
some_holds f (suc n) h = ⊎_elim (λ e. earlier (some_holds f n e)) (λ e. record { at = n; below = le_refl _; holds = e }) (either (some_below f n) (f n) h)
  where
    earlier : Holds f n → Holds f (suc n)
    earlier w = record { at = w.at; below = omega arith; holds = w.holds }

pub holds_some : (f : ℕ → Bool) (n k : ℕ) → k < n → f k ≡ true → some_below f n ≡ true
unfolding some_below
holds_some f zero k l h = absurd (not-suc-le-zero l)
holds_some f (suc n) k l h =
    ⊎_elim (λ e. rw (← e, h) (or-true (some_below f k))) (λ m. rw (holds_some f n k m h)) (eq-or-lt_of_le (le_of_suc-le-suc l))

-- ---- an edge is a way that leads to a row

pub record Way (near class : Column) (e : Edge) (j i : ℕ) : Type 0 where
  pub k : ℕ
  pub within : k < ways e
  pub leads : sink_of near class e j k ≡ i
  pub inside : i < length class

module _ {near class : Column} {e : Edge} {j i : ℕ} where
  pub edge_way : edge_in near class e j i ≡ true → Way near class e j i
  unfolding edge_in
  edge_way h =
      let (p, q) = and_true _ _ h in
      let w = some_holds _ (ways e) q in
      record { k = w.at; within = w.below; leads = eqb-true _ i w.holds; inside = ltb-true i (length class) p }

  pub way_edge : Way near class e j i → edge_in near class e j i ≡ true
  unfolding edge_in
  way_edge w = rw (lt-ltb i (length class) w.inside) (holds_some _ (ways e) w.k w.within (eq-eqb _ i w.leads))

-- ---- the ways by which dust transmits

module _ (near class : Column) (j k : ℕ) where
  pub way_level : k < 4 → sink_of near class Transmits j k ≡ level_sink near class j k
  unfolding sink_of
  way_level l = rw (lt-ltb k 4 l)

  pub way_upper : 4 ≤ k → k < 8 → sink_of near class Transmits j k ≡ upper_sink near class j (k - 4)
  unfolding sink_of
  way_upper l m = rw (le-ltb k 4 l, lt-ltb k 8 m)

  pub way_lower : 8 ≤ k → sink_of near class Transmits j k ≡ lower_sink near class j (k - 8)
  unfolding sink_of
  way_lower l = let m : 4 ≤ k = omega arith in rw (le-ltb k 4 m, le-ltb k 8 l)

-- ---- the row at a place

-- a row is no sink but where there is the edge
sink_if_row : (b : Bool) (x i : ℕ) → sink_if b x ≡ i → i < no_row → (b ≡ true) × (x ≡ i)
sink_if_row true x i h l = (refl, h)
sink_if_row false x i h l = absurd (omega arith)

module _ {near class : Column} (s : Shaped near class) where
  -- only a row has rows by it
  pub beside_source : (j k i : ℕ) → beside_in near class j k ≡ i → i < length class → j < length class
  beside_source j k i h l =
      by_cases (dec_lt j (length class)) (λ m. m)
      (λ m. let none = beside_none near class j k (omega arith) in absurd (omega (arith, s.few)))

  -- the row at place k by row j is a sink where a test of the two classes says so,
  module _ (j k i : ℕ) (test : ℕ → ℕ → Bool) where
    pub placed : sink_if (test (row class j) (row class (beside_in near class j k))) (beside_in near class j k) ≡ i → i < length class
        → (beside_in near class j k ≡ i) × (test (row class j) (row class i) ≡ true)
    placed h l =
        let (t, p) = sink_if_row (test (row class j) (row class (beside_in near class j k))) (beside_in near class j k) i h (omega (arith, s.few)) in
        (p, rw p at t)

    -- and only there
    pub place_sink : beside_in near class j k ≡ i → test (row class j) (row class i) ≡ true
        → sink_if (test (row class j) (row class (beside_in near class j k))) (beside_in near class j k) ≡ i
    place_sink p t = rw (p, t)
