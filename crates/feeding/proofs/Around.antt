-- Laws: the feeders of a row that are read off the columns of an accepted table are the dust that transmits into it. Dust rises or falls past a block
-- that is there, beside the lower dust and under the upper one, so that two places, one after the other, lead from either to the other.
-- Assumes nothing.
use mathlib.Core.Path.{◌≡◌, refl, ap, sym, ◌∙◌}
use mathlib.Core.Logic.{by_cases}
use mathlib.Core.Bool.{Bool, true, false, cond, ◌&&◌}
use Prim.Native.Nat.{ℕ, zero, suc, ◌+◌, ◌-◌, ◌%◌, ◌<◌}
use native.Mathlib.Decide.{dec_lt}
use native.Mathlib.Omega.{arith}
use lib.Dec.{eqb, ltb}
use borrow.Author.Tests.{eqb-true, eq-eqb, lt-ltb}
use Rattle.columns.specs.Column.{Bytes, row}
use Rattle.columns.specs.First.{all_below}
use Rattle.columns.proofs.First.{all_at}
use Rattle.columns.proofs.Truth.{and_true}
use Rattle.blocks.specs.Kind.{is_dust}
use Rattle.places.specs.Signed.{zero_z, one, minus_one}
use Rattle.places.specs.Places.{opposite, step, beside, above, below, before}
use Rattle.places.proofs.Order.{same_pos_true, before_irrefl, before_trans}
use Rattle.places.proofs.Steps.{InRange, down, level, up, sideways, over_beside}
use Rattle.world.specs.Rows.{rows, pos_of}
use Rattle.refusals.specs.Accepted.{Table}
use Rattle.refusals.proofs.Accepted.{in-range, later_after}
use Rattle.wire.specs.Transfer.{transmits}
use Rattle.classes.specs.Class.{drives_in, kind_in, arm_in, rises_by_in}
use Rattle.circuit.specs.declared.Edge.TheVariants.{Transmits}
use Rattle.classes.specs.Towards.{places, Above, Below, leads_in, touched_in}
use Rattle.circuit.specs.Circuit.{no_row, Shaped, sink_if, level_sink, upper_sink, lower_sink, some_below, edge_in}
use Rattle.circuit.proofs.Ways.{some_holds, Way, edge_way, way_level, way_upper, way_lower, beside_source, placed}
use Rattle.circuit.proofs.Ends.{edge_ends}
use Rattle.adjacency.specs.Adjacency.{place_by, near_of}
use Rattle.prepare.specs.Classes.{classes_of}
use Rattle.prepare.proofs.Rows.{class_at, next_to, length_classes}
use Rattle.prepare.proofs.Sinks.{stands_by, beside_row}
use Rattle.prepare.proofs.Steps.{same_back, beside_below}
use Rattle.prepare.proofs.Transmits.{transmits_alike}
use Rattle.prepare.proofs.Table.{prepared_shaped}
use Rattle.feeding.specs.Around.{around_place, around_height, rows_among, around_in, feeder_in}
use Rattle.feeding.specs.Feeders.{feeders_of}
use Rattle.feeding.proofs.Rising.{Gives, Lists, lists_all}
use Rattle.feeding.proofs.Positions.{around_at, around_rise}

-- ---- the place and the height of the k-th position

place_few : (k : ℕ) → around_place k < 4
place_few k = go (ltb k 3) (ltb k 9) (eqb (k % 2) 1)
  where
    go : (a b c : Bool) → cond a 3 (cond b (cond c 0 2) 1) < 4
    go true b c = omega arith
    go false true true = omega arith
    go false true false = omega arith
    go false false c = omega arith

-- each place beside, at each height, is one of the twelve
record Index (f h : ℕ) : Type 0 where
  at : ℕ
  inside : at < 12
  place : around_place at ≡ f
  height : around_height at ≡ h

index : (f h : ℕ) → f < 4 → h < 3 → Index f h
unfolding some_below
index f h l m =
    let is : ℕ → ℕ → ℕ → Bool = λ f h k. eqb (around_place k) f && eqb (around_height k) h in
    let w = some_holds (is f h) 12 (all_at (λ h. some_below (is f h) 12) 3 (all_at (λ f. all_below (λ h. some_below (is f h) 12) 3) 4 refl f l) h m) in
    let (p, q) = and_true (eqb (around_place w.at) f) _ w.holds in
    record { at = w.at; inside = w.below; place = eqb-true _ f p; height = eqb-true _ h q }

module _ (p t : Bytes) (table : Table t) where
  abbrev edge : ℕ → ℕ → Bool
  edge j i = edge_in (near_of t) (classes_of p t) Transmits j i

  abbrev around : ℕ → ℕ → ℕ
  around i k = around_in (near_of t) (classes_of p t) i k

  abbrev feeder : ℕ → ℕ → ℕ
  feeder i k = feeder_in (near_of t) (classes_of p t) i k

  -- the row at a place beside row i and a height
  abbrev aside : ℕ → ℕ → Bool → Bool → ℕ
  aside i f low mid = cond low (next_to p t (next_to p t i Below) f) (cond mid (next_to p t i f) (next_to p t (next_to p t i f) Above))

  shaped : Shaped (near_of t) (classes_of p t)
  shaped = prepared_shaped p t table

  -- ---- a row that is found at a place by another, which is a row too

  next_stands : (j k i : ℕ) → k < places → next_to p t j k ≡ i → i < rows t → (j < rows t) × (stands_by t j i k ≡ true)
  next_stands j k i h e hi =
      let hj : j < rows t = rw (length_classes p t) at (beside_source shaped j k i e (rw (length_classes p t) hi)) in
      (hj, sym (beside_row p t table j i hj hi k h) ∙ eq-eqb _ i e)

  -- stands there,
  beside_stands : (j f i : ℕ) → f < 4 → next_to p t j f ≡ i → i < rows t → (j < rows t) × (beside (pos_of t j) (f + 1) ≡ pos_of t i)
  unfolding place_by
  beside_stands j f i h e hi =
      let (hj, s) = next_stands j f i (omega arith) e hi in
      (hj, same_pos_true _ _ (rw (lt-ltb f 4 h) at s))

  above_stands : (j i : ℕ) → next_to p t j Above ≡ i → i < rows t → (j < rows t) × (above (pos_of t j) ≡ pos_of t i)
  unfolding place_by
  above_stands j i e hi = let (hj, s) = next_stands j Above i (omega arith) e hi in (hj, same_pos_true _ _ s)

  below_stands : (j i : ℕ) → next_to p t j Below ≡ i → i < rows t → (j < rows t) × (below (pos_of t j) ≡ pos_of t i)
  unfolding place_by
  below_stands j i e hi = let (hj, s) = next_stands j Below i (omega arith) e hi in (hj, same_pos_true _ _ s)

  -- and has the other at the opposite place
  back : (j k m i : ℕ) → k < places → m < places → (InRange (pos_of t j) → InRange (pos_of t i) → stands_by t j i k ≡ stands_by t i j m)
      → next_to p t j k ≡ i → i < rows t → next_to p t i m ≡ j
  back j k m i h g same e hi =
      let (hj, s) = next_stands j k i h e hi in
      eqb-true _ j (beside_row p t table i j hi hj m g ∙ sym (same (in-range t table j hj) (in-range t table i hi)) ∙ s)

  side_back : (j f i : ℕ) → f < 4 → next_to p t j f ≡ i → i < rows t → next_to p t i ((f + 2) % 4) ≡ j
  unfolding place_by beside step
  side_back j zero i h = back j 0 2 i (omega arith) (omega arith) (same_back level level down (pos_of t j) (pos_of t i))
  side_back j (suc zero) i h = back j 1 3 i (omega arith) (omega arith) (same_back up level level (pos_of t j) (pos_of t i))
  side_back j (suc (suc zero)) i h = back j 2 0 i (omega arith) (omega arith) (same_back level level up (pos_of t j) (pos_of t i))
  side_back j (suc (suc (suc zero))) i h = back j 3 1 i (omega arith) (omega arith) (same_back down level level (pos_of t j) (pos_of t i))
  side_back j (suc (suc (suc (suc f)))) i h = absurd (omega arith)

  above_back : (j i : ℕ) → next_to p t j Above ≡ i → i < rows t → next_to p t i Below ≡ j
  unfolding place_by
  above_back j i = back j Above Below i (omega arith) (omega arith) (same_back level up level (pos_of t j) (pos_of t i))

  below_back : (j i : ℕ) → next_to p t j Below ≡ i → i < rows t → next_to p t i Above ≡ j
  unfolding place_by
  below_back j i = back j Below Above i (omega arith) (omega arith) (same_back level down level (pos_of t j) (pos_of t i))

  -- ---- a row that is found at the k-th position around another stands there

  around_stands : (i k j : ℕ) → around i k ≡ j → j < rows t → pos_of t j ≡ around_at (pos_of t i) k
  unfolding around_in beside
  around_stands i k j e hj = go (around_place k) (place_few k) (eqb (around_height k) 0) (eqb (around_height k) 1) e
    where
      go : (f : ℕ) → f < 4 → (low mid : Bool) → aside i f low mid ≡ j
          → pos_of t j ≡ sideways (pos_of t i) (f + 1) (cond low minus_one (cond mid zero_z one))
      go f h true mid e =
          let b = next_to p t i Below in
          let (hb, side) = beside_stands b f j h e hj in
          let (hi, under) = below_stands i b refl hb in
          let inside = in-range t table i hi in
          sym side
          ∙ ap (λ q. beside q (f + 1)) (sym under)
          ∙ beside_below (pos_of t i) inside (f + 1) (rw under (in-range t table b hb))
          ∙ over_beside (pos_of t i) inside (f + 1) down
      go f h false true e = sym (beside_stands i f j h e hj).1
      go f h false false e =
          let a = next_to p t i f in
          let (ha, over) = above_stands a j e hj in
          let (hi, side) = beside_stands i f a h refl ha in
          sym over ∙ ap above (sym side) ∙ over_beside (pos_of t i) (in-range t table i hi) (f + 1) up

  -- ---- each row that transmits is found at one of them

  module _ (j i : ℕ) (hj : j < rows t) (hi : i < rows t) (e : transmits p t j i ≡ true) where
    way : Way (near_of t) (classes_of p t) Transmits j i
    way = edge_way (transmits_alike p t table j i hj hi ∙ e)

    at_place : (f h : ℕ) → f < 4 → h < 3 → aside i f (eqb h 0) (eqb h 1) ≡ j → Gives (feeder i) 12 j
    unfolding around_in feeder_in
    at_place f h l m path =
        let x = index f h l m in
        let there : around i x.at ≡ j = rw (x.place, x.height) path in
        record { place = x.at; inside = x.inside; is = rw (there, transmits_alike p t table j i hj hi, e) refl }

    by_level : way.k < 4 → Gives (feeder i) 12 j
    unfolding level_sink
    by_level n =
        let f = way.k in
        let (side, _) = placed shaped j f i (λ c d. leads_in c f && touched_in d f) (sym (way_level _ _ j f n) ∙ way.leads) way.inside in
        at_place ((f + 2) % 4) 1 (omega arith) (omega arith) (side_back j f i n side hi)

    by_rise : ¬ (way.k < 4) → way.k < 8 → Gives (feeder i) 12 j
    unfolding upper_sink
    by_rise n m =
        let f = way.k - 4 in
        let a = next_to p t j f in
        let test : ℕ → ℕ → Bool = λ c d. is_dust (kind_in (class_at p t j)) && (is_dust (kind_in d) && rises_by_in c (arm_in (class_at p t j) (f + 1))) in
        let (over, _) = placed shaped a Above i test (sym (way_upper _ _ j way.k (omega arith) m) ∙ way.leads) way.inside in
        let under = above_back a i over hi in
        at_place ((f + 2) % 4) 0 (omega arith) (omega arith) (rw under (side_back j f a (omega arith) refl (above_stands a i over hi).0))

    by_fall : ¬ (way.k < 4) → ¬ (way.k < 8) → Gives (feeder i) 12 j
    unfolding lower_sink
    by_fall n m =
        let f = way.k - 8 in
        let l : f < 4 = omega (arith, way.within) in
        let b = next_to p t j Below in
        let test : ℕ → ℕ → Bool = λ c d. is_dust (kind_in (class_at p t j)) && (is_dust (kind_in d) && (drives_in c && rises_by_in c (arm_in d (opposite (f + 1))))) in
        let (side, _) = placed shaped b f i test (sym (way_lower _ _ j way.k (omega arith)) ∙ way.leads) way.inside in
        let back = side_back b f i l side hi in
        at_place ((f + 2) % 4) 2 (omega arith) (omega arith) (rw back (below_back j b refl (beside_stands b f i l side hi).0))

    transmits_found : Gives (feeder i) 12 j
    transmits_found = by_cases (dec_lt way.k 4) by_level (λ n. by_cases (dec_lt way.k 8) (by_rise n) (by_fall n))

  -- ---- so that those which are found are all, in the table's order

  in_order : (a b : ℕ) → a < rows t → b < rows t → before (pos_of t a) (pos_of t b) ≡ true → a < b
  in_order a b ha hb h =
      by_cases (dec_lt a b) (λ l. l) λ n.
      by_cases (dec_lt b a)
      (λ l. absurd (before_irrefl (pos_of t a) (before_trans (pos_of t a) (pos_of t b) (pos_of t a) h (later_after t table b a l ha))))
      (λ m. let same : a ≡ b = omega arith in absurd (before_irrefl (pos_of t b) (rw same at h)))

  module _ (i : ℕ) (hi : i < rows t) where
    abbrev Feeds : ℕ → ℕ → Type 0
    Feeds k j = (j < rows t) × (transmits p t j i ≡ true) × (pos_of t j ≡ around_at (pos_of t i) k)

    feeder_row : (k : ℕ) → ¬ (feeder i k ≡ no_row) → Feeds k (feeder i k)
    unfolding feeder_in
    feeder_row k = go (edge (around i k) i) refl
      where
        go : (b : Bool) → edge (around i k) i ≡ b → ¬ (sink_if b (around i k) ≡ no_row) → Feeds k (sink_if b (around i k))
        go true e row =
            let j = around i k in
            let hj : j < rows t = rw (length_classes p t) at (edge_ends shaped Transmits j i e).source in
            (hj, sym (transmits_alike p t table j i hj hi) ∙ e, around_stands i k j refl hj)
        go false e row = absurd (row refl)

    lists : Lists (feeder i) 12 (λ j. transmits p t j i) (rows t)
    lists =
        record {
          few = omega (arith, table.few);
          passes = λ k _ row. let (inside, feeds, _) = feeder_row k row in (inside, feeds);
          rises = λ k m l h row other.
              let (hk, _, k-stands) = feeder_row k row in
              let (hm, _, m-stands) = feeder_row m other in
              in_order (feeder i k) (feeder i m) hk hm (rw (k-stands, m-stands) (around_rise (pos_of t i) (in-range t table i hi) k m l h));
          all = λ j hj e. transmits_found j i hj hi e;
        }

    pub feeders_found : rows_among (feeder i) 12 ≡ feeders_of p t i
    unfolding feeders_of
    feeders_found = lists_all lists
