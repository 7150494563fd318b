-- Laws: the edges that lead to dust from its neighbours, of a table's columns and of the table.
-- Assumes nothing.
use Rattle.std.proofs.Common.{Some, None}
use mathlib.Core.Path.{◌≡◌, refl, ap, sym, ◌∙◌}
use mathlib.Core.Bool.{Bool, true, false, cond, not, ◌&&◌, ◌||◌, false≢true, and-true, and_assoc, and_comm}
use Prim.Native.Nat.{ℕ, ◌+◌, ◌-◌, ◌<◌}
use native.Mathlib.Omega.{arith}
use lib.Dec.{eqb, leb}
use borrow.Author.Tests.{eqb-true, eq-eqb, leb-true, le-leb, ltb-true, lt-ltb}
use Rattle.columns.specs.Column.{Bytes}
use Rattle.columns.proofs.Truth.{and_true as both}
use Rattle.blocks.specs.Kind.{is_dust, is_source, is_diode}
use Rattle.places.specs.Places.{opposite, is_horizontal, step, beside, is_at}
use Rattle.places.proofs.Steps.{down, level, up}
use Rattle.world.specs.Rows.{rows, pos_of, kind_of, facing_of}
use Rattle.traits.specs.Traits.{traits}
use Rattle.refusals.specs.Accepted.{Table}
use Rattle.refusals.proofs.Accepted.{in-range}
use Rattle.connectivity.specs.Ports.{ahead, output_of}
use Rattle.arms.specs.Arms.{arm_of}
use Rattle.edges.specs.Edges.{outputs_to, feeds, touches, emitted_to_dust_by, emitted_to_dust, strong_to_dust_by, strong_to_dust}
use Rattle.classes.specs.Class.{drives_in, has_arm_in}
use Rattle.circuit.specs.declared.Edge.TheVariants.{EmittedToDust, StrongToDust}
use Rattle.classes.specs.Towards.{is_beside, feeds_in, touched_in}
use Rattle.circuit.specs.Circuit.{sink_of, some_below, edge_in}
use Rattle.adjacency.specs.Adjacency.{place_by, near_of}
use Rattle.prepare.specs.Classes.{classes_of}
use Rattle.prepare.proofs.Rows.{class_at, same_truth, class-at}
use Rattle.prepare.proofs.Sinks.{and_left, sorted, stands_by, edge_part}
use Rattle.prepare.proofs.Along.{along-arm}
use Rattle.prepare.proofs.Steps.{same_back, beside_told, place_step}

-- the places by a row, in the order of the test on the right
above_below_along : (x : ℕ → Bool) → some_below x 6 ≡ (x 5 || (x 4 || (x 2 || (x 3 || (x 0 || (x 1 || false))))))
unfolding some_below
above_below_along x = simp sorted

dust_first : (a b d e : Bool) → (a && (b && (d && e))) ≡ ((d && (a && b)) && e)
dust_first a b d e = simp (and_assoc, and_comm, and_left)

module _ (p t : Bytes) (table : Table t) (j i : ℕ) (hj : j < rows t) (hi : i < rows t) where
  -- row i stands at the output of j where it stands beside it along j's facing
  ahead_at : (f k : ℕ) → k < 6 → stands_by t j i k ≡ true → (is_beside k && eqb f (k + 1)) ≡ is_at (ahead (pos_of t j) f) (pos_of t i)
  unfolding ahead place_by
  ahead_at f k l stands = same_truth there (λ e. back (is_horizontal f) refl e)
    where
      there : (is_beside k && eqb f (k + 1)) ≡ true → is_at (ahead (pos_of t j) f) (pos_of t i) ≡ true
      there e =
          let (beside, along) = both (is_beside k) (eqb f (k + 1)) e in
          let few = ltb-true k 4 beside in
          rw (eqb-true f (k + 1) along, le-leb 1 (k + 1) (omega arith), le-leb (k + 1) 4 (omega (arith, few))) (rw beside at stands)

      back : (b : Bool) → is_horizontal f ≡ b → is_at (cond b (Some (beside (pos_of t j) f)) None) (pos_of t i) ≡ true
          → (is_beside k && eqb f (k + 1)) ≡ true
      back true h e =
          let (low, high) = both (leb 1 f) (leb f 4) h in
          let few : f - 1 < 4 = omega (arith, leb-true 1 f low, leb-true f 4 high) in
          let is : f - 1 + 1 ≡ f = omega (arith, leb-true 1 f low) in
          let step = rw (place_step t j k l) at stands in
          let same : k ≡ f - 1 = beside_told (pos_of t j) (pos_of t i) (in-range t table j hj) (f - 1) k few l (rw is e) step in
          rw (lt-ltb k 4 (omega arith), eq-eqb f (k + 1) (omega arith))
      back false h e = absurd (false≢true e)

  feeds_at : (k : ℕ) → k < 6 → stands_by t j i k ≡ true → feeds_in (class_at p t j) k ≡ feeds t j i
  unfolding feeds outputs_to output_of
  feeds_at k l e =
      let d = is_diode (kind_of t j) in
      let f = facing_of t j in
      rw ((class-at p t table j hj).kind, (class-at p t table j hj).facing)
      (ap (λ b. is_source (kind_of t j) || b) (and_left (is_beside k) d (eqb f (k + 1)) ∙ ap (λ b. d && b) (ahead_at f k l e)))

  touched : ℕ → Bool
  touched k = cond (is_beside k) (has_arm_in (class_at p t i) (opposite (k + 1))) true

  touched_some : some_below (λ k. stands_by t j i k && touched k) 6 ≡ touches (arm_of p t) t j i
  unfolding touched touches place_by opposite beside step
  touched_some =
      let q = pos_of t j in
      let r = pos_of t i in
      let g = in-range t table j hj in
      let h = in-range t table i hi in
      above_below_along (λ k. stands_by t j i k && touched k)
      ∙ rw (
        and-true (stands_by t j i 4),
        and-true (stands_by t j i 5),
        same_back level up level q r g h,
        same_back level down level q r g h,
        same_back level level down q r g h,
        same_back up level level q r g h,
        same_back level level up q r g h,
        same_back down level level q r g h,
        along-arm p t table i j hi hj,
      )

  pub emitted-to-dust : edge_in (near_of t) (classes_of p t) EmittedToDust j i ≡ emitted_to_dust p t j i
  unfolding edge_in sink_of emitted_to_dust_by touched
  emitted-to-dust =
      let d = is_dust (kind_of t i) in
      let fed = feeds t j i in
      edge_part p t table j i hj hi (λ k x. feeds_in (class_at p t j) k && touched_in (class_at p t x) k) (d && fed) touched 6 (omega arith)
      (λ k l e. rw (feeds_at k l e, (class-at p t table i hi).kind) (and_left fed d (touched k) ∙ sym (and_assoc d fed (touched k))))
      ∙ rw touched_some (and_assoc d fed _)

  pub strong-to-dust : edge_in (near_of t) (classes_of p t) StrongToDust j i ≡ strong_to_dust p t j i
  unfolding edge_in sink_of strong_to_dust_by touched
  strong-to-dust =
      let d = is_dust (kind_of t i) in
      let unfed = not (feeds t j i) in
      let drives = (traits p t j).drives in
      edge_part p t table j i hj hi (λ k x. not (feeds_in (class_at p t j) k) && (drives_in (class_at p t j) && touched_in (class_at p t x) k))
      (d && (unfed && drives)) touched 6 (omega arith)
      (λ k l e. rw (feeds_at k l e, (class-at p t table j hj).drives, (class-at p t table i hi).kind) (dust_first unfed drives d (touched k)))
      ∙ rw touched_some (simp and_assoc)
