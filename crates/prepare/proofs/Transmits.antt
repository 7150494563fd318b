-- Laws: the edges along which dust transmits to dust, of a table's columns and of the table.
-- Assumes nothing.
use Rattle.std.proofs.Common.{Option, None}
use mathlib.Core.Path.{◌≡◌, refl, ap, sym, ◌∙◌}
use mathlib.Core.Bool.{Bool, true, false, cond, ◌&&◌, ◌||◌, and-false, and_assoc}
use mathlib.Core.List.{Memᴰ}
use Prim.Native.Nat.{ℕ, ◌+◌, ◌<◌}
use native.Mathlib.Omega.{arith}
use lib.Dec.{eqb}
use borrow.Author.Tests.{lt-ltb}
use Rattle.columns.specs.Column.{Bytes}
use Rattle.columns.specs.First.{on_found}
use Rattle.columns.specs.declared.Found.{Found}
use Rattle.columns.specs.declared.Found.TheVariants.{At, Nothing}
use Rattle.blocks.specs.Kind.{is_dust}
use Rattle.places.specs.Places.{North, East, South, West, horizontals, opposite, beside, above, below, same_pos}
use Rattle.places.proofs.Order.{same_pos_true}
use Rattle.places.proofs.Steps.{opposite_horizontal}
use Rattle.world.specs.Rows.{rows, pos_of, kind_of}
use Rattle.world.specs.Find.{find}
use Rattle.world.proofs.Finding.{found_stands}
use Rattle.traits.specs.Traits.{nothing, traits, traits_at, rises_by}
use Rattle.refusals.specs.Accepted.{Table}
use Rattle.refusals.proofs.Accepted.{in-range}
use Rattle.arms.specs.Arms.{arm_of}
use Rattle.wire.specs.declared.transfer.DustTransfer.{DustTransfer}
use Rattle.wire.specs.Transfer.{fits_horizontal, fits_rise, fits_fall, rule_along, first_rule, transfer_by, is_transfer, transmits_by, transmits}
use Rattle.wire.proofs.Any.{along_any, first_any}
use Rattle.edges.proofs.Networks.{and_same}
use Rattle.classes.specs.Class.{drives_in, kind_in, arm_in, has_arm_in, rises_by_in}
use Rattle.circuit.specs.declared.Edge.TheVariants.{Transmits}
use Rattle.classes.specs.Towards.{Above, Below, leads_in, touched_in}
use Rattle.circuit.specs.Circuit.{no_row, level_sink, upper_sink, lower_sink, sink_of, some_below, edge_in}
use Rattle.adjacency.specs.Adjacency.{place_by, row_by, near_of}
use Rattle.prepare.specs.Classes.{classes_of}
use Rattle.prepare.proofs.Rows.{or_no_row, class_at, next_to, length_classes, class_past, class-at, beside_is, is_sink}
use Rattle.prepare.proofs.Sinks.{and_left, sorted, horizontal, beside_row}
use Rattle.prepare.proofs.Along.{has-arm, rises-by}
use Rattle.prepare.proofs.Steps.{beside_back, beside_below}

-- ---- the order of a test's parts

dusts_first : (s a b c : Bool) → (s && (a && (b && c))) ≡ ((a && b) && (s && c))
dusts_first s a b c = simp (and_assoc, and_left)

arms_last : (s a b x y : Bool) → (s && ((a && x) && (b && y))) ≡ ((a && b) && (s && (x && y)))
arms_last s a b x y = simp (and_assoc, and_left)

twelve : (d : Bool) (h r f : ℕ → Bool)
    → ((((((((((((false || (d && h 1)) || (d && h 2)) || (d && h 3)) || (d && h 4)) || (d && r 1)) || (d && r 2)) || (d && r 3)) || (d && r 4))
    || (d && f 1)) || (d && f 2)) || (d && f 3)) || (d && f 4))
    ≡ (d && ((h 1 || (r 1 || f 1)) || ((h 2 || (r 2 || f 2)) || ((h 3 || (r 3 || f 3)) || (h 4 || (r 4 || f 4))))))
twelve d h r f = simp sorted

-- ---- a transfer between dusts is by some rule along some facing

transfers_both : (d : Bool) (x : Option DustTransfer) → is_transfer (cond d x None) ≡ (d && is_transfer x)
transfers_both true x = refl
transfers_both false x = refl

module _ (p t : Bytes) (table : Table t) (j i : ℕ) (hj : j < rows t) (hi : i < rows t) where
  abbrev dusts : Bool
  dusts = is_dust (kind_of t j) && is_dust (kind_of t i)

  abbrev along : ℕ → Bool
  along f = fits_horizontal (arm_of p t) t j i f || (fits_rise (arm_of p t) p t j i f || fits_fall (arm_of p t) p t j i f)

  transmits_some : transmits p t j i ≡ (dusts && (along North || (along East || (along South || along West))))
  unfolding transmits_by transfer_by rule_along
  transmits_some =
      transfers_both dusts (first_rule (rule_along (arm_of p t) p t j i) horizontals)
      ∙ ap (λ b. dusts && b) (first_any (rule_along (arm_of p t) p t j i) ∙ simp along_any)

  -- the sinks along the facing g
  module _ (f : ℕ) (hf : f < 4) where
    abbrev g : ℕ
    g = f + 1

    m : Memᴰ g horizontals
    m = horizontal f hf

    level : eqb (level_sink (near_of t) (classes_of p t) j f) i ≡ (dusts && fits_horizontal (arm_of p t) t j i g)
    unfolding level_sink fits_horizontal place_by
    level =
        let q = pos_of t j in
        let r = in-range t table j hj in
        let at = same_pos (beside q g) (pos_of t i) in
        let from = has_arm_in (class_at p t j) g in
        let to = has_arm_in (class_at p t i) (opposite g) in
        let arms : (at && (from && to)) ≡ fits_horizontal (arm_of p t) t j i g =
        and_same at
        (λ e.
        let there = same_pos_true (beside q g) (pos_of t i) e in
        let back = has-arm p t table i j hi hj (opposite g) (opposite_horizontal q r g m) (beside_back q r g (pos_of t i) m there) in
        rw (has-arm p t table j i hj hi g m there, back)) in
        is_sink t table i hi (λ x. leads_in (class_at p t j) f && touched_in (class_at p t x) f) _
        ∙ rw (beside_row p t table j i hj hi f (omega arith), lt-ltb f 4 hf, (class-at p t table j hj).kind, (class-at p t table i hi).kind, ← arms)
        (arms_last at (is_dust (kind_of t j)) (is_dust (kind_of t i)) from to)

    -- through the block beside, x
    upper_through : (x : Found) → find t (beside (pos_of t j) g) ≡ x
        → (eqb (next_to p t (or_no_row x) Above) i
        && (is_dust (kind_of t j) && (is_dust (kind_of t i) && rises_by_in (class_at p t (or_no_row x)) (arm_in (class_at p t j) g))))
        ≡ (dusts && (same_pos (above (beside (pos_of t j) g)) (pos_of t i) && rises_by (on_found (traits p t) nothing x) (arm_of p t j g)))
    unfolding place_by
    upper_through (At a) e =
        let (ha, is) = found_stands t (beside (pos_of t j) g) a e in
        let at = same_pos (above (beside (pos_of t j) g)) (pos_of t i) in
        rw (beside_row p t table a i ha hi Above (omega arith), is, rises-by p t table j a hj ha g m (sym is) a ha)
        (dusts_first at (is_dust (kind_of t j)) (is_dust (kind_of t i)) (rises_by (traits p t a) (arm_of p t j g)))
    upper_through Nothing e = rw (class_past p t no_row (omega (arith, table.few))) (simp and-false)

    upper : eqb (upper_sink (near_of t) (classes_of p t) j f) i ≡ (dusts && fits_rise (arm_of p t) p t j i g)
    unfolding upper_sink fits_rise traits_at row_by place_by
    upper =
        let a = next_to p t j f in
        is_sink t table i hi
        (λ x. is_dust (kind_in (class_at p t j)) && (is_dust (kind_in (class_at p t x)) && rises_by_in (class_at p t a) (arm_in (class_at p t j) g))) _
        ∙ rw (beside_is p t j f hj (omega arith), lt-ltb f 4 hf, (class-at p t table j hj).kind, (class-at p t table i hi).kind)
        (upper_through (find t (beside (pos_of t j) g)) refl)

    -- through the block below, x
    lower_through : (x : Found) → find t (below (pos_of t j)) ≡ x
        → (eqb (next_to p t (or_no_row x) f) i
        && (is_dust (kind_of t j)
        && (is_dust (kind_of t i)
        && (drives_in (class_at p t (or_no_row x)) && rises_by_in (class_at p t (or_no_row x)) (arm_in (class_at p t i) (opposite g))))))
        ≡ (dusts
        && (same_pos (below (beside (pos_of t j) g)) (pos_of t i)
        && ((on_found (traits p t) nothing x).drives && rises_by (on_found (traits p t) nothing x) (arm_of p t i (opposite g)))))
    unfolding place_by
    lower_through (At b) e =
        let (hb, is) = found_stands t (below (pos_of t j)) b e in
        let q = pos_of t b in
        let r = in-range t table b hb in
        let same = beside_below (pos_of t j) (in-range t table j hj) g (rw is at r) in
        let at = same_pos (beside q g) (pos_of t i) in
        let drives = (traits p t b).drives in
        let rise = rises_by_in (class_at p t b) (arm_in (class_at p t i) (opposite g)) in
        let rises : (at && (drives && rise)) ≡ (at && (drives && rises_by (traits p t b) (arm_of p t i (opposite g)))) =
        and_same at
        (λ e.
        let back = beside_back q r g (pos_of t i) m (same_pos_true (beside q g) (pos_of t i) e) in
        rw (rises-by p t table i b hi hb (opposite g) (opposite_horizontal q r g m) back b hb)) in
        rw (beside_row p t table b i hb hi f (omega arith), lt-ltb f 4 hf, (class-at p t table b hb).drives, ← same, ← is, ← rises)
        (dusts_first at (is_dust (kind_of t j)) (is_dust (kind_of t i)) (drives && rise))
    lower_through Nothing e = rw (class_past p t no_row (omega (arith, table.few))) (simp and-false)

    lower : eqb (lower_sink (near_of t) (classes_of p t) j f) i ≡ (dusts && fits_fall (arm_of p t) p t j i g)
    unfolding lower_sink fits_fall traits_at row_by place_by
    lower =
        let b = next_to p t j Below in
        is_sink t table i hi
        (λ x.
        is_dust (kind_in (class_at p t j))
        && (is_dust (kind_in (class_at p t x)) && (drives_in (class_at p t b) && rises_by_in (class_at p t b) (arm_in (class_at p t x) (opposite g)))))
        _
        ∙ rw (beside_is p t j Below hj (omega arith), (class-at p t table j hj).kind, (class-at p t table i hi).kind)
        (lower_through (find t (below (pos_of t j))) refl)

  pub transmits_alike : edge_in (near_of t) (classes_of p t) Transmits j i ≡ transmits p t j i
  unfolding edge_in sink_of some_below
  transmits_alike =
      rw (
        length_classes p t,
        lt-ltb i (rows t) hi,
        level 0 (omega arith),
        level 1 (omega arith),
        level 2 (omega arith),
        level 3 (omega arith),
        upper 0 (omega arith),
        upper 1 (omega arith),
        upper 2 (omega arith),
        upper 3 (omega arith),
        lower 0 (omega arith),
        lower 1 (omega arith),
        lower 2 (omega arith),
        lower 3 (omega arith),
        transmits_some,
      )
      (twelve dusts (fits_horizontal (arm_of p t) t j i) (fits_rise (arm_of p t) p t j i) (fits_fall (arm_of p t) p t j i))
