-- Laws: the edges that lead to blocks, of a table's columns and of the table.
-- Assumes nothing.
use mathlib.Core.Path.{◌≡◌, ap, sym, ◌∙◌}
use mathlib.Core.Bool.{Bool, false, true, cond, ◌&&◌, ◌||◌, and-true, and-false, or-false, and_assoc, and_comm}
use Prim.Native.Nat.{ℕ, zero, suc, ◌+◌, ◌≤◌, ◌<◌}
use native.Mathlib.Omega.{arith}
use lib.Dec.{eqb}
use borrow.Author.Tests.{ne_eqb, lt-leb}
use Rattle.columns.specs.Column.{Bytes}
use Rattle.blocks.specs.Kind.{RedstoneTorch, RedstoneBlock, is_dust, is_switch, is_diode}
use Rattle.places.specs.declared.Pos.{Pos}
use Rattle.places.specs.Places.{North, East, South, West, beside, below, same_pos, adjacent, is_at}
use Rattle.world.specs.Rows.{rows, pos_of, kind_of, facing_of}
use Rattle.traits.specs.Traits.{traits}
use Rattle.refusals.specs.Accepted.{Table}
use Rattle.connectivity.specs.Ports.{ahead, output_of}
use Rattle.arms.specs.Arms.{arm_of}
use Rattle.edges.specs.Edges.{outputs_to, is_support_of, is_next_to_redstone_block, is_over_torch, emitted_to_strong, strong_to_weak, along_arm, dust_to_weak_by, dust_to_weak}
use Rattle.classes.specs.Class.{weak_in, strong_in, charges_above_in, kind_in, facing_in, has_arm_in}
use Rattle.circuit.specs.declared.Edge.TheVariants.{EmittedToStrong, StrongToWeak, DustToWeak}
use Rattle.classes.specs.Towards.{is_beside, Below, charges_in, leads_in}
use Rattle.circuit.specs.Circuit.{sink_of, some_below, edge_in}
use Rattle.adjacency.specs.Adjacency.{place_by, near_of}
use Rattle.prepare.specs.Classes.{classes_of}
use Rattle.prepare.proofs.Rows.{class_at, class-at}
use Rattle.prepare.proofs.Sinks.{sorted, stands_by, edge_part}
use Rattle.prepare.proofs.Along.{along-arm}

-- the places by a row, in the order of the test on the right
module _ (x : ℕ → Bool) where
  six_neighbours : some_below (λ k. x k && true) 6 ≡ (x 1 || (x 3 || (x 4 || (x 5 || (x 2 || (x 0 || false))))))
  unfolding some_below
  six_neighbours = simp sorted

  below_and_along : some_below x 6 ≡ (x 4 || (x 5 || (x 0 || (x 1 || (x 2 || (x 3 || false))))))
  unfolding some_below
  below_and_along = simp sorted

  reached_strong : (out : ℕ → Bool) (block diode torch above switch : Bool)
      → (((((((false || (x 0 && (block || ((diode && out 0) || false)))) || (x 1 && (block || ((diode && out 1) || false))))
      || (x 2 && (block || ((diode && out 2) || false)))) || (x 3 && (block || ((diode && out 3) || false))))
      || (x 4 && (block || (torch && above)))) || (x 5 && (block || false))) || (x 6 && switch))
      ≡ ((switch && x 6)
      || ((diode && ((x 0 && out 0) || ((x 1 && out 1) || ((x 2 && out 2) || (x 3 && out 3)))))
      || ((block && (x 1 || (x 3 || (x 4 || (x 5 || (x 2 || (x 0 || false))))))) || (above && (torch && x 4)))))
  reached_strong out block diode torch above switch = simp sorted

-- the place ahead is the one beside along that facing, if it is horizontal
ahead_some : (q r : Pos) (f : ℕ)
    → is_at (ahead q f) r
    ≡ ((same_pos (beside q North) r && eqb f North)
    || ((same_pos (beside q East) r && eqb f East) || ((same_pos (beside q South) r && eqb f South) || (same_pos (beside q West) r && eqb f West))))
unfolding ahead
ahead_some q r zero = simp and-false
ahead_some q r (suc zero) = simp (and-true, and-false, or-false)
ahead_some q r (suc (suc zero)) = simp (and-true, and-false, or-false)
ahead_some q r (suc (suc (suc zero))) = simp (and-true, and-false, or-false)
ahead_some q r (suc (suc (suc (suc zero)))) = simp (and-true, and-false)
ahead_some q r (suc (suc (suc (suc (suc n))))) =
    let f : ℕ = suc (suc (suc (suc (suc n)))) in
    let other : (g : ℕ) → g ≤ 4 → eqb f g ≡ false = λ g l. ne_eqb f g (omega arith) in
    simp
    (lt-leb f West (omega arith), other North (omega arith), other East (omega arith), other South (omega arith), other West (omega arith), and-false)

module _ (p t : Bytes) (table : Table t) (j i : ℕ) (hj : j < rows t) (hi : i < rows t) where
  pub strong-to-weak : edge_in (near_of t) (classes_of p t) StrongToWeak j i ≡ strong_to_weak p t j i
  unfolding edge_in sink_of strong_to_weak place_by adjacent
  strong-to-weak =
      edge_part p t table j i hj hi (λ k x. weak_in (class_at p t x)) (traits p t i).weak (λ k. true) 6 (omega arith)
      (λ k l e. (class-at p t table i hi).weak ∙ sym (and-true _))
      ∙ ap (λ b. (traits p t i).weak && b) (six_neighbours (stands_by t j i))

  leads : ℕ → Bool
  leads k = cond (is_beside k) (has_arm_in (class_at p t j) (k + 1)) (eqb k Below)

  below_or_arm : some_below (λ k. stands_by t j i k && leads k) 6 ≡ (same_pos (below (pos_of t j)) (pos_of t i) || along_arm (arm_of p t) t j i)
  unfolding leads place_by
  below_or_arm =
      below_and_along (λ k. stands_by t j i k && leads k)
      ∙ rw (and-false (stands_by t j i 4), and-true (stands_by t j i 5), along-arm p t table j i hj hi)

  pub dust-to-weak : edge_in (near_of t) (classes_of p t) DustToWeak j i ≡ dust_to_weak p t j i
  unfolding edge_in sink_of dust_to_weak_by leads
  dust-to-weak =
      let d = is_dust (kind_of t j) in
      let weak = (traits p t i).weak in
      edge_part p t table j i hj hi (λ k x. leads_in (class_at p t j) k && weak_in (class_at p t x)) (d && weak) leads 6 (omega arith)
      (λ k l e. rw ((class-at p t table j hj).kind, (class-at p t table i hi).weak) (simp (and_assoc, and_comm)))
      ∙ rw below_or_arm (and_assoc d weak _)

  pub emitted-to-strong : edge_in (near_of t) (classes_of p t) EmittedToStrong j i ≡ emitted_to_strong p t j i
  unfolding edge_in sink_of some_below emitted_to_strong is_support_of outputs_to is_next_to_redstone_block is_over_torch output_of place_by adjacent
  emitted-to-strong =
      let c = class_at p t j in
      let k = kind_in c in
      let known = class-at p t table j hj in
      let strong = (traits p t i).strong in
      edge_part p t table j i hj hi (λ k x. charges_in c k && strong_in (class_at p t x)) strong (charges_in c) 7 (omega arith)
      (λ k l e. rw (class-at p t table i hi).strong (and_comm (charges_in c k) strong))
      ∙ ap (λ b. strong && b)
      (reached_strong (stands_by t j i) (λ k. eqb (facing_in c) (k + 1)) (eqb k RedstoneBlock) (is_diode k) (eqb k RedstoneTorch) (charges_above_in c) (is_switch k)
      ∙ rw (known.kind, known.facing, known.above, ahead_some (pos_of t j) (pos_of t i) (facing_of t j)))
