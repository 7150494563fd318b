-- Laws of the emitted levels: they rise with the device bytes, and are at most 15 where those are.
-- Assumes nothing.
use mathlib.Core.Path.{ap, ◌∙◌}
use mathlib.Core.Bool.{Bool, true, false, cond}
use mathlib.Core.Logic.{by_cases}
use Prim.Native.Nat.{ℕ, zero, suc, ◌≤◌, ◌<◌, zero-le}
use native.Mathlib.Nat.{le_refl, min-le_left}
use native.Mathlib.Decide.{dec_lt}
use native.Mathlib.Omega.{arith}
use lib.Dec.{eqb, eqb-suc-zero}
use Rattle.columns.specs.Column.{Bytes, Column, row}
use Rattle.columns.specs.Signal.{max_signal}
use Rattle.network.specs.Compare.{Larger, AtEveryRow₃}
use Rattle.columns.proofs.Columns.{row_tabulate}
use Rattle.network.specs.Laws.Kept.{row_past, tabulate_kept}
use Rattle.network.specs.Laws.Join.{larger_kept, rises_larger}
use Rattle.blocks.specs.Kind.{Comparator, RedstoneBlock, is_switch}
use Rattle.world.specs.Rows.{rows, kind_of, is_powered}
use Rattle.emitted.specs.Emitted.{is_on_off, switch_level, emitted_level, emitted}

cond_rises : (b : Bool) {w x y z : ℕ} → w ≤ x → y ≤ z → cond b w y ≤ cond b x z
cond_rises true g h = g
cond_rises false g h = h

lit_rises : (x y : ℕ) → x ≤ y → cond (eqb x 0) 0 max_signal ≤ cond (eqb y 0) 0 max_signal
lit_rises zero y h = zero-le
lit_rises (suc x) zero h = absurd (omega arith)
lit_rises (suc x) (suc y) h = simp eqb-suc-zero (le_refl 15)

level_rises : (t : Bytes) (i x y : ℕ) → x ≤ y → emitted_level t i x ≤ emitted_level t i y
unfolding emitted_level
level_rises t i x y h =
    cond_rises (eqb (kind_of t i) RedstoneBlock) (le_refl _)
    (cond_rises (is_switch (kind_of t i)) (le_refl _)
    (cond_rises (is_on_off (kind_of t i)) (lit_rises x y h) (cond_rises (eqb (kind_of t i) Comparator) h zero-le)))

-- of the row-wise larger of two device columns the emitted levels are the larger ones
pub emitted_larger : (t : Bytes) {a b c : Column} → AtEveryRow₃ Larger a b c → AtEveryRow₃ Larger (emitted t a) (emitted t b) (emitted t c)
unfolding emitted
emitted_larger t h =
    tabulate_kept larger_kept (rows t) (λ i. rises_larger (emitted_level t i) (level_rises t i) _ _ ∙ ap (emitted_level t i) (h.at i))

either : (c : Bool) {x y m : ℕ} → x ≤ m → y ≤ m → cond c x y ≤ m
either true g h = g
either false g h = h

-- of a device byte that is not overdriven the emitted level is at most the cap, "for every kind",
pub level_capped : (t : Bytes) (i b : ℕ) → b ≤ max_signal → emitted_level t i b ≤ max_signal
unfolding emitted_level switch_level
level_capped t i b h =
    either (eqb (kind_of t i) RedstoneBlock) (le_refl max_signal)
    (either (is_switch (kind_of t i)) (either (is_powered t i) (min-le_left 15 _) zero-le)
    (either (is_on_off (kind_of t i)) (either (eqb b 0) zero-le (le_refl max_signal)) (either (eqb (kind_of t i) Comparator) h zero-le)))

-- and so is every row of the column of them.
pub emitted_capped : (t : Bytes) (d : Column) → ((i : ℕ) → i < rows t → row d i ≤ max_signal) → (i : ℕ) → row (emitted t d) i ≤ max_signal
unfolding emitted
emitted_capped t d h i =
    by_cases (dec_lt i (rows t)) (λ l. rw (row_tabulate (rows t) _ i l) (level_capped t i (row d i) (h i l)))
    (λ n. rw (row_past (rows t) (λ i. emitted_level t i (row d i)) i (omega arith)) zero-le)
