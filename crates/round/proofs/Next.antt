-- Laws of a round's columns: what spreads over the direct levels and over the weak power from strong power, and dust that starts at 0.
-- Assumes nothing.
use mathlib.Core.Path.{◌≡◌, refl, ap, ◌∙◌}
use mathlib.Core.Bool.{cond}
use Prim.Native.Nat.{ℕ, ◌<◌, min}
use native.Mathlib.Omega.{arith}
use lib.ListN.{length}
use Rattle.columns.specs.Column.{Column, row, tabulate}
use Rattle.columns.specs.Signal.{max_signal}
use Rattle.columns.proofs.Columns.{row_tabulate, is_tabulate, same_rule}
use Rattle.network.specs.Network.{signals}
use Rattle.blocks.specs.Kind.{is_dust}
use Rattle.circuit.specs.declared.Edge.TheVariants.{DustToWeak, Transmits}
use Rattle.classes.specs.Class.{kind_in}
use Rattle.circuit.specs.Circuit.{circuit, signals_in}
use Rattle.spread.specs.Spread.{spread}
use Rattle.spread.proofs.Spreads.{row_spread}
use Rattle.power.proofs.Spreading.{spread_over}
use Rattle.round.specs.Round.{next_signals, next_weaks}

-- by levels that are the same at every row
signals_same : (class e : Column) (x y : ℕ → ℕ) → ((i : ℕ) → i < length class → x i ≡ y i) → signals_in class e x ≡ signals_in class e y
unfolding signals_in
signals_same class e x y h = same_rule (length class) _ _ (λ i l. ap (λ v. cond (is_dust (kind_in (row class i))) v (row e i)) (h i l))

pub signals_first : (class e : Column) {n : ℕ} {levels out : Column} → n ≡ length class → levels ≡ tabulate n (λ _. 0)
    → out ≡ signals_in class e (λ i. min max_signal (row levels i)) → out ≡ signals_in class e (λ _. 0)
signals_first class e {n} long is made = made ∙ signals_same class e _ _ (λ i l. rw (is, row_tabulate n (λ _. 0) i (rw long l)))

module _ (near class s : Column) (sized : length s ≡ length class) where
  pub signals_next : (e direct : Column) {copied levels out : Column} → length direct ≡ length class → copied ≡ direct
      → levels ≡ spread Transmits near class 1 s copied → out ≡ signals_in class e (λ i. min max_signal (row levels i))
      → out ≡ next_signals (circuit near class) e direct s
  unfolding signals_in next_signals signals circuit
  signals_next e direct long copy is made =
      made ∙ signals_same class e _ _ (λ i l. rw (is, copy, row_spread Transmits near class 1 s direct i (rw long l), sized) (omega arith))

  pub weaks_next : (base : Column) {copied out : Column} → length base ≡ length class → copied ≡ base → out ≡ spread DustToWeak near class 0 s copied
      → out ≡ next_weaks (circuit near class) base s
  unfolding next_weaks circuit
  weaks_next base long copy is =
      spread_over DustToWeak near class s sized (length class) (row base) is (copy ∙ is_tabulate base _ _ long (λ i l. refl)) refl
