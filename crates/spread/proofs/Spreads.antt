-- Laws of what spreads, and of the loop over the sources.
-- Assumes nothing.
use mathlib.Core.Path.{◌≡◌, refl, ap, sym, ◌∙◌}
use mathlib.Core.Bool.{Bool, true, false, cond}
use Prim.Native.Nat.{ℕ, ◌+◌, ◌-◌, ◌≤◌, ◌<◌, max}
use native.Mathlib.Omega.{arith}
use lib.ListN.{length}
use Rattle.columns.specs.Column.{Column, row, tabulate}
use Rattle.network.specs.Levels.{arriving}
use Rattle.network.specs.Laws.Gather.{arriving_start, arriving_next}
use Rattle.circuit.specs.Circuit.{edge_in}
use Rattle.spread.specs.Spread.{spread_from, spread}
use Rattle.circuit.specs.declared.Edge.{Edge}
use Rattle.spread.proofs.Lifted.{lifted, length_lifted, row_lifted, lifted_same, lifted_none, lifted_tabulate, lifted_twice}

-- ---- from one row

module _ (edge : Edge) (near class : Column) (j level : ℕ) (s : Column) where
  -- a row without the edge raises none
  pub spread_nowhere : ((i : ℕ) → edge_in near class edge j i ≡ false) → s ≡ spread_from edge near class j level s
  unfolding spread_from
  spread_nowhere h = lifted_none s _ (λ m l. rw (h m))

  pub length_spread_from : length (spread_from edge near class j level s) ≡ length s
  unfolding spread_from
  length_spread_from = length_lifted s _

  pub row_spread_from : (i : ℕ) → i < length s → row (spread_from edge near class j level s) i ≡ max (row s i) (cond (edge_in near class edge j i) level 0)
  unfolding spread_from
  row_spread_from i l = row_lifted s _ i l

-- ---- from all rows

-- what arrives from the first n sources, of the levels less so much
abbrev come : Edge → Column → Column → ℕ → Column → ℕ → ℕ → ℕ
come edge near class loss levels n = arriving n (edge_in near class edge) (λ j. row levels j - loss)

-- a loop over the sources: after j of them the rows of s are raised to what arrives from these
pub record Spread (edge : Edge) (near class : Column) (loss : ℕ) (levels s : Column) (j : ℕ) (now : Column) : Type 0 where
  pub within : j ≤ length levels
  pub is : now ≡ lifted s (come edge near class loss levels j)
  pub long : length now ≡ length s

pub spread_none : {edge : Edge} {near class : Column} {loss : ℕ} {levels s : Column} → Spread edge near class loss levels s 0 s
spread_none {s = s} = record { within = omega arith; is = lifted_none s _ (λ m l. arriving_start _ _ m); long = refl }

nothing : (b : Bool) → ◌≡◌ {A = ℕ} (cond b 0 0) 0
nothing true = refl
nothing false = refl

module _ {edge : Edge} {near class : Column} {loss : ℕ} {levels s : Column} {j : ℕ} {now : Column} (h : Spread edge near class loss levels s j now) where
  pub spread_more : j < length levels → {next : Column} → next ≡ spread_from edge near class j (row levels j - loss) now
      → Spread edge near class loss levels s (j + 1) next
  unfolding spread_from
  spread_more l {next} e =
      record {
        within = omega arith;
        is = e ∙ rw h.is (lifted_twice s _ _ ∙ lifted_same s _ _ (λ m q. sym (arriving_next j (edge_in near class edge) _ m)));
        long = ap length e ∙ length_lifted now _ ∙ h.long;
      }

  -- of a source of which nothing is left nothing spreads
  pub spread_pass : j < length levels → row levels j ≤ loss → Spread edge near class loss levels s (j + 1) now
  spread_pass l p =
      let none : row levels j - loss ≡ 0 = omega arith in
      record {
        within = omega arith;
        is =
            h.is
            ∙ lifted_same s _ _ (λ m q. sym (arriving_next j (edge_in near class edge) _ m ∙ rw (none, nothing (edge_in near class edge j m)) (omega arith)));
        long = h.long;
      }

  pub spread_all : length levels ≤ j → now ≡ spread edge near class loss levels s
  unfolding spread
  spread_all l = let full : j ≡ length levels = omega (arith, h.within) in h.is ∙ rw full

module _ (edge : Edge) (near class : Column) (loss : ℕ) (levels s : Column) where
  pub length_spread : length (spread edge near class loss levels s) ≡ length s
  unfolding spread
  length_spread = length_lifted s _

  pub row_spread : (i : ℕ) → i < length s
      → row (spread edge near class loss levels s) i ≡ max (row s i) (arriving (length levels) (edge_in near class edge) (λ j. row levels j - loss) i)
  unfolding spread
  row_spread i l = row_lifted s _ i l

-- onto a column that f gives
pub spread_tabulate : (edge : Edge) (near class : Column) (loss : ℕ) (levels : Column) (n : ℕ) (f : ℕ → ℕ)
    → spread edge near class loss levels (tabulate n f)
    ≡ tabulate n (λ i. max (f i) (arriving (length levels) (edge_in near class edge) (λ j. row levels j - loss) i))
unfolding spread
spread_tabulate edge near class loss levels n f = lifted_tabulate n f _
