-- The loops that raise the sinks of one row: way by way, and facing by facing.
-- Assumes nothing.
use mathlib.Core.Path.{◌≡◌, refl, ap, ◌∙◌}
use mathlib.Core.Bool.{Bool, true, false, cond, ◌||◌}
use Prim.Native.Nat.{ℕ, suc, ◌+◌, ◌≤◌, ◌<◌}
use native.Mathlib.Numerals.{add-one}
use native.Mathlib.Omega.{arith}
use lib.Dec.{eqb}
use lib.ListN.{length}
use borrow.Author.Tests.{lt-ltb}
use Rattle.columns.specs.Column.{Column}
use Rattle.circuit.specs.Circuit.{level_sink, upper_sink, lower_sink, sink_of, ways, some_below, edge_in}
use Rattle.spread.specs.Spread.{raised, spread_from}
use Rattle.circuit.specs.declared.Edge.{Edge}
use Rattle.circuit.specs.declared.Edge.TheVariants.{Transmits}
use Rattle.spread.proofs.Lifted.{lifted, length_lifted, lifted_same, lifted_none, raised_also}

-- the row is one of those that the first k ways from row j lead to
abbrev reached : Column → Column → Edge → ℕ → ℕ → ℕ → Bool
reached near class edge j k m = some_below (λ w. eqb (sink_of near class edge j w) m) k

-- a loop that raises the sinks of row j: after k ways the rows of s that they lead to are raised
pub record Raised (edge : Edge) (near class : Column) (j level : ℕ) (s : Column) (k : ℕ) (now : Column) : Type 0 where
  pub within : k ≤ ways edge
  pub is : now ≡ lifted s (λ m. cond (reached near class edge j k m) level 0)
  pub long : length now ≡ length s

pub raised_none : {edge : Edge} {near class : Column} {j level : ℕ} {s : Column} → Raised edge near class j level s 0 s
unfolding some_below
raised_none {s = s} = record { within = omega arith; is = lifted_none s _ (λ m l. refl); long = refl }

module _ {edge : Edge} {near class : Column} {j level : ℕ} {s : Column} {k : ℕ} {now : Column} (h : Raised edge near class j level s k now) where
  pub raised_more : k < ways edge → {next : Column} → next ≡ raised now (sink_of near class edge j k) level → Raised edge near class j level s (k + 1) next
  unfolding some_below
  raised_more l {next} e =
      let is = raised_also s (reached near class edge j k) (sink_of near class edge j k) level h.is e in
      rw add-one (record { within = l; is = is; long = ap length is ∙ length_lifted s _ })

  pub raised_all : ways edge ≤ k → length s ≡ length class → now ≡ spread_from edge near class j level s
  unfolding spread_from edge_in
  raised_all l p =
      let full : k ≡ ways edge = omega (arith, h.within) in
      h.is ∙ rw full (lifted_same s _ _ (λ m q. rw (lt-ltb m (length class) (rw p at q))))

-- ---- the dust that dust transmits to, facing by facing

-- one of each sort more
one_of_each : (a b c x y z : Bool) → (a || b || c || x || y || z) ≡ ((a || x) || (b || y) || (c || z))
one_of_each true b c x y z = refl
one_of_each false true c true y z = refl
one_of_each false true c false y z = refl
one_of_each false false true true y z = refl
one_of_each false false true false true z = refl
one_of_each false false true false false z = refl
one_of_each false false false x y z = refl

-- four in a row
four_more : (x a b c d : Bool) → (x || (false || a || b || c || d)) ≡ (x || a || b || c || d)
four_more true a b c d = refl
four_more false a b c d = refl

module _ (near class : Column) (j : ℕ) where
  -- the row is one of those along the first f facings
  abbrev around : ℕ → ℕ → Bool
  around f m =
      some_below (λ w. eqb (level_sink near class j w) m) f
      || some_below (λ w. eqb (upper_sink near class j w) m) f
      || some_below (λ w. eqb (lower_sink near class j w) m) f

  around_all : (m : ℕ) → around 4 m ≡ reached near class Transmits j 12 m
  unfolding some_below sink_of
  around_all m = simp four_more

-- a loop over the facings: after f of them the rows of s along these are raised
pub record Around (near class : Column) (j level : ℕ) (s : Column) (f : ℕ) (now : Column) : Type 0 where
  pub within : f ≤ 4
  pub is : now ≡ lifted s (λ m. cond (around near class j f m) level 0)
  pub long : length now ≡ length s

pub around_none : {near class : Column} {j level : ℕ} {s : Column} → Around near class j level s 0 s
unfolding some_below
around_none {s = s} = record { within = omega arith; is = lifted_none s _ (λ m l. refl); long = refl }

module _ {near class : Column} {j level : ℕ} {s : Column} {f : ℕ} {now : Column} (h : Around near class j level s f now) where
  pub around_more : {a b next : Column} → f < 4 → a ≡ raised now (level_sink near class j f) level → b ≡ raised a (upper_sink near class j f) level
      → next ≡ raised b (lower_sink near class j f) level → Around near class j level s (f + 1) next
  unfolding some_below
  around_more l p q r =
      let x = level_sink near class j f in
      let y = upper_sink near class j f in
      let one = raised_also s (around near class j f) x level h.is p in
      let two = raised_also s (λ m. around near class j f m || eqb x m) y level one q in
      let is =
      raised_also s (λ m. around near class j f m || eqb x m || eqb y m) (lower_sink near class j f) level two r
      ∙ lifted_same s _ (λ m. cond (around near class j (suc f) m) level 0) (λ m _. rw one_of_each) in
      rw add-one (record { within = l; is = is; long = ap length is ∙ length_lifted s _ })

  pub around_spread : 4 ≤ f → length s ≡ length class → now ≡ spread_from Transmits near class j level s
  around_spread l =
      let full : f ≡ 4 = omega (arith, h.within) in
      let is : now ≡ lifted s (λ m. cond (reached near class Transmits j 12 m) level 0) =
      h.is ∙ rw full (lifted_same s _ _ (λ m _. rw (around_all near class j m))) in
      raised_all {edge = Transmits} {k = 12} (record { within = omega arith; is = is; long = h.long }) (omega arith)
