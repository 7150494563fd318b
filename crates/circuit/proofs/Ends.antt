-- An edge goes only from a row that can send to a row that can receive: dust to dust where it transmits, and power to rows of the map.
-- Assumes nothing.
use mathlib.Core.Path.{◌≡◌, refl, sym, ◌∙◌}
use mathlib.Core.Logic.{by_cases}
use mathlib.Core.Bool.{Bool, true, false, not, ◌&&◌, true≢false}
use Prim.Native.Nat.{ℕ, ◌+◌, ◌-◌, ◌≤◌, ◌<◌}
use native.Mathlib.Decide.{dec_lt}
use native.Mathlib.Omega.{arith}
use lib.ListN.{length}
use Rattle.columns.specs.Column.{Column, row}
use Rattle.columns.proofs.Truth.{and_true, or_false, refuted}
use Rattle.network.specs.Compare.{PowerOnMap}
use Rattle.blocks.specs.Kind.{is_dust}
use Rattle.places.specs.Places.{opposite}
use Rattle.classes.specs.Class.{weak_in, strong_in, drives_in, kind_in, arm_in, rises_by_in}
use Rattle.classes.specs.Towards.{Above, Below, charges_in, feeds_in, leads_in, touched_in}
use Rattle.circuit.specs.Circuit.{Shaped, sink_if, beside_in, level_sink, upper_sink, lower_sink, sink_of, edge_in, circuit}
use Rattle.circuit.specs.Sinks.{sends_in}
use Rattle.circuit.specs.declared.Edge.{Edge}
use Rattle.circuit.specs.declared.Edge.TheVariants.{EmittedToStrong, StrongToWeak, DustToWeak, Transmits, EmittedToDust, StrongToDust}
use Rattle.circuit.proofs.Ways.{edge_way, way_level, way_upper, way_lower, beside_source, placed}

-- a row of the class c can receive along the edge
abbrev pub receives_in : Edge → ℕ → Bool
receives_in EmittedToStrong c = strong_in c
receives_in StrongToWeak c = weak_in c
receives_in DustToWeak c = weak_in c
receives_in Transmits c = is_dust (kind_in c)
receives_in EmittedToDust c = is_dust (kind_in c)
receives_in StrongToDust c = is_dust (kind_in c)

pub record Ends (class : Column) (e : Edge) (j i : ℕ) : Type 0 where
  pub source : j < length class
  pub sink : i < length class
  pub sends : sends_in e (row class j) ≡ true
  pub receives : receives_in e (row class i) ≡ true

module _ {near class : Column} (s : Shaped near class) where
  -- dust to dust, over or under the row a by j
  across : (j a k m i : ℕ) (test : ℕ → ℕ → Bool) → beside_in near class j m ≡ a
      → (let x = beside_in near class a k in sink_if (is_dust (kind_in (row class j)) && (is_dust (kind_in (row class x)) && test (row class a) (row class x))) x ≡ i)
      → i < length class → Ends class Transmits j i
  across j a k m i test p h l =
      let (q, t) = placed s a k i (λ c d. is_dust (kind_in (row class j)) && (is_dust (kind_in d) && test c d)) h l in
      let (x, y) = and_true (is_dust (kind_in (row class j))) _ t in
      record { source = beside_source s j m a p (beside_source s a k i q l); sink = l; sends = x; receives = (and_true (is_dust (kind_in (row class i))) _ y).0 }

  ends : (e : Edge) (j k i : ℕ) → sink_of near class e j k ≡ i → i < length class → Ends class e j i
  unfolding sink_of level_sink upper_sink lower_sink
  ends EmittedToStrong j k i h l =
      let (p, t) = placed s j k i (λ c d. charges_in c k && strong_in d) h l in
      record { source = beside_source s j k i p l; sink = l; sends = refl; receives = (and_true (charges_in (row class j) k) _ t).1 }
  ends StrongToWeak j k i h l =
      let (p, t) = placed s j k i (λ c d. weak_in d) h l in
      record { source = beside_source s j k i p l; sink = l; sends = refl; receives = t }
  ends DustToWeak j k i h l =
      let (p, t) = placed s j k i (λ c d. leads_in c k && weak_in d) h l in
      let (x, y) = and_true (leads_in (row class j) k) _ t in
      record { source = beside_source s j k i p l; sink = l; sends = (and_true (is_dust (kind_in (row class j))) _ x).0; receives = y }
  ends Transmits j k i h l = by_cases (dec_lt k 4) level (λ n. by_cases (dec_lt k 8) (upper n) (lower n))
    where
      level : k < 4 → Ends class Transmits j i
      level n =
          let (p, t) = placed s j k i (λ c d. leads_in c k && touched_in d k) (sym (way_level near class j k n) ∙ h) l in
          let (x, y) = and_true (leads_in (row class j) k) _ t in
          record {
            source = beside_source s j k i p l;
            sink = l;
            sends = (and_true (is_dust (kind_in (row class j))) _ x).0;
            receives = (and_true (is_dust (kind_in (row class i))) _ y).0;
          }

      upper : ¬ (k < 4) → k < 8 → Ends class Transmits j i
      upper n m = across j _ Above (k - 4) i (λ c d. rises_by_in c (arm_in (row class j) (k - 4 + 1))) refl (sym (way_upper near class j k (omega arith) m) ∙ h) l

      lower : ¬ (k < 4) → ¬ (k < 8) → Ends class Transmits j i
      lower n m =
          across j _ (k - 8) Below i (λ c d. drives_in c && rises_by_in c (arm_in d (opposite (k - 8 + 1)))) refl
          (sym (way_lower near class j k (omega arith)) ∙ h)
          l
  ends EmittedToDust j k i h l =
      let (p, t) = placed s j k i (λ c d. feeds_in c k && touched_in d k) h l in
      let y = (and_true (feeds_in (row class j) k) _ t).1 in
      record { source = beside_source s j k i p l; sink = l; sends = refl; receives = (and_true (is_dust (kind_in (row class i))) _ y).0 }
  ends StrongToDust j k i h l =
      let (p, t) = placed s j k i (λ c d. not (feeds_in c k) && (drives_in c && touched_in d k)) h l in
      let (x, y) = and_true (drives_in (row class j)) _ (and_true (not (feeds_in (row class j) k)) _ t).1 in
      record { source = beside_source s j k i p l; sink = l; sends = x; receives = (and_true (is_dust (kind_in (row class i))) _ y).0 }

  pub edge_ends : (e : Edge) (j i : ℕ) → edge_in near class e j i ≡ true → Ends class e j i
  edge_ends e j i h = let w = edge_way {e = e} h in ends e j w.k i w.leads w.inside

  -- where either end is none of the edge's there is no edge
  pub none_sent : (e : Edge) (j i : ℕ) → sends_in e (row class j) ≡ false → edge_in near class e j i ≡ false
  none_sent e j i h = refuted _ (λ t. true≢false (sym (edge_ends e j i t).sends ∙ h))

  pub none_received : (e : Edge) (j i : ℕ) → receives_in e (row class i) ≡ false → edge_in near class e j i ≡ false
  none_received e j i h = refuted _ (λ t. true≢false (sym (edge_ends e j i t).receives ∙ h))

  -- nor from a number that is no row
  pub none_past : (e : Edge) (j i : ℕ) → length class ≤ j → edge_in near class e j i ≡ false
  none_past e j i h = refuted _ (λ t. omega (arith, (edge_ends e j i t).source))

  -- power reaches only rows of the map
  pub circuit_on_map : PowerOnMap (circuit near class)
  unfolding circuit
  circuit_on_map =
      record {
        emitted_to_strong = λ j i h. none_received EmittedToStrong j i (or_false (weak_in (row class i)) _ h).1;
        strong_to_weak = λ j i h. none_received StrongToWeak j i (or_false (weak_in (row class i)) _ h).0;
        dust_to_weak = λ j i h. none_received DustToWeak j i (or_false (weak_in (row class i)) _ h).0;
      }
