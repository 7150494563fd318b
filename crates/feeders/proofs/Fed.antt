-- The loop over the twelve positions around a dust: what holds of its entries after k of them.
-- Assumes nothing.
use mathlib.Core.Path.{◌≡◌, refl, ◌∙◌}
use mathlib.Core.List.{[]}
use mathlib.Core.Bool.{false}
use Prim.Native.Nat.{ℕ, zero, suc, ◌+◌, ◌≤◌, ◌<◌}
use native.Mathlib.Omega.{arith}
use lib.ListN.{length, set, replicate, length-set, length-append, length-drop, length-replicate}
use Rattle.columns.specs.Column.{Column, row, tabulate_from, tabulate, at_front}
use Rattle.columns.proofs.Indices.{front_more}
use Rattle.circuit.specs.declared.Edge.TheVariants.{Transmits}
use Rattle.circuit.specs.Circuit.{no_row, Shaped}
use Rattle.circuit.proofs.Ends.{receives_in, none_received}
use Rattle.feeding.specs.Around.{rows_among, around_in, feeder_in, entries_in}
use Rattle.feeding.proofs.Rising.{among_row, among_none, length_among}

-- ---- the loop

-- at the front of the entries are the rows among the first k numbers, and the rest is as it was
pub record Fed (f : ℕ → ℕ) (old : Column) (k count : ℕ) (now : Column) : Type 0 where
  pub within : k ≤ 12
  pub long : length now ≡ 12
  pub old_long : length old ≡ 12
  pub counted : count ≡ length (rows_among f k)
  pub is : now ≡ at_front (rows_among f k) old

pub fed_none : {f : ℕ → ℕ} {old : Column} → length old ≡ 12 → Fed f old 0 0 old
unfolding rows_among
fed_none e = record { within = omega arith; long = e; old_long = e; counted = refl; is = refl }

module _ {f : ℕ → ℕ} {old : Column} {k count : ℕ} {now : Column} (h : Fed f old k count now) (inside : k < 12) where
  pub fed_room : count < 12
  fed_room = omega (arith, h.counted, length_among f k)

  pub fed_pass : f k ≡ no_row → Fed f old (k + 1) count now
  fed_pass e =
      let same = among_none f k e in
      record { within = omega arith; long = h.long; old_long = h.old_long; counted = rw same h.counted; is = rw same h.is }

  pub fed_more : (j : ℕ) → j ≡ f k → ¬ (j ≡ no_row) → Fed f old (k + 1) (count + 1) (set now count j)
  fed_more j e n =
      let more = among_row f k (λ none. n (e ∙ none)) in
      record {
        within = omega arith;
        long = length-set now count j ∙ h.long;
        old_long = h.old_long;
        counted = rw (more, length-append) (omega (arith, h.counted));
        is = rw (h.is, more, e) (front_more (rows_among f k) old count (f k) h.counted (omega (arith, h.old_long, fed_room)));
      }

pub fed_all : {f : ℕ → ℕ} {old : Column} {k count : ℕ} {now : Column} → Fed f old k count now → 12 ≤ k → now ≡ at_front (rows_among f 12) old
fed_all {k = k} h l = let all : k ≡ 12 = omega (arith, h.within) in rw all at h.is

-- ---- the entries

-- as they are before any feeder is listed
pub blank : tabulate 12 (λ _. no_row) ≡ replicate 12 no_row
unfolding tabulate_from
blank = refl

module _ (near class : Column) (i : ℕ) where
  pub entries_long : length (entries_in near class i) ≡ 12
  unfolding entries_in
  entries_long = rw (length-append, length-drop, length-replicate {A = ℕ} 12 no_row) (omega (arith, length_among (feeder_in near class i) 12))

  -- a row that is no dust has no feeders
  module _ (s : Shaped near class) (n : receives_in Transmits (row class i) ≡ false) where
    none_fed : (k : ℕ) → rows_among (feeder_in near class i) k ≡ []
    unfolding rows_among feeder_in
    none_fed zero = refl
    none_fed (suc k) = rw (none_fed k, none_received s Transmits (around_in near class i k) i n) refl

    pub entries_none : entries_in near class i ≡ replicate 12 no_row
    unfolding entries_in
    entries_none = rw (none_fed 12) refl
