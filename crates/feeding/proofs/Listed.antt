-- Laws of the feeder list. The feeders of a row rise, and are the rows that transmit into it and no others; in an accepted table they are at most twelve,
-- and a row's twelve entries are these and then 65,535.
-- Assumes nothing.
use mathlib.Core.Path.{◌≡◌, ap, sym, ◌∙◌}
use mathlib.Core.Logic.{◌⊎◌, inl, inr, by_cases}
use mathlib.Core.Bool.{true, false, true≢false}
use mathlib.Core.List.{Memᴰ}
use Prim.Native.Nat.{ℕ, ◌+◌, ◌*◌, ◌-◌, ◌≤◌, ◌<◌}
use native.Mathlib.Decide.{dec_lt}
use native.Mathlib.Omega.{arith}
use lib.ListN.{length, get_or, drop, replicate, length-append, length-drop, length-replicate, get_or-replicate, get_or-append}
use lib.Seq.{get_or-append-add, get_or-drop}
use Rattle.columns.specs.Column.{Bytes, Column, row, part, concat_rows, at_front}
use Rattle.columns.proofs.Truth.{refuted}
use Rattle.columns.proofs.Indices.{StandsIn, index_kept, indices_rise, kept_index, indices_none, indices_same}
use Rattle.columns.proofs.Parts.{length_concat_rows, part_concat_rows, concat_rows_same, concat_rows_at}
use Rattle.blocks.specs.Kind.{is_dust}
use Rattle.places.proofs.Steps.{around}
use Rattle.world.specs.Rows.{rows, pos_of, kind_of}
use Rattle.refusals.specs.Accepted.{Table}
use Rattle.refusals.proofs.Accepted.{in-range}
use Rattle.arms.specs.Arms.{arm_of}
use Rattle.wire.specs.Transfer.{transmits}
use Rattle.wire.proofs.Around.{transmits_dust, transmits_around}
use Rattle.circuit.specs.Circuit.{no_row}
use Rattle.adjacency.specs.Adjacency.{near_of}
use Rattle.prepare.specs.Classes.{classes_of}
use Rattle.prepare.proofs.Rows.{length_classes}
use Rattle.feeding.specs.Feeders.{feeders_of, feeder_entries, feeder_list}
use Rattle.feeding.specs.Around.{feeder_in, entries_in}
use Rattle.feeding.proofs.Rising.{length_among}
use Rattle.feeding.proofs.Around.{feeders_found}

-- ---- of any table

module _ (p t : Bytes) (i : ℕ) where
  -- "all dust that transmits into it": each number is that of a row that does,
  pub feeder_transmits : (k : ℕ) → k < length (feeders_of p t i) → (row (feeders_of p t i) k < rows t) × (transmits p t (row (feeders_of p t i) k) i ≡ true)
  unfolding feeders_of
  feeder_transmits k l = let x = index_kept (λ j. transmits p t j i) (rows t) 0 k l in (omega (arith, x.below), x.holds)

  -- and each row that does has its number there,
  pub transmits_feeder : (j : ℕ) → j < rows t → transmits p t j i ≡ true → StandsIn (feeders_of p t i) j
  unfolding feeders_of
  transmits_feeder j l e = kept_index (λ j. transmits p t j i) (rows t) 0 j (record { from = omega arith; below = omega arith; holds = e })

  -- "in rising order"
  pub feeders_in_order : (k m : ℕ) → k < m → m < length (feeders_of p t i) → row (feeders_of p t i) k < row (feeders_of p t i) m
  unfolding feeders_of
  feeders_in_order k m l h = indices_rise (λ j. transmits p t j i) (rows t) 0 k m l h

  -- "Rows that are not dust have twelve times 65,535"
  pub not_dust : is_dust (kind_of t i) ≡ false → feeder_entries p t i ≡ replicate 12 no_row
  unfolding feeders_of feeder_entries
  not_dust n =
      rw (indices_none (λ j. transmits p t j i) (rows t) 0 (λ j _ _. refuted (transmits p t j i) (λ e. true≢false (sym (transmits_dust (arm_of p t) p t j i e).1 ∙ n))))

-- a feeder is dust at one of the twelve positions around the dust that it transmits into: at one of its four sides, at its height, one lower or one higher
pub feeder_around : (p t : Bytes) (a : Table t) (j i : ℕ) → j < rows t → transmits p t j i ≡ true
    → (is_dust (kind_of t j) ≡ true) × Memᴰ (pos_of t j) (around (pos_of t i))
feeder_around p t a j i g e = ((transmits_dust (arm_of p t) p t j i e).0, transmits_around (arm_of p t) p t j i (in-range t a j g) e)

-- ---- of an accepted one

module _ (p t : Bytes) (a : Table t) (i : ℕ) (l : i < rows t) where
  -- no more than twelve transmit into it
  pub feeders_most : length (feeders_of p t i) ≤ 12
  feeders_most = rw (← feeders_found p t a i l) (length_among (feeder_in (near_of t) (classes_of p t) i) 12)

  -- the entries that are read off the columns
  pub entries_found : entries_in (near_of t) (classes_of p t) i ≡ feeder_entries p t i
  unfolding entries_in feeder_entries
  entries_found = ap (λ xs. at_front xs (replicate 12 no_row)) (feeders_found p t a i l)

  -- so that it has twelve entries:
  pub entries_twelve : length (feeder_entries p t i) ≡ 12
  unfolding feeder_entries
  entries_twelve = rw (length-append, length-drop, length-replicate {A = ℕ} 12 no_row) (omega (arith, feeders_most))

  -- those numbers,
  pub entry_feeder : (k : ℕ) → k < length (feeders_of p t i) → row (feeder_entries p t i) k ≡ row (feeders_of p t i) k
  unfolding feeder_entries
  entry_feeder k h = get_or-append (feeders_of p t i) _ 0 k h

  -- none of which is 65,535,
  pub feeder_numbered : (k : ℕ) → k < length (feeders_of p t i) → row (feeders_of p t i) k < no_row
  feeder_numbered k h = omega (arith, (feeder_transmits p t i k h).0, a.few)

  -- "then 65,535"
  pub entry_none : (k : ℕ) → length (feeders_of p t i) ≤ k → k < 12 → row (feeder_entries p t i) k ≡ no_row
  unfolding feeder_entries
  entry_none k h g =
      let xs = feeders_of p t i in
      let at : k ≡ length xs + (k - length xs) = omega arith in
      let back : length xs + (k - length xs) ≡ k = omega arith in
      ap (λ n. get_or (at_front xs (replicate 12 no_row)) n 0) at
      ∙ get_or-append-add xs (drop (length xs) (replicate 12 no_row)) (k - length xs) 0
      ∙ get_or-drop (length xs) (replicate 12 no_row) (k - length xs) 0
      ∙ ap (λ n. get_or (replicate 12 no_row) n 0) back
      ∙ get_or-replicate 12 k no_row 0 g

  -- So each entry is the number of a row of dust that transmits into row i, or 65,535,
  pub entry_or : (k : ℕ) → k < 12 → ((row (feeder_entries p t i) k < rows t) × (transmits p t (row (feeder_entries p t i) k) i ≡ true)) ⊎ (row (feeder_entries p t i) k ≡ no_row)
  entry_or k g =
      by_cases (dec_lt k (length (feeders_of p t i))) (λ h. inl (rw (entry_feeder k h) (feeder_transmits p t i k h))) (λ h. inr (entry_none k (omega arith) g))

  -- and each row that transmits into it is one of the entries
  pub transmits_entry : (j : ℕ) → j < rows t → transmits p t j i ≡ true → StandsIn (feeder_entries p t i) j
  transmits_entry j g e =
      let s = transmits_feeder p t i j g e in
      record { at = s.at; inside = omega (arith, s.inside, feeders_most, entries_twelve); is = entry_feeder s.at s.inside ∙ s.is }

-- ---- the whole list

module _ (p t : Bytes) (a : Table t) where
  -- read off the columns
  pub list_found : {near class : Column} → near ≡ near_of t → class ≡ classes_of p t → concat_rows (length class) (entries_in near class) ≡ feeder_list p t
  unfolding feeder_list
  list_found e g =
      rw (e, g, length_classes p t)
      (concat_rows_same (entries_in (near_of t) (classes_of p t)) (feeder_entries p t) (rows t) (entries_found p t a))

  -- "twelve 16-bit entries per row"
  pub list_long : length (feeder_list p t) ≡ rows t * 12
  unfolding feeder_list
  list_long = length_concat_rows 12 (feeder_entries p t) (rows t) (entries_twelve p t a)

  pub list_part : (i : ℕ) → i < rows t → part 12 (feeder_list p t) i ≡ feeder_entries p t i
  unfolding feeder_list
  list_part = part_concat_rows 12 (feeder_entries p t) (rows t) (entries_twelve p t a)

  pub list_at : (i k : ℕ) → i < rows t → k < 12 → row (feeder_list p t) (i * 12 + k) ≡ row (feeder_entries p t i) k
  unfolding feeder_list
  list_at = concat_rows_at 12 (feeder_entries p t) (rows t) (entries_twelve p t a)

-- ---- tables and profiles by which the same rows transmit

module _ (p q t u : Bytes) (count : rows t ≡ rows u) (i : ℕ) (same : (j : ℕ) → j < rows t → transmits p t j i ≡ transmits q u j i) where
  pub entries_same : feeder_entries p t i ≡ feeder_entries q u i
  unfolding feeder_entries feeders_of
  entries_same =
      rw (← count, indices_same (λ j. transmits p t j i) (λ j. transmits q u j i) (rows t) 0 (λ j _ l. same j (omega arith)))

pub list_same : (p q t u : Bytes) → rows t ≡ rows u → ((j i : ℕ) → transmits p t j i ≡ transmits q u j i) → feeder_list p t ≡ feeder_list q u
unfolding feeder_list
list_same p q t u count same =
    concat_rows_same (feeder_entries p t) (feeder_entries q u) (rows t) (λ i _. entries_same p q t u count i (λ j _. same j i))
    ∙ ap (λ n. concat_rows n (feeder_entries q u)) count
