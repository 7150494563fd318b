-- Laws of a reading that has come to the end of a table: what is counted so far, and what the next bytes add.
-- Assumes nothing.
use mathlib.Core.Path.{◌≡◌, sym, ap, ◌∙◌}
use mathlib.Core.List.{[], ◌∷◌, ◌++◌, append-nil, append_assoc}
use Prim.Native.Nat.{ℕ, zero, suc, ◌+◌, ◌-◌, ◌≤◌, ◌<◌, zero-le}
use native.Mathlib.Omega.{arith}
use lib.ListN.{length, take, drop, replicate, length-take, length-drop, take-append-drop}
use lib.Seq.{take-add}
use Rattle.columns.specs.Column.{Bytes, Column, tabulate_from}
use Rattle.world.specs.Rows.{rows}
use Rattle.refusals.specs.Check.{IsAccepted}
use Rattle.electrical.specs.Answer.{rounds_of, settled}
use Rattle.updates.specs.State.{fresh_devices}
use Rattle.streams.specs.declared.Ending.{Ending}
use Rattle.streams.specs.declared.Ending.TheVariants.{Whole}
use Rattle.streams.specs.Stream.{table_bytes, first_table, ends_as, read_within, most_tables, stream_of}
use Rattle.streams.proofs.Streams.{IsTable, few_tables, joined, read_nothing, read_append, read_piece}
use Rattle.figures.specs.declared.Figures.{Figures}
use Rattle.figures.specs.Figures.{sum_of, figures_of, added, with_settled}
use Rattle.figures.specs.Room.{Room}
use Rattle.figures.proofs.Sums.{tables_all, figures_room, figures_append, added_settled}
use Rattle.totals.specs.declared.Month.{Month}
use Rattle.totals.specs.Month.{month_of, IsOpen}

-- the figures with a table that settled in so many rounds, to these signals
pub with-settled : (p : Bytes) (f : Figures) (t : Bytes) {rounds : ℕ} {signal : Column} {r : Figures} → IsAccepted p t
    → rounds ≡ rounds_of p t (fresh_devices t) → signal ≡ (settled p t (fresh_devices t)).signal → r ≡ with_settled f t rounds signal
    → r ≡ added f (figures_of p (t ∷ []))
with-settled p f t a k s e = e ∙ rw (k, s) (sym (added_settled p f t a))

-- a table of a stream has no more rows than a table may have
pub few_rows : {s : Bytes} → IsTable s → rows (first_table s) ≤ 1024
few_rows {s} t = rw length-take (omega (arith, t.few))

-- ---- a reading

-- the input a ends after a table, and has the figures f
pub record Reading (p a : Bytes) (f : Figures) : Type 0 where
  pub whole : (stream_of a).ending ≡ Whole
  pub is : f ≡ figures_of p (stream_of a).tables

pub month_reading : {p s : Bytes} {m : Month} → m ≡ month_of p s → m.ending ≡ Whole → Reading p s m.figures
unfolding month_of
month_reading e w = record { whole = sym (ap (λ m. m.ending) e) ∙ w; is = ap (λ m. m.figures) e }

module _ {p a : Bytes} {f : Figures} (h : Reading p a f) where
  reading_count : f.tables + f.refused ≡ length (stream_of a).tables
  reading_count = rw h.is (tables_all p (stream_of a).tables)

  most : length (stream_of a).tables ≤ 1000000
  unfolding stream_of
  most = few_tables most_tables a

  pub reading_few : f.tables + f.refused ≤ 1000000
  reading_few = omega (arith, reading_count, most)

  pub reading_room : Room f
  reading_room = rw h.is (figures_room p (stream_of a).tables most)

  -- how the reading goes on
  after : (s : Bytes) → stream_of (a ++ s) ≡ joined (stream_of a).tables (read_within (1000000 - (f.tables + f.refused)) s)
  unfolding stream_of
  after s = rw reading_count (read_append most_tables a s h.whole)

  -- with a table
  pub reading_more : {s : Bytes} {r : Figures} → IsTable s → 0 < 1000000 - (f.tables + f.refused) → r ≡ added f (figures_of p (first_table s ∷ []))
      → Reading p (a ++ take (4 + table_bytes s) s) r
  reading_more {s} {r} t l c = go (1000000 - (f.tables + f.refused)) l (after (take (4 + table_bytes s) s))
    where
      go : (n : ℕ) → 0 < n → stream_of (a ++ take (4 + table_bytes s) s) ≡ joined (stream_of a).tables (read_within n (take (4 + table_bytes s) s))
          → Reading p (a ++ take (4 + table_bytes s) s) r
      go zero l e = absurd (omega arith)
      go (suc n) l e =
          let all = e ∙ ap (joined (stream_of a).tables) (read_piece t n) in
          let more : r ≡ figures_of p ((stream_of a).tables ++ first_table s ∷ []) = c ∙ rw h.is (sym (figures_append p (stream_of a).tables (first_table s ∷ []))) in
          record { whole = ap (λ u. u.ending) all; is = more ∙ ap (λ u. figures_of p u.tables) (sym all) }

  -- with what ends it
  pub reading_ends : (s : Bytes) (e : Ending) → read_within (1000000 - (f.tables + f.refused)) s ≡ ends_as e
      → record { figures = f; ending = e } ≡ month_of p (a ++ s)
  unfolding month_of
  reading_ends s e q =
      let all = after s ∙ ap (joined (stream_of a).tables) q in rw (all, append-nil (stream_of a).tables, ← h.is)

-- ---- a reading of these bytes, after any input that has the figures f₀

-- up to an index, with the figures f
pub record SoFar (p bytes : Bytes) (f₀ f : Figures) (at : ℕ) : Type 0 where
  pub within : at ≤ length bytes
  pub is : (s : Bytes) → Reading p s f₀ → Reading p (s ++ take at bytes) f

pub so_far_none : (p bytes : Bytes) (f : Figures) → SoFar p bytes f f 0
so_far_none p bytes f = record { within = zero-le; is = λ s h. rw append-nil h }

module _ {p bytes : Bytes} {f₀ f : Figures} {at : ℕ} (h : SoFar p bytes f₀ f at) where
  -- a table fits into what is left
  pub table_fits : IsTable (drop at bytes) → at + (4 + table_bytes (drop at bytes)) ≤ length bytes
  table_fits t = omega (arith, h.within, rw length-drop at t.there)

  pub so_far_more : {r : Figures} → IsTable (drop at bytes) → 0 < 1000000 - (f.tables + f.refused) → r ≡ added f (figures_of p (first_table (drop at bytes) ∷ []))
      → SoFar p bytes f₀ r (at + (4 + table_bytes (drop at bytes)))
  so_far_more t l c =
      record { within = table_fits t; is = λ s g. rw (take-add at (4 + table_bytes (drop at bytes)) bytes, ← append_assoc) (reading_more (h.is s g) t l c) }

  pub so_far_ends : (e : Ending) → read_within (1000000 - (f.tables + f.refused)) (drop at bytes) ≡ ends_as e
      → (s : Bytes) → Reading p s f₀ → record { figures = f; ending = e } ≡ month_of p (s ++ bytes)
  so_far_ends e q s g =
      let all : (s ++ take at bytes) ++ drop at bytes ≡ s ++ bytes = append_assoc s (take at bytes) (drop at bytes) ∙ ap (λ b. s ++ b) (take-append-drop at bytes) in
      reading_ends (h.is s g) (drop at bytes) e q ∙ ap (month_of p) all

-- ---- where nothing was read yet

pub no_bytes : (p : Bytes)
    → record { figures = record { tables = 0; refused = 0; rounds = replicate 17 0; levels = replicate 16 0 }; ending = Whole } ≡ month_of p []
unfolding month_of stream_of figures_of sum_of tabulate_from
no_bytes p = rw (read_nothing most_tables)

pub open_start : {m : Month} → ((p : Bytes) → m ≡ month_of p []) → (p : Bytes) → IsOpen p m
open_start e p = record { month = record { stream = []; is = e p }; whole = ap (λ m. m.ending) (e p ∙ sym (no_bytes p)) }
