-- A month may be divided into streams, counted apart and added up; and nothing is read after an end as count.
-- Assumes nothing.
use mathlib.Core.Path.{◌≡◌, ap, ◌∙◌}
use mathlib.Core.Logic.{◌⊎◌, inl, inr, ⊎_elim}
use mathlib.Core.List.{◌++◌}
use Prim.Native.Nat.{◌+◌, ◌-◌, ◌≤◌, ◌<◌}
use native.Mathlib.Omega.{arith}
use lib.ListN.{length}
use Rattle.columns.specs.Column.{Bytes}
use Rattle.streams.specs.declared.Ending.TheVariants.{Whole, Count}
use Rattle.streams.specs.Stream.{most_tables, stream_of}
use Rattle.streams.proofs.Streams.{read_append, Enough, read_enough, read_tables, read_full, read_stops}
use Rattle.figures.specs.Figures.{added}
use Rattle.figures.proofs.Sums.{tables_all, figures_append}
use Rattle.totals.specs.Month.{month_of, tables_read}

module _ (p a b : Bytes) (whole : (month_of p a).ending ≡ Whole) where
  -- Where the first stream ends whole and both together have at most 1,000,000 tables, the figures of the one after the other are the
  -- sums of theirs,
  pub figures_add : tables_read (month_of p a) + tables_read (month_of p b) ≤ 1000000
      → (month_of p (a ++ b)).figures ≡ added (month_of p a).figures (month_of p b).figures
  unfolding month_of stream_of
  figures_add few =
      let left = most_tables - length (stream_of a).tables in
      let fits : length (stream_of b).tables ≤ left = omega (arith, tables_all p (stream_of a).tables, tables_all p (stream_of b).tables, few) in
      let tables : (stream_of (a ++ b)).tables ≡ (stream_of a).tables ++ (stream_of b).tables = ap (λ s. s.tables) (read_append most_tables a b whole) ∙ ap (λ ts. (stream_of a).tables ++ ts) (read_tables left most_tables b (omega arith) fits) in
      rw tables (figures_append p (stream_of a).tables (stream_of b).tables)

  -- and it ends as the second does, where they are fewer, or the second ends whole.
  pub ending_add : (tables_read (month_of p a) + tables_read (month_of p b) < 1000000)
      ⊎ ((tables_read (month_of p a) + tables_read (month_of p b) ≤ 1000000) × ((month_of p b).ending ≡ Whole))
      → (month_of p (a ++ b)).ending ≡ (month_of p b).ending
  unfolding month_of stream_of
  ending_add h =
      let left = most_tables - length (stream_of a).tables in
      let first = tables_all p (stream_of a).tables in
      let second = tables_all p (stream_of b).tables in
      let enough : Enough left (stream_of b) =
      ⊎_elim (λ l. inl (omega (arith, first, second))) (λ w. inr (omega (arith, first, second), w.1)) h in
      ap (λ s. s.ending) (read_append most_tables a b whole) ∙ ap (λ s. s.ending) (read_enough left most_tables b (omega arith) enough)

  -- Where they are 1,000,000 and the second does not end whole, some byte follows the last table: it ends as count.
  pub ending_full : tables_read (month_of p a) + tables_read (month_of p b) ≡ 1000000 → ¬ ((month_of p b).ending ≡ Whole) → (month_of p (a ++ b)).ending ≡ Count
  unfolding month_of stream_of
  ending_full full broken =
      let left = most_tables - length (stream_of a).tables in
      let all : length (stream_of b).tables ≡ left = omega (arith, tables_all p (stream_of a).tables, tables_all p (stream_of b).tables, full) in
      ap (λ s. s.ending) (read_append most_tables a b whole) ∙ read_full left most_tables b (omega arith) all broken

-- Whatever follows bytes at which the reading ends as count, the month is the same: it need not be read.
pub month_stops : (p a b : Bytes) → (month_of p a).ending ≡ Count → month_of p (a ++ b) ≡ month_of p a
unfolding month_of stream_of
month_stops p a b h = rw (read_stops most_tables a b h)
