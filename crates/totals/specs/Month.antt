-- The month of a stream of tables: its figures, and how its reading ends. What stands in quotation marks is document 02's, Change 1.
-- Assumes nothing.
use Rattle.std.specs.Prelude.{◌≡◌, ◌++◌, ℕ, ◌+◌}
use Rattle.columns.specs.Column.{Bytes}
use Rattle.streams.specs.declared.Ending.TheVariants.{Whole}
use Rattle.streams.specs.Stream.{stream_of}
use Rattle.figures.specs.Figures.{figures_of}
use Rattle.totals.specs.declared.Month.{Month}

-- "Every figure equals the sum over the tables", those that are read of the bytes s after the profile p; and how the reading ends
unfoldable pub month_of : Bytes → Bytes → Month
month_of p s = record { figures = figures_of p (stream_of s).tables; ending = (stream_of s).ending }

-- the tables that were read for it, settled or refused
abbrev pub tables_read : Month → ℕ
tables_read m = m.figures.tables + m.figures.refused

-- ---- what the functions promise, of input that is read piece by piece

-- the month of some stream, whatever its bytes are
pub record IsMonth (p : Bytes) (m : Month) : Type 0 where
  pub stream : Bytes
  pub is : m ≡ month_of p stream

-- of one that ends after a table, so that it can go on
pub record IsOpen (p : Bytes) (m : Month) : Type 0 where
  pub month : IsMonth p m
  pub whole : m.ending ≡ Whole

-- Whatever stream the month m is of, r is the month of that stream and of these bytes after it.
pub record GoesOn (p : Bytes) (m : Month) (bytes : Bytes) (r : Month) : Type 0 where
  pub is : (s : Bytes) → m ≡ month_of p s → r ≡ month_of p (s ++ bytes)
