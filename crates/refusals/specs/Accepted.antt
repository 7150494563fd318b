-- What refusals 2 to 5 and 10 leave, whatever the profile: a table of whole rows, few enough, each good and in order, and no comparator overdriven.
-- That each is of a kind which the profile has a byte for is `accepted_kinds`.
-- Assumes nothing.
use Rattle.std.specs.Prelude.{◌≡◌, true, ℕ, ◌+◌, ◌*◌, ◌≤◌, ◌<◌, length}
use Rattle.columns.specs.Column.{Bytes}
use Rattle.columns.specs.Signal.{max_signal}
use Rattle.blocks.specs.Kind.{Comparator}
use Rattle.places.specs.Places.{before}
use Rattle.world.specs.Rows.{rows, pos_of, kind_of, level_or}
use Rattle.layout.specs.Good.{good_row}

-- `accepted_table` says that every table on which no refusal falls is one.
pub record Table (t : Bytes) : Type 0 where
  pub whole : length t ≡ rows t * 32
  pub few : rows t ≤ 1024
  pub good : (i : ℕ) → i < rows t → good_row t i ≡ true
  pub ordered : (i : ℕ) → i + 1 < rows t → before (pos_of t i) (pos_of t (i + 1)) ≡ true
  pub low : (i : ℕ) → i < rows t → kind_of t i ≡ Comparator → level_or t i 0 ≤ max_signal
