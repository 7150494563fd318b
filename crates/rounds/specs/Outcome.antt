-- How settling ends, by its number of rounds and its limit.
-- Assumes nothing.
use Rattle.std.specs.Prelude.{◌≡◌, cond, ℕ, ◌≤◌, leb, Option, Some, None}
use Rattle.columns.specs.Column.{Column}
use Rattle.network.specs.Network.{Network, State, strong_of}
use Rattle.network.specs.Settled as Network
use Rattle.network.specs.Laws.Loop.{Answered}
use Rattle.refusals.specs.Check.{Checked, accepted, refuse_unless}
use Rattle.electrical.specs.Answer.{Columns}
use Rattle.levels.specs.declared.signal.Rounds.{Rounds}

-- settled in n rounds
abbrev pub settled_in : ℕ → Option Rounds
settled_in n = Some (record { count = n })

-- the round that answers, unless the limit is below it
unfoldable pub outcome_of : ℕ → ℕ → Option Rounds
outcome_of rounds limit = cond (leb rounds limit) (settled_in rounds) None

-- 8 unsettled: "limit below the rounds needed"
abbrev pub limited : ℕ → ℕ → Checked
limited rounds limit = refuse_unless 8 (leb rounds limit) accepted

-- what a column holds at the end: as it was where settling did not end
abbrev pub written_by : Option Rounds → Column → Column → Column
written_by (Some rounds) old new = new
written_by None old new = old

-- The loop of rounds: how it ends, and that the signals s and the weak power w that it leaves are settled where the limit is enough.
pub record RunsRounds (N : Network) (e : Column) (limit : ℕ) (s w : Column) (r : Option Rounds) : Type 0 where
  pub answer : r ≡ outcome_of (Network.rounds_of N e) limit
  pub levels : Network.rounds_of N e ≤ limit → Answered N e (strong_of N e) (Network.rounds_of N e) s w

-- The whole of it, of what settles to s in so many rounds: how it ends, and the three columns, settled or as they were.
pub record Solves (rounds : ℕ) (s : State) (limit : ℕ) (signal weak strong signal' weak' strong' : Column) (r : Option Rounds) : Type 0 where
  pub answer : r ≡ outcome_of rounds limit
  pub columns : Columns (limited rounds limit) s signal weak strong signal' weak' strong'
