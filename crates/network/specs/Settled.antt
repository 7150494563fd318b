-- The number of rounds and the settled numbers.
-- Assumes nothing.
use Rattle.std.specs.Prelude.{ℕ}
use Rattle.columns.specs.Column.{Column}
use Rattle.network.specs.Network.{Network, State, after, Rounds}
use Rattle.network.specs.Laws.FirstAnswering.{first_answering, first_answering_first}

-- the first round that answers, and that it is
pub record Settling (N : Network) (e : Column) : Type 0 where
  pub rounds : ℕ
  pub first : Rounds N e rounds

-- There is one, in every network and whatever is emitted. How it is found makes no difference: no other number is (`rounds_are` of `Demand`).
unfoldable pub settling : (N : Network) (e : Column) → Settling N e
settling N e = record { rounds = first_answering N e; first = first_answering_first N e }

-- "The number of rounds is part of the answer, the answering one counted"
unfoldable pub rounds_of : Network → Column → ℕ
rounds_of N e = (settling N e).rounds

-- "that round's numbers are the settled ones"
unfoldable pub settled : Network → Column → State
settled N e = after N e (rounds_of N e)
