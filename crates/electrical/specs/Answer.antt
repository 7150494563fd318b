-- What settling answers and writes: the reference is `solve_instantaneous`.
-- Assumes nothing.
use Rattle.std.specs.Prelude.{◌≡◌, Bool, true, ◌&&◌, List, [], ◌∷◌, ◌++◌, ℕ, ◌≤◌, length, eqb, leb}
use Rattle.columns.specs.Column.{Bytes, Column}
use Rattle.network.specs.Network.{State}
use Rattle.network.specs.Settled.{rounds_of as networkRounds, settled as networkSettled}
use Rattle.world.specs.Rows.{rows}
use Rattle.refusals.specs.Check.{Checked, or_else, also, check_input, IsAccepted, answer_of, written}
use Rattle.refusals.specs.Answers.{of_input}
use Rattle.emitted.specs.Emitted.{emitted, check_devices, IsValid}
use Rattle.edges.specs.Edges.{network_of}

-- "The number of rounds .., the answering one counted", of the table t with the devices d under the profile p
unfoldable pub rounds_of : Bytes → Bytes → Column → ℕ
rounds_of p t d = networkRounds (network_of p t) (emitted t d)

-- "that round's numbers are the settled ones": signals, weak and strong power
unfoldable pub settled : Bytes → Bytes → Column → State
settled p t d = networkSettled (network_of p t) (emitted t d)

-- ---- the refusals of a call

-- 7 column: "an output column .. not one entry per row", of the three columns' lengths
abbrev pub good_columns : Bytes → ℕ → ℕ → ℕ → Bool
good_columns t signal weak strong = eqb signal (rows t) && (eqb weak (rows t) && eqb strong (rows t))

-- 1 to 5, 10 on the rows, 6, 10 on the column, and 7
unfoldable pub check_call : Bytes → Bytes → Column → ℕ → ℕ → ℕ → Checked
check_call p t d signal weak strong = or_else (check_input p t) (also (check_devices t d) 7 (good_columns t signal weak strong))

-- and 8 unsettled: "limit below the rounds needed"
unfoldable pub check_settle : Bytes → Bytes → Column → ℕ → ℕ → ℕ → ℕ → Checked
check_settle p t d limit signal weak strong = also (check_call p t d signal weak strong) 8 (leb (rounds_of p t d) limit)

-- their numbers in the refusal table
abbrev pub of_call : List ℕ
of_call = of_input ++ 6 ∷ 7 ∷ []

abbrev pub of_settle : List ℕ
of_settle = of_call ++ 8 ∷ []

-- each test of settle passes
pub record Passed (p t : Bytes) (d : Column) (limit signal weak strong : ℕ) : Type 0 where
  pub accepted : IsAccepted p t
  pub valid : IsValid t d
  pub columns : good_columns t signal weak strong ≡ true
  pub enough : rounds_of p t d ≤ limit

-- ---- the whole of a call

-- The three columns after a call on which c falls: those of the settled state, or as they were where it is refused.
pub record Columns (c : Checked) (s : State) (signal weak strong signal' weak' strong' : Column) : Type 0 where
  pub signals : signal' ≡ written c signal s.signal
  pub weaks : weak' ≡ written c weak s.weak
  pub strongs : strong' ≡ written c strong s.strong

-- Settle: its answer, and every byte of the three columns.
pub record Settles (p t : Bytes) (d : Column) (limit : ℕ) (signal weak strong signal' weak' strong' : Column) (r : ℕ) : Type 0 where
  pub answer : r ≡ answer_of (check_settle p t d limit (length signal) (length weak) (length strong)) (rounds_of p t d)
  pub columns :
      Columns (check_settle p t d limit (length signal) (length weak) (length strong)) (settled p t d) signal weak strong signal' weak' strong'

-- ---- what its caller sees

-- "1 to 17"
abbrev pub From1To17 : ℕ → Type 0
From1To17 r = (1 ≤ r) × (r ≤ 17)

-- Of a call that is not refused: "1 to 17, the rounds", and the columns hold what the devices d settle to.
pub record SettledTo (p t : Bytes) (d signal weak strong : Column) (r : ℕ) : Type 0 where
  pub rounds : r ≡ rounds_of p t d
  pub range : From1To17 r
  pub signals : signal ≡ (settled p t d).signal
  pub weaks : weak ≡ (settled p t d).weak
  pub strongs : strong ≡ (settled p t d).strong

-- Of a call that is refused: the columns are as they were.
pub record Unchanged (signal weak strong signal' weak' strong' : Column) : Type 0 where
  pub signals : signal' ≡ signal
  pub weaks : weak' ≡ weak
  pub strongs : strong' ≡ strong
