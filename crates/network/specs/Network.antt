-- A redstone network as settling sees it, and the rounds by which it settles. What stands in quotation marks is document 01's.
-- Assumes nothing.
use Rattle.std.specs.Prelude.{◌≡◌, Bool, true, cond, ℕ, zero, suc, ◌-◌, ◌≤◌, ◌<◌, min, max}
use Rattle.columns.specs.Column.{Column, row, tabulate}
use Rattle.columns.specs.Signal.{max_signal}
use Rattle.network.specs.Levels.{arriving}

-- Which rows are dust, which stand on the power map, and what reaches what: an edge goes from its first row to its second.
pub record Network : Type 0 where
  pub size : ℕ
  pub dust : ℕ → Bool
  -- "The map holds the rows that receive weak or strong"
  pub mapped : ℕ → Bool
  -- "Strong power: lever, button, plate reach their support, ..": an emitted level reaches as strong power
  pub emitted_to_strong : ℕ → ℕ → Bool
  -- "Weak power: a strongly powered block reaches its six neighbours": strong power reaches as weak power
  pub strong_to_weak : ℕ → ℕ → Bool
  -- "dust reaches the block below and along its arms": a dust's level reaches as weak power
  pub dust_to_weak : ℕ → ℕ → Bool
  -- "each transmitting dust": a dust's level, less one, reaches a dust
  pub transmits : ℕ → ℕ → Bool
  -- "Direct level is the emitted level of ..": an emitted level reaches a dust
  pub emitted_to_dust : ℕ → ℕ → Bool
  -- "otherwise strong power where the neighbour drives dust": strong power reaches a dust
  pub strong_to_dust : ℕ → ℕ → Bool

-- What a round leaves: "signals and power map". The map is 1 at its rows, with the weak and the strong power there.
pub record State : Type 0 where
  pub signal : Column
  pub on_map : Column
  pub weak : Column
  pub strong : Column

module _ (N : Network) where
  open N use {size, dust, mapped, emitted_to_strong, strong_to_weak, dust_to_weak, transmits, emitted_to_dust, strong_to_dust}

  -- "Strong power: ..", of the emitted levels e
  unfoldable pub strong_of : Column → Column
  strong_of e = tabulate size (arriving size emitted_to_strong (row e))

  -- "Weak power: ..", of the strong power g and the signals s
  unfoldable pub weak_of : Column → Column → Column
  weak_of g s = tabulate size (λ i. max (arriving size strong_to_weak (row g) i) (arriving size dust_to_weak (row s) i))

  -- "A dust's level is the largest, capped at 15, of: each transmitting dust's level less one, not below 0; the direct level ..": at row i, of the
  -- emitted levels e, the strong power g and the signals s
  unfoldable pub level : Column → Column → Column → ℕ → ℕ
  level e g s i =
      min max_signal
      (max (arriving size transmits (λ j. row s j - 1) i)
      (max (arriving size emitted_to_dust (row e) i) (arriving size strong_to_dust (row g) i)))

  -- the signals where the dust has the levels x: "Every other row's signal is its emitted level"
  unfoldable pub signals : Column → (ℕ → ℕ) → Column
  signals e x = tabulate size (λ i. cond (dust i) (x i) (row e i))

  -- the rows of the map
  unfoldable pub on_map_of : Column
  on_map_of = tabulate size (λ i. cond (mapped i) 1 0)

  -- the rows of the empty map, and the power there
  unfoldable pub empty_map : Column
  empty_map = tabulate size (λ i. 0)

  -- "dust starts at 0, power as an empty map"
  unfoldable pub start : Column → State
  start e = record { signal = signals e (λ i. 0); on_map = empty_map; weak = empty_map; strong = empty_map }

  -- "Each round takes power from the last signals, then dust from the last signals and that new power"
  unfoldable pub round : Column → State → State
  round e t =
      record {
        signal = signals e (level e (strong_of e) t.signal);
        on_map = on_map_of;
        weak = weak_of (strong_of e) t.signal;
        strong = strong_of e;
      }

  -- what k rounds leave
  unfoldable pub after : Column → ℕ → State
  after e zero = start e
  after e (suc k) = round e (after e k)

  -- "a round answers when signals and power map both equal the last": round k
  abbrev pub Answers : Column → ℕ → Type 0
  Answers e zero = ⊥
  Answers e (suc k) = after e (suc k) ≡ after e k

  -- k is "the number of rounds .., the answering one counted": round k answers, and none before it
  pub record Rounds (e : Column) (k : ℕ) : Type 0 where
    pub answers : Answers e k
    pub least : (j : ℕ) → Answers e j → k ≤ j

  -- row i is no dust, or the rule for its level gives x i back
  abbrev pub SatisfiesAt : Column → (ℕ → ℕ) → ℕ → Type 0
  SatisfiesAt e x i = dust i ≡ true → level e (strong_of e) (signals e x) i ≡ x i

  -- "A set of dust levels, one whole number from 0 up for each dust row, satisfies the definition where the rule for a dust's level gives the same
  -- set back": the levels x, read at the dust rows only
  abbrev pub Satisfies : Column → (ℕ → ℕ) → Type 0
  Satisfies e x = (i : ℕ) → i < size → SatisfiesAt e x i

  -- the levels x break the definition at a dust: the rule gives another level there
  pub record Breaks (e : Column) (x : ℕ → ℕ) : Type 0 where
    pub row : ℕ
    pub inside : row < size
    pub is_dust : dust row ≡ true
    pub differs : ¬ (level e (strong_of e) (signals e x) row ≡ x row)
