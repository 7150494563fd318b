-- The columns that no round changes, as the rounds find them, the room for the rounds, and what a round makes of it.
-- Assumes nothing.
use Rattle.std.specs.Prelude.{◌≡◌, Bool, ℕ, length}
use Rattle.columns.specs.Column.{Column}
use Rattle.network.specs.Network.{Network, strong_of, weak_of, level, signals}
use Rattle.network.specs.Laws.Loop.{unmapped, repeats}
use Rattle.circuit.specs.Circuit.{Shaped, circuit}
use Rattle.power.specs.Power.{base_of, direct_of}

-- Of a network in columns with the emitted levels: the weak power from strong power, and the direct levels.
pub record Prepared (near class emitted base direct : Column) : Type 0 where
  pub shaped : Shaped near class
  pub emitted_rows : length emitted ≡ length class
  pub base_rows : length base ≡ length class
  pub direct_rows : length direct ≡ length class
  pub base_is : base ≡ base_of (circuit near class) (strong_of (circuit near class) emitted)
  pub direct_is : direct ≡ direct_of (circuit near class) emitted (strong_of (circuit near class) emitted)

-- Room for the columns of two rounds over n rows.
pub record Room (n : ℕ) (s0 w0 s1 w1 : Column) : Type 0 where
  pub s0_rows : length s0 ≡ n
  pub w0_rows : length w0 ≡ n
  pub s1_rows : length s1 ≡ n
  pub w1_rows : length w1 ≡ n

-- One entry for each of n rows in each output column.
pub record Outputs (n : ℕ) (signal weak strong : Column) : Type 0 where
  pub signal_rows : length signal ≡ n
  pub weak_rows : length weak ≡ n
  pub strong_rows : length strong ≡ n

-- One round more than so many takes the signals s and the weak power w to s' and w', and r says whether it answers.
pub record Turns (N : Network) (e : Column) (rounds : ℕ) (s w s' w' : Column) (r : Bool) : Type 0 where
  pub signal : s' ≡ signals N e (level N e (strong_of N e) s)
  pub weak : w' ≡ weak_of N (strong_of N e) s
  pub answer : r ≡ repeats (unmapped N) rounds s w s' w'
