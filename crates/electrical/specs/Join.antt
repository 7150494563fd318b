-- What demand 3 speaks of: the join of two device columns, and calls of settle.
-- Assumes nothing.
use Rattle.std.specs.Prelude.{ℕ, ◌≤◌, max, length}
use Rattle.columns.specs.Column.{Bytes, Column, row, tabulate}
use Rattle.network.specs.Compare.{Larger, AtEveryRow₃, States₃}
use Rattle.emitted.specs.Emitted.{IsValid}
use Rattle.electrical.specs.Answer.{rounds_of, settled, Settles, From1To17}

-- "joined by taking the larger number at each row"
unfoldable pub larger_of : Column → Column → Column
larger_of a b = tabulate (length a) (λ i. max (row a i) (row b i))

-- The column c is valid, settles to the larger of what a and b settle to at each row, and in no more rounds than one of them.
pub record Joined (p t : Bytes) (a b c : Column) : Type 0 where
  pub valid : IsValid t c
  pub numbers : States₃ Larger (settled p t a) (settled p t b) (settled p t c)
  pub rounds : rounds_of p t c ≤ max (rounds_of p t a) (rounds_of p t b)

-- ---- calls of settle

-- A call with the devices d, whichever way it settles: its limit, the three columns before it and after it, and its answer.
pub record Call (p t : Bytes) (d : Column) : Type 0 where
  pub limit : ℕ
  pub signal : Column
  pub weak : Column
  pub strong : Column
  pub signal' : Column
  pub weak' : Column
  pub strong' : Column
  pub answer : ℕ
  pub whole : Settles p t d limit signal weak strong signal' weak' strong' answer

-- The call z leaves the larger of what x and y leave at each row, and answers at most the larger of their answers, each at most 17.
pub record JoinedCalls {p t : Bytes} {a b c : Column} (x : Call p t a) (y : Call p t b) (z : Call p t c) : Type 0 where
  pub signals : AtEveryRow₃ Larger x.signal' y.signal' z.signal'
  pub weaks : AtEveryRow₃ Larger x.weak' y.weak' z.weak'
  pub strongs : AtEveryRow₃ Larger x.strong' y.strong' z.strong'
  pub rounds : z.answer ≤ max x.answer y.answer
  pub range : From1To17 x.answer × From1To17 y.answer × From1To17 z.answer
