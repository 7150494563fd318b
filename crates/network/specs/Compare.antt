-- What `Demand` compares: numbers, columns row by row, and states.
-- Assumes nothing.
use Rattle.std.specs.Prelude.{◌≡◌, false, ℕ, ◌+◌, ◌≤◌, max}
use Rattle.columns.specs.Column.{Column, row}
use Rattle.network.specs.Network.{Network, State}

-- a relation between two numbers, and one between three
abbrev pub Rel₂ : Type 1
Rel₂ = ℕ → ℕ → Type 0

abbrev pub Rel₃ : Type 1
Rel₃ = ℕ → ℕ → ℕ → Type 0

-- the first is at most the second
abbrev pub AtMost : Rel₂
AtMost x y = x ≤ y

-- the two differ by at most d
abbrev pub Within : ℕ → Rel₂
Within d x y = (x ≤ y + d) × (y ≤ x + d)

-- the third is the larger of the first two
abbrev pub Larger : Rel₃
Larger x y z = max x y ≡ z

-- between two columns, at every row; between two states, in every column
pub record AtEveryRow₂ (R : Rel₂) (x y : Column) : Type 0 where
  pub at : (i : ℕ) → R (row x i) (row y i)

pub record States₂ (R : Rel₂) (x y : State) : Type 0 where
  pub signal : AtEveryRow₂ R x.signal y.signal
  pub on_map : AtEveryRow₂ R x.on_map y.on_map
  pub weak : AtEveryRow₂ R x.weak y.weak
  pub strong : AtEveryRow₂ R x.strong y.strong

-- between three columns, at every row; between three states, in every column
pub record AtEveryRow₃ (R : Rel₃) (x y z : Column) : Type 0 where
  pub at : (i : ℕ) → R (row x i) (row y i) (row z i)

pub record States₃ (R : Rel₃) (x y z : State) : Type 0 where
  pub signal : AtEveryRow₃ R x.signal y.signal z.signal
  pub on_map : AtEveryRow₃ R x.on_map y.on_map z.on_map
  pub weak : AtEveryRow₃ R x.weak y.weak z.weak
  pub strong : AtEveryRow₃ R x.strong y.strong z.strong

-- power reaches only rows of the map
pub record PowerOnMap (N : Network) : Type 0 where
  pub emitted_to_strong : (j i : ℕ) → N.mapped i ≡ false → N.emitted_to_strong j i ≡ false
  pub strong_to_weak : (j i : ℕ) → N.mapped i ≡ false → N.strong_to_weak j i ≡ false
  pub dust_to_weak : (j i : ℕ) → N.mapped i ≡ false → N.dust_to_weak j i ≡ false
