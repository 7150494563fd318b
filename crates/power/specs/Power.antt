-- What settling takes from the emitted levels once: strong power is `strong_of` of the network.
-- Assumes nothing.
use Rattle.std.specs.Prelude.{◌≡◌, Bool, not, ◌||◌, max, length}
use Rattle.columns.specs.Column.{Column, row, tabulate}
use Rattle.network.specs.Levels.{arriving}
use Rattle.network.specs.Network.{Network, strong_of}
use Rattle.columns.specs.First.{all_below}
use Rattle.classes.specs.Class.{weak_in, strong_in}

module _ (N : Network) where
  open N use {size, strong_to_weak, emitted_to_dust, strong_to_dust}

  -- "Weak power: a strongly powered block reaches its six neighbours", of the strong power g
  unfoldable pub base_of : Column → Column
  base_of g = tabulate size (arriving size strong_to_weak (row g))

  -- "the direct level", of the emitted levels e and the strong power g, not capped
  unfoldable pub direct_of : Column → Column → Column
  direct_of e g = tabulate size (λ i. max (arriving size emitted_to_dust (row e) i) (arriving size strong_to_dust (row g) i))

-- The strong power, the weak power that comes of it, and the direct levels, of the emitted levels e.
pub record Powered (N : Network) (e strong base direct : Column) : Type 0 where
  pub strong_is : strong ≡ strong_of N e
  pub base_is : base ≡ base_of N (strong_of N e)
  pub direct_is : direct ≡ direct_of N e (strong_of N e)

-- none of the rows of these classes receives power: the map is empty
unfoldable pub none_mapped : Column → Bool
none_mapped class = all_below (λ i. not (weak_in (row class i) || strong_in (row class i))) (length class)
