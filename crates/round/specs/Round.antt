-- A round over a network, with what settling takes from the emitted levels once.
-- Assumes nothing.
use Rattle.std.specs.Prelude.{◌-◌, min, max}
use Rattle.columns.specs.Column.{Column, row, tabulate}
use Rattle.columns.specs.Signal.{max_signal}
use Rattle.network.specs.Levels.{arriving}
use Rattle.network.specs.Network.{Network, signals}

module _ (N : Network) where
  open N use {size, dust_to_weak, transmits}

  -- the signals of the next round, of the emitted levels e, the direct levels and the last signals s
  unfoldable pub next_signals : Column → Column → Column → Column
  next_signals e direct s = signals N e (λ i. min max_signal (max (arriving size transmits (λ j. row s j - 1) i) (row direct i)))

  -- the weak power of the next round, of that which comes of strong power and the last signals s
  unfoldable pub next_weaks : Column → Column → Column
  next_weaks base s = tabulate size (λ i. max (row base i) (arriving size dust_to_weak (row s) i))
