-- The number of rounds, by the keys of the dust.
-- Assumes nothing.
use Rattle.std.specs.Prelude.{cond, ℕ, length, ltb}
use Rattle.columns.specs.Column.{Column, row}
use Rattle.network.specs.Levels.{top}
use Rattle.network.specs.Laws.Keys.{level_of, round_of}

-- the last round in which the level of a key arrives
unfoldable pub last_of : Column → ℕ
last_of keys = top (length keys) (λ i. round_of (row keys i))

-- the round of a key whose level is above the weak power that is there without it, else 0
abbrev pub shown_by : ℕ → ℕ → ℕ
shown_by base key = cond (ltb base (level_of key)) (round_of key) 0

-- the last of them
unfoldable pub last_shown : Column → Column → ℕ
last_shown base under = top (length under) (λ i. shown_by (row base i) (row under i))
