-- The number that a call answers, by how settling ends.
-- Assumes nothing.
use Rattle.std.specs.Prelude.{ℕ, Option, Some, None}
use Rattle.refusals.specs.Check.{refused, answer_of}
use Rattle.levels.specs.declared.signal.Rounds.{Rounds}

abbrev pub answer_by : Option Rounds → ℕ
answer_by (Some rounds) = rounds.count
answer_by None = answer_of (refused 8 0) 0
