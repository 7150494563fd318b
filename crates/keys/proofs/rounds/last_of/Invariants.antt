-- `keys::rounds::last_of` meets its contract. The loop's invariant: `last` is the last round of the keys passed. Assumes nothing.
use mathlib.Core.Path.{◌≡◌}
use Rattle.columns.specs.Column.{row}
use Rattle.network.specs.Levels.{top}
use Rattle.network.specs.Laws.Keys.{round_of}
use Rattle.keys.proofs.rounds.last_of.Given as goal

abbrev pub invariant-loop-key : goal.invariant-loop-key
invariant-loop-key l = l.last ≡ top l.key-index (λ k. round_of (row l.keys k))
