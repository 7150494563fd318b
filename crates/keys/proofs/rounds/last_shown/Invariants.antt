-- `keys::rounds::last_shown` meets its contract. The loop's invariant: `last` is the last round of the keys passed that show. Assumes nothing.
use mathlib.Core.Path.{◌≡◌}
use Rattle.columns.specs.Column.{row}
use Rattle.network.specs.Levels.{top}
use Rattle.keys.specs.Rounds.{shown_by}
use Rattle.keys.proofs.rounds.last_shown.Given as goal

abbrev pub invariant-loop-i : goal.invariant-loop-i
invariant-loop-i l = l.last ≡ top l.i (λ k. shown_by (row l.base k) (row l.under k))
