-- Every definition that a computed settling unfolds: a declaration that says `unfolding computing` unfolds them all.
-- Assumes nothing.
use Rattle.std.specs.Prelude.{ℕ}
use Rattle.columns.specs.Column.{tabulate_from, same}
use Rattle.network.specs.Levels.{top, arriving}
use Rattle.network.specs.Network.{strong_of, weak_of, level, signals, on_map_of, empty_map, start, round, after}
use Rattle.network.specs.Settled.{settling, rounds_of, settled}
use Rattle.network.specs.Laws.States.{same_state}
use Rattle.network.specs.Laws.FirstAnswering.{first_answering_from, first_answering}

unfoldable pub computing : ℕ
unfolding tabulate_from same top arriving strong_of weak_of level signals on_map_of empty_map start round after same_state first_answering_from first_answering settling rounds_of settled
computing = 0
