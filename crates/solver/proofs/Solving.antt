-- Laws: what settles by keys ends as the rounds do; and what the prepared columns of a table settle to, the table does.
-- Assumes nothing.
use mathlib.Core.Path.{◌≡◌, ap, sym, ◌∙◌}
use Prim.Native.Nat.{ℕ}
use Rattle.columns.specs.Column.{Bytes, Column}
use Rattle.network.specs.Network.{Network, strong_of}
use Rattle.network.specs.Settled as Network
use Rattle.network.specs.Laws.Loop.{Answered}
use Rattle.network.specs.Laws.SameEdges.{rounds_same, settled_same}
use Rattle.refusals.specs.Accepted.{Table}
use Rattle.emitted.specs.Emitted.{emitted}
use Rattle.electrical.specs.Answer.{rounds_of, settled}
use Rattle.circuit.specs.Circuit.{circuit}
use Rattle.prepare.specs.Classes.{Prepared}
use Rattle.prepare.proofs.Table.{circuit_of_table}
use Rattle.keys.proofs.Settled.{strong_settled}
use Rattle.levels.specs.declared.signal.Rounds.{Rounds}
use Rattle.std.specs.Prelude.{Option}
use Rattle.rounds.specs.Outcome.{outcome_of, written_by, RunsRounds, Solves}
use Rattle.rounds.proofs.Rounds.{solves}

-- the columns s, w and g are settled in k rounds, and written where the limit is enough
pub keyed : {N : Network} {e s w g signal weak strong signal' weak' strong' : Column} {k limit : ℕ} {r : Option Rounds} → Answered N e g k s w
    → r ≡ outcome_of k limit → signal' ≡ written_by r signal s → weak' ≡ written_by r weak w → strong' ≡ written_by r strong g
    → Solves (Network.rounds_of N e) (Network.settled N e) limit signal weak strong signal' weak' strong' r
keyed {N} {e} {s} {w} {g} {limit = limit} {r = r} a o p q t = solves runs g_is p q t
  where
    g_is : g ≡ strong_of N e
    g_is = a.strong ∙ sym (strong_settled N e)

    runs : RunsRounds N e limit s w r
    runs = record { answer = o ∙ ap (λ n. outcome_of n limit) (sym a.rounds); levels = λ _. rw (← g_is, a.rounds) a }

module _ {p t : Bytes} (table : Table t) {near class : Column} (c : Prepared p t near class) where
  -- the columns settle as the table does
  pub table_solves : (d : Column) {signal weak strong signal' weak' strong' : Column} {limit : ℕ} {r : Option Rounds}
      → Solves (Network.rounds_of (circuit near class) (emitted t d)) (Network.settled (circuit near class) (emitted t d)) limit signal weak strong signal' weak' strong' r
      → Solves (rounds_of p t d) (settled p t d) limit signal weak strong signal' weak' strong' r
  unfolding rounds_of settled
  table_solves d s =
      let same = circuit_of_table p t table in
      rw (c.near_is, c.class_is, rounds_same same (emitted t d), settled_same same (emitted t d)) at s
