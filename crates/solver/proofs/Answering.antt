-- Laws of a call: what its checks say, and what it answers and writes by how settling ends.
-- Assumes nothing.
use mathlib.Core.Path.{◌≡◌, refl, sym, ◌∙◌}
use mathlib.Core.Bool.{Bool, true, false, cond}
use Prim.Native.Nat.{ℕ}
use lib.ListN.{length}
use lib.Dec.{leb}
use Rattle.std.specs.Prelude.{Option, None}
use Rattle.columns.specs.Column.{Bytes, Column}
use Rattle.world.specs.Rows.{rows}
use Rattle.refusals.specs.Check.{Checked, accepted, refused, refuse_unless, check_input, answer_of}
use Rattle.refusals.proofs.Passed.{passed_unless, passed_both}
use Rattle.refusals.specs.Accepted.{Table}
use Rattle.refusals.proofs.Accepted.{accepted_input}
use Rattle.emitted.specs.Emitted.{check_devices}
use Rattle.electrical.specs.Answer.{rounds_of, settled, good_columns, check_call, check_settle, Settles}
use Rattle.levels.specs.declared.signal.Rounds.{Rounds}
use Rattle.rounds.specs.Prepared.{Outputs}
use Rattle.rounds.specs.Outcome.{settled_in, outcome_of, Solves}
use Rattle.rounds.proofs.Lending.{outputs}
use Rattle.solver.specs.Answer.{answer_by}

module _ (p t : Bytes) (d signal weak strong : Column) where
  -- a call that passes its checks
  pub passed_call : check_call p t d (length signal) (length weak) (length strong) ≡ accepted → Table t × Outputs (rows t) signal weak strong
  unfolding check_call
  passed_call h =
      let (input, rest) = passed_both (check_input p t) _ h in
      let (_, columns) = passed_both (check_devices t d) _ rest in
      let (good, _) = passed_unless 7 (good_columns t (length signal) (length weak) (length strong)) accepted columns in
      ((accepted_input p t input).1, outputs (rows t) signal weak strong good)

  -- what the call checked
  module _ {c : Checked} (checked : c ≡ check_call p t d (length signal) (length weak) (length strong)) where
    pub passes : c ≡ accepted → check_call p t d (length signal) (length weak) (length strong) ≡ accepted
    passes h = sym checked ∙ h

    -- a call that passes is settled, or refused by its limit
    pub answers_solved : {limit : ℕ} {signal' weak' strong' : Column} {r : Option Rounds} → c ≡ accepted
        → Solves (rounds_of p t d) (settled p t d) limit signal weak strong signal' weak' strong' r
        → Settles p t d limit signal weak strong signal' weak' strong' (answer_by r)
    unfolding check_settle outcome_of
    answers_solved {limit} {r = r} h s =
        record { answer = rw (passes h) (go (leb (rounds_of p t d) limit) s.answer); columns = rw (passes h) s.columns }
      where
        go : (b : Bool) → r ≡ cond b (settled_in (rounds_of p t d)) None → answer_by r ≡ answer_of (refuse_unless 8 b accepted) (rounds_of p t d)
        go true e = rw e
        go false e = rw e

    -- one that does not is refused, and writes nothing
    pub answers_refused : {limit n i r : ℕ} → c ≡ refused n i → r ≡ answer_of (refused n i) 0 → Settles p t d limit signal weak strong signal weak strong r
    unfolding check_settle
    answers_refused {n = n} {i = i} h e =
        let fault : check_call p t d (length signal) (length weak) (length strong) ≡ refused n i = sym checked ∙ h in
        record { answer = rw fault e; columns = rw fault (record { signals = refl; weaks = refl; strongs = refl }) }
