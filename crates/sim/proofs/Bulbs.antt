-- Document 02, Change 4, of what the calls write.
-- Assumes nothing.
use mathlib.Core.Path.{◌≡◌, ap, ◌∙◌}
use Prim.Native.Nat.{ℕ, ◌+◌, ◌<◌}
use lib.ListN.{length}
use Rattle.columns.specs.Column.{Bytes, Column}
use Rattle.blocks.specs.Kind.{CopperBulb}
use Rattle.world.specs.Rows.{rows, kind_of, is_powered}
use Rattle.refusals.specs.Check.{written}
use Rattle.refusals.proofs.Tells.{told_accepted}
use Rattle.levels.specs.Numbers.{has_power, number}
use Rattle.states.specs.Row.{lit_of, had_power_of}
use Rattle.bulb.specs.Step.{next_bulb_light}
use Rattle.updates.specs.State.{sixteen}
use Rattle.updates.specs.Tick.{settled_of, tick, ticks}
use Rattle.updates.specs.Calls.{check_tick, Fresh, Ticks}
use Rattle.updates.proofs.Answers.{either_way, fresh_tells, ticks_tell}
use Rattle.running.proofs.Many.{ticks_none, ticks_next}
use Rattle.running.proofs.States.{length_ticks}
use Rattle.running.proofs.Valid.{valid_state}
use Rattle.running.proofs.Bulbs.{fresh-light, fresh-had-power, tick_light, tick_had_power}
use Rattle.sim.proofs.Passing.{passed_tick}

-- ---- byte 9 tells whether the columns that are written with it have power there

module _ {p t st st' : Bytes} {signal weak strong signal' weak' strong' : Column} {r : ℕ} (i : ℕ) (h : i < rows t) (bulb : kind_of t i ≡ CopperBulb)
    (done : r < 65536) where
  -- of a fresh state,
  pub fresh_written : Fresh p t st st' signal weak strong signal' weak' strong' r → had_power_of (sixteen st' i) ≡ number (has_power weak' strong' i)
  fresh_written f =
      let (to, is) = (fresh_tells f).done done in
      rw (is, to.weaks, to.strongs) (fresh-had-power p t i h bulb)

  -- and of the state after a tick or more.
  pub ticks_written : {now : ℕ} (n : ℕ) → Ticks p t st st' now (n + 1) signal weak strong signal' weak' strong' r
      → had_power_of (sixteen st' i) ≡ number (has_power weak' strong' i)
  unfolding settled_of
  ticks_written {now} n f =
      let (to, is) = (ticks_tell f).done done in
      let valid = (passed_tick p t st signal weak strong now (n + 1) (told_accepted (ticks_tell f) done)).state in
      let before = ticks n p t st in
      let last : ticks (n + 1) p t st ≡ tick p t before = ticks_next p t n st in
      let long = length_ticks p t n st (valid_state t st valid).sized in
      rw (is, to.weaks, to.strongs, last) (tick_had_power p t before long i h bulb)

  -- ---- the light, fresh and after one tick

  pub fresh_light_written : Fresh p t st st' signal weak strong signal' weak' strong' r → lit_of (sixteen st' i) ≡ number (is_powered t i)
  fresh_light_written f = rw ((fresh_tells f).done done).1 (fresh-light p t i h bulb)

  pub tick_light_written : {now : ℕ} → Ticks p t st st' now 1 signal weak strong signal' weak' strong' r
      → lit_of (sixteen st' i) ≡ next_bulb_light (has_power weak' strong' i) (had_power_of (sixteen st i)) (lit_of (sixteen st i))
  unfolding settled_of
  tick_light_written {now} f =
      let (to, is) = (ticks_tell f).done done in
      let valid = (passed_tick p t st signal weak strong now 1 (told_accepted (ticks_tell f) done)).state in
      let last : ticks 1 p t st ≡ tick p t st = ticks_next p t 0 st ∙ ap (tick p t) (ticks_none p t st) in
      rw (is, to.weaks, to.strongs, last) (tick_light p t st (valid_state t st valid).sized i h bulb)

-- "none only settles": no byte of the state is written
pub no_tick_written : {p t st st' : Bytes} {now : ℕ} {signal weak strong signal' weak' strong' : Column} {r : ℕ}
    → Ticks p t st st' now 0 signal weak strong signal' weak' strong' r → st' ≡ st
no_tick_written {p} {t} {st} {now = now} {signal} {weak} {strong} f =
    let c = check_tick p t st now 0 (length signal) (length weak) (length strong) in
    f.state ∙ ap (written c st) (ticks_none p t st) ∙ either_way c st
