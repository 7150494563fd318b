-- Which refusals fresh, tick and switch give, and what their answers tell.
-- Assumes nothing.
use Rattle.std.proofs.Common.{Ok, Err}
use mathlib.Core.Path.{◌≡◌, refl, sym, ◌∙◌}
use mathlib.Core.Bool.{◌&&◌}
use mathlib.Core.List.{[], ◌∷◌, ◌++◌}
use Prim.Native.Nat.{ℕ, ◌+◌, ◌*◌, ◌≤◌}
use lib.ListN.{length}
use lib.Dec.{eqb, leb}
use Rattle.columns.specs.Column.{Bytes, Column}
use Rattle.places.specs.declared.Pos.{Pos}
use Rattle.world.specs.Rows.{rows}
use Rattle.refusals.specs.Check.{Checked, refused, written}
use Rattle.refusals.specs.Answers.{Gives, of_input, Tells}
use Rattle.refusals.proofs.Accepted.{accepted_input}
use Rattle.refusals.proofs.Gives.{or_gives, also_gives, wider_gives, not_given, input_gives, values_give}
use Rattle.refusals.proofs.Tells.{tells_also}
use Rattle.switching.specs.Switch.{switched}
use Rattle.electrical.specs.Answer.{good_columns, of_call, SettledTo, Unchanged}
use Rattle.electrical.proofs.Answers.{settling_tells}
use Rattle.updates.specs.State.{device_in, devices_of, is_bad_state, check_state, fresh_devices, fresh_state}
use Rattle.updates.specs.Tick.{ticks}
use Rattle.updates.specs.Calls.{check_fresh, check_step, check_tick, Fresh, Ticks, Switches}

-- ---- the numbers

module _ (p t st : Bytes) where
  state_gives : rows t ≤ 1024 → Gives (6 ∷ 10 ∷ []) (check_state t st)
  unfolding check_state
  state_gives few = values_give (eqb (length st) (rows t * 16)) (is_bad_state t st) (device_in st) (rows t) few

  module _ (signal weak strong : ℕ) where
    pub fresh_gives : (state : ℕ) → Gives (of_input ++ 7 ∷ []) (check_fresh p t state signal weak strong)
    unfolding check_fresh
    fresh_gives state = also_gives 7 refl (eqb state (rows t * 16) && good_columns t signal weak strong) (wider_gives refl (input_gives p t))

    pub step_gives : Gives of_call (check_step p t st signal weak strong)
    unfolding check_step
    step_gives =
        or_gives _ (wider_gives refl (input_gives p t))
        (λ a. also_gives 7 refl (good_columns t signal weak strong) (wider_gives refl (state_gives (accepted_input p t a).1.few)))

    pub tick_gives : (now asked : ℕ) → Gives (of_call ++ 9 ∷ []) (check_tick p t st now asked signal weak strong)
    unfolding check_tick
    tick_gives now asked = also_gives 9 refl (leb (now + asked) 4294967295) (wider_gives refl step_gives)

    -- ---- "Only settle gives 8"

    pub fresh_never_8 : (state i : ℕ) → ¬ (check_fresh p t state signal weak strong ≡ refused 8 i)
    fresh_never_8 state i = not_given (fresh_gives state) 8 i refl

    pub step_never_8 : (i : ℕ) → ¬ (check_step p t st signal weak strong ≡ refused 8 i)
    step_never_8 i = not_given step_gives 8 i refl

    pub tick_never_8 : (now asked i : ℕ) → ¬ (check_tick p t st now asked signal weak strong ≡ refused 8 i)
    tick_never_8 now asked i = not_given (tick_gives now asked) 8 i refl

-- what is written where it makes no difference
pub either_way : (c : Checked) (st : Bytes) → written c st st ≡ st
either_way (Ok _) st = refl
either_way (Err fault) st = refl

-- ---- the answers: "1 to 17, the rounds, or 65,536 times the number plus the row"

module _ {p t st st' : Bytes} {signal weak strong signal' weak' strong' : Column} {r : ℕ} where
  pub fresh_tells : Fresh p t st st' signal weak strong signal' weak' strong' r
      → Tells (of_input ++ 7 ∷ []) (check_fresh p t (length st) (length signal) (length weak) (length strong)) r
      (SettledTo p t (fresh_devices t) signal' weak' strong' r × (st' ≡ fresh_state p t))
      (Unchanged signal weak strong signal' weak' strong' × (st' ≡ st))
  fresh_tells f =
      tells_also (settling_tells refl (fresh_gives p t st (length signal) (length weak) (length strong) (length st)) f.answer f.columns) f.state

  pub ticks_tell : {now asked : ℕ} → Ticks p t st st' now asked signal weak strong signal' weak' strong' r
      → Tells (of_call ++ 9 ∷ []) (check_tick p t st now asked (length signal) (length weak) (length strong)) r
      (SettledTo p t (devices_of t (ticks asked p t st)) signal' weak' strong' r × (st' ≡ ticks asked p t st))
      (Unchanged signal weak strong signal' weak' strong' × (st' ≡ st))
  ticks_tell {now} {asked} f =
      tells_also (settling_tells refl (tick_gives p t st (length signal) (length weak) (length strong) now asked) f.answer f.columns) f.state

module _ {p t t' st st' : Bytes} {q : Pos} {power : ℕ} {signal weak strong signal' weak' strong' : Column} {r : ℕ} where
  pub switch_tells : Switches p t t' st st' q power signal weak strong signal' weak' strong' r
      → Tells of_call (check_step p t st (length signal) (length weak) (length strong)) r
      ((SettledTo p (switched t q power) (devices_of t st) signal' weak' strong' r × (t' ≡ switched t q power)) × (st' ≡ st))
      ((Unchanged signal weak strong signal' weak' strong' × (t' ≡ t)) × (st' ≡ st))
  switch_tells f =
      let c = check_step p t st (length signal) (length weak) (length strong) in
      let settles = settling_tells refl (step_gives p t st (length signal) (length weak) (length strong)) f.answer f.columns in
      tells_also (tells_also settles f.table) (f.state ∙ sym (either_way c st))
