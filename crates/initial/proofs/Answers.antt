-- What the answer of a settling with fresh devices tells.
-- Assumes nothing.
use mathlib.Core.Path.{◌≡◌, refl, ap, ◌∙◌}
use Prim.Native.Nat.{◌≤◌}
use native.Mathlib.Omega.{arith}
use lib.ListN.{length, take}
use Rattle.columns.specs.Column.{Bytes}
use Rattle.world.specs.Rows.{rows}
use Rattle.refusals.specs.Check.{check_input}
use Rattle.refusals.specs.Answers.{of_input, Tells}
use Rattle.refusals.proofs.Gives.{input_gives}
use Rattle.refusals.proofs.Tells.{tells}
use Rattle.electrical.specs.Answer.{settled, SettledTo}
use Rattle.electrical.proofs.Demand.{rounds_range, settled_sized}
use Rattle.updates.specs.State.{fresh_devices}
use Rattle.initial.specs.declared.Initial.{Initial}
use Rattle.initial.specs.SettlesFresh.{SettlesFresh}
use Rattle.initial.proofs.Lending.{column_front, column_sized}

module _ {p t : Bytes} {r : Initial} (s : SettlesFresh p t r) where
  -- a refused table leaves nothing to be read
  pub initial_tells : Tells of_input (check_input p t) r.answer
      (SettledTo p t (fresh_devices t) (take (rows t) r.signal) (take (rows t) r.weak) (take (rows t) r.strong) r.answer) (Unit {0})
  initial_tells =
      let range = rounds_range p t (fresh_devices t) in
      tells refl (input_gives p t) (λ _. omega (arith, range)) s.answer
      (λ a is.
      let long = settled_sized p t (fresh_devices t) in
      record {
        rounds = is;
        range = omega (arith, range, is);
        signals = column_front (rows t) (check_input p t) _ _ a long.signal s.signals;
        weaks = column_front (rows t) (check_input p t) _ _ a long.weak s.weaks;
        strongs = column_front (rows t) (check_input p t) _ _ a long.strong s.strongs;
      })
      (λ n i f. tt)

  -- the columns have 1,024 entries, as their type says
  pub initial_sized : rows t ≤ 1024 → (length r.signal ≡ 1024) × (length r.weak ≡ 1024) × (length r.strong ≡ 1024)
  initial_sized few =
      let n = settled p t (fresh_devices t) in
      let long = settled_sized p t (fresh_devices t) in (
        ap length s.signals ∙ column_sized (check_input p t) n.signal (rw long.signal few),
        ap length s.weaks ∙ column_sized (check_input p t) n.weak (rw long.weak few),
        ap length s.strongs ∙ column_sized (check_input p t) n.strong (rw long.strong few),
      )
