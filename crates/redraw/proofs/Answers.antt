-- What the answer of the redraw tells.
-- Assumes nothing.
use mathlib.Core.Path.{◌≡◌, refl}
use Prim.Native.Nat.{ℕ}
use native.Mathlib.Omega.{arith}
use Rattle.columns.specs.Column.{Bytes}
use Rattle.refusals.specs.Check.{check_input}
use Rattle.refusals.specs.Answers.{of_input, Tells}
use Rattle.refusals.proofs.Gives.{input_gives}
use Rattle.refusals.proofs.Tells.{tells}
use Rattle.redrawing.specs.Drawn.{update_wire_shapes}
use Rattle.redraw.specs.Redraw.{Redraws}

-- 0 where it has drawn the arms anew, or 65,536 times the number plus the row
pub redraw_tells : {p t t' : Bytes} {r : ℕ} → Redraws p t t' r → Tells of_input (check_input p t) r ((r ≡ 0) × (t' ≡ update_wire_shapes p t)) (t' ≡ t)
redraw_tells {p} {t} d =
    tells refl (input_gives p t) (λ _. omega arith) d.answer (λ a is. (is, rw a at d.table)) (λ n i f. rw f at d.table)
