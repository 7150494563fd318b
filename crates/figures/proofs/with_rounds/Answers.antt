-- `figures::with_rounds` meets its contract. Assumes nothing.
use mathlib.Core.Path.{◌≡◌, ap, ◌∙◌}
use Prim.Native.Nat.{◌+◌, ◌-◌}
use native.Mathlib.Nat.{zero-add}
use native.Mathlib.Omega.{arith}
use lib.ListN.{length}
use lib.Dec.{eqb}
use Rattle.levels.specs.Numbers.{number}
use Rattle.figures.proofs.Counting.{added_none, added_one, added_same, added_is, eqb_suc}
use Rattle.figures.proofs.with_rounds.Goals as goal

pub overflow_add-more : goal.overflow_add-more
overflow_add-more c = record { fits = c.requires.by_index (c.args.rounds - 1) }

pub returns : goal.returns
returns c = let n = c.args.rounds in
    let sized : length c.args.counts ≡ 17 = omega arith in
    added_is
    (added_same {f = λ k. number (eqb n (k + 1))} (added_one (added_none {old = c.args.counts} sized) (n - 1) (omega arith))
    (λ k l. zero-add _ ∙ ap number (eqb_suc n k c.requires.le_rounds.0)))
