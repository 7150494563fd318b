-- `keys::pass::fill_own` meets its contract. Assumes nothing.
use mathlib.Core.Path.{ap, sym, ◌∙◌}
use native.Mathlib.Omega.{arith}
use Prim.Native.Nat.{◌*◌, min}
use Rattle.columns.specs.Column.{row, tabulate}
use Rattle.columns.specs.Signal.{max_signal}
use Rattle.columns.proofs.Columns.{filled_all}
use Rattle.keys.specs.Pass.{own_keys}
use Rattle.keys.proofs.pass.fill_own.Goals as goal

pub returns : goal.returns
unfolding own_keys
returns c = filled_all c.loop-i.invariant (omega arith) ∙ ap (λ n. tabulate n (λ k. 16 * min max_signal (row c.args.direct.now k))) (sym c.requires)
