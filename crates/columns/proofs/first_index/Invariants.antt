-- `columns::first_index` meets its contract. The loop's invariant: what is found, is found from i on. Assumes nothing.
use Rattle.std.proofs.Common.{◌≡◌, ◌<◌, ◌-◌, ℕ, Bool}
use Rattle.columns.specs.First.{first_from}
use Rattle.columns.proofs.first_index.Given as goal

abbrev pub invariant-loop-i : goal.invariant-loop-i
invariant-loop-i g l =
    (f : ℕ → Bool) → ((i : ℕ) (b : Bool) → i < l.n → goal.F-post g l.test i b → b ≡ f i)
    → first_from f l.n 0 ≡ first_from f (l.n - l.i) l.i
