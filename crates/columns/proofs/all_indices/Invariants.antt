-- `columns::all_indices` meets its contract. The loop's invariant: the test holds below i. Assumes nothing.
use Rattle.std.proofs.Common.{◌≡◌, ◌<◌, ℕ, Bool, true}
use Rattle.columns.specs.First.{all_below}
use Rattle.columns.proofs.all_indices.Given as goal

abbrev pub invariant-loop-i : goal.invariant-loop-i
invariant-loop-i g l =
    (f : ℕ → Bool) → ((i : ℕ) (b : Bool) → i < l.n → goal.F-post g l.test i b → b ≡ f i)
    → all_below f l.i ≡ true
