-- `updates::state::each_row` meets its contract. The loop's invariant: the rows passed are written. Assumes nothing.
use Rattle.std.proofs.Common.{◌≡◌, ◌<◌, ℕ}
use Rattle.columns.specs.Column.{Bytes, part}
use Rattle.columns.proofs.Parts.{Written}
use Rattle.updates.proofs.state.each_row.Given as goal

abbrev pub invariant-loop-i : goal.invariant-loop-i
invariant-loop-i g l =
    (f : ℕ → Bytes → Bytes) → ((i : ℕ) (r r' : _) → i < l.rows → goal.F-post g l.write i r tt r' → r'.now ≡ f i r.now)
    → Written 16 (λ k. f k (part 16 l.initial.state k)) l.initial.state l.i l.state
