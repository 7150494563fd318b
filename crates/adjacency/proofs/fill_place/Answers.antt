-- `adjacency::fill_place` meets its contract. Assumes nothing.
use mathlib.Core.Path.{◌≡◌, sym, ◌∙◌}
use native.Mathlib.Omega.{arith}
use Rattle.adjacency.proofs.Found.{placed_long, placed_rises}
use Rattle.adjacency.proofs.Beside.{walked_by}
use Rattle.adjacency.proofs.fill_place.Goals as goal

pub walk-requires : goal.walk-requires
walk-requires c = let s = c in
    (placed_rises s.requires.0, c.step_to.ensures.1, s.requires.1 ∙ sym (placed_long s.requires.0))

pub returns-then-place-lt6 : goal.returns-then-place-lt6
returns-then-place-lt6 c = let s = c in
    c.walk.ensures ∙ rw c.step_to.ensures.0 (walked_by s.requires.0 s.args.place (omega arith))

pub returns : goal.returns
returns c = let last : c.args.place ≡ 6 = omega arith in
    rw last c.fill_supports.ensures
