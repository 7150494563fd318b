-- Answers of `adjacency::fill_places`.
use native.Mathlib.Omega.{arith}
use Rattle.adjacency.proofs.Found.{placed_long}
use Rattle.adjacency.proofs.Placing.{placing_none, placing_fits, placing_room, placing_more, placing_all}
use Rattle.adjacency.proofs.fill_places.Goals as goal

pub loop-place-init : goal.loop-place-init
loop-place-init c = let s = c in placing_none (placed_long s.requires.0) s.requires.1

pub overflow_mul-start : goal.overflow_mul-start
overflow_mul-start c = omega (arith, placing_fits c.loop-place.invariant (omega arith))

pub overflow_add-start : goal.overflow_add-start
overflow_add-start c = omega (arith, placing_fits c.loop-place.invariant (omega arith))

pub slice_bounds-fill_place-end : goal.slice_bounds-fill_place-end
slice_bounds-fill_place-end c = omega (arith, placing_fits c.loop-place.invariant (omega arith))

pub fill_place-requires : goal.fill_place-requires
fill_place-requires c = let l = c in (l.requires.0, placing_room l.loop-place.invariant (omega arith), omega arith)

pub loop-place-preserved : goal.loop-place-preserved
loop-place-preserved c = placing_more c.loop-place.invariant (omega arith) c.fill_place.ensures

pub returns : goal.returns
returns c = placing_all c.loop-place.invariant (omega arith)
