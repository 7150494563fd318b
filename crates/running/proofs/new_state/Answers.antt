-- `running::new_state` meets its contract. Assumes nothing.
use Rattle.refusals.proofs.Accepted.{accepted_input}
use Rattle.running.proofs.Running.{few_near, near_front, few_class, class_front, near_room, class_room}
use Rattle.running.proofs.new_state.Goals as goal

pub slice_bounds-near-end : goal.slice_bounds-near-end
slice_bounds-near-end c = few_near (accepted_input _ _ c.requires.0).1 c.rows-n.ensures

pub slice_bounds-near-end-2 : goal.slice_bounds-near-end-2
slice_bounds-near-end-2 c = near_front (accepted_input _ _ c.requires.0).1 c.rows-n.ensures

pub slice_bounds-class-end : goal.slice_bounds-class-end
slice_bounds-class-end c = few_class (accepted_input _ _ c.requires.0).1 c.rows-n.ensures

pub slice_bounds-class-end-2 : goal.slice_bounds-class-end-2
slice_bounds-class-end-2 c = class_front (accepted_input _ _ c.requires.0).1 c.rows-n.ensures

pub prepare-requires : goal.prepare-requires
prepare-requires c = let table = (accepted_input _ _ c.requires.0).1 in (table, near_room table c.rows-n.ensures, class_room table c.rows-n.ensures)
