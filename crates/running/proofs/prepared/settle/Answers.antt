-- `running::prepared::settle` meets its contract. Assumes nothing.
use mathlib.Core.Path.{sym, ◌∙◌}
use Rattle.running.proofs.Running.{table, few_class, class_front, class_room, class_rows, settled_table}
use Rattle.running.proofs.prepared.settle.Goals as goal

pub slice_bounds-emitted-end : goal.slice_bounds-emitted-end
slice_bounds-emitted-end c = few_class (table c.requires.0 c.requires.2) c.rows-n.ensures

pub slice_bounds-emitted-end-2 : goal.slice_bounds-emitted-end-2
slice_bounds-emitted-end-2 c = class_front (table c.requires.0 c.requires.2) c.rows-n.ensures

pub fill_emitted-requires : goal.fill_emitted-requires
fill_emitted-requires c = class_room (table c.requires.0 c.requires.2) c.rows-n.ensures

pub settle-requires : goal.settle-requires
settle-requires c =
    let n = sym (class_rows c.requires.0 c.requires.2) in
    record {
      outputs =
          record {
            emitted_rows = c.fill_emitted.auto.out ∙ class_room (table c.requires.0 c.requires.2) c.rows-n.ensures ∙ n;
            signal_rows = c.requires.1.signal_rows ∙ n;
            weak_rows = c.requires.1.weak_rows ∙ n;
            strong_rows = c.requires.1.strong_rows ∙ n;
          };
    }

pub returns : goal.returns
returns c =
    let done = settled_table c.requires.0 c.requires.2 (rw c.fill_emitted.ensures at c.settle.ensures) in
    record { rounds = done.0; columns = done.1 }
