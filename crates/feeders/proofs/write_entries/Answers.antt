-- `feeders::write_entries` meets its contract. Assumes nothing.
use mathlib.Core.Path.{ap, sym, ◌∙◌}
use Rattle.columns.specs.Column.{at_front}
use Rattle.feeding.specs.Around.{rows_among, feeder_in, entries_in}
use Rattle.feeders.proofs.Fed.{blank, entries_none}
use Rattle.feeders.proofs.write_entries.Goals as goal

pub returns-then-is_dust_in : goal.returns-then-is_dust_in
unfolding entries_in
returns-then-is_dust_in c =
    let a = c.args in
    let filled = rw c.requires.entries_len at c.fill.ensures ∙ blank in
    c.list_feeders.ensures ∙ ap (at_front (rows_among (feeder_in a.network.near.now a.network.class.now a.row) 12)) filled

pub returns-else-is_dust_in : goal.returns-else-is_dust_in
returns-else-is_dust_in c =
    let a = c.args in
    let filled = rw c.requires.entries_len at c.fill.ensures ∙ blank in
    let other = rw c.class_at.ensures at (sym c.is_dust_in.ensures ∙ c.if-is_dust_in.false) in
    filled ∙ sym (entries_none a.network.near.now a.network.class.now a.row c.args.network.shaped other)
