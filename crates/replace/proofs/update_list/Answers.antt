-- `replace::update_list` meets its contract. Assumes nothing.
use mathlib.Core.Path.{◌∙◌}
use Rattle.feeding.proofs.Updated.{updated_found}
use Rattle.replace.proofs.update_list.Goals as goal

pub returns : goal.returns
returns c =
    let a = c.args in
    c.update_rows.ensures ∙ updated_found a.profile.now a.table.now c.requires.0 a.n a.list.now c.requires.1 c.prepare.ensures.near c.prepare.ensures.class
