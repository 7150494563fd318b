-- `report::whole` meets its contract. Assumes nothing.
use mathlib.Core.Path.{sym, ◌∙◌}
use native.Mathlib.Omega.{arith}
use Rattle.report.proofs.Run.{crowded_text, short_text, ragged_text, whole_text}
use Rattle.report.proofs.whole.Goals as goal

pub returns-then-input-gt-MOST : goal.returns-then-input-gt-MOST
returns-then-input-gt-MOST c = rw (crowded_text c.args.input.now (omega arith)) c.refusal.ensures

pub returns-then-input-lt-PROFILE_BYTES : goal.returns-then-input-lt-PROFILE_BYTES
returns-then-input-lt-PROFILE_BYTES c = rw (short_text c.args.input.now c.if-input-lt-PROFILE_BYTES.true) c.refusal-then-input-lt-PROFILE_BYTES.ensures

pub returns-then-has_whole_rows : goal.returns-then-has_whole_rows
returns-then-has_whole_rows c = let put = c in
    let told = put in
    rw (whole_text c.args.input.now (omega arith) (omega arith) (sym told.has_whole_rows.ensures ∙ put.if-has_whole_rows.true)) put.parted.ensures

pub returns : goal.returns
returns c = let put = c in
    let told = put in
    rw (ragged_text c.args.input.now (omega arith) (omega arith) (sym told.has_whole_rows.ensures ∙ put.if-has_whole_rows.false)) put.refusal-2.ensures
