-- `clear::clear` meets its contract, by what the checks answer. Assumes nothing.
use Rattle.std.proofs.Common.{◌≡◌, refl, sym, ◌∙◌, ℕ, ◌≤◌, arith}
use Rattle.columns.specs.Column.{Bytes}
use Rattle.columns.proofs.Columns.{length_zeros}
use Rattle.refusals.specs.Check.{accepted}
use Rattle.refusals.proofs.Accepted.{accepted_input}
use Rattle.clearing.specs.Kept.{kept_table}
use Rattle.clearing.proofs.Clearing.{kept-rows}
use Rattle.clear.specs.Clear.{check_clear}
use Rattle.clear.proofs.Checks.{given}
use Rattle.clear.proofs.clear.Goals as goal

-- where nothing is refused there are at most 1,024 rows
few : (p t : Bytes) (bytes entries : ℕ) → check_clear p t bytes entries ≡ accepted → entries ≤ 1024
few p t bytes entries none =
    let g = given p t bytes entries none in
    omega (arith, g.entries_long, (accepted_input _ _ g.input).1.few)

pub returns-in-Err : goal.returns-in-Err
returns-in-Err c = let told = c.in-Err.is in
    let refused = sym c.check_clear.ensures ∙ told in
    record { answer = rw refused c.answer.ensures; bytes = rw refused refl; entries = rw refused refl }

pub slice_bounds-holders-end : goal.slice_bounds-holders-end
slice_bounds-holders-end c = few _ _ _ _ (sym c.check_clear.ensures ∙ c.in_default.is)

pub slice_bounds-clear_passes-end : goal.slice_bounds-clear_passes-end
slice_bounds-clear_passes-end c = sym (length_zeros _ 1024 (few _ _ _ _ (sym c.check_clear.ensures ∙ c.in_default.is)))

pub clear_passes-requires : goal.clear_passes-requires
clear_passes-requires c =
    let accepted = sym c.check_clear.ensures ∙ c.in_default.is in
    let g = given _ _ _ _ accepted in
    ((accepted_input _ _ g.input).1, length_zeros _ 1024 (few _ _ _ _ accepted) ∙ g.entries_long, g.entries_long)

pub keep_rows-requires : goal.keep_rows-requires
keep_rows-requires c =
    let g = given _ _ _ _ (sym c.check_clear.ensures ∙ c.in_default.is) in
    ((accepted_input _ _ g.input).1, omega (arith, g.entries_long), g.bytes_long)

pub returns : goal.returns
unfolding kept_table
returns c =
    let accepted = sym c.check_clear.ensures ∙ c.in_default.is in
    let g = given _ _ _ _ accepted in
    let column = c.clear_passes.ensures in
    let kept = sym (kept-rows c.args.profile.now c.args.table.now g.input) in
    let written = rw (column, kept) at c.keep_rows.ensures in
    record { answer = rw accepted written.count; bytes = rw accepted written.bytes; entries = rw accepted column }
