-- `supports::support_issues` meets its contract, by what the checks answer. Assumes nothing.
use mathlib.Core.Path.{◌≡◌, sym, ◌∙◌}
use Prim.Native.Nat.{ℕ, ◌≤◌}
use lib.ListN.{length}
use Rattle.columns.specs.Column.{Bytes}
use lib.Dec.{eqb}
use borrow.Author.Tests.{eqb-true}
use Rattle.refusals.specs.Check.{accepted, check_input}
use Rattle.refusals.proofs.Passed.{passed_both, passed_unless}
use Rattle.refusals.proofs.Accepted.{accepted_input}
use Rattle.world.specs.Rows.{rows}
use Rattle.supports.specs.Supports.{check_supports}
use Rattle.supports.proofs.support_issues.Goals as goal

-- where nothing is refused there is an entry for each of at most 1,024 rows
accepted_room : (p t : Bytes) (n : ℕ) → check_supports p t n ≡ accepted → (n ≡ rows t) × (rows t ≤ 1024)
unfolding check_supports
accepted_room p t n h =
    let (input, rest) = passed_both (check_input p t) _ h in
    let (room, _) = passed_unless 7 (eqb n (rows t)) _ rest in
    (eqb-true n (rows t) room, (accepted_input p t input).1.few)

pub returns-in-Err : goal.returns-in-Err
returns-in-Err c = let checked = c.check_supports in
    let told = c.in-Err.is in
    let refused = sym checked.ensures ∙ told in
    record { answer = rw refused c.answer.ensures; entries = rw refused }

pub list_issues-requires : goal.list_issues-requires
list_issues-requires c =
    let a = c.args in
    accepted_room a.profile.now a.table.now (length a.column.now) (sym c.check_supports.ensures ∙ c.in_default.is)

pub returns : goal.returns
returns c =
    let listed = c.list_issues.ensures in
    let none = sym c.check_supports.ensures ∙ c.in_default.is in
    record { answer = rw none listed.count; entries = rw none listed.entries }
