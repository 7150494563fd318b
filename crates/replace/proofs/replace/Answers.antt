-- `replace::replace` meets its contract, by what the checks answer. Assumes nothing.
use mathlib.Core.Path.{◌≡◌, refl, ap, sym, ◌∙◌}
use Prim.Native.Nat.{◌*◌}
use native.Mathlib.Omega.{arith}
use lib.Seq.{take_all}
use borrow.Rule.Slice.PartMut.{put_mid}
use Rattle.world.specs.Rows.{rows}
use Rattle.refusals.proofs.Accepted.{accepted_input}
use Rattle.feeding.specs.Replaced.{updated_list}
use Rattle.feeding.proofs.Replacing.{replaced_put, replaced_rows}
use Rattle.replace.proofs.Checks.{given, replace_accepted}
use Rattle.replace.proofs.replace.Goals as goal

pub returns-in-Err : goal.returns-in-Err
returns-in-Err c = let told = c.in-Err.is in
    let refused = sym c.check_replace.ensures ∙ told in
    record { answer = rw refused c.answer.ensures; bytes = rw refused refl; entries = rw refused refl }

pub put_row-requires : goal.put_row-requires
put_row-requires c =
    let g = given _ _ _ _ _ (sym c.check_replace.ensures ∙ c.in_default.is) in
    let r = g.replaceable in
    (omega (arith, r.long), omega (arith, r.inside))

pub update_list-requires : goal.update_list-requires
update_list-requires c =
    let g = given _ _ _ _ _ (sym c.check_replace.ensures ∙ c.in_default.is) in
    let put =
    c.put_row.ensures
    ∙ ap (put_mid (c.args.n * 32) 32 c.args.table.now) (take_all 32 c.args.new.now (omega (arith, g.replaceable.long)))
    ∙ replaced_put g.replaceable (accepted_input _ _ g.input).1.whole in
    rw put ((accepted_input _ _ g.new_input).1, g.list_long ∙ ap (λ k. k * 12) (sym (replaced_rows g.replaceable)))

pub overflow_cast-result : goal.overflow_cast-result
overflow_cast-result c =
    let g = given _ _ _ _ _ (sym c.check_replace.ensures ∙ c.in_default.is) in
    let put =
    c.put_row.ensures
    ∙ ap (put_mid (c.args.n * 32) 32 c.args.table.now) (take_all 32 c.args.new.now (omega (arith, g.replaceable.long)))
    ∙ replaced_put g.replaceable (accepted_input _ _ g.input).1.whole in
    let same : c.rows.result ≡ rows c.args.table.now = c.rows.ensures ∙ ap rows put ∙ replaced_rows g.replaceable in
    omega (arith, (accepted_input _ _ g.input).1.few)

pub returns : goal.returns
returns c =
    let a = c.args in
    let g = given _ _ _ _ _ (sym c.check_replace.ensures ∙ c.in_default.is) in
    let put =
    c.put_row.ensures
    ∙ ap (put_mid (c.args.n * 32) 32 c.args.table.now) (take_all 32 c.args.new.now (omega (arith, g.replaceable.long)))
    ∙ replaced_put g.replaceable (accepted_input _ _ g.input).1.whole in
    let accepted = replace_accepted _ _ _ _ _ g in
    record {
      answer = rw accepted (c.rows.ensures ∙ ap rows put ∙ replaced_rows g.replaceable);
      bytes = rw accepted put;
      entries = rw accepted (c.update_list.ensures ∙ ap (λ t. updated_list a.profile.now t a.n a.list.now) put);
    }
