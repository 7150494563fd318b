-- Answers of `lines::rows`.
use mathlib.Core.Path.{◌≡◌, ap, ◌∙◌}
use mathlib.Core.List.{◌++◌}
use Prim.Native.Nat.{◌+◌}
use native.Mathlib.Nat.{zero-add}
use native.Mathlib.Omega.{arith}
use Rattle.columns.specs.Column.{concat_rows_from, concat_rows}
use Rattle.columns.proofs.Parts.{concat_rows_more}
use Rattle.lines.specs.Lines.{row_of}
use Rattle.text.proofs.Putting.{puts_none, puts_then}
use Rattle.lines.proofs.rows.Goals as goal

pub loop-i-init : goal.loop-i-init
unfolding concat_rows_from
loop-i-init c = (omega arith, puts_none c.args.at c.args.out.now (omega (arith, c.requires)))

pub loop-i-preserved : goal.loop-i-preserved
loop-i-preserved c = let a = c.args in
    let i = c.loop-i.i in
    let of = a.of.now in
    let f = row_of a.table.now of.signal.now of.weak.now of.strong.now in
    let more : concat_rows (i + 1) f ≡ concat_rows i f ++ f i = concat_rows_more i 0 f ∙ ap (λ k. concat_rows i f ++ f k) (zero-add i) in
    let put = c.line_of-end.ensures in
    (omega (arith, put.few, c.loop-i.invariant.0), rw more (puts_then c.loop-i.invariant.1 put.puts))
