-- Answers of `month_lines::numbered_lines`.
use mathlib.Core.Path.{◌≡◌, ap, ◌∙◌}
use mathlib.Core.List.{◌++◌}
use Prim.Native.Nat.{ℕ, ◌+◌}
use native.Mathlib.Nat.{zero-add}
use native.Mathlib.Omega.{arith}
use lib.ListN.{length}
use Rattle.columns.specs.Column.{Bytes, row, concat_rows_from, concat_rows}
use Rattle.columns.proofs.Parts.{concat_rows_more}
use Rattle.text.proofs.Putting.{puts_none, puts_then}
use Rattle.month_lines.specs.Lines.{numbered_line, numbered_lines}
use Rattle.month_lines.proofs.numbered_lines.Goals as goal

pub loop-k-init : goal.loop-k-init
unfolding concat_rows_from
loop-k-init c = (omega arith, puts_none c.args.at c.args.out.now (omega (arith, c.requires)))

pub loop-k-preserved : goal.loop-k-preserved
loop-k-preserved c = let a = c.args in
    let k = c.loop-k.k in
    let f : ℕ → Bytes = λ j. numbered_line a.name.now (a.first + j) (row a.counts.now j) in
    let more : concat_rows (k + 1) f ≡ concat_rows k f ++ f k = concat_rows_more k 0 f ∙ ap (λ j. concat_rows k f ++ f j) (zero-add k) in
    let put = c.numbered_line-end.ensures in
    (omega (arith, put.few, c.loop-k.invariant.0), rw more (puts_then c.loop-k.invariant.1 put.puts))

pub returns-clause-puts : goal.returns-clause-puts
unfolding numbered_lines
returns-clause-puts c =
    let all : c.loop-k.k ≡ length c.args.counts.now = omega arith in
    rw all at c.loop-k.invariant.1
