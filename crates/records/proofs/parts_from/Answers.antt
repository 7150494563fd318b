-- Answers of `records::parts_from`.
use mathlib.Core.Path.{◌≡◌, refl}
use native.Mathlib.Numerals.{add-one}
use native.Mathlib.Omega.{arith}
use lib.ListN.{drop}
use Rattle.words.specs.Words.{half}
use Rattle.records.specs.Record.{parts_from}
use Rattle.records.proofs.parts_from.Goals as goal

pub loop-init : goal.loop-init
unfolding parts_from
loop-init c = (refl, omega arith)

pub loop-preserved : goal.loop-preserved
unfolding parts_from
loop-preserved c =
    let now : c.half.result ≡ half (drop c.loop.at c.args.s.now) = rw c.from.ensures at c.half.ensures.0 in
    (rw (add-one c.loop.counter, ← c.loop.invariant.0, now), omega arith)
