-- Answers of `clear::clear_passes`.
use mathlib.Core.Path.{◌≡◌, sym, ◌∙◌}
use Prim.Native.Nat.{◌+◌, ◌<◌}
use native.Mathlib.Omega.{arith}
use Rattle.columns.specs.Column.{Bytes}
use Rattle.columns.proofs.Columns.{replicate_rule}
use Rattle.clearing.specs.Kept.{passes_of}
use Rattle.clearing.proofs.Going.{passes_few}
use Rattle.clear.specs.Marks.{holders_of, marked, any_goes}
use Rattle.clear.proofs.Passing.{Passing, passing_none, passing_long, passing_low, passing_more, passing_all}
use Rattle.clear.proofs.clear_passes.Goals as goal
use Rattle.refusals.specs.Accepted.{Table}
use Rattle.columns.specs.Column.{Column}
use mathlib.Core.Bool.{Bool, true}
use Prim.Native.Nat.{ℕ}

-- one pass more, where a row goes
more : (p t : Bytes) {holders c : Column} {pass : ℕ} {any : Bool} → Table t → (g : Passing p t pass c) → holders ≡ holders_of p t → any ≡ any_goes holders c → any ≡ true
    → (g.made < passes_of p t) × Passing p t (pass + 1) (marked (holders_of p t) c pass)
more p t a g filled any goes = passing_more p t a g (sym (rw filled at any) ∙ goes)

pub loop-pass-init : goal.loop-pass-init
loop-pass-init c = passing_none c.args.profile.now c.args.table.now c.requires.0 (rw c.requires.2 at (c.fill.ensures.after (λ y h. h) ∙ replicate_rule _ 0))

pub clear_pass-requires : goal.clear_pass-requires
clear_pass-requires c =
    let (accepted, holders-long, _) = c.requires in
    let long = passing_long c.args.profile.now c.args.table.now accepted c.loop-pass.invariant in
    (omega (arith, holders-long, long), passing_low c.args.profile.now c.args.table.now accepted c.loop-pass.invariant)

pub overflow_add-pass : goal.overflow_add-pass
overflow_add-pass c =
    omega (arith, c.loop-pass.invariant.number, c.loop-pass.invariant.few, passes_few c.args.profile.now c.args.table.now, c.requires.0.few)

pub loop-pass-smaller : goal.loop-pass-smaller
loop-pass-smaller c =
    let next = more c.args.profile.now c.args.table.now c.requires.0 c.loop-pass.invariant c.fill_holders.ensures c.clear_pass.ensures.any c.loop-pass-test.true in
    omega (arith, next.0, c.loop-pass.invariant.number)

pub loop-pass-preserved : goal.loop-pass-preserved
loop-pass-preserved c =
    let next = more c.args.profile.now c.args.table.now c.requires.0 c.loop-pass.invariant c.fill_holders.ensures c.clear_pass.ensures.any c.loop-pass-test.true in
    rw (rw c.fill_holders.ensures at c.clear_pass.ensures.column) next.1

pub returns : goal.returns
returns c =
    let column = rw c.fill_holders.ensures at c.clear_pass.ensures.column in
    let any = rw c.fill_holders.ensures at c.clear_pass.ensures.any in
    column ∙ passing_all c.args.profile.now c.args.table.now c.requires.0 c.loop-pass.invariant (sym any ∙ c.loop-pass-test.false)
