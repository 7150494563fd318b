-- Answers of `figures::dust::with_levels`.
use mathlib.Core.Path.{◌≡◌, refl, sym, ◌∙◌}
use Prim.Native.Nat.{ℕ, ◌<◌}
use native.Mathlib.Omega.{arith}
use lib.ListN.{length}
use borrow.Author.Tests.{eq-eqb, ne_eqb}
use Rattle.columns.specs.Column.{Bytes, Column, row}
use Rattle.world.specs.Rows.{rows, kind_of}
use Rattle.figures.specs.Figures.{count_below, is_dust_at}
use Rattle.figures.specs.Room.{Capped}
use Rattle.figures.proofs.Counting.{count_most, added_none, added_same, added_is, added_dust, added_other}
use Rattle.figures.proofs.dust.with_levels.Goals as goal
use Rattle.figures.proofs.dust.with_levels.Goals.{then-kind_of-eq-REDSTONE_WIRE, else-kind_of-eq-REDSTONE_WIRE}

-- the level of a dust row is one of the sixteen
level : {t : Bytes} {s : Column} {n i kind lev : ℕ} → Capped t s → n ≡ rows t → i < n → kind ≡ kind_of t i → kind ≡ 3 → lev ≡ row s i → lev < 16
level {t} {s} {n} {i} capped counted h is dust at =
    let within : i < rows t = rw (← counted) h in
    rw at (omega (arith, capped.level i within (eq-eqb _ 3 (sym is ∙ dust))))

pub loop-i-init : goal.loop-i-init
unfolding count_below
loop-i-init c = let sized : length c.args.levels ≡ 16 = omega arith in
    added_same (added_none {old = c.args.levels} sized) (λ l h. refl)

pub offset_bounds-counts-level : goal.offset_bounds-counts-level
offset_bounds-counts-level c =
    record { fits = omega (arith, level c.requires.capped c.rows-i-end.ensures c.loop-i-test.true c.kind_of.ensures c.if-kind_of-eq-REDSTONE_WIRE.true c.byte_at-level.ensures) }

pub bounds-counts-level : goal.bounds-counts-level
bounds-counts-level c =
    level c.requires.capped c.rows-i-end.ensures c.loop-i-test.true c.kind_of.ensures c.if-kind_of-eq-REDSTONE_WIRE.true c.byte_at-level.ensures

pub overflow_add-counts : goal.overflow_add-counts
overflow_add-counts c =
    let at = c.byte_at-level.result in
    let here = is_dust_at c.args.table.now c.args.signal.now at in
    let low = level c.requires.capped c.rows-i-end.ensures c.loop-i-test.true c.kind_of.ensures c.if-kind_of-eq-REDSTONE_WIRE.true c.byte_at-level.ensures in
    record { fits = rw (c.loop-i.invariant.counts at low) (omega (arith, c.rows-i-end.ensures, c.requires.by_index at, c.requires.capped.few, count_most here c.loop-i.i)) }

pub bounds-counts-level-then-kind_of-eq-REDSTONE_WIRE : goal.bounds-counts-level-then-kind_of-eq-REDSTONE_WIRE
bounds-counts-level-then-kind_of-eq-REDSTONE_WIRE c =
    level c.requires.capped c.rows-i-end.ensures c.loop-i-test.true c.kind_of.ensures c.if-kind_of-eq-REDSTONE_WIRE.true c.byte_at-level.ensures

pub loop-i-preserved : goal.loop-i-preserved
loop-i-preserved c = let table = c.args.table.now in
    let signal = c.args.signal.now in
    let i = c.loop-i.i in
    let inv = c.loop-i.invariant in
    let kind = c.kind_of.ensures in
    elim c.if-kind_of-eq-REDSTONE_WIRE.branch [
      | then-kind_of-eq-REDSTONE_WIRE w ↦
          let low = level c.requires.capped c.rows-i-end.ensures c.loop-i-test.true kind w.if-kind_of-eq-REDSTONE_WIRE.true w.byte_at-level.ensures in
          rw (w.counts-is, w.byte_at-level.ensures) (added_dust table signal i inv (eq-eqb (kind_of table i) 3 (sym kind ∙ w.if-kind_of-eq-REDSTONE_WIRE.true)) (rw w.byte_at-level.ensures at low))
      | else-kind_of-eq-REDSTONE_WIRE w ↦
          rw w.counts-is (added_other table signal i inv (ne_eqb (kind_of table i) 3 (λ e. w.if-kind_of-eq-REDSTONE_WIRE.false (kind ∙ e))))
    ]

pub returns : goal.returns
returns c = let all : c.loop-i.i ≡ rows c.args.table.now = omega (arith, c.rows-i-end.ensures) in
    rw (← all) (added_is c.loop-i.invariant)
