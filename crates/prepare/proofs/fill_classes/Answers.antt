-- `prepare::fill_classes` meets its contract. Assumes nothing.
use mathlib.Core.Path.{◌≡◌, ap₂, sym, ◌∙◌}
use Prim.Native.Nat.{ℕ, ◌<◌}
use lib.ListN.{length}
use Rattle.columns.specs.Column.{Bytes, Column, row, tabulate}
use Rattle.world.specs.Rows.{rows}
use Rattle.refusals.specs.Accepted.{Table}
use Rattle.circuit.specs.Circuit.{Shaped}
use Rattle.adjacency.specs.Adjacency.{near_of}
use Rattle.prepare.specs.Classes.{armless, armless_of}
use Rattle.prepare.specs.Arms.{with_arms}
use Rattle.prepare.proofs.Rows.{shaped_by}
use Rattle.prepare.proofs.Arms.{length_armless, armless_small, with-arms}
use Rattle.prepare.proofs.fill_classes.Goals as goal

-- the column once it is filled
filled : (p t : Bytes) {column : Column} {n : ℕ} → column ≡ tabulate n (armless p t) → n ≡ rows t → column ≡ armless_of p t
unfolding armless_of
filled p t e l = e ∙ rw l

ready : (p t : Bytes) {near class : Column} → Table t → near ≡ near_of t → class ≡ armless_of p t
    → Shaped near class × ((i : ℕ) → row class i < 16777216) × (length class ≡ rows t)
ready p t table e g = rw (e, g) (shaped_by t (armless_of p t) table (length_armless p t), armless_small p t table, length_armless p t)

pub invariant_of-fill_arms : goal.invariant_of-fill_arms
invariant_of-fill_arms c =
    let p = c.args.profile.now in
    let t = c.args.table.now in
    let done = filled p t c.fill_armless.ensures c.requires.armless_len.0 in
    record { shaped = (ready p t c.requires.table.0 c.requires.table.1 done).0 }

pub fill_arms-requires : goal.fill_arms-requires
fill_arms-requires c =
    let p = c.args.profile.now in
    let t = c.args.table.now in
    let done = filled p t c.fill_armless.ensures c.requires.armless_len.0 in
    let (shaped, small, long) = ready p t c.requires.table.0 c.requires.table.1 done in
    (small, c.requires.armless_len.1 ∙ sym long)

pub returns : goal.returns
returns c =
    let p = c.args.profile.now in
    let t = c.args.table.now in
    let done = filled p t c.fill_armless.ensures c.requires.armless_len.0 in
    c.fill_arms.ensures ∙ ap₂ (with_arms t) c.requires.table.1 done ∙ with-arms p t c.requires.table.0
