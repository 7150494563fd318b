-- Document 02, Change 4: on tables without bulbs the bulb's byte makes no difference to what is kept, nor to the passes. Assumes nothing.
use mathlib.Core.Path.{◌≡◌, refl, ap, sym, ◌∙◌}
use mathlib.Core.Bool.{not}
use Prim.Native.Nat.{ℕ, zero, suc}
use lib.ListN.{length}
use Rattle.columns.specs.Column.{Bytes, tabulate}
use Rattle.columns.specs.First.{first_from, on_found}
use Rattle.blocks.specs.Kind.{one_of}
use Rattle.blocks.proofs.Bulbs.{with_bulb}
use Rattle.world.specs.Rows.{rows}
use Rattle.refusals.specs.Check.{IsAccepted}
use Rattle.supports.proofs.Bulbs.{issues_with_bulb}
use Rattle.subtables.specs.Subtable.{table_of}
use Rattle.passes.specs.Passes.{unnamed_from, issues_among, left}
use Rattle.clearing.specs.Kept.{passes_of, kept_rows, kept_table, pass_of, pass_column}
use Rattle.clearing.proofs.Going.{passes_until, passes_are}
use Rattle.clearing.proofs.Clearing.{left_accepted}

-- of a table that 13 bytes accept, under these and a fourteenth
module _ (p t : Bytes) (long : length p ≡ 13) (h : IsAccepted p t) (b : ℕ) where
  left_with_bulb : (k : ℕ) → left (with_bulb p b) t k ≡ left p t k
  unfolding left
  left_with_bulb zero = refl
  left_with_bulb (suc k) =
      rw (left_with_bulb k) (ap (λ names. unnamed_from names 0 (left p t k)) (issues_with_bulb p (table_of t (left p t k)) long (left_accepted p t h k) b))

  issues_left : (k : ℕ) → issues_among (with_bulb p b) t (left (with_bulb p b) t k) ≡ issues_among p t (left p t k)
  issues_left k = rw (left_with_bulb k) (issues_with_bulb p (table_of t (left p t k)) long (left_accepted p t h k) b)

  passes_with_bulb : passes_of (with_bulb p b) t ≡ passes_of p t
  passes_with_bulb =
      passes_are (with_bulb p b) t (passes_of p t)
      (record {
        none = issues_left (passes_of p t) ∙ (passes_until p t).none;
        not_yet = λ j l e. (passes_until p t).not_yet j l (sym (issues_left j) ∙ e);
      })

  pub kept_with_bulb : kept_table (with_bulb p b) t ≡ kept_table p t
  unfolding kept_table kept_rows
  kept_with_bulb = rw passes_with_bulb (ap (table_of t) (left_with_bulb (passes_of p t)))

  pub column_with_bulb : pass_column (with_bulb p b) t ≡ pass_column p t
  unfolding pass_column pass_of
  column_with_bulb =
      λ x. tabulate (rows t) (λ i. on_found (λ k. k) 0 (first_from (λ k. not (one_of (left_with_bulb k x) i)) (passes_with_bulb x) 1))
