-- Laws of a table whose first rows are redrawn: it infers as it did, and so the next row is redrawn as it would have been at the start.
-- Assumes nothing.
use mathlib.Core.Path.{◌≡◌, ap, ◌∙◌}
use mathlib.Core.Logic.{⊎_elim, by_cases}
use mathlib.Core.List.{◌++◌}
use Prim.Native.Nat.{ℕ, ◌+◌, ◌*◌, ◌-◌, ◌≤◌, ◌<◌}
use native.Mathlib.Decide.{dec_lt}
use native.Mathlib.Omega.{arith}
use lib.ListN.{length, get_or, drop, length-append, length-drop, get_or-append}
use lib.Seq.{get_or-drop, get_or-append-add}
use borrow.Author.Tests.{lt-leb}
use Rattle.columns.specs.Column.{Bytes, concat_rows}
use Rattle.columns.proofs.Parts.{concat_rows_at, Written, written_lent}
use Rattle.world.specs.Rows.{byte_of}
use Rattle.wire.proofs.Alike.{Alike, same_kind, same_place, everywhere}
use Rattle.redrawing.specs.Drawn.{redrawn_row}
use Rattle.redrawing.proofs.Rows.{Kept, length_row, row_keeps, same_drawn}

module _ (p t : Bytes) (i : ℕ) (now : Bytes) (w : Written 32 (redrawn_row p t) t i now) (inside : i * 32 ≤ length t) where
  half_long : length now ≡ length t
  half_long = rw (w.is, length-append, w.long, length-drop) (omega arith)

  half_keeps : (k b : ℕ) → Kept b → byte_of now k b ≡ byte_of t k b
  half_keeps k b o = rw w.is (by_cases (dec_lt k i) done to_do)
    where
      done : k < i → get_or (concat_rows i (redrawn_row p t) ++ drop (i * 32) t) (k * 32 + b) 0 ≡ byte_of t k b
      done l =
          get_or-append (concat_rows i (redrawn_row p t)) (drop (i * 32) t) 0 (k * 32 + b) (rw w.long (omega arith))
          ∙ concat_rows_at 32 (redrawn_row p t) i (λ m g. length_row p t m (omega arith)) k b l o.0
          ∙ row_keeps p t k b o

      to_do : (k < i → ⊥) → get_or (concat_rows i (redrawn_row p t) ++ drop (i * 32) t) (k * 32 + b) 0 ≡ byte_of t k b
      to_do n =
          let past : k * 32 + b ≡ length (concat_rows i (redrawn_row p t)) + (k * 32 + b - i * 32) = rw w.long (omega arith) in
          let back : i * 32 + (k * 32 + b - i * 32) ≡ k * 32 + b = omega arith in
          ap (λ m. get_or (concat_rows i (redrawn_row p t) ++ drop (i * 32) t) m 0) past
          ∙ get_or-append-add (concat_rows i (redrawn_row p t)) (drop (i * 32) t) (k * 32 + b - i * 32) 0
          ∙ get_or-drop (i * 32) t (k * 32 + b - i * 32) 0
          ∙ ap (λ m. get_or t m 0) back

  -- so an arm is inferred as before
  half_alike : Alike now t
  half_alike = record { long = half_long; agree = λ k b r. half_keeps k b (⊎_elim (λ l. (omega arith, rw (lt-leb 23 b (omega arith)))) (λ e. (omega arith, rw e)) r) }

  -- and the next row is redrawn as it would have been at the start
  pub half_row : redrawn_row p now i ≡ redrawn_row p t i
  unfolding redrawn_row
  half_row = rw (same_kind half_alike i, written_lent w, same_drawn (everywhere half_alike) p i (same_place half_alike i))
