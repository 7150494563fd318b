-- Laws of a table that is another accepted table but for certain bytes: it is accepted where these bytes are within the layout.
-- Assumes nothing.
use mathlib.Core.Path.{◌≡◌, ap, sym, ◌∙◌}
use mathlib.Core.Bool.{Bool, true, false}
use Prim.Native.Nat.{ℕ, ◌+◌, ◌*◌, ◌/◌, ◌<◌}
use native.Mathlib.Omega.{arith}
use lib.ListN.{length}
use Rattle.columns.specs.Column.{Bytes}
use Rattle.world.specs.Rows.{rows, byte_of, pos_of, kind_of, level_or}
use Rattle.layout.specs.Good.{good_row}
use Rattle.layout.proofs.Fields.{Place, Level, is_touched, good_touched, place_again, level_again, good_again}
use Rattle.refusals.specs.Accepted.{Table}
use Rattle.refusals.specs.Check.{IsAccepted}
use Rattle.refusals.proofs.Accepted.{accepted_input, accepted_kinds, input_accepted}

-- u is as long as t, and each of its rows i agrees with that of t outside the bytes that `changed i` names; no position, no kind and no power
-- level changes, and the changed fields of a row that was good are good
pub record Changes (changed : ℕ → ℕ → Bool) (t u : Bytes) : Type 0 where
  pub long : length u ≡ length t
  pub agree : (i b : ℕ) → b < 32 → changed i b ≡ false → byte_of u i b ≡ byte_of t i b
  pub places : (i : ℕ) → is_touched (changed i) Place ≡ false
  pub kinds : (i : ℕ) → changed i 12 ≡ false
  pub levels : (i : ℕ) → is_touched (changed i) Level ≡ false
  pub good : (i : ℕ) → i < rows t → good_row t i ≡ true → good_touched (changed i) u i ≡ true

module _ {changed : ℕ → ℕ → Bool} {t u : Bytes} (c : Changes changed t u) where
  same_rows : rows u ≡ rows t
  same_rows = ap (λ n. n / 32) c.long

  same_place : (i : ℕ) → pos_of u i ≡ pos_of t i
  same_place i = place_again (changed i) t u i i (c.agree i) (c.places i)

  same_kind : (i : ℕ) → kind_of u i ≡ kind_of t i
  same_kind i = c.agree i 12 (omega arith) (c.kinds i)

  same_level : (i : ℕ) → level_or u i 0 ≡ level_or t i 0
  same_level i = level_again (changed i) t u i i (c.agree i) (c.levels i) 0

  pub table_again : Table t → Table u
  table_again a =
      record {
        whole = c.long ∙ a.whole ∙ ap (λ n. n * 32) (sym same_rows);
        few = rw same_rows a.few;
        good = λ i l.
            let h = a.good i (rw same_rows at l) in
            good_again (changed i) t u i i (c.agree i) (c.good i (rw same_rows at l) h) h;
        ordered = λ i l. rw (same_place i, same_place (i + 1)) (a.ordered i (rw same_rows at l));
        low = λ i l k. rw (same_level i) (a.low i (rw same_rows at l) (rw (same_kind i) at k));
      }

  pub accepted_again : (p : Bytes) → IsAccepted p t → IsAccepted p u
  accepted_again p h =
      let (g, a) = accepted_input p t h in
      input_accepted p u g (table_again a) (λ i l. rw (same_kind i) (accepted_kinds p t h i (rw same_rows at l)))
