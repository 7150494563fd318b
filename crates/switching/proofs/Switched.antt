-- Laws of a switched table: byte 14 of a row is false or true, and every other byte is as it was. So its rows, kinds, facings, positions,
-- look-ups, traits and inferred arms are those of the table, and it is accepted where the table is.
-- Assumes nothing.
use mathlib.Core.Path.{◌≡◌, refl}
use mathlib.Core.Logic.{⊎_elim, by_cases}
use mathlib.Core.Bool.{Bool, true, false, cond}
use Prim.Native.Nat.{ℕ, ◌+◌, ◌*◌, ◌≤◌, ◌<◌}
use native.Mathlib.Decide.{ℕ_discrete, dec_lt}
use native.Mathlib.Omega.{arith}
use lib.ListN.{length, get_or, set, length-set}
use lib.Seq.{get_or-set_same, get_or-set_other, set_out}
use lib.Dec.{eqb}
use borrow.Author.Tests.{eqb-false, leb-true, le-leb}
use Rattle.columns.specs.declared.Found.{Found}
use Rattle.columns.specs.declared.Found.TheVariants.{At, Nothing}
use Rattle.columns.specs.Column.{Bytes}
use Rattle.columns.specs.First.{on_found}
use Rattle.places.specs.declared.Pos.{Pos}
use Rattle.world.specs.Rows.{byte_of}
use Rattle.world.specs.Find.{find}
use Rattle.layout.proofs.Fields.{Powered, good-field}
use Rattle.refusals.specs.Check.{IsAccepted}
use Rattle.refusals.proofs.Again.{Changes, accepted_again}
use Rattle.wire.proofs.Alike.{Alike}
use Rattle.switching.specs.Switch.{switched}

-- a list in which one entry is another has no entry above m, where neither that one nor any other was
set_below : (l : Bytes) (k v i m : ℕ) → v ≤ m → get_or l i 0 ≤ m → get_or (set l k v) i 0 ≤ m
set_below l k v i m g h =
    by_cases (dec_lt k (length l))
    (λ inside. by_cases (ℕ_discrete i k) (λ e. rw (e, get_or-set_same l k v 0 inside) g) (λ n. rw (get_or-set_other l k i v 0 n) h))
    (λ n. rw (set_out l k v (omega arith)) h)

-- the byte that says false or true
small_power : (b : Bool) → cond b 1 2 ≤ 2
small_power true = omega arith
small_power false = omega arith

module _ (t : Bytes) (q : Pos) (power : ℕ) where
  -- by what the look-up finds
  abbrev turned : Found → Bytes
  turned f = on_found (λ i. set t (i * 32 + 14) (cond (eqb power 0) 1 2)) t f

  turned_length : (f : Found) → length (turned f) ≡ length t
  turned_length (At j) = length-set t (j * 32 + 14) _
  turned_length Nothing = refl

  turned_other : (f : Found) (i b : ℕ) → b < 32 → ¬ (b ≡ 14) → byte_of (turned f) i b ≡ byte_of t i b
  turned_other (At j) i b h n = get_or-set_other t (j * 32 + 14) (i * 32 + b) _ 0 (λ e. n (omega arith))
  turned_other Nothing i b h n = refl

  turned_power : (f : Found) (i : ℕ) → byte_of t i 14 ≤ 2 → byte_of (turned f) i 14 ≤ 2
  turned_power (At j) i h = set_below t (j * 32 + 14) _ (i * 32 + 14) 2 (small_power (eqb power 0)) h
  turned_power Nothing i h = h

  -- as long as the table
  pub switched_length : length (switched t q power) ≡ length t
  unfolding switched
  switched_length = turned_length (find t q)

  -- every byte but 14 of a row is as it was
  pub switched_other : (i b : ℕ) → b < 32 → ¬ (b ≡ 14) → byte_of (switched t q power) i b ≡ byte_of t i b
  unfolding switched
  switched_other = turned_other (find t q)

  switched_power : (i : ℕ) → byte_of t i 14 ≤ 2 → byte_of (switched t q power) i 14 ≤ 2
  unfolding switched
  switched_power = turned_power (find t q)

  -- its rows, kinds, facings and positions are the table's
  pub switched_alike : Alike (switched t q power) t
  switched_alike =
      record {
        long = switched_length;
        agree = λ i b. ⊎_elim (λ l. switched_other i b (omega arith) (λ n. omega arith)) (λ e. switched_other i b (omega arith) (λ n. omega arith));
      }

  -- byte 14 alone changes, and is good again
  pub switched_changes : Changes (λ _ b. eqb b 14) t (switched t q power)
  switched_changes =
      record {
        long = switched_length;
        agree = λ i b l e. switched_other i b l (eqb-false b 14 e);
        places = λ i. refl;
        kinds = λ i. refl;
        levels = λ i. refl;
        good = λ i l h. rw (le-leb _ 2 (switched_power i (leb-true _ 2 (good-field t i h Powered))));
      }

  -- a switched table is accepted where the table is
  pub switched_accepted : (p : Bytes) → IsAccepted p t → IsAccepted p (switched t q power)
  switched_accepted = accepted_again switched_changes
