-- Laws of the refusals that a check gives, test by test, and those of a profile and a table.
-- Assumes nothing.
use Rattle.std.proofs.Common.{Ok, Err}
use mathlib.Core.Path.{◌≡◌, refl, sym, ◌∙◌}
use mathlib.Core.Logic.{⊎_elim}
use mathlib.Core.Bool.{Bool, true, false, ◌&&◌, true≢false}
use mathlib.Core.List.{List, [], ◌∷◌}
use Prim.Native.Nat.{ℕ, ◌+◌, ◌-◌, ◌%◌, ◌≤◌, ◌<◌}
use native.Mathlib.Omega.{arith}
use lib.ListN.{length}
use lib.Dec.{eqb, leb}
use borrow.Author.Tests.{eqb-true, leb-true}
use Rattle.columns.specs.declared.Found.{Found}
use Rattle.columns.specs.declared.Found.TheVariants.{At, Nothing}
use Rattle.columns.specs.Column.{Bytes}
use Rattle.columns.specs.First.{first_from}
use Rattle.columns.proofs.First.{first_at}
use Rattle.columns.proofs.Truth.{and_true, or_true}
use Rattle.blocks.specs.Kind.{one_of}
use Rattle.world.specs.Rows.{rows}
use Rattle.layout.specs.Good.{good_profile}
use Rattle.refusals.specs.Check.{Checked, accepted, refused, refuse_row_unless, refuse_unless, refuse_at, or_else, also, is_bad, is_misplaced, is_overdriven, is_overdriven_device, check_rows, check_table, check_input, check_values}
use Rattle.refusals.specs.Answers.{Gives, of_table, of_input}
use Rattle.refusals.proofs.Passed.{same_number, same_row, never}

-- ---- test by test

pub accepted_gives : {ns : List ℕ} → Gives ns accepted
accepted_gives = record { number = λ n i e. never (sym e); row = λ n i e. never (sym e) }

pub or_gives : {ns : List ℕ} {c : Checked} (next : Checked) → Gives ns c → (c ≡ accepted → Gives ns next) → Gives ns (or_else c next)
or_gives {c = Ok _} next g h = h refl
or_gives {c = Err fault} next g h = g

module _ {ns : List ℕ} (n : ℕ) (h : one_of ns n ≡ true) where
  pub refused_gives : (i : ℕ) → i < 65536 → Gives ns (refused n i)
  refused_gives i l =
      record {
        number = λ m j e. let same : n ≡ m = same_number e in rw same at h;
        row = λ m j e. let same : i ≡ j = same_row e in omega arith;
      }

  pub row_unless_gives : (i : ℕ) → i < 65536 → (b : Bool) (next : Checked) → (b ≡ true → Gives ns next) → Gives ns (refuse_row_unless n i b next)
  row_unless_gives i l true next g = g refl
  row_unless_gives i l false next g = refused_gives i l

  pub unless_gives : (b : Bool) (next : Checked) → (b ≡ true → Gives ns next) → Gives ns (refuse_unless n b next)
  unless_gives = row_unless_gives 0 (omega arith)

  pub also_gives : {c : Checked} (b : Bool) → Gives ns c → Gives ns (also c n b)
  also_gives b g = or_gives _ g (λ _. unless_gives b accepted (λ _. accepted_gives))

  -- the row is one of k, and d more
  pub first_gives : (f : ℕ → Bool) (k d : ℕ) (next : Checked) → k + d ≤ 65536 → Gives ns next → Gives ns (refuse_at n d (first_from f k 0) next)
  first_gives f k d next l g = go (first_from f k 0) refl
    where
      go : (x : Found) → first_from f k 0 ≡ x → Gives ns (refuse_at n d x next)
      go (At i) e = refused_gives (i + d) (omega (arith, (first_at f k 0 i e).inside))
      go Nothing e = g

-- ---- longer lists of numbers

-- every number of the first list is one of the second
abbrev within : List ℕ → List ℕ → Bool
within [] ms = true
within (n ∷ ns) ms = one_of ms n && within ns ms

within_one : (ns ms : List ℕ) → within ns ms ≡ true → (n : ℕ) → one_of ns n ≡ true → one_of ms n ≡ true
within_one [] ms w n h = absurd (true≢false (sym h))
within_one (m ∷ ns) ms w n h =
    let (first, rest) = and_true (one_of ms m) (within ns ms) w in
    ⊎_elim (λ e. rw (eqb-true n m e) first) (λ g. within_one ns ms rest n g) (or_true (eqb n m) (one_of ns n) h)

pub wider_gives : {ns ms : List ℕ} {c : Checked} → within ns ms ≡ true → Gives ns c → Gives ms c
wider_gives {ns} {ms} w g = record { number = λ n i e. within_one ns ms w n (g.number n i e); row = g.row }

-- a number that is none of them is not given
pub not_given : {ns : List ℕ} {c : Checked} → Gives ns c → (n i : ℕ) → one_of ns n ≡ false → ¬ (c ≡ refused n i)
not_given g n i h e = true≢false (sym (g.number n i e) ∙ h)

-- ---- the numbers of a table, and of a profile and a table

pub table_gives : (kinds : ℕ) (t : Bytes) → Gives of_table (check_table kinds t)
unfolding check_table check_rows
table_gives kinds t =
    unless_gives 2 refl (eqb (length t % 32) 0) _ λ _.
    unless_gives 3 refl (leb (rows t) 1024) _ λ few.
    let rows_few : rows t ≤ 1024 = leb-true _ _ few in
    first_gives 4 refl (is_bad kinds t) (rows t) 0 _ (omega arith)
    (first_gives 5 refl (is_misplaced t) (rows t - 1) 1 _ (omega arith)
    (first_gives 10 refl (is_overdriven t) (rows t) 0 _ (omega arith) accepted_gives))

pub input_gives : (p t : Bytes) → Gives of_input (check_input p t)
unfolding check_input
input_gives p t = unless_gives 1 refl (good_profile p) _ (λ _. wider_gives refl (table_gives (length p) t))

-- those of a device column or a state, of n rows
pub values_give : (sized : Bool) (isBadValue : ℕ → Bool) (device : ℕ → ℕ) (n : ℕ) → n ≤ 1024
    → Gives (6 ∷ 10 ∷ []) (check_values sized isBadValue device n)
values_give sized isBadValue device n few =
    unless_gives 6 refl sized _ λ _.
    first_gives 6 refl isBadValue n 0 _ (omega arith) (first_gives 10 refl (is_overdriven_device device) n 0 _ (omega arith) accepted_gives)
