-- What the tests of a merge say, part by part.
-- Assumes nothing.
use mathlib.Core.Path.{◌≡◌, refl, ap, sym, ◌∙◌}
use mathlib.Core.Bool.{Bool, true, false, cond, not}
use mathlib.Core.List.{List}
use Rattle.std.proofs.Common.{Some, None}
use Prim.Native.Nat.{ℕ, ◌≤◌, ◌<◌}
use native.Mathlib.Omega.{arith}
use lib.ListN.{length}
use lib.Dec.{eqb, leb}
use borrow.Author.Tests.{eqb-true, le-leb, lt-leb}
use Rattle.columns.specs.Column.{Bytes}
use Rattle.places.specs.declared.Pos.{Pos}
use Rattle.refusals.specs.Check.{Checked, accepted, refused, refuse_unless, or_else, check_table}
use Rattle.refusals.proofs.Passed.{passed_both, passed_unless, or_assoc, unless_else}
use Rattle.moving.specs.Move.{on_ground}
use Rattle.unions.specs.Union.{rows_of, union_rows, has_clash, counted}
use Rattle.merge.specs.Merge.{moved_rows, merged_rows, check_merge}
use Rattle.merge.specs.Parts.{check_given, check_union}

-- of what is given, where none of 2 to 11 falls
pub record Given (a b : Bytes) (by : Pos) (bytes : ℕ) : Type 0 where
  pub first : check_table 14 a ≡ accepted
  pub second : check_table 14 b ≡ accepted
  pub size : bytes ≡ 32768
  pub ground : on_ground by b ≡ true

pub given : (a b : Bytes) (by : Pos) (bytes : ℕ) → check_given a b by bytes ≡ accepted → Given a b by bytes
unfolding check_given
given a b by bytes h =
    let (first, g) = passed_both (check_table 14 a) _ h in
    let (second, f) = passed_both (check_table 14 b) _ g in
    let (size, e) = passed_unless 7 (eqb bytes 32768) _ f in
    let (ground, _) = passed_unless 11 (on_ground by b) _ e in
    record { first = first; second = second; size = eqb-true bytes 32768 size; ground = ground }

-- ---- 12 and 3, by the count

module _ (first second : List Bytes) where
  pub clash_told : counted first second ≡ None → check_union first second ≡ refused 12 0
  unfolding check_union
  clash_told h = go (has_clash first second) h
    where
      go : (b : Bool) → cond b None (Some (length (union_rows first second))) ≡ None
          → refuse_unless 12 (not b) (refuse_unless 3 (leb (length (union_rows first second)) 1024) accepted) ≡ refused 12 0
      go true e = refl
      go false e = let z : ◌≡◌ {A = ℕ} 0 1 = cc in absurd (omega arith)

  module _ (n : ℕ) (h : counted first second ≡ Some n) where
    rows_told : (has_clash first second ≡ false) × (length (union_rows first second) ≡ n)
    rows_told = go (has_clash first second) refl h
      where
        go : (b : Bool) → has_clash first second ≡ b → cond b None (Some (length (union_rows first second))) ≡ Some n
            → (has_clash first second ≡ false) × (length (union_rows first second) ≡ n)
        go true e f = let z : ◌≡◌ {A = ℕ} 0 1 = cc in absurd (omega arith)
        go false e f = (e, cc)

    pub count_told : length (union_rows first second) ≡ n
    count_told = rows_told.1

    pub crowd_told : 1024 < n → check_union first second ≡ refused 3 0
    unfolding check_union
    crowd_told l = rw (rows_told.0, rows_told.1, lt-leb n 1024 l) refl

    pub none_told : n ≤ 1024 → check_union first second ≡ accepted
    unfolding check_union
    none_told l = rw (rows_told.0, rows_told.1, le-leb n 1024 l) refl

-- ---- both parts

-- tests of two tables and two tests more, and what comes next
four_else : (c d : Checked) (n m : ℕ) (x y : Bool) (next : Checked)
    → or_else c (or_else d (refuse_unless n x (refuse_unless m y next))) ≡ or_else (or_else c (or_else d (refuse_unless n x (refuse_unless m y accepted)))) next
four_else c d n m x y next =
    ap (λ e. or_else c (or_else d e)) (ap (refuse_unless n x) (unless_else m y accepted next) ∙ unless_else n x (refuse_unless m y accepted) next)
    ∙ ap (or_else c) (sym (or_assoc d _ next))
    ∙ sym (or_assoc c _ next)

module _ (a b : Bytes) (by : Pos) (bytes : ℕ) where
  -- the tests are those of what is given, and then those of the rows of both
  pub in_parts : check_merge a b by bytes ≡ or_else (check_given a b by bytes) (check_union (rows_of a) (moved_rows b by))
  unfolding check_merge check_given check_union merged_rows
  in_parts = four_else (check_table 14 a) (check_table 14 b) 7 11 (eqb bytes 32768) (on_ground by b) _

  -- a refusal of what is given is the call's
  pub refused_given : {n i : ℕ} → check_given a b by bytes ≡ refused n i → check_merge a b by bytes ≡ refused n i
  refused_given h = in_parts ∙ rw h refl

  -- and where there is none, the rows of both decide
  pub passed_given : check_given a b by bytes ≡ accepted → check_merge a b by bytes ≡ check_union (rows_of a) (moved_rows b by)
  passed_given h = in_parts ∙ rw h refl

  -- of an accepted call
  pub both_passed : check_merge a b by bytes ≡ accepted → (check_given a b by bytes ≡ accepted) × (check_union (rows_of a) (moved_rows b by) ≡ accepted)
  both_passed h = passed_both (check_given a b by bytes) _ (sym in_parts ∙ h)
