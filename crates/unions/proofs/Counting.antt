-- The walk that counts: what holds of a count of rows after some steps.
-- Assumes nothing.
use mathlib.Core.Path.{◌≡◌, refl, ap, ◌∙◌}
use mathlib.Core.Bool.{true, false}
use mathlib.Core.List.{[]}
use Rattle.std.proofs.Common.{Some, None}
use Prim.Native.Nat.{ℕ, ◌+◌, ◌≤◌}
use native.Mathlib.Omega.{arith}
use lib.ListN.{length}
use Rattle.columns.specs.Column.{Bytes}
use Rattle.world.specs.Rows.{rows}
use Rattle.unions.specs.declared.Next.{Next}
use Rattle.unions.specs.Union.{rows_of, union_rows, has_clash, counted}
use Rattle.unions.specs.Walk.{in_first, in_second, past, clash_at}
use Rattle.unions.proofs.Rows.{rows_left, none_left}
use Rattle.unions.proofs.Steps.{Step}

-- i rows of the first and j of the second are passed, which are n rows of both and do not clash
pub record Counting (a b : Bytes) (i j n : ℕ) : Type 0 where
  pub first_in : i ≤ rows a
  pub second_in : j ≤ rows b
  pub few : n ≤ i + j
  pub count : length (union_rows (rows_of a) (rows_of b)) ≡ n + length (union_rows (rows_left a i) (rows_left b j))
  pub clash : has_clash (rows_of a) (rows_of b) ≡ has_clash (rows_left a i) (rows_left b j)

module _ {a b : Bytes} {i j n : ℕ} (c : Counting a b i j n) where
  module _ {next : Next} (s : Step a i b j next) where
    pub counting_more : clash_at a b next ≡ false → Counting a b (past (in_first next) i) (past (in_second next) j) (n + 1)
    counting_more none =
        record {
          first_in = s.first_in;
          second_in = s.second_in;
          few = omega (arith, c.few, s.on);
          count = let one = ap length s.row in omega (arith, c.count, one);
          clash = c.clash ∙ rw none at s.clash;
        }

    pub counting_clash : clash_at a b next ≡ true → None ≡ counted (rows_of a) (rows_of b)
    counting_clash some = rw (c.clash, s.clash, some) refl

  pub counting_all : rows a + rows b ≤ i + j → Some n ≡ counted (rows_of a) (rows_of b)
  unfolding union_rows has_clash
  counting_all over =
      let first : rows_left a i ≡ [] = none_left a i (omega (arith, c.first_in, c.second_in)) in
      let second : rows_left b j ≡ [] = none_left b j (omega (arith, c.first_in, c.second_in)) in
      let none : has_clash (rows_of a) (rows_of b) ≡ false = rw first at c.clash in
      let all : length (union_rows (rows_of a) (rows_of b)) ≡ n = rw (first, second) at c.count ∙ omega arith in
      rw (none, all) refl
