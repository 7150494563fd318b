-- The figures of a month: what each table adds to them, and their sums. What stands in quotation marks is document 02's, Change 1.
-- Assumes nothing.
use Rattle.std.specs.Prelude.{Ok, Err, Bool, true, false, not, cond, ◌&&◌, List, [], ◌∷◌, ℕ, zero, suc, ◌+◌, eqb}
use Rattle.columns.specs.Column.{Bytes, Column, row, tabulate}
use Rattle.blocks.specs.Kind.{is_dust}
use Rattle.world.specs.Rows.{rows, kind_of}
use Rattle.refusals.specs.Check.{Checked, check_input}
use Rattle.levels.specs.Numbers.{number}
use Rattle.electrical.specs.Answer.{rounds_of, settled}
use Rattle.updates.specs.State.{fresh_devices}
use Rattle.figures.specs.declared.Figures.{Figures}

-- ---- what a table adds to each figure, under the profile p

abbrev pub is_accepted : Checked → Bool
is_accepted (Ok _) = true
is_accepted (Err fault) = false

-- it is settled where no refusal falls on it. Number 8, "limit below the rounds needed", never does: no table needs more rounds than 17
abbrev pub is_settled : Bytes → Bytes → Bool
is_settled p t = is_accepted (check_input p t)

-- 1 where it is settled: "`tables=` (those settled)"
abbrev pub settled_in : Bytes → Bytes → ℕ
settled_in p t = number (is_settled p t)

-- 1 where it is refused: "A refused table adds to `refused=` and to nothing else"
abbrev pub refused_in : Bytes → Bytes → ℕ
refused_in p t = number (not (is_settled p t))

-- "It settles each with fresh devices": 1 where it settles in k rounds
abbrev pub rounds_in : Bytes → ℕ → Bytes → ℕ
rounds_in p k t = number (is_settled p t && eqb (rounds_of p t (fresh_devices t)) k)

-- how many numbers below n the test holds of
unfoldable pub count_below : (ℕ → Bool) → ℕ → ℕ
count_below f zero = 0
count_below f (suc n) = count_below f n + number (f n)

-- row i of a table with these signals is dust of the level l: "(dust rows only)"
abbrev pub is_dust_at : Bytes → Column → ℕ → ℕ → Bool
is_dust_at t signal l i = is_dust (kind_of t i) && eqb (row signal i) l

-- how many rows are dust of the level l
abbrev pub dust_at : Bytes → Column → ℕ → ℕ
dust_at t signal l = count_below (is_dust_at t signal l) (rows t)

-- how many of its rows are dust that settles to the level l
abbrev pub level_in : Bytes → ℕ → Bytes → ℕ
level_in p l t = cond (is_settled p t) (dust_at t (settled p t (fresh_devices t)).signal l) 0

-- ---- "Every figure equals the sum over the tables"

unfoldable pub sum_of : (Bytes → ℕ) → List Bytes → ℕ
sum_of f [] = 0
sum_of f (t ∷ ts) = f t + sum_of f ts

-- "`tables=` .., `refused=`, `rounds_1=` to `rounds_17=`, `level_0=` to `level_15=`"
unfoldable pub figures_of : Bytes → List Bytes → Figures
figures_of p ts =
    record {
      tables = sum_of (settled_in p) ts;
      refused = sum_of (refused_in p) ts;
      rounds = tabulate 17 (λ k. sum_of (rounds_in p (k + 1)) ts);
      levels = tabulate 16 (λ l. sum_of (level_in p l) ts);
    }

-- figure by figure, the sums of two months
abbrev pub added : Figures → Figures → Figures
added f g =
    record {
      tables = f.tables + g.tables;
      refused = f.refused + g.refused;
      rounds = tabulate 17 (λ k. row f.rounds k + row g.rounds k);
      levels = tabulate 16 (λ l. row f.levels l + row g.levels l);
    }

-- ---- the figures with one table more

-- one more at the number of rounds
abbrev pub with_rounds : Column → ℕ → Column
with_rounds counts rounds = tabulate 17 (λ k. row counts k + number (eqb rounds (k + 1)))

-- one more at the level of each dust row
abbrev pub with_levels : Column → Bytes → Column → Column
with_levels counts t signal = tabulate 16 (λ l. row counts l + dust_at t signal l)

-- with a table that settles in so many rounds, to these signals
unfoldable pub with_settled : Figures → Bytes → ℕ → Column → Figures
with_settled f t rounds signal =
    record {
      tables = f.tables + 1;
      refused = f.refused;
      rounds = with_rounds f.rounds rounds;
      levels = with_levels f.levels t signal;
    }

-- with a table that is refused
abbrev pub with_refused : Figures → Figures
with_refused f = record { tables = f.tables; refused = f.refused + 1; rounds = f.rounds; levels = f.levels }

-- ---- what the figures add up to

-- the sum of a column's entries
unfoldable pub total : Column → ℕ
total [] = 0
total (x ∷ xs) = x + total xs

-- the dust rows of a table that is settled
abbrev pub dust_in : Bytes → Bytes → ℕ
dust_in p t = cond (is_settled p t) (count_below (λ i. is_dust (kind_of t i)) (rows t)) 0
