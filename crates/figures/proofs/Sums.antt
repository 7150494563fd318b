-- Laws of the sums over tables: that no figure is large, and the figures of tables that come one after the other.
-- Assumes nothing.
use Rattle.std.proofs.Common.{Ok, Err}
use mathlib.Core.Path.{◌≡◌, refl, sym, ◌∙◌}
use mathlib.Core.Bool.{Bool, true, false, not, cond, ◌&&◌}
use mathlib.Core.Logic.{by_cases}
use mathlib.Core.List.{List, [], ◌∷◌, ◌++◌}
use Prim.Native.Nat.{ℕ, ◌+◌, ◌*◌, ◌≤◌, ◌<◌, zero-le}
use native.Mathlib.Decide.{dec_lt}
use native.Mathlib.Nat.{add-zero}
use native.Mathlib.Omega.{arith}
use lib.ListN.{length, get_or-eq_default}
use lib.Dec.{eqb}
use Rattle.columns.specs.Column.{Bytes, Column, row, tabulate}
use Rattle.columns.proofs.Columns.{length_tabulate, row_tabulate, same_rule, is_tabulate}
use Rattle.world.specs.Rows.{rows}
use Rattle.refusals.specs.Check.{Checked, accepted, refused, check_input}
use Rattle.refusals.proofs.Accepted.{accepted_input}
use Rattle.levels.specs.Numbers.{number}
use Rattle.electrical.specs.Answer.{rounds_of, settled}
use Rattle.updates.specs.State.{fresh_devices}
use Rattle.figures.specs.declared.Figures.{Figures}
use Rattle.figures.specs.Figures.{is_accepted, is_settled, settled_in, refused_in, rounds_in, dust_at, level_in, is_dust_at, sum_of, figures_of, added, with_settled, with_refused}
use Rattle.figures.specs.Room.{Room}
use Rattle.figures.proofs.Counting.{number_most, count_most}

-- ---- sums

module _ (f : Bytes → ℕ) where
  pub sum_append : (ts us : List Bytes) → sum_of f (ts ++ us) ≡ sum_of f ts + sum_of f us
  unfolding sum_of
  sum_append [] us = omega arith
  sum_append (t ∷ ts) us = rw (sum_append ts us) (omega arith)

  sum_one : (t : Bytes) → sum_of f (t ∷ []) ≡ f t
  unfolding sum_of
  sum_one t = omega arith

  sum_most : (m : ℕ) → ((t : Bytes) → f t ≤ m) → (ts : List Bytes) → sum_of f ts ≤ length ts * m
  unfolding sum_of
  sum_most m h [] = zero-le
  sum_most m h (t ∷ ts) = omega (arith, h t, sum_most m h ts)

-- a figure of a column of sums, 0 past its end
sums_most : (n m : ℕ) (f : ℕ → ℕ) → ((k : ℕ) → f k ≤ m) → (k : ℕ) → row (tabulate n f) k ≤ m
sums_most n m f h k =
    by_cases (dec_lt k n) (λ l. rw (row_tabulate n f k l) (h k))
    (λ l.
    let past : length (tabulate n f) ≤ k = rw (length_tabulate n 0 f) (omega arith) in
    rw (get_or-eq_default (tabulate n f) 0 past) zero-le)

-- ---- columns of sums

module _ (n : ℕ) (f : ℕ → Bytes → ℕ) where
  abbrev sums : List Bytes → Column
  sums ts = tabulate n (λ k. sum_of (f k) ts)

  row_sums : (ts : List Bytes) (k : ℕ) → k < n → row (sums ts) k ≡ sum_of (f k) ts
  row_sums ts k l = row_tabulate n (λ k. sum_of (f k) ts) k l

  sums_append : (ts us : List Bytes) → sums (ts ++ us) ≡ tabulate n (λ k. row (sums ts) k + row (sums us) k)
  sums_append ts us = same_rule n _ _ (λ k l. sum_append (f k) ts us ∙ sym (rw (row_sums ts k l, row_sums us k l)))

  -- a column and one table more, that adds g, or nothing
  module _ (t : Bytes) (column : Column) where
    sums_more : (g : ℕ → ℕ) → ((k : ℕ) → f k t ≡ g k) → tabulate n (λ k. row column k + row (sums (t ∷ [])) k) ≡ tabulate n (λ k. row column k + g k)
    sums_more g e = same_rule n _ _ (λ k l. rw (row_sums (t ∷ []) k l, sum_one (f k) t, e k))

    sums_same : length column ≡ n → ((k : ℕ) → f k t ≡ 0) → tabulate n (λ k. row column k + row (sums (t ∷ [])) k) ≡ column
    sums_same h e = sym (is_tabulate column n _ h (λ k l. rw (row_sums (t ∷ []) k l, sum_one (f k) t, e k, add-zero)))

-- ---- each table is settled or refused

either : (b : Bool) → number b + number (not b) ≡ 1
either true = refl
either false = refl

module _ (p : Bytes) where
  pub tables_all : (ts : List Bytes) → (figures_of p ts).tables + (figures_of p ts).refused ≡ length ts
  unfolding figures_of sum_of
  tables_all [] = refl
  tables_all (t ∷ ts) = omega (arith, either (is_settled p t), tables_all ts)

  -- a table adds at most 1,024 to a level
  level_most : (l : ℕ) (t : Bytes) → level_in p l t ≤ 1024
  level_most l t = go (check_input p t) refl
    where
      go : (c : Checked) → check_input p t ≡ c → cond (is_accepted c) (dust_at t (settled p t (fresh_devices t)).signal l) 0 ≤ 1024
      go (Ok _) e = omega (arith, count_most (is_dust_at t (settled p t (fresh_devices t)).signal l) (rows t), (accepted_input p t e).1.few)
      go (Err fault) e = zero-le

  -- no figure of a million tables of 1,024 rows comes near the end of 64 bits
  pub figures_room : (ts : List Bytes) → length ts ≤ 1000000 → Room (figures_of p ts)
  unfolding figures_of
  figures_room ts h =
      record {
        sized = (length_tabulate 17 0 _, length_tabulate 16 0 _);
        tables = omega (arith, sum_most (settled_in p) 1 (λ t. number_most (is_settled p t)) ts);
        refused = omega (arith, sum_most (refused_in p) 1 (λ t. number_most (not (is_settled p t))) ts);
        rounds =
            λ k.
            omega (arith, sums_most 17 (length ts * 1) _ (λ j. sum_most (rounds_in p (j + 1)) 1 (λ t. number_most (is_settled p t && eqb (rounds_of p t (fresh_devices t)) (j + 1))) ts) k);
        levels = λ l. omega (arith, sums_most 16 (length ts * 1024) _ (λ j. sum_most (level_in p j) 1024 (level_most j) ts) l);
      }

  -- ---- tables that come one after the other

  -- the figures of two runs of tables are the sums of theirs
  pub figures_append : (ts us : List Bytes) → figures_of p (ts ++ us) ≡ added (figures_of p ts) (figures_of p us)
  unfolding figures_of
  figures_append ts us =
      rw (sum_append (settled_in p) ts us, sum_append (refused_in p) ts us, sums_append 17 (λ k. rounds_in p (k + 1)) ts us, sums_append 16 (level_in p) ts us)

  -- ---- one table more, of figures of any kind

  module _ (f : Figures) (t : Bytes) where
    -- that is settled
    pub added_settled : check_input p t ≡ accepted
        → added f (figures_of p (t ∷ [])) ≡ with_settled f t (rounds_of p t (fresh_devices t)) (settled p t (fresh_devices t)).signal
    unfolding figures_of with_settled
    added_settled h =
        let rounds = sums_more 17 (λ k. rounds_in p (k + 1)) t f.rounds (λ k. number (eqb (rounds_of p t (fresh_devices t)) (k + 1))) (λ k. rw h) in
        let levels = sums_more 16 (level_in p) t f.levels (dust_at t (settled p t (fresh_devices t)).signal) (λ l. rw h) in
        rw (sum_one (settled_in p) t, sum_one (refused_in p) t, h, rounds, levels, add-zero)

    -- or refused
    pub added_refused : {n i : ℕ} → check_input p t ≡ refused n i → length f.rounds ≡ 17 → length f.levels ≡ 16
        → added f (figures_of p (t ∷ [])) ≡ with_refused f
    unfolding figures_of
    added_refused h r l =
        let rounds = sums_same 17 (λ k. rounds_in p (k + 1)) t f.rounds r (λ k. rw h) in
        let levels = sums_same 16 (level_in p) t f.levels l (λ l. rw h) in
        rw (sum_one (settled_in p) t, sum_one (refused_in p) t, h, rounds, levels, add-zero)
