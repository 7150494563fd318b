-- Laws of the searches of the keys.
-- Assumes nothing.
use mathlib.Core.Path.{◌≡◌, sym, ◌∙◌}
use mathlib.Core.Bool.{false, ◌||◌, true≢false}
use mathlib.Core.Logic.{by_cases}
use Prim.Native.Nat.{ℕ, ◌+◌, ◌-◌, ◌≤◌, ◌<◌}
use native.Mathlib.Decide.{dec_lt}
use native.Mathlib.Numerals.{add-one}
use native.Mathlib.Omega.{arith}
use lib.ListN.{length}
use Rattle.columns.specs.Column.{Column, row}
use Rattle.columns.proofs.Truth.{refuted}
use Rattle.circuit.specs.Circuit.{some_below}
use Rattle.circuit.proofs.Ways.{holds_some}
use Rattle.keys.specs.Search.{is_within, any_within, Skipped}

-- ---- whether any row of a stretch has a key between the bounds: of no row, and of one row more

module _ (keys : Column) (low high i : ℕ) where
  pub any_none : any_within keys low high i i ≡ false
  unfolding any_within some_below
  any_none = let e : i - i ≡ 0 = omega arith in rw e

  pub any_more : (p : ℕ) → i ≤ p → any_within keys low high i (p + 1) ≡ (any_within keys low high i p || is_within low high (row keys p))
  unfolding any_within some_below
  any_more p l =
      let e : p + 1 - i ≡ (p - i) + 1 = omega arith in
      let q : i + (p - i) ≡ p = omega arith in
      rw (e, add-one (p - i), q)

-- ---- rows that are skipped: none, one, a block, and a stretch after a stretch

module _ {keys : Column} {low high : ℕ} where
  pub skipped_none : {i : ℕ} → i ≤ length keys → Skipped keys low high i i
  skipped_none h = record { from = omega arith; inside = h; others = λ k l m. absurd (omega arith) }

  pub skipped_row : {p : ℕ} → p < length keys → is_within low high (row keys p) ≡ false → Skipped keys low high p (p + 1)
  skipped_row {p} h off = record { from = omega arith; inside = omega arith; others = λ k l m. let e : k ≡ p = omega arith in rw e off }

  pub skipped_block : {p q : ℕ} → p ≤ q → q ≤ length keys → any_within keys low high p q ≡ false → Skipped keys low high p q
  unfolding any_within
  skipped_block {p} {q} h g off =
      record {
        from = h;
        inside = g;
        others =
            λ k l m.
            let e : p + (k - p) ≡ k = omega arith in
            refuted _ (λ on. true≢false (sym (holds_some (λ k. is_within low high (row keys (p + k))) (q - p) (k - p) (omega arith) (rw e on)) ∙ off));
      }

  pub skipped_on : {i p q : ℕ} → Skipped keys low high i p → Skipped keys low high p q → Skipped keys low high i q
  skipped_on {i} {p} {q} s t =
      record {
        from = omega (arith, s.from, t.from);
        inside = t.inside;
        others = λ k l m. by_cases (dec_lt k p) (s.others k l) (λ n. t.others k (omega arith) m);
      }
