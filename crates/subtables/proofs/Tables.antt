-- Laws of some rows of an accepted table, as a table: it is accepted, and the look-up finds in it the rows that are there.
-- Assumes nothing.
use mathlib.Core.Path.{◌≡◌, refl, sym, ◌∙◌}
use mathlib.Core.Bool.{Bool, true, false, ◌&&◌, true≢false}
use mathlib.Core.List.{List}
use Prim.Native.Nat.{ℕ, ◌+◌, ◌<◌}
use native.Mathlib.Nat.{le_trans}
use native.Mathlib.Omega.{arith}
use lib.ListN.{length}
use Rattle.columns.specs.declared.Found.{Found}
use Rattle.columns.specs.declared.Found.TheVariants.{At, Nothing}
use Rattle.columns.specs.Column.{Bytes, row}
use Rattle.columns.specs.First.{indices_from, on_found}
use Rattle.columns.proofs.Indices.{length_indices, index_kept, kept_index}
use Rattle.places.specs.declared.Pos.{Pos}
use Rattle.world.specs.Rows.{rows, byte_of, pos_of}
use Rattle.world.specs.Find.{find}
use Rattle.world.proofs.Finding.{found_stands, find_none}
use Rattle.layout.proofs.Fields.{level_again, good_again}
use Rattle.refusals.specs.Accepted.{Table}
use Rattle.refusals.specs.Check.{IsAccepted}
use Rattle.refusals.proofs.Accepted.{OfKinds, accepted_input, accepted_kinds, input_accepted, later_after, different, rows_in_order, find-at}
use Rattle.subtables.specs.Subtable.{table_of}
use Rattle.subtables.proofs.Rows.{Numbers, indices_numbers, table_count, table_whole, table_byte, table_place}

module _ (t : Bytes) (a : Table t) (f : ℕ → Bool) where
  -- the rows at which f holds
  abbrev numbers : List ℕ
  numbers = indices_from f (rows t) 0

  abbrev some : Bytes
  some = table_of t numbers

  these : Numbers t numbers
  these = indices_numbers t f

  within : (k : ℕ) → k < rows some → k < length numbers
  within k l = rw (table_count t numbers these) at l

  agree : (k : ℕ) → k < rows some → (b : ℕ) → b < 32 → false ≡ false → byte_of some k b ≡ byte_of t (row numbers k) b
  agree k l b m _ = table_byte t numbers these k (within k l) b m

  -- ---- accepted

  pub table_table : Table some
  table_table =
      record {
        whole = table_whole t numbers these;
        few = rw (table_count t numbers these) (le_trans (length_indices f (rows t) 0) a.few);
        good = λ k l. good_again (λ _. false) t some (row numbers k) k (agree k l) refl (a.good (row numbers k) (these.inside k (within k l)));
        ordered = λ k l.
            let next = within (k + 1) l in
            rw (table_place t numbers these k (within k (omega arith)), table_place t numbers these (k + 1) next)
            (later_after t a (row numbers k) (row numbers (k + 1)) (these.rise k (k + 1) (omega arith) next) (these.inside (k + 1) next));
        low = λ k l c.
            rw (level_again (λ _. false) t some (row numbers k) k (agree k l) refl 0)
            (a.low (row numbers k) (these.inside k (within k l)) (rw (agree k l 12 (omega arith) refl) at c));
      }

  table_kinds : (kinds : ℕ) → OfKinds kinds t → OfKinds kinds some
  table_kinds kinds h k l = rw (agree k l 12 (omega arith) refl) (h (row numbers k) (these.inside k (within k l)))

  -- ---- the look-up

  -- nothing is found at q where none of the rows stands there
  nothing_among : (q : Pos) → ((k : ℕ) → k < length numbers → ¬ (pos_of t (row numbers k) ≡ q)) → find some q ≡ Nothing
  nothing_among q none = go (find some q) refl
    where
      go : (x : Found) → find some q ≡ x → x ≡ Nothing
      go Nothing e = refl
      go (At k) e =
          let (inside, stands) = found_stands some q k e in
          absurd (none k (within k inside) (sym (table_place t numbers these k (within k inside)) ∙ stands))

  -- a test of the row that is found at q among these is one of the row that is found there in t, where it is among them
  pub find_among : (g : ℕ → Bool) (q : Pos) → on_found (λ k. g (row numbers k)) false (find some q) ≡ on_found (λ j. f j && g j) false (find t q)
  find_among g q = go (find t q) refl
    where
      here : (j : ℕ) → find t q ≡ At j → (b : Bool) → f j ≡ b → on_found (λ k. g (row numbers k)) false (find some q) ≡ (b && g j)
      here j e true holds =
          let (inside, stands) = found_stands t q j e in
          let p = kept_index f (rows t) 0 j (record { from = omega arith; below = omega arith; holds = holds }) in
          let at : find some q ≡ At p.at =
          find-at some table_table q p.at (rw (table_count t numbers these) p.inside) (table_place t numbers these p.at p.inside ∙ rw p.is stands) in
          rw (at, p.is) refl
      here j e false fails =
          let (inside, stands) = found_stands t q j e in
          rw (nothing_among q (λ k l s.
          let same : row numbers k ≡ j = different t a (row numbers k) j (these.inside k l) inside (s ∙ sym stands) in
          true≢false (sym (index_kept f (rows t) 0 k l).holds ∙ rw same fails)))
          refl

      go : (x : Found) → find t q ≡ x → on_found (λ k. g (row numbers k)) false (find some q) ≡ on_found (λ j. f j && g j) false x
      go (At j) e = here j e (f j) refl
      go Nothing e = rw (nothing_among q (λ k l s. find_none t (rows_in_order t a) q e (row numbers k) (these.inside k l) s)) refl

-- some rows of an accepted table are one
pub rows_accepted : (p t : Bytes) (f : ℕ → Bool) → IsAccepted p t → IsAccepted p (table_of t (indices_from f (rows t) 0))
rows_accepted p t f h =
    let (good, a) = accepted_input p t h in
    input_accepted p (table_of t (indices_from f (rows t) 0)) good (table_table t a f) (table_kinds t a f (length p) (accepted_kinds p t h))
