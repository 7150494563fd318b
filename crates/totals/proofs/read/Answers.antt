-- Answers of `totals::read`.
use mathlib.Core.Path.{◌≡◌, sym, ap, ◌∙◌}
use Prim.Native.Nat.{ℕ, ◌+◌, ◌*◌, ◌<◌}
use native.Mathlib.Omega.{arith}
use lib.ListN.{take, drop}
use lib.Seq.{drop-drop}
use Rattle.std.proofs.Common.{Option, Some, None}
use Rattle.columns.specs.Column.{Bytes}
use Rattle.words.specs.Words.{word}
use Rattle.streams.specs.Stream.{table_bytes, first_table, front_of, ends_as, read_within}
use Rattle.streams.specs.declared.Ending.{Ending}
use Rattle.streams.proofs.Streams.{IsTable, front_table, front_ends}
use Rattle.totals.proofs.Reading.{few_rows, month_reading, reading_few, reading_room, so_far_none, so_far_more, so_far_ends}
use Rattle.totals.proofs.read.Goals as goal

-- Where the front of the bytes left says so, a table stands there,
table : {left : ℕ} {rest shown : Bytes} {f : Option Ending} → shown ≡ rest → f ≡ front_of left shown → f ≡ None → (0 < left) × IsTable rest
table {left} {rest} same is none = front_table left rest (sym (rw same at is) ∙ none)

-- and where it says how the reading ends, so it ends.
ended : (left : ℕ) {rest shown : Bytes} {f : Option Ending} {e : Ending} → shown ≡ rest → f ≡ front_of left shown → f ≡ Some e → read_within left rest ≡ ends_as e
ended left {rest} same is ends = front_ends left rest _ (sym (rw same at is) ∙ ends)

-- The table that is lent,
taken : {rest shown lent : Bytes} {n : ℕ} → shown ≡ rest → n ≡ word shown → lent ≡ take (n * 32) (drop 4 shown) → lent ≡ first_table rest
taken {shown = shown} same counted lends = lends ∙ ap (λ (k : ℕ). take (k * 32) (drop 4 shown)) counted ∙ ap first_table same

-- and what comes after it.
later : (bytes : Bytes) (at : ℕ) {shown left : Bytes} {n : ℕ} → shown ≡ drop at bytes → n ≡ word shown → left ≡ drop (n * 32) (drop 4 shown)
    → left ≡ drop (at + (4 + table_bytes (drop at bytes))) bytes
later bytes at {shown} {n = n} same counted lends =
    lends ∙ drop-drop (n * 32) 4 shown ∙ ap (λ (k : ℕ). drop (4 + k * 32) shown) counted ∙ ap (λ s. drop (4 + table_bytes s) s) same
    ∙ drop-drop (4 + table_bytes (drop at bytes)) at bytes

pub loop-ending-init : goal.loop-ending-init
loop-ending-init c = (0, cc, so_far_none _ _ _)

pub overflow_add-left : goal.overflow_add-left
overflow_add-left c =
    let here = c.loop-ending.invariant.2.is c.requires.month.stream (month_reading c.requires.month.is c.requires.whole) in
    record { fits = omega (arith, reading_few here) }

pub overflow_sub-left : goal.overflow_sub-left
overflow_sub-left c =
    reading_few (c.loop-ending.invariant.2.is c.requires.month.stream (month_reading c.requires.month.is c.requires.whole))

pub returns-in-Some : goal.returns-in-Some
returns-in-Some c =
    let inv = c.loop-ending.invariant in
    let ends = ended _ inv.1 c.front_of.ensures c.in-Some.is in
    record { is = λ s e. so_far_ends inv.2 _ ends s (month_reading e c.requires.whole) }

pub with_table-figures-requires : goal.with_table-figures-requires
with_table-figures-requires c =
    let inv = c.loop-ending.invariant in
    let here = inv.2.is c.requires.month.stream (month_reading c.requires.month.is c.requires.whole) in
    let t = table inv.1 c.front_of.ensures c.in_default.is in
    (reading_room here, rw (taken inv.1 c.row_count-size.ensures (rw c.from.ensures at c.split_at.ensures.front)) (few_rows t.1))

pub loop-ending-preserved : goal.loop-ending-preserved
loop-ending-preserved c =
    let inv = c.loop-ending.invariant in
    let t = table inv.1 c.front_of.ensures c.in_default.is in
    let lent = taken inv.1 c.row_count-size.ensures (rw c.from.ensures at c.split_at.ensures.front) in
    (_, later c.args.bytes.now inv.0 inv.1 c.row_count-size.ensures (rw c.from.ensures at c.split_at.ensures.back), so_far_more inv.2 t.1 t.0 (rw lent at c.with_table-figures.ensures))
