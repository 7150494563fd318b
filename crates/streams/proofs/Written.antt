-- A stream that is written of tables is read as these tables: none is lost, none is added, whatever follows them.
-- Assumes nothing.
use mathlib.Core.Path.{◌≡◌, ap, ◌∙◌}
use mathlib.Core.List.{List, [], ◌∷◌, ◌++◌}
use Prim.Native.Nat.{ℕ, zero, suc, ◌*◌, ◌-◌, ◌/◌, ◌≤◌}
use native.Mathlib.Omega.{arith}
use lib.ListN.{length, length-append}
use lib.Seq.{take_at, drop_at, drop-drop}
use Rattle.columns.specs.Column.{Bytes}
use Rattle.columns.proofs.Members.{All}
use Rattle.words.specs.Words.{word, four_bytes}
use Rattle.streams.specs.declared.Ending.TheVariants.{Whole}
use Rattle.streams.specs.Stream.{first_table, later_tables, read_within, as_stream, IsWritable}
use Rattle.streams.proofs.Streams.{IsTable, read_table, read_nothing, joined, read_append}

-- the table at the front, and what comes after it
module _ {t : Bytes} (w : IsWritable t) (rest : Bytes) where
  abbrev front : Bytes
  front = four_bytes (length t / 32) ++ t ++ rest

  front_word : word front ≡ length t / 32
  front_word = let k = length t / 32 in let few : k ≤ 1024 = w.few in omega arith

  front_table : IsTable front
  front_table =
      record {
        counted = rw length-append (omega arith);
        few = rw front_word w.few;
        there = rw (front_word, length-append) (omega (arith, w.whole));
      }

  front_first : first_table front ≡ t
  front_first = rw front_word (take_at t rest (length t / 32 * 32) w.whole)

  front_later : later_tables front ≡ rest
  front_later = rw (front_word, ← drop-drop (length t / 32 * 32) 4 front) (drop_at t rest (length t / 32 * 32) w.whole)

-- tables that may be written are read, all of them and in their order
pub read_written : (n : ℕ) (ts : List Bytes) → All IsWritable ts → length ts ≤ n → read_within n (as_stream ts) ≡ record { tables = ts; ending = Whole }
unfolding as_stream
read_written n [] w l = read_nothing n
read_written zero (t ∷ ts) w l = absurd (omega arith)
read_written (suc n) (t ∷ ts) w l =
    rw (read_table n (front_table w.0 (as_stream ts)), front_first w.0 (as_stream ts), front_later w.0 (as_stream ts), read_written n ts w.1 (omega arith))

-- and so whatever follows them: it is read as by itself, where so many tables fewer may be
pub read_after : (n : ℕ) (ts : List Bytes) (s : Bytes) → All IsWritable ts → length ts ≤ n
    → read_within n (as_stream ts ++ s) ≡ joined ts (read_within (n - length ts) s)
read_after n ts s w l =
    let all = read_written n ts w l in
    read_append n (as_stream ts) s (ap (λ r. r.ending) all) ∙ ap (λ r. joined r.tables (read_within (n - length r.tables) s)) all
