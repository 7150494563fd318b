-- The month of a small stream, computed: what the program `month` writes for a whole input.
-- Assumes nothing.
use mathlib.Core.Path.{◌≡◌, refl, sym, ◌∙◌}
use mathlib.Core.Bool.{Bool, false, ◌&&◌}
use mathlib.Core.List.{[], ◌∷◌, ◌++◌}
use Prim.Native.Nat.{◌-◌, ◌%◌, ◌≤◌, ◌<◌}
use native.Mathlib.Omega.{arith}
use lib.ListN.{length, take, drop}
use lib.Dec.{T}
use Rattle.columns.specs.Column.{Bytes, same}
use Rattle.columns.specs.Ascii.{ascii}
use Rattle.blocks.specs.Kind.{Solid, CopperBulb}
use Rattle.blocks.specs.Profile.{bench_profile}
use Rattle.layout.specs.Good.{good_profile}
use Rattle.refusals.specs.Check.{check_input}
use Rattle.report.specs.Text.{profile_bytes, settle_text}
use Rattle.report.proofs.Run.{run_refused, short_text, whole_text}
use Rattle.streams.specs.Stream.{as_stream}
use Rattle.month_lines.specs.Lines.{output_of}
use Rattle.month_lines.proofs.Output.{output_refused, output_short}
use Rattle.cases.proofs.Computing.{computing}
use Rattle.cases.proofs.Build.{block}
use Rattle.cases.proofs.Cases.{line}

-- a table with a bulb, which a profile of 13 bytes has no byte for
bad : Bytes
bad = block Solid 0 0 0 ++ block CopperBulb 1 0 0

-- test 3's table, a refused one, one without rows, and two bytes of a row count
input : Bytes
unfolding computing line bad
input = bench_profile ++ as_stream (line ∷ bad ∷ [] ∷ []) ++ 0 ∷ 0 ∷ []

expected : Bytes
expected =
    ascii "tables=2\nrefused=1\nrounds_1=1\nrounds_2=0\nrounds_3=0\nrounds_4=1\nrounds_5=0\nrounds_6=0\nrounds_7=0\nrounds_8=0\nrounds_9=0\nrounds_10=0\n"
    ++ ascii "rounds_11=0\nrounds_12=0\nrounds_13=0\nrounds_14=0\nrounds_15=0\nrounds_16=0\nrounds_17=0\n"
    ++ ascii "level_0=0\nlevel_1=0\nlevel_2=0\nlevel_3=0\nlevel_4=0\nlevel_5=0\nlevel_6=0\nlevel_7=0\nlevel_8=0\nlevel_9=0\nlevel_10=0\nlevel_11=0\n"
    ++ ascii "level_12=0\nlevel_13=0\nlevel_14=1\nlevel_15=1\nended=cut\n"

-- the last line of an output
ends : Bytes → Bytes → Bool
unfolding computing
ends line output = same (drop (length output - length line) output) line

-- an output that ends as it is to
endings : Bool
unfolding computing ends
endings =
    -- a row count of 1,025, and one of 1,024 with no rows after it
    ends (ascii "ended=count\n") (output_of (bench_profile ++ 1 ∷ 4 ∷ 0 ∷ 0 ∷ []))
    && ends (ascii "ended=cut\n") (output_of (bench_profile ++ 0 ∷ 4 ∷ 0 ∷ 0 ∷ []))
    -- the profile alone
    && ends (ascii "ended=whole\n") (output_of bench_profile)
    -- a byte, and a profile that is bad with a table after it
    && same (output_of (1 ∷ [])) (ascii "refusal=1\nplace=0\n")
    && same (output_of (1 ∷ bench_profile ++ 0 ∷ 0 ∷ 0 ∷ 0 ∷ [])) (ascii "refusal=1\nplace=0\n")

claim : T (same (output_of input) expected && endings)
unfolding computing input expected endings
claim = tt

-- "as in `settle`": a bad profile has the text that `settle` has for it, where whole rows follow it within what `settle` takes,
pub as_settle : (i : Bytes) → length i % 32 ≡ 13 → length i ≤ 32781 → good_profile (take 13 i) ≡ false → output_of i ≡ settle_text i
unfolding check_input
as_settle i r l h =
    let parted : profile_bytes i ≡ 13 = rw r refl in
    output_refused i h
    ∙ sym (whole_text i (omega arith) (omega arith) (rw r refl) ∙ rw (parted, run_refused (take 13 i) (drop 13 i) {n = 1} {i = 0} (rw h)))

-- and where it is cut short
pub as_settle_short : (i : Bytes) → length i < 13 → output_of i ≡ settle_text i
as_settle_short i h = output_short i h ∙ sym (short_text i h)
