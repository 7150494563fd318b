-- `merge::merge_moved` meets its contract, by what is counted. Assumes nothing.
use mathlib.Core.Path.{refl, sym}
use native.Mathlib.Omega.{arith}
use Rattle.merge.proofs.Checks.{clash_told, count_told, crowd_told, none_told}
use Rattle.merge.proofs.merge_moved.Goals as goal

pub returns-in_default : goal.returns-in_default
returns-in_default c = let told = sym c.in_default.ensures in
    let refused = clash_told _ _ told in
    record { answer = rw refused c.answer.ensures; bytes = rw refused refl }

pub returns-then-n-gt-MOST_ROWS : goal.returns-then-n-gt-MOST_ROWS
returns-then-n-gt-MOST_ROWS c = let told = sym c.in-Some.ensures in
    let refused = crowd_told _ _ _ told (omega (arith, c.if-n-gt-MOST_ROWS.true)) in
    record { answer = rw refused c.answer-then-n-gt-MOST_ROWS.ensures; bytes = rw refused refl }

pub write_rows-requires : goal.write_rows-requires
write_rows-requires c = let told = sym c.in-Some.ensures in
    let (first, second, long) = c.requires in
    record { table = (first, second); second_in_bounds = omega (arith, count_told _ _ _ told, c.if-n-gt-MOST_ROWS.false, long) }

pub returns : goal.returns
returns c = let told = sym c.in-Some.ensures in
    let passed = none_told _ _ _ told c.if-n-gt-MOST_ROWS.false in
    record { answer = rw passed (sym (count_told _ _ _ told)); bytes = rw passed c.write_rows.ensures }
