-- `words::write_word` meets its contract: the library's bytes are the four. Assumes nothing.
use Rattle.std.proofs.Common.{append_assoc}
use mathlib.Core.Path.{◌≡◌, sym, ◌∙◌}
use Prim.Native.Nat.{ℕ, ◌+◌, ◌-◌, ◌≤◌}
use native.Mathlib.Omega.{arith}
use lib.ListN.{length, take, drop}
use lib.Seq.{drop-drop}
use borrow.Rule.Slice.PartMut.{put_mid}
use Rattle.std.proofs.lemmas.List.Edits.{sets, sets-eq}
use Rattle.columns.specs.Column.{Bytes}
use Rattle.words.specs.Words.{four_bytes}
use Rattle.words.proofs.write_word.Goals as goal

written : (xs : Bytes) (at n : ℕ) {ys : Bytes} → ys ≡ four_bytes n → at + 4 ≤ length xs → put_mid at (at + 4 - at) xs ys ≡ sets xs at (four_bytes n)
written xs at n e h =
    let four : at + 4 - at ≡ 4 = omega arith in
    rw (four, e, drop-drop 4 at xs) (sym (sets-eq (four_bytes n) xs at h ∙ append_assoc (take at xs) (four_bytes n) (drop (at + 4) xs)))

pub returns : goal.returns
returns c = written _ _ c.args.n (c.copy_from_slice.ensures.after ∙ c.to_le_bytes.ensures) (omega arith)
