-- `replace::check_new` meets its contract: the new row is a table of one row, and its number fits. Assumes nothing.
use Rattle.std.proofs.Common.{◌≡◌, sym, ◌∙◌, ℕ, Bool, true, arith}
use Rattle.std.proofs.lemmas.Grind.{common_steps}
use Rattle.refusals.specs.Check.{Checked, accepted, refuse_row_unless, is_bad, is_overdriven}
use Rattle.refusals.proofs.Passed.{row_fits, refuse_one, passed_row_unless}
use Rattle.replace.specs.Replace.{check_new}
use Rattle.replace.proofs.check_new.Goals as goal

pub refuse_at-requires : goal.refuse_at-requires
refuse_at-requires c = rw c.first_bad.ensures (row_fits _ _ _ (omega arith))

pub refuse_at-requires-2 : goal.refuse_at-requires-2
refuse_at-requires-2 c = rw c.first_overdriven.ensures (row_fits _ _ _ (omega arith))

-- a new row of the right length
abbrev long : (n : ℕ) (b : Bool) {result : Checked} → result ≡ refuse_row_unless 4 n b accepted → result ≡ accepted → b ≡ true
long n b is none = (passed_row_unless 4 n b accepted (sym is ∙ none)).0

pub returns-in_err-refuse_at : goal.returns-in_err-refuse_at
unfolding check_new
returns-in_err-refuse_at c =
    rw (long c.args.n _ c.refuse_row_unless.ensures c.in_ok-refuse_row_unless.was, ← refuse_one 4 c.args.n (is_bad c.args.kinds c.args.new.now))
    (grind (arith, common_steps))

pub returns-in_err-refuse_row_unless-2 : goal.returns-in_err-refuse_row_unless-2
unfolding check_new
returns-in_err-refuse_row_unless-2 c =
    rw (long c.args.n _ c.refuse_row_unless.ensures c.in_ok-refuse_row_unless.was, ← refuse_one 4 c.args.n (is_bad c.args.kinds c.args.new.now))
    (grind (arith, common_steps))

pub returns : goal.returns
unfolding check_new
returns c =
    rw (
      long c.args.n _ c.refuse_row_unless.ensures c.in_ok-refuse_row_unless.was,
      ← refuse_one 4 c.args.n (is_bad c.args.kinds c.args.new.now),
      ← refuse_one 10 c.args.n (is_overdriven c.args.new.now),
    ) (grind (arith, common_steps))
