-- `month_lines::text_of` meets its contract. Assumes nothing.
use Rattle.month_lines.specs.Lines.{text_of}
use Rattle.month_lines.proofs.text_of.Goals as goal

pub returns-then-profile-good_profile : goal.returns-then-profile-good_profile
unfolding text_of
returns-then-profile-good_profile c = let put = c in
    let test = put in
    rw (← test.good_profile.ensures, test.if-profile-good_profile.true) put.all_lines.ensures

pub returns : goal.returns
unfolding text_of
returns c = let put = c in
    let test = put in
    rw (← test.good_profile.ensures, test.if-profile-good_profile.false) put.refusal.ensures
