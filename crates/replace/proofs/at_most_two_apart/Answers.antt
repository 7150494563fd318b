-- `replace::at_most_two_apart` meets its contract. Assumes nothing.
use Rattle.places.proofs.Signs.{back32}
use Rattle.replace.proofs.at_most_two_apart.Goals as goal

pub returns : goal.returns
returns c = let s = c in
    rw (c.at_most_two_more.ensures, c.at_most_two_more-2.ensures) (rw (back32 _ s.ranges.a, back32 _ s.ranges.b))
