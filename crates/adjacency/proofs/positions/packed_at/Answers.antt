-- `adjacency::positions::packed_at` meets its contract. Assumes nothing.
use Rattle.world.specs.Rows.{pos_of}
use Rattle.adjacency.specs.Adjacency.{packed}
use Rattle.adjacency.proofs.Found.{words_in_range}
use Rattle.adjacency.proofs.positions.packed_at.Goals as goal

pub biased-requires : goal.biased-requires
biased-requires c = let s = c in
    rw c.word_of.ensures (words_in_range s.args.table.now s.requires.0 s.args.row s.requires.1).0

pub biased-requires-2 : goal.biased-requires-2
biased-requires-2 c = let s = c in
    rw c.word_of-2.ensures (words_in_range s.args.table.now s.requires.0 s.args.row s.requires.1).1

pub biased-requires-3 : goal.biased-requires-3
biased-requires-3 c = let s = c in
    rw c.word_of-3.ensures (words_in_range s.args.table.now s.requires.0 s.args.row s.requires.1).2

pub returns : goal.returns
unfolding packed pos_of
returns c = cc
