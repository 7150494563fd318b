-- `moving::write_pos` meets its contract: a coordinate that is handed on is read back from its bits. Assumes nothing.
use mir.Syntax.{w32}
use mir.Val.{SFits}
use borrow.Author.Rules.{rules}
use Rattle.places.proofs.Signs.{back32}
use Rattle.moving.specs.Move.{bits32, pos_bytes}
use Rattle.moving.proofs.Words.{bits_are, words_written}
use Rattle.moving.proofs.write_pos.Goals as goal

pub returns : goal.returns
unfolding pos_bytes
returns c =
    let fx : SFits w32 c.args.q.x = search rules in
    let fy : SFits w32 c.args.q.y = search rules in
    let fz : SFits w32 c.args.q.z = search rules in
    rw (c.write_word-3.ensures, c.write_word-2.ensures, c.write_word.ensures, c.cast_unsigned-3.ensures, c.cast_unsigned-2.ensures, c.cast_unsigned.ensures, back32 _ fx, back32 _ fy, back32 _ fz, bits_are c.args.q.x, bits_are c.args.q.y, bits_are c.args.q.z)
    (words_written (bits32 c.args.q.x) (bits32 c.args.q.y) (bits32 c.args.q.z) c.args.bytes.now c.requires)
