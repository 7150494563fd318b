-- `feeders::write_row` meets its contract. Assumes nothing.
use mathlib.Core.Path.{◌≡◌, ap}
use Prim.Native.Nat.{◌+◌, ◌*◌, ◌-◌}
use native.Mathlib.Omega.{arith}
use borrow.Rule.Slice.PartMut.{put_mid}
use Rattle.feeders.proofs.write_row.Goals as goal

pub returns : goal.returns
returns c = let a = c.args in
    let size : a.row * 12 + 12 - a.row * 12 ≡ 12 = omega arith in
    rw size (ap (put_mid (a.row * 12) 12 a.list.now) c.write_entries.ensures)
