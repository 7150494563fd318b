-- `unions::Walk`'s `next` comes no further than the ends of both tables, and further with each row. Assumes nothing.
use Rattle.std.proofs.Common.{◌≡◌, ◌+◌, ◌-◌, ◌<◌, ℕ, Bool, true, false, refl, arith}
use mir.Val.{bool_byte}
use Rattle.world.specs.Rows.{rows}
use Rattle.unions.specs.Walk.{in_first, in_second, next_of, past, OnWay}
use Rattle.unions.proofs.Steps.{step}
use Rattle.unions.proofs.WalkIterator.next.Goals as goal
use Rattle.unions.proofs.WalkIterator.next.Goals.{else-self-rows-via-then-self-rows+else-self-rows-2, else-self-rows-via-else-self-rows}

past_is : (b : Bool) (i : ℕ) → i + bool_byte b ≡ past b i
past_is true i = refl
past_is false i = omega arith

pub returns-clause-goes : goal.returns-clause-goes
returns-clause-goes c =
    let s = c.args.self.now in
    let a = s.first.now in
    let b = s.second.now in
    let r = c.requires in
    let left : s.i + s.j < rows a + rows b =
    elim c.else-self-rows.branch [
      | else-self-rows-via-then-self-rows+else-self-rows-2 w ↦ omega (arith, r.first_in, r.second_in, c.rows.ensures, w.rows-then-self-rows.ensures, w.if-self-rows.true, w.if-self-rows-2.false)
      | else-self-rows-via-else-self-rows w ↦ omega (arith, r.first_in, r.second_in, c.rows.ensures, w.if-self-rows.false)
    ] in
    let on = step a b r.first r.second s.i s.j r.first_in r.second_in left in
    let first : s.i + c.from.result ≡ past (in_first (next_of a s.i b s.j)) s.i = rw (c.from.ensures, c.in_first.ensures, c.next_row-next.ensures) (past_is _ s.i) in
    let second : s.j + c.from-2.result ≡ past (in_second (next_of a s.i b s.j)) s.j = rw (c.from-2.ensures, c.in_second.ensures, c.next_row-next.ensures) (past_is _ s.j) in
    let after : OnWay (record { first = s.first; i = s.i + c.from.result; second = s.second; j = s.j + c.from-2.result }) =
    record { first = r.first; second = r.second; first_in = rw first on.first_in; second_in = rw second on.second_in } in
    let less : rows a + rows b - (s.i + c.from.result + (s.j + c.from-2.result)) < rows a + rows b - (s.i + s.j) = omega (arith, on.on, first, second, left) in
    record { on = λ _. (after, tt, less); keeps = after; rests = λ _. tt }
