-- `records::parts_from` meets its contract. The loop's invariant: `at` is where the record goes on after the slices so far,
-- each of which takes at most 65,537 bytes. Assumes nothing.
use mathlib.Core.Path.{◌≡◌}
use Prim.Native.Nat.{◌+◌, ◌*◌, ◌≤◌}
use Rattle.records.specs.Record.{parts_from}
use Rattle.records.proofs.parts_from.Given as goal

abbrev pub invariant-loop : goal.invariant-loop
invariant-loop l = (l.at ≡ parts_from l.s l.counter) × (l.at ≤ 2 + l.counter * 65537)
