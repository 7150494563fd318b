-- `keys::search::any_within` meets its contract. The loop's invariant: `any` is whether any row passed has such a key. Assumes nothing.
use mathlib.Core.Path.{◌≡◌}
use Prim.Native.Nat.{◌≤◌}
use Rattle.keys.specs.Search.{any_within}
use Rattle.keys.proofs.search.any_within.Given as goal

abbrev pub invariant-loop-i : goal.invariant-loop-i
invariant-loop-i l = (l.from ≤ l.i) × (l.i ≤ l.to) × (l.any ≡ any_within l.keys l.low l.high l.from l.i)
