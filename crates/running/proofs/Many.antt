-- Laws of many ticks: "Many ticks equal that many single ticks".
-- Assumes nothing.
use mathlib.Core.Path.{◌≡◌, refl}
use Prim.Native.Nat.{ℕ, zero, suc, ◌+◌}
use native.Mathlib.Nat.{zero-add}
use native.Mathlib.Omega.{arith}
use Rattle.columns.specs.Column.{Bytes}
use Rattle.updates.specs.Tick.{tick, ticks}

module _ (p t : Bytes) where
  pub ticks_none : (st : Bytes) → ticks 0 p t st ≡ st
  unfolding ticks
  ticks_none st = refl

  -- the ticks of one call may be asked in two: those of the second start where those of the first end
  pub ticks_add : (m n : ℕ) (st : Bytes) → ticks (m + n) p t st ≡ ticks n p t (ticks m p t st)
  unfolding ticks
  ticks_add zero n st = rw (zero-add n)
  ticks_add (suc m) n st = let e : suc m + n ≡ suc (m + n) = omega arith in rw e (ticks_add m n (tick p t st))

  -- one tick more, as a loop counts
  pub ticks_next : (n : ℕ) (st : Bytes) → ticks (n + 1) p t st ≡ tick p t (ticks n p t st)
  unfolding ticks
  ticks_next n st = ticks_add n 1 st
