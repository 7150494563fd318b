-- The front of a column that is filled with one number.
-- Assumes nothing.
use mathlib.Core.Path.{◌≡◌, sym, ap, ◌∙◌}
use mathlib.Core.List.{◌++◌}
use Prim.Native.Nat.{ℕ, ◌+◌, ◌-◌, ◌≤◌}
use native.Mathlib.Omega.{arith}
use lib.ListN.{take, replicate, length-replicate, replicate-append-replicate}
use lib.Seq.{take_at}

pub front_blank : (n m x : ℕ) → n ≤ m → take n (replicate m x) ≡ replicate n x
front_blank n m x h =
    let whole : n + (m - n) ≡ m = omega arith in
    let split : replicate m x ≡ replicate n x ++ replicate (m - n) x = sym (replicate-append-replicate n (m - n) x ∙ ap (λ k. replicate k x) whole) in
    rw split (take_at (replicate n x) (replicate (m - n) x) n (length-replicate n x))
