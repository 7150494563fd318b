-- The six tests of a valid row, one by one and together.
-- Assumes nothing.
use mathlib.Core.Path.{◌≡◌}
use mathlib.Core.Bool.{true}
use Prim.Native.Nat.{ℕ}
use Rattle.columns.specs.Column.{Bytes}
use Rattle.columns.proofs.Truth.{and_true}
use Rattle.world.specs.Rows.{kind_of}
use Rattle.emitted.specs.Emitted.{good_device}
use Rattle.states.specs.Row.{device_of, good_queue, good_light, good_torch, good_had_power, good_rest, good_state}

pub record Parts (t : Bytes) (i : ℕ) (r : Bytes) : Type 0 where
  pub device : good_device (kind_of t i) (device_of r) ≡ true
  pub queue : good_queue t i r ≡ true
  pub light : good_light t i r ≡ true
  pub torch : good_torch t i r ≡ true
  pub had_power : good_had_power t i r ≡ true
  pub rest : good_rest r ≡ true

pub parts : (t : Bytes) (i : ℕ) (r : Bytes) → good_state t i r ≡ true → Parts t i r
unfolding good_state
parts t i r h =
    let (a, h1) = and_true (good_device (kind_of t i) (device_of r)) _ h in
    let (b, h2) = and_true (good_queue t i r) _ h1 in
    let (c, h3) = and_true (good_light t i r) _ h2 in
    let (d, h4) = and_true (good_torch t i r) _ h3 in
    let (e, f) = and_true (good_had_power t i r) _ h4 in
    record { device = a; queue = b; light = c; torch = d; had_power = e; rest = f }

pub whole : (t : Bytes) (i : ℕ) (r : Bytes) → Parts t i r → good_state t i r ≡ true
unfolding good_state
whole t i r p = rw (p.device, p.queue, p.light, p.torch, p.had_power, p.rest)
