-- What a call answered and wrote agrees with a record just where its definition does.
-- Assumes nothing.
use mathlib.Core.Path.{◌≡◌}
use mathlib.Core.Bool.{◌&&◌}
use Prim.Native.Nat.{ℕ}
use lib.Dec.{eqb}
use Rattle.columns.specs.Column.{Bytes, Column, same}
use Rattle.electrical.specs.Answer.{Settles}
use Rattle.updates.specs.Calls.{Fresh, Ticks, Switches}
use Rattle.records.specs.Record.{pos_at, after, slice_of, number, columns_agree}
use Rattle.calls.specs.Calls.{settle_in, fresh_in, ticks_in, switch_in}

module _ (r : Bytes) {signal weak strong signal' weak' strong' : Column} {n : ℕ} where
  pub settle_agrees : Settles (slice_of r 0) (slice_of r 1) (slice_of r 2) (number r 6 0) signal weak strong signal' weak' strong' n
      → (eqb n (number r 6 4) && columns_agree r 3 4 5 signal' weak' strong') ≡ settle_in r signal weak strong
  unfolding settle_in
  settle_agrees h = rw (h.answer, h.columns.signals, h.columns.weaks, h.columns.strongs)

  pub fresh_agrees : {st st' : Bytes} → Fresh (slice_of r 0) (slice_of r 1) st st' signal weak strong signal' weak' strong' n
      → (eqb n (number r 6 0) && (same st' (slice_of r 2) && columns_agree r 3 4 5 signal' weak' strong')) ≡ fresh_in r st signal weak strong
  unfolding fresh_in
  fresh_agrees h = rw (h.answer, h.state, h.columns.signals, h.columns.weaks, h.columns.strongs)

  pub ticks_agree : {st st' : Bytes} → Ticks (slice_of r 0) (slice_of r 1) st st' (number r 7 0) (number r 7 4) signal weak strong signal' weak' strong' n
      → (eqb n (number r 7 8) && (same st' (slice_of r 3) && columns_agree r 4 5 6 signal' weak' strong')) ≡ ticks_in r st signal weak strong
  unfolding ticks_in
  ticks_agree h = rw (h.answer, h.state, h.columns.signals, h.columns.weaks, h.columns.strongs)

  pub switch_agrees : {t t' st' : Bytes} → Switches (slice_of r 0) t t' (slice_of r 3) st' (pos_at (after r 7) 0) (number r 7 12) signal weak strong signal' weak' strong' n
      → (eqb n (number r 7 16) && (same t' (slice_of r 2) && columns_agree r 4 5 6 signal' weak' strong')) ≡ switch_in r t signal weak strong
  unfolding switch_in
  switch_agrees h = rw (h.answer, h.table, h.columns.signals, h.columns.weaks, h.columns.strongs)
