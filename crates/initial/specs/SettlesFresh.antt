-- What a table settles to with its fresh devices, in columns of 1,024 entries.
-- Assumes nothing.
use Rattle.std.specs.Prelude.{◌≡◌, replicate}
use Rattle.columns.specs.Column.{Bytes, Column, at_front}
use Rattle.refusals.specs.Check.{Checked, check_input, answer_of, written}
use Rattle.electrical.specs.Answer.{rounds_of, settled}
use Rattle.updates.specs.State.{fresh_devices}
use Rattle.initial.specs.declared.Initial.{Initial}

abbrev pub zeros : Column
zeros = replicate 1024 0

-- the settled numbers and then zeros, or zeros alone where the table is refused
abbrev pub column_of : Checked → Column → Column
column_of c numbers = written c zeros (at_front numbers zeros)

-- The rounds, or the refusal; and every entry of the three columns.
pub record SettlesFresh (p t : Bytes) (r : Initial) : Type 0 where
  pub answer : r.answer ≡ answer_of (check_input p t) (rounds_of p t (fresh_devices t))
  pub signals : r.signal ≡ column_of (check_input p t) (settled p t (fresh_devices t)).signal
  pub weaks : r.weak ≡ column_of (check_input p t) (settled p t (fresh_devices t)).weak
  pub strongs : r.strong ≡ column_of (check_input p t) (settled p t (fresh_devices t)).strong
