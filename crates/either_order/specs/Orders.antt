-- A redraw and a switch of one table, one call after the other, in either order.
-- Assumes nothing.
use Rattle.std.specs.Prelude.{◌≡◌, ℕ, length}
use Rattle.columns.specs.Column.{Bytes, Column}
use Rattle.places.specs.declared.Pos.{Pos}
use Rattle.redraw.specs.Redraw.{Redraws}
use Rattle.updates.specs.Calls.{Switches}

-- A call of switch on t, with the state st and three columns of these lengths, leaves u and answers r. What is in the columns, before and after, is open.
pub record SwitchesTo (p t st u : Bytes) (q : Pos) (power signalLength weakLength strongLength r : ℕ) : Type 0 where
  pub state' : Bytes
  pub signal : Column
  pub weak : Column
  pub strong : Column
  pub signal' : Column
  pub weak' : Column
  pub strong' : Column
  pub call : Switches p t u st state' q power signal weak strong signal' weak' strong' r
  pub signal_long : length signal ≡ signalLength
  pub weak_long : length weak ≡ weakLength
  pub strong_long : length strong ≡ strongLength

-- "redrawing and then switching" t leaves u; the redraw answers a, and the switch r
pub record RedrawThenSwitch (p t st u : Bytes) (q : Pos) (power signalLength weakLength strongLength a r : ℕ) : Type 0 where
  pub between : Bytes
  pub redraws : Redraws p t between a
  pub switches : SwitchesTo p between st u q power signalLength weakLength strongLength r

-- "Switching a position to a given power and then redrawing" t leaves u; the redraw answers a, and the switch r
pub record SwitchThenRedraw (p t st u : Bytes) (q : Pos) (power signalLength weakLength strongLength a r : ℕ) : Type 0 where
  pub between : Bytes
  pub switches : SwitchesTo p t st between q power signalLength weakLength strongLength r
  pub redraws : Redraws p between u a
