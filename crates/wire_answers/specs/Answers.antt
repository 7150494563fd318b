-- Whether the proved functions of dust answer as the original did, by operation, of the parts of a record: operations 7 to 9.
-- Assumes nothing.
use Rattle.std.specs.Prelude.{Bool, ◌&&◌, ℕ, eqb}
use Rattle.columns.specs.Column.{Bytes, same}
use Rattle.places.specs.declared.Pos.{Pos}
use Rattle.refusals.specs.Check.{check_input, answer_of, written}
use Rattle.arms.specs.Arms.{infer_wire_connection, resolved_wire_connection}
use Rattle.wire.specs.Transfer.{dust_transfer, transfer_number}
use Rattle.redrawing.specs.Drawn.{update_wire_shapes}
use Rattle.probe.specs.Numbers.{known_facing}
use Rattle.records.specs.Record.{is_small}

-- the arm at a position along a facing, as it is inferred and as it is resolved
unfoldable pub arms_agree : Bytes → Bytes → Pos → ℕ → ℕ → ℕ → Bool
arms_agree p t q facing inferred resolved =
    eqb (infer_wire_connection p t q (known_facing facing)) inferred
    && eqb (resolved_wire_connection p t q (known_facing facing)) resolved

-- the transfer between two positions
unfoldable pub transfer_agrees : Bytes → Bytes → Pos → Pos → ℕ → Bool
transfer_agrees p t q sink number = eqb (transfer_number (dust_transfer p t q sink)) number

-- the answer and the table of a call that was lent the table t
unfoldable pub redraw_agrees_in : Bytes → Bytes → Bytes → ℕ → Bool
redraw_agrees_in p t want answer =
    eqb (answer_of (check_input p t) 0) answer && same (written (check_input p t) t (update_wire_shapes p t)) want

unfoldable pub redraw_agrees : Bytes → Bytes → Bytes → ℕ → Bool
redraw_agrees p t want answer = is_small t && redraw_agrees_in p t want answer
