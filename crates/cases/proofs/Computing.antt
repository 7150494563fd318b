-- Every definition that a test computes with, named once: a declaration that says `unfolding computing` unfolds them all.
-- Assumes nothing.
use Prim.Native.Nat.{ℕ}
use Rattle.columns.specs.Column.{tabulate_from, concat_rows_from, same}
use Rattle.columns.specs.First.{first_from, indices_from}
use Rattle.network.specs.Computing.{computing as settling}
use Rattle.blocks.specs.Profile.{says}
use Rattle.places.specs.Signed.{signed32, signed8, clamp32, sat_add}
use Rattle.places.specs.Places.{same_pos, before, opposite, step, horizontal_offset, beside, adjacent}
use Rattle.world.specs.Rows.{pos_of, support_of, arm_entry, stored_arm}
use Rattle.world.specs.Find.{first_at_or_past, find, kind_at}
use Rattle.traits.specs.Traits.{plain, of_shape, traits, traits_at}
use Rattle.layout.specs.Good.{good_profile, good_place, good_row}
use Rattle.refusals.specs.Check.{check_rows, check_table, check_input}
use Rattle.supports.specs.Supports.{is_supported, lacks_support, support_issues, check_supports}
use Rattle.moving.specs.Move.{pos_bytes, moved_row, good_offset, on_ground}
use Rattle.unions.specs.Union.{rows_from, joined, insert_row, union_rows, has_clash}
use Rattle.merge.specs.Merge.{merged_rows, merged_table, check_merge}
use Rattle.subtables.specs.Subtable.{table_of}
use Rattle.passes.specs.Passes.{unnamed_from, left}
use Rattle.passes.specs.Search.{first_none}
use Rattle.clearing.specs.Kept.{clearing, passes_of, kept_rows, kept_table, pass_of, pass_column}
use Rattle.clear.specs.Clear.{check_clear}
use Rattle.connectivity.specs.Ports.{ahead, output_of, input_of, across, sides_of}
use Rattle.arms.specs.Arms.{connects, component_connects, joins, rises, drops, infer_past, infer_wire_connection, arm_of, has_arm}
use Rattle.wire.specs.Transfer.{fits_horizontal, fits_rise, fits_fall, fits, rule_along, first_rule, transfer_by, dust_transfer, transmits_by}
use Rattle.redrawing.specs.Drawn.{entry_of, entries_of, with_opposite, drawn, redrawn_row, update_wire_shapes}
use Rattle.emitted.specs.Emitted.{good_device, check_devices, switch_level, emitted_level, emitted}
use Rattle.edges.specs.Edges.{outputs_to, is_support_of, is_next_to_redstone_block, is_over_torch, emitted_to_strong, strong_to_weak, arm_to, along_arm, touches, feeds, dust_to_weak_by, emitted_to_dust_by, strong_to_dust_by, network_of}
use Rattle.electrical.specs.Answer.{rounds_of, settled, check_call, check_settle}
use Rattle.feeding.specs.Feeders.{feeders_of, feeder_entries, feeder_list}
use Rattle.feeding.specs.Replaced.{replaced, is_near, is_renewed, updated_entries, updated_list}
use Rattle.feeders.specs.Feeds.{check_feeders}
use Rattle.replace.specs.Replace.{check_new, check_replace}
use Rattle.states.specs.Row.{delay_of, bits_set, is_candidate, good_queue, good_light, good_torch, good_had_power, good_state}
use Rattle.fresh.specs.Fresh.{fresh_device, fresh_queue, fresh_light, fresh_had_power, fresh_row}
use Rattle.repeater.specs.Step.{repeater_input_level, is_requested, locks_from, is_locked, next_queue, repeater_row}
use Rattle.torch.specs.Step.{torch_support_is_powered, next_toggles, next_candidate, torch_row}
use Rattle.comparator.specs.Step.{compared, next_comparator}
use Rattle.lamp.specs.Step.{next_lit, next_left, lamp_row}
use Rattle.bulb.specs.Step.{next_bulb_light, bulb_row}
use Rattle.devices.specs.Step.{device_row, light_row}
use Rattle.updates.specs.State.{devices_of, check_state, fresh_devices, fresh_state}
use Rattle.updates.specs.Tick.{with_devices, with_lights, settled_of, set_devices, set_lights, tick, ticks}
use Rattle.switching.specs.Switch.{switched}
use Rattle.updates.specs.Calls.{check_fresh, check_step, check_tick}
use Rattle.text.specs.Text.{decimal_within, decimal_of, signed_text, line_of}
use Rattle.lines.specs.Lines.{row_text, settled_text, refusal_text}
use Rattle.report.specs.Text.{check_run, check_whole, run_text, settle_text}
use Rattle.streams.specs.Stream.{read_within, stream_of, as_stream}
use Rattle.figures.specs.Figures.{count_below, sum_of, figures_of}
use Rattle.totals.specs.Month.{month_of}
use Rattle.month_lines.specs.Lines.{numbered_line, numbered_lines, month_text, text_of, output_of as monthOutput}

unfoldable pub computing : ℕ
unfolding tabulate_from concat_rows_from same first_from indices_from settling says signed32 signed8 clamp32 sat_add same_pos before opposite step horizontal_offset beside adjacent pos_of support_of arm_entry stored_arm first_at_or_past find kind_at plain of_shape traits traits_at good_profile good_place good_row check_rows check_table check_input is_supported lacks_support support_issues check_supports pos_bytes moved_row good_offset on_ground rows_from joined insert_row union_rows has_clash merged_rows merged_table check_merge table_of unnamed_from left first_none clearing passes_of kept_rows kept_table pass_of pass_column check_clear ahead output_of input_of across sides_of connects component_connects joins rises drops infer_past infer_wire_connection arm_of has_arm fits_horizontal fits_rise fits_fall fits rule_along first_rule transfer_by dust_transfer transmits_by entry_of entries_of with_opposite drawn redrawn_row update_wire_shapes good_device check_devices switch_level emitted_level emitted outputs_to is_support_of is_next_to_redstone_block is_over_torch emitted_to_strong strong_to_weak arm_to along_arm touches feeds dust_to_weak_by emitted_to_dust_by strong_to_dust_by network_of rounds_of settled check_call check_settle feeders_of feeder_entries feeder_list replaced is_near is_renewed updated_entries updated_list check_feeders check_new check_replace devices_of delay_of bits_set is_candidate good_queue good_light good_torch good_had_power good_state check_state fresh_device fresh_devices fresh_queue fresh_light fresh_had_power fresh_row fresh_state repeater_input_level is_requested locks_from is_locked next_queue repeater_row torch_support_is_powered next_toggles next_candidate torch_row compared next_comparator device_row next_lit next_left lamp_row next_bulb_light bulb_row light_row with_devices with_lights settled_of set_devices set_lights tick ticks check_fresh check_step check_tick switched decimal_within decimal_of signed_text line_of row_text settled_text refusal_text check_run check_whole run_text settle_text read_within stream_of as_stream count_below sum_of figures_of month_of numbered_line numbered_lines month_text text_of monthOutput
computing = 0
