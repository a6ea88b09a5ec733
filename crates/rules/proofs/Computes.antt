-- What a computation opens: the definitions of the rules by their files, so that a proof by `refl` names them at once. Assumes nothing.
use mathlib.Core.Bool.{xor}
use Rattle.rules.specs.Words
use Rattle.rules.specs.Variants
use Rattle.rules.specs.Counts
use Rattle.rules.specs.Motion
use Rattle.rules.specs.Groups
use Rattle.rules.specs.Switches
use Rattle.rules.specs.Cycle
use Rattle.rules.specs.SetupWords
use Rattle.rules.specs.GroupWords
use Rattle.rules.specs.LimitWords
use Rattle.rules.specs.FileCycle
use Rattle.rules.specs.Nudge
use Rattle.rules.specs.Reader
use Rattle.rules.specs.Bus
use Rattle.rules.specs.Calls
use Rattle.rules.specs.Card
use Rattle.rules.specs.Quant
use Rattle.rules.specs.History
use Rattle.rules.specs.BusHistory
use Rattle.rules.specs.Run
use Rattle.rules.specs.Trace
use Rattle.rules.specs.Reports

words : Unit {0}
unfolding Words.bit Words.packed Words.bytes_of Words.some_of Words.each_of Words.count_of Words.count_up_to Words.lowest_of Words.table Words.stored_at Words.other_bit Words.any_word Words.modulo Words.round_half_up Words.signed_word Words.differing xor
words = tt

variants : Unit {0}
unfolding Variants.model_known Variants.model_of Variants.model_number Variants.real_count Variants.virtual_count Variants.io_count Variants.code_of Variants.mode_of Variants.switch_of Variants.anded_of
variants = tt

motion : Unit {0}
unfolding Motion.real_input Motion.turned Motion.scaled_position Motion.machine_position Motion.machine_at Motion.movement Motion.window_steps Motion.window_time Motion.tenths_of Motion.is_stop Motion.tach_value Motion.tach_shown Motion.tach_overflow Motion.detects Motion.real_inputs Motion.conditions Motion.fault_conditions
motion = tt

groups : Unit {0}
unfolding Counts.ahead Counts.holds Counts.pair_bad Groups.dwell_holds Groups.group_position Groups.preset_shift Groups.presets Groups.group_event Groups.stops Groups.running Groups.is_open
groups = tt

switches1 : Unit {0}
unfolding Switches.advance_shift Switches.moved Switches.pair_length Switches.holds_for Switches.pair_holds Switches.normal_holds Switches.pulse_start Switches.pulse_on Switches.pulse_holds Switches.switch_holds Switches.present Switches.switch_position Switches.admitted Switches.enable_holds Switches.passes Switches.output_rule Switches.rule_at Switches.timed_holds Switches.output_on
switches1 = tt

switches2 : Unit {0}
unfolding Switches.switch_tests Switches.output_tests Switches.tests_at Switches.pair_tests Switches.changed_count Switches.output_words Switches.answer_of
switches2 = tt

cycles1 : Unit {0}
unfolding Cycle.number_of Cycle.stands Cycle.acts Cycle.underway Cycle.idle_cycle Cycle.cycle Cycle.turned_away Cycle.ignored_cycle Cycle.refused_cycle Cycle.accepted_cycle Cycle.judged FileCycle.file_length FileCycle.length_refusal FileCycle.command_at FileCycle.status_at FileCycle.data_refusal FileCycle.barred FileCycle.file_errors
cycles1 = tt

cycles2 : Unit {0}
unfolding FileCycle.failing FileCycle.brought FileCycle.file_acts FileCycle.file_cycle FileCycle.status_words FileCycle.file_after Nudge.nudge_output_bad Nudge.nudged_to Nudge.leaves_range Nudge.result_bad Nudge.nudge_setpoint_bad Nudge.nudged_limit Nudge.nudged_programming Nudge.nudge_acts Nudge.nudge_cycle
cycles2 = tt

setup_words : Unit {0}
unfolding SetupWords.setup_command_bits SetupWords.setup_reserved SetupWords.sf_bad SetupWords.sf_judged SetupWords.detector_bad SetupWords.scalars_bad SetupWords.setup_errors SetupWords.preset_offset SetupWords.setup_of SetupWords.with_setup
setup_words = tt

group_words : Unit {0}
unfolding GroupWords.group_control_bits GroupWords.group_of GroupWords.dealt_up_to GroupWords.dealt_to GroupWords.owners_of GroupWords.group_program_bad GroupWords.group_bits GroupWords.group_command_bits GroupWords.group_reserved GroupWords.failing_group GroupWords.group_errors GroupWords.with_groups
group_words = tt

limit_words1 : Unit {0}
unfolding LimitWords.limit_block LimitWords.all_zero LimitWords.action_of LimitWords.limit_of_block LimitWords.limit_control_bits LimitWords.control_bad LimitWords.advance_bad LimitWords.block_pair_bad LimitWords.setpoint_bad LimitWords.pulse_bad LimitWords.length_bad LimitWords.length_bit
limit_words1 = tt

limit_words2 : Unit {0}
unfolding LimitWords.block_bits LimitWords.unread LimitWords.limit_from LimitWords.fifth_timed LimitWords.unassigned LimitWords.limit_bits LimitWords.limit_command_bits LimitWords.limit_reserved LimitWords.failing_limit LimitWords.limit_errors LimitWords.with_limits
limit_words2 = tt

calls : Unit {0}
unfolding Calls.default_setup Calls.fresh_configuration Calls.sound Calls.step_configuration Calls.configuration_after
calls = tt

quantifiers : Unit {0}
unfolding Quant.after_each Quant.no_later Quant.latest_saw Quant.held_under
quantifiers = tt

past1 : Unit {0}
unfolding History.configuration_of History.is_module_start History.is_group_start History.is_limit_start History.since History.turned_in History.since_module_start History.movement_from History.movements History.window_total History.c_of History.big_c_of History.tenths_at History.update_at History.tenths_in History.conditions_in History.begins_at History.takes_at History.level_at
past1 = tt

past2 : Unit {0}
unfolding History.first_at History.edge_at History.first_edge_at History.stop_at History.running_at History.last_taken History.preset_position History.position_from History.position_at History.dwell_at History.begins History.takes History.past_of History.latest_dwell_saw History.qualifies_at History.counts_at History.open_at History.group_step_in
past2 = tt

past3 : Unit {0}
unfolding History.since_group_start History.group_past History.position_in History.open_in History.positions_in History.openness_in History.pair_in History.since_limit_start History.held_at History.lasts History.lasts_in History.rule_in History.outputs_in History.tests_in History.last_position History.previous_virtuals History.expected_answer History.expected_answers
past3 = tt

bus : Unit {0}
unfolding Bus.shown_by Bus.status_bits Bus.input_table Bus.table_byte Bus.requested Bus.line_of Bus.byte_at Bus.byte_read Bus.stored Bus.bus_write
bus = tt

reader : Unit {0}
unfolding Reader.reader_refusal Reader.reader_part
reader = tt

past4 : Unit {0}
unfolding BusHistory.last_shown BusHistory.shown_configuration BusHistory.byte_told BusHistory.counted_at BusHistory.write_at BusHistory.request_told BusHistory.mask_told BusHistory.line_told BusHistory.bus_told BusHistory.kept_told BusHistory.expected_reply BusHistory.expected_replies
past4 = tt

card1 : Unit {0}
unfolding Card.biased_movement Card.updates Card.window_sum Card.window_after Card.c_after Card.tenths_after Card.speed_after Card.position_by Card.begins_now Card.takes_now Card.shift_now Card.position_now Card.held_now Card.qualified_now Card.opened_now Card.group_after Card.speed_now Card.conditions_now Card.group_now
card1 = tt

card2 : Unit {0}
unfolding Card.left_position Card.open_now Card.groups_now Card.positions_now Card.openness_now Card.timed_after Card.timed_now Card.timed_of Card.rule_now Card.outputs_now Card.tests_now Card.module_start Card.group_start Card.limit_start Card.start_of Card.since_after Card.fresh_module Card.powered_up Card.file_call Card.file_left Card.nudge_call
card2 = tt

card3 : Unit {0}
unfolding Card.since_now Card.step_answer Card.kept_after Card.step_state Card.step_call Card.read_call Card.write_call Card.line_level
card3 = tt

running : Unit {0}
unfolding Run.accessed Run.module_after Run.run Run.answers Run.reply Run.replies
running = tt

tracing : Unit {0}
unfolding Trace.decimal_digits Trace.decimal Trace.hex_digit Trace.hexadecimal Trace.sample_line Trace.refused_line Trace.bad_line Trace.word_at Trace.whole Trace.section_count Trace.sent Trace.cycle_section Trace.sample_at Trace.samples Trace.sample_section Trace.cycle_sections Trace.powered_sections Trace.report
tracing = tt

reporting : Unit {0}
unfolding Reports.sent_calls Reports.sample_calls Reports.samples_called Reports.cycle_called Reports.calls_of Reports.samples_whole Reports.cycle_whole Reports.trace_whole Reports.refusals Reports.sample_lines Reports.through Reports.sample_words Reports.trace_of
reporting = tt

-- the rules that know no past; with the state machine; with the history; with a trace
unfoldable pub rules : Unit {0}
unfolding words variants motion groups switches1 switches2 cycles1 cycles2 setup_words group_words limit_words1 limit_words2 calls reader bus
rules = tt

unfoldable pub machine : Unit {0}
unfolding rules card1 card2 card3 running
machine = tt

unfoldable pub history : Unit {0}
unfolding rules quantifiers past1 past2 past3 past4
history = tt

unfoldable pub trace : Unit {0}
unfolding machine tracing reporting
trace = tt
