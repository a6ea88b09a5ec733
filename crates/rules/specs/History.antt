-- What 01 says of a list of calls: from the model and the calls' arguments alone, what each step answers and what a cycle reads and tells of the past.
-- Lists of calls and of steps have the latest first.
-- No state is kept and the state machine (Card) is not imported: the past is asked by the quantifiers of Quant. Assumes nothing.
use Rattle.std.specs.Prelude.{ℕ, ◌+◌, ◌%◌, Bool, true, false, cond, not, ◌&&◌, ◌||◌, List, [], ◌∷◌, length, take, drop, replicate, ltb, eqb, ℤ, pos, ◌+ℤ◌}
use Rattle.std.proofs.Math.Option.{Option, none, some}
use Rattle.rules.specs.declared.MachinePosition.{MachinePosition}
use Rattle.rules.specs.declared.GroupPosition.{GroupPosition}
use Rattle.rules.specs.declared.Model.{Model}
use Rattle.rules.specs.declared.Mode.{Mode}
use Rattle.rules.specs.declared.Mode.TheVariants.{NoMode, Mode0, Mode1, Mode2, Mode3, Mode4, Mode5}
use Rattle.rules.specs.declared.Setup.{Setup}
use Rattle.rules.specs.declared.Group.{Group}
use Rattle.rules.specs.declared.Switch.{Switch}
use Rattle.rules.specs.declared.Switch.TheVariants.{Unprogrammed, Normal, Pulse, Timed}
use Rattle.rules.specs.declared.Programming.{Programming}
use Rattle.rules.specs.declared.Configuration.{Configuration}
use Rattle.rules.specs.declared.Sample.{Sample}
use Rattle.rules.specs.declared.Event.{Event}
use Rattle.rules.specs.declared.FileCycle.TheVariants.{SetupCycle, GroupCycle, LimitCycle}
use Rattle.rules.specs.declared.Outcome.{Outcome}
use Rattle.rules.specs.declared.Outcome.TheVariants.{Idle, Accepted, Refused}
use Rattle.rules.specs.declared.Conditions.{Conditions}
use Rattle.rules.specs.declared.OutputWords.{OutputWords}
use Rattle.rules.specs.declared.Answer.{Answer}
use Rattle.rules.specs.Words.{table}
use Rattle.rules.specs.Variants.{group_mode, limit_switch}
use Rattle.rules.specs.Counts.{ahead}
use Rattle.rules.specs.Motion.{scale_factor, turned, machine_at, movement, window_steps, short_steps, tenths_of, biased_c, conditions, fault_conditions}
use Rattle.rules.specs.Groups.{group_at, dwell_holds, group_position, presets, edge, stops, running, group_event, of_group, no_position}
use Rattle.rules.specs.Switches.{timed_steps, limit_of, owner_of, timed_holds, rule_at, pair_tests, output_words, answer_of}
use Rattle.rules.specs.Cycle.{number_of, outcome_number, is_accepted}
use Rattle.rules.specs.FileCycle.{file_cycle}
use Rattle.rules.specs.Nudge.{nudge_cycle}
use Rattle.rules.specs.Calls.{Call, Step, FileCall, NudgeCall, ByteCall, fresh_configuration, sound, configuration_after}
use Rattle.rules.specs.Quant.{exists, after_each, no_later, latest_saw, held_under}

-- ---- The programming, the fault and the starts

-- "From the module number and the calls' arguments alone, 01's rules say which cycles are accepted and which steps are answered 11, hence the programming, the fault and the starts."
unfoldable pub configuration_of : Model → List Call → Configuration
configuration_of model [] = fresh_configuration model
configuration_of model (call ∷ l) = configuration_after (configuration_of model l) call

abbrev pub programming_of : Model → List Call → Programming
programming_of model l = (configuration_of model l).programming

abbrev pub setup_in_force : Model → List Call → Setup
setup_in_force model l = (programming_of model l).setup

-- "Module start: power-up, an accepted setup cycle, or a step answered 11."
unfoldable pub is_module_start : Configuration → Call → Bool
is_module_start g (Step s) = not (sound g s)
is_module_start g (FileCall SetupCycle file) = is_accepted (file_cycle SetupCycle g file).outcome
is_module_start g (FileCall GroupCycle file) = false
is_module_start g (FileCall LimitCycle file) = false
is_module_start g (NudgeCall w) = false
is_module_start g (ByteCall a) = false

-- "Group start: a module start or an accepted group cycle.", of group n, from 0
unfoldable pub is_group_start : ℕ → Configuration → Call → Bool
is_group_start n g (Step s) = is_module_start g (Step s)
is_group_start n g (FileCall SetupCycle file) = is_module_start g (FileCall SetupCycle file)
is_group_start n g (FileCall GroupCycle file) = is_accepted (file_cycle GroupCycle g file).outcome
is_group_start n g (FileCall LimitCycle file) = false
is_group_start n g (NudgeCall w) = false
is_group_start n g (ByteCall a) = false

-- where the timed switch of output n, from 0, starts: "an accepted limit cycle or group start"
unfoldable pub is_limit_start : ℕ → Configuration → Call → Bool
is_limit_start n g (Step s) = is_group_start n g (Step s)
is_limit_start n g (FileCall SetupCycle file) = is_group_start n g (FileCall SetupCycle file)
is_limit_start n g (FileCall GroupCycle file) = is_group_start n g (FileCall GroupCycle file)
is_limit_start n g (FileCall LimitCycle file) = is_accepted (file_cycle LimitCycle g file).outcome
is_limit_start n g (NudgeCall w) = false
is_limit_start n g (ByteCall a) = false

-- a call's step, if it is one, put before the steps that came earlier
abbrev pub with_step : {A : Type 0} → Call → (Sample → A) → List A → List A
with_step (Step s) what h = what s ∷ h
with_step (FileCall kind file) what h = h
with_step (NudgeCall w) what h = h
with_step (ByteCall a) what h = h

-- The steps since the last start, each as `what` held at it: `what` gets the calls before the step, and its sample.
unfoldable pub since : {A : Type 0} → (Configuration → Call → Bool) → (List Call → Sample → A) → Model → List Call → List A
since starts what model [] = []
since starts what model (call ∷ l) = cond (starts (configuration_of model l) call) [] (with_step call (what l) (since starts what model l))

-- ---- Speed

-- q of a step
unfoldable pub turned_in : Model → List Call → Sample → ℕ
turned_in model l s = turned (setup_in_force model l).reversed s.raw

-- "Steps count from the module start.": q of each step since then; the same with the step that comes
unfoldable pub since_module_start : Model → List Call → List ℕ
since_module_start model l = since is_module_start (turned_in model) model l

abbrev pub up_to_step : Model → List Call → Sample → List ℕ
up_to_step model l s = turned_in model l s ∷ since_module_start model l

-- "Movement is ((q − last q + 512) mod 1024) − 512, and 0 on the first step after a module start"
unfoldable pub movement_from : List ℕ → ℕ → ℤ
movement_from [] q = pos 0
movement_from (last ∷ qs) q = movement q last

unfoldable pub movements : List ℕ → List ℤ
movements [] = []
movements (q ∷ qs) = movement_from qs q ∷ movements qs

abbrev pub total : List ℤ → ℤ
total [] = pos 0
total (z ∷ h) = z +ℤ total h

-- "At every 120th step, c becomes the sum of the last 120 movements (0 earlier)." So: the sum of the last `size` movements up to the last step whose
-- number is a multiple of `size`. As many steps came after that one as the remainder says.
unfoldable pub window_total : ℕ → List ℤ → ℤ
window_total size h = cond (ltb (length h) size) (pos 0) (total (take size (drop (length h % size) h)))

unfoldable pub c_of : List ℕ → ℤ
c_of qs = window_total short_steps (movements qs)

-- "At every 600th (TResp 1) or 2520th step, C is the sum over that window", and the speed that of C ("0 earlier")
unfoldable pub big_c_of : Bool → List ℕ → ℤ
big_c_of fast qs = window_total (window_steps fast) (movements qs)

unfoldable pub tenths_at : Bool → List ℕ → ℕ
tenths_at fast qs = tenths_of fast (big_c_of fast qs)

-- the sum of the movements since the window's beginning, that is after the last step whose number is a multiple of `size`
unfoldable pub running_total : ℕ → List ℤ → ℤ
running_total size h = total (take (length h % size) h)

-- the step is one in which the speed is updated
unfoldable pub update_at : Bool → List ℕ → Bool
update_at fast qs = eqb (length qs % window_steps fast) 0

unfoldable pub tenths_in : Model → List Call → Sample → ℕ
tenths_in model l s = tenths_at (setup_in_force model l).fast (up_to_step model l s)

-- what the groups and outputs read of a step not answered 11
unfoldable pub conditions_in : Model → List Call → Sample → Conditions
conditions_in model l s =
    conditions (configuration_of model l) s (biased_c (c_of (up_to_step model l s))) (tenths_in model l s) (update_at (setup_in_force model l).fast (up_to_step model l s))

-- ---- A group's past

-- A step of a group: the scale factor and the group's program in force at it (the preset is the program's offset), and what the group met in it.
pub record GroupStep : Type 0 where
  pub sf : ℕ
  pub program : Group
  pub event : Event

-- A past step of a group, with what 01 says of it: a dwell began in it, an edge was taken in it.
pub record PastStep : Type 0 where
  pub sf : ℕ
  pub program : Group
  pub event : Event
  pub begins : Bool
  pub takes : Bool

-- of a moment, what its step is
unfoldable pub begins_at : List PastStep → Bool
begins_at [] = false
begins_at (s ∷ h) = s.begins

unfoldable pub takes_at : List PastStep → Bool
takes_at [] = false
takes_at (s ∷ h) = s.takes

-- "before a group start's first step .. every group and First Cycle input was inactive"
unfoldable pub level_at : List PastStep → Bool
level_at [] = false
level_at (s ∷ h) = s.event.level

unfoldable pub first_at : List PastStep → Bool
first_at [] = false
first_at (s ∷ h) = s.event.first

-- an edge of the group's input, of its First Cycle Input
unfoldable pub edge_at : List PastStep → Bool
edge_at [] = false
edge_at (s ∷ h) = edge (level_at h) s.event.level

unfoldable pub first_edge_at : List PastStep → Bool
first_edge_at [] = false
first_edge_at (s ∷ h) = edge (first_at h) s.event.first

-- 02: "A stop is now an update of 0 tenths"
unfoldable pub stop_at : List PastStep → Bool
stop_at [] = false
stop_at (s ∷ h) = stops s.event

unfoldable pub running_at : List PastStep → Bool
running_at [] = false
running_at (s ∷ h) = running s.event

-- the last step in which an edge was taken
unfoldable pub last_taken : List PastStep → Option PastStep
last_taken [] = none
last_taken (s ∷ h) = cond s.takes (some s) (last_taken h)

-- Modes 1, 2: "Taking sets the position to the preset in force at that step (travel is the change of Machine Position from there)". So: the preset in
-- force at the last edge taken plus the travel from there, modulo SF; with no such edge the machine's.
unfoldable pub preset_position : ℕ → Option PastStep → MachinePosition → GroupPosition
preset_position sf none machine = record { 0 = machine.0 }
preset_position sf (some taken) machine = record { 0 = (taken.program.offset + ahead sf taken.event.machine.0 machine.0) % sf }

-- "Modes 0, 3, 4, 5: Group Position = (Machine Position + group offset) mod SF."
unfoldable pub position_from : ℕ → Group → Option PastStep → MachinePosition → GroupPosition
position_from sf g taken machine = cond (presets (group_mode g)) (preset_position sf taken machine) (group_position sf g.offset machine)

-- Group Position at the end of a moment's step
unfoldable pub position_at : List PastStep → GroupPosition
position_at [] = record { 0 = 0 }
position_at (s ∷ h) = position_from s.sf s.program (last_taken (s ∷ h)) s.event.machine

-- the dwell holds at the end of a moment's step; "before a group start's first step it did not hold"
unfoldable pub dwell_at : List PastStep → Bool
dwell_at [] = false
dwell_at (s ∷ h) = dwell_holds s.sf s.program.dwell (position_at (s ∷ h))

-- "It begins at a step where it holds and did not at the end of the previous step, judged before any edge is taken"
unfoldable pub begins : GroupStep → List PastStep → Bool
begins s h =
    dwell_holds s.sf s.program.dwell (position_from s.sf s.program (last_taken h) s.event.machine) && not (dwell_at h)

-- "An edge is taken if no edge was taken since group start, or a dwell has begun since the last taken one, this step included."
unfoldable pub takes : GroupStep → List PastStep → Bool
takes s h =
    presets (group_mode s.program)
    && edge (level_at h) s.event.level
    && (not (exists takes_at h) || begins s h || after_each begins_at takes_at h)

-- the steps of a group since its start as its past
unfoldable pub past_of : List GroupStep → List PastStep
past_of [] = []
past_of (s ∷ h) = record {
  sf = s.sf;
  program = s.program;
  event = s.event;
  begins = begins s (past_of h);
  takes = takes s (past_of h);
} ∷ past_of h

-- "A dwell lasts from its beginning for as long as its pair holds at each step; the latest is the last begun, ended or not.": it saw a step with X
unfoldable pub latest_dwell_saw : (List PastStep → Bool) → List PastStep → Bool
latest_dwell_saw X h = latest_saw begins_at dwell_at X h

-- "A qualifying step (in the dwell, input active, ..)"; 02: "Mode 5 qualifies on tenths that aren't 0, and its history follows."
unfoldable pub qualifies_at : List PastStep → Bool
qualifies_at h = dwell_at h && running_at h

-- "An edge of the First Cycle Input .. if a qualifying step came since the dwell began; only such an edge counts." 02: "in a step that holds both a stop and a First Cycle
-- edge, the stop is taken first and the edge then counts if a qualifying step came since the dwell began", and "an edge in the stop step comes after that stop".
unfoldable pub counts_at : List PastStep → Bool
counts_at h = first_edge_at h && latest_dwell_saw qualifies_at h

-- Modes 0, 1: always open. Mode 3: its input is active.
-- Mode 2: an edge was taken, and no dwell began in a later step.
-- Mode 4: an edge of its input fell in its latest dwell.
-- Mode 5: its latest dwell saw a qualifying step, and no stop came in a later step than the last qualifying step or counted First Cycle edge, whichever of the two is later.
unfoldable pub open_at : Mode → List PastStep → Bool
open_at NoMode h = false
open_at Mode0 h = true
open_at Mode1 h = true
open_at Mode2 h = no_later takes_at begins_at h
open_at Mode3 h = level_at h
open_at Mode4 h = latest_dwell_saw edge_at h
open_at Mode5 h = latest_dwell_saw qualifies_at h && no_later (λ j. qualifies_at j || counts_at j) stop_at h

-- ---- The groups of the card

unfoldable pub group_step_in : Model → ℕ → List Call → Sample → GroupStep
group_step_in model n l s = record {
  sf = scale_factor (setup_in_force model l);
  program = group_at (programming_of model l) n;
  event = group_event (conditions_in model l s) (group_at (programming_of model l) n) n;
}

unfoldable pub since_group_start : Model → List Call → ℕ → List GroupStep
since_group_start model l n = since (is_group_start n) (group_step_in model n) model l

-- group n's past with the step that comes
unfoldable pub group_past : Model → List Call → Sample → ℕ → List PastStep
group_past model l s n = past_of (group_step_in model n l s ∷ since_group_start model l n)

-- its position, "0 for a group unused", and whether it is open; the same of the six groups
unfoldable pub position_in : Model → List Call → Sample → ℕ → GroupPosition
position_in model l s n = cond (group_at (programming_of model l) n).used (position_at (group_past model l s n)) no_position

unfoldable pub open_in : Model → List Call → Sample → ℕ → Bool
open_in model l s n = open_at (group_mode (group_at (programming_of model l) n)) (group_past model l s n)

unfoldable pub positions_in : Model → List Call → Sample → List GroupPosition
positions_in model l s = table 6 0 (position_in model l s)

unfoldable pub openness_in : Model → List Call → Sample → List Bool
openness_in model l s = table 6 0 (open_in model l s)

-- ---- Timed switches

-- the pair of output n, from 0, if it is timed
unfoldable pub pair_in : Model → ℕ → List Call → Sample → Bool
pair_in model n l s =
    timed_holds (conditions_in model l s) (limit_of (programming_of model l) n) (of_group no_position (positions_in model l s) (owner_of (programming_of model l) n))

unfoldable pub since_limit_start : Model → List Call → ℕ → List Bool
since_limit_start model l n = since (is_limit_start n) (pair_in model n) model l

-- at a moment's step the pair held; "Before the first step after an accepted limit cycle or group start it did not hold."
unfoldable pub held_at : List Bool → Bool
held_at [] = false
held_at (b ∷ h) = b

-- "its pair holds and fewer than 5 × T steps have passed since it began to hold"
unfoldable pub lasts : Switch → List Bool → Bool
lasts Unprogrammed h = false
lasts Normal h = false
lasts (Pulse q k) h = false
lasts (Timed t) h = held_under (timed_steps t) held_at h

unfoldable pub lasts_in : Model → List Call → Sample → ℕ → Bool
lasts_in model l s n = lasts (limit_switch (limit_of (programming_of model l) n)) (pair_in model n l s ∷ since_limit_start model l n)

-- ---- The answer

-- of output n, from 0: "else no fault, the switch holds, the group is open, and what is ANDed .. holds"; 11: "unforced outputs off"
unfoldable pub rule_in : Model → List Call → Sample → ℕ → Bool
rule_in model l s n = rule_at (programming_of model l) (conditions_in model l s) (positions_in model l s) (openness_in model l s) (lasts_in model l s) n

-- the words of outputs: "forced off, no; forced on, yes; else .."; "a missing one never"
unfoldable pub outputs_in : Model → List Call → Sample → OutputWords
outputs_in model l s = output_words model s (λ n. sound (configuration_of model l) s && rule_in model l s n)

-- 02: "the number of pair tests in each step's answer"
unfoldable pub tests_in : Model → List Call → Sample → ℕ
tests_in model l s =
    pair_tests model (sound (configuration_of model l) s) (programming_of model l) (conditions_in model l s) (positions_in model l s)

-- "the Machine Position of the last step since power-up not answered 11, else 0"
unfoldable pub last_position : Model → List Call → MachinePosition
last_position model [] = record { 0 = 0 }
last_position model (Step s ∷ l) = cond (sound (configuration_of model l) s) (machine_at (configuration_of model l) s) (last_position model l)
last_position model (FileCall kind file ∷ l) = last_position model l
last_position model (NudgeCall w ∷ l) = last_position model l
last_position model (ByteCall a ∷ l) = last_position model l

-- the virtual outputs of "the previous step (all off before the first since power-up)"
unfoldable pub previous_virtuals : Model → List Call → ℕ
previous_virtuals model [] = 0
previous_virtuals model (Step s ∷ l) = (outputs_in model l s).virtuals
previous_virtuals model (FileCall kind file ∷ l) = previous_virtuals model l
previous_virtuals model (NudgeCall w ∷ l) = previous_virtuals model l
previous_virtuals model (ByteCall a ∷ l) = previous_virtuals model l

-- what a step after the calls `l` answers
unfoldable pub expected_answer : Model → List Call → Sample → Answer
expected_answer model l s =
    answer_of (setup_in_force model l) (not (sound (configuration_of model l) s))
    (cond (sound (configuration_of model l) s) (conditions_in model l s) (fault_conditions (configuration_of model l) s (last_position model l)))
    (previous_virtuals model l)
    (outputs_in model l s)
    (tests_in model l s)

-- what the steps of a list of calls in the order of time answer; `past` are the calls before it, the latest first
unfoldable pub expected_answers : Model → List Call → List Call → List Answer
expected_answers model past [] = []
expected_answers model past (Step s ∷ calls) = expected_answer model past s ∷ expected_answers model (Step s ∷ past) calls
expected_answers model past (FileCall kind file ∷ calls) = expected_answers model (FileCall kind file ∷ past) calls
expected_answers model past (NudgeCall w ∷ calls) = expected_answers model (NudgeCall w ∷ past) calls
expected_answers model past (ByteCall a ∷ calls) = expected_answers model (ByteCall a ∷ past) calls

-- ---- What a cycle reads and tells of the past

-- "the raw of the last step since power-up that was not answered 11 (0 if none)"
unfoldable pub last_raw : Model → List Call → ℕ
last_raw model [] = 0
last_raw model (Step s ∷ l) = cond (sound (configuration_of model l) s) s.raw (last_raw model l)
last_raw model (FileCall kind file ∷ l) = last_raw model l
last_raw model (NudgeCall w ∷ l) = last_raw model l
last_raw model (ByteCall a ∷ l) = last_raw model l

-- "Words 112 to 117 are the Group Positions that the last step left under its own programming; 0 for a group unused then, or with no step since the module start."
unfoldable pub left_positions : Model → List Call → List GroupPosition
left_positions model [] = replicate 6 no_position
left_positions model (Step s ∷ l) = cond (sound (configuration_of model l) s) (positions_in model l s) (replicate 6 no_position)
left_positions model (FileCall kind file ∷ l) =
    cond (is_module_start (configuration_of model l) (FileCall kind file)) (replicate 6 no_position) (left_positions model l)
left_positions model (NudgeCall w ∷ l) = left_positions model l
left_positions model (ByteCall a ∷ l) = left_positions model l

-- the outcome of a cycle that acted: not Idle, 1 or 2
unfoldable pub acted : Outcome → Bool
acted Idle = false
acted Accepted = true
acted (Refused why) = ltb 2 (number_of why)

-- 5 "Sets MsgIgn": MsgIgn after a cycle with this outcome, where it was `before`; a cycle that did not act leaves it
unfoldable pub ignored_after : Outcome → Bool → Bool
ignored_after outcome before = cond (acted outcome) (eqb (outcome_number outcome) 5) before

-- MsgIgn: the last acting cycle was answered 5
unfoldable pub message_ignored : Model → List Call → Bool
message_ignored model [] = false
message_ignored model (Step s ∷ l) = message_ignored model l
message_ignored model (FileCall kind file ∷ l) = ignored_after (file_cycle kind (configuration_of model l) file).outcome (message_ignored model l)
message_ignored model (NudgeCall w ∷ l) = ignored_after (nudge_cycle (configuration_of model l) w).outcome (message_ignored model l)
message_ignored model (ByteCall a ∷ l) = message_ignored model l
