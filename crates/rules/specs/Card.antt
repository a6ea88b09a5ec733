-- The state machine: what each call does to a module, its answer and its file. The contracts of the public calls cite it.
-- Assumes nothing.
use Rattle.std.specs.Prelude.{ℕ, ◌+◌, ◌-◌, ◌%◌, ◌^◌, Bool, true, false, cond, Result, Ok, Err, not, ◌&&◌, ◌||◌, List, get_or, replicate, ltb, leb, pos, ◌+ℤ◌}
use Rattle.std.proofs.Math.IntN.{sub_ℕ}
use Rattle.rules.specs.declared.MachinePosition.{MachinePosition}
use Rattle.rules.specs.declared.GroupPosition.{GroupPosition}
use Rattle.rules.specs.declared.Model.{Model}
use Rattle.rules.specs.declared.Mode.{Mode}
use Rattle.rules.specs.declared.Mode.TheVariants.{NoMode, Mode0, Mode1, Mode2, Mode3, Mode4, Mode5}
use Rattle.rules.specs.declared.Setup.{Setup}
use Rattle.rules.specs.declared.Group.{Group}
use Rattle.rules.specs.declared.Switch.{Switch}
use Rattle.rules.specs.declared.Switch.TheVariants.{Unprogrammed, Normal, Pulse, Timed}
use Rattle.rules.specs.declared.Limit.{Limit}
use Rattle.rules.specs.declared.Programming.{Programming}
use Rattle.rules.specs.declared.Configuration.{Configuration}
use Rattle.rules.specs.declared.Last.{Last}
use Rattle.rules.specs.declared.Window.{Window}
use Rattle.rules.specs.declared.Speed.{Speed}
use Rattle.rules.specs.declared.GroupState.{GroupState}
use Rattle.rules.specs.declared.TimedState.{TimedState}
use Rattle.rules.specs.declared.SinceStart.{SinceStart}
use Rattle.rules.specs.declared.Bus.{Bus}
use Rattle.rules.specs.declared.Kept.{Kept}
use Rattle.rules.specs.declared.State.{State}
use Rattle.rules.specs.declared.Module.{Module}
use Rattle.rules.specs.declared.Sample.{Sample}
use Rattle.rules.specs.declared.Conditions.{Conditions}
use Rattle.rules.specs.declared.Event.{Event}
use Rattle.rules.specs.declared.FileCycle.{FileCycle}
use Rattle.rules.specs.declared.FileCycle.TheVariants.{SetupCycle, GroupCycle, LimitCycle}
use Rattle.rules.specs.declared.Refusal.{Refusal}
use Rattle.rules.specs.declared.Refusal.TheVariants.{UnknownModule}
use Rattle.rules.specs.declared.Outcome.TheVariants.{Accepted, Refused}
use Rattle.rules.specs.declared.Decision.{Decision}
use Rattle.rules.specs.declared.CycleResult.{CycleResult}
use Rattle.rules.specs.declared.OutputWords.{OutputWords}
use Rattle.rules.specs.declared.Answer.{Answer}
use Rattle.rules.specs.declared.StepResult.{StepResult}
use Rattle.rules.specs.Words.{table, modulo}
use Rattle.rules.specs.Variants.{model_known, model_of, model_in, group_mode, limit_switch}
use Rattle.rules.specs.Motion.{turned, window_steps, short_steps, tenths_of, unbiased, biased_c, conditions, fault_conditions, real_inputs, scale}
use Rattle.rules.specs.Groups.{no_group, dwell_holds, group_position, preset_shift, presets, edge, stops, running, is_open, group_event, of_group, no_position}
use Rattle.rules.specs.Switches.{timed_steps, limit_of, owner_of, rule_at, timed_holds, pair_tests, output_words, answer_of}
use Rattle.rules.specs.Cycle.{outcome_of, is_accepted}
use Rattle.rules.specs.FileCycle.{file_cycle, file_after}
use Rattle.rules.specs.Nudge.{nudge_cycle}
use Rattle.rules.specs.Bus.{shown_by, nothing_shown, requested, fresh_bus, line_of, byte_read, bus_write, bus_left}
use Rattle.rules.specs.Calls.{fresh_configuration, sound, step_configuration}

-- ---- Speed

-- a step's movement with 512 added, "and 0 on the first step after a module start"
unfoldable pub biased_movement : Last → ℕ → ℕ
biased_movement last q = cond last.stepped (modulo (sub_ℕ q last.at +ℤ pos 512) 1024) 512

-- the step that comes is the window's last
unfoldable pub updates : ℕ → Window → Bool
updates size w = leb (size - 1) w.steps

-- The sum with one movement more. It is kept in 32 bits; no list of calls from power-up makes it run over.
unfoldable pub window_sum : Window → ℕ → ℕ
window_sum w moved = (w.sum + moved) % 2 ^ 32

unfoldable pub window_after : ℕ → Window → ℕ → Window
window_after size w moved = cond (updates size w) (record { steps = 0; sum = 0 }) (record { steps = w.steps + 1; sum = window_sum w moved })

-- c as it is held after a step with the biased movement `moved`, where the windows are as before it
unfoldable pub c_after : Speed → ℕ → ℕ
c_after x moved = cond (updates short_steps x.short) (window_sum x.short moved) x.c

-- The tenths after it. They are kept in 32 bits; no C of a list of calls from power-up makes them run over.
unfoldable pub tenths_after : Bool → Speed → ℕ → ℕ
tenths_after fast x moved =
    cond (updates (window_steps fast) x.long)
    (tenths_of fast (unbiased (window_steps fast) (window_sum x.long moved)) % 2 ^ 32)
    x.tenths

unfoldable pub speed_after : Setup → Speed → ℕ → Speed
speed_after u x q = record {
  last = record { stepped = true; at = q };
  short = window_after short_steps x.short (biased_movement x.last q);
  long = window_after (window_steps u.fast) x.long (biased_movement x.last q);
  c = c_after x (biased_movement x.last q);
  tenths = tenths_after u.fast x (biased_movement x.last q);
}

-- ---- A group's step

-- Group Position where the shift is `shift`
unfoldable pub position_by : ℕ → Group → ℕ → MachinePosition → GroupPosition
position_by sf g shift machine = group_position sf (cond (presets (group_mode g)) shift g.offset) machine

-- the dwell "begins at a step where it holds and did not at the end of the previous step, judged before any edge is taken"
unfoldable pub begins_now : ℕ → Group → GroupState → Event → Bool
begins_now sf g x e = dwell_holds sf g.dwell (position_by sf g x.shift e.machine) && not x.held

-- "An edge is taken if no edge was taken since group start, or a dwell has begun since the last taken one, this step included."
unfoldable pub takes_now : ℕ → Group → GroupState → Event → Bool
takes_now sf g x e = presets (group_mode g) && edge x.level e.level && (not x.taken || begins_now sf g x e || x.begun)

-- "Taking sets the position to the preset in force at that step"
unfoldable pub shift_now : ℕ → Group → GroupState → Event → ℕ
shift_now sf g x e = cond (takes_now sf g x e) (preset_shift sf g.offset e.machine) x.shift

unfoldable pub position_now : ℕ → Group → GroupState → Event → GroupPosition
position_now sf g x e = position_by sf g (shift_now sf g x e) e.machine

-- "dwell is then judged anew for the step's end"
unfoldable pub held_now : ℕ → Group → GroupState → Event → Bool
held_now sf g x e = dwell_holds sf g.dwell (position_now sf g x e)

-- "a dwell's beginning closes and forgets. A qualifying step .. opens."
unfoldable pub qualified_now : ℕ → Group → GroupState → Event → Bool
qualified_now sf g x e = (held_now sf g x e && running e) || (not (begins_now sf g x e) && x.qualified)

-- Mode 2: "opened by a taken edge, closed by a dwell's beginning, closing first". Mode 4: "a dwell's beginning closes; an edge in the dwell opens, same step included".
-- Mode 5: "a dwell's beginning closes and forgets. A qualifying step (in the dwell, input active, ..) opens. A stop closes. An edge of the First Cycle Input .. opens
-- if a qualifying step came since the dwell began"; 02: "in a step that holds both a stop and a First Cycle edge, the stop is taken first and the edge then counts if a
-- qualifying step came since the dwell began".
unfoldable pub opened_now : Mode → ℕ → Group → GroupState → Event → Bool
opened_now NoMode sf g x e = false
opened_now Mode0 sf g x e = false
opened_now Mode1 sf g x e = false
opened_now Mode2 sf g x e = takes_now sf g x e || (not (begins_now sf g x e) && x.opened)
opened_now Mode3 sf g x e = false
opened_now Mode4 sf g x e = (held_now sf g x e && edge x.level e.level) || (not (begins_now sf g x e) && x.opened)
opened_now Mode5 sf g x e =
    (edge x.first e.first && qualified_now sf g x e)
    || (not (stops e) && ((held_now sf g x e && running e) || (not (begins_now sf g x e) && x.opened)))

unfoldable pub group_after : ℕ → Group → GroupState → Event → GroupState
group_after sf g x e = record {
  level = e.level;
  first = e.first;
  held = held_now sf g x e;
  shift = shift_now sf g x e;
  taken = takes_now sf g x e || x.taken;
  begun = not (takes_now sf g x e) && (begins_now sf g x e || x.begun);
  qualified = qualified_now sf g x e;
  opened = opened_now (group_mode g) sf g x e;
}

-- "before a group start's first step it did not hold and every group and First Cycle input was inactive"; the shift is "0 at group start"; "Modes 2, 4, 5 start closed."
abbrev pub fresh_group : GroupState
fresh_group =
    record { level = false; first = false; held = false; shift = 0; taken = false; begun = false; qualified = false; opened = false }

-- ---- A step

abbrev pub group_state_at : SinceStart → ℕ → GroupState
group_state_at x n = get_or x.groups n fresh_group

abbrev pub fresh_timed : TimedState
fresh_timed = record { held = false; left = 0 }

abbrev pub timed_at : SinceStart → ℕ → TimedState
timed_at x n = get_or x.timed n fresh_timed

unfoldable pub speed_now : Setup → Speed → Sample → Speed
speed_now u x s = speed_after u x (turned u.reversed s.raw)

-- what the step's groups and outputs read
unfoldable pub conditions_now : Configuration → SinceStart → Sample → Conditions
conditions_now g x s =
    conditions g s (speed_now g.programming.setup x.speed s).c (speed_now g.programming.setup x.speed s).tenths
    (updates (window_steps g.programming.setup.fast) x.speed.long)

-- a group, with the number n from 0, after the step; the Group Position that the step leaves, "0 for a group unused then"; whether the group is open
unfoldable pub group_now : Conditions → Group → GroupState → ℕ → GroupState
group_now w g x n = group_after (scale w) g x (group_event w g n)

unfoldable pub left_position : Conditions → Group → GroupState → ℕ → GroupPosition
left_position w g x n = cond g.used (position_now (scale w) g x (group_event w g n)) no_position

unfoldable pub open_now : Conditions → Group → GroupState → ℕ → Bool
open_now w g x n = is_open (group_mode g) (group_event w g n).level (group_now w g x n).opened

-- the same of the six groups
unfoldable pub groups_now : Conditions → List Group → List GroupState → List GroupState
groups_now w gs xs = table 6 0 (λ n. group_now w (get_or gs n no_group) (get_or xs n fresh_group) n)

unfoldable pub positions_now : Conditions → List Group → List GroupState → List GroupPosition
positions_now w gs xs = table 6 0 (λ n. left_position w (get_or gs n no_group) (get_or xs n fresh_group) n)

unfoldable pub openness_now : Conditions → List Group → List GroupState → List Bool
openness_now w gs xs = table 6 0 (λ n. open_now w (get_or gs n no_group) (get_or xs n fresh_group) n)

-- "its pair holds and fewer than 5 × T steps have passed since it began to hold"
unfoldable pub timed_after : Switch → Bool → TimedState → TimedState
timed_after Unprogrammed held x = fresh_timed
timed_after Normal held x = fresh_timed
timed_after (Pulse q k) held x = fresh_timed
timed_after (Timed t) held x = record { held = held; left = cond held (cond x.held (x.left - 1) (timed_steps t)) 0 }

-- a timed switch after the step, where its output's group is at `position`
unfoldable pub timed_now : Conditions → Limit → GroupPosition → TimedState → TimedState
timed_now w l position x = timed_after (limit_switch l) (timed_holds w l position) x

-- that of output n, from 0, of the card, where the six groups' positions are these
unfoldable pub timed_of : Programming → Conditions → List GroupPosition → List TimedState → ℕ → TimedState
timed_of p w positions xs n = timed_now w (limit_of p n) (of_group no_position positions (owner_of p n)) (get_or xs n fresh_timed)

-- output n, from 0, before the forces
unfoldable pub rule_now : Programming → Conditions → SinceStart → ℕ → Bool
rule_now p w x n =
    rule_at p w (positions_now w p.groups x.groups) (openness_now w p.groups x.groups)
    (λ k. ltb 0 (timed_of p w (positions_now w p.groups x.groups) x.timed k).left) n

-- the words of outputs; in a step answered 11 "unforced outputs off"
unfoldable pub outputs_now : Configuration → SinceStart → Sample → OutputWords
outputs_now g x s = output_words (model_in g) s (λ n. sound g s && rule_now g.programming (conditions_now g x s) x n)

-- the step's pair tests
unfoldable pub tests_now : Configuration → SinceStart → Sample → ℕ
tests_now g x s =
    pair_tests (model_in g) (sound g s) g.programming (conditions_now g x s) (positions_now (conditions_now g x s) g.programming.groups x.groups)

-- ---- Starts

abbrev pub fresh_window : Window
fresh_window = record { steps = 0; sum = 0 }

abbrev pub fresh_speed : Speed
fresh_speed = record {
  last = record { stepped = false; at = 0 };
  short = fresh_window;
  long = fresh_window;
  c = biased_c (pos 0);
  tenths = 0;
}

-- "Module start"
unfoldable pub module_start : SinceStart
module_start =
    record { speed = fresh_speed; groups = replicate 6 fresh_group; positions = replicate 6 no_position; timed = replicate 32 fresh_timed }

-- "Group start: a module start or an accepted group cycle."
unfoldable pub group_start : SinceStart → SinceStart
group_start x =
    record { speed = x.speed; groups = replicate 6 fresh_group; positions = x.positions; timed = replicate 32 fresh_timed }

-- "Before the first step after an accepted limit cycle .. it did not hold."
unfoldable pub limit_start : SinceStart → SinceStart
limit_start x = record { speed = x.speed; groups = x.groups; positions = x.positions; timed = replicate 32 fresh_timed }

-- the start that an accepted cycle is
unfoldable pub start_of : FileCycle → SinceStart → SinceStart
start_of SetupCycle x = module_start
start_of GroupCycle x = group_start x
start_of LimitCycle x = limit_start x

-- what a step leaves that is not answered 11
unfoldable pub since_after : Programming → Conditions → Speed → SinceStart → SinceStart
since_after p w speed x = record {
  speed = speed;
  groups = groups_now w p.groups x.groups;
  positions = positions_now w p.groups x.groups;
  timed = table 32 0 (timed_of p w (positions_now w p.groups x.groups) x.timed);
}

-- ---- The public calls

-- a fresh module; NoModule's is what a place holds before the first power-up
unfoldable pub fresh_module : Model → Module
fresh_module model =
    record { configuration = fresh_configuration model; state = record { since = module_start; kept = record { shown = nothing_shown; bus = fresh_bus } } }

-- "Power-up takes 8511, 8512 or 8513": a module, or refusal 3, which "gives no module"
unfoldable pub powered : ℕ → Result Module Refusal
powered n = cond (model_known n) (Ok (fresh_module (model_of n))) (Err UnknownModule)

-- power-up of the place that holds m; after refusal 3 the place stays as it was
unfoldable pub powered_up : Module → ℕ → CycleResult
powered_up m n =
    cond (model_known n)
    (record { card = fresh_module (model_of n); outcome = Accepted })
    (record { card = m; outcome = Refused UnknownModule })

-- a module after a cycle: the configuration that the cycle gives, and the start that its acceptance is
abbrev pub with_since : State → SinceStart → State
with_since x since = record { since = since; kept = x.kept }

abbrev pub finished : Decision → SinceStart → State → CycleResult
finished r started x =
    record { card = record { configuration = r.configuration; state = with_since x (cond (is_accepted r.outcome) started x.since) }; outcome = r.outcome }

-- a cycle that takes a file, and what the file then holds
unfoldable pub file_call : FileCycle → Module → List ℕ → CycleResult
file_call kind m file = finished (file_cycle kind m.configuration file) (start_of kind m.state.since) m.state

unfoldable pub file_left : FileCycle → Module → List ℕ → List ℕ
file_left kind m file = file_after kind m.configuration m.state.since.positions file

unfoldable pub nudge_call : Module → ℕ → CycleResult
nudge_call m w = finished (nudge_cycle m.configuration w) m.state.since m.state

-- the step; one answered 11 is a module start
unfoldable pub since_now : Configuration → SinceStart → Sample → SinceStart
since_now g x s =
    cond (sound g s)
    (since_after g.programming (conditions_now g x s) (speed_now g.programming.setup x.speed s) x)
    module_start

unfoldable pub step_answer : Configuration → State → Sample → Answer
step_answer g x s =
    answer_of g.programming.setup (not (sound g s))
    (cond (sound g s) (conditions_now g x.since s) (fault_conditions g s x.kept.shown.position))
    x.kept.shown.virtuals
    (outputs_now g x.since s)
    (tests_now g x.since s)

-- what runs on since power-up, where a step has this answer and these active real inputs
unfoldable pub kept_after : Kept → Answer → ℕ → Kept
kept_after x a inputs = record { shown = shown_by a inputs; bus = requested x.bus a.changed }

unfoldable pub step_state : Configuration → State → Sample → State
step_state g x s = record { since = since_now g x.since s; kept = kept_after x.kept (step_answer g x s) (real_inputs g s) }

unfoldable pub step_call : Module → Sample → StepResult
step_call m s = record {
  card = record { configuration = step_configuration m.configuration s; state = step_state m.configuration m.state s };
  answer = step_answer m.configuration m.state s;
}

-- the byte accesses; "Reads change nothing.", and a write nothing but the request and the mask
unfoldable pub read_call : Module → ℕ → Result ℕ Refusal
read_call m n = byte_read m.configuration m.state.kept n

abbrev pub with_bus : Module → Bus → Module
with_bus m b =
    record { configuration = m.configuration; state = record { since = m.state.since; kept = record { shown = m.state.kept.shown; bus = b } } }

unfoldable pub write_call : Module → ℕ → ℕ → CycleResult
write_call m n v =
    record { card = with_bus m (bus_left m.state.kept.bus (bus_write m.state.kept.bus n v)); outcome = outcome_of (bus_write m.state.kept.bus n v) }

-- the line's level
unfoldable pub line_level : Module → Bool
line_level m = line_of m.state.kept.bus
