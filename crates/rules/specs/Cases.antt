-- 01, "Cases shown": its lettered lines a) to i) as one table, and after them what 01 says of definitions that a card's calls and its history share, so that a
-- theorem that equates the two does not see them. proofs/Cases.antt has the theorem that the definitions give what each line says.
-- Assumes nothing.
use Rattle.std.specs.Prelude.{ℕ, zero, suc, ◌+◌, ◌^◌, ◌%◌, Bool, true, false, cond, not, ◌&&◌, List, [], ◌∷◌, ◌++◌, map, ◌≡◌, replicate, set, ltb, eqb, ℤ, pos, negsuc}
use Rattle.rules.specs.declared.Position.TheVariants.{OfMachine, OfGroup}
use Rattle.rules.specs.declared.Model.{Model}
use Rattle.rules.specs.declared.Model.TheVariants.{NoModule, M8511, M8512, M8513}
use Rattle.rules.specs.declared.Mode.TheVariants.{NoMode, Mode0, Mode1, Mode2, Mode3, Mode4, Mode5}
use Rattle.rules.specs.declared.Errors.{Errors}
use Rattle.rules.specs.declared.Refusal.{Refusal}
use Rattle.rules.specs.declared.Refusal.TheVariants.{M0Length, M1Length, UnknownModule, BlockNumber, Ignored, SetupData, GroupData, LimitData, NudgeOutput, NudgeSetpoint, Transducer, TraceFile, ByteOffset, ReadOnlyByte}
use Rattle.rules.specs.declared.Advance.{Advance}
use Rattle.rules.specs.declared.Limit.{Limit}
use Rattle.rules.specs.declared.Group.{Group}
use Rattle.rules.specs.declared.Setup.{Setup}
use Rattle.rules.specs.declared.Programming.{Programming}
use Rattle.rules.specs.declared.Sample.{Sample}
use Rattle.rules.specs.declared.Conditions.{Conditions}
use Rattle.rules.specs.declared.Answer.{Answer}
use Rattle.rules.specs.declared.GroupState.{GroupState}
use Rattle.rules.specs.declared.FileCycle.{FileCycle}
use Rattle.rules.specs.declared.FileCycle.TheVariants.{SetupCycle, GroupCycle, LimitCycle}
use Rattle.rules.specs.declared.Event.{Event}
use Rattle.rules.specs.declared.Configuration.{Configuration}
use Rattle.rules.specs.declared.Shown.{Shown}
use Rattle.rules.specs.declared.Bus.{Bus}
use Rattle.rules.specs.Words.{digit, word, bits, word_of, bytes_of, table, stored_at, other_bit, any_word, signed_word, differing, forced}
use Rattle.rules.specs.Variants.{group_mode, real_count, virtual_count, limit_switch, anded_of}
use Rattle.rules.specs.Counts.{ahead, holds}
use Rattle.rules.specs.Motion.{real_input, turned, scaled_position, machine_position, window_steps, tach_shown, tach_overflow, tenths_of, is_stop, detects, conditions, fault_conditions, biased_c}
use Rattle.rules.specs.Groups.{group_position, group_event, is_open}
use Rattle.rules.specs.Switches.{moved, pair_length, pair_holds, normal_holds, pulse_start, pulse_holds, present, admitted, enable_holds, detector_holds, switch_tests, tests_at, pair_tests, output_words, changed_count, answer_of}
use Rattle.rules.specs.Cycle.{number_of, outcome_number, outcome_of, with_programming, error_of}
use Rattle.rules.specs.SetupWords.{setup_errors, setup_of, no_programs}
use Rattle.rules.specs.GroupWords.{group_of, owners_of, failing_group, group_errors}
use Rattle.rules.specs.LimitWords.{all_zero, limit_of_block, pulse_bad, block_bits, limit_from, fifth_timed, limit_bits, failing_limit, limit_errors, with_limits}
use Rattle.rules.specs.Nudge.{nudge_output, nudge_pair, nudge_output_bad, nudge_setpoint_bad, nudged_limit}
use Rattle.rules.specs.Reader.{reader_refusal, reader_part}
use Rattle.rules.specs.Bus.{shown_by, nothing_shown, status_bits, requested, line_of, byte_at, byte_read, byte_shown, bus_write, bus_left}
use Rattle.rules.specs.Calls.{fresh_configuration}
use Rattle.rules.specs.FileCycle.{command_at}
use Rattle.rules.specs.Card.{group_after, fresh_group}
use Rattle.rules.specs.Trace.{decimal, hexadecimal, section_count, file_of, transmit_clear}

-- A line of the table: what is given, and at the end what 01 says comes of it. SF is 1024 in the lettered ones.
pub data Case : Type 0 where
  -- tenths of an rpm, multiplier, divisor less one, code: the tachometer's reading
  tach : (tenths multiplier divider code says : ℕ) → Case
  -- TResp, C: tenths of an rpm
  speed : (fast : Bool) (c : ℤ) (says : ℕ) → Case
  -- advance, c, setpoint: where the setpoint acts
  advance : (a c : ℤ) (setpoint says : ℕ) → Case
  -- a pulse switch: the positions of the turn at which it is on
  pulses : (on off q k : ℕ) (says : List ℕ) → Case
  -- a pulse switch: whether its train passes the checks
  fits : (on off q k : ℕ) (says : Bool) → Case
  -- a pair and a position: whether it holds there
  pair : (on off at : ℕ) (says : Bool) → Case
  -- a Mode 4 group with a dwell: a list of steps, each a position and its input's level; at which of them it is open
  group : (on off : ℕ) (steps : List (ℕ × Bool)) (says : List Bool) → Case
  -- what definitions give: tests, numbers, signed numbers
  tests : (given says : List Bool) → Case
  numbers : (given says : List ℕ) → Case
  integers : (given says : List ℤ) → Case

-- ---- 01's lettered lines

unfoldable pub lettered : List Case
lettered =
    -- a) Tach for .., 2, 3, codes 0 to 3: 67, 7, 1, 0; 02: "Tach starts from the tenths", here 1000
    tach 1000 2 2 0 67
    ∷ tach 1000 2 2 1 7
    ∷ tach 1000 2 2 2 1
    ∷ tach 1000 2 2 3 0
    -- b) C 1024, W 120: ..; W 504: ..; 02: "01's cases b read 5000 and 1190"
    ∷ speed true (pos 1024) 5000
    ∷ speed false (pos 1024) 1190
    -- c) SF 1024, a 100, c 48: ON 100 acts at 80; c −48: 120
    ∷ advance (pos 100) (pos 48) 100 80
    ∷ advance (pos 100) (negsuc 47) 100 120
    -- d) a 1, c −1: no move
    ∷ advance (pos 1) (negsuc 0) 100 100
    -- e) On 100, off 120, Q 3, K 4: 100–103, 108–111, 116–119
    ∷ pulses 100 120 3 4 (100 ∷ 101 ∷ 102 ∷ 103 ∷ 108 ∷ 109 ∷ 110 ∷ 111 ∷ 116 ∷ 117 ∷ 118 ∷ 119 ∷ [])
    -- f) Same pair: Q 4, K 4 fits, K 5 doesn't
    ∷ fits 100 120 4 4 true
    ∷ fits 100 120 4 5 false
    -- g) Pair 1000/50 holds at 1000, 49; not 50, 999
    ∷ pair 1000 50 1000 true
    ∷ pair 1000 50 49 true
    ∷ pair 1000 50 50 false
    ∷ pair 1000 50 999 false
    -- h) Mode 4, dwell 0/50, positions 1000, 10, 20, 60: edge at 20 opens steps 3, 4
    ∷ group 0 50 ((1000, false) ∷ (10, false) ∷ (20, true) ∷ (60, true) ∷ []) (false ∷ false ∷ true ∷ true ∷ [])
    -- i) As h, edge at 1000, held: closed
    ∷ group 0 50 ((1000, true) ∷ (10, true) ∷ (20, true) ∷ (60, true) ∷ []) (false ∷ false ∷ false ∷ false ∷ [])
    ∷ []

-- a switch with no advance: its kind, Q, K and T, and its setpoints
unfoldable pub switch_at : ℕ → ℕ → ℕ → ℕ → List ℕ → Limit
switch_at kind q k t setpoints = record {
  action = record { kind = kind; quantity = q; count = k; duration = t };
  enable = false;
  detector = 0;
  onadvance = record { negative = false; tenths = 0 };
  offadvance = record { negative = false; tenths = 0 };
  setpoints = setpoints;
}

-- those of the n positions from i on with f
abbrev pub kept_if : Bool → ℕ → List ℕ → List ℕ
kept_if true p ps = p ∷ ps
kept_if false p ps = ps

unfoldable pub positions_with : ℕ → ℕ → (ℕ → Bool) → List ℕ
positions_with zero i f = []
positions_with (suc n) i f = kept_if (f i) i (positions_with n (i + 1) f)

-- the group of a line, and its openness at each of the steps
unfoldable pub mode4_group : ℕ → ℕ → Group
mode4_group on off =
    record { used = true; isvirtual = true; firstvirtual = true; mode = 4; quantity = 1; dwell = record { on = on; off = off }; offset = 0 }

unfoldable pub step_event : ℕ → Bool → Event
step_event p level = record { machine = record { 0 = p }; level = level; first = false; tenths = 60; update = false }

unfoldable pub openings : Group → GroupState → List (ℕ × Bool) → List Bool
openings g x [] = []
openings g x (s ∷ steps) =
    is_open (group_mode g) s.1 (group_after 1024 g x (step_event s.0 s.1)).opened
    ∷ openings g (group_after 1024 g x (step_event s.0 s.1)) steps

-- ---- What the other lines are made of

-- a sample of nine words
abbrev pub sample_of : List ℕ → Sample
sample_of ws = record {
  raw = word ws 0;
  currents = word ws 1;
  virtuals = word ws 2;
  inputson = word ws 3;
  inputsoff = word ws 4;
  realon = word ws 5;
  realoff = word ws 6;
  virtualon = word ws 7;
  virtualoff = word ws 8;
}

-- what a step reads, with SF 1000: MType, the words of active inputs, tenths, the detectors
abbrev pub reads : Bool → ℕ → ℕ → ℕ → Bool → Bool → Conditions
reads independent real virtuals tenths md1 md2 = record {
  top = 999;
  independent = independent;
  machine = record { 0 = 500 };
  real = real;
  virtuals = virtuals;
  c = biased_c (pos 0);
  tenths = tenths;
  update = true;
  md1 = md1;
  md2 = md2;
}

-- files that are zero but for these words from a place on
abbrev pub m0_with : ℕ → List ℕ → List ℕ
m0_with at ws = stored_at at ws (replicate 120 0)

abbrev pub m1_with : ℕ → List ℕ → List ℕ
m1_with at ws = stored_at at ws (replicate 650 0)

-- the setup words 0 to 19, each with a number of its own: SF 1000, preset 11, offset 12, MD1 13/14, MD2 15/16, multiplier 17, divisor 18, code 2
unfoldable pub some_setup : List ℕ
some_setup = 0x8000 ∷ 1000 ∷ 11 ∷ 12 ∷ 13 ∷ 14 ∷ 15 ∷ 16 ∷ 17 ∷ 18 ∷ 2 ∷ 0x1234 ∷ replicate 8 0

-- the setup that they give, where word k is w and the last raw is `raw`; what word 100 says of them then
abbrev pub setup_by : ℕ → ℕ → ℕ → Setup
setup_by k w raw = setup_of (m0_with 0 (set some_setup k w)) raw

abbrev pub word100 : ℕ → ℕ → ℕ
word100 k w = setup_errors (m0_with 0 (set some_setup k w))

abbrev pub setup_numbers : Setup → List ℕ
setup_numbers u =
    u.top ∷ u.preset ∷ u.offset ∷ u.md1.low ∷ u.md1.high ∷ u.md2.low ∷ u.md2.high ∷ u.scalars.multiplier ∷ u.scalars.divider ∷ u.scalars.code ∷ u.states ∷ []

abbrev pub setup_flags : Setup → List Bool
setup_flags u = u.reversed ∷ u.fast ∷ u.interrupt ∷ u.independent ∷ []

-- of group 1 alone, with SF 1000: what word 110 says of its four words
abbrev pub word110 : Model → List ℕ → ℕ
word110 model block = group_errors model 1000 (m0_with 22 block)

abbrev pub group_numbers : Group → List ℕ
group_numbers g =
    digit g.used ∷ digit g.isvirtual ∷ digit g.firstvirtual ∷ g.mode ∷ g.quantity ∷ g.dwell.on ∷ g.dwell.off ∷ g.offset ∷ []

-- groups 1, 3 and 6 real, with 2, 1 and 2 outputs, 2 and 5 virtual, with 3 and 1; group 4 is unused
unfoldable pub some_groups : List ℕ
some_groups =
    m0_with 22
    (0x8002 ∷ 0 ∷ 0 ∷ 0 ∷ 0xC003 ∷ 0 ∷ 0 ∷ 0 ∷ 0x8001 ∷ 0 ∷ 0 ∷ 0 ∷ 0x0004 ∷ 0 ∷ 0 ∷ 0 ∷ 0xC001 ∷ 0 ∷ 0 ∷ 0 ∷ 0x8002 ∷ 0 ∷ 0 ∷ 0 ∷ [])

-- a block that is zero but for its first words; with SF 1000, what word 630 says of it where it is no fifth timed one
abbrev pub block_of : List ℕ → List ℕ
block_of ws = stored_at 0 ws (replicate 19 0)

abbrev pub word630 : List ℕ → ℕ
word630 ws = block_bits 1000 false (block_of ws)

abbrev pub limit_numbers : Limit → List ℕ
limit_numbers l =
    l.action.kind ∷ l.action.quantity ∷ l.action.count ∷ l.action.duration ∷ digit l.enable ∷ l.detector ∷ digit l.onadvance.negative
    ∷ l.onadvance.tenths ∷ digit l.offadvance.negative ∷ l.offadvance.tenths ∷ l.setpoints

-- a program in Independent Mode and one in Group Mode, with SF 1000 and no output dealt
abbrev pub with_mode : ℕ → Programming
with_mode command = no_programs (setup_by 0 command 0)

-- an advance of so many tenths of a ms, and a negative one
abbrev pub early : ℕ → Advance
early tenths = record { negative = false; tenths = tenths }

abbrev pub late : ℕ → Advance
late tenths = record { negative = true; tenths = tenths }

-- the same switch with ON and OFF advance
abbrev pub advanced : Limit → Advance → Advance → Limit
advanced l on off = record { action = l.action; enable = l.enable; detector = l.detector; onadvance = on; offadvance = off; setpoints = l.setpoints }

-- a normal switch of one pair, with advances; the positions of the turn at which the pair holds
abbrev pub pair_advanced : Advance → Advance → ℕ → ℕ → Limit
pair_advanced onadvance offadvance on off = advanced (switch_at 1 0 0 0 (on ∷ off ∷ [])) onadvance offadvance

abbrev pub held_at : ℕ → ℤ → Limit → List ℕ
held_at sf c l = positions_with sf 0 (λ p. pair_holds sf c l 0 (OfMachine (record { 0 = p })))

-- of output 1 to 3 a normal, a pulse and a timed switch; the others have none
unfoldable pub three_switches : Programming
three_switches =
    with_limits (with_mode 0x8200) (switch_at 1 0 0 0 (table 16 0 (λ n. n + 10)) ∷ switch_at 2 3 4 0 (100 ∷ 120 ∷ []) ∷ switch_at 3 0 0 5 (100 ∷ 120 ∷ []) ∷ [])

-- a normal switch with used pairs and unused ones
unfoldable pub some_unused : Limit
some_unused = switch_at 1 0 0 0 (0 ∷ 0 ∷ 10 ∷ 20 ∷ 0 ∷ 0 ∷ 30 ∷ 40 ∷ 0 ∷ 5 ∷ 0 ∷ 0 ∷ 50 ∷ 60 ∷ 900 ∷ 0 ∷ [])

-- the pair tests of a switch at each of these positions
abbrev pub tests_of : ℕ → ℤ → Limit → List ℕ → List ℕ
tests_of sf c l positions = map (λ (p : ℕ). switch_tests sf c l (limit_switch l) (OfMachine (record { 0 = p }))) positions

-- the programming with SF 1000 in Independent Mode of which each output has that switch, and one in Group Mode of which output 1 is dealt to group 1, output 2 to group 2
abbrev pub all_unused : Programming
all_unused = with_limits (with_mode 0x8200) (replicate 32 some_unused)

abbrev pub dealt_unused : Programming
dealt_unused = record { setup = (with_mode 0x8000).setup; groups = []; owners = 1 ∷ 2 ∷ []; limits = replicate 32 some_unused }

-- the setpoints that a nudge leaves of a normal switch at 10/11, 12/13 and so on; whether it is 10 for a pair at on/off
abbrev pub nudged_points : ℕ → List ℕ
nudged_points w = (nudged_limit (switch_at 1 0 0 0 (table 16 0 (λ n. n + 10))) w).setpoints

abbrev pub nudge_is10 : ℕ → ℕ → ℕ → Bool
nudge_is10 on off w = nudge_setpoint_bad 1000 (switch_at 1 0 0 0 (on ∷ off ∷ [])) 0 w

-- the numbers of an answer, 11 or 0 first
abbrev pub answer_numbers : Answer → List ℕ
answer_numbers a =
    cond a.refused (number_of Transducer) 0 ∷ a.position.0 ∷ a.tenths ∷ a.tach ∷ digit a.overflow ∷ digit a.md1 ∷ digit a.md2 ∷ a.real ∷ a.virtuals ∷ a.changed ∷ a.tests ∷ []

-- SUErr, GPErr, LSErr, I/DNum and I/DSet, and the word with these bits
abbrev pub errors_of : Bool → Bool → Bool → Bool → Bool → Errors
errors_of a b c d e = record { setup = a; group = b; limit = c; number = d; setpoint = e }

abbrev pub error_word : Errors → ℕ
error_word e = bits (e.setup ∷ e.group ∷ e.limit ∷ e.number ∷ e.setpoint ∷ [])

-- each place k of a file with the number k
abbrev pub counting : ℕ → List ℕ
counting n = table n 0 (λ k. k)

-- ---- The other lines

unfoldable pub of_words : List Case
of_words =
    -- "Off beats on."
    tests (forced true true true ∷ forced true false true ∷ forced false true false ∷ forced false false true ∷ forced false false false ∷ []) (false ∷ false ∷ true ∷ true ∷ false ∷ [])
    -- "two's complement"
    ∷ integers (map signed_word (0 ∷ 32767 ∷ 32768 ∷ 65535 ∷ [])) (pos 0 ∷ pos 32767 ∷ negsuc 32767 ∷ negsuc 0 ∷ [])
    -- bits 1 and 15 differ
    ∷ numbers (differing 0x8001 0x0003 ∷ differing 0 0xffff ∷ differing 5 5 ∷ differing 0x10000 0 ∷ []) (2 ∷ 16 ∷ 0 ∷ 0 ∷ [])
    -- of bits 0 and 15 named, another of the sixteen
    ∷ tests (map (other_bit (0 ∷ 15 ∷ [])) (0x8001 ∷ 0x4000 ∷ 0x0002 ∷ 0x10000 ∷ [])) (false ∷ true ∷ true ∷ false ∷ [])
    -- words 2 to 3: the last counts, the ones before and after do not
    ∷ tests (map (any_word 2 3) ((0 ∷ 0 ∷ 0 ∷ 1 ∷ 0 ∷ []) ∷ (0 ∷ 0 ∷ 1 ∷ 0 ∷ 0 ∷ []) ∷ (1 ∷ 1 ∷ 0 ∷ 0 ∷ 1 ∷ []) ∷ [])) (true ∷ true ∷ false ∷ [])
    ∷ []

unfoldable pub of_motion : List Case
of_motion =
    -- "active where its current equals its active-state bit; the force is applied after. A missing real input is inactive, forced or not." Of an 8512, where
    -- inputs 2 and 3 differ from their active states: 2 and 9 are forced on, 1 and 8 off
    numbers (word_of 0 (real_input M8512 (setup_by 11 0x00f3 0) (sample_of (0 ∷ 0x00f5 ∷ 0 ∷ 0x0102 ∷ 0x0081 ∷ []))) ∷ []) (0x007a ∷ [])
    -- "q = raw, or (1024 − raw) mod 1024 with CDir set"
    ∷ numbers (map (turned true) (0 ∷ 10 ∷ 1023 ∷ []) ++ map (turned false) (10 ∷ [])) (0 ∷ 1014 ∷ 1 ∷ 10 ∷ [])
    -- "floor(q × SF / 1024)"
    ∷ numbers (map (scaled_position 1000) (1 ∷ 2 ∷ 1023 ∷ [])) (0 ∷ 1 ∷ 999 ∷ [])
    -- "Machine Position = (floor(q × SF / 1024) + machine offset) mod SF", the offset 12; then with CDir
    ∷ numbers ((machine_position (setup_by 0 0x8000 0) 1023).0 ∷ (machine_position (setup_by 0 0x8000 0) 2).0 ∷ (machine_position (setup_by 0 0x8010 0) 1022).0 ∷ []) (11 ∷ 13 ∷ 13 ∷ [])
    -- "every 600th (TResp 1) or 2520th step"
    ∷ numbers (map window_steps (true ∷ false ∷ [])) (600 ∷ 2520 ∷ [])
    -- "multiplier / (divisor × 10^code)", "Tach starts from the tenths": 150000 of them, 2, 1, codes 0 to 3
    ∷ numbers (map (λ (code : ℕ). tach_shown (record { multiplier = 2; divider = 0; code = code }) 150000) (0 ∷ 1 ∷ 2 ∷ 3 ∷ [])) (30000 ∷ 3000 ∷ 300 ∷ 30 ∷ [])
    -- "still rounded half up once": 0.45, which is not 4.5 rounded and then a tenth of it; 1.4 times 3; C 3 at W 504 with multiplier 1100
    ∷ tach 45 1 0 1 0
    ∷ tach 14 3 0 0 4
    ∷ tach (tenths_of false (pos 3)) 1100 0 0 330
    -- "in tenths of an rpm, rounded half up once": the most, half a turn a step, and the least that are not 0
    ∷ numbers (map (tenths_of true) (pos 307200 ∷ negsuc 307199 ∷ pos 0 ∷ pos 1 ∷ pos 2 ∷ []) ++ map (tenths_of false) (pos 1290240 ∷ pos 0 ∷ pos 1 ∷ pos 4 ∷ negsuc 4 ∷ []))
    (1500000 ∷ 1500000 ∷ 0 ∷ 5 ∷ 10 ∷ 1500000 ∷ 0 ∷ 1 ∷ 5 ∷ 6 ∷ [])
    -- "A stop is now an update of 0 tenths": C 1 at W 120 is none
    ∷ tests (map (is_stop true) (0 ∷ 1 ∷ tenths_of true (pos 1) ∷ []) ++ map (is_stop false) (0 ∷ 1 ∷ [])) (true ∷ false ∷ false ∷ false ∷ false ∷ [])
    -- "above 32767 it reads 32767 with TachOv set"
    ∷ numbers (map (tach_shown (record { multiplier = 1; divider = 0; code = 0 })) (327664 ∷ 327665 ∷ 327674 ∷ 327675 ∷ [])) (32766 ∷ 32767 ∷ 32767 ∷ 32767 ∷ [])
    ∷ tests (map (tach_overflow (record { multiplier = 1; divider = 0; code = 0 })) (327664 ∷ 327665 ∷ 327674 ∷ 327675 ∷ [])) (false ∷ false ∷ false ∷ true ∷ [])
    -- "low ≤ .. ≤ high", ".. ≤ high or .. ≥ low", "0/0 never", in tenths
    ∷ tests (map (detects (record { low = 100; high = 200 })) (0 ∷ 999 ∷ 1000 ∷ 2000 ∷ 2001 ∷ [])) (false ∷ false ∷ true ∷ true ∷ false ∷ [])
    ∷ tests (map (detects (record { low = 200; high = 100 })) (0 ∷ 1000 ∷ 1001 ∷ 1999 ∷ 2000 ∷ [])) (true ∷ true ∷ false ∷ false ∷ true ∷ [])
    ∷ tests (map (detects (record { low = 0; high = 0 })) (0 ∷ 1 ∷ [])) (false ∷ false ∷ [])
    ∷ tests (map (detects (record { low = 0; high = 50 })) (0 ∷ 500 ∷ 501 ∷ 503 ∷ []) ++ map (detects (record { low = 50; high = 0 })) (0 ∷ 1 ∷ 499 ∷ 500 ∷ [])) (true ∷ true ∷ false ∷ false ∷ true ∷ false ∷ false ∷ true ∷ [])
    -- "0, 8 or 16 real inputs and outputs. All have 16 virtual ones"
    ∷ numbers (map real_count (M8511 ∷ M8512 ∷ M8513 ∷ []) ++ map virtual_count (M8511 ∷ M8512 ∷ M8513 ∷ [])) (0 ∷ 8 ∷ 16 ∷ 16 ∷ 16 ∷ 16 ∷ [])
    -- MD1 13/14 and MD2 15/16 at 140 and 150 tenths
    ∷ tests (map (λ (tenths : ℕ). (conditions (with_programming (fresh_configuration M8513) (no_programs (setup_by 0 0x8000 0))) (sample_of []) (biased_c (pos 0)) tenths false).md1) (140 ∷ 150 ∷ [])) (true ∷ false ∷ [])
    ∷ tests (map (λ (tenths : ℕ). (conditions (with_programming (fresh_configuration M8513) (no_programs (setup_by 0 0x8000 0))) (sample_of []) (biased_c (pos 0)) tenths false).md2) (140 ∷ 150 ∷ [])) (false ∷ true ∷ [])
    ∷ []

unfoldable pub of_groups : List Case
of_groups =
    -- "Group Position = (Machine Position + group offset) mod SF"
    numbers ((group_position 1000 7 (record { 0 = 999 })).0 ∷ []) (6 ∷ [])
    -- "Inputs (table 3.1): group g 1 to 6, .. First Cycle 8; virtual 16 higher. A group uses inputs of its own type": real inputs 3 and 8, virtual 17 and 22
    ∷ tests (map (λ (n : ℕ). (group_event (reads false 0x0084 0x0021 9 false false) (group_of (m0_with 22 (0x8001 ∷ [])) 1) n).level) (0 ∷ 2 ∷ 3 ∷ 5 ∷ [])) (false ∷ true ∷ false ∷ false ∷ [])
    ∷ tests (map (λ (n : ℕ). (group_event (reads false 0x0084 0x0021 9 false false) (group_of (m0_with 22 (0xC001 ∷ [])) 1) n).level) (0 ∷ 2 ∷ 3 ∷ 5 ∷ [])) (true ∷ false ∷ false ∷ true ∷ [])
    ∷ tests (map (λ (w : ℕ). (group_event (reads false 0x0080 0x0021 9 false false) (group_of (m0_with 22 (w ∷ [])) 1) 0).first) (0x8001 ∷ 0xC001 ∷ 0xA001 ∷ [])) (true ∷ true ∷ false ∷ [])
    -- "Modes 0, 1: always open." "Mode 3: open while its input is active." Modes 2, 4, 5 as they were opened or closed
    ∷ tests (is_open Mode0 false false ∷ is_open Mode1 false false ∷ is_open Mode2 true false ∷ is_open Mode3 false true ∷ is_open Mode4 true false ∷ is_open Mode5 true false ∷ is_open NoMode true true ∷ [])
    (true ∷ true ∷ false ∷ false ∷ false ∷ false ∷ false ∷ [])
    ∷ tests (is_open Mode2 false true ∷ is_open Mode3 true false ∷ is_open Mode4 false true ∷ is_open Mode5 false true ∷ []) (true ∷ true ∷ true ∷ true ∷ [])
    ∷ []

unfoldable pub of_lengths : List Case
of_lengths =
    -- 02: "((off − on) mod SF) + ON shift − OFF shift, each shift being 01's s of that setpoint": toward zero each, at c 239 both are 0
    integers (map (λ (c : ℤ). pair_length 1024 c (pair_advanced (early 1) (late 1) 100 120) 0) (pos 239 ∷ pos 240 ∷ negsuc 239 ∷ [])) (pos 20 ∷ pos 22 ∷ pos 18 ∷ [])
    -- "before reduction mod SF": 1025 and 1026 counts
    ∷ integers (pair_length 1024 (pos 410) (pair_advanced (early 600) (early 601) 100 120) 0 ∷ []) (pos 19 ∷ [])
    -- (off − on) mod SF is of the setpoints as programmed; shifts of both signs, further than a turn
    ∷ integers (map (λ (c : ℤ). pair_length 1000 c (pair_advanced (late 999) (early 999) 990 10) 0) (pos 24576 ∷ negsuc 24575 ∷ [])) (negsuc 199779 ∷ pos 199820 ∷ [])
    -- a turn of ten at c 24576, where a tenth of a ms is a count: "At 0 or less the pair never holds."
    ∷ numbers (held_at 10 (pos 24576) (pair_advanced (early 0) (early 25) 3 5)) []
    ∷ numbers (held_at 10 (pos 24576) (pair_advanced (early 0) (early 3) 3 5)) []
    ∷ numbers (held_at 10 (pos 24576) (pair_advanced (early 0) (early 2) 3 5)) []
    -- "Otherwise it holds for that many counts from the moved ON setpoint": 1, 2, 3, 3 and 9 counts
    ∷ numbers (held_at 10 (pos 24576) (pair_advanced (early 0) (early 1) 3 5)) (3 ∷ [])
    ∷ numbers (held_at 10 (pos 24576) (pair_advanced (early 1) (early 1) 3 5)) (2 ∷ 3 ∷ [])
    ∷ numbers (held_at 10 (pos 24576) (pair_advanced (late 1) (late 2) 3 5)) (4 ∷ 5 ∷ 6 ∷ [])
    ∷ numbers (held_at 10 (negsuc 24575) (pair_advanced (early 1) (early 2) 3 5)) (4 ∷ 5 ∷ 6 ∷ [])
    ∷ numbers (held_at 10 (pos 24576) (pair_advanced (early 7) (early 0) 3 5)) (0 ∷ 1 ∷ 2 ∷ 3 ∷ 4 ∷ 6 ∷ 7 ∷ 8 ∷ 9 ∷ [])
    -- "At SF or more it always holds."
    ∷ numbers (held_at 10 (pos 24576) (pair_advanced (early 8) (early 0) 3 5)) (table 10 0 (λ p. p))
    ∷ numbers (held_at 10 (pos 24576) (pair_advanced (early 9) (early 0) 3 5)) (table 10 0 (λ p. p))
    ∷ numbers (held_at 10 (pos 24576) (pair_advanced (early 18) (early 0) 3 5)) (table 10 0 (λ p. p))
    -- "0/0 pairs are as before": unused, however far the shifts are apart
    ∷ numbers (held_at 10 (pos 24576) (pair_advanced (early 4) (early 0) 0 0) ++ held_at 10 (pos 24576) (pair_advanced (early 18) (early 0) 0 0)) []
    -- 02's accident: "At 1,400 rpm a glue dwell of 20 counts with a larger OFF advance than ON advance"; c is 573, 2 ms are 47 counts, 2.5 ms 59, 3 ms 71
    ∷ integers (map (λ (off : ℕ). pair_length 1024 (pos 573) (pair_advanced (early 20) (early off) 200 220) 0) (20 ∷ 25 ∷ 30 ∷ [])) (pos 20 ∷ pos 8 ∷ negsuc 3 ∷ [])
    ∷ numbers (held_at 1024 (pos 573) (pair_advanced (early 20) (early 25) 200 220)) (table 8 153 (λ p. p))
    ∷ numbers (held_at 1024 (pos 573) (pair_advanced (early 20) (early 30) 200 220)) []
    ∷ []

unfoldable pub of_switches : List Case
of_switches =
    -- with c 48 an advance of 10 ms moves a setpoint from 100 to 80 (SF 1024): ON by the ON advance, OFF by the OFF advance
    tests (map (λ (p : ℕ). pair_holds 1024 (pos 48) (advanced (switch_at 1 0 0 0 (100 ∷ 200 ∷ [])) (early 100) (early 0)) 0 (OfGroup (record { 0 = p }))) (79 ∷ 80 ∷ 199 ∷ 200 ∷ [])) (false ∷ true ∷ true ∷ false ∷ [])
    ∷ tests (map (λ (p : ℕ). pair_holds 1024 (pos 48) (advanced (switch_at 1 0 0 0 (100 ∷ 200 ∷ [])) (early 0) (early 100)) 0 (OfMachine (record { 0 = p }))) (99 ∷ 100 ∷ 179 ∷ 180 ∷ [])) (false ∷ true ∷ true ∷ false ∷ [])
    -- "0/0 is unused", moved or not
    ∷ tests (map (λ (p : ℕ). pair_holds 1024 (pos 48) (advanced (switch_at 1 0 0 0 (0 ∷ 0 ∷ [])) (early 100) (early 0)) 0 (OfMachine (record { 0 = p }))) (0 ∷ 1004 ∷ 1010 ∷ [])) (false ∷ false ∷ false ∷ [])
    -- a pair with one setpoint at 0 is used
    ∷ tests (map (λ (p : ℕ). pair_holds 1024 (pos 0) (switch_at 1 0 0 0 (1000 ∷ 0 ∷ [])) 0 (OfMachine (record { 0 = p }))) (999 ∷ 1000 ∷ 1023 ∷ 0 ∷ [])) (false ∷ true ∷ true ∷ false ∷ [])
    ∷ tests (map (λ (p : ℕ). pair_holds 1024 (pos 0) (switch_at 1 0 0 0 (0 ∷ 24 ∷ [])) 0 (OfMachine (record { 0 = p }))) (1023 ∷ 0 ∷ 23 ∷ 24 ∷ [])) (false ∷ true ∷ true ∷ false ∷ [])
    -- "Normal: some used pair holds": eight pairs of one count each
    ∷ numbers (positions_with 90 0 (λ p. normal_holds 1024 (pos 0) (switch_at 1 0 0 0 (1 ∷ 2 ∷ 11 ∷ 12 ∷ 21 ∷ 22 ∷ 31 ∷ 32 ∷ 41 ∷ 42 ∷ 51 ∷ 52 ∷ 61 ∷ 62 ∷ 71 ∷ 72 ∷ [])) (OfMachine (record { 0 = p }))))
    (1 ∷ 11 ∷ 21 ∷ 31 ∷ 41 ∷ 51 ∷ 61 ∷ 71 ∷ [])
    -- "R = (off − on) mod SF unmoved, .. from the ON setpoint moved by the ON advance": as e), moved by 20; the OFF advance moves nothing
    ∷ numbers (positions_with 130 0 (λ p. pulse_holds 1024 (pos 48) (advanced (switch_at 2 3 4 0 (100 ∷ 120 ∷ [])) (early 100) (early 50)) 3 4 (OfMachine (record { 0 = p }))))
    (80 ∷ 81 ∷ 82 ∷ 83 ∷ 88 ∷ 89 ∷ 90 ∷ 91 ∷ 96 ∷ 97 ∷ 98 ∷ 99 ∷ [])
    -- two pulses start at 0 and at R − K
    ∷ numbers (positions_with 130 0 (λ p. pulse_holds 1024 (pos 0) (switch_at 2 2 3 0 (100 ∷ 120 ∷ [])) 2 3 (OfMachine (record { 0 = p })))) (100 ∷ 101 ∷ 102 ∷ 117 ∷ 118 ∷ 119 ∷ [])
    -- a train from 0, and one up to 0
    ∷ numbers (positions_with 130 0 (λ p. pulse_holds 1024 (pos 0) (switch_at 2 3 4 0 (0 ∷ 20 ∷ [])) 3 4 (OfMachine (record { 0 = p })))) (0 ∷ 1 ∷ 2 ∷ 3 ∷ 8 ∷ 9 ∷ 10 ∷ 11 ∷ 16 ∷ 17 ∷ 18 ∷ 19 ∷ [])
    ∷ numbers (positions_with 30 1000 (λ p. pulse_holds 1024 (pos 0) (switch_at 2 1 2 0 (1020 ∷ 0 ∷ [])) 1 2 (OfMachine (record { 0 = p })))) (1020 ∷ 1021 ∷ [])
    -- a pulse at 0/0 never fires; one pulse starts at 0
    ∷ tests (map (λ (p : ℕ). pulse_holds 1024 (pos 0) (switch_at 2 1 4 0 (0 ∷ 0 ∷ [])) 1 4 (OfMachine (record { 0 = p }))) (0 ∷ 1 ∷ [])) (false ∷ false ∷ [])
    ∷ tests (map (λ (p : ℕ). pulse_holds 1024 (pos 0) (switch_at 2 1 4 0 (5 ∷ 105 ∷ [])) 1 4 (OfMachine (record { 0 = p }))) (4 ∷ 5 ∷ 8 ∷ 9 ∷ [])) (false ∷ true ∷ true ∷ false ∷ [])
    -- the outputs of each model
    ∷ numbers (map (λ (m : Model). word_of 0 (present m)) (NoModule ∷ M8511 ∷ M8512 ∷ M8513 ∷ [])) (0 ∷ 0 ∷ 0x00ff ∷ 0xffff ∷ [])
    ∷ numbers (map (λ (m : Model). word_of 16 (present m)) (NoModule ∷ M8511 ∷ M8512 ∷ M8513 ∷ [])) (0 ∷ 0xffff ∷ 0xffff ∷ 0xffff ∷ [])
    -- "LS Enable of its kind": input 7 for outputs 1 to 16, 23 for 17 to 32; not asked for where it is not ANDed; "In Independent Mode .. LS Enable is ignored"
    ∷ tests (map (enable_holds (reads false 0x0040 0 0 false false) true) (0 ∷ 15 ∷ 16 ∷ 31 ∷ [])) (true ∷ true ∷ false ∷ false ∷ [])
    ∷ tests (map (enable_holds (reads false 0 0x0040 0 false false) true) (0 ∷ 15 ∷ 16 ∷ 31 ∷ [])) (false ∷ false ∷ true ∷ true ∷ [])
    ∷ tests (map (enable_holds (reads false 0xffbf 0xffbf 0 false false) true) (0 ∷ 16 ∷ [])) (false ∷ false ∷ [])
    ∷ tests (enable_holds (reads false 0 0 0 false false) false 0 ∷ enable_holds (reads true 0 0 0 false false) true 0 ∷ enable_holds (reads true 0 0 0 false false) true 16 ∷ []) (true ∷ true ∷ true ∷ [])
    -- "In Independent Mode there is no group ..; a real output needs its own real input active."
    ∷ tests (map (admitted (reads true 0x8002 0 0 false false) false) (0 ∷ 1 ∷ 15 ∷ 16 ∷ 31 ∷ [])) (false ∷ true ∷ true ∷ true ∷ true ∷ [])
    ∷ tests (admitted (reads false 0xffff 0xffff 0 false false) false 0 ∷ admitted (reads false 0 0 0 false false) true 0 ∷ admitted (reads false 0 0 0 false false) true 16 ∷ []) (false ∷ true ∷ true ∷ [])
    -- "MD1, MD2": codes 0, 1, 2; 3 is no code
    ∷ tests (map (λ (n : ℕ). detector_holds (anded_of n) (reads false 0 0 0 true false)) (0 ∷ 1 ∷ 2 ∷ 3 ∷ [])) (true ∷ true ∷ false ∷ false ∷ [])
    ∷ tests (map (λ (n : ℕ). detector_holds (anded_of n) (reads false 0 0 0 false true)) (0 ∷ 1 ∷ 2 ∷ 3 ∷ [])) (true ∷ false ∷ true ∷ false ∷ [])
    -- "forced off, no; forced on, yes", each by its own words
    ∷ numbers ((output_words M8513 (sample_of (0 ∷ 0 ∷ 0 ∷ 0 ∷ 0 ∷ 0x0005 ∷ 0x0004 ∷ 0x8030 ∷ 0x0020 ∷ [])) (λ n. false)).real ∷ (output_words M8513 (sample_of (0 ∷ 0 ∷ 0 ∷ 0 ∷ 0 ∷ 0x0005 ∷ 0x0004 ∷ 0x8030 ∷ 0x0020 ∷ [])) (λ n. false)).virtuals ∷ [])
    (0x0001 ∷ 0x8010 ∷ [])
    ∷ numbers ((output_words M8512 (sample_of (0 ∷ 0 ∷ 0 ∷ 0 ∷ 0 ∷ 0x0105 ∷ 0x0004 ∷ 0x8030 ∷ 0x0020 ∷ [])) (λ n. true)).real ∷ (output_words M8512 (sample_of (0 ∷ 0 ∷ 0 ∷ 0 ∷ 0 ∷ 0x0105 ∷ 0x0004 ∷ 0x8030 ∷ 0x0020 ∷ [])) (λ n. true)).virtuals ∷ [])
    (0x00fb ∷ 0xffdf ∷ [])
    -- "with SLCINT set, how many virtual outputs changed .., else 0"
    ∷ numbers (changed_count (setup_by 0 0x8100 0) 0x8001 0x0003 ∷ changed_count (setup_by 0 0x8000 0) 0x8001 0x0003 ∷ []) (2 ∷ 0 ∷ [])
    -- the answer's parts in their places: 3000 tenths with multiplier 17, divisor 18 and code 2 is tach 3
    ∷ numbers (answer_numbers (answer_of (setup_by 0 0x8100 0) false (reads false 0 0 3000 true false) 0x0001 (record { real = 7; virtuals = 0x0006 }) 9)) (0 ∷ 500 ∷ 3000 ∷ 3 ∷ 0 ∷ 1 ∷ 0 ∷ 7 ∷ 6 ∷ 3 ∷ 9 ∷ [])
    ∷ numbers (answer_numbers (answer_of (setup_by 0 0x8100 0) false (reads false 0 0 40000000 false true) 0x0001 (record { real = 7; virtuals = 0x0006 }) 256)) (0 ∷ 500 ∷ 40000000 ∷ 32767 ∷ 1 ∷ 0 ∷ 1 ∷ 7 ∷ 6 ∷ 3 ∷ 256 ∷ [])
    -- 11: "the Machine Position of the last step ..; .. tach and TachOv 0; detectors .. off"; the count is that of its own outputs
    ∷ numbers (answer_numbers (answer_of (setup_by 0 0x8100 0) true (fault_conditions (fresh_configuration M8513) (sample_of (2000 ∷ [])) (record { 0 = 77 })) 0x0003 (record { real = 0; virtuals = 0x0100 }) 0))
    (11 ∷ 77 ∷ 0 ∷ 0 ∷ 0 ∷ 0 ∷ 0 ∷ 0 ∷ 0x0100 ∷ 3 ∷ 0 ∷ [])
    ∷ []

unfoldable pub of_tests : List Case
of_tests =
    -- 02: "A test is one used pair of a programmed normal output, in block order up to and including the first that holds": the first of five used ones to the last, and none
    numbers (tests_of 1000 (pos 0) some_unused (10 ∷ 30 ∷ 0 ∷ 50 ∷ 999 ∷ 500 ∷ [])) (1 ∷ 2 ∷ 3 ∷ 4 ∷ 5 ∷ 5 ∷ [])
    -- eight used pairs, of which the last holds, none, the first
    ∷ numbers (tests_of 1000 (pos 0) (switch_at 1 0 0 0 (table 16 0 (λ n. n + 10))) (24 ∷ 500 ∷ 10 ∷ [])) (8 ∷ 8 ∷ 1 ∷ [])
    -- two that hold together: the first ends it
    ∷ numbers (tests_of 1000 (pos 0) (switch_at 1 0 0 0 (10 ∷ 20 ∷ 15 ∷ 25 ∷ [])) (12 ∷ 15 ∷ 22 ∷ [])) (1 ∷ 1 ∷ 2 ∷ [])
    -- no used pair
    ∷ numbers (tests_of 1000 (pos 0) (switch_at 1 0 0 0 (replicate 16 0)) (0 ∷ 500 ∷ [])) (0 ∷ 0 ∷ [])
    -- "holds" is as it acts: moved by 20 counts from 100 and 300; with lengths under 0 never, and with lengths over SF always
    ∷ numbers (tests_of 1024 (pos 48) (advanced (switch_at 1 0 0 0 (100 ∷ 200 ∷ 300 ∷ 310 ∷ [])) (early 100) (early 100)) (79 ∷ 80 ∷ 180 ∷ [])) (2 ∷ 1 ∷ 2 ∷ [])
    ∷ numbers (tests_of 10 (pos 24576) (advanced (switch_at 1 0 0 0 (3 ∷ 5 ∷ 5 ∷ 8 ∷ [])) (early 0) (early 25)) (3 ∷ 5 ∷ [])) (2 ∷ 2 ∷ [])
    ∷ numbers (tests_of 10 (pos 24576) (advanced (switch_at 1 0 0 0 (3 ∷ 5 ∷ 5 ∷ 8 ∷ [])) (early 18) (early 0)) (3 ∷ 9 ∷ [])) (1 ∷ 1 ∷ [])
    -- "a timed or pulse output whose pair isn't 0/0 counts one", holding or not
    ∷ numbers (tests_of 1000 (pos 0) (switch_at 2 3 4 0 (100 ∷ 120 ∷ [])) (0 ∷ 100 ∷ []) ++ tests_of 1000 (pos 0) (switch_at 3 0 0 5 (100 ∷ 120 ∷ [])) (0 ∷ 100 ∷ [])) (1 ∷ 1 ∷ 1 ∷ 1 ∷ [])
    ∷ numbers (tests_of 1000 (pos 0) (switch_at 2 3 4 0 (0 ∷ 20 ∷ 5 ∷ 6 ∷ [])) (50 ∷ []) ++ tests_of 1000 (pos 0) (switch_at 3 0 0 5 (0 ∷ 20 ∷ 5 ∷ 6 ∷ [])) (50 ∷ [])) (1 ∷ 1 ∷ [])
    ∷ numbers (tests_of 1000 (pos 0) (switch_at 2 3 4 0 (0 ∷ 0 ∷ 5 ∷ 6 ∷ [])) (0 ∷ []) ++ tests_of 1000 (pos 0) (switch_at 3 0 0 5 (0 ∷ 0 ∷ 5 ∷ 6 ∷ [])) (0 ∷ [])) (0 ∷ 0 ∷ [])
    -- "missing or unprogrammed ones are not"
    ∷ numbers (tests_of 1000 (pos 0) (switch_at 0 3 4 5 (100 ∷ 120 ∷ [])) (100 ∷ [])) (0 ∷ [])
    ∷ numbers (map (tests_at M8513 three_switches (reads true 0 0 0 false false) []) (0 ∷ 1 ∷ 2 ∷ 3 ∷ [])) (8 ∷ 1 ∷ 1 ∷ 0 ∷ [])
    ∷ numbers (map (tests_at M8512 all_unused (reads true 0 0 0 false false) []) (0 ∷ 7 ∷ 8 ∷ 15 ∷ 16 ∷ 31 ∷ [])) (5 ∷ 5 ∷ 0 ∷ 0 ∷ 5 ∷ 5 ∷ [])
    -- a switch reads Group Position, here of groups 1 and 2 and of none, or Machine Position, 500
    ∷ numbers (map (tests_at M8513 dealt_unused (reads false 0 0 0 false false) (record { 0 = 10 } ∷ record { 0 = 30 } ∷ [])) (0 ∷ 1 ∷ 2 ∷ [])) (1 ∷ 2 ∷ 3 ∷ [])
    ∷ numbers (map (tests_at M8513 dealt_unused (reads true 0 0 0 false false) (record { 0 = 10 } ∷ record { 0 = 30 } ∷ [])) (0 ∷ 1 ∷ 2 ∷ [])) (5 ∷ 5 ∷ 5 ∷ [])
    -- all outputs of each model; "In a step answered 11 the count is 0."
    ∷ numbers (map (λ (m : Model). pair_tests m true all_unused (reads true 0 0 0 false false) []) (NoModule ∷ M8511 ∷ M8512 ∷ M8513 ∷ [])) (0 ∷ 80 ∷ 120 ∷ 160 ∷ [])
    ∷ numbers (map (λ (m : Model). pair_tests m false all_unused (reads true 0 0 0 false false) []) (M8511 ∷ M8512 ∷ M8513 ∷ [])) (0 ∷ 0 ∷ 0 ∷ [])
    ∷ []

unfoldable pub of_cycles : List Case
of_cycles =
    -- 01's numbers, and 02's
    numbers (map number_of (M0Length ∷ M1Length ∷ UnknownModule ∷ BlockNumber ∷ Ignored ∷ SetupData ∷ GroupData ∷ LimitData ∷ NudgeOutput ∷ NudgeSetpoint ∷ Transducer ∷ TraceFile ∷ [])) (1 ∷ 2 ∷ 3 ∷ 4 ∷ 5 ∷ 6 ∷ 7 ∷ 8 ∷ 9 ∷ 10 ∷ 11 ∷ 12 ∷ [])
    ∷ numbers (map number_of (ByteOffset ∷ ReadOnlyByte ∷ [])) (13 ∷ 14 ∷ [])
    -- "6 to 10 set their error", and leave the others: 6, 7, 8, 9, 10 and 5 where SUErr, LSErr and I/DSet stand, and where GPErr and I/DNum do
    ∷ numbers (map (λ (r : Refusal). error_word (error_of r (errors_of true false true false true))) (SetupData ∷ GroupData ∷ LimitData ∷ NudgeOutput ∷ NudgeSetpoint ∷ Ignored ∷ [])) (0x15 ∷ 0x17 ∷ 0x15 ∷ 0x1d ∷ 0x15 ∷ 0x15 ∷ [])
    ∷ numbers (map (λ (r : Refusal). error_word (error_of r (errors_of false true false true false))) (SetupData ∷ GroupData ∷ LimitData ∷ NudgeOutput ∷ NudgeSetpoint ∷ Ignored ∷ [])) (0x0b ∷ 0x0a ∷ 0x0e ∷ 0x0a ∷ 0x1a ∷ 0x0a ∷ [])
    ∷ []

unfoldable pub of_setup : List Case
of_setup =
    -- each word in its place (the stored SF and divisor are less one)
    numbers (setup_numbers (setup_by 0 0x8000 700)) (999 ∷ 11 ∷ 12 ∷ 13 ∷ 14 ∷ 15 ∷ 16 ∷ 17 ∷ 17 ∷ 2 ∷ 0x1234 ∷ [])
    -- bits 4 CDir, 5 TResp, 8 SLCINT, 9 MType; the others are none of these
    ∷ tests (setup_flags (setup_by 0 0x8010 0)) (true ∷ false ∷ false ∷ false ∷ [])
    ∷ tests (setup_flags (setup_by 0 0x8020 0)) (false ∷ true ∷ false ∷ false ∷ [])
    ∷ tests (setup_flags (setup_by 0 0x8100 0)) (false ∷ false ∷ true ∷ false ∷ [])
    ∷ tests (setup_flags (setup_by 0 0x8200 0)) (false ∷ false ∷ false ∷ true ∷ [])
    ∷ tests (setup_flags (setup_by 0 0xfccf 0)) (false ∷ false ∷ false ∷ false ∷ [])
    -- bit 1, Preset: at raw 0, at raw 512 and, with CDir, at raw 256
    ∷ numbers ((setup_by 0 0x8002 0).offset ∷ (setup_by 0 0x8002 512).offset ∷ (setup_by 0 0x8012 256).offset ∷ []) (11 ∷ 511 ∷ 261 ∷ [])
    -- word 100, "all failing bits of 001": 0 SF, 1 preset, 2 offset, 3 MD1, 4 MD2, 5 scalars
    ∷ numbers (word100 1 1024 ∷ word100 1 1025 ∷ []) (0 ∷ 1 ∷ [])
    ∷ numbers (map (word100 2) (999 ∷ 1000 ∷ []) ++ map (word100 3) (999 ∷ 1000 ∷ [])) (0 ∷ 2 ∷ 0 ∷ 4 ∷ [])
    ∷ numbers (map (word100 4) (0 ∷ 14 ∷ 32767 ∷ 32768 ∷ []) ++ map (word100 5) (0 ∷ 13 ∷ 32767 ∷ 32768 ∷ [])) (0 ∷ 8 ∷ 0 ∷ 8 ∷ 0 ∷ 8 ∷ 0 ∷ 8 ∷ [])
    ∷ numbers (map (word100 6) (0 ∷ 16 ∷ 32767 ∷ 32768 ∷ []) ++ map (word100 7) (0 ∷ 15 ∷ 32767 ∷ 32768 ∷ [])) (0 ∷ 16 ∷ 0 ∷ 16 ∷ 0 ∷ 16 ∷ 0 ∷ 16 ∷ [])
    ∷ numbers (map (word100 8) (0 ∷ 1100 ∷ 1101 ∷ []) ++ map (word100 9) (0 ∷ 1 ∷ 63 ∷ 64 ∷ []) ++ map (word100 10) (3 ∷ 4 ∷ [])) (0 ∷ 0 ∷ 32 ∷ 32 ∷ 0 ∷ 0 ∷ 32 ∷ 0 ∷ 32 ∷ [])
    -- 0/0 is no equal pair
    ∷ numbers (setup_errors (m0_with 0 (set (set some_setup 4 0) 5 0)) ∷ setup_errors (m0_with 0 (set (set some_setup 6 0) 7 0)) ∷ []) (0 ∷ 0 ∷ [])
    -- "With a bad SF, preset and offset are judged against 1024."
    ∷ numbers (map (λ (w : ℕ). setup_errors (m0_with 0 (set (set some_setup 1 0) 2 w))) (1023 ∷ 1024 ∷ []) ++ map (λ (w : ℕ). setup_errors (m0_with 0 (set (set some_setup 1 2000) 3 w))) (1023 ∷ 1024 ∷ [])) (1 ∷ 3 ∷ 1 ∷ 5 ∷ [])
    -- any active states; "12 to 19 zero", bit 15; which bits of word 0 are named
    ∷ numbers (word100 11 0xffff ∷ map (λ (k : ℕ). word100 k 1) (12 ∷ 15 ∷ 19 ∷ [])) (0 ∷ 0x8000 ∷ 0x8000 ∷ 0x8000 ∷ [])
    ∷ numbers (map (λ (n : ℕ). word100 0 (2 ^ n)) (counting 16))
    (0 ∷ 0 ∷ 0x8000 ∷ 0x8000 ∷ 0 ∷ 0 ∷ 0x8000 ∷ 0x8000 ∷ 0 ∷ 0 ∷ 0x8000 ∷ 0x8000 ∷ 0x8000 ∷ 0x8000 ∷ 0x8000 ∷ 0 ∷ [])
    -- bit 15 joins the others
    ∷ numbers (setup_errors (m0_with 0 (set (set some_setup 1 0) 12 1)) ∷ []) (0x8001 ∷ [])
    ∷ []

unfoldable pub of_group_words : List Case
of_group_words =
    -- block 2, at word 26: real with FCITyp, Mode 5, 3 outputs; virtual without, Mode 2, 16; unused
    numbers (group_numbers (group_of (m0_with 26 (0xA503 ∷ 7 ∷ 8 ∷ 9 ∷ [])) 2)) (1 ∷ 0 ∷ 1 ∷ 5 ∷ 3 ∷ 7 ∷ 8 ∷ 9 ∷ [])
    ∷ numbers (group_numbers (group_of (m0_with 26 (0xC210 ∷ 7 ∷ 8 ∷ 9 ∷ [])) 2)) (1 ∷ 1 ∷ 0 ∷ 2 ∷ 16 ∷ 7 ∷ 8 ∷ 9 ∷ [])
    ∷ numbers (group_numbers (group_of (m0_with 26 (0x6503 ∷ 7 ∷ 8 ∷ 9 ∷ [])) 2)) (0 ∷ 0 ∷ 0 ∷ 0 ∷ 0 ∷ 0 ∷ 0 ∷ 0 ∷ [])
    -- "Outputs are dealt consecutively per type."
    ∷ numbers (owners_of (table 6 1 (group_of some_groups))) ((1 ∷ 1 ∷ 3 ∷ 6 ∷ 6 ∷ replicate 11 0) ++ (2 ∷ 2 ∷ 2 ∷ 5 ∷ replicate 12 0))
    -- word 110: GOFErr 0, GPgErr 1, GCSErr 2
    ∷ numbers (map (word110 M8513) ((0x8001 ∷ 999 ∷ 0 ∷ 999 ∷ []) ∷ (0x8001 ∷ 0 ∷ 0 ∷ 1000 ∷ []) ∷ (0x8000 ∷ 0 ∷ 0 ∷ 0 ∷ []) ∷ (0x8001 ∷ 1000 ∷ 0 ∷ 0 ∷ []) ∷ (0x8001 ∷ 0 ∷ 1000 ∷ 0 ∷ []) ∷ (0x8001 ∷ 5 ∷ 5 ∷ 0 ∷ []) ∷ (0x8000 ∷ 5 ∷ 5 ∷ 1000 ∷ []) ∷ []))
    (0 ∷ 1 ∷ 2 ∷ 4 ∷ 4 ∷ 4 ∷ 7 ∷ [])
    -- quantity to 16 and to what the module has; mode to 5; bits 5, 6, 7, 11, 12 are unnamed
    ∷ numbers (map (λ (c : ℕ). word110 M8513 (c ∷ [])) (0x8010 ∷ 0x8011 ∷ 0xC010 ∷ 0xC011 ∷ 0x8501 ∷ 0x8601 ∷ 0x8701 ∷ 0x8021 ∷ 0x8041 ∷ 0x8081 ∷ 0x8801 ∷ 0x9001 ∷ [])) (0 ∷ 2 ∷ 0 ∷ 2 ∷ 0 ∷ 2 ∷ 2 ∷ 2 ∷ 2 ∷ 2 ∷ 2 ∷ 2 ∷ [])
    ∷ numbers (map (λ (c : ℕ). word110 M8512 (c ∷ [])) (0x8008 ∷ 0x8009 ∷ 0xC010 ∷ 0xC501 ∷ []) ++ map (λ (c : ℕ). word110 M8511 (c ∷ [])) (0x8001 ∷ 0xC010 ∷ [])) (0 ∷ 2 ∷ 0 ∷ 0 ∷ 2 ∷ 0 ∷ [])
    -- "FCITyp 0 in Mode 5 on an 8511, is GPgErr"
    ∷ numbers (map (λ (c : ℕ). word110 M8511 (c ∷ [])) (0xC501 ∷ 0xE501 ∷ 0xC401 ∷ [])) (2 ∷ 0 ∷ 0 ∷ [])
    -- an unused group's words are ignored
    ∷ numbers (word110 M8513 (0x7fff ∷ 5 ∷ 5 ∷ 2000 ∷ []) ∷ []) (0 ∷ [])
    -- an overrun is the group's that overruns: groups 1 to 3 with 5 real, 16 virtual and 4 real outputs of an 8512's eight; the lowest of two
    ∷ numbers (map (λ (f : List ℕ). failing_group M8512 1000 f) (m0_with 22 (0x8005 ∷ 0 ∷ 0 ∷ 0 ∷ 0xC010 ∷ 0 ∷ 0 ∷ 0 ∷ 0x8004 ∷ []) ∷ m0_with 22 (0x8005 ∷ 0 ∷ 0 ∷ 0 ∷ 0xC010 ∷ 0 ∷ 0 ∷ 0 ∷ 0x8003 ∷ []) ∷ m0_with 26 (0x8000 ∷ 0 ∷ 0 ∷ 0 ∷ 0x8601 ∷ []) ∷ m0_with 42 (0x8000 ∷ []) ∷ []))
    (3 ∷ 0 ∷ 2 ∷ 6 ∷ [])
    ∷ numbers (group_errors M8512 1000 (m0_with 26 (0x8601 ∷ 0 ∷ 0 ∷ 0 ∷ 0x8001 ∷ 0 ∷ 0 ∷ 1000 ∷ [])) ∷ []) (2 ∷ [])
    -- "a bad reserved bit or word (20, 21, 46 to 99) sets bit 15 alone"; word 111 is then 0
    ∷ numbers (map (λ (n : ℕ). group_errors M8513 1000 (m0_with 20 (2 ^ n ∷ []))) (0 ∷ 1 ∷ 8 ∷ 14 ∷ 15 ∷ [])) (0 ∷ 0x8000 ∷ 0x8000 ∷ 0x8000 ∷ 0 ∷ [])
    ∷ numbers (map (λ (k : ℕ). group_errors M8513 1000 (m0_with k (1 ∷ []))) (19 ∷ 21 ∷ 45 ∷ 46 ∷ 99 ∷ 100 ∷ [])) (0 ∷ 0x8000 ∷ 0 ∷ 0x8000 ∷ 0x8000 ∷ 0 ∷ [])
    ∷ numbers (group_errors M8513 1000 (m0_with 20 (2 ∷ 0 ∷ 0x8000 ∷ [])) ∷ failing_group M8513 1000 (m0_with 20 (2 ∷ 0 ∷ 0x8000 ∷ [])) ∷ []) (0x8000 ∷ 0 ∷ [])
    ∷ []

unfoldable pub of_limit_words : List Case
of_limit_words =
    -- a normal switch with LS Enable and MD2, ON advance −1, OFF advance 5, eight pairs
    numbers (limit_numbers (limit_of_block (0xC000 ∷ 0xffff ∷ 5 ∷ table 16 0 (λ n. n + 11)))) (1 ∷ 0 ∷ 0 ∷ 0 ∷ 1 ∷ 2 ∷ 1 ∷ 1 ∷ 0 ∷ 5 ∷ table 16 0 (λ n. n + 11))
    -- a pulse switch with MD1, Q 3 and K 4; a timed one of 77 ms; words not used are ignored
    ∷ numbers (limit_numbers (limit_of_block (block_of (0x2001 ∷ 7 ∷ 0xfff8 ∷ 11 ∷ 12 ∷ 3 ∷ 4 ∷ 99 ∷ [])))) (2 ∷ 3 ∷ 4 ∷ 0 ∷ 0 ∷ 1 ∷ 0 ∷ 7 ∷ 1 ∷ 8 ∷ 11 ∷ 12 ∷ replicate 14 0)
    ∷ numbers (limit_numbers (limit_of_block (block_of (0x0002 ∷ 0 ∷ 0 ∷ 11 ∷ 12 ∷ 77 ∷ 4 ∷ 99 ∷ [])))) (3 ∷ 0 ∷ 0 ∷ 77 ∷ 0 ∷ 0 ∷ 0 ∷ 0 ∷ 0 ∷ 0 ∷ 11 ∷ 12 ∷ replicate 14 0)
    -- an advance of 8000h is −32768, one of 7fffh 32767
    ∷ numbers (map (λ (a : ℕ). digit (limit_of_block (block_of (0 ∷ a ∷ []))).onadvance.negative) (0x7fff ∷ 0x8000 ∷ []) ++ map (λ (a : ℕ). (limit_of_block (block_of (0 ∷ a ∷ []))).onadvance.tenths) (0x7fff ∷ 0x8000 ∷ [])) (0 ∷ 1 ∷ 32767 ∷ 32768 ∷ [])
    -- bit 1: detector 3, type 3, unnamed bits 2 to 12
    ∷ numbers (map (λ (n : ℕ). word630 (2 ^ n ∷ 0 ∷ 0 ∷ 1 ∷ 2 ∷ [])) (2 ∷ 3 ∷ 7 ∷ 11 ∷ 12 ∷ 13 ∷ 14 ∷ 15 ∷ []) ++ map (λ (c : ℕ). word630 (c ∷ 0 ∷ 0 ∷ 1 ∷ 2 ∷ [])) (0 ∷ 0x6000 ∷ 3 ∷ [])) (2 ∷ 2 ∷ 2 ∷ 2 ∷ 2 ∷ 0 ∷ 0 ∷ 0 ∷ 0 ∷ 2 ∷ 2 ∷ [])
    -- bit 2: "two advances −999 to 999"
    ∷ numbers (map (λ (a : ℕ). word630 (0 ∷ a ∷ 0 ∷ 1 ∷ 2 ∷ [])) (999 ∷ 1000 ∷ 64537 ∷ 64536 ∷ []) ++ map (λ (a : ℕ). word630 (0 ∷ 0 ∷ a ∷ 1 ∷ 2 ∷ [])) (999 ∷ 1000 ∷ 64537 ∷ 64536 ∷ [])) (0 ∷ 4 ∷ 0 ∷ 4 ∷ 0 ∷ 4 ∷ 0 ∷ 4 ∷ [])
    -- bit 3: a setpoint over SF − 1, "An equal nonzero pair is bad", in the first and in the eighth pair
    ∷ numbers (map (λ (n : ℕ). block_bits 1000 false (set (replicate 19 0) n 1000)) (3 ∷ 4 ∷ 17 ∷ 18 ∷ []) ++ map (λ (n : ℕ). block_bits 1000 false (stored_at n (5 ∷ 5 ∷ []) (replicate 19 0))) (3 ∷ 4 ∷ 17 ∷ [])) (8 ∷ 8 ∷ 8 ∷ 8 ∷ 8 ∷ 0 ∷ 8 ∷ [])
    -- bit 4: a duration outside 1 to 9999, a fifth timed one; "at 0/0 .. its further words unread"
    ∷ numbers (map (λ (t : ℕ). word630 (2 ∷ 0 ∷ 0 ∷ 1 ∷ 2 ∷ t ∷ 5000 ∷ [])) (0 ∷ 1 ∷ 9999 ∷ 10000 ∷ []) ++ map (λ (t : ℕ). word630 (2 ∷ 0 ∷ 0 ∷ 0 ∷ 0 ∷ t ∷ [])) (0 ∷ 10000 ∷ [])) (16 ∷ 0 ∷ 0 ∷ 16 ∷ 0 ∷ 0 ∷ [])
    ∷ numbers (block_bits 1000 true (block_of (2 ∷ 0 ∷ 0 ∷ 1 ∷ 2 ∷ 1 ∷ [])) ∷ block_bits 1000 true (block_of (2 ∷ [])) ∷ block_bits 1000 true (block_of (1 ∷ 0 ∷ 0 ∷ 100 ∷ 120 ∷ 3 ∷ 4 ∷ [])) ∷ []) (16 ∷ 16 ∷ 0 ∷ [])
    -- bit 4: "Q or K 0, or, with bit 3 clear, R < Q × K + Q − 1"; at 0/0 unread
    ∷ numbers (map word630 ((1 ∷ 0 ∷ 0 ∷ 100 ∷ 120 ∷ 0 ∷ 4 ∷ []) ∷ (1 ∷ 0 ∷ 0 ∷ 100 ∷ 120 ∷ 3 ∷ 0 ∷ []) ∷ (1 ∷ 0 ∷ 0 ∷ 100 ∷ 119 ∷ 4 ∷ 4 ∷ []) ∷ (1 ∷ 0 ∷ 0 ∷ 100 ∷ 118 ∷ 4 ∷ 4 ∷ []) ∷ [])) (16 ∷ 16 ∷ 0 ∷ 16 ∷ [])
    ∷ numbers (map word630 ((1 ∷ 0 ∷ 0 ∷ 0 ∷ 0 ∷ 0 ∷ 4 ∷ []) ∷ (1 ∷ 0 ∷ 0 ∷ 100 ∷ 100 ∷ 0 ∷ 4 ∷ []) ∷ (1 ∷ 0 ∷ 0 ∷ 100 ∷ 100 ∷ 4 ∷ 400 ∷ []) ∷ [])) (0 ∷ 24 ∷ 8 ∷ [])
    -- 02: R one short, exact and one more for Q 3 and K 4, where the second pulse starts 4, 5 and 5 counts on; Q 1 and K 1; a product over 65,535
    ∷ numbers (map (λ (off : ℕ). word630 (1 ∷ 0 ∷ 0 ∷ 100 ∷ off ∷ 3 ∷ 4 ∷ [])) (113 ∷ 114 ∷ 115 ∷ []) ++ map (λ (r : ℕ). pulse_start r 3 4 1) (13 ∷ 14 ∷ 15 ∷ [])) (16 ∷ 0 ∷ 0 ∷ 4 ∷ 5 ∷ 5 ∷ [])
    ∷ numbers (map (λ (k : ℕ). word630 (1 ∷ 0 ∷ 0 ∷ 999 ∷ 998 ∷ 1 ∷ k ∷ [])) (1 ∷ 999 ∷ 1000 ∷ 65535 ∷ []) ++ map (λ (q : ℕ). word630 (1 ∷ 0 ∷ 0 ∷ 999 ∷ 998 ∷ q ∷ 1 ∷ [])) (1 ∷ 500 ∷ 501 ∷ 65535 ∷ [])) (0 ∷ 0 ∷ 16 ∷ 16 ∷ 0 ∷ 0 ∷ 16 ∷ 16 ∷ [])
    ∷ numbers (map (λ (q : ℕ). word630 (1 ∷ 0 ∷ 0 ∷ 0 ∷ 999 ∷ q ∷ q ∷ [])) (31 ∷ 256 ∷ 32768 ∷ 65535 ∷ [])) (0 ∷ 16 ∷ 16 ∷ 16 ∷ [])
    -- "of type 3 only bits 1 and 2 are tested"; bits 1, 2 and 3 together
    ∷ numbers (word630 (3 ∷ 1000 ∷ 0 ∷ 5 ∷ 5 ∷ []) ∷ word630 (4 ∷ 1000 ∷ 0 ∷ 5 ∷ 5 ∷ []) ∷ []) (6 ∷ 14 ∷ [])
    -- "An all-zero block": all 19 words
    ∷ tests (all_zero (replicate 19 0) ∷ map (λ (k : ℕ). all_zero (set (replicate 19 0) k 1)) (0 ∷ 1 ∷ 17 ∷ 18 ∷ [])) (true ∷ false ∷ false ∷ false ∷ false ∷ [])
    -- "Four timed real, four virtual at most, those at 0/0 counted": each output is timed here, at 0/0
    ∷ tests (map (fifth_timed (table 650 0 (λ n. cond (eqb (n % 19) 2) 2 0))) (1 ∷ 4 ∷ 5 ∷ 16 ∷ 17 ∷ 20 ∷ 21 ∷ 32 ∷ [])) (false ∷ false ∷ true ∷ true ∷ false ∷ false ∷ true ∷ true ∷ [])
    -- outputs 1 to 4 alone are timed: any later real one would be the fifth
    ∷ tests (map (fifth_timed (table 650 0 (λ n. cond (eqb (n % 19) 2 && ltb n 78) 2 0))) (1 ∷ 4 ∷ 5 ∷ 16 ∷ 17 ∷ [])) (false ∷ false ∷ true ∷ true ∷ false ∷ [])
    -- and of the virtual ones 17 to 20
    ∷ tests (map (fifth_timed (table 650 0 (λ n. cond (eqb (n % 19) 2 && ltb 305 n && ltb n 382) 2 0))) (16 ∷ 17 ∷ 20 ∷ 21 ∷ 32 ∷ [])) (false ∷ false ∷ false ∷ true ∷ true ∷ [])
    -- bit 0, "not all zero and, in Group Mode, unassigned (no other bit is then tested)"; "Missing outputs' blocks are unread."
    ∷ numbers (map (λ (p : Programming). limit_bits M8513 p (m1_with 40 (4 ∷ [])) 3) (with_mode 0x8000 ∷ with_mode 0x8200 ∷ []) ++ (limit_bits M8513 (with_mode 0x8000) (m1_with 40 []) 3 ∷ limit_bits M8511 (with_mode 0x8200) (m1_with 40 (4 ∷ [])) 3 ∷ [])) (1 ∷ 2 ∷ 0 ∷ 0 ∷ [])
    ∷ numbers (map (λ (m : Model). (limit_from m (m1_with 40 (0 ∷ 0 ∷ 0 ∷ 1 ∷ 2 ∷ [])) 3).action.kind) (M8511 ∷ M8512 ∷ [])) (0 ∷ 1 ∷ [])
    -- "Word 631 is the lowest failing output", 02: "bits 0 to 4 are the lowest failing output's own.": outputs 3 and 4
    ∷ numbers (failing_limit M8513 (with_mode 0x8200) (m1_with 40 (4 ∷ replicate 18 0 ++ (0 ∷ 1000 ∷ []))) ∷ limit_errors M8513 (with_mode 0x8200) (m1_with 40 (4 ∷ replicate 18 0 ++ (0 ∷ 1000 ∷ []))) ∷ []) (3 ∷ 2 ∷ [])
    ∷ numbers (failing_limit M8511 (with_mode 0x8200) (m1_with 40 (4 ∷ [])) ∷ failing_limit M8513 (with_mode 0x8200) (m1_with 591 (4 ∷ [])) ∷ []) (0 ∷ 32 ∷ [])
    -- "15, then alone, a reserved bit of word 0 or a nonzero word 1 or 610 to 629"
    ∷ numbers (map (λ (k : ℕ). limit_errors M8513 (with_mode 0x8200) (m1_with k (1 ∷ []))) (0 ∷ 1 ∷ 609 ∷ 610 ∷ 629 ∷ 630 ∷ [])) (0 ∷ 0x8000 ∷ 0 ∷ 0x8000 ∷ 0x8000 ∷ 0 ∷ [])
    ∷ numbers (map (λ (w : ℕ). limit_errors M8513 (with_mode 0x8200) (m1_with 0 (w ∷ []))) (0x8000 ∷ 2 ∷ 0x4000 ∷ [])) (0 ∷ 0x8000 ∷ 0x8000 ∷ [])
    ∷ numbers (limit_errors M8513 (with_mode 0x8200) (m1_with 1 (1 ∷ 4 ∷ [])) ∷ failing_limit M8513 (with_mode 0x8200) (m1_with 1 (1 ∷ 4 ∷ [])) ∷ []) (0x8000 ∷ 0 ∷ [])
    ∷ []

unfoldable pub of_nudge : List Case
of_nudge =
    -- "7–5 pair − 1, 4–0 output − 1"
    numbers (nudge_output 0xffff ∷ nudge_output 0xffe5 ∷ nudge_pair 0xffff ∷ nudge_pair 0xff5f ∷ []) (31 ∷ 5 ∷ 7 ∷ 2 ∷ [])
    -- "8 ON, 9 OFF, or both; 10 down": on pair 1, the third up
    ∷ numbers (map (λ (w : ℕ). word (nudged_points w) 0) (0x8100 ∷ 0x8200 ∷ 0x8300 ∷ 0x8500 ∷ []) ++ map (λ (w : ℕ). word (nudged_points w) 1) (0x8100 ∷ 0x8200 ∷ 0x8300 ∷ 0x8600 ∷ [])) (11 ∷ 10 ∷ 11 ∷ 9 ∷ 11 ∷ 12 ∷ 12 ∷ 10 ∷ [])
    ∷ numbers (nudged_points 0x8340) (10 ∷ 11 ∷ 12 ∷ 13 ∷ 15 ∷ 16 ∷ 16 ∷ 17 ∷ 18 ∷ 19 ∷ 20 ∷ 21 ∷ 22 ∷ 23 ∷ 24 ∷ 25 ∷ [])
    -- 9: unprogrammed, neither setpoint, pair over 1 on pulse or timed, bits 11 to 13. Outputs 1 to 3 are normal, pulse and timed
    ∷ tests (map (nudge_output_bad three_switches) (0x8100 ∷ 0x81e0 ∷ 0x8101 ∷ 0x8102 ∷ 0x8600 ∷ 0x8103 ∷ 0x8000 ∷ 0x8400 ∷ 0x8121 ∷ 0x8122 ∷ 0x8900 ∷ 0x9100 ∷ 0xa100 ∷ []))
    (false ∷ false ∷ false ∷ false ∷ false ∷ true ∷ true ∷ true ∷ true ∷ true ∷ true ∷ true ∷ true ∷ [])
    -- 10: "pair unused, or result 0/0, out of range or failing limit checks"
    ∷ tests (nudge_is10 10 20 0x8100 ∷ nudge_is10 998 20 0x8100 ∷ nudge_is10 999 20 0x8100 ∷ nudge_is10 20 999 0x8200 ∷ nudge_is10 0 20 0x8500 ∷ nudge_is10 20 0 0x8600 ∷ nudge_is10 0 0 0x8100 ∷ nudge_is10 1 0 0x8500 ∷ nudge_is10 0 1 0x8600 ∷ nudge_is10 10 11 0x8100 ∷ nudge_is10 11 10 0x8200 ∷ nudge_is10 10 11 0x8300 ∷ [])
    (false ∷ false ∷ true ∷ true ∷ true ∷ true ∷ true ∷ true ∷ true ∷ true ∷ true ∷ false ∷ [])
    -- the type matters of a pulse alone
    ∷ tests (map (λ (kind : ℕ). nudge_setpoint_bad 1000 (switch_at kind 0 0 0 (10 ∷ 20 ∷ [])) 0 0x8100) (0 ∷ 1 ∷ 2 ∷ 3 ∷ [])) (false ∷ false ∷ true ∷ false ∷ [])
    -- a pulse train that just fits: shorter by one it does not
    ∷ tests (map (nudge_setpoint_bad 1000 (switch_at 2 4 4 0 (100 ∷ 119 ∷ [])) 0) (0x8100 ∷ 0x8200 ∷ 0x8500 ∷ 0x8600 ∷ 0x8300 ∷ [])) (true ∷ false ∷ false ∷ true ∷ false ∷ [])
    ∷ []

unfoldable pub of_reader : List Case
of_reader =
    -- "1 before 2", then 4: "block number outside 1 to 6 or 1 to 32"
    numbers (reader_refusal 119 649 true 0 ∷ reader_refusal 120 649 true 0 ∷ reader_refusal 120 650 true 0 ∷ reader_refusal 120 650 true 6 ∷ reader_refusal 120 650 true 7 ∷ reader_refusal 120 650 false 0 ∷ reader_refusal 120 650 false 32 ∷ reader_refusal 120 650 false 33 ∷ [])
    (1 ∷ 2 ∷ 4 ∷ 0 ∷ 4 ∷ 4 ∷ 0 ∷ 4 ∷ [])
    -- the first and the last block, of files that count their places
    ∷ numbers (reader_part (counting 120) (counting 650) true 1 ++ reader_part (counting 120) (counting 650) true 6) (22 ∷ 23 ∷ 24 ∷ 25 ∷ 42 ∷ 43 ∷ 44 ∷ 45 ∷ [])
    ∷ numbers (reader_part (counting 120) (counting 650) false 1) (table 19 2 (λ n. n))
    ∷ numbers (reader_part (counting 120) (counting 650) false 32) (table 19 591 (λ n. n))
    ∷ numbers (reader_part (counting 120) (counting 650) false 33 ++ reader_part (counting 119) (counting 650) true 1 ++ reader_part (counting 120) (counting 649) true 1) []
    ∷ []

-- a card whose bits of word 0 are as f says of their numbers
unfoldable pub flags : (ℕ → Bool) → Configuration
flags f = record {
  model = 8513;
  programming = (fresh_configuration M8513).programming;
  errors = record { setup = f 0; group = f 1; limit = f 2; number = f 3; setpoint = f 4 };
  acknowledges = record { setup = f 13; group = f 14; limit = f 15; nudge = f 12 };
  ignored = f 5;
  fault = f 7;
  raw = 0;
}

-- what a step showed whose answer and inputs are these numbers, its bits as f says
unfoldable pub showing : (ℕ → Bool) → List ℕ → Shown
showing f ws =
    shown_by (record { refused = false; position = record { 0 = word ws 0 }; tenths = 0x9999; tach = word ws 1; overflow = f 10; md1 = f 8; md2 = f 9; real = word ws 2; virtuals = word ws 3; changed = 0x99; tests = 0x99 }) (word ws 4)

unfoldable pub bus_bits : Bus → List Bool
bus_bits b = b.request ∷ b.mask ∷ []

-- request and mask after a byte write at an offset, where they were as given
unfoldable pub write_bits : Bool → Bool → ℕ → ℕ → List Bool
write_bits request mask n v = bus_bits (bus_left (record { request = request; mask = mask }) (bus_write (record { request = request; mask = mask }) n v))

unfoldable pub of_bus : List Case
of_bus =
    -- "low byte first"
    numbers (bytes_of (0x1234 ∷ 0xabcd ∷ [])) (0x34 ∷ 0x12 ∷ 0xcd ∷ 0xab ∷ [])
    -- figure 5.1: each bit of word 0 alone; ModFlt and bit 11 are left out
    ∷ numbers (table 16 0 (λ k. status_bits (flags (eqb k)) (showing (eqb k) []))) (1 ∷ 2 ∷ 4 ∷ 8 ∷ 16 ∷ 32 ∷ 0 ∷ 128 ∷ 256 ∷ 512 ∷ 1024 ∷ 0 ∷ 4096 ∷ 8192 ∷ 16384 ∷ 32768 ∷ [])
    -- the eighteen bytes, where the request stands and where the mask is set
    ∷ numbers (table 18 0 (byte_at (flags (λ k. ltb k 3)) (record { shown = showing (eqb 9) (0x0102 ∷ 0x0304 ∷ 0x0506 ∷ 0x0708 ∷ 0x090a ∷ []); bus = record { request = true; mask = false } })))
    (7 ∷ 2 ∷ 2 ∷ 1 ∷ 4 ∷ 3 ∷ 6 ∷ 5 ∷ 8 ∷ 7 ∷ 10 ∷ 9 ∷ 0 ∷ 0 ∷ 0 ∷ 0 ∷ 1 ∷ 0 ∷ [])
    ∷ numbers (table 2 16 (byte_at (flags (λ k. false)) (record { shown = nothing_shown; bus = record { request = false; mask = true } }))) (0 ∷ 1 ∷ [])
    -- "0 before the first"
    ∷ numbers (table 16 0 (byte_at (flags (λ k. false)) (record { shown = nothing_shown; bus = record { request = true; mask = true } }))) (replicate 16 0)
    -- "13 for an offset over 17, first"
    ∷ numbers (map (λ (n : ℕ). outcome_number (outcome_of (byte_read (flags (λ k. true)) (record { shown = nothing_shown; bus = record { request = true; mask = true } }) n))) (0 ∷ 15 ∷ 16 ∷ 17 ∷ 18 ∷ 255 ∷ 65535 ∷ [])) (0 ∷ 0 ∷ 0 ∷ 0 ∷ 13 ∷ 13 ∷ 13 ∷ [])
    ∷ numbers (map (λ (n : ℕ). byte_shown (byte_read (flags (λ k. true)) (record { shown = nothing_shown; bus = record { request = true; mask = true } }) n)) (0 ∷ 15 ∷ 16 ∷ 17 ∷ 18 ∷ 65535 ∷ [])) (0xbf ∷ 0 ∷ 1 ∷ 1 ∷ 0 ∷ 0 ∷ [])
    -- "14 for a write below 16"
    ∷ numbers (map (λ (n : ℕ). outcome_number (outcome_of (bus_write (record { request = true; mask = false }) n 1))) (0 ∷ 15 ∷ 16 ∷ 17 ∷ 18 ∷ 65535 ∷ [])) (14 ∷ 14 ∷ 0 ∷ 0 ∷ 13 ∷ 13 ∷ [])
    -- "Neither changes a byte."
    ∷ tests (write_bits true false 15 1 ++ write_bits true false 18 1 ++ write_bits true true 15 0 ++ write_bits true true 18 0) (true ∷ false ∷ true ∷ false ∷ true ∷ true ∷ true ∷ true ∷ [])
    -- byte 16: "stays until a 1 is written to that bit"; the bits 7 to 1 are ignored
    ∷ tests (write_bits true true 16 1 ++ write_bits true true 16 0xff ++ write_bits true false 16 0xfe ++ write_bits false false 16 1) (false ∷ true ∷ false ∷ true ∷ true ∷ false ∷ false ∷ false ∷ [])
    -- byte 17
    ∷ tests (write_bits true false 17 1 ++ write_bits true true 17 2 ++ write_bits false true 17 0 ++ write_bits false false 17 0xff) (true ∷ true ∷ true ∷ false ∷ false ∷ false ∷ false ∷ true ∷ [])
    -- "set by a step whose changed-output count isn't 0"
    ∷ tests (bus_bits (requested (record { request = false; mask = true }) 0) ++ bus_bits (requested (record { request = false; mask = false }) 1) ++ bus_bits (requested (record { request = false; mask = true }) 16) ++ bus_bits (requested (record { request = true; mask = false }) 0)) (false ∷ true ∷ true ∷ false ∷ true ∷ true ∷ true ∷ false ∷ [])
    -- "The line is up exactly when request and mask are both 1."
    ∷ tests (map line_of (record { request = true; mask = true } ∷ record { request = true; mask = false } ∷ record { request = false; mask = true } ∷ record { request = false; mask = false } ∷ [])) (true ∷ false ∷ false ∷ false ∷ [])
    ∷ []

unfoldable pub of_trace : List Case
of_trace =
    -- "Files are zero elsewhere.": a section's words from its command word on
    numbers (file_of SetupCycle (7 ∷ 8 ∷ [])) (7 ∷ 8 ∷ replicate 118 0)
    ∷ numbers (file_of GroupCycle (7 ∷ 8 ∷ [])) (replicate 20 0 ++ (7 ∷ 8 ∷ replicate 98 0))
    ∷ numbers (file_of LimitCycle (7 ∷ 8 ∷ [])) (7 ∷ 8 ∷ replicate 648 0)
    -- "then again with transmit clear"
    ∷ numbers (map (λ (kind : FileCycle). word (transmit_clear kind (file_of kind (0xffff ∷ []))) (command_at kind)) (SetupCycle ∷ GroupCycle ∷ LimitCycle ∷ [])) (0x7fff ∷ 0x7fff ∷ 0x7fff ∷ [])
    -- "setup words (0 or 20), group words (0 or 80), limit words (0 or 630)"
    ∷ numbers (map section_count (SetupCycle ∷ GroupCycle ∷ LimitCycle ∷ [])) (20 ∷ 80 ∷ 630 ∷ [])
    -- "decimal", "four lower-case hexadecimal digits": 0, 32767 and 65535, 0x0a9f
    ∷ numbers (decimal 0 ++ decimal 32767 ++ decimal 65535) (48 ∷ 51 ∷ 50 ∷ 55 ∷ 54 ∷ 55 ∷ 54 ∷ 53 ∷ 53 ∷ 51 ∷ 53 ∷ [])
    ∷ numbers (hexadecimal 0x0a9f) (48 ∷ 97 ∷ 57 ∷ 102 ∷ [])
    ∷ []

-- THE TABLE
unfoldable pub cases : List Case
cases = lettered ++ of_words ++ of_motion ++ of_groups ++ of_lengths ++ of_switches ++ of_tests ++ of_cycles ++ of_setup ++ of_group_words ++ of_limit_words ++ of_nudge ++ of_reader ++ of_bus ++ of_trace

-- what a line says of the definitions
abbrev pub Says : Case → Type 0
Says (tach tenths multiplier divider code says) =
    tach_shown (record { multiplier = multiplier; divider = divider; code = code }) tenths ≡ says
Says (speed fast c says) = tenths_of fast c ≡ says
Says (advance a c setpoint says) = moved 1024 a c setpoint ≡ says
Says (pulses on off q k says) =
    positions_with 1024 0 (λ p. pulse_holds 1024 (pos 0) (switch_at 2 q k 0 (on ∷ off ∷ [])) q k (OfMachine (record { 0 = p }))) ≡ says
Says (fits on off q k says) = not (pulse_bad false (ahead 1024 on off) q k) ≡ says
Says (pair on off at says) = holds 1024 on off at ≡ says
Says (group on off steps says) = openings (mode4_group on off) fresh_group steps ≡ says
Says (tests given says) = given ≡ says
Says (numbers given says) = given ≡ says
Says (integers given says) = given ≡ says
