-- 01's sentences on groups, words 112 to 117, MsgIgn and the Preset bit, of the card itself: for every model, every list of calls from power-up and every
-- step or cycle after it.
-- `ahead` is how far one count is ahead of another modulo SF, so the travel from the one to the other. Assumes nothing.
use Prim.Native.Nat.{ℕ, suc, ◌+◌, ◌%◌, ◌<◌}
use mathlib.Core.Path.{◌≡◌, refl, sym, ap, ◌∙◌}
use mathlib.Core.Logic.{◌↔◌, ◌⊎◌, inl, inr}
use mathlib.Core.Bool.{Bool, true, false, not, ◌&&◌, ◌||◌, or-false, and-false}
use mathlib.Core.List.{List, [], ◌∷◌, map}
use native.Mathlib.Omega.{arith}
use lib.ListN.{length, get_or, length-append, length-map, get_or-append, get_or-map}
use lib.Dec.{ltb, eqb}
use borrow.Author.Tests.{ltb-false, eq-eqb, ne_eqb}
use Rattle.std.proofs.lemmas.Bool.{cases_Bool}
use Rattle.rules.specs.declared.GroupPosition.{GroupPosition}
use Rattle.rules.specs.declared.Model.{Model}
use Rattle.rules.specs.declared.Mode.{Mode}
use Rattle.rules.specs.declared.Mode.TheVariants.{Mode0, Mode1, Mode2, Mode3, Mode4, Mode5}
use Rattle.rules.specs.declared.Group.{Group}
use Rattle.rules.specs.declared.Programming.{Programming}
use Rattle.rules.specs.declared.Configuration.{Configuration}
use Rattle.rules.specs.declared.Sample.{Sample}
use Rattle.rules.specs.declared.FileCycle.TheVariants.{SetupCycle, GroupCycle}
use Rattle.rules.specs.declared.Cycle.TheVariants.{OfFile}
use Rattle.rules.specs.declared.Outcome.{Outcome}
use Rattle.rules.specs.declared.Outcome.TheVariants.{Idle, Accepted, Refused}
use Rattle.rules.specs.Words.{word, bit}
use Rattle.rules.specs.Variants.{mode_of, group_mode, group_type}
use Rattle.rules.specs.Counts.{ahead}
use Rattle.rules.specs.Motion.{scale_factor, machine_position, machine_at, divisor, conditions, level, group_input}
use Rattle.rules.specs.Groups.{group_at, presets, group_event, no_position}
use Rattle.rules.specs.Switches.{owner_of, forced_on, admitted, passes, output_rule, rule_at}
use Rattle.rules.specs.Cycle.{number_of, outcome_number, is_accepted, acts}
use Rattle.rules.specs.SetupWords.{setup_errors, setup_of}
use Rattle.rules.specs.FileCycle.{file_length, status_at, file_errors, brought, command, file_cycle, status_words, file_after}
use Rattle.rules.specs.Nudge.{nudge_cycle}
use Rattle.rules.specs.Calls.{Call, Step, FileCall, NudgeCall, ByteCall, sound, configuration_after}
use Rattle.rules.specs.Card.{conditions_now, open_now, group_state_at, file_left, step_call}
use Rattle.rules.specs.Run.{module_after, run, output_bit}
use Rattle.rules.specs.Quant.{no_later}
use Rattle.rules.specs.History.{configuration_of, programming_of, setup_in_force, is_module_start, conditions_in, PastStep, begins_at, takes_at, edge_at, first_edge_at, stop_at}
use Rattle.rules.specs.History.{position_at, dwell_at, past_of, qualifies_at, counts_at, open_at, group_step_in, since_group_start, group_past, position_in, open_in, positions_in, openness_in, last_raw, left_positions, acted, ignored_after, message_ignored}
use Rattle.rules.proofs.Laws.{stored_word}
use Rattle.rules.proofs.Brought.{preset_shows}
use Rattle.rules.proofs.Packing.{get_d_table_0, length_table}
use Rattle.rules.proofs.Past.{Moment, NoLater, later_step}
use Rattle.rules.proofs.Stretch.{LatestSaw}
use Rattle.rules.proofs.Cycles.{file_leaves}
use Rattle.rules.proofs.Programs.{with_setup_lem}
use Rattle.rules.proofs.Agreement.{configuration_is, agrees, open_in_lem}
use Rattle.rules.proofs.Theorem.{conditions_in_lem, raw_is, ignored_is, positions_are, each_output}
use Rattle.rules.proofs.Ranges.{SetupWithin, stored_less_1, ranges}
use Rattle.rules.proofs.Reading.{no_later_reads, mode2_reads, mode3_reads, mode4_reads, mode5_reads, mode5_pressed, mode5_stopped, mode5_begun, LastTaken, last_taken_told, none_taken_told, preset_reads, machine_reads, offset_reads}

-- ---- What the card has of group n, from 0, in a step with the sample s after the calls l

-- whether the group is open
abbrev pub card_open : Model → List Call → Sample → ℕ → Bool
card_open model l s n =
    open_now (conditions_now (run model l).configuration (run model l).state.since s) (group_at (run model l).configuration.programming n) (group_state_at (run model l).state.since n) n

-- the Group Position that the step leaves
abbrev pub card_position : Model → List Call → Sample → ℕ → GroupPosition
card_position model l s n = get_or (step_call (run model l) s).card.state.since.positions n no_position

-- the group's program, and its mode
abbrev pub program : Model → List Call → ℕ → Group
program model l n = group_at (programming_of model l) n

abbrev pub mode_in : Model → List Call → ℕ → Mode
mode_in model l n = group_mode (program model l n)

module _ (model : Model) (l : List Call) (s : Sample) (n : ℕ) (b : n < 6) where
  -- ---- Openness

  pub card_open_lem : card_open model l s n ≡ open_in model l s n
  card_open_lem = rw (configuration_is model l, conditions_in_lem model l s) (open_in_lem model l (run model l).state.since (agrees model l) s n b)

  -- the openness that the output rule reads (`OutputsRight`, Theorem) is that one
  pub open_read : get_or (openness_in model l s) n false ≡ open_in model l s n
  unfolding openness_in
  open_read = get_d_table_0 6 (open_in model l s) false n b

  pub output_open : get_or (openness_in model l s) n false ≡ card_open model l s n
  output_open = open_read ∙ sym card_open_lem

  in_mode : (m : Mode) → mode_in model l n ≡ m → card_open model l s n ≡ open_at m (group_past model l s n)
  unfolding open_in
  in_mode m e = card_open_lem ∙ ap (λ (m : Mode). open_at m (group_past model l s n)) e

  read_by : (P : Type 0) (m : Mode) → mode_in model l n ≡ m → (open_at m (group_past model l s n) ≡ true) ↔ P → (card_open model l s n ≡ true) ↔ P
  read_by P m e r = rw (in_mode m e) r

  -- "Modes 0, 1: always open."
  pub mode_0_open : mode_in model l n ≡ Mode0 → card_open model l s n ≡ true
  unfolding open_at
  mode_0_open e = in_mode Mode0 e

  pub mode_1_open : mode_in model l n ≡ Mode1 → card_open model l s n ≡ true
  unfolding open_at
  mode_1_open e = in_mode Mode1 e

  -- "Mode 2: opened by a taken edge, closed by a dwell's beginning": an edge was taken, and no dwell began in a later step
  pub mode_2_open : mode_in model l n ≡ Mode2 → (card_open model l s n ≡ true) ↔ NoLater takes_at begins_at (group_past model l s n)
  mode_2_open e = read_by _ Mode2 e (mode2_reads (group_past model l s n))

  -- "Mode 3: open while its input is active."
  pub mode_3_open : mode_in model l n ≡ Mode3 → card_open model l s n ≡ level (conditions_in model l s) (group_type (program model l n)) (group_input n)
  unfolding group_past group_step_in group_event
  mode_3_open e = in_mode Mode3 e ∙ mode3_reads (group_step_in model n l s) (since_group_start model l n)

  -- "a Mode 4 group is open exactly when an edge of its input fell in its latest dwell since its last start"
  pub mode_4_open : mode_in model l n ≡ Mode4 → (card_open model l s n ≡ true) ↔ LatestSaw begins_at dwell_at edge_at (group_past model l s n)
  mode_4_open e = read_by _ Mode4 e (mode4_reads (group_past model l s n))

  -- "A Mode 5 group is open exactly when its latest dwell since its last start saw a qualifying step, and no stop came in a later step than the last qualifying
  -- step or counted First Cycle edge, whichever of the two is later."
  pub mode_5_open : mode_in model l n ≡ Mode5
      → (card_open model l s n ≡ true)
      ↔ (LatestSaw begins_at dwell_at qualifies_at (group_past model l s n) × NoLater (λ j. qualifies_at j || counts_at j) stop_at (group_past model l s n))
  mode_5_open e = read_by _ Mode5 e (mode5_reads (group_past model l s n))

  -- 02: "in a step that holds both a stop and a First Cycle edge, the stop is taken first and the edge then counts if a qualifying step came since the dwell
  -- began": with such an edge, in a stop's step or another, the group is open exactly when the latest dwell saw a qualifying step
  pub mode_5_pressed : mode_in model l n ≡ Mode5 → first_edge_at (group_past model l s n) ≡ true
      → (card_open model l s n ≡ true) ↔ LatestSaw begins_at dwell_at qualifies_at (group_past model l s n)
  mode_5_pressed e f = read_by _ Mode5 e (mode5_pressed (group_past model l s n) f)

  -- "A stop closes.": without an edge in its own step, as where First Cycle is held from before, and with one where a dwell begins in that step
  pub mode_5_stopped : mode_in model l n ≡ Mode5 → stop_at (group_past model l s n) ≡ true → first_edge_at (group_past model l s n) ≡ false
      → card_open model l s n ≡ false
  mode_5_stopped e z f = in_mode Mode5 e ∙ mode5_stopped (group_past model l s n) z f

  pub mode_5_begun : mode_in model l n ≡ Mode5 → stop_at (group_past model l s n) ≡ true → begins_at (group_past model l s n) ≡ true
      → card_open model l s n ≡ false
  mode_5_begun e z f = in_mode Mode5 e ∙ mode5_begun (group_past model l s n) z f

  -- ---- Positions

  -- a group of Mode 1 or 2 is used
  preset_used : (m : Mode) → mode_in model l n ≡ m → (m ≡ Mode0 → ⊥) → (program model l n).used ≡ true
  unfolding mode_of
  preset_used m e other =
      elim (cases_Bool (program model l n).used) [ inl u ↦ u | inr u ↦ absurd (other (sym e ∙ ap mode_of (((ranges model l).groups n).unused u))) ]

  preset_mode : (mode_in model l n ≡ Mode1) ⊎ (mode_in model l n ≡ Mode2) → ((program model l n).used ≡ true) × (presets (mode_in model l n) ≡ true)
  unfolding presets
  preset_mode (inl e) = (preset_used Mode1 e (λ z. let d : ◌≡◌ {A = ℕ} 0 1 = cc in omega arith), rw e)
  preset_mode (inr e) = (preset_used Mode2 e (λ z. let d : ◌≡◌ {A = ℕ} 0 1 = cc in omega arith), rw e)

  module _ (ok : sound (configuration_of model l) s ≡ true) where
    -- the position that the output rule reads is the one that the step leaves
    pub output_position : card_position model l s n ≡ get_or (positions_in model l s) n no_position
    unfolding run module_after left_positions
    output_position = ap (λ (ps : List GroupPosition). get_or ps n no_position) (positions_are model (Step s ∷ l)) ∙ rw ok

    pub card_position_lem : card_position model l s n ≡ position_in model l s n
    unfolding positions_in
    card_position_lem = output_position ∙ get_d_table_0 6 (position_in model l s) no_position n b

    used_position : (program model l n).used ≡ true → card_position model l s n ≡ position_at (group_past model l s n)
    unfolding position_in
    used_position u = card_position_lem ∙ rw u

    -- "0 for a group unused then"
    pub unused_position : (program model l n).used ≡ false → (card_position model l s n).0 ≡ 0
    unfolding position_in
    unused_position u = ap (λ (p : GroupPosition). p.0) card_position_lem ∙ rw u

    -- "In Modes 1 and 2 the position is the preset in force at the last edge taken since the last start, plus the travel from there, modulo the scale factor"
    pub preset_position_lem : (mode_in model l n ≡ Mode1) ⊎ (mode_in model l n ≡ Mode2) → (taken : PastStep) → LastTaken taken (group_past model l s n)
        → (card_position model l s n).0
        ≡ (taken.program.offset + ahead (scale_factor (setup_in_force model l)) taken.event.machine.0 (machine_at (configuration_of model l) s).0)
        % scale_factor (setup_in_force model l)
    unfolding group_past group_step_in past_of group_event conditions_in conditions
    preset_position_lem m taken e =
        let f = preset_mode m in
        ap (λ (p : GroupPosition). p.0) (used_position f.0) ∙ preset_reads _ (past_of (since_group_start model l n)) taken f.1 (last_taken_told (group_past model l s n) taken e)

    -- "with no such edge it is the machine's"
    pub machine_position_lem : (mode_in model l n ≡ Mode1) ⊎ (mode_in model l n ≡ Mode2) → ((k : List PastStep) → Moment k (group_past model l s n) → takes_at k ≡ false)
        → (card_position model l s n).0 ≡ (machine_at (configuration_of model l) s).0
    unfolding group_past group_step_in past_of group_event conditions_in conditions
    machine_position_lem m e =
        let f = preset_mode m in
        ap (λ (p : GroupPosition). p.0) (used_position f.0) ∙ machine_reads _ (past_of (since_group_start model l n)) f.1 (none_taken_told (group_past model l s n) e)

    -- "Modes 0, 3, 4, 5: Group Position = (Machine Position + group offset) mod SF."
    pub offset_position : (program model l n).used ≡ true → presets (mode_in model l n) ≡ false
        → (card_position model l s n).0 ≡ ((machine_at (configuration_of model l) s).0 + (program model l n).offset) % scale_factor (setup_in_force model l)
    unfolding group_past group_step_in past_of group_event conditions_in conditions
    offset_position u m = ap (λ (p : GroupPosition). p.0) (used_position u) ∙ offset_reads _ (past_of (since_group_start model l n)) m

-- in Group Mode an output whose group is closed is on only by force
pub closed_dark : (model : Model) (l : List Call) (s : Sample) (n g : ℕ) → n < 32 → g < 6 → (setup_in_force model l).independent ≡ false
    → owner_of (programming_of model l) n ≡ suc g → card_open model l s g ≡ false → forced_on s n ≡ false → output_bit (step_call (run model l) s).answer n ≡ false
unfolding rule_at output_rule passes admitted conditions_in conditions
closed_dark model l s n g b c mode owner shut unforced =
    each_output model l s n b ∙ rw (owner, output_open model l s g c ∙ shut, mode, unforced) (simp and-false)

-- ---- Words 112 to 117

left_six : (model : Model) (l : List Call) → length (left_positions model l) ≡ 6
unfolding left_positions positions_in
left_six model [] = refl
left_six model (Step s ∷ l) = elim (cases_Bool (sound (configuration_of model l) s)) [ inl q ↦ rw q (length_table 6 0 (position_in model l s)) | inr q ↦ rw q ]
left_six model (FileCall kind file ∷ l) = elim (cases_Bool (is_module_start (configuration_of model l) (FileCall kind file))) [ inl q ↦ rw q | inr q ↦ rw q (left_six model l) ]
left_six model (NudgeCall w ∷ l) = left_six model l
left_six model (ByteCall a ∷ l) = left_six model l

-- "Words 112 to 117 are the Group Positions that the last step left under its own programming; 0 for a group unused then, or with no step since the module
-- start.": in the file after an acting group cycle, whatever its outcome
pub position_words : (model : Model) (l : List Call) (file : List ℕ) (n : ℕ) → length file ≡ 120
    → acts (OfFile GroupCycle) (command GroupCycle file) (configuration_of model l) ≡ true → n < 6
    → word (file_left GroupCycle (run model l) file) (112 + n) ≡ (get_or (left_positions model l) n no_position).0
unfolding file_left file_after file_length status_at status_words
position_words model l file n size a b =
    let six = left_six model l in
    let told : List ℕ = map (λ (p : GroupPosition). p.0) (left_positions model l) in
    let long : length told ≡ 6 = length-map (left_positions model l) (λ (p : GroupPosition). p.0) ∙ six in
    let i : 112 + n ≡ 110 + suc (suc n) = omega arith in
    rw (configuration_is model l, positions_are model l, eq-eqb (length file) 120 size, a, i)
    (stored_word 110 _ file (suc (suc n)) (omega (arith, length-append told (0 ∷ 0 ∷ []))) (omega arith)
    ∙ get_or-append told (0 ∷ 0 ∷ []) 0 n (omega arith)
    ∙ get_or-map (λ (p : GroupPosition). p.0) (left_positions model l) n no_position)

-- ---- MsgIgn

-- of a moment of the calls: its call is a cycle with such an outcome
abbrev pub cycle_at : (Outcome → Bool) → Model → List Call → Bool
cycle_at P model [] = false
cycle_at P model (Step s ∷ l) = false
cycle_at P model (FileCall kind file ∷ l) = P (file_cycle kind (configuration_of model l) file).outcome
cycle_at P model (NudgeCall w ∷ l) = P (nudge_cycle (configuration_of model l) w).outcome
cycle_at P model (ByteCall a ∷ l) = false

abbrev pub answered5 : Outcome → Bool
answered5 outcome = eqb (outcome_number outcome) 5

ignored_step : (outcome : Outcome) (before : Bool) → ignored_after outcome before ≡ (answered5 outcome || (not (acted outcome) && before))
unfolding ignored_after acted
ignored_step Idle before = refl
ignored_step Accepted before = refl
ignored_step (Refused why) before =
    elim (cases_Bool (ltb 2 (number_of why))) [
      | inl q ↦ rw q (sym (or-false (eqb (number_of why) 5)))
      | inr q ↦ let m = ltb-false 2 (number_of why) q in rw (q, ne_eqb (number_of why) 5 (λ e. omega arith))
    ]

no_later_lem : (model : Model) (l : List Call) → message_ignored model l ≡ no_later (cycle_at answered5 model) (cycle_at acted model) l
unfolding message_ignored
no_later_lem model [] = unfold no_later in refl
no_later_lem model (Step s ∷ l) = no_later_lem model l ∙ sym (later_step (cycle_at answered5 model) (cycle_at acted model) (Step s) l)
no_later_lem model (FileCall kind file ∷ l) =
    ignored_step (file_cycle kind (configuration_of model l) file).outcome (message_ignored model l)
    ∙ rw (no_later_lem model l) (sym (later_step (cycle_at answered5 model) (cycle_at acted model) (FileCall kind file) l))
no_later_lem model (NudgeCall w ∷ l) =
    ignored_step (nudge_cycle (configuration_of model l) w).outcome (message_ignored model l)
    ∙ rw (no_later_lem model l) (sym (later_step (cycle_at answered5 model) (cycle_at acted model) (NudgeCall w) l))
no_later_lem model (ByteCall a ∷ l) = no_later_lem model l ∙ sym (later_step (cycle_at answered5 model) (cycle_at acted model) (ByteCall a) l)

-- 5 "Sets MsgIgn": it stands exactly when a cycle was answered 5 and no later one acted
pub message_ignored_lem : (model : Model) (l : List Call) → ((run model l).configuration.ignored ≡ true) ↔ NoLater (cycle_at answered5 model) (cycle_at acted model) l
message_ignored_lem model l =
    rw (configuration_is model l, ignored_is model l, no_later_lem model l) (no_later_reads (cycle_at answered5 model) (cycle_at acted model) l)

-- ---- An accepted setup cycle

setup_brought : (model : Model) (l : List Call) (file : List ℕ) → is_accepted (file_cycle SetupCycle (configuration_of model l) file).outcome ≡ true
    → setup_in_force model (FileCall SetupCycle file ∷ l) ≡ setup_of file (last_raw model l)
unfolding configuration_of configuration_after brought
setup_brought model l file a =
    let g : Configuration = configuration_of model l in
    let e : (file_cycle SetupCycle g file).configuration.programming ≡ brought SetupCycle g file = rw a at (file_leaves SetupCycle g file).programming in
    ap (λ (p : Programming). p.setup) e
    ∙ with_setup_lem (λ p. p.setup ≡ setup_of file g.raw) g.programming (setup_of file g.raw) refl (λ _. refl)
    ∙ ap (setup_of file) (raw_is model l)

-- SF and the divisor in force are then the file's
pub setup_taken : (model : Model) (l : List Call) (file : List ℕ) → is_accepted (file_cycle SetupCycle (configuration_of model l) file).outcome ≡ true
    → (scale_factor (setup_in_force model (FileCall SetupCycle file ∷ l)) ≡ word file 1)
    × (divisor (setup_in_force model (FileCall SetupCycle file ∷ l)).scalars ≡ word file 9)
setup_taken model l file a =
    let passed : eqb (setup_errors file) 0 ≡ true = unfold file_errors in (file_leaves SetupCycle (configuration_of model l) file).passed a in
    rw (setup_brought model l file a) (stored_less_1 file (last_raw model l) passed)

preset_below : (file : List ℕ) (raw : ℕ) → SetupWithin (setup_of file raw) → word file 2 < word file 1
unfolding setup_of
preset_below file raw k =
    let a = k.least in
    let b = k.preset in
    omega arith

-- "The Preset bit replaces the offset so that Machine Position equals the preset at the raw of the last step since power-up that was not answered 11 (0 if none)."
pub preset_bit_lem : (model : Model) (l : List Call) (file : List ℕ) → is_accepted (file_cycle SetupCycle (configuration_of model l) file).outcome ≡ true
    → bit (word file 0) 1 ≡ true
    → (machine_position (run model (FileCall SetupCycle file ∷ l)).configuration.programming.setup (last_raw model l)).0 ≡ word file 2
preset_bit_lem model l file a q =
    let raw : ℕ = last_raw model l in
    let k : SetupWithin (setup_of file raw) = rw (setup_brought model l file a) at (ranges model (FileCall SetupCycle file ∷ l)).setup in
    rw (configuration_is model (FileCall SetupCycle file ∷ l), setup_brought model l file a) (preset_shows file raw q (preset_below file raw k))
