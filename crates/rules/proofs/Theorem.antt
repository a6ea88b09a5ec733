-- THE OUTPUT HISTORY: for every model and every list of calls from power-up, each step's answer is what 01 says of the list. Assumes nothing.
use Prim.Native.Nat.{ℕ, ◌-◌, ◌<◌}
use mathlib.Core.Path.{◌≡◌, refl, ap, ◌∙◌}
use mathlib.Core.Bool.{Bool, true, false, cond, ◌&&◌}
use mathlib.Core.List.{List, [], ◌∷◌}
use mathlib.Core.Logic.{inl, inr}
use native.Mathlib.Omega.{arith}
use lib.ListN.{length}
use lib.Dec.{ltb, eqb}
use borrow.Author.Tests.{lt-ltb, le-ltb}
use Rattle.std.specs.List.{sum}
use Rattle.std.proofs.lemmas.Bool.{cases_Bool, cases_lt}
use Rattle.rules.specs.declared.Model.{Model}
use Rattle.rules.specs.declared.Programming.{Programming}
use Rattle.rules.specs.declared.Configuration.{Configuration}
use Rattle.rules.specs.declared.SinceStart.{SinceStart}
use Rattle.rules.specs.declared.Module.{Module}
use Rattle.rules.specs.declared.Sample.{Sample}
use Rattle.rules.specs.declared.FileCycle.{FileCycle}
use Rattle.rules.specs.declared.FileCycle.TheVariants.{SetupCycle, GroupCycle, LimitCycle}
use Rattle.rules.specs.declared.Cycle.{Cycle}
use Rattle.rules.specs.declared.Cycle.TheVariants.{OfFile, NudgeCycle}
use Rattle.rules.specs.declared.Refusal.TheVariants.{NudgeOutput, NudgeSetpoint}
use Rattle.rules.specs.declared.Decision.{Decision}
use Rattle.rules.specs.declared.Answer.{Answer}
use Rattle.rules.specs.Words.{bit, word_of, table, forced}
use Rattle.rules.specs.Variants.{model_known, model_of}
use Rattle.rules.specs.Groups.{no_position, of_group}
use Rattle.rules.specs.Switches.{present, limit_of, owner_of, rule_at, forced_off, forced_on, tests_at, pair_tests, output_on, output_words, answer_of}
use Rattle.rules.specs.Motion.{scale_factor, conditions, fault_conditions}
use Rattle.rules.specs.Cycle.{is_accepted, number_of, transmit_bit, stands, acts, underway, idle_cycle, cycle, turned_away, ignored_cycle, refused_cycle, accepted_cycle, judged}
use Rattle.rules.specs.FileCycle.{file_length, length_refusal, data_refusal, barred, file_errors, brought, command, clears, file_acts, file_cycle}
use Rattle.rules.specs.Nudge.{nudge_clear_bit, nudge_output, nudge_pair, nudge_output_bad, nudge_setpoint_bad, nudged_programming, nudge_acts, nudge_cycle}
use Rattle.rules.specs.Bus.{shown_by}
use Rattle.rules.specs.Calls.{Read, Write, Call, Step, FileCall, NudgeCall, ByteCall, fresh_configuration, sound, step_configuration, configuration_after}
use Rattle.rules.specs.Card.{conditions_now, rule_now, outputs_now, tests_now, module_start, group_start, limit_start, start_of, since_after, fresh_module, powered_up, file_call, nudge_call, since_now, step_answer, kept_after, step_state, step_call, write_call}
use Rattle.rules.specs.Run.{accessed, module_after, run, answers, output_bit, EachStep}
use Rattle.rules.specs.History.{configuration_of, programming_of, conditions_in, positions_in, openness_in, lasts_in, rule_in, outputs_in, tests_in, last_position, previous_virtuals, expected_answer, expected_answers, is_module_start, last_raw, left_positions, acted, ignored_after, message_ignored}
use Rattle.rules.proofs.Packing.{packed_bit, packed_same}
use Rattle.rules.proofs.Programs.{model_is}
use Rattle.rules.proofs.OutputRule.{same_conditions, rule_alike}
use Rattle.rules.proofs.Agreement.{configuration_is, agrees, conditions_are, positions_in_lem, openness_in_lem, lasting_in}

-- ---- The outputs

module _ (model : Model) (l : List Call) (s : Sample) where
  abbrev g : Configuration
  g = configuration_of model l

  abbrev p : Programming
  p = programming_of model l

  abbrev x : SinceStart
  x = (run model l).state.since

  pub conditions_in_lem : conditions_now g x s ≡ conditions_in model l s
  conditions_in_lem = conditions_are model l x (agrees model l) s

  rule_is : (n : ℕ) → n < 32 → rule_now p (conditions_now g x s) x n ≡ rule_in model l s n
  unfolding rule_now rule_in rule_at
  rule_is n b =
      rw (conditions_in_lem, positions_in_lem model l x (agrees model l) s, openness_in_lem model l x (agrees model l) s)
      (rule_alike (conditions_in model l s).independent (conditions_in model l s) (conditions_in model l s) (limit_of p n)
      (of_group no_position (positions_in model l s) (owner_of p n)) _ (of_group false (openness_in model l s) (owner_of p n)) _ _ _ n refl
      (same_conditions (conditions_in model l s) (conditions_in model l s) n refl) (λ _. refl) (λ _. refl) (lasting_in model l x (agrees model l) s n b))

  -- an output before its forces, and after them
  abbrev on_now : ℕ → Bool
  on_now n = sound g s && rule_now p (conditions_now g x s) x n

  abbrev on_in : ℕ → Bool
  on_in n = sound g s && rule_in model l s n

  output_is : (n : ℕ) → n < 32 → output_on model s on_now n ≡ output_on model s on_in n
  unfolding output_on
  output_is n b = rw (rule_is n b)

  outputs_are : outputs_now g x s ≡ outputs_in model l s
  unfolding outputs_now outputs_in output_words
  outputs_are = rw (model_is model l) (λ i. record {
    real = packed_same 16 0 (output_on model s on_now) (output_on model s on_in) (λ k a b. output_is k (omega arith)) i;
    virtuals = packed_same 16 16 (output_on model s on_now) (output_on model s on_in) (λ k a b. output_is k (omega arith)) i;
  })

  tests_are : tests_now g x s ≡ tests_in model l s
  unfolding tests_now tests_in
  tests_are = rw (model_is model l, conditions_in_lem, positions_in_lem model l x (agrees model l) s)

-- ---- What runs since power-up

pub position_is : (model : Model) (l : List Call) → (run model l).state.kept.shown.position ≡ last_position model l
unfolding run accessed module_after last_position fresh_module step_call step_state step_answer kept_after shown_by answer_of conditions_now conditions fault_conditions file_call nudge_call write_call
position_is model [] = refl
position_is model (Step s ∷ l) =
    rw (configuration_is model l) (elim (cases_Bool (sound (configuration_of model l) s)) [ inl q ↦ rw q | inr q ↦ rw q (position_is model l) ])
position_is model (FileCall kind file ∷ l) = position_is model l
position_is model (NudgeCall w ∷ l) = position_is model l
position_is model (ByteCall (Read n) ∷ l) = position_is model l
position_is model (ByteCall (Write n v) ∷ l) = position_is model l

pub virtuals_are : (model : Model) (l : List Call) → (run model l).state.kept.shown.virtuals ≡ previous_virtuals model l
unfolding run accessed module_after previous_virtuals fresh_module step_call step_state step_answer kept_after shown_by answer_of file_call nudge_call write_call
virtuals_are model [] = refl
virtuals_are model (Step s ∷ l) = rw (configuration_is model l, outputs_are model l s)
virtuals_are model (FileCall kind file ∷ l) = virtuals_are model l
virtuals_are model (NudgeCall w ∷ l) = virtuals_are model l
virtuals_are model (ByteCall (Read n) ∷ l) = virtuals_are model l
virtuals_are model (ByteCall (Write n v) ∷ l) = virtuals_are model l

-- ---- What a cycle reads and tells of the past

-- what a cycle that acts or not does to the last raw and to MsgIgn
record Tells (g : Configuration) (acting : Bool) (r : Decision) : Type 0 where
  raw : r.configuration.raw ≡ g.raw
  ignored : r.configuration.ignored ≡ ignored_after r.outcome g.ignored
  outcome : acted r.outcome ≡ acting

cycle_tells : (kind : Cycle) (command : ℕ) (clear : Bool) (act : Configuration → Decision) (g : Configuration)
    → Tells g true (act (underway kind clear g)) → Tells g (acts kind command g) (cycle kind command clear act g)
unfolding cycle idle_cycle acted ignored_after
cycle_tells kind command clear act g k =
    elim (cases_Bool (acts kind command g)) [
      | inl a ↦ rw a k
      | inr a ↦
          elim (cases_Bool (bit command transmit_bit)) [
            | inl b ↦ rw (a, b) (record { raw = refl; ignored = refl; outcome = refl })
            | inr b ↦ rw (a, b) (record { raw = refl; ignored = refl; outcome = refl })
          ]
    ]

file_acts_lem : (kind : FileCycle) (c : Cycle) (clear : Bool) (g : Configuration) (file : List ℕ) → Tells g true (file_acts kind file (underway c clear g))
unfolding file_acts judged ignored_cycle accepted_cycle refused_cycle underway acted ignored_after number_of data_refusal
file_acts_lem kind c clear g file =
    let o : Configuration = underway c clear g in
    go kind o refl refl (barred kind o) (eqb (file_errors kind o file) 0) (brought kind o file)
  where
    go : (kind : FileCycle) (o : Configuration) → o.raw ≡ g.raw → o.ignored ≡ false → (a b : Bool) (p : Programming)
        → Tells g true (cond a (ignored_cycle o) (cond b (accepted_cycle p o) (refused_cycle (data_refusal kind) o)))
    go kind o r i true b p = record { raw = r; ignored = refl; outcome = refl }
    go kind o r i false true p = record { raw = r; ignored = i; outcome = refl }
    go SetupCycle o r i false false p = record { raw = r; ignored = i; outcome = refl }
    go GroupCycle o r i false false p = record { raw = r; ignored = i; outcome = refl }
    go LimitCycle o r i false false p = record { raw = r; ignored = i; outcome = refl }

file_tells : (kind : FileCycle) (g : Configuration) (file : List ℕ)
    → Tells g (eqb (length file) (file_length kind) && acts (OfFile kind) (command kind file) g) (file_cycle kind g file)
unfolding file_cycle turned_away length_refusal acted ignored_after number_of
file_tells kind g file =
    go kind (eqb (length file) (file_length kind)) (acts (OfFile kind) (command kind file) g)
    (cycle_tells (OfFile kind) (command kind file) (clears (command kind file)) (file_acts kind file) g (file_acts_lem kind (OfFile kind) (clears (command kind file)) g file))
  where
    go : (kind : FileCycle) (fits a : Bool) {r : Decision} → Tells g a r → Tells g (fits && a) (cond fits r (turned_away (length_refusal kind) g))
    go kind true a k = k
    go SetupCycle false a k = record { raw = refl; ignored = refl; outcome = refl }
    go GroupCycle false a k = record { raw = refl; ignored = refl; outcome = refl }
    go LimitCycle false a k = record { raw = refl; ignored = refl; outcome = refl }

nudge_tells : (g : Configuration) (w : ℕ) → Tells g (acts NudgeCycle w g) (nudge_cycle g w)
unfolding nudge_cycle nudge_acts ignored_cycle accepted_cycle refused_cycle underway acted ignored_after number_of
nudge_tells g w =
    let o : Configuration = underway NudgeCycle (bit w nudge_clear_bit) g in
    cycle_tells NudgeCycle w (bit w nudge_clear_bit) (nudge_acts w) g
    (go o refl refl (bit w nudge_clear_bit) (stands o.errors) (nudge_output_bad o.programming w)
    (nudge_setpoint_bad (scale_factor o.programming.setup) (limit_of o.programming (nudge_output w)) (nudge_pair w) w))
  where
    go : (o : Configuration) → o.raw ≡ g.raw → o.ignored ≡ false → (a b c d : Bool)
        → Tells g true
        (cond a (accepted_cycle o.programming o)
        (cond b (ignored_cycle o)
        (cond c (refused_cycle NudgeOutput o)
        (cond d (refused_cycle NudgeSetpoint o) (accepted_cycle (nudged_programming o.programming w) o)))))
    go o r i true b c d = record { raw = r; ignored = i; outcome = refl }
    go o r i false true c d = record { raw = r; ignored = refl; outcome = refl }
    go o r i false false true d = record { raw = r; ignored = i; outcome = refl }
    go o r i false false false true = record { raw = r; ignored = i; outcome = refl }
    go o r i false false false false = record { raw = r; ignored = i; outcome = refl }

-- a cycle acted exactly where its file is as long as it must be, transmit is set and acknowledge clear
pub file_acted : (kind : FileCycle) (g : Configuration) (file : List ℕ)
    → acted (file_cycle kind g file).outcome ≡ (eqb (length file) (file_length kind) && acts (OfFile kind) (command kind file) g)
file_acted kind g file = (file_tells kind g file).outcome

pub nudge_acted : (g : Configuration) (w : ℕ) → acted (nudge_cycle g w).outcome ≡ acts NudgeCycle w g
nudge_acted g w = (nudge_tells g w).outcome

-- "the raw of the last step since power-up that was not answered 11 (0 if none)", which the Preset bit reads
pub raw_is : (model : Model) (l : List Call) → (configuration_of model l).raw ≡ last_raw model l
unfolding configuration_of configuration_after fresh_configuration step_configuration last_raw
raw_is model [] = refl
raw_is model (Step s ∷ l) = elim (cases_Bool (sound (configuration_of model l) s)) [ inl q ↦ rw q | inr q ↦ rw q (raw_is model l) ]
raw_is model (FileCall kind file ∷ l) = (file_tells kind (configuration_of model l) file).raw ∙ raw_is model l
raw_is model (NudgeCall w ∷ l) = (nudge_tells (configuration_of model l) w).raw ∙ raw_is model l
raw_is model (ByteCall a ∷ l) = raw_is model l

-- 5 "Sets MsgIgn": it is set exactly when the last acting cycle was answered 5
pub ignored_is : (model : Model) (l : List Call) → (configuration_of model l).ignored ≡ message_ignored model l
unfolding configuration_of configuration_after fresh_configuration step_configuration message_ignored
ignored_is model [] = refl
ignored_is model (Step s ∷ l) = elim (cases_Bool (sound (configuration_of model l) s)) [ inl q ↦ rw q (ignored_is model l) | inr q ↦ rw q (ignored_is model l) ]
ignored_is model (FileCall kind file ∷ l) =
    let g : Configuration = configuration_of model l in
    (file_tells kind g file).ignored ∙ ap (ignored_after (file_cycle kind g file).outcome) (ignored_is model l)
ignored_is model (NudgeCall w ∷ l) =
    let g : Configuration = configuration_of model l in
    (nudge_tells g w).ignored ∙ ap (ignored_after (nudge_cycle g w).outcome) (ignored_is model l)
ignored_is model (ByteCall a ∷ l) = ignored_is model l

-- a cycle that is no module start leaves the positions, accepted or not
same_positions : (q : Bool) (started x : SinceStart) → started.positions ≡ x.positions → (cond q started x).positions ≡ x.positions
same_positions true started x e = e
same_positions false started x e = refl

-- the Group Positions "that the last step left under its own programming", 0 "with no step since the module start"
pub positions_are : (model : Model) (l : List Call) → (run model l).state.since.positions ≡ left_positions model l
unfolding run accessed module_after left_positions is_module_start fresh_module module_start step_call step_state since_now since_after file_call start_of group_start limit_start nudge_call write_call
positions_are model [] = refl
positions_are model (Step s ∷ l) =
    rw (configuration_is model l, conditions_in_lem model l s)
    (elim (cases_Bool (sound (configuration_of model l) s)) [ inl q ↦ rw q (positions_in_lem model l (run model l).state.since (agrees model l) s) | inr q ↦ rw q ])
positions_are model (FileCall SetupCycle file ∷ l) =
    rw (configuration_is model l)
    (elim (cases_Bool (is_accepted (file_cycle SetupCycle (configuration_of model l) file).outcome)) [ inl q ↦ rw q | inr q ↦ rw q (positions_are model l) ])
positions_are model (FileCall GroupCycle file ∷ l) =
    let x : SinceStart = (run model l).state.since in
    same_positions (is_accepted (file_cycle GroupCycle (run model l).configuration file).outcome) (group_start x) x refl ∙ positions_are model l
positions_are model (FileCall LimitCycle file ∷ l) =
    let x : SinceStart = (run model l).state.since in
    same_positions (is_accepted (file_cycle LimitCycle (run model l).configuration file).outcome) (limit_start x) x refl ∙ positions_are model l
positions_are model (NudgeCall w ∷ l) =
    let x : SinceStart = (run model l).state.since in
    same_positions (is_accepted (nudge_cycle (run model l).configuration w).outcome) x x refl ∙ positions_are model l
positions_are model (ByteCall (Read n) ∷ l) = positions_are model l
positions_are model (ByteCall (Write n v) ∷ l) = positions_are model l

-- ---- The theorem

-- the latest call first: what a step after any list of calls answers is what 01 says of it
pub history : (model : Model) (l : List Call) (s : Sample) → (step_call (run model l) s).answer ≡ expected_answer model l s
unfolding step_call step_answer expected_answer
history model l s = rw (configuration_is model l, outputs_are model l s, tests_are model l s, conditions_in_lem model l s, position_is model l, virtuals_are model l)

-- the answers of the calls after `past`
pub answers_from : (model : Model) (past calls : List Call) → answers (run model past) calls ≡ expected_answers model past calls
unfolding answers expected_answers run
answers_from model past [] = refl
answers_from model past (Step s ∷ calls) = rw (history model past s, answers_from model (Step s ∷ past) calls)
answers_from model past (FileCall kind file ∷ calls) = answers_from model (FileCall kind file ∷ past) calls
answers_from model past (NudgeCall w ∷ calls) = answers_from model (NudgeCall w ∷ past) calls
answers_from model past (ByteCall a ∷ calls) = answers_from model (ByteCall a ∷ past) calls

-- power-up with a module's number, whatever the place held
pub powered_up_lem : (x : Module) (n : ℕ) → model_known n ≡ true → (powered_up x n).card ≡ fresh_module (model_of n)
unfolding powered_up
powered_up_lem x n k = rw k

-- the module that power-up gave, through a list of calls, the latest first: what is said of `run` is said of it
abbrev pub run_from : Module → List Call → Module
run_from x [] = x
run_from x (call ∷ l) = module_after (run_from x l) call

pub run_from_lem : (x : Module) (n : ℕ) → model_known n ≡ true → (l : List Call) → run_from (powered_up x n).card l ≡ run (model_of n) l
unfolding run
run_from_lem x n k [] = powered_up_lem x n k
run_from_lem x n k (call ∷ l) = ap (λ (m : Module). module_after m call) (run_from_lem x n k l)

-- in the order of time: a fresh module's answers to the steps of any list of calls are what 01 says of them
pub every_answer : (x : Module) (n : ℕ) → model_known n ≡ true → (calls : List Call) → answers (powered_up x n).card calls ≡ expected_answers (model_of n) [] calls
unfolding run
every_answer x n k calls = rw (powered_up_lem x n k) (answers_from (model_of n) [] calls)

-- ---- By outputs

-- of two words packed from outputs, bit n is output n
word_bit : (output : ℕ → Bool) (n : ℕ) → n < 32 → cond (ltb n 16) (bit (word_of 0 output) n) (bit (word_of 16 output) (n - 16)) ≡ output n
word_bit output n b =
    elim (cases_lt n 16) [
      | inl h ↦ rw (lt-ltb n 16 h) (packed_bit 16 0 n output h ∙ ap output (omega arith))
      | inr h ↦ rw (le-ltb n 16 h) (packed_bit 16 16 (n - 16) output (omega arith) ∙ ap output (omega arith))
    ]

-- Of a step after the calls `l`, the latest first, and of its answer: the bit of each of the 32 outputs, counted from 0, is on exactly when the output is
-- present and 01's rule holds by the history: not forced off, and forced on or, in a step not answered 11, the switch holds, the group is open and what is
-- ANDed holds.
abbrev pub OutputsRight : Model → List Call → Sample → Answer → Type 0
OutputsRight model l s a =
    (n : ℕ) → n < 32
    → output_bit a n
    ≡ (present model n
    && forced (forced_off s n) (forced_on s n)
    (sound (configuration_of model l) s && rule_at (programming_of model l) (conditions_in model l s) (positions_in model l s) (openness_in model l s) (lasts_in model l s) n))

-- THE MAIN STATEMENT: so it is for every model, every list of calls from power-up and every sample
pub each_output : (model : Model) (l : List Call) (s : Sample) → OutputsRight model l s (step_call (run model l) s).answer
unfolding expected_answer answer_of outputs_in output_words output_on rule_in
each_output model l s n b = ap (λ (a : Answer). output_bit a n) (history model l s) ∙ word_bit (output_on model s (on_in model l s)) n b

-- what is so of a step after every list of calls is so of each step in the order of time: for every number that power-up takes, whatever the place held
module _ (model : Model) (P : List Call → Sample → Answer → Type 0) (each : (l : List Call) (s : Sample) → P l s (step_call (run model l) s).answer) where
  each_from : (past calls : List Call) → EachStep P past (run model past) calls
  unfolding run
  each_from past [] = tt
  each_from past (Step s ∷ calls) = (each past s, each_from (Step s ∷ past) calls)
  each_from past (FileCall kind file ∷ calls) = each_from (FileCall kind file ∷ past) calls
  each_from past (NudgeCall w ∷ calls) = each_from (NudgeCall w ∷ past) calls
  each_from past (ByteCall a ∷ calls) = each_from (ByteCall a ∷ past) calls

  every_from : (x : Module) (n : ℕ) → model_known n ≡ true → model_of n ≡ model → (calls : List Call) → EachStep P [] (powered_up x n).card calls
  unfolding run
  every_from x n k e calls = rw (powered_up_lem x n k, e) (each_from [] calls)

-- the same in the order of time: for every number that power-up takes, whatever the place held, and every list of calls, of each step in it
pub every_output : (x : Module) (n : ℕ) → model_known n ≡ true → (calls : List Call) → EachStep (OutputsRight (model_of n)) [] (powered_up x n).card calls
every_output x n k calls = every_from (model_of n) (OutputsRight (model_of n)) (each_output (model_of n)) x n k refl calls

-- ---- By pair tests

-- Of a step after the calls `l`, the latest first, and of its answer: the number of pair tests is the sum of what 02 counts of each of the 32 outputs, under the
-- programming, c and positions that the list tells; 0 in a step answered 11.
abbrev pub TestsRight : Model → List Call → Sample → Answer → Type 0
TestsRight model l s a =
    a.tests
    ≡ cond (sound (configuration_of model l) s) (sum (table 32 0 (tests_at model (programming_of model l) (conditions_in model l s) (positions_in model l s)))) 0

pub each_tests : (model : Model) (l : List Call) (s : Sample) → TestsRight model l s (step_call (run model l) s).answer
unfolding expected_answer answer_of tests_in pair_tests
each_tests model l s = ap (λ (a : Answer). a.tests) (history model l s)

-- the same in the order of time
pub every_tests : (x : Module) (n : ℕ) → model_known n ≡ true → (calls : List Call) → EachStep (TestsRight (model_of n)) [] (powered_up x n).card calls
every_tests x n k calls = every_from (model_of n) (TestsRight (model_of n)) (each_tests (model_of n)) x n k refl calls
