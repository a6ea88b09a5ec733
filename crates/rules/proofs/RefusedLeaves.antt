-- Demand 1, what a refused or Idle cycle leaves of the module, over the definitions that the contracts cite, for every module, file and word. Numbers, lengths
-- and places are written out. Assumes nothing.
use Prim.Native.Nat.{ℕ}
use mathlib.Core.Bool.{Bool, true, false, cond, not, ◌&&◌, ◌||◌}
use mathlib.Core.List.{List}
use mathlib.Core.Logic.{◌⊎◌, ⊎_elim}
use mathlib.Core.Path.{◌≡◌, refl, ap, ◌∙◌}
use borrow.Author.Tests.{eq-eqb, ne_eqb, not-true, not-false}
use lib.ListN.{length}
use Rattle.std.proofs.lemmas.Bool.{and_parts, and_from, or_parts}
use Rattle.rules.specs.declared.Errors.{Errors}
use Rattle.rules.specs.declared.Acknowledges.{Acknowledges}
use Rattle.rules.specs.declared.Configuration.{Configuration}
use Rattle.rules.specs.declared.FileCycle.{FileCycle}
use Rattle.rules.specs.declared.FileCycle.TheVariants.{SetupCycle, GroupCycle, LimitCycle}
use Rattle.rules.specs.declared.Cycle.{Cycle}
use Rattle.rules.specs.declared.Cycle.TheVariants.{OfFile, NudgeCycle}
use Rattle.rules.specs.declared.Refusal.{Refusal}
use Rattle.rules.specs.declared.Outcome.TheVariants.{Idle, Refused}
use Rattle.rules.specs.declared.Module.{Module}
use Rattle.rules.specs.Words.{bit}
use Rattle.rules.specs.Cycle.{number_of, outcome_number, acts, underway, cycle, idle_cycle, turned_away, ignored_cycle, refused_cycle, judged, stands}
use Rattle.rules.specs.FileCycle.{file_length, length_refusal, command_at, data_refusal, barred, file_errors, failing, command, clears, file_acts, file_cycle, file_after}
use Rattle.rules.specs.Nudge.{nudge_output_bad, nudge_acts, nudge_cycle}
use Rattle.rules.specs.Card.{file_call, file_left, nudge_call}
use Rattle.rules.proofs.Cycles.{errors_underway, file_leaves, nudge_leaves}
use Rattle.rules.proofs.FilesLeft.{length_of, command_of, Status, acted_status}
use Rattle.rules.proofs.Refusals.{any_error, acts_on, file_tested, setup_outcome, group_outcome, limit_outcome, nudge_outcome, nudge_exactly}

-- ---- Refused with any number: programming and state stay

-- DEMAND 1: "programming stays", and so does all that steps made
pub file_refused : (kind : FileCycle) (m : Module) (file : List ℕ) (r : Refusal) → (file_call kind m file).outcome ≡ Refused r
    → ((file_call kind m file).card.configuration.programming ≡ m.configuration.programming) × ((file_call kind m file).card.state ≡ m.state)
unfolding file_call
file_refused kind m file r e = (rw e at (file_leaves kind m.configuration file).programming, rw e)

-- the same of a nudge
pub nudge_refused : (m : Module) (w : ℕ) (r : Refusal) → (nudge_call m w).outcome ≡ Refused r
    → ((nudge_call m w).card.configuration.programming ≡ m.configuration.programming) × ((nudge_call m w).card.state ≡ m.state)
unfolding nudge_call
nudge_refused m w r e = (rw e at (nudge_leaves m.configuration w).programming, rw e)

-- ---- Refusals 1 and 2

-- "1: M0 length; 2: M1 length"
abbrev pub length_number : FileCycle → ℕ
length_number SetupCycle = 1
length_number GroupCycle = 1
length_number LimitCycle = 2

-- "Lengths come first, before the transmit bit is read .. Nothing changes.": not the module, not the file
pub file_length_lem : (kind : FileCycle) (m : Module) (file : List ℕ) → (length file ≡ length_of kind → ⊥)
    → (outcome_number (file_call kind m file).outcome ≡ length_number kind) × ((file_call kind m file).card ≡ m) × (file_left kind m file ≡ file)
unfolding file_call file_cycle file_left file_after turned_away file_length length_refusal number_of
file_length_lem SetupCycle m file h = let f = ne_eqb (length file) 120 h in (rw f, rw f, rw f)
file_length_lem GroupCycle m file h = let f = ne_eqb (length file) 120 h in (rw f, rw f, rw f)
file_length_lem LimitCycle m file h = let f = ne_eqb (length file) 650 h in (rw f, rw f, rw f)

-- ---- Refusals 5 to 10: what an acting cycle leaves

-- "6, 7, 8: setup, group, limit data."
abbrev pub data_number : FileCycle → ℕ
data_number SetupCycle = 6
data_number GroupCycle = 7
data_number LimitCycle = 8

data_is : (kind : FileCycle) → data_number kind ≡ number_of (data_refusal kind)
unfolding number_of data_refusal
data_is SetupCycle = refl
data_is GroupCycle = refl
data_is LimitCycle = refl

-- none of SUErr, GPErr, LSErr, I/DNum and I/DSet
abbrev pub none : Errors
none = record { setup = false; group = false; limit = false; number = false; setpoint = false }

-- the acknowledges with that of one cycle set or clear, the others as they were
abbrev pub acknowledging : Cycle → Bool → Acknowledges → Acknowledges
acknowledging (OfFile SetupCycle) b a = record { setup = b; group = a.group; limit = a.limit; nudge = a.nudge }
acknowledging (OfFile GroupCycle) b a = record { setup = a.setup; group = b; limit = a.limit; nudge = a.nudge }
acknowledging (OfFile LimitCycle) b a = record { setup = a.setup; group = a.group; limit = b; nudge = a.nudge }
acknowledging NudgeCycle b a = record { setup = a.setup; group = a.group; limit = a.limit; nudge = b }

-- a configuration and a module with these acknowledges, errors, MsgIgn and fault, all else as before
abbrev pub left_configuration : Configuration → Acknowledges → Errors → Bool → Bool → Configuration
left_configuration g acknowledges errors ignored fault =
    record { model = g.model; programming = g.programming; errors = errors; acknowledges = acknowledges; ignored = ignored; fault = fault; raw = g.raw }

abbrev pub left_module : Module → Acknowledges → Errors → Bool → Bool → Module
left_module m acknowledges errors ignored fault = record { configuration = left_configuration m.configuration acknowledges errors ignored fault; state = m.state }

-- a module after an acting cycle that was refused: its acknowledge is set
abbrev pub refused_module : Module → Cycle → Errors → Bool → Bool → Module
refused_module m c errors ignored fault = left_module m (acknowledging c true m.configuration.acknowledges) errors ignored fault

-- 5: "Sets MsgIgn, itself no error", and no error, after ClrErr dropped all errors and the fault; "the status word has bit 14 only"
abbrev pub ignored_module : FileCycle → Module → List ℕ → Module
ignored_module kind m file =
    refused_module m (OfFile kind) (cond (bit (command_of kind file) 0) none m.configuration.errors) true (not (bit (command_of kind file) 0) && m.configuration.fault)

ignored_leaves : (kind : FileCycle) (m : Module) (file : List ℕ) → file_cycle kind m.configuration file ≡ ignored_cycle (acts_on kind m file)
    → (file_call kind m file).card ≡ ignored_module kind m file
unfolding file_call ignored_cycle underway command_at
ignored_leaves SetupCycle m file e = rw e
ignored_leaves GroupCycle m file e = rw e
ignored_leaves LimitCycle m file e = rw e

pub file_ignored : (kind : FileCycle) (m : Module) (file : List ℕ) → outcome_number (file_call kind m file).outcome ≡ 5
    → ((file_call kind m file).card ≡ ignored_module kind m file) × Status kind 0x4000 0 (file_left kind m file)
unfolding number_of file_cycle cycle file_acts judged ignored_cycle
file_ignored kind m file e =
    let t = (file_tested kind m file).1.1.0.0 e in
    let fits = not-false _ t.0.0.1 in
    let acting = not-false _ t.0.1 in
    let c : file_cycle kind m.configuration file ≡ ignored_cycle (acts_on kind m file) = rw (fits, acting, t.1) in
    (ignored_leaves kind m file c, acted_status kind m file true fits acting (rw c))

-- 6, 7, 8: "6 to 10 set their error", and no other stands, for "5 comes first"
abbrev pub own_error : FileCycle → Errors
own_error SetupCycle = record { setup = true; group = false; limit = false; number = false; setpoint = false }
own_error GroupCycle = record { setup = false; group = true; limit = false; number = false; setpoint = false }
own_error LimitCycle = record { setup = false; group = false; limit = true; number = false; setpoint = false }

abbrev pub data_module : FileCycle → Module → List ℕ → Module
data_module kind m file = refused_module m (OfFile kind) (own_error kind) false (not (bit (command_of kind file) 0) && m.configuration.fault)

none_stands : (e : Errors) → any_error e ≡ false → e ≡ none
none_stands e h =
    let a = or_parts (e.setup || e.group || e.limit || e.number) e.setpoint h in
    let b = or_parts (e.setup || e.group || e.limit) e.number a.0 in
    let c = or_parts (e.setup || e.group) e.limit b.0 in
    let d = or_parts e.setup e.group c.0 in
    λ i. record { setup = d.0 i; group = d.1 i; limit = c.1 i; number = b.1 i; setpoint = a.1 i }

barred_stands : (kind : FileCycle) (g : Configuration) → barred kind g ≡ false → g.errors ≡ none
unfolding barred stands
barred_stands SetupCycle g h = none_stands g.errors h
barred_stands GroupCycle g h = none_stands g.errors (or_parts (any_error g.errors) g.programming.setup.independent h).0
barred_stands LimitCycle g h = none_stands g.errors h

data_leaves : (kind : FileCycle) (m : Module) (file : List ℕ) → file_cycle kind m.configuration file ≡ refused_cycle (data_refusal kind) (acts_on kind m file)
    → (acts_on kind m file).errors ≡ none
    → (file_call kind m file).card ≡ data_module kind m file
unfolding file_call refused_cycle data_refusal underway command_at
data_leaves SetupCycle m file e s = rw (e, s)
data_leaves GroupCycle m file e s = rw (e, s)
data_leaves LimitCycle m file e s = rw (e, s)

pub file_data : (kind : FileCycle) (m : Module) (file : List ℕ) → outcome_number (file_call kind m file).outcome ≡ data_number kind
    → ((file_call kind m file).card ≡ data_module kind m file)
    × Status kind (file_errors kind m.configuration file) (failing kind m.configuration file) (file_left kind m file)
unfolding file_cycle cycle file_acts judged refused_cycle underway
file_data kind m file e =
    let t = (file_tested kind m file).1.1.1.0.0 (e ∙ data_is kind) in
    let fits = not-false _ t.0.0.0.1 in
    let acting = not-false _ t.0.0.1 in
    let c : file_cycle kind m.configuration file ≡ refused_cycle (data_refusal kind) (acts_on kind m file) =
    rw (fits, acting, t.0.1, errors_underway kind (OfFile kind) (clears (command kind file)) m.configuration file, not-true _ t.1) in
    (data_leaves kind m file c (barred_stands kind (acts_on kind m file) t.0.1), acted_status kind m file false fits acting (rw c))

-- where the nudge's 5, 9 or 10 comes, it acts and bit 14 is clear
nudge_acts_lem : (m : Module) (w : ℕ) → (not (bit w 15) || m.configuration.acknowledges.nudge) ≡ false → acts NudgeCycle w m.configuration ≡ true
unfolding acts
nudge_acts_lem m w h = let p = or_parts (not (bit w 15)) m.configuration.acknowledges.nudge h in and_from _ _ (not-false _ p.0) (ap not p.1)

-- the nudge's 5: "Sets MsgIgn, itself no error", and errors and fault are as before
pub nudge_ignored : (m : Module) (w : ℕ) → outcome_number (nudge_call m w).outcome ≡ 5
    → (nudge_call m w).card ≡ refused_module m NudgeCycle m.configuration.errors true m.configuration.fault
unfolding nudge_call nudge_cycle cycle nudge_acts stands underway ignored_cycle
nudge_ignored m w e =
    let t = (nudge_exactly m w).1.0.0 e in
    let p = and_parts (not (bit w 14)) (any_error m.configuration.errors) t.1 in
    rw (nudge_acts_lem m w t.0.1, not-true (bit w 14) p.0, p.1)

-- "9: nudged output unprogrammed, ..": I/DNum alone
pub nudge_output_lem : (m : Module) (w : ℕ) → outcome_number (nudge_call m w).outcome ≡ 9
    → (nudge_call m w).card
    ≡ refused_module m NudgeCycle (record { setup = false; group = false; limit = false; number = true; setpoint = false }) false m.configuration.fault
unfolding nudge_call nudge_cycle cycle nudge_acts stands underway refused_cycle
nudge_output_lem m w e =
    let t = (nudge_exactly m w).1.1.0.0 e in
    let p = and_parts (not (bit w 14)) (nudge_output_bad m.configuration.programming w) t.1 in
    let c = not-true (bit w 14) p.0 in
    let s = rw c at t.0.1 in
    rw (nudge_acts_lem m w t.0.0.1, c, s, p.1, none_stands m.configuration.errors s)

-- "10, after 9: ..": I/DSet alone
pub nudge_setpoint : (m : Module) (w : ℕ) → outcome_number (nudge_call m w).outcome ≡ 10
    → (nudge_call m w).card
    ≡ refused_module m NudgeCycle (record { setup = false; group = false; limit = false; number = false; setpoint = true }) false m.configuration.fault
unfolding nudge_call nudge_cycle cycle nudge_acts stands underway refused_cycle
nudge_setpoint m w e =
    let t = (nudge_exactly m w).1.1.1.0.0 e in
    let p = and_parts (not (bit w 14)) _ t.1 in
    let c = not-true (bit w 14) p.0 in
    let s = rw c at t.0.0.1 in
    let b = rw c at t.0.1 in
    rw (nudge_acts_lem m w t.0.0.0.1, c, s, b, p.1, none_stands m.configuration.errors s)

-- ---- An error that stands: "5 comes first"

-- the acknowledge of a cycle
abbrev pub acknowledge_of : Cycle → Acknowledges → Bool
acknowledge_of (OfFile SetupCycle) a = a.setup
acknowledge_of (OfFile GroupCycle) a = a.group
acknowledge_of (OfFile LimitCycle) a = a.limit
acknowledge_of NudgeCycle a = a.nudge

-- every acting cycle that does not drop errors, of any kind, is answered 5
abbrev pub Answers5 : Module → Type 0
Answers5 m =
    ((kind : FileCycle) (file : List ℕ) → length file ≡ length_of kind → bit (command_of kind file) 15 ≡ true → bit (command_of kind file) 0 ≡ false
    → acknowledge_of (OfFile kind) m.configuration.acknowledges ≡ false → outcome_number (file_call kind m file).outcome ≡ 5)
    × ((w : ℕ) → bit w 15 ≡ true → bit w 14 ≡ false → acknowledge_of NudgeCycle m.configuration.acknowledges ≡ false → outcome_number (nudge_call m w).outcome ≡ 5)

pub error_then_5 : (m : Module) → any_error m.configuration.errors ≡ true → Answers5 m
error_then_5 m s = (of_file, λ w t c a. nudge_outcome m w ∙ rw (t, c, a, s))
  where
    of_file : (kind : FileCycle) (file : List ℕ) → length file ≡ length_of kind → bit (command_of kind file) 15 ≡ true → bit (command_of kind file) 0 ≡ false
        → acknowledge_of (OfFile kind) m.configuration.acknowledges ≡ false → outcome_number (file_call kind m file).outcome ≡ 5
    of_file SetupCycle file l t c a = setup_outcome m file ∙ rw (eq-eqb (length file) 120 l, t, c, a, s)
    of_file GroupCycle file l t c a = group_outcome m file ∙ rw (eq-eqb (length file) 120 l, t, c, a, s)
    of_file LimitCycle file l t c a = limit_outcome m file ∙ rw (eq-eqb (length file) 650 l, t, c, a, s)

-- so after 6, 7 and 8
pub data_then_5 : (kind : FileCycle) (m : Module) (file : List ℕ) → outcome_number (file_call kind m file).outcome ≡ data_number kind → Answers5 (file_call kind m file).card
data_then_5 kind m file e = error_then_5 (file_call kind m file).card (rw (file_data kind m file e).0 (own kind))
  where
    own : (kind : FileCycle) → any_error (own_error kind) ≡ true
    own SetupCycle = refl
    own GroupCycle = refl
    own LimitCycle = refl

-- and after 9 and 10
pub nudge_then_5 : (m : Module) (w : ℕ) → (outcome_number (nudge_call m w).outcome ≡ 9) ⊎ (outcome_number (nudge_call m w).outcome ≡ 10) → Answers5 (nudge_call m w).card
nudge_then_5 m w e =
    error_then_5 (nudge_call m w).card (⊎_elim (λ n. rw (nudge_output_lem m w n)) (λ n. rw (nudge_setpoint m w n)) e)

-- ---- Idle

-- "Bit set with acknowledge set: nothing." "Both answer Idle and write nothing."
pub file_held : (kind : FileCycle) (m : Module) (file : List ℕ) → length file ≡ length_of kind → bit (command_of kind file) 15 ≡ true
    → acknowledge_of (OfFile kind) m.configuration.acknowledges ≡ true
    → (file_call kind m file ≡ record { card = m; outcome = Idle }) × (file_left kind m file ≡ file)
unfolding file_call file_cycle cycle acts idle_cycle file_left file_after file_length command_at
file_held SetupCycle m file l t a = (rw (eq-eqb (length file) 120 l, t, a), rw (eq-eqb (length file) 120 l, t, a))
file_held GroupCycle m file l t a = (rw (eq-eqb (length file) 120 l, t, a), rw (eq-eqb (length file) 120 l, t, a))
file_held LimitCycle m file l t a = (rw (eq-eqb (length file) 650 l, t, a), rw (eq-eqb (length file) 650 l, t, a))

pub nudge_held : (m : Module) (w : ℕ) → bit w 15 ≡ true → m.configuration.acknowledges.nudge ≡ true → nudge_call m w ≡ record { card = m; outcome = Idle }
unfolding nudge_call nudge_cycle cycle acts idle_cycle
nudge_held m w t a = rw (t, a)

-- "Bit clear: acknowledge clears.", and nothing else
abbrev pub released : Module → Cycle → Module
released m c =
    left_module m (acknowledging c false m.configuration.acknowledges) m.configuration.errors m.configuration.ignored m.configuration.fault

pub file_released : (kind : FileCycle) (m : Module) (file : List ℕ) → length file ≡ length_of kind → bit (command_of kind file) 15 ≡ false
    → (file_call kind m file ≡ record { card = released m (OfFile kind); outcome = Idle }) × (file_left kind m file ≡ file)
unfolding file_call file_cycle cycle acts idle_cycle file_left file_after file_length command_at
file_released SetupCycle m file l t = (rw (eq-eqb (length file) 120 l, t), rw (eq-eqb (length file) 120 l, t))
file_released GroupCycle m file l t = (rw (eq-eqb (length file) 120 l, t), rw (eq-eqb (length file) 120 l, t))
file_released LimitCycle m file l t = (rw (eq-eqb (length file) 650 l, t), rw (eq-eqb (length file) 650 l, t))

pub nudge_released : (m : Module) (w : ℕ) → bit w 15 ≡ false → nudge_call m w ≡ record { card = released m NudgeCycle; outcome = Idle }
unfolding nudge_call nudge_cycle cycle acts idle_cycle
nudge_released m w t = rw t
