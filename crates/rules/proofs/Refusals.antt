-- Demand 1, the outcomes, over the definitions that the contracts cite, for every module, file and word: each call's causes of refusal in 01's order, with
-- their numbers and places written out, and each number comes exactly where its cause holds and none before it does. Assumes nothing.
use Prim.Native.Nat.{ℕ, ◌+◌, ◌-◌, ◌*◌, ◌/◌, ◌%◌, ◌<◌, ◌≤◌}
use mathlib.Core.Bool.{Bool, true, false, cond, not, ◌&&◌, ◌||◌}
use mathlib.Core.List.{List, [], ◌∷◌}
use mathlib.Core.Logic.{◌↔◌, inl, inr}
use mathlib.Core.Path.{◌≡◌, refl, ◌∙◌}
use native.Mathlib.Omega.{arith}
use borrow.Author.Tests.{eqb-true, eqb-false, ltb-false, eq-eqb, ne_eqb, not-true, not-false}
use lib.ListN.{length, get_or, take, drop, length-take, length-drop}
use lib.Seq.{get_or-take, get_or-drop}
use lib.Dec.{eqb, ltb}
use Rattle.std.proofs.lemmas.Bool.{or_parts, cases_Bool}
use Rattle.rules.specs.declared.Model.TheVariants.{M8511, M8512, M8513}
use Rattle.rules.specs.declared.Errors.{Errors}
use Rattle.rules.specs.declared.Configuration.{Configuration}
use Rattle.rules.specs.declared.FileCycle.{FileCycle}
use Rattle.rules.specs.declared.FileCycle.TheVariants.{SetupCycle, GroupCycle, LimitCycle}
use Rattle.rules.specs.declared.Cycle.TheVariants.{OfFile, NudgeCycle}
use Rattle.rules.specs.declared.Refusal.TheVariants.{UnknownModule, Ignored, NudgeOutput, NudgeSetpoint}
use Rattle.rules.specs.declared.Outcome.TheVariants.{Accepted, Refused}
use Rattle.rules.specs.declared.CycleResult.{CycleResult}
use Rattle.rules.specs.declared.Module.{Module}
use Rattle.rules.specs.Words.{bit}
use Rattle.rules.specs.Variants.{model_known, model_of, model_in}
use Rattle.rules.specs.Switches.{limit_of}
use Rattle.rules.specs.Cycle.{number_of, outcome_number, outcome_of, no_errors, acts, underway, cycle, idle_cycle, turned_away, ignored_cycle, refused_cycle, accepted_cycle, judged, stands}
use Rattle.rules.specs.SetupWords.{setup_errors}
use Rattle.rules.specs.GroupWords.{group_errors}
use Rattle.rules.specs.LimitWords.{limit_errors}
use Rattle.rules.specs.FileCycle.{file_length, length_refusal, command_at, data_refusal, barred, file_errors, brought, command, clears, file_acts, file_cycle}
use Rattle.rules.specs.Nudge.{nudge_output_bad, nudge_setpoint_bad, nudged_programming, nudge_acts, nudge_cycle}
use Rattle.rules.specs.Reader.{reader_refusal, reader_part}
use Rattle.rules.specs.Bus.{byte_read, byte_shown, bus_write}
use Rattle.rules.specs.Calls.{Access, Read, Write}
use Rattle.rules.specs.Card.{fresh_module, powered_up, file_call, nudge_call, read_call, write_call}
use Rattle.rules.specs.Run.{accessed}
use Rattle.rules.proofs.Cycles.{errors_underway}
use Rattle.rules.proofs.Causes.{first_of, Exactly, exactly}

-- ---- Cycles that take a file

-- an error stands: SUErr, GPErr, LSErr, I/DNum or I/DSet; "the fault is none"
abbrev pub any_error : Errors → Bool
any_error e = e.setup || e.group || e.limit || e.number || e.setpoint

-- "1: M0 length"; Idle; "5: an error stands" that ClrErr does not drop; "6 .. setup .. data"
abbrev pub setup_causes : Module → List ℕ → List (Bool × ℕ)
setup_causes m file =
    (not (eqb (length file) 120), 1)
    ∷ (not (bit (get_or file 0 0) 15) || m.configuration.acknowledges.setup, 65535)
    ∷ (not (bit (get_or file 0 0) 0) && any_error m.configuration.errors, 5)
    ∷ (not (eqb (setup_errors file) 0), 6)
    ∷ []

-- "1: M0 length"; Idle; "5: an error stands, or a group cycle in Independent Mode"; "7 .. group .. data"
abbrev pub group_causes : Module → List ℕ → List (Bool × ℕ)
group_causes m file =
    (not (eqb (length file) 120), 1)
    ∷ (not (bit (get_or file 20 0) 15) || m.configuration.acknowledges.group, 65535)
    ∷ ((not (bit (get_or file 20 0) 0) && any_error m.configuration.errors) || m.configuration.programming.setup.independent, 5)
    ∷ (not (eqb (group_errors (model_in m.configuration) (m.configuration.programming.setup.top + 1) file) 0), 7)
    ∷ []

-- "2: M1 length"; Idle; "5: an error stands"; "8 .. limit data"
abbrev pub limit_causes : Module → List ℕ → List (Bool × ℕ)
limit_causes m file =
    (not (eqb (length file) 650), 2)
    ∷ (not (bit (get_or file 0 0) 15) || m.configuration.acknowledges.limit, 65535)
    ∷ (not (bit (get_or file 0 0) 0) && any_error m.configuration.errors, 5)
    ∷ (not (eqb (limit_errors (model_in m.configuration) m.configuration.programming file) 0), 8)
    ∷ []

-- the same by the definitions' tests, of each kind
abbrev pub acts_on : FileCycle → Module → List ℕ → Configuration
acts_on kind m file = underway (OfFile kind) (clears (command kind file)) m.configuration

abbrev pub file_tests : FileCycle → Module → List ℕ → List (Bool × ℕ)
file_tests kind m file =
    (not (eqb (length file) (file_length kind)), number_of (length_refusal kind))
    ∷ (not (acts (OfFile kind) (command kind file) m.configuration), 65535)
    ∷ (barred kind (acts_on kind m file), number_of Ignored)
    ∷ (not (eqb (file_errors kind m.configuration file) 0), number_of (data_refusal kind))
    ∷ []

file_tests_lem : (kind : FileCycle) (m : Module) (file : List ℕ) → outcome_number (file_call kind m file).outcome ≡ first_of (file_tests kind m file)
unfolding file_call file_cycle cycle file_acts judged turned_away idle_cycle ignored_cycle refused_cycle accepted_cycle
file_tests_lem kind m file =
    rw (errors_underway kind (OfFile kind) (clears (command kind file)) m.configuration file)
    (go (eqb (length file) (file_length kind)) (acts (OfFile kind) (command kind file) m.configuration) (barred kind (acts_on kind m file)) (eqb (file_errors kind m.configuration file) 0))
  where
    h : Configuration
    h = acts_on kind m file

    go : (l a b z : Bool)
        → outcome_number (cond l (cond a (cond b (ignored_cycle h) (cond z (accepted_cycle (brought kind h file) h) (refused_cycle (data_refusal kind) h))) (idle_cycle (OfFile kind) (command kind file) m.configuration)) (turned_away (length_refusal kind) m.configuration)).outcome
        ≡ first_of ((not l, number_of (length_refusal kind)) ∷ (not a, 65535) ∷ (b, number_of Ignored) ∷ (not z, number_of (data_refusal kind)) ∷ [])
    go false a b z = refl
    go true false b z = refl
    go true true true z = refl
    go true true false true = refl
    go true true false false = refl

pub file_tested : (kind : FileCycle) (m : Module) (file : List ℕ) → Exactly (outcome_number (file_call kind m file).outcome) Unit (file_tests kind m file)
unfolding number_of length_refusal data_refusal
file_tested SetupCycle m file = exactly (file_tests SetupCycle m file) _ refl (file_tests_lem SetupCycle m file)
file_tested GroupCycle m file = exactly (file_tests GroupCycle m file) _ refl (file_tests_lem GroupCycle m file)
file_tested LimitCycle m file = exactly (file_tests LimitCycle m file) _ refl (file_tests_lem LimitCycle m file)

-- the definitions' tests as they are written out above
idle_reads : (t a : Bool) → not (t && not a) ≡ (not t || a)
idle_reads true true = refl
idle_reads true false = refl
idle_reads false a = refl

stands_reads : (c : Bool) (e : Errors) → any_error (cond c no_errors e) ≡ (not c && any_error e)
stands_reads true e = refl
stands_reads false e = refl

-- the setup cycle's cases, in 01's order
pub setup_outcome : (m : Module) (file : List ℕ) → outcome_number (file_call SetupCycle m file).outcome ≡ first_of (setup_causes m file)
unfolding number_of file_length length_refusal command_at data_refusal barred stands file_errors acts underway
setup_outcome m file =
    rw (← idle_reads (bit (get_or file 0 0) 15) m.configuration.acknowledges.setup, ← stands_reads (bit (get_or file 0 0) 0) m.configuration.errors)
    (file_tests_lem SetupCycle m file)

-- the group cycle's
pub group_outcome : (m : Module) (file : List ℕ) → outcome_number (file_call GroupCycle m file).outcome ≡ first_of (group_causes m file)
unfolding number_of file_length length_refusal command_at data_refusal barred stands file_errors acts underway
group_outcome m file =
    rw (← idle_reads (bit (get_or file 20 0) 15) m.configuration.acknowledges.group, ← stands_reads (bit (get_or file 20 0) 0) m.configuration.errors)
    (file_tests_lem GroupCycle m file)

-- the limit cycle's
pub limit_outcome : (m : Module) (file : List ℕ) → outcome_number (file_call LimitCycle m file).outcome ≡ first_of (limit_causes m file)
unfolding number_of file_length length_refusal command_at data_refusal barred stands file_errors acts underway
limit_outcome m file =
    rw (← idle_reads (bit (get_or file 0 0) 15) m.configuration.acknowledges.limit, ← stands_reads (bit (get_or file 0 0) 0) m.configuration.errors)
    (file_tests_lem LimitCycle m file)

-- each number comes exactly where its cause holds and none before it does; accepted exactly where none holds
pub setup_exactly : (m : Module) (file : List ℕ) → Exactly (outcome_number (file_call SetupCycle m file).outcome) Unit (setup_causes m file)
setup_exactly m file = exactly (setup_causes m file) _ refl (setup_outcome m file)

pub group_exactly : (m : Module) (file : List ℕ) → Exactly (outcome_number (file_call GroupCycle m file).outcome) Unit (group_causes m file)
group_exactly m file = exactly (group_causes m file) _ refl (group_outcome m file)

pub limit_exactly : (m : Module) (file : List ℕ) → Exactly (outcome_number (file_call LimitCycle m file).outcome) Unit (limit_causes m file)
limit_exactly m file = exactly (limit_causes m file) _ refl (limit_outcome m file)

-- ---- The nudge

-- Idle; bit 14 "drops errors and the fault and ends there, accepted"; else 5, "9 .." and "10, after 9"
abbrev pub nudge_causes : Module → ℕ → List (Bool × ℕ)
nudge_causes m w =
    (not (bit w 15) || m.configuration.acknowledges.nudge, 65535)
    ∷ (not (bit w 14) && any_error m.configuration.errors, 5)
    ∷ (not (bit w 14) && nudge_output_bad m.configuration.programming w, 9)
    ∷ (not (bit w 14) && nudge_setpoint_bad (m.configuration.programming.setup.top + 1) (limit_of m.configuration.programming (w % 32)) (w / 32 % 8) w, 10)
    ∷ []

-- the nudge's cases, in 01's order
pub nudge_outcome : (m : Module) (w : ℕ) → outcome_number (nudge_call m w).outcome ≡ first_of (nudge_causes m w)
unfolding nudge_call nudge_cycle cycle nudge_acts acts stands underway idle_cycle ignored_cycle refused_cycle accepted_cycle number_of
nudge_outcome m w =
    rw (← idle_reads (bit w 15) m.configuration.acknowledges.nudge)
    (go (bit w 15 && not m.configuration.acknowledges.nudge) (bit w 14) (nudge_output_bad m.configuration.programming w)
    (nudge_setpoint_bad (m.configuration.programming.setup.top + 1) (limit_of m.configuration.programming (w % 32)) (w / 32 % 8) w))
  where
    g : Configuration
    g = m.configuration

    h : Bool → Configuration
    h c = underway NudgeCycle c g

    go : (a c b9 b10 : Bool)
        → outcome_number (cond a (cond c (accepted_cycle g.programming (h c)) (cond (stands (h c).errors) (ignored_cycle (h c)) (cond b9 (refused_cycle NudgeOutput (h c)) (cond b10 (refused_cycle NudgeSetpoint (h c)) (accepted_cycle (nudged_programming g.programming w) (h c)))))) (idle_cycle NudgeCycle w g)).outcome
        ≡ first_of ((not a, 65535) ∷ (not c && any_error g.errors, 5) ∷ (not c && b9, 9) ∷ (not c && b10, 10) ∷ [])
    go false c b9 b10 = refl
    go true true b9 b10 = refl
    go true false b9 b10 = inner (any_error g.errors) b9 b10
      where
        inner : (s b9 b10 : Bool)
            → outcome_number (cond s (ignored_cycle (h false)) (cond b9 (refused_cycle NudgeOutput (h false)) (cond b10 (refused_cycle NudgeSetpoint (h false)) (accepted_cycle (nudged_programming g.programming w) (h false))))).outcome
            ≡ first_of ((s, 5) ∷ (b9, 9) ∷ (b10, 10) ∷ [])
        inner true b9 b10 = refl
        inner false true b10 = refl
        inner false false true = refl
        inner false false false = refl

-- each number exactly where its cause holds and none before it does
pub nudge_exactly : (m : Module) (w : ℕ) → Exactly (outcome_number (nudge_call m w).outcome) Unit (nudge_causes m w)
nudge_exactly m w = exactly (nudge_causes m w) _ refl (nudge_outcome m w)

-- ---- Power-up

-- "3: unknown module"
abbrev pub power_causes : ℕ → List (Bool × ℕ)
power_causes n = (not (eqb n 8511 || eqb n 8512 || eqb n 8513), 3) ∷ []

-- 3 or accepted
pub power_outcome : (m : Module) (n : ℕ) → outcome_number (powered_up m n).outcome ≡ first_of (power_causes n)
unfolding powered_up model_known number_of
power_outcome m n = go (eqb n 8511) (eqb n 8512) (eqb n 8513)
  where
    go : (a b c : Bool)
        → outcome_number (cond {A = CycleResult} (a || (b || (c || false))) (record { card = fresh_module (model_of n); outcome = Accepted }) (record { card = m; outcome = Refused UnknownModule })).outcome
        ≡ first_of ((not (a || b || c), 3) ∷ [])
    go true b c = refl
    go false true c = refl
    go false false true = refl
    go false false false = refl

-- 3 exactly for a number other than "8511, 8512 or 8513"
pub power_3 : (m : Module) (n : ℕ) → (outcome_number (powered_up m n).outcome ≡ 3) ↔ ((n ≡ 8511 → ⊥) × (n ≡ 8512 → ⊥) × (n ≡ 8513 → ⊥))
power_3 m n = (
  λ e. let h = or_parts (eqb n 8511 || eqb n 8512) (eqb n 8513) (not-true _ ((exactly (power_causes n) _ refl (power_outcome m n)).0.0 e).1) in
      let k = or_parts (eqb n 8511) (eqb n 8512) h.0 in
      (eqb-false n 8511 k.0, eqb-false n 8512 k.1, eqb-false n 8513 h.1),
  λ h. power_outcome m n ∙ rw (ne_eqb n 8511 h.0, ne_eqb n 8512 h.1, ne_eqb n 8513 h.2),
)

-- "3: unknown module (gives no module) .. Nothing changes."
pub power_refused : (m : Module) (n : ℕ) → outcome_number (powered_up m n).outcome ≡ 3 → (powered_up m n).card ≡ m
unfolding powered_up
power_refused m n e = elim (cases_Bool (model_known n)) [ inl k ↦ let z : ◌≡◌ {A = ℕ} 0 3 = rw k at e in absurd (omega arith) | inr k ↦ rw k ]

-- "Power-up takes 8511, 8512 or 8513"
pub power_accepted : (m : Module)
    → (powered_up m 8511 ≡ record { card = fresh_module M8511; outcome = Accepted })
    × (powered_up m 8512 ≡ record { card = fresh_module M8512; outcome = Accepted })
    × (powered_up m 8513 ≡ record { card = fresh_module M8513; outcome = Accepted })
unfolding powered_up model_known model_of
power_accepted m = (refl, refl, refl)

-- ---- The block reader

-- "1: M0 length; 2: M1 length; .. 4: block number outside 1 to 6 or 1 to 32. Lengths come first, .. 1 before 2."
abbrev pub reader_causes : ℕ → ℕ → Bool → ℕ → List (Bool × ℕ)
reader_causes length0 length1 group n = (not (eqb length0 120), 1) ∷ (not (eqb length1 650), 2) ∷ (eqb n 0 || ltb (cond group 6 32) n, 4) ∷ []

-- the reader's number, in 01's order
pub reader_outcome : (length0 length1 : ℕ) (group : Bool) (n : ℕ) → reader_refusal length0 length1 group n ≡ first_of (reader_causes length0 length1 group n)
unfolding reader_refusal number_of
reader_outcome length0 length1 group n = refl

-- each number exactly where its cause holds and none before it does, 0 where none holds
pub reader_exactly : (length0 length1 : ℕ) (group : Bool) (n : ℕ)
    → Exactly (reader_refusal length0 length1 group n) Unit (reader_causes length0 length1 group n)
reader_exactly length0 length1 group n = exactly (reader_causes length0 length1 group n) _ refl (reader_outcome length0 length1 group n)

-- "on 1, 2 and 4 the part is empty"
pub reader_empty : (m0 m1 : List ℕ) (group : Bool) (n : ℕ) → (reader_refusal (length m0) (length m1) group n ≡ 0 → ⊥) → reader_part m0 m1 group n ≡ []
unfolding reader_part
reader_empty m0 m1 group n h = rw (ne_eqb (reader_refusal (length m0) (length m1) group n) 0 h)

-- some words of a list, from a place on
part_of : (size from : ℕ) (l : List ℕ) → from + size ≤ length l
    → (length (take size (drop from l)) ≡ size) × ((k : ℕ) → k < size → get_or (take size (drop from l)) k 0 ≡ get_or l (from + k) 0)
part_of size from l h = (simp (length-take, length-drop) (omega arith), λ k b. rw (get_or-take, get_or-drop))

-- "hands back the group's 4 words of M0", block n "at word 18 + 4 × n"
pub reader_group : (m0 m1 : List ℕ) (n : ℕ) → reader_refusal (length m0) (length m1) true n ≡ 0
    → (length (reader_part m0 m1 true n) ≡ 4) × ((k : ℕ) → k < 4 → get_or (reader_part m0 m1 true n) k 0 ≡ get_or m0 (18 + 4 * n + k) 0)
unfolding reader_part
reader_group m0 m1 n e =
    let t = (reader_exactly (length m0) (length m1) true n).1.1.1.0 e in
    let a = eqb-true (length m0) 120 (not-false _ t.0.0.1) in
    let b = ltb-false 6 n (or_parts (eqb n 0) (ltb 6 n) t.1).1 in
    rw (eq-eqb (reader_refusal (length m0) (length m1) true n) 0 e) (part_of 4 (18 + 4 * n) m0 (omega arith))

-- "or the output's 19 of M1", block n "at word 19 × n − 17"
pub reader_output : (m0 m1 : List ℕ) (n : ℕ) → reader_refusal (length m0) (length m1) false n ≡ 0
    → (length (reader_part m0 m1 false n) ≡ 19) × ((k : ℕ) → k < 19 → get_or (reader_part m0 m1 false n) k 0 ≡ get_or m1 (19 * n - 17 + k) 0)
unfolding reader_part
reader_output m0 m1 n e =
    let t = (reader_exactly (length m0) (length m1) false n).1.1.1.0 e in
    let a = eqb-true (length m1) 650 (not-false _ t.0.1) in
    let p = or_parts (eqb n 0) (ltb 32 n) t.1 in
    let z = eqb-false n 0 p.0 in
    let b = ltb-false 32 n p.1 in
    rw (eq-eqb (reader_refusal (length m0) (length m1) false n) 0 e) (part_of 19 (19 * n - 17) m1 (omega arith))

-- ---- The byte accesses

-- "13 for an offset over 17, first; 14 for a write below 16."
abbrev pub access_causes : Access → List (Bool × ℕ)
access_causes (Read n) = (ltb 17 n, 13) ∷ []
access_causes (Write n v) = (ltb 17 n, 13) ∷ (ltb n 16, 14) ∷ []

-- what an access of a module is answered: 0 or its refusal's number
abbrev pub access_number : Module → Access → ℕ
access_number m (Read n) = outcome_number (outcome_of (read_call m n))
access_number m (Write n v) = outcome_number (write_call m n v).outcome

pub access_outcome : (m : Module) (a : Access) → access_number m a ≡ first_of (access_causes a)
unfolding read_call byte_read write_call bus_write number_of
access_outcome m (Read n) = elim (cases_Bool (ltb 17 n)) [ inl q ↦ rw q | inr q ↦ rw q ]
access_outcome m (Write n v) = elim (cases_Bool (ltb 17 n)) [ inl q ↦ rw q | inr q ↦ elim (cases_Bool (ltb n 16)) [ inl r ↦ rw (q, r) | inr r ↦ rw (q, r) ] ]

-- each number exactly where its cause holds and none before it does, 0 where none holds
pub access_exactly : (m : Module) (a : Access) → Exactly (access_number m a) Unit (access_causes a)
access_exactly m (Read n) = exactly (access_causes (Read n)) _ refl (access_outcome m (Read n))
access_exactly m (Write n v) = exactly (access_causes (Write n v)) _ refl (access_outcome m (Write n v))

-- "Neither changes a byte.": the whole module is as before; a refused read hands back 0
pub access_refused : (m : Module) (a : Access) → (access_number m a ≡ 0 → ⊥) → accessed m a ≡ m
unfolding accessed write_call bus_write
access_refused m (Read n) h = refl
access_refused m (Write n v) h = elim (cases_Bool (ltb 17 n)) [ inl q ↦ rw q | inr q ↦ elim (cases_Bool (ltb n 16)) [ inl r ↦ rw (q, r) | inr r ↦ absurd (h (rw (q, r))) ] ]

pub read_refused : (m : Module) (n : ℕ) → (access_number m (Read n) ≡ 0 → ⊥) → byte_shown (read_call m n) ≡ 0
unfolding read_call byte_read
read_refused m n h = elim (cases_Bool (ltb 17 n)) [ inl q ↦ rw q | inr q ↦ absurd (h (rw q)) ]
