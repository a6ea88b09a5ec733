-- Demand 1 of the step, for every module and sample: 11 comes exactly where 01 lists it, and what such a step reports and leaves. Assumes nothing.
use Prim.Native.Nat.{ℕ, ◌+◌, ◌-◌, ◌*◌, ◌^◌, ◌<◌}
use mathlib.Core.Bool.{Bool, true, false, cond, not, ◌&&◌, ◌||◌, or-true, and-false, not-not}
use mathlib.Core.List.{List, [], ◌∷◌}
use mathlib.Core.Logic.{◌↔◌, ◌⊎◌, ⊎_elim, inl, inr}
use mathlib.Core.Path.{◌≡◌, refl, ap, ◌∙◌}
use native.Mathlib.Omega.{arith}
use native.Mathlib.Nat.{div-eq_of_lt}
use borrow.Author.Tests.{ltb-true, leb-true, leb-false, lt-ltb, le-ltb}
use lib.Dec.{ltb, leb}
use Rattle.std.proofs.lemmas.Bool.{or_cases, or_parts, cases_Bool}
use Rattle.rules.specs.declared.Model.{Model}
use Rattle.rules.specs.declared.DecimalCode.{DecimalCode}
use Rattle.rules.specs.declared.DecimalCode.TheVariants.{Code0, Code1, Code2, Code3}
use Rattle.rules.specs.declared.Scalars.{Scalars}
use Rattle.rules.specs.declared.Configuration.{Configuration}
use Rattle.rules.specs.declared.Refusal.TheVariants.{Transducer}
use Rattle.rules.specs.declared.Module.{Module}
use Rattle.rules.specs.declared.Sample.{Sample}
use Rattle.rules.specs.declared.Answer.{Answer}
use Rattle.rules.specs.declared.OutputWords.{OutputWords}
use Rattle.rules.specs.Words.{bit, round_half_up}
use Rattle.rules.specs.Variants.{model_in, code_of, code_number}
use Rattle.rules.specs.Motion.{divisor, tach_value, tach_shown, tach_overflow, fault_conditions, real_inputs}
use Rattle.rules.specs.Switches.{present, forced_off, forced_on, output_on, changed_count, pair_tests, output_words, answer_of}
use Rattle.rules.specs.Cycle.{number_of}
use Rattle.rules.specs.Bus.{shown_by, requested}
use Rattle.rules.specs.Calls.{sound, step_configuration}
use Rattle.rules.specs.Card.{module_start, outputs_now, tests_now, since_now, step_answer, kept_after, step_state, step_call}
use Rattle.rules.proofs.Packing.{packed_bit}
use Rattle.rules.proofs.Causes.{first_of, Exactly, exactly}

-- ---- When 11 comes

-- the number that a step's answer carries, 0 if none
abbrev pub step_number : Answer → ℕ
step_number a = cond a.refused (number_of Transducer) 0

-- "11: raw over 1023, or fault latched"
abbrev pub step_causes : Module → Sample → List (Bool × ℕ)
step_causes m s = (ltb 1023 s.raw || m.configuration.fault, 11) ∷ []

over_reads : (n : ℕ) → leb n 1023 ≡ not (ltb 1023 n)
over_reads n = elim (cases_Bool (leb n 1023)) [ inl t ↦ rw (t, le-ltb 1023 n (leb-true n 1023 t)) | inr f ↦ rw (f, lt-ltb 1023 n (leb-false n 1023 f)) ]

neither : (a b : Bool) → (not a && not b) ≡ not (a || b)
neither true b = refl
neither false b = refl

-- a step that is not answered 11
pub sound_reads : (g : Configuration) (s : Sample) → sound g s ≡ not (ltb 1023 s.raw || g.fault)
unfolding sound
sound_reads g s = rw (over_reads s.raw) (neither (ltb 1023 s.raw) g.fault)

-- 11 or none
pub step_outcome : (m : Module) (s : Sample) → step_number (step_call m s).answer ≡ first_of (step_causes m s)
unfolding step_call step_answer answer_of number_of
step_outcome m s = rw (sound_reads m.configuration s, not-not (ltb 1023 s.raw || m.configuration.fault))

-- 11 exactly where its cause holds
pub step_exactly : (m : Module) (s : Sample) → Exactly (step_number (step_call m s).answer) Unit (step_causes m s)
step_exactly m s = exactly (step_causes m s) _ refl (step_outcome m s)

-- the same in words: "raw over 1023, or fault latched"
pub step_11 : (m : Module) (s : Sample) → (step_number (step_call m s).answer ≡ 11) ↔ ((1023 < s.raw) ⊎ (m.configuration.fault ≡ true))
step_11 m s = (
  λ e. ⊎_elim (λ t. inl (ltb-true 1023 s.raw t)) (λ f. inr f) (or_cases (ltb 1023 s.raw) m.configuration.fault ((step_exactly m s).0.0 e).1),
  ⊎_elim (λ h. step_outcome m s ∙ rw (lt-ltb 1023 s.raw h)) (λ f. step_outcome m s ∙ rw (f, or-true (ltb 1023 s.raw))),
)

-- ---- What a step answered 11 reports and leaves

unsound : (m : Module) (s : Sample) → step_number (step_call m s).answer ≡ 11 → sound m.configuration s ≡ false
unsound m s e = sound_reads m.configuration s ∙ ap not ((step_exactly m s).0.0 e).1

divisor_some : (k : Scalars) (c : DecimalCode) → 0 < divisor k * 10 ^ (code_number c + 1)
divisor_some k Code0 = omega arith
divisor_some k Code1 = omega arith
divisor_some k Code2 = omega arith
divisor_some k Code3 = omega arith

no_tach : (k : Scalars) → tach_value k 0 ≡ 0
unfolding tach_value round_half_up
no_tach k = let h = divisor_some k (code_of k.code) in div-eq_of_lt (omega arith)

-- "unforced outputs off": the words of the outputs that are forced on
abbrev pub forced_only : Module → Sample → OutputWords
forced_only m s = output_words (model_in m.configuration) s (λ n. false)

-- "reports the Machine Position of the last step since power-up not answered 11, else 0; .. tach and TachOv 0; detectors and unforced outputs off", and 0 tenths; 02: "In a step
-- answered 11 the count is 0."
pub fault_shows : (m : Module) (s : Sample) → step_number (step_call m s).answer ≡ 11
    → (step_call m s).answer ≡ record {
      refused = true;
      position = m.state.kept.shown.position;
      tenths = 0;
      tach = 0;
      overflow = false;
      md1 = false;
      md2 = false;
      real = (forced_only m s).real;
      virtuals = (forced_only m s).virtuals;
      changed = changed_count m.configuration.programming.setup m.state.kept.shown.virtuals (forced_only m s).virtuals;
      tests = 0;
    }
unfolding step_call step_answer answer_of outputs_now tests_now pair_tests fault_conditions tach_shown tach_overflow
fault_shows m s e = rw (unsound m s e, no_tach m.configuration.programming.setup.scalars)

-- so each output that is not forced on is off
unforced : (model : Model) (s : Sample) (n : ℕ) → forced_on s n ≡ false → output_on model s (λ k. false) n ≡ false
unfolding output_on
unforced model s n o = rw (o, and-false (not (forced_off s n))) (and-false (present model n))

pub fault_dark : (m : Module) (s : Sample) (n : ℕ) → step_number (step_call m s).answer ≡ 11 → n < 16
    → (bit s.realon n ≡ false → bit (step_call m s).answer.real n ≡ false) × (bit s.virtualon n ≡ false → bit (step_call m s).answer.virtuals n ≡ false)
unfolding output_words
fault_dark m s n e h =
    let z : 0 + n ≡ n = omega arith in
    let y : 16 + n - 16 ≡ n = omega arith in
    let model = model_in m.configuration in
    rw (fault_shows m s e) (
      λ o. packed_bit 16 0 n (output_on model s (λ k. false)) h ∙ unforced model s (0 + n) (rw (z, lt-ltb n 16 h) o),
      λ o. packed_bit 16 16 n (output_on model s (λ k. false)) h ∙ unforced model s (16 + n) (rw (le-ltb (16 + n) 16 (omega arith), y) o),
    )

-- "Latches": programming, errors, acknowledges, MsgIgn and the raw of before stay; it is a module start. The input table shows what it answers and its own
-- inputs after the forces, and a count that isn't 0 sets the request.
pub fault_leaves : (m : Module) (s : Sample) → step_number (step_call m s).answer ≡ 11
    → (step_call m s).card ≡ record {
      configuration = record {
        model = m.configuration.model;
        programming = m.configuration.programming;
        errors = m.configuration.errors;
        acknowledges = m.configuration.acknowledges;
        ignored = m.configuration.ignored;
        fault = true;
        raw = m.configuration.raw;
      };
      state = record {
        since = module_start;
        kept = record {
          shown = record {
            position = m.state.kept.shown.position;
            tach = 0;
            real = (forced_only m s).real;
            virtuals = (forced_only m s).virtuals;
            inputs = real_inputs m.configuration s;
            overflow = false;
            md1 = false;
            md2 = false;
          };
          bus = requested m.state.kept.bus (changed_count m.configuration.programming.setup m.state.kept.shown.virtuals (forced_only m s).virtuals);
        };
      };
    }
unfolding step_call step_configuration step_state since_now step_answer answer_of kept_after shown_by outputs_now fault_conditions tach_shown tach_overflow
fault_leaves m s e = rw (unsound m s e, no_tach m.configuration.programming.setup.scalars)

-- a step that is not answered 11 is answered 0: no fault is latched, and the last raw is its own
pub sound_leaves : (m : Module) (s : Sample) → step_number (step_call m s).answer ≡ 0
    → (step_call m s).card.configuration ≡ record {
      model = m.configuration.model;
      programming = m.configuration.programming;
      errors = m.configuration.errors;
      acknowledges = m.configuration.acknowledges;
      ignored = m.configuration.ignored;
      fault = false;
      raw = s.raw;
    }
unfolding step_call step_configuration
sound_leaves m s e =
    let h = ((step_exactly m s).1.0 e).1 in
    rw (sound_reads m.configuration s ∙ ap not h, (or_parts (ltb 1023 s.raw) m.configuration.fault h).1)
