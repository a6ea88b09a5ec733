-- The two ways of a step, each for every module and sample; proofs/ shows which of them 01's step takes.
-- Assumes nothing.
use Rattle.std.specs.Prelude.{ℕ, Bool, true, false, List, ◌≡◌}
use Rattle.rules.specs.declared.Configuration.{Configuration}
use Rattle.rules.specs.declared.SinceStart.{SinceStart}
use Rattle.rules.specs.declared.State.{State}
use Rattle.rules.specs.declared.TimedState.{TimedState}
use Rattle.rules.specs.declared.Sample.{Sample}
use Rattle.rules.specs.declared.OutputWords.{OutputWords}
use Rattle.rules.specs.declared.Answer.{Answer}
use Rattle.rules.specs.Variants.{model_in}
use Rattle.rules.specs.Motion.{fault_conditions, real_inputs}
use Rattle.rules.specs.Switches.{output_words, pair_tests, answer_of}
use Rattle.rules.specs.Cycle.{with_raw, with_fault}
use Rattle.rules.specs.Calls.{step_configuration}
use Rattle.rules.specs.Card.{step_state, step_answer, conditions_now, speed_now, positions_now, rule_now, since_after, module_start, kept_after}
use Rattle.engine.specs.declared.Change.{Change}

-- the outputs where the rule decides, and where only a force lights one
unfoldable pub ruled_outputs : Configuration → SinceStart → Sample → OutputWords
ruled_outputs g x s = output_words (model_in g) s (rule_now g.programming (conditions_now g x s) x)

unfoldable pub dark_outputs : Configuration → Sample → OutputWords
dark_outputs g s = output_words (model_in g) s (λ n. false)

-- the pair tests of a step that is not answered 11
unfoldable pub ruled_tests : Configuration → SinceStart → Sample → ℕ
ruled_tests g x s =
    pair_tests (model_in g) true g.programming (conditions_now g x s) (positions_now (conditions_now g x s) g.programming.groups x.groups)

-- a state with these timed switches
abbrev pub with_timed : State → List TimedState → State
with_timed x timed =
    record { since = record { speed = x.since.speed; groups = x.since.groups; positions = x.since.positions; timed = timed }; kept = x.kept }

-- what a step leaves of the module, and its answer
pub record Stepped : Type 0 where
  pub state : State
  pub raw : ℕ
  pub fault : Bool
  pub answer : Answer

-- of a change, and the timed switches that were renewed beside it
abbrev pub stepped : Change → List TimedState → Stepped
stepped c timed = record {
  state = record { since = record { speed = c.speed; groups = c.groups; positions = c.positions; timed = timed }; kept = c.kept };
  raw = c.raw;
  fault = c.fault;
  answer = c.answer;
}

-- 01's step from these
abbrev pub Steps : Configuration → State → Sample → Stepped → Type 0
Steps g x s r =
    (r.state ≡ step_state g x s) × (r.answer ≡ step_answer g x s) × (with_fault (with_raw g r.raw) r.fault ≡ step_configuration g s)

-- what a step answers that is not answered 11, and what it leaves
unfoldable pub sound_answer : Configuration → State → Sample → Answer
sound_answer g x s =
    answer_of g.programming.setup false (conditions_now g x.since s) x.kept.shown.virtuals (ruled_outputs g x.since s) (ruled_tests g x.since s)

unfoldable pub sound_change : Configuration → State → Sample → Stepped
sound_change g x s = record {
  state = record {
    since = since_after g.programming (conditions_now g x.since s) (speed_now g.programming.setup x.since.speed s) x.since;
    kept = kept_after x.kept (sound_answer g x s) (real_inputs g s);
  };
  raw = s.raw;
  fault = g.fault;
  answer = sound_answer g x s;
}

-- and one that is
unfoldable pub fault_answer : Configuration → State → Sample → Answer
fault_answer g x s =
    answer_of g.programming.setup true (fault_conditions g s x.kept.shown.position) x.kept.shown.virtuals (dark_outputs g s) 0

unfoldable pub fault_change : Configuration → State → Sample → Stepped
fault_change g x s = record {
  state = record { since = module_start; kept = kept_after x.kept (fault_answer g x s) (real_inputs g s) };
  raw = g.raw;
  fault = true;
  answer = fault_answer g x s;
}
