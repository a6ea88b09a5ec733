-- `engine::change_of` meets its contract: a fault or a raw over 1023 is what is not sound. Assumes nothing.
use mathlib.Core.Bool.{true, false}
use mathlib.Core.Path.{◌≡◌, sym, ◌∙◌}
use Rattle.rules.specs.declared.Configuration.{Configuration}
use Rattle.rules.specs.declared.State.{State}
use Rattle.rules.specs.declared.Sample.{Sample}
use Rattle.rules.specs.Switches.{pair_tests}
use Rattle.rules.specs.Calls.{sound, step_configuration}
use Rattle.rules.specs.Card.{outputs_now, tests_now, since_now, step_state, step_answer}
use Rattle.engine.specs.Parts.{ruled_outputs, ruled_tests, dark_outputs, sound_answer, sound_change, fault_answer, fault_change, with_timed, Stepped, stepped, Steps}
use Rattle.engine.proofs.change_of.Goals as goal

sound_steps : (g : Configuration) (x : State) (s : Sample) → sound g s ≡ true → Steps g x s (sound_change g x s)
unfolding sound_change sound_answer ruled_outputs ruled_tests step_state since_now step_answer outputs_now tests_now step_configuration
sound_steps g x s e = (rw e, rw e, rw e)

fault_steps : (g : Configuration) (x : State) (s : Sample) → sound g s ≡ false → Steps g x s (fault_change g x s)
unfolding fault_change fault_answer dark_outputs step_state since_now step_answer outputs_now tests_now pair_tests step_configuration
fault_steps g x s e = (rw e, rw e, rw e)

-- what is left as 01's step leaves it is 01's step
as_left : (g : Configuration) (x : State) (s : Sample) (a b : Stepped) → a ≡ b → Steps g x s b → Steps g x s a
as_left g x s a b e h = rw e h

pub returns-then-sound : goal.returns-then-sound
returns-then-sound c =
    let x = with_timed c.args.x c.args.timed.now in
    as_left c.args.g.now x c.args.s (stepped c.sound_step.result c.sound_step.new.timed) _ c.sound_step.ensures (sound_steps c.args.g.now x c.args.s (unfold sound in (sym c.sound.ensures ∙ c.if-sound.true)))

pub returns : goal.returns
returns c =
    let x = with_timed c.args.x c.args.timed.now in
    as_left c.args.g.now x c.args.s (stepped c.fault_step.result c.fault_step.new.timed) _ c.fault_step.ensures (fault_steps c.args.g.now x c.args.s (unfold sound in (sym c.sound.ensures ∙ c.if-sound.false)))
