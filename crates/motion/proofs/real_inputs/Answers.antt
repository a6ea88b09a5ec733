-- `motion::real_inputs` meets its contract: the words of the inputs are taken bit by bit. Assumes nothing.
use Rattle.rules.specs.Variants.{io_count}
use Rattle.motion.proofs.Laws.{inputs_word}
use Rattle.motion.proofs.real_inputs.Goals as goal

pub returns : goal.returns
unfolding io_count
returns c =
    let a = c.args in
    rw (c.forced.ensures, c.present.ensures) (inputs_word a.m a.u a.s)
