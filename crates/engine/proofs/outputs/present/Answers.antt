-- `engine::outputs::present` meets its contract: a bit of the word of the outputs that the module has. Assumes nothing.
use Rattle.std.proofs.Common.{arith, ◌∙◌}
use Rattle.rules.specs.Variants.{io_count}
use Rattle.engine.proofs.Words.{real_present, virtual_present}
use Rattle.engine.proofs.outputs.present.Goals as goal

pub returns-then-n-lt16 : goal.returns-then-n-lt16
unfolding io_count
returns-then-n-lt16 c = let a = c.args in (rw c.present.ensures at c.bit.ensures) ∙ real_present a.m a.n (omega arith)

pub returns-else-n-lt16 : goal.returns-else-n-lt16
unfolding io_count
returns-else-n-lt16 c = let a = c.args in (rw c.present-else-n-lt16.ensures at c.bit-else-n-lt16.ensures) ∙ virtual_present a.m a.n (omega arith)
