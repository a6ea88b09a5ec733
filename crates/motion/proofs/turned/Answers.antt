-- `motion::turned` meets its contract: the difference modulo 1024 as a remainder of naturals. Assumes nothing.
use Rattle.std.proofs.Common.{sym, ◌∙◌, arith}
use Rattle.rules.specs.Motion.{turned}
use Rattle.rules.proofs.Laws.{modulo_natural}
use Rattle.motion.proofs.turned.Goals as goal

pub returns-then-reversed : goal.returns-then-reversed
unfolding turned
returns-then-reversed c = rw c.if-reversed.true (sym (modulo_natural 1024 c.args.raw 1023 ∙ omega arith))
