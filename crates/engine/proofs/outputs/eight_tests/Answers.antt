-- `engine::outputs::eight_tests` meets its contract. Assumes nothing.
use mathlib.Core.Path.{sym, ◌∙◌}
use Rattle.engine.proofs.Ones.{eight_ones}
use Rattle.engine.proofs.outputs.eight_tests.Goals as goal

pub returns-then-present-clause-tests : goal.returns-then-present-clause-tests
returns-then-present-clause-tests c =
    rw (sym c.present.ensures ∙ c.if-present.true, c.from_le_bytes.ensures) (eight_ones c.args.tested.now c.fits-tested)
