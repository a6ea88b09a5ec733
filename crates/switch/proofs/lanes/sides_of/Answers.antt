-- `sides_of` meets its contract: sixteen numbers, every second one. Assumes nothing.
use mathlib.Core.Path.{refl}
use Rattle.word.proofs.Tables.{as_table}
use Rattle.rules.specs.Words.{table}
use Rattle.switch.proofs.lanes.sides_of.Goals as goal

pub returns : goal.returns
unfolding table
returns c = rw (as_table 16 c.args.setpoints.now c.told-setpoints) (refl, refl)
