-- `used` meets its contract, lane by lane. Assumes nothing.
use mathlib.Core.Bool.{not}
use lib.Bits.{bit_or}
use lib.Dec.{eqb}
use lib.ListN.{get_or}
use Rattle.word.proofs.Tables.{as_table}
use Rattle.rules.specs.Words.{table, packed}
use Rattle.switch.proofs.SideBySide.{marked, lane_of, or_used}
use Rattle.switch.proofs.lanes.used.Goals as goal

pub returns : goal.returns
unfolding table packed
returns c =
    let on = c.args.on in
    let off = c.args.off in
    rw (as_table 8 on c.fits-on.0, as_table 8 off c.fits-off.0) (marked (λ k. lane_of (not (eqb (bit_or (get_or on k 0) (get_or off k 0)) 0))) _ (λ k. or_used (get_or on k 0) (get_or off k 0)))
