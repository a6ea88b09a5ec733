-- `holding` meets its contract, lane by lane. Assumes nothing.
use lib.ListN.{get_or}
use Rattle.word.proofs.Tables.{as_table}
use Rattle.rules.specs.Words.{table, packed}
use Rattle.switch.proofs.SideBySide.{marked, lane_of, sums, sums_hold}
use Rattle.switch.proofs.lanes.holding.Goals as goal

pub returns : goal.returns
unfolding table packed
returns c =
    let x = c.args in
    rw (as_table 8 x.on c.fits-on.0, as_table 8 x.off c.fits-off.0)
    (marked (λ k. sums lane_of x.top x.from x.spread (get_or x.on k 0) (get_or x.off k 0)) _ (λ k. sums_hold x.top x.from x.spread (get_or x.on k 0) (get_or x.off k 0)))
