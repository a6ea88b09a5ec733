-- `in_range` meets its contract, lane by lane. Assumes nothing.
use native.Mathlib.Omega.{arith}
use lib.ListN.{get_or}
use Rattle.word.proofs.Tables.{as_table}
use Rattle.rules.specs.Words.{table, each_of}
use Rattle.switch.proofs.SideBySide.{all_within, lane_fits}
use Rattle.switch.proofs.lanes.in_range.Goals as goal

pub returns : goal.returns
unfolding table each_of
returns c =
    let x = c.args in
    let t = c.ranges.top.fits in
    let f = c.ranges.from.fits in
    rw (as_table 8 x.on c.fits-on.0, as_table 8 x.off c.fits-off.0)
    (all_within x.top x.from (λ k. get_or x.on k 0) (λ k. get_or x.off k 0) (omega (arith, t)) (omega (arith, f)) (lane_fits x.on c.fits-on.0 c.fits-on.1) (lane_fits x.off c.fits-off.0 c.fits-off.1))
