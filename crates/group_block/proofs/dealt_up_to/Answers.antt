-- `group_block::dealt_up_to` meets its contract: one group more at each turn. Assumes nothing.
use native.Mathlib.Omega.{arith}
use Rattle.group_block.proofs.Laws.{dealt_more}
use Rattle.group_block.proofs.dealt_up_to.Goals as goal

pub loop-k-preserved : goal.loop-k-preserved
loop-k-preserved c =
    let a = c.args in
    let l = c.loop-k in
    (rw (c.share.ensures, c.group.ensures, l.invariant.0) (dealt_more a.file.now a.t l.k), omega arith)
