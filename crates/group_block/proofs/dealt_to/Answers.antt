-- `group_block::dealt_to` meets its contract: a group that takes less leaves the rest to the groups after it. Assumes nothing.
use Prim.Native.Nat.{◌<◌}
use mathlib.Core.Path.{sym, ◌∙◌}
use native.Mathlib.Omega.{arith}
use lib.ListN.{length}
use Rattle.rules.specs.Groups.{no_group}
use Rattle.group_block.proofs.Laws.{dealt_here, dealt_later}
use Rattle.group_block.proofs.dealt_to.Goals as goal

pub returns-then-left-taken : goal.returns-then-left-taken
returns-then-left-taken c =
    let l = c.loop-k in
    let within : l.k < length c.args.groups.now = omega arith in
    (sym (l.invariant ∙ dealt_here c.args.t c.args.groups.now l.k l.left no_group within (rw c.share-taken.ensures at c.if-left-taken.true)), omega arith)

pub loop-k-preserved : goal.loop-k-preserved
loop-k-preserved c =
    let l = c.loop-k in
    let within : l.k < length c.args.groups.now = omega arith in
    rw c.share-taken.ensures (l.invariant ∙ dealt_later c.args.t c.args.groups.now l.k l.left no_group within (rw c.share-taken.ensures at c.if-left-taken.false))
