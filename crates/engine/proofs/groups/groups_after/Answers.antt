-- `engine::groups::groups_after` meets its contract: one group more of each table at each turn. Assumes nothing.
use mathlib.Core.Bool.{false}
use mathlib.Core.Path.{refl, ◌≡◌}
use native.Mathlib.Omega.{arith}
use lib.ListN.{replicate}
use Rattle.rules.specs.Card.{fresh_group, groups_now, positions_now, openness_now}
use Rattle.engine.proofs.Lists.{up_none, up_more, up_all, still_up}
use borrow.Author.Rules.{rules}
use Rattle.engine.proofs.groups.groups_after.Invariants.{state_at, position_at, open_at}
use Rattle.engine.proofs.groups.groups_after.Goals as goal

pub loop-n-init : goal.loop-n-init
loop-n-init c =
    let a = c.args in
    let xs = a.states.now in (
      up_none 6 (state_at a.w a.gs.now xs) xs (search rules),
      up_none 6 (position_at a.w a.gs.now xs) a.positions.now (search rules),
      up_none 6 (open_at a.w a.gs.now xs) (replicate 6 false) refl,
      λ i l. refl,
    )

pub loop-n-preserved : goal.loop-n-preserved
loop-n-preserved c =
    let l = c.loop-n in
    let a = c.args in
    let xs = a.states.now in
    let old = l.invariant.3 l.n (omega arith) in
    let r = rw old at c.group_after-a.ensures in (
      up_more 6 l.n (state_at a.w a.gs.now xs) l.states _ (omega arith) l.invariant.0 r.0,
      up_more 6 l.n (position_at a.w a.gs.now xs) l.positions _ (omega arith) l.invariant.1 r.1,
      up_more 6 l.n (open_at a.w a.gs.now xs) l.isopen _ (omega arith) l.invariant.2 r.2,
      still_up l.n fresh_group xs l.states _ l.invariant.3,
    )

pub returns : goal.returns
unfolding groups_now positions_now openness_now
returns c =
    let l = c.loop-n in
    let e : l.n ≡ 6 = omega arith in
    (up_all 6 l.n _ l.states e l.invariant.0, up_all 6 l.n _ l.positions e l.invariant.1, up_all 6 l.n _ l.isopen e l.invariant.2)
