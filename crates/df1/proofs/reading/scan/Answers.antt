-- What was read and what is left to read are the whole. Assumes nothing.
use Rattle.std.proofs.Common.{◌≡◌, get_or, length, sym, ap, ◌∙◌, arith, add-zero}
use Rattle.df1.specs.Frame.{dle, sum_of}
use Rattle.df1.proofs.Laws.{undoubled_next, paired_next, paired_second}
use Rattle.df1.proofs.reading.scan.Goals as goal

pub loop-b-preserved-then-second : goal.loop-b-preserved-then-second
loop-b-preserved-then-second c =
    let l = c.loop-b in
    let is : get_or c.args.body.now l.b-index 0 ≡ dle = omega arith in
    let i = rw c.if-second.true at l.invariant in (
      omega arith,
      omega arith,
      sym (paired_second c.args.body.now l.b-index c.loop-b-test.true is) ∙ i.2,
      rw add-zero i.3,
      rw add-zero (omega (arith, i.4)),
    )

pub loop-b-preserved : goal.loop-b-preserved
unfolding sum_of
loop-b-preserved c =
    let l = c.loop-b in
    let body = c.args.body.now in
    let i = rw (c.if-second.false, add-zero) at l.invariant in
    let e = undoubled_next body l.b-index c.loop-b-test.true in (
      omega arith,
      omega arith,
      sym (paired_next body l.b-index c.loop-b-test.true) ∙ i.2,
      omega (arith, ap length e, i.3),
      omega (arith, ap sum_of e, i.4),
    )
