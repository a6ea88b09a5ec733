-- What is left to put, put, gives the buffer asked for. Assumes nothing.
use Rattle.df1.proofs.Laws.{undoubled_next, sets_past}
use Rattle.df1.specs.Frame.{undoubled}
use Rattle.std.proofs.Common.{◌+◌, cond, drop, sym, ap, ◌∙◌, add-zero, add-one}
use lib.Seq.{sets}
use Rattle.df1.proofs.reading.put_data.Goals as goal

pub returns-then-out-place : goal.returns-then-out-place
returns-then-out-place c =
    let l = c.loop-b in
    sym (sets_past l.out l.place (undoubled (drop (l.b-index + cond l.second 1 0) c.args.body.now)) c.if-out-place.true) ∙ l.invariant

pub loop-b-preserved : goal.loop-b-preserved
loop-b-preserved c =
    let l = c.loop-b in
    let i = rw (c.if-second.false, add-zero) at l.invariant in
    rw (add-one l.place) (sym (ap (sets l.out l.place) (undoubled_next c.args.body.now l.b-index c.loop-b-test.true)) ∙ i)
