-- What is left to put, put, gives the buffer asked for.
use Rattle.df1.specs.Frame.{undoubled}
use Rattle.std.proofs.Common.{◌≡◌, ◌+◌, cond, drop}
use lib.Seq.{sets}
use Rattle.df1.proofs.reading.put_data.Given as goal

abbrev pub invariant-loop-b : goal.invariant-loop-b
invariant-loop-b l = sets l.out l.place (undoubled (drop (l.b-index + cond l.second 1 0) l.body)) ≡ sets l.fn.out 0 (undoubled l.body)
