-- What is left to put, put, gives the buffer asked for.
use Rattle.df1.specs.Frame.{doubled}
use Rattle.std.proofs.Common.{◌≡◌, drop}
use lib.Seq.{sets}
use Rattle.df1.proofs.writing.put_doubled.Given as goal

abbrev pub invariant-loop-b : goal.invariant-loop-b
invariant-loop-b l = sets l.out l.place (doubled (drop l.b-index l.bytes)) ≡ sets l.fn.out 0 (doubled l.bytes)
