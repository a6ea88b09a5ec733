-- What was counted is the count so far.
use Rattle.std.proofs.Common.{◌≡◌, take}
use Rattle.df1.specs.Parts.{dle_count}
use Rattle.df1.proofs.writing.dle_count.Given as goal

abbrev pub invariant-loop-b : goal.invariant-loop-b
invariant-loop-b l = l.n ≡ dle_count (take l.b-index l.bytes)
