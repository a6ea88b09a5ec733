-- What was read and what is left to read are the whole.
use Rattle.df1.specs.Frame.{dle, sum_of, undoubled}
use Rattle.df1.specs.Parts.{paired}
use Rattle.std.proofs.Common.{◌≡◌, ◌+◌, ◌%◌, ◌<◌, ◌≤◌, cond, ◌∷◌, length, drop}
use Rattle.df1.proofs.reading.scan.Given as goal

abbrev pub invariant-loop-b : goal.invariant-loop-b
invariant-loop-b l =
    (l.count ≤ l.b-index) × (l.sum < 256) × (paired (cond l.second (dle ∷ drop l.b-index l.body) (drop l.b-index l.body)) ≡ paired l.body)
    × (l.count + length (undoubled (drop (l.b-index + cond l.second 1 0) l.body)) ≡ length (undoubled l.body))
    × ((l.sum + sum_of (undoubled (drop (l.b-index + cond l.second 1 0) l.body))) % 256 ≡ sum_of (undoubled l.body))
