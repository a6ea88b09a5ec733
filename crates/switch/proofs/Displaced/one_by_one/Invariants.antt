use Prim.Native.Nat.{ℕ, ◌+◌, ◌<◌, ◌^◌}
use mathlib.Core.Bool.{false}
use mathlib.Core.Path.{◌≡◌}
use lib.Count.{ones}
use Rattle.rules.specs.Words.{count_of}
use Rattle.switch.specs.Parts.{pair_of, used_of}
use Rattle.switch.proofs.Displaced.one_by_one.Given as goal

-- none of the pairs before k holds, and the used ones of them are told, the last one lowest
abbrev pub invariant-loop-k : goal.invariant-loop-k
invariant-loop-k l =
    ((j : ℕ) → j < l.k → pair_of (l.self.sf.top + 1) l.self.from l.self.spread l.setpoints j ≡ false)
    × (ones l.tested ≡ count_of l.k 0 (used_of l.setpoints))
    × (l.tested < 2 ^ l.k)
