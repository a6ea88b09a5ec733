use Rattle.std.proofs.Common.{ℕ, ◌≤◌, ◌<◌, ◌≡◌}
use Rattle.word.proofs.failing.lowest_failing.Given as goal

-- no lower block fails
abbrev pub invariant-loop-number : goal.invariant-loop-number
invariant-loop-number g l = (k : ℕ) → 1 ≤ k → k < l.number → g.B.Blocks.bits l.blocks k ≡ 0
