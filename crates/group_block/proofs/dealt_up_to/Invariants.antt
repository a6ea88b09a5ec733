use Prim.Native.Nat.{◌*◌, ◌≤◌}
use mathlib.Core.Path.{◌≡◌}
use Rattle.rules.specs.GroupWords.{dealt_up_to}
use Rattle.group_block.proofs.dealt_up_to.Given as goal

abbrev pub invariant-loop-k : goal.invariant-loop-k
invariant-loop-k l = (l.dealt ≡ dealt_up_to l.file l.t l.k) × (l.dealt ≤ 65535 * l.k)
