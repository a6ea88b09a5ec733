use Prim.Native.Nat.{◌+◌}
use mathlib.Core.Path.{◌≡◌}
use lib.ListN.{drop}
use Rattle.rules.specs.GroupWords.{dealt_to}
use Rattle.group_block.proofs.dealt_to.Given as goal

-- what is left of output i goes to the groups from k on
abbrev pub invariant-loop-k : goal.invariant-loop-k
invariant-loop-k l = dealt_to l.t l.groups 1 l.i ≡ dealt_to l.t (drop l.k l.groups) (l.k + 1) l.left
