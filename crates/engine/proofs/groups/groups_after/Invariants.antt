use Prim.Native.Nat.{ℕ}
use mathlib.Core.Bool.{Bool}
use mathlib.Core.List.{List}
use lib.ListN.{get_or}
use Rattle.rules.specs.declared.Conditions.{Conditions}
use Rattle.rules.specs.declared.Group.{Group}
use Rattle.rules.specs.declared.GroupState.{GroupState}
use Rattle.rules.specs.declared.GroupPosition.{GroupPosition}
use Rattle.rules.specs.Groups.{no_group}
use Rattle.rules.specs.Card.{fresh_group, group_now, left_position, open_now}
use Rattle.engine.proofs.Lists.{FilledUp, StillUp}
use Rattle.engine.proofs.groups.groups_after.Given as goal

-- of six groups the one at n: its state, its position, whether it is open
abbrev pub state_at : Conditions → List Group → List GroupState → ℕ → GroupState
state_at w gs xs n = group_now w (get_or gs n no_group) (get_or xs n fresh_group) n

abbrev pub position_at : Conditions → List Group → List GroupState → ℕ → GroupPosition
position_at w gs xs n = left_position w (get_or gs n no_group) (get_or xs n fresh_group) n

abbrev pub open_at : Conditions → List Group → List GroupState → ℕ → Bool
open_at w gs xs n = open_now w (get_or gs n no_group) (get_or xs n fresh_group) n

abbrev pub invariant-loop-n : goal.invariant-loop-n
invariant-loop-n l =
    FilledUp 6 l.n (state_at l.w l.gs l.initial.states) l.states
    × FilledUp 6 l.n (position_at l.w l.gs l.initial.states) l.positions
    × FilledUp 6 l.n (open_at l.w l.gs l.initial.states) l.isopen
    × StillUp l.n fresh_group l.initial.states l.states
