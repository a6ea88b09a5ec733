-- What the parts of a group's step give; rules' definitions say the whole.
-- Assumes nothing.
use Rattle.std.specs.Prelude.{ℕ, Bool, true, false, cond, not, ◌&&◌, ◌||◌}
use Rattle.rules.specs.declared.Group.{Group}
use Rattle.rules.specs.declared.Pair.{Pair}
use Rattle.rules.specs.declared.GroupState.{GroupState}
use Rattle.rules.specs.declared.Event.{Event}
use Rattle.rules.specs.declared.MachinePosition.{MachinePosition}
use Rattle.rules.specs.Groups.{dwell_holds, group_position, preset_shift, edge, stops, running}
use Rattle.group.specs.declared.Place.{Place}

-- where a group with the dwell d is, by its offset or shift
unfoldable pub place_at : ℕ → Pair → ℕ → MachinePosition → Place
place_at sf d by m = record { position = group_position sf by m; holds = dwell_holds sf d (group_position sf by m) }

-- a state after the beginning of a dwell, if it begins
abbrev pub begun : Bool → GroupState → GroupState
begun begins x = record {
  level = x.level;
  first = x.first;
  held = x.held;
  shift = x.shift;
  taken = x.taken;
  begun = begins || x.begun;
  qualified = not begins && x.qualified;
  opened = not begins && x.opened;
}

-- a state with what a step keeps at its end, where the dwell holds then or not
abbrev pub kept : Event → Bool → GroupState → GroupState
kept e holds x = record {
  level = e.level;
  first = e.first;
  held = holds;
  shift = x.shift;
  taken = x.taken;
  begun = x.begun;
  qualified = (holds && running e) || x.qualified;
  opened = x.opened;
}

abbrev pub opened_as : Bool → GroupState → GroupState
opened_as opened x = record {
  level = x.level;
  first = x.first;
  held = x.held;
  shift = x.shift;
  taken = x.taken;
  begun = x.begun;
  qualified = x.qualified;
  opened = opened;
}

-- a state after a step at the place p, before openness is told by mode
abbrev pub dwelt : Event → Place → GroupState → GroupState
dwelt e p x = kept e p.holds (begun (p.holds && not x.held) x)

-- the place of Modes 0, 3, 4 and 5
abbrev pub offset_place : ℕ → Group → Event → Place
offset_place sf g e = place_at sf g.dwell g.offset e.machine

abbrev pub opened_4 : Bool → GroupState → GroupState
opened_4 edge x = opened_as ((x.held && edge) || x.opened) x

abbrev pub opened_5 : Event → Bool → GroupState → GroupState
opened_5 e edge x = opened_as ((edge && x.qualified) || (not (stops e) && ((x.held && running e) || x.opened))) x

-- Modes 1 and 2: an edge is taken, where the beginning of a dwell is in the state already
abbrev pub takes : Event → GroupState → Bool
takes e x = edge x.level e.level && (not x.taken || x.begun)

abbrev pub preset_by : ℕ → GroupState → GroupState
preset_by shift x = record {
  level = x.level;
  first = x.first;
  held = x.held;
  shift = shift;
  taken = true;
  begun = false;
  qualified = x.qualified;
  opened = true;
}

-- the place of Modes 1 and 2 before an edge is taken, what a dwell's beginning there makes of the state, and the place at the step's end
abbrev pub shift_place : ℕ → Group → ℕ → Event → Place
shift_place sf g shift e = place_at sf g.dwell shift e.machine

unfoldable pub entered : ℕ → Group → GroupState → Event → GroupState
entered sf g x e = begun ((shift_place sf g x.shift e).holds && not x.held) x

unfoldable pub end_place : ℕ → Group → GroupState → Event → Place
end_place sf g x e =
    cond (takes e (entered sf g x e)) (shift_place sf g (preset_shift sf g.offset e.machine) e) (shift_place sf g x.shift e)

-- the state of Modes 1 and 2 after a step, before openness is told by mode
unfoldable pub shifted : ℕ → Group → GroupState → Event → GroupState
shifted sf g x e =
    kept
    e
    (end_place sf g x e).holds
    (cond (takes e (entered sf g x e)) (preset_by (preset_shift sf g.offset e.machine) (entered sf g x e)) (entered sf g x e))
