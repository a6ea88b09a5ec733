-- 01, "Groups": the pair, Group Position, the tests of the six modes. No past.
-- Assumes nothing.
use Rattle.std.specs.Prelude.{ℕ, zero, suc, ◌+◌, ◌%◌, Bool, true, false, not, ◌&&◌, List, eqb, get_or}
use Rattle.rules.specs.declared.Group.{Group}
use Rattle.rules.specs.declared.Programming.{Programming}
use Rattle.rules.specs.declared.MachinePosition.{MachinePosition}
use Rattle.rules.specs.declared.GroupPosition.{GroupPosition}
use Rattle.rules.specs.declared.Pair.{Pair}
use Rattle.rules.specs.declared.Mode.{Mode}
use Rattle.rules.specs.declared.Mode.TheVariants.{NoMode, Mode0, Mode1, Mode2, Mode3, Mode4, Mode5}
use Rattle.rules.specs.declared.Event.{Event}
use Rattle.rules.specs.declared.Conditions.{Conditions}
use Rattle.rules.specs.Variants.{group_type, first_cycle_type}
use Rattle.rules.specs.Counts.{ahead, holds}
use Rattle.rules.specs.Motion.{is_stop, level, group_input, first_cycle_input}

-- an unused group: no program
abbrev pub no_group : Group
no_group =
    record { used = false; isvirtual = false; firstvirtual = false; mode = 0; quantity = 0; dwell = record { on = 0; off = 0 }; offset = 0 }

-- the program of group n + 1
abbrev pub group_at : Programming → ℕ → Group
group_at p n = get_or p.groups n no_group

-- "The dwell is the Group Channel pair without advance."
unfoldable pub dwell_holds : ℕ → Pair → GroupPosition → Bool
dwell_holds sf d p = holds sf d.on d.off p.0

-- From Machine Position to Group Position: by the group's offset (Modes 0, 3, 4, 5) or by the shift (Modes 1, 2).
unfoldable pub group_position : ℕ → ℕ → MachinePosition → GroupPosition
group_position sf by machine = record { 0 = (machine.0 + by) % sf }

-- the shift by which the position becomes the preset where Machine Position is m
unfoldable pub preset_shift : ℕ → ℕ → MachinePosition → ℕ
preset_shift sf preset machine = ahead sf machine.0 preset

-- "Modes 1, 2: Machine Position plus a shift"
unfoldable pub presets : Mode → Bool
presets NoMode = false
presets Mode0 = false
presets Mode1 = true
presets Mode2 = true
presets Mode3 = false
presets Mode4 = false
presets Mode5 = false

-- "An edge is inactive to active."
abbrev pub edge : Bool → Bool → Bool
edge before now = now && not before

-- what a group, with the number n from 0, meets in a step: the one place where its levels are taken
unfoldable pub group_event : Conditions → Group → ℕ → Event
group_event w g n = record {
  machine = w.machine;
  level = level w (group_type g) (group_input n);
  first = level w (first_cycle_type g) first_cycle_input;
  tenths = w.tenths;
  update = w.update;
}

-- of the six groups, what the one with a number from 1 has; 0 or over 6 is no group
abbrev pub of_group : {A : Type 0} → A → List A → ℕ → A
of_group none xs zero = none
of_group none xs (suc n) = get_or xs n none

abbrev pub no_position : GroupPosition
no_position = record { 0 = 0 }

-- a stop in an event
unfoldable pub stops : Event → Bool
stops e = is_stop e.update e.tenths

-- what makes a step in the dwell "A qualifying step (in the dwell, input active, ..)"; 02: "Mode 5 qualifies on tenths that aren't 0"
unfoldable pub running : Event → Bool
running e = e.level && not (eqb e.tenths 0)

-- "Modes 0, 1: always open." "Mode 3: open while its input is active." Modes 2, 4 and 5 are open by what came before (`opened`).
unfoldable pub is_open : Mode → Bool → Bool → Bool
is_open NoMode level opened = false
is_open Mode0 level opened = true
is_open Mode1 level opened = true
is_open Mode2 level opened = opened
is_open Mode3 level opened = level
is_open Mode4 level opened = opened
is_open Mode5 level opened = opened
