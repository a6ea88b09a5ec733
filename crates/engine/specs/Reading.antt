-- What the outputs of a step read, made before any of them, and 01's rule of an output that reads a position.
-- Assumes nothing.
use Rattle.std.specs.Prelude.{ℕ, Bool, cond, ◌&&◌, List, get_or}
use Rattle.rules.specs.declared.Conditions.{Conditions}
use Rattle.rules.specs.declared.GroupPosition.{GroupPosition}
use Rattle.rules.specs.declared.Limit.{Limit}
use Rattle.rules.specs.declared.Position.{Position}
use Rattle.rules.specs.declared.Position.TheVariants.{OfMachine, OfGroup}
use Rattle.rules.specs.declared.TimedState.{TimedState}
use Rattle.rules.specs.Words.{table}
use Rattle.rules.specs.declared.Switch.{Switch}
use Rattle.rules.specs.Motion.{c_value, scale}
use Rattle.rules.specs.Groups.{no_position, of_group}
use Rattle.rules.specs.Switches.{count_at, pair_holds, switch_holds, switch_position, switch_tests, passes}
use Rattle.rules.specs.Card.{timed_after}

-- the counts that outputs read where the six groups' positions are these, by the number of their group: 0 is none, and what is past the end is as 0
unfoldable pub counts_read : Conditions → List GroupPosition → List ℕ
counts_read w positions = table 7 0 (λ owner. count_at (switch_position w (of_group no_position positions owner)))

unfoldable pub position_read : Conditions → List ℕ → ℕ → Position
position_read w counts owner =
    cond w.independent (OfMachine (record { 0 = get_or counts owner (get_or counts 0 0) })) (OfGroup (record { 0 = get_or counts owner (get_or counts 0 0) }))

-- an output's rule, its timed switch and its tests, where its switch is of this type and reads this position
abbrev pub rule_reading : Conditions → Limit → Switch → Position → Bool → Bool → ℕ → Bool
rule_reading w l s q isopen lasting n = switch_holds (scale w) (c_value w.c) l s q lasting && passes w l isopen n

abbrev pub timed_reading : Conditions → Limit → Switch → Position → TimedState → TimedState
timed_reading w l s q x = timed_after s (pair_holds (scale w) (c_value w.c) l 0 q) x

abbrev pub tests_reading : Conditions → Limit → Switch → Position → ℕ
tests_reading w l s q = switch_tests (scale w) (c_value w.c) l s q
