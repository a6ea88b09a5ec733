-- The table of cases: one test, computed over the whole table, and the law that turns it into what each line says.
-- Assumes nothing.
use Prim.Native.Nat.{ℕ, ◌<◌}
use mathlib.Core.Bool.{Bool, true, false, beq, not}
use mathlib.Core.List.{[], ◌∷◌}
use mathlib.Core.Path.{◌≡◌, refl}
use lib.ListN.{length, get_or}
use lib.Pointwise.{pointwise, pointwise_decides, bytes_decides}
use lib.Dec.{eqb}
use lib.IntN.{pos}
use borrow.Author.Tests.{eqb-true}
use Rattle.std.specs.Ordering.{int_eq}
use Rattle.std.specs.Cmp.{booleans_Decides, signed_Decides}
use Rattle.std.specs.List.{list_all}
use Rattle.std.proofs.lemmas.List.Sums.{AllPass-from_list_all}
use Rattle.rules.specs.declared.Position.TheVariants.{OfMachine}
use Rattle.rules.specs.Motion.{tenths_of, tach_shown}
use Rattle.rules.specs.Counts.{ahead, holds}
use Rattle.rules.specs.Switches.{moved, pulse_holds}
use Rattle.rules.specs.LimitWords.{pulse_bad}
use Rattle.rules.specs.Card.{fresh_group}
use Rattle.rules.specs.Cases.{Case, tach, speed, advance, pulses, fits, pair, group, tests, numbers, integers, Says}
use Rattle.rules.specs.Cases.{cases, lettered, of_words, of_motion, of_groups, of_lengths, of_switches, of_tests, of_cycles, of_setup, of_group_words, of_limit_words, of_nudge, of_reader, of_bus, of_trace}
use Rattle.rules.specs.Cases.{flags, showing, bus_bits, write_bits, switch_at, positions_with, mode4_group, step_event, openings, some_setup, some_groups, three_switches, some_unused}
use Rattle.rules.proofs.Computes.{trace}

-- ---- The test of a line, and what follows from it

right : Case → Bool
right (tach tenths multiplier divider code says) = eqb (tach_shown (record { multiplier = multiplier; divider = divider; code = code }) tenths) says
right (speed fast c says) = eqb (tenths_of fast c) says
right (advance a c setpoint says) = eqb (moved 1024 a c setpoint) says
right (pulses on off q k says) =
    pointwise eqb (positions_with 1024 0 (λ p. pulse_holds 1024 (pos 0) (switch_at 2 q k 0 (on ∷ off ∷ [])) q k (OfMachine (record { 0 = p })))) says
right (fits on off q k says) = beq (not (pulse_bad false (ahead 1024 on off) q k)) says
right (pair on off at says) = beq (holds 1024 on off at) says
right (group on off steps says) = pointwise beq (openings (mode4_group on off) fresh_group steps) says
right (tests given says) = pointwise beq given says
right (numbers given says) = pointwise eqb given says
right (integers given says) = pointwise int_eq given says

right→says : (c : Case) → right c ≡ true → Says c
unfolding right
right→says (tach tenths multiplier divider code says) t = eqb-true _ says t
right→says (speed fast c says) t = eqb-true _ says t
right→says (advance a c setpoint says) t = eqb-true _ says t
right→says (pulses on off q k says) t = (bytes_decides _ says).0 t
right→says (fits on off q k says) t = (booleans_Decides _ says).0 t
right→says (pair on off at says) t = (booleans_Decides _ says).0 t
right→says (group on off steps says) t = (pointwise_decides booleans_Decides _ says).0 t
right→says (tests given says) t = (pointwise_decides booleans_Decides given says).0 t
right→says (numbers given says) t = (bytes_decides given says).0 t
right→says (integers given says) t = (pointwise_decides signed_Decides given says).0 t

-- the whole table, computed
all_right : list_all right cases ≡ true
unfolding trace right cases lettered of_words of_motion of_groups of_lengths of_switches of_tests of_cycles of_setup of_group_words of_limit_words of_nudge of_reader of_bus of_trace flags showing bus_bits write_bits switch_at positions_with mode4_group step_event openings some_setup some_groups three_switches some_unused
all_right = refl

-- THE CASES: each line, 01's lettered ones first, holds of the definitions
pub cases_hold : (n : ℕ) → n < length cases → (d : Case) → Says (get_or cases n d)
cases_hold n h d = right→says (get_or cases n d) (AllPass-from_list_all right cases all_right n d h)
