use Prim.Native.Nat.{ℕ, ◌-◌, ◌≤◌, ◌<◌}
use mathlib.Core.Bool.{Bool}
use mathlib.Core.List.{List}
use mathlib.Core.Path.{◌≡◌}
use lib.Dec.{ltb}
use lib.Count.{ones}
use lib.ListN.{length, get_or}
use Rattle.rules.specs.declared.Conditions.{Conditions}
use Rattle.rules.specs.declared.GroupPosition.{GroupPosition}
use Rattle.rules.specs.declared.Programming.{Programming}
use Rattle.rules.specs.declared.TimedState.{TimedState}
use Rattle.rules.specs.Words.{packed}
use Rattle.rules.specs.Groups.{no_position, of_group}
use Rattle.rules.specs.Switches.{limit_of, owner_of, rule_at, output_tests}
use Rattle.rules.specs.Card.{fresh_timed, timed_of}
use Rattle.engine.proofs.Lists.{FilledDown, StillDown}
use Rattle.engine.proofs.outputs.outputs_after.Given as goal

-- of the 32 outputs the one at n before the forces
abbrev pub on_at : Programming → Conditions → List GroupPosition → List Bool → List TimedState → ℕ → Bool
on_at p w positions isopen xs n = rule_at p w positions isopen (λ k. ltb 0 (timed_of p w positions xs k).left) n

-- the pairs of one that are tested, whether the module has it or not
abbrev pub tested_at : Programming → Conditions → List GroupPosition → ℕ → ℕ
tested_at p w positions n = output_tests w (limit_of p n) (of_group no_position positions (owner_of p n))

-- of the outputs from k on as many bits are set as pairs were tested
abbrev pub ToldDown : ℕ → (ℕ → ℕ) → List ℕ → Type 0
ToldDown k f xs = (length xs ≡ 32) × ((j : ℕ) → k ≤ j → j < 32 → ones (get_or xs j 0) ≡ f j)

abbrev pub invariant-loop-n : goal.invariant-loop-n
invariant-loop-n l =
    let xs = l.initial.timed in
    (l.on ≡ packed (32 - l.n) l.n (on_at l.p l.w l.positions l.isopen xs))
    × FilledDown 32 l.n (timed_of l.p l.w l.positions xs) l.timed
    × ToldDown l.n (tested_at l.p l.w l.positions) l.tested
    × StillDown l.n fresh_timed xs l.timed
