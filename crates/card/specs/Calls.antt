-- What an exported call gives back of a call by value. Assumes nothing.
use Rattle.std.specs.Prelude.{ℕ, ◌≡◌}
use Rattle.rules.specs.declared.Module.{Module}
use Rattle.rules.specs.declared.CycleResult.{CycleResult}
use Rattle.rules.specs.Cycle.{outcome_number}

-- the lent module is what the call leaves, and the number is its outcome's
abbrev pub Gives : CycleResult → Module → ℕ → Type 0
Gives r left number = (left ≡ r.card) × (number ≡ outcome_number r.outcome)
