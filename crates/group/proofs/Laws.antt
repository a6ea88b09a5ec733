-- Laws of a group's step.
-- Assumes nothing.
use Prim.Native.Nat.{ℕ}
use mathlib.Core.Bool.{Bool, true, false, cond}
use mathlib.Core.Path.{◌≡◌, refl}
use Rattle.rules.specs.declared.Pair.{Pair}
use Rattle.rules.specs.declared.MachinePosition.{MachinePosition}
use Rattle.group.specs.Step.{place_at}

-- the place that a test picks is the place under the shift that it picks
pub place_picked : (taken : Bool) (sf : ℕ) (d : Pair) (a b : ℕ) (m : MachinePosition) → cond taken (place_at sf d a m) (place_at sf d b m) ≡ place_at sf d (cond taken a b) m
place_picked true sf d a b m = refl
place_picked false sf d a b m = refl
