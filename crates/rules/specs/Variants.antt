-- The module's stored numbers as cases: a number that 01 does not name reads as the case that lights nothing. No past.
-- Assumes nothing.
use Rattle.std.specs.Prelude.{ℕ, Bool, cond, [], ◌∷◌, eqb}
use Rattle.rules.specs.declared.Model.{Model}
use Rattle.rules.specs.declared.Model.TheVariants.{NoModule, M8511, M8512, M8513}
use Rattle.rules.specs.declared.IoType.{IoType}
use Rattle.rules.specs.declared.IoType.TheVariants.{Real, Virtual}
use Rattle.rules.specs.declared.DecimalCode.{DecimalCode}
use Rattle.rules.specs.declared.DecimalCode.TheVariants.{Code0, Code1, Code2, Code3}
use Rattle.rules.specs.declared.Mode.{Mode}
use Rattle.rules.specs.declared.Mode.TheVariants.{NoMode, Mode0, Mode1, Mode2, Mode3, Mode4, Mode5}
use Rattle.rules.specs.declared.Switch.{Switch}
use Rattle.rules.specs.declared.Switch.TheVariants.{Unprogrammed, Normal, Pulse, Timed}
use Rattle.rules.specs.declared.Anded.{Anded}
use Rattle.rules.specs.declared.Anded.TheVariants.{Never, Neither, First, Second}
use Rattle.rules.specs.declared.Action.{Action}
use Rattle.rules.specs.declared.Group.{Group}
use Rattle.rules.specs.declared.Limit.{Limit}
use Rattle.rules.specs.declared.Configuration.{Configuration}
use Rattle.rules.specs.Words.{one_of}

-- ---- The model

-- "Power-up takes 8511, 8512 or 8513"; any other number is refusal 3
unfoldable pub model_known : ℕ → Bool
model_known n = one_of (8511 ∷ 8512 ∷ 8513 ∷ []) n

unfoldable pub model_of : ℕ → Model
model_of n = cond (eqb n 8511) M8511 (cond (eqb n 8512) M8512 (cond (eqb n 8513) M8513 NoModule))

unfoldable pub model_number : Model → ℕ
model_number NoModule = 0
model_number M8511 = 8511
model_number M8512 = 8512
model_number M8513 = 8513

-- a configuration's
abbrev pub model_in : Configuration → Model
model_in g = model_of g.model

-- "0, 8 or 16 real inputs and outputs"; "All have 16 virtual ones"
unfoldable pub real_count : Model → ℕ
real_count NoModule = 0
real_count M8511 = 0
real_count M8512 = 8
real_count M8513 = 16

unfoldable pub virtual_count : Model → ℕ
virtual_count NoModule = 0
virtual_count M8511 = 16
virtual_count M8512 = 16
virtual_count M8513 = 16

unfoldable pub io_count : Model → IoType → ℕ
io_count model Real = real_count model
io_count model Virtual = virtual_count model

-- ---- Setup: the decimal code, 0 to 3

unfoldable pub code_of : ℕ → DecimalCode
code_of n = cond (eqb n 0) Code0 (cond (eqb n 1) Code1 (cond (eqb n 2) Code2 Code3))

abbrev pub code_number : DecimalCode → ℕ
code_number Code0 = 0
code_number Code1 = 1
code_number Code2 = 2
code_number Code3 = 3

-- ---- Groups: GPTyp, FCITyp, and the mode, 0 to 5

abbrev pub io_type_of : Bool → IoType
io_type_of b = cond b Virtual Real

abbrev pub group_type : Group → IoType
group_type g = io_type_of g.isvirtual

abbrev pub first_cycle_type : Group → IoType
first_cycle_type g = io_type_of g.firstvirtual

unfoldable pub mode_of : ℕ → Mode
mode_of n =
    cond (eqb n 0) Mode0
    (cond (eqb n 1) Mode1 (cond (eqb n 2) Mode2 (cond (eqb n 3) Mode3 (cond (eqb n 4) Mode4 (cond (eqb n 5) Mode5 NoMode)))))

abbrev pub group_mode : Group → Mode
group_mode g = mode_of g.mode

-- ---- Limit switches: their type and the detector that is ANDed

unfoldable pub switch_of : Action → Switch
switch_of a =
    cond (eqb a.kind 1) Normal
    (cond (eqb a.kind 2) (Pulse a.quantity a.count)
    (cond (eqb a.kind 3) (Timed a.duration) Unprogrammed))

-- a switch as it is stored
abbrev pub action_with : Switch → Action
action_with Unprogrammed = record { kind = 0; quantity = 0; count = 0; duration = 0 }
action_with Normal = record { kind = 1; quantity = 0; count = 0; duration = 0 }
action_with (Pulse q k) = record { kind = 2; quantity = q; count = k; duration = 0 }
action_with (Timed t) = record { kind = 3; quantity = 0; count = 0; duration = t }

abbrev pub limit_switch : Limit → Switch
limit_switch l = switch_of l.action

-- "detector 0 to 2"
unfoldable pub anded_of : ℕ → Anded
anded_of n = cond (eqb n 0) Neither (cond (eqb n 1) First (cond (eqb n 2) Second Never))
