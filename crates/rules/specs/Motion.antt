-- 01, "Module and sample" and "Speed": inputs, positions, movement, speed, tachometer, detectors, and what a step's groups and outputs read. No past.
-- Assumes nothing.
use Rattle.std.specs.Prelude.{ℕ, ◌+◌, ◌*◌, ◌/◌, ◌%◌, ◌^◌, Bool, false, cond, not, ◌&&◌, ◌||◌, ltb, leb, eqb, ℤ, pos, nat_abs, ◌+ℤ◌, ◌-ℤ◌}
use Rattle.std.specs.Bool.{beq}
use Rattle.std.proofs.Math.IntN.{sub_ℕ}
use Rattle.rules.specs.declared.MachinePosition.{MachinePosition}
use Rattle.rules.specs.declared.Detector.{Detector}
use Rattle.rules.specs.declared.Scalars.{Scalars}
use Rattle.rules.specs.declared.Setup.{Setup}
use Rattle.rules.specs.declared.Configuration.{Configuration}
use Rattle.rules.specs.declared.Sample.{Sample}
use Rattle.rules.specs.declared.Model.{Model}
use Rattle.rules.specs.declared.IoType.{IoType}
use Rattle.rules.specs.declared.IoType.TheVariants.{Real, Virtual}
use Rattle.rules.specs.declared.Conditions.{Conditions}
use Rattle.rules.specs.Words.{bit, word_of, modulo, round_half_up, forced}
use Rattle.rules.specs.Variants.{model_in, real_count, code_of, code_number}

-- "A real input is active where its current equals its active-state bit; the force is applied after. A missing real input is inactive, forced or not."
-- Inputs are counted from 0 here, so input 1 is n = 0 of type Real and input 17 n = 0 of type Virtual.
unfoldable pub real_input : Model → Setup → Sample → ℕ → Bool
real_input model u s n =
    ltb n (real_count model)
    && forced (bit s.inputsoff n) (bit s.inputson n) (beq (bit s.currents n) (bit u.states n))

-- SF, the scale factor
abbrev pub scale_factor : Setup → ℕ
scale_factor u = u.top + 1

-- "q = raw, or (1024 − raw) mod 1024 with CDir set"
unfoldable pub turned : Bool → ℕ → ℕ
turned reversed raw = cond reversed (modulo (sub_ℕ 1024 raw) 1024) raw

-- floor(q × SF / 1024), the scaled position
unfoldable pub scaled_position : ℕ → ℕ → ℕ
scaled_position sf q = q * sf / 1024

-- "Machine Position = (floor(q × SF / 1024) + machine offset) mod SF"
unfoldable pub machine_position : Setup → ℕ → MachinePosition
machine_position u raw =
    record { 0 = (scaled_position (scale_factor u) (turned u.reversed raw) + u.offset) % scale_factor u }

unfoldable pub machine_at : Configuration → Sample → MachinePosition
machine_at g s = machine_position g.programming.setup s.raw

-- "Movement is ((q − last q + 512) mod 1024) − 512"
unfoldable pub movement : ℕ → ℕ → ℤ
movement q last = pos (modulo (sub_ℕ q last +ℤ pos 512) 1024) -ℤ pos 512

-- "At every 600th (TResp 1) or 2520th step"; "W = 120 or 504 ms"; c is made at every 120th
unfoldable pub window_steps : Bool → ℕ
window_steps fast = cond fast 600 2520

unfoldable pub window_time : Bool → ℕ
window_time fast = cond fast 120 504

abbrev pub short_steps : ℕ
short_steps = 120

-- 02: "The speed is to be worked out in tenths of an rpm, rounded half up once": ten times 01's "|C| × 60000 / (1024 × W)"
unfoldable pub tenths_of : Bool → ℤ → ℕ
tenths_of fast c = round_half_up (nat_abs c * 600000) (1024 * window_time fast)

-- 02: "A stop is now an update of 0 tenths"
unfoldable pub is_stop : Bool → ℕ → Bool
is_stop update tenths = update && eqb tenths 0

-- the divisor, and 10^code
abbrev pub divisor : Scalars → ℕ
divisor k = k.divider + 1

-- 02: "Tach starts from the tenths and is still rounded half up once": 01's "multiplier / (divisor × 10^code), rounded half up from the exact quotient", and a ten more
unfoldable pub tach_value : Scalars → ℕ → ℕ
tach_value k tenths = round_half_up (tenths * k.multiplier) (divisor k * 10 ^ (code_number (code_of k.code) + 1))

-- "above 32767 it reads 32767 with TachOv set"
unfoldable pub tach_shown : Scalars → ℕ → ℕ
tach_shown k tenths = cond (ltb 32767 (tach_value k tenths)) 32767 (tach_value k tenths)

unfoldable pub tach_overflow : Scalars → ℕ → Bool
tach_overflow k tenths = ltb 32767 (tach_value k tenths)

-- "A detector with low ≤ high is on where low ≤ .. ≤ high; with low > high, where .. ≤ high or .. ≥ low; 0/0 never."
-- 02: "Detectors compare tenths with ten times their setpoints."
unfoldable pub detects : Detector → ℕ → Bool
detects d tenths =
    not (eqb d.low 0 && eqb d.high 0)
    && cond (leb d.low d.high) (leb (10 * d.low) tenths && leb tenths (10 * d.high)) (leb tenths (10 * d.high) || leb (10 * d.low) tenths)

-- 02: "the movement sums .. are to be held in 32 bits inside". A sum of movements is held as one number, 512 added for each of its `steps` steps: the signed sum that a number stands for.
abbrev pub unbiased : ℕ → ℕ → ℤ
unbiased steps n = sub_ℕ n (512 * steps)

-- c, "the sum of the last 120 movements": the sum that a number stands for, and the number that stands for a sum
abbrev pub c_value : ℕ → ℤ
c_value n = unbiased short_steps n

abbrev pub biased_c : ℤ → ℕ
biased_c c = nat_abs (c +ℤ pos (512 * short_steps))

-- ---- What a step's groups, outputs and answer read

-- the word of the active real inputs; a virtual input's level is its bit
unfoldable pub real_inputs : Configuration → Sample → ℕ
real_inputs g s = word_of 0 (real_input (model_in g) g.programming.setup s)

-- of a step at which Machine Position is `machine`, c is held as `c`, the speed is `tenths` and was updated or not, and the detectors are as given
abbrev pub conditions_with : Configuration → Sample → MachinePosition → ℕ → ℕ → Bool → Bool → Bool → Conditions
conditions_with g s machine c tenths update md1 md2 = record {
  top = g.programming.setup.top;
  independent = g.programming.setup.independent;
  machine = machine;
  real = real_inputs g s;
  virtuals = s.virtuals;
  c = c;
  tenths = tenths;
  update = update;
  md1 = md1;
  md2 = md2;
}

-- of a step not answered 11, where c is held as `c`, and the speed is `tenths` and was updated or not
unfoldable pub conditions : Configuration → Sample → ℕ → ℕ → Bool → Conditions
conditions g s c tenths update =
    conditions_with g s (machine_at g s) c tenths update (detects g.programming.setup.md1 tenths) (detects g.programming.setup.md2 tenths)

-- 11: "reports the Machine Position of the last step since power-up not answered 11, else 0; .. tach and TachOv 0; detectors .. off"; 02: "The rpm in the answer becomes tenths", 0 as well
unfoldable pub fault_conditions : Configuration → Sample → MachinePosition → Conditions
fault_conditions g s last = conditions_with g s last (biased_c (pos 0)) 0 false false false

-- SF in force
abbrev pub scale : Conditions → ℕ
scale w = w.top + 1

-- the level of an input of a type, counted from 0
abbrev pub level : Conditions → IoType → ℕ → Bool
level w Real n = bit w.real n
level w Virtual n = bit w.virtuals n

-- table 3.1: "group g 1 to 6, .. First Cycle 8; virtual 16 higher"; LS Enable is input 7 or 23
abbrev pub group_input : ℕ → ℕ
group_input n = n

abbrev pub enable_input : ℕ
enable_input = 6

abbrev pub first_cycle_input : ℕ
first_cycle_input = 7
