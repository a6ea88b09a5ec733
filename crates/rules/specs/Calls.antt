-- Power-up, the calls that a card gets, and what each call's arguments do to the configuration. No past, no state.
-- Assumes nothing.
use Rattle.std.specs.Prelude.{ℕ, Bool, true, false, cond, Result, not, ◌&&◌, List, leb}
use Rattle.rules.specs.declared.Model.{Model}
use Rattle.rules.specs.declared.Setup.{Setup}
use Rattle.rules.specs.declared.Configuration.{Configuration}
use Rattle.rules.specs.declared.Sample.{Sample}
use Rattle.rules.specs.declared.FileCycle.{FileCycle}
use Rattle.rules.specs.declared.Outcome.{Outcome}
use Rattle.rules.specs.declared.Answer.{Answer}
use Rattle.rules.specs.declared.Refusal.{Refusal}
use Rattle.rules.specs.Variants.{model_number}
use Rattle.rules.specs.Cycle.{no_acknowledges, with_fault, with_raw}
use Rattle.rules.specs.SetupWords.{no_programs}
use Rattle.rules.specs.FileCycle.{file_cycle}
use Rattle.rules.specs.Nudge.{nudge_cycle}

-- ---- Power-up

-- "scale factor SF 1024, offset and preset 0, clockwise, 504 ms, Group Mode, both detectors 0/0, multiplier and divisor 1, decimal code 0, active states 0, no interrupt"
unfoldable pub default_setup : Setup
default_setup = record {
  top = 1023;
  preset = 0;
  offset = 0;
  reversed = false;
  fast = false;
  interrupt = false;
  independent = false;
  md1 = record { low = 0; high = 0 };
  md2 = record { low = 0; high = 0 };
  scalars = record { multiplier = 1; divider = 0; code = 0 };
  states = 0;
}

-- "no .. acknowledge, fault, group or limit program"; "SUErr stands at power-up."
unfoldable pub fresh_configuration : Model → Configuration
fresh_configuration model = record {
  model = model_number model;
  programming = no_programs default_setup;
  errors = record { setup = true; group = false; limit = false; number = false; setpoint = false };
  acknowledges = no_acknowledges;
  ignored = false;
  fault = false;
  raw = 0;
}

-- ---- The step

-- "raw over 1023"
abbrev pub raw_most : ℕ
raw_most = 1023

-- "11: raw over 1023, or fault latched": a step that is not answered 11
unfoldable pub sound : Configuration → Sample → Bool
sound g s = leb s.raw raw_most && not g.fault

-- "Latches"; the last raw is that of a step not answered 11
unfoldable pub step_configuration : Configuration → Sample → Configuration
step_configuration g s = cond (sound g s) (with_raw g s.raw) (with_fault g true)

-- ---- The calls

-- a byte access: a read at an offset; a write at an offset, of a byte
pub data Access : Type 0 where
  Read : ℕ → Access
  Write : ℕ → ℕ → Access

-- "Setup and group calls take M0, the limit call M1, the nudge its word only"; "a cycle may bring any file or word": a list of words of any length.
-- 02: "every list of steps, cycles and byte accesses"
pub data Call : Type 0 where
  Step : Sample → Call
  FileCall : FileCycle → List ℕ → Call
  NudgeCall : ℕ → Call
  ByteCall : Access → Call

-- What a call answers: a step its answer; a cycle its outcome and what its file then holds, nothing for a nudge, which has none; a byte read the
-- byte or its refusal; a byte write its outcome.
pub data Reply : Type 0 where
  Stepped : Answer → Reply
  Cycled : Outcome → List ℕ → Reply
  Showed : Result ℕ Refusal → Reply
  Written : Outcome → Reply

unfoldable pub configuration_after : Configuration → Call → Configuration
configuration_after g (Step s) = step_configuration g s
configuration_after g (FileCall kind file) = (file_cycle kind g file).configuration
configuration_after g (NudgeCall w) = (nudge_cycle g w).configuration
configuration_after g (ByteCall a) = g
