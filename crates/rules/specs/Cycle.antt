-- 01, "Who brings a refusal on" and the programming cycle: refusals and their numbers, transmit and acknowledge, ClrErr, errors, the decision. No past.
-- Assumes nothing.
use Rattle.std.specs.Prelude.{ℕ, Bool, true, false, cond, Result, Ok, Err, not, ◌&&◌, ◌||◌, eqb}
use Rattle.rules.specs.declared.Programming.{Programming}
use Rattle.rules.specs.declared.Errors.{Errors}
use Rattle.rules.specs.declared.Acknowledges.{Acknowledges}
use Rattle.rules.specs.declared.Configuration.{Configuration}
use Rattle.rules.specs.declared.FileCycle.TheVariants.{SetupCycle, GroupCycle, LimitCycle}
use Rattle.rules.specs.declared.Cycle.{Cycle}
use Rattle.rules.specs.declared.Cycle.TheVariants.{OfFile, NudgeCycle}
use Rattle.rules.specs.declared.Refusal.{Refusal}
use Rattle.rules.specs.declared.Refusal.TheVariants.{M0Length, M1Length, UnknownModule, BlockNumber, Ignored, SetupData, GroupData, LimitData, NudgeOutput, NudgeSetpoint, Transducer, TraceFile, ByteOffset, ReadOnlyByte}
use Rattle.rules.specs.declared.Outcome.{Outcome}
use Rattle.rules.specs.declared.Outcome.TheVariants.{Idle, Accepted, Refused}
use Rattle.rules.specs.declared.Decision.{Decision}
use Rattle.rules.specs.Words.{bit}

-- ---- Refusals and answers

-- 01's number of each refusal; 02: "13 for an offset over 17", "14 for a write below 16"
unfoldable pub number_of : Refusal → ℕ
number_of M0Length = 1
number_of M1Length = 2
number_of UnknownModule = 3
number_of BlockNumber = 4
number_of Ignored = 5
number_of SetupData = 6
number_of GroupData = 7
number_of LimitData = 8
number_of NudgeOutput = 9
number_of NudgeSetpoint = 10
number_of Transducer = 11
number_of TraceFile = 12
number_of ByteOffset = 13
number_of ReadOnlyByte = 14

-- what an exported call returns: 0 accepted, 65535, which is no refusal's, Idle, else the refusal's number
abbrev pub outcome_number : Outcome → ℕ
outcome_number Idle = 65535
outcome_number Accepted = 0
outcome_number (Refused r) = number_of r

-- the outcome of a call that is accepted with a value or refused
abbrev pub outcome_of : {A : Type 0} → Result A Refusal → Outcome
outcome_of (Ok a) = Accepted
outcome_of (Err why) = Refused why

abbrev pub is_accepted : Outcome → Bool
is_accepted Idle = false
is_accepted Accepted = true
is_accepted (Refused r) = false

-- "M0 is 120 words, M1 650."
abbrev pub m0_length : ℕ
m0_length = 120

abbrev pub m1_length : ℕ
m1_length = 650

-- bits of every command word: transmit; ClrErr of a cycle that takes a file
abbrev pub transmit_bit : ℕ
transmit_bit = 15

abbrev pub clear_bit : ℕ
clear_bit = 0

-- ---- The parts of a configuration

abbrev pub with_programming : Configuration → Programming → Configuration
with_programming g p =
    record { model = g.model; programming = p; errors = g.errors; acknowledges = g.acknowledges; ignored = g.ignored; fault = g.fault; raw = g.raw }

abbrev pub with_errors : Configuration → Errors → Configuration
with_errors g e =
    record { model = g.model; programming = g.programming; errors = e; acknowledges = g.acknowledges; ignored = g.ignored; fault = g.fault; raw = g.raw }

abbrev pub with_acknowledges : Configuration → Acknowledges → Configuration
with_acknowledges g a =
    record { model = g.model; programming = g.programming; errors = g.errors; acknowledges = a; ignored = g.ignored; fault = g.fault; raw = g.raw }

abbrev pub with_ignored : Configuration → Bool → Configuration
with_ignored g i =
    record { model = g.model; programming = g.programming; errors = g.errors; acknowledges = g.acknowledges; ignored = i; fault = g.fault; raw = g.raw }

abbrev pub with_fault : Configuration → Bool → Configuration
with_fault g f =
    record { model = g.model; programming = g.programming; errors = g.errors; acknowledges = g.acknowledges; ignored = g.ignored; fault = f; raw = g.raw }

abbrev pub with_raw : Configuration → ℕ → Configuration
with_raw g r =
    record { model = g.model; programming = g.programming; errors = g.errors; acknowledges = g.acknowledges; ignored = g.ignored; fault = g.fault; raw = r }

-- ---- One skeleton for the cycles

abbrev pub no_errors : Errors
no_errors = record { setup = false; group = false; limit = false; number = false; setpoint = false }

abbrev pub no_acknowledges : Acknowledges
no_acknowledges = record { setup = false; group = false; limit = false; nudge = false }

abbrev pub acknowledged : Cycle → Acknowledges → Bool
acknowledged (OfFile SetupCycle) a = a.setup
acknowledged (OfFile GroupCycle) a = a.group
acknowledged (OfFile LimitCycle) a = a.limit
acknowledged NudgeCycle a = a.nudge

abbrev pub with_acknowledge : Cycle → Bool → Acknowledges → Acknowledges
with_acknowledge (OfFile SetupCycle) b a = record { setup = b; group = a.group; limit = a.limit; nudge = a.nudge }
with_acknowledge (OfFile GroupCycle) b a = record { setup = a.setup; group = b; limit = a.limit; nudge = a.nudge }
with_acknowledge (OfFile LimitCycle) b a = record { setup = a.setup; group = a.group; limit = b; nudge = a.nudge }
with_acknowledge NudgeCycle b a = record { setup = a.setup; group = a.group; limit = a.limit; nudge = b }

-- "Errors are SUErr, GPErr, LSErr, I/DNum and I/DSet; the fault is none."
unfoldable pub stands : Errors → Bool
stands e = e.setup || e.group || e.limit || e.number || e.setpoint

-- "6 to 10 set their error."
abbrev pub error_of : Refusal → Errors → Errors
error_of M0Length e = e
error_of M1Length e = e
error_of UnknownModule e = e
error_of BlockNumber e = e
error_of Ignored e = e
error_of SetupData e = record { setup = true; group = e.group; limit = e.limit; number = e.number; setpoint = e.setpoint }
error_of GroupData e = record { setup = e.setup; group = true; limit = e.limit; number = e.number; setpoint = e.setpoint }
error_of LimitData e = record { setup = e.setup; group = e.group; limit = true; number = e.number; setpoint = e.setpoint }
error_of NudgeOutput e = record { setup = e.setup; group = e.group; limit = e.limit; number = true; setpoint = e.setpoint }
error_of NudgeSetpoint e = record { setup = e.setup; group = e.group; limit = e.limit; number = e.number; setpoint = true }
error_of Transducer e = e
error_of TraceFile e = e
error_of ByteOffset e = e
error_of ReadOnlyByte e = e

-- transmit is set and acknowledge clear: "Otherwise the cycle acts"
unfoldable pub acts : Cycle → ℕ → Configuration → Bool
acts kind command g = bit command transmit_bit && not (acknowledged kind g.acknowledges)

-- An acting cycle "sets acknowledge"; ClrErr "first drops all errors and the fault"; MsgIgn tells of the last acting cycle.
abbrev pub cleared_errors : Bool → Configuration → Errors
cleared_errors clear g = cond clear no_errors g.errors

unfoldable pub underway : Cycle → Bool → Configuration → Configuration
underway kind clear g =
    with_ignored (with_acknowledges (with_fault (with_errors g (cleared_errors clear g)) (not clear && g.fault)) (with_acknowledge kind true g.acknowledges)) false

-- "Bit clear: acknowledge clears. Bit set with acknowledge set: nothing. Both answer Idle and write nothing."
unfoldable pub idle_cycle : Cycle → ℕ → Configuration → Decision
idle_cycle kind command g =
    record { configuration = cond (bit command transmit_bit) g (with_acknowledges g (with_acknowledge kind false g.acknowledges)); outcome = Idle }

-- `act` is what an acting cycle does
unfoldable pub cycle : Cycle → ℕ → Bool → (Configuration → Decision) → Configuration → Decision
cycle kind command clear act g = cond (acts kind command g) (act (underway kind clear g)) (idle_cycle kind command g)

-- refusals 1 and 2: "Nothing changes."
unfoldable pub turned_away : Refusal → Configuration → Decision
turned_away why g = record { configuration = g; outcome = Refused why }

-- refusal 5: "Sets MsgIgn, itself no error"
unfoldable pub ignored_cycle : Configuration → Decision
ignored_cycle g = record { configuration = with_ignored g true; outcome = Refused Ignored }

-- refusals 6 to 10
unfoldable pub refused_cycle : Refusal → Configuration → Decision
refused_cycle why g = record { configuration = with_errors g (error_of why g.errors); outcome = Refused why }

-- the new programming is in force
unfoldable pub accepted_cycle : Programming → Configuration → Decision
accepted_cycle p g = record { configuration = with_programming g p; outcome = Accepted }

-- "5 comes first", then the data's refusal
unfoldable pub judged : Bool → ℕ → Refusal → Programming → Configuration → Decision
judged barred errors why p g = cond barred (ignored_cycle g) (cond (eqb errors 0) (accepted_cycle p g) (refused_cycle why g))

-- the first status word: bit 14 only where the cycle was ignored, else the errors
abbrev pub ignored_status : ℕ
ignored_status = 0x4000

abbrev pub status_word : Bool → ℕ → ℕ
status_word ignored errors = cond ignored ignored_status errors
