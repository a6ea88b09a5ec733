-- 01, "Programming": the nudge, one count up or down on the setpoints of one pair in force. No past.
-- Assumes nothing.
use Rattle.std.specs.Prelude.{ℕ, ◌+◌, ◌-◌, ◌*◌, ◌/◌, ◌%◌, Bool, true, false, cond, not, ◌&&◌, ◌||◌, set, leb, eqb}
use Rattle.rules.specs.declared.Switch.{Switch}
use Rattle.rules.specs.declared.Switch.TheVariants.{Unprogrammed, Normal, Pulse, Timed}
use Rattle.rules.specs.declared.Limit.{Limit}
use Rattle.rules.specs.declared.Programming.{Programming}
use Rattle.rules.specs.declared.Configuration.{Configuration}
use Rattle.rules.specs.declared.Cycle.TheVariants.{NudgeCycle}
use Rattle.rules.specs.declared.Refusal.TheVariants.{NudgeOutput, NudgeSetpoint}
use Rattle.rules.specs.declared.Decision.{Decision}
use Rattle.rules.specs.Words.{bit}
use Rattle.rules.specs.Variants.{limit_switch}
use Rattle.rules.specs.Motion.{scale_factor}
use Rattle.rules.specs.Counts.{ahead, used_pair, pair_bad}
use Rattle.rules.specs.Switches.{on_setpoint, off_setpoint, limit_of}
use Rattle.rules.specs.Cycle.{stands, cycle, ignored_cycle, refused_cycle, accepted_cycle}
use Rattle.rules.specs.LimitWords.{pulse_bad, with_limits}

-- "8 ON, 9 OFF, or both; 10 down, 7–5 pair − 1, 4–0 output − 1"; 14 is ClrErr
abbrev pub on_bit : ℕ
on_bit = 8

abbrev pub off_bit : ℕ
off_bit = 9

abbrev pub down_bit : ℕ
down_bit = 10

abbrev pub nudge_clear_bit : ℕ
nudge_clear_bit = 14

abbrev pub nudge_output : ℕ → ℕ
nudge_output w = w % 32

abbrev pub nudge_pair : ℕ → ℕ
nudge_pair w = w / 32 % 8

-- "9: nudged output unprogrammed, neither setpoint, pair over 1 on pulse or timed, or any of bits 11–13 set"
abbrev pub pair_missing : Switch → ℕ → Bool
pair_missing Unprogrammed k = true
pair_missing Normal k = false
pair_missing (Pulse q c) k = not (eqb k 0)
pair_missing (Timed t) k = not (eqb k 0)

unfoldable pub nudge_output_bad : Programming → ℕ → Bool
nudge_output_bad p w =
    pair_missing (limit_switch (limit_of p (nudge_output w))) (nudge_pair w)
    || not (bit w on_bit || bit w off_bit)
    || bit w 11
    || bit w 12
    || bit w 13

-- a setpoint nudged by "One count, no wrap", and whether that leaves 0 to SF − 1
unfoldable pub nudged_to : Bool → ℕ → ℕ
nudged_to down x = cond down (x - 1) (x + 1)

unfoldable pub leaves_range : ℕ → Bool → ℕ → Bool
leaves_range sf down x = cond down (eqb x 0) (leb sf (x + 1))

abbrev pub nudged_if : Bool → Bool → ℕ → ℕ
nudged_if chosen down x = cond chosen (nudged_to down x) x

-- the limit checks that a nudge can fail: the pair's and, of a pulse, its length
abbrev pub nudge_fails : ℕ → Switch → ℕ → ℕ → Bool
nudge_fails sf Unprogrammed on off = false
nudge_fails sf Normal on off = false
nudge_fails sf (Pulse q k) on off = pulse_bad false (ahead sf on off) q k
nudge_fails sf (Timed t) on off = false

-- "10, after 9: pair unused, or result 0/0, out of range or failing limit checks", for a pair (on, off) and the result
unfoldable pub result_bad : ℕ → Switch → ℕ → ℕ → Bool
result_bad sf s on off = not (used_pair on off) || pair_bad sf on off || nudge_fails sf s on off

unfoldable pub nudge_setpoint_bad : ℕ → Limit → ℕ → ℕ → Bool
nudge_setpoint_bad sf l k w =
    not (used_pair (on_setpoint l k) (off_setpoint l k))
    || (bit w on_bit && leaves_range sf (bit w down_bit) (on_setpoint l k))
    || (bit w off_bit && leaves_range sf (bit w down_bit) (off_setpoint l k))
    || result_bad sf (limit_switch l) (nudged_if (bit w on_bit) (bit w down_bit) (on_setpoint l k)) (nudged_if (bit w off_bit) (bit w down_bit) (off_setpoint l k))

abbrev pub with_pair : Limit → ℕ → ℕ → ℕ → Limit
with_pair l k on off =
    record { action = l.action; enable = l.enable; detector = l.detector; onadvance = l.onadvance; offadvance = l.offadvance; setpoints = set (set l.setpoints (2 * k) on) (2 * k + 1) off }

unfoldable pub nudged_limit : Limit → ℕ → Limit
nudged_limit l w =
    with_pair l (nudge_pair w) (nudged_if (bit w on_bit) (bit w down_bit) (on_setpoint l (nudge_pair w))) (nudged_if (bit w off_bit) (bit w down_bit) (off_setpoint l (nudge_pair w)))

unfoldable pub nudged_programming : Programming → ℕ → Programming
nudged_programming p w = with_limits p (set p.limits (nudge_output w) (nudged_limit (limit_of p (nudge_output w)) w))

-- "14 drops errors and the fault and ends there, accepted, other bits unread"; then 5, 9, 10
unfoldable pub nudge_acts : ℕ → Configuration → Decision
nudge_acts w g =
    cond (bit w nudge_clear_bit)
    (accepted_cycle g.programming g)
    (cond (stands g.errors)
    (ignored_cycle g)
    (cond (nudge_output_bad g.programming w)
    (refused_cycle NudgeOutput g)
    (cond (nudge_setpoint_bad (scale_factor g.programming.setup) (limit_of g.programming (nudge_output w)) (nudge_pair w) w)
    (refused_cycle NudgeSetpoint g)
    (accepted_cycle (nudged_programming g.programming w) g))))

unfoldable pub nudge_cycle : Configuration → ℕ → Decision
nudge_cycle g w = cycle NudgeCycle w (bit w nudge_clear_bit) (nudge_acts w) g
