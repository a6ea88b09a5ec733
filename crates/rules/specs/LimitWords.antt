-- 01, "Programming": the limit words of M1, the checks of a block's 19 words, and the program that a block gives. No past.
-- Assumes nothing.
use Rattle.std.specs.Prelude.{ℕ, ◌+◌, ◌-◌, ◌*◌, ◌/◌, ◌%◌, Bool, false, cond, not, ◌&&◌, ◌||◌, List, [], ◌∷◌, ltb, leb, eqb, nat_abs}
use Rattle.rules.specs.declared.Model.{Model}
use Rattle.rules.specs.declared.Action.{Action}
use Rattle.rules.specs.declared.Advance.{Advance}
use Rattle.rules.specs.declared.Limit.{Limit}
use Rattle.rules.specs.declared.Programming.{Programming}
use Rattle.rules.specs.Words.{word, bit, bits, some_of, each_of, count_of, lowest_of, table, other_bit, any_word, signed_word}
use Rattle.rules.specs.Motion.{scale_factor}
use Rattle.rules.specs.Counts.{ahead, used_pair, pair_bad}
use Rattle.rules.specs.Switches.{present, unprogrammed, no_limit, owner_of}
use Rattle.rules.specs.Cycle.{transmit_bit, clear_bit}
use Rattle.rules.specs.SetupWords.{reserved_status}

-- "Limit block n, at word 19 × n − 17", n from 1: control, two advances, then figure 5.9
abbrev pub block_at : ℕ → ℕ
block_at n = 19 * n - 17

unfoldable pub limit_block : List ℕ → ℕ → List ℕ
limit_block file n = table 19 0 (λ k. word file (block_at n + k))

-- ---- The 19 words of a block

-- control: "bit 15 enable, 14–13 detector 0 to 2, 1–0 type 0 to 2 for normal, pulse, timed; others zero"
abbrev pub enable_bit : ℕ
enable_bit = 15

abbrev pub control_detector : ℕ → ℕ
control_detector c = c / 8192 % 4

abbrev pub control_type : ℕ → ℕ
control_type c = c % 4

abbrev pub block_type : List ℕ → ℕ
block_type b = control_type (word b 0)

-- "An all-zero block leaves its output unprogrammed."
unfoldable pub all_zero : List ℕ → Bool
all_zero b = each_of 19 0 (λ k. eqb (word b k) 0)

-- Timed: duration in the sixth word; Pulse: quantity in the sixth, ON count in the seventh
unfoldable pub action_of : List ℕ → Action
action_of b =
    cond (eqb (block_type b) 0) (record { kind = 1; quantity = 0; count = 0; duration = 0 })
    (cond (eqb (block_type b) 1) (record { kind = 2; quantity = word b 5; count = word b 6; duration = 0 })
    (cond (eqb (block_type b) 2) (record { kind = 3; quantity = 0; count = 0; duration = word b 5 }) unprogrammed))

abbrev pub advance_of : ℕ → Advance
advance_of w = record { negative = leb 32768 w; tenths = nat_abs (signed_word w) }

-- the sixteen setpoints of a normal switch; the first two words of the others
abbrev pub setpoint_of : List ℕ → ℕ → ℕ
setpoint_of b k = cond (eqb (block_type b) 0 || ltb k 2) (word b (k + 3)) 0

-- the program that a block gives
unfoldable pub limit_of_block : List ℕ → Limit
limit_of_block b = record {
  action = action_of b;
  enable = bit (word b 0) enable_bit;
  detector = control_detector (word b 0);
  onadvance = advance_of (word b 1);
  offadvance = advance_of (word b 2);
  setpoints = table 16 0 (setpoint_of b);
}

-- bit 1, control: detector or type 3, or another bit set
unfoldable pub limit_control_bits : List ℕ
limit_control_bits = 0 ∷ 1 ∷ 13 ∷ 14 ∷ enable_bit ∷ []

unfoldable pub control_bad : ℕ → Bool
control_bad c = eqb (control_detector c) 3 || eqb (control_type c) 3 || other_bit limit_control_bits c

-- bit 2, advance: "−999 to 999 (two's complement)"
unfoldable pub advance_bad : ℕ → Bool
advance_bad w = ltb 999 (nat_abs (signed_word w))

-- bit 3, setpoint: of a normal switch any of the eight pairs, of the others the first
unfoldable pub block_pair_bad : ℕ → List ℕ → ℕ → Bool
block_pair_bad sf b k = pair_bad sf (word b (2 * k + 3)) (word b (2 * k + 4))

unfoldable pub setpoint_bad : ℕ → List ℕ → Bool
setpoint_bad sf b = cond (eqb (block_type b) 0) (some_of 8 0 (block_pair_bad sf b)) (block_pair_bad sf b 0)

-- "Q or K 0, or, with bit 3 clear, R < Q × K + Q − 1"
unfoldable pub pulse_bad : Bool → ℕ → ℕ → ℕ → Bool
pulse_bad bit3 r q k = eqb q 0 || eqb k 0 || (not bit3 && ltb r (q * k + q - 1))

-- R of a block: (off − on) mod SF
abbrev pub block_length : ℕ → List ℕ → ℕ
block_length sf b = ahead sf (word b 3) (word b 4)

abbrev pub block_used : List ℕ → Bool
block_used b = used_pair (word b 3) (word b 4)

-- bit 4, where bit 3 is `bit3`: "duration, fifth timed, Q or K 0, or .. R < Q × K + Q − 1"; "Pulse or timed at 0/0 never fires, its further words unread."
-- `fifth` says that the output is at least the fifth timed of its kind
unfoldable pub length_bad : ℕ → Bool → Bool → List ℕ → Bool
length_bad sf fifth bit3 b =
    cond (eqb (block_type b) 1)
    (block_used b && pulse_bad bit3 (block_length sf b) (word b 5) (word b 6))
    (cond (eqb (block_type b) 2)
    (fifth || (block_used b && (eqb (word b 5) 0 || ltb 9999 (word b 5))))
    false)

-- bit 4, where bit 3 is the block's own
unfoldable pub length_bit : ℕ → Bool → List ℕ → Bool
length_bit sf fifth b = length_bad sf fifth (setpoint_bad sf b) b

-- bits 1 to 4: "of type 3 only bits 1 and 2 are tested"; 02: "Then bit 5 leaves the table and the code; it reads 0"
unfoldable pub block_bits : ℕ → Bool → List ℕ → ℕ
block_bits sf fifth b =
    bits
    (false
    ∷ control_bad (word b 0)
    ∷ (advance_bad (word b 1) || advance_bad (word b 2))
    ∷ cond (eqb (block_type b) 3) [] (setpoint_bad sf b ∷ length_bit sf fifth b ∷ []))

-- ---- The blocks of a file

-- "Missing outputs' blocks are unread.": output n, from 1, is missing or its block all zero
unfoldable pub unread : Model → List ℕ → ℕ → Bool
unread model file n = not (present model (n - 1)) || all_zero (limit_block file n)

-- the program of output n, from 1
unfoldable pub limit_from : Model → List ℕ → ℕ → Limit
limit_from model file n = cond (unread model file n) no_limit (limit_of_block (limit_block file n))

-- "Four timed real, four virtual at most, those at 0/0 counted": n is at least the fifth timed of its kind
unfoldable pub fifth_timed : List ℕ → ℕ → Bool
fifth_timed file n = leb 4 (count_of ((n - 1) % 16) (n - (n - 1) % 16) (λ k. eqb (control_type (word file (block_at k))) 2))

-- in Group Mode an output dealt to no group
unfoldable pub unassigned : Programming → ℕ → Bool
unassigned p n = not p.setup.independent && eqb (owner_of p (n - 1)) 0

-- bit 0 "not all zero and, in Group Mode, unassigned (no other bit is then tested)"
unfoldable pub limit_bits : Model → Programming → List ℕ → ℕ → ℕ
limit_bits model p file n =
    cond (unread model file n)
    0
    (cond (unassigned p n) 1 (block_bits (scale_factor p.setup) (fifth_timed file n) (limit_block file n)))

-- the bits of M1 word 0 that are named
unfoldable pub limit_command_bits : List ℕ
limit_command_bits = clear_bit ∷ transmit_bit ∷ []

-- "15, then alone, a reserved bit of word 0 or a nonzero word 1 or 610 to 629"
unfoldable pub limit_reserved : List ℕ → Bool
limit_reserved file = other_bit limit_command_bits (word file 0) || any_word 1 1 file || any_word 610 629 file

-- "Word 631 is the lowest failing output"; 02: "bits 0 to 4 are the lowest failing output's own."
unfoldable pub failing_limit : Model → Programming → List ℕ → ℕ
failing_limit model p file = cond (limit_reserved file) 0 (lowest_of 32 1 (λ n. not (eqb (limit_bits model p file n) 0)))

unfoldable pub limit_errors : Model → Programming → List ℕ → ℕ
limit_errors model p file =
    cond (limit_reserved file) reserved_status (cond (eqb (failing_limit model p file) 0) 0 (limit_bits model p file (failing_limit model p file)))

unfoldable pub with_limits : Programming → List Limit → Programming
with_limits p ls = record { setup = p.setup; groups = p.groups; owners = p.owners; limits = ls }
