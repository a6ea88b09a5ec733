-- 01, "Programming": the setup words of M0, their checks, and the setup that they give. No past.
-- Assumes nothing.
use Rattle.std.specs.Prelude.{ℕ, ◌+◌, ◌-◌, Bool, cond, not, ◌&&◌, ◌||◌, List, [], ◌∷◌, replicate, ltb, leb, eqb}
use Rattle.std.specs.Bool.{xor}
use Rattle.std.proofs.Math.IntN.{sub_ℕ}
use Rattle.rules.specs.declared.Setup.{Setup}
use Rattle.rules.specs.declared.Programming.{Programming}
use Rattle.rules.specs.Words.{word, bit, bits, other_bit, any_word, modulo}
use Rattle.rules.specs.Motion.{turned, scaled_position}
use Rattle.rules.specs.Groups.{no_group}
use Rattle.rules.specs.Switches.{no_limit}
use Rattle.rules.specs.Cycle.{transmit_bit, clear_bit}

-- bits of word 0: ClrErr 0, Preset 1, CDir 4, TResp 5, SLCINT 8, MType 9, transmit 15
abbrev pub preset_bit : ℕ
preset_bit = 1

abbrev pub direction_bit : ℕ
direction_bit = 4

abbrev pub response_bit : ℕ
response_bit = 5

abbrev pub interrupt_bit : ℕ
interrupt_bit = 8

abbrev pub independent_bit : ℕ
independent_bit = 9

-- the bits of M0 word 0 that are named; the others are reserved
unfoldable pub setup_command_bits : List ℕ
setup_command_bits = clear_bit ∷ preset_bit ∷ direction_bit ∷ response_bit ∷ interrupt_bit ∷ independent_bit ∷ transmit_bit ∷ []

-- a reserved bit; words 12 to 19 are zero
unfoldable pub setup_reserved : List ℕ → Bool
setup_reserved file = other_bit setup_command_bits (word file 0) || any_word 12 19 file

-- SFErr: "SF 2 to 1024"
unfoldable pub sf_bad : ℕ → Bool
sf_bad sf = ltb sf 2 || ltb 1024 sf

-- "With a bad SF, preset and offset are judged against 1024."
unfoldable pub sf_judged : ℕ → ℕ
sf_judged sf = cond (sf_bad sf) 1024 sf

-- MD1Err, MD2Err of 001: a setpoint over 32,767, or equal and not zero
unfoldable pub detector_bad : ℕ → ℕ → Bool
detector_bad low high = ltb 32767 low || ltb 32767 high || (eqb low high && not (eqb low 0))

-- TSErr: "multiplier to 1100, .. divisor 1 to 63, .. code 0 to 3"
unfoldable pub scalars_bad : ℕ → ℕ → ℕ → Bool
scalars_bad multiplier divisor code = ltb 1100 multiplier || eqb divisor 0 || ltb 63 divisor || ltb 3 code

-- the status bit of a reserved bit or word
abbrev pub reserved_status : ℕ
reserved_status = 0x8000

-- "Word 100 takes all failing bits of 001; a nonzero reserved word sets bit 15."
unfoldable pub setup_errors : List ℕ → ℕ
setup_errors file =
    bits
    (sf_bad (word file 1)
    ∷ leb (sf_judged (word file 1)) (word file 2)
    ∷ leb (sf_judged (word file 1)) (word file 3)
    ∷ detector_bad (word file 4) (word file 5)
    ∷ detector_bad (word file 6) (word file 7)
    ∷ scalars_bad (word file 8) (word file 9) (word file 10)
    ∷ [])
    + cond (setup_reserved file) reserved_status 0

-- "The Preset bit replaces the offset so that Machine Position equals the preset at the raw of the last step since power-up that was not answered 11"
unfoldable pub preset_offset : ℕ → Bool → ℕ → ℕ → ℕ
preset_offset sf reversed preset raw = modulo (sub_ℕ preset (scaled_position sf (turned reversed raw))) sf

-- the setup that a file's words give, where the last raw is `raw`
unfoldable pub setup_of : List ℕ → ℕ → Setup
setup_of file raw = record {
  top = word file 1 - 1;
  preset = word file 2;
  offset = cond (bit (word file 0) preset_bit) (preset_offset (word file 1) (bit (word file 0) direction_bit) (word file 2) raw) (word file 3);
  reversed = bit (word file 0) direction_bit;
  fast = bit (word file 0) response_bit;
  interrupt = bit (word file 0) interrupt_bit;
  independent = bit (word file 0) independent_bit;
  md1 = record { low = word file 4; high = word file 5 };
  md2 = record { low = word file 6; high = word file 7 };
  scalars = record { multiplier = word file 8; divider = word file 9 - 1; code = word file 10 };
  states = word file 11;
}

-- "no .. group or limit program"
abbrev pub no_programs : Setup → Programming
no_programs u = record { setup = u; groups = replicate 6 no_group; owners = replicate 32 0; limits = replicate 32 no_limit }

-- "A changed SF or mode drops group and limit programs."
unfoldable pub with_setup : Programming → Setup → Programming
with_setup p u =
    cond (not (eqb p.setup.top u.top) || xor p.setup.independent u.independent)
    (no_programs u)
    (record { setup = u; groups = p.groups; owners = p.owners; limits = p.limits })
