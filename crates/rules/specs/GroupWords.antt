-- 01, "Programming": the group words of M0, their checks, the programs that they give, and the dealing of outputs. No past.
-- Assumes nothing.
use Rattle.std.specs.Prelude.{ℕ, zero, suc, ◌+◌, ◌-◌, ◌*◌, ◌/◌, ◌%◌, Bool, true, false, cond, not, ◌&&◌, ◌||◌, List, [], ◌∷◌, ◌++◌, replicate, ltb, leb, eqb}
use Rattle.rules.specs.declared.Model.{Model}
use Rattle.rules.specs.declared.IoType.{IoType}
use Rattle.rules.specs.declared.IoType.TheVariants.{Real, Virtual}
use Rattle.rules.specs.declared.Group.{Group}
use Rattle.rules.specs.declared.Programming.{Programming}
use Rattle.rules.specs.Words.{word, bit, bits, lowest_of, table, other_bit, any_word}
use Rattle.rules.specs.Variants.{real_count, io_count, io_type_of, group_type}
use Rattle.rules.specs.Counts.{pair_bad}
use Rattle.rules.specs.Groups.{no_group}
use Rattle.rules.specs.Switches.{no_limit}
use Rattle.rules.specs.Cycle.{transmit_bit, clear_bit}
use Rattle.rules.specs.SetupWords.{reserved_status}

-- "Group block n, at word 18 + 4 × n", n from 1: control, on, off, offset
abbrev pub group_word : List ℕ → ℕ → ℕ → ℕ
group_word file n k = word file (18 + 4 * n + k)

-- 001's control word: quantity bits 4–0, mode 10–8, FCITyp 13, GPTyp 14, GPUsed 15
abbrev pub first_cycle_bit : ℕ
first_cycle_bit = 13

abbrev pub type_bit : ℕ
type_bit = 14

abbrev pub used_bit : ℕ
used_bit = 15

unfoldable pub group_control_bits : List ℕ
group_control_bits = 0 ∷ 1 ∷ 2 ∷ 3 ∷ 4 ∷ 8 ∷ 9 ∷ 10 ∷ first_cycle_bit ∷ type_bit ∷ used_bit ∷ []

abbrev pub same_type : IoType → IoType → Bool
same_type Real Real = true
same_type Real Virtual = false
same_type Virtual Real = false
same_type Virtual Virtual = true

abbrev pub control_quantity : ℕ → ℕ
control_quantity c = c % 32

abbrev pub control_mode : ℕ → ℕ
control_mode c = c / 256 % 8

-- the group that a block's words give; an unused one has no program
unfoldable pub group_of : List ℕ → ℕ → Group
group_of file n =
    cond (bit (group_word file n 0) used_bit)
    (record {
      used = true;
      isvirtual = bit (group_word file n 0) type_bit;
      firstvirtual = bit (group_word file n 0) first_cycle_bit;
      mode = control_mode (group_word file n 0);
      quantity = control_quantity (group_word file n 0);
      dwell = record { on = group_word file n 1; off = group_word file n 2 };
      offset = group_word file n 3;
    })
    no_group

-- "Outputs are dealt consecutively per type": how many of a type groups 1 to n take, and the number of the group that takes one
unfoldable pub dealt_up_to : List ℕ → IoType → ℕ → ℕ
dealt_up_to file t zero = 0
dealt_up_to file t (suc n) =
    dealt_up_to file t n
    + cond (bit (group_word file (suc n) 0) used_bit && same_type t (io_type_of (bit (group_word file (suc n) 0) type_bit))) (control_quantity (group_word file (suc n) 0)) 0

-- the group of `gs`, the first of which has the number n, that takes output i of a type, counted from 0; 0 if none does
unfoldable pub dealt_to : IoType → List Group → ℕ → ℕ → ℕ
dealt_to t [] n i = 0
dealt_to t (x ∷ gs) n i =
    cond (x.used && same_type t (group_type x))
    (cond (ltb i x.quantity) n (dealt_to t gs (n + 1) (i - x.quantity)))
    (dealt_to t gs (n + 1) i)

unfoldable pub owners_of : List Group → List ℕ
owners_of gs = table 16 0 (dealt_to Real gs 1) ++ table 16 0 (dealt_to Virtual gs 1)

-- GPgErr: quantity outside 1 to 16 or more than is left, mode over 5, "an unnamed control bit, or FCITyp 0 in Mode 5 on an 8511"
abbrev pub lacks_first_cycle : Model → ℕ → Bool
lacks_first_cycle model c = eqb (real_count model) 0 && eqb (control_mode c) 5 && not (bit c first_cycle_bit)

unfoldable pub group_program_bad : Model → List ℕ → ℕ → Bool
group_program_bad model file n =
    eqb (control_quantity (group_word file n 0)) 0
    || ltb 16 (control_quantity (group_word file n 0))
    || ltb 5 (control_mode (group_word file n 0))
    || other_bit group_control_bits (group_word file n 0)
    || lacks_first_cycle model (group_word file n 0)
    || ltb (io_count model (io_type_of (bit (group_word file n 0) type_bit))) (dealt_up_to file (io_type_of (bit (group_word file n 0) type_bit)) n)

-- GOFErr 0, GPgErr 1, GCSErr 2 of group n; an unused group's words are ignored
unfoldable pub group_bits : Model → ℕ → List ℕ → ℕ → ℕ
group_bits model sf file n =
    cond (bit (group_word file n 0) used_bit)
    (bits (leb sf (group_word file n 3) ∷ group_program_bad model file n ∷ pair_bad sf (group_word file n 1) (group_word file n 2) ∷ []))
    0

-- the bits of M0 word 20 that are named
unfoldable pub group_command_bits : List ℕ
group_command_bits = clear_bit ∷ transmit_bit ∷ []

-- "a bad reserved bit or word (20, 21, 46 to 99)"
unfoldable pub group_reserved : List ℕ → Bool
group_reserved file = other_bit group_command_bits (word file 20) || any_word 21 21 file || any_word 46 99 file

-- "Word 111 names the lowest failing group, word 110 its bits; a bad reserved bit or word .. sets bit 15 alone."
unfoldable pub failing_group : Model → ℕ → List ℕ → ℕ
failing_group model sf file = cond (group_reserved file) 0 (lowest_of 6 1 (λ n. not (eqb (group_bits model sf file n) 0)))

unfoldable pub group_errors : Model → ℕ → List ℕ → ℕ
group_errors model sf file =
    cond (group_reserved file) reserved_status (cond (eqb (failing_group model sf file) 0) 0 (group_bits model sf file (failing_group model sf file)))

-- "Acceptance drops limit programs."
unfoldable pub with_groups : Programming → List Group → Programming
with_groups p gs = record { setup = p.setup; groups = gs; owners = owners_of gs; limits = replicate 32 no_limit }
