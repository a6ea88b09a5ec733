-- 01, "Limit switches": advances, the three types of switch, the output rule. No past.
-- Assumes nothing.
use Rattle.std.specs.Prelude.{ℕ, ◌+◌, ◌-◌, ◌*◌, ◌/◌, Bool, true, false, cond, not, ◌&&◌, ◌||◌, List, [], get_or, replicate, sum, ltb, leb, eqb, ℤ, pos, neg_ℤ, ◌+ℤ◌, ◌-ℤ◌, ◌*ℤ◌}
use Rattle.std.specs.Int.Signed.{quot_z, lt_z, le_z}
use Rattle.rules.specs.declared.GroupPosition.{GroupPosition}
use Rattle.rules.specs.declared.Position.{Position}
use Rattle.rules.specs.declared.Position.TheVariants.{OfMachine, OfGroup}
use Rattle.rules.specs.declared.Model.{Model}
use Rattle.rules.specs.declared.IoType.{IoType}
use Rattle.rules.specs.declared.IoType.TheVariants.{Real, Virtual}
use Rattle.rules.specs.declared.Switch.{Switch}
use Rattle.rules.specs.declared.Switch.TheVariants.{Unprogrammed, Normal, Pulse, Timed}
use Rattle.rules.specs.declared.Anded.{Anded}
use Rattle.rules.specs.declared.Anded.TheVariants.{Never, Neither, First, Second}
use Rattle.rules.specs.declared.Action.{Action}
use Rattle.rules.specs.declared.Advance.{Advance}
use Rattle.rules.specs.declared.Limit.{Limit}
use Rattle.rules.specs.declared.Setup.{Setup}
use Rattle.rules.specs.declared.Programming.{Programming}
use Rattle.rules.specs.declared.Answer.{Answer}
use Rattle.rules.specs.declared.Sample.{Sample}
use Rattle.rules.specs.declared.Conditions.{Conditions}
use Rattle.rules.specs.declared.OutputWords.{OutputWords}
use Rattle.rules.specs.Words.{bit, digit, word_of, modulo, some_of, count_up_to, table, differing, forced}
use Rattle.rules.specs.Variants.{real_count, virtual_count, limit_switch, anded_of}
use Rattle.rules.specs.Counts.{ahead, used_pair}
use Rattle.rules.specs.Motion.{tach_shown, tach_overflow, c_value, scale, level, enable_input}
use Rattle.rules.specs.Groups.{no_position, of_group}

-- the number that a sign and a magnitude stand for
abbrev pub signed : Bool → ℕ → ℤ
signed negative n = cond negative (neg_ℤ (pos n)) (pos n)

-- a, "the signed advance in tenths of a ms"
abbrev pub advance_value : Advance → ℤ
advance_value a = signed a.negative a.tenths

-- "s = a × c × SF / 245760 toward zero"
unfoldable pub advance_shift : ℕ → ℤ → ℤ → ℤ
advance_shift sf a c = quot_z (a *ℤ c *ℤ pos sf) (pos 245760)

-- "Each setpoint moves by −s, .. reduced mod SF"
unfoldable pub moved : ℕ → ℤ → ℤ → ℕ → ℕ
moved sf a c setpoint = modulo (pos setpoint -ℤ advance_shift sf a c) sf

-- the count of the position that a switch reads
abbrev pub count_at : Position → ℕ
count_at (OfMachine p) = p.0
count_at (OfGroup p) = p.0

abbrev pub on_setpoint : Limit → ℕ → ℕ
on_setpoint l k = get_or l.setpoints (2 * k) 0

abbrev pub off_setpoint : Limit → ℕ → ℕ
off_setpoint l k = get_or l.setpoints (2 * k + 1) 0

-- pair k of a switch is used
abbrev pub pair_used : Limit → ℕ → Bool
pair_used l k = used_pair (on_setpoint l k) (off_setpoint l k)

-- s of a switch's ON setpoints, and of its OFF setpoints
abbrev pub on_shift : ℕ → ℤ → Limit → ℤ
on_shift sf c l = advance_shift sf (advance_value l.onadvance) c

abbrev pub off_shift : ℕ → ℤ → Limit → ℤ
off_shift sf c l = advance_shift sf (advance_value l.offadvance) c

-- 02: "For normal and timed switches the length becomes ((off − on) mod SF) + ON shift − OFF shift, each shift being 01's s of that setpoint, before reduction mod SF."
unfoldable pub pair_length : ℕ → ℤ → Limit → ℕ → ℤ
pair_length sf c l k = pos (ahead sf (on_setpoint l k) (off_setpoint l k)) +ℤ on_shift sf c l -ℤ off_shift sf c l

-- 02: "At 0 or less the pair never holds. At SF or more it always holds. Otherwise it holds for that many counts from the moved ON setpoint."
unfoldable pub holds_for : ℕ → ℤ → ℕ → ℕ → Bool
holds_for sf size start p = cond (le_z size (pos 0)) false (cond (le_z (pos sf) size) true (lt_z (pos (ahead sf start p)) size))

-- pair k of a switch holds; "0/0 pairs are as before"
unfoldable pub pair_holds : ℕ → ℤ → Limit → ℕ → Position → Bool
pair_holds sf c l k p =
    pair_used l k
    && holds_for sf (pair_length sf c l k) (moved sf (advance_value l.onadvance) c (on_setpoint l k)) (count_at p)

-- "Normal: some used pair holds"
unfoldable pub normal_holds : ℕ → ℤ → Limit → Position → Bool
normal_holds sf c l p = some_of 8 0 (λ k. pair_holds sf c l k p)

-- "Pulse j, 0 ≤ j < Q, starts at floor(j × (R − K) / (Q − 1)), or 0 if Q = 1" (K ≤ R in every accepted program)
unfoldable pub pulse_start : ℕ → ℕ → ℕ → ℕ → ℕ
pulse_start r q k j = cond (eqb q 1) 0 (j * (r - k) / (q - 1))

-- some pulse of the train is on `at` counts from its start: "Q pulses of K counts"
unfoldable pub pulse_on : ℕ → ℕ → ℕ → ℕ → Bool
pulse_on r q k at = some_of q 0 (λ j. leb (pulse_start r q k j) at && ltb at (pulse_start r q k j + k))

-- "Pulse: R = (off − on) mod SF unmoved, .. from the ON setpoint moved by the ON advance"
unfoldable pub pulse_holds : ℕ → ℤ → Limit → ℕ → ℕ → Position → Bool
pulse_holds sf c l q k p =
    pair_used l 0
    && pulse_on (ahead sf (on_setpoint l 0) (off_setpoint l 0)) q k (ahead sf (moved sf (advance_value l.onadvance) c (on_setpoint l 0)) (count_at p))

-- The switch holds. `lasting` says of a timed one that "fewer than 5 × T steps have passed since it began to hold".
unfoldable pub switch_holds : ℕ → ℤ → Limit → Switch → Position → Bool → Bool
switch_holds sf c l Unprogrammed p lasting = false
switch_holds sf c l Normal p lasting = normal_holds sf c l p
switch_holds sf c l (Pulse q k) p lasting = pulse_holds sf c l q k p
switch_holds sf c l (Timed t) p lasting = pair_holds sf c l 0 p && lasting

-- the steps of a timed switch's T milliseconds: "5 × T steps"
abbrev pub timed_steps : ℕ → ℕ
timed_steps t = 5 * t

-- outputs are counted from 0 here: 0 to 15 are real, outputs 1 to 16, and 16 to 31 virtual, outputs 17 to 32
abbrev pub type_of : ℕ → IoType
type_of n = cond (ltb n 16) Real Virtual

-- an output that the module has; the others are missing
unfoldable pub present : Model → ℕ → Bool
present model n = cond (ltb n 16) (ltb n (real_count model)) (ltb (n - 16) (virtual_count model))

abbrev pub unprogrammed : Action
unprogrammed = record { kind = 0; quantity = 0; count = 0; duration = 0 }

abbrev pub no_limit : Limit
no_limit =
    record { action = unprogrammed; enable = false; detector = 0; onadvance = record { negative = false; tenths = 0 }; offadvance = record { negative = false; tenths = 0 }; setpoints = replicate 16 0 }

-- an element past the end of an array of limits
abbrev pub past_limits : Limit
past_limits =
    record { action = unprogrammed; enable = false; detector = 0; onadvance = record { negative = false; tenths = 0 }; offadvance = record { negative = false; tenths = 0 }; setpoints = [] }

abbrev pub limit_of : Programming → ℕ → Limit
limit_of p n = get_or p.limits n past_limits

-- the number of the group that an output was dealt to, 0 for none
abbrev pub owner_of : Programming → ℕ → ℕ
owner_of p n = get_or p.owners n 0

-- "Switches read Group Position, or Machine Position in Independent Mode.": where the output's group is at `position`
unfoldable pub switch_position : Conditions → GroupPosition → Position
switch_position w position = cond w.independent (OfMachine w.machine) (OfGroup position)

-- "the group is open"; "In Independent Mode there is no group ..; a real output needs its own real input active."
unfoldable pub admitted : Conditions → Bool → ℕ → Bool
admitted w isopen n = cond w.independent (cond (ltb n 16) (level w Real n) true) isopen

-- "what is ANDed (LS Enable of its kind, MD1, MD2) holds"; "In Independent Mode .. LS Enable is ignored".
unfoldable pub enable_holds : Conditions → Bool → ℕ → Bool
enable_holds w enable n = w.independent || not enable || level w (type_of n) enable_input

abbrev pub detector_holds : Anded → Conditions → Bool
detector_holds Never w = false
detector_holds Neither w = true
detector_holds First w = w.md1
detector_holds Second w = w.md2

-- "the group is open, and what is ANDed .. holds"
unfoldable pub passes : Conditions → Limit → Bool → ℕ → Bool
passes w l isopen n = admitted w isopen n && (enable_holds w l.enable n && detector_holds (anded_of l.detector) w)

-- "the switch holds, the group is open, and what is ANDed .. holds", of output n with the program l, whose group is at `position` and open or not, and of
-- whose timed switch the time lasts or not
unfoldable pub output_rule : Conditions → Limit → GroupPosition → Bool → Bool → ℕ → Bool
output_rule w l position isopen lasting n =
    switch_holds (scale w) (c_value w.c) l (limit_switch l) (switch_position w position) lasting && passes w l isopen n

-- the same of output n of a card, where the six groups' positions and openness are these
unfoldable pub rule_at : Programming → Conditions → List GroupPosition → List Bool → (ℕ → Bool) → ℕ → Bool
rule_at p w positions isopen lasting n =
    output_rule w (limit_of p n) (of_group no_position positions (owner_of p n)) (of_group false isopen (owner_of p n)) (lasting n) n

-- the pair of a switch, if it is timed
unfoldable pub timed_holds : Conditions → Limit → GroupPosition → Bool
timed_holds w l position = pair_holds (scale w) (c_value w.c) l 0 (switch_position w position)

-- ---- How much work a step does

-- 02: "A test is one used pair of a programmed normal output, in block order up to and including the first that holds; a timed or pulse output whose pair isn't 0/0
-- counts one. .. missing or unprogrammed ones are not."
unfoldable pub switch_tests : ℕ → ℤ → Limit → Switch → Position → ℕ
switch_tests sf c l Unprogrammed p = 0
switch_tests sf c l Normal p = count_up_to 8 0 (pair_used l) (λ k. pair_holds sf c l k p)
switch_tests sf c l (Pulse q k) p = digit (pair_used l 0)
switch_tests sf c l (Timed t) p = digit (pair_used l 0)

-- of an output with the program l, whose group is at `position`. "Outputs that are forced, closed or blocked are tested too": neither a force nor an openness nor
-- what is ANDed is asked.
unfoldable pub output_tests : Conditions → Limit → GroupPosition → ℕ
output_tests w l position = switch_tests (scale w) (c_value w.c) l (limit_switch l) (switch_position w position)

-- of output n of a card, where the six groups' positions are these: "and missing .. ones are not"
unfoldable pub tests_at : Model → Programming → Conditions → List GroupPosition → ℕ → ℕ
tests_at model p w positions n = cond (present model n) (output_tests w (limit_of p n) (of_group no_position positions (owner_of p n))) 0

-- "the number of pair tests in each step's answer", of a step that is sound or answered 11: "In a step answered 11 the count is 0."
unfoldable pub pair_tests : Model → Bool → Programming → Conditions → List GroupPosition → ℕ
pair_tests model ok p w positions = cond ok (sum (table 32 0 (tests_at model p w positions))) 0

-- the forces of an output
abbrev pub forced_off : Sample → ℕ → Bool
forced_off s n = cond (ltb n 16) (bit s.realoff n) (bit s.virtualoff (n - 16))

abbrev pub forced_on : Sample → ℕ → Bool
forced_on s n = cond (ltb n 16) (bit s.realon n) (bit s.virtualon (n - 16))

-- "Output rule: forced off, no; forced on, yes; else .."; "An unprogrammed output is on only by force; a missing one never."
unfoldable pub output_on : Model → Sample → (ℕ → Bool) → ℕ → Bool
output_on model s rule n = present model n && forced (forced_off s n) (forced_on s n) (rule n)

-- ---- What a step answers, given what it read, the virtual outputs of the previous step and the outputs of this one

-- "with SLCINT set, how many virtual outputs changed since the previous step .., else 0"
unfoldable pub changed_count : Setup → ℕ → ℕ → ℕ
changed_count u before after = cond u.interrupt (differing before after) 0

-- the two words of outputs, where `rule` says of each output whether it is on before the forces
unfoldable pub output_words : Model → Sample → (ℕ → Bool) → OutputWords
output_words model s rule = record { real = word_of 0 (output_on model s rule); virtuals = word_of 16 (output_on model s rule) }

-- "A step answers Machine Position, .. tach, TachOv, detectors, both output words and .. how many virtual outputs changed"; 0 tenths give tach and TachOv 0.
-- 02: "The rpm in the answer becomes tenths"
-- 02: "the number of pair tests in each step's answer"
unfoldable pub answer_of : Setup → Bool → Conditions → ℕ → OutputWords → ℕ → Answer
answer_of u refused w before outputs tests = record {
  refused = refused;
  position = w.machine;
  tenths = w.tenths;
  tach = tach_shown u.scalars w.tenths;
  overflow = tach_overflow u.scalars w.tenths;
  md1 = w.md1;
  md2 = w.md2;
  real = outputs.real;
  virtuals = outputs.virtuals;
  changed = changed_count u before outputs.virtuals;
  tests = tests;
}
