-- Word 630, word 631 and the nudge's check as they were with bit 5, "two pulses touch": of every file and every nudge they are what they are without it, so that no
-- answer changed when 02's "Tidier limit errors" took it out. What 01 had stands here alone, for this one statement. Assumes nothing.
use Prim.Native.Nat.{ℕ, ◌+◌, ◌-◌}
use mathlib.Core.Bool.{Bool, true, false, cond, not, ◌&&◌, ◌||◌}
use mathlib.Core.Logic.{inl, inr}
use mathlib.Core.List.{List, [], ◌∷◌}
use mathlib.Core.Path.{◌≡◌, refl, ap, fun_ext}
use native.Mathlib.Omega.{arith}
use lib.Dec.{leb, eqb}
use borrow.Author.Tests.{eqb-true, lt-leb}
use Rattle.std.proofs.lemmas.Bool.{cases_Bool}
use Rattle.rules.specs.declared.Model.{Model}
use Rattle.rules.specs.declared.Switch.{Switch}
use Rattle.rules.specs.declared.Switch.TheVariants.{Unprogrammed, Normal, Pulse, Timed}
use Rattle.rules.specs.declared.Programming.{Programming}
use Rattle.rules.specs.Words.{word, bits, some_of, lowest_of}
use Rattle.rules.specs.Counts.{ahead, used_pair, pair_bad}
use Rattle.rules.specs.Motion.{scale_factor}
use Rattle.rules.specs.Switches.{pulse_start}
use Rattle.rules.specs.LimitWords.{block_type, block_used, block_length, limit_block, control_bad, advance_bad, setpoint_bad, pulse_bad, length_bit, block_bits, unread, fifth_timed, unassigned, limit_bits, limit_reserved, failing_limit, limit_errors}
use Rattle.rules.specs.SetupWords.{reserved_status}
use Rattle.rules.specs.Nudge.{result_bad}
use Rattle.rules.proofs.Laws.{some_none}
use Rattle.rules.proofs.Trains.{Separate, first_start, train_separate, block_separate}

-- ---- What 01 had

-- "two pulses touch": the next starts no later than where one ends, the first one after the last, round the turn, too
unfoldable pub pulses_touch : ℕ → ℕ → ℕ → ℕ → Bool
pulses_touch sf r q k =
    some_of (q - 1) 0 (λ j. leb (pulse_start r q k (j + 1)) (pulse_start r q k j + k)) || leb sf (pulse_start r q k (q - 1) + k)

-- bit 5, "two pulses touch (tested where bits 3 and 4 are clear)"
unfoldable pub touch_bit : ℕ → Bool → List ℕ → Bool
touch_bit sf fifth b =
    eqb (block_type b) 1 && not (setpoint_bad sf b || length_bit sf fifth b) && block_used b && pulses_touch sf (block_length sf b) (word b 5) (word b 6)

-- the bits of a block, of output n, from 1, and words 630 and 631: "bits 0 to 5 are its own"
unfoldable pub block_bits_with_5 : ℕ → Bool → List ℕ → ℕ
block_bits_with_5 sf fifth b =
    bits
    (false
    ∷ control_bad (word b 0)
    ∷ (advance_bad (word b 1) || advance_bad (word b 2))
    ∷ cond (eqb (block_type b) 3) [] (setpoint_bad sf b ∷ length_bit sf fifth b ∷ touch_bit sf fifth b ∷ []))

unfoldable pub limit_bits_with_5 : Model → Programming → List ℕ → ℕ → ℕ
limit_bits_with_5 model p file n =
    cond (unread model file n)
    0
    (cond (unassigned p n) 1 (block_bits_with_5 (scale_factor p.setup) (fifth_timed file n) (limit_block file n)))

unfoldable pub failing_limit_with_5 : Model → Programming → List ℕ → ℕ
failing_limit_with_5 model p file = cond (limit_reserved file) 0 (lowest_of 32 1 (λ n. not (eqb (limit_bits_with_5 model p file n) 0)))

unfoldable pub limit_errors_with_5 : Model → Programming → List ℕ → ℕ
limit_errors_with_5 model p file =
    cond (limit_reserved file)
    reserved_status
    (cond (eqb (failing_limit_with_5 model p file) 0) 0 (limit_bits_with_5 model p file (failing_limit_with_5 model p file)))

-- a nudge's result: "or result 0/0, out of range or failing limit checks", of a pulse its length and touching
abbrev pub nudge_fails_with_5 : ℕ → Switch → ℕ → ℕ → Bool
nudge_fails_with_5 sf Unprogrammed on off = false
nudge_fails_with_5 sf Normal on off = false
nudge_fails_with_5 sf (Pulse q k) on off = pulse_bad false (ahead sf on off) q k || pulses_touch sf (ahead sf on off) q k
nudge_fails_with_5 sf (Timed t) on off = false

unfoldable pub result_bad_with_5 : ℕ → Switch → ℕ → ℕ → Bool
result_bad_with_5 sf s on off = not (used_pair on off) || pair_bad sf on off || nudge_fails_with_5 sf s on off

-- ---- It was never set

no_touch : (sf r q k : ℕ) → Separate sf r q k → pulses_touch sf r q k ≡ false
unfolding pulses_touch
no_touch sf r q k h =
    rw (
      some_none (q - 1) 0 _ (λ j a b. lt-leb (pulse_start r q k (j + 1)) (pulse_start r q k j + k) (omega (arith, h.apart j (omega arith)))),
      lt-leb sf (pulse_start r q k (q - 1) + k) (omega (arith, h.turn, first_start r q k)),
    )

never_set : (sf : ℕ) (fifth : Bool) (b : List ℕ) → touch_bit sf fifth b ≡ false
unfolding touch_bit
never_set sf fifth b = go (eqb (block_type b) 1) refl (setpoint_bad sf b) refl (length_bit sf fifth b) refl (block_used b) refl
  where
    go : (pulse : Bool) → eqb (block_type b) 1 ≡ pulse → (bit3 : Bool) → setpoint_bad sf b ≡ bit3 → (bit4 : Bool) → length_bit sf fifth b ≡ bit4
        → (used : Bool) → block_used b ≡ used
        → (pulse && not (bit3 || bit4) && used && pulses_touch sf (block_length sf b) (word b 5) (word b 6)) ≡ false
    go true e false f false g true h = no_touch sf _ _ _ (block_separate sf fifth b (eqb-true (block_type b) 1 e) h f g)
    go true e false f false g false h = refl
    go true e false f true g used h = refl
    go true e true f bit4 g used h = refl
    go false e bit3 f bit4 g used h = refl

-- THE SAME WORDS: a block's bits with and without it, so that the same blocks are accepted,
pub same_block : (sf : ℕ) (fifth : Bool) (b : List ℕ) → block_bits_with_5 sf fifth b ≡ block_bits sf fifth b
unfolding block_bits_with_5 block_bits
same_block sf fifth b = rw (never_set sf fifth b) (elim (cases_Bool (eqb (block_type b) 3)) [ inl t ↦ rw t | inr t ↦ rw t ])

same_limit : (model : Model) (p : Programming) (file : List ℕ) (n : ℕ) → limit_bits_with_5 model p file n ≡ limit_bits model p file n
unfolding limit_bits_with_5 limit_bits
same_limit model p file n = rw (same_block (scale_factor p.setup) (fifth_timed file n) (limit_block file n))

-- words 631 and 630 of every file, under every programming,
pub same_631 : (model : Model) (p : Programming) (file : List ℕ) → failing_limit_with_5 model p file ≡ failing_limit model p file
unfolding failing_limit_with_5 failing_limit
same_631 model p file =
    ap (λ (f : ℕ → ℕ). cond (limit_reserved file) 0 (lowest_of 32 1 (λ n. not (eqb (f n) 0)))) (fun_ext (same_limit model p file))

pub same_630 : (model : Model) (p : Programming) (file : List ℕ) → limit_errors_with_5 model p file ≡ limit_errors model p file
unfolding limit_errors_with_5 limit_errors
same_630 model p file = rw (same_631 model p file, same_limit model p file (failing_limit model p file))

-- and the check of every nudge's result
pub same_nudge : (sf : ℕ) (s : Switch) (on off : ℕ) → result_bad_with_5 sf s on off ≡ result_bad sf s on off
unfolding result_bad_with_5 result_bad
same_nudge sf Unprogrammed on off = refl
same_nudge sf Normal on off = refl
same_nudge sf (Timed t) on off = refl
same_nudge sf (Pulse q k) on off = go (not (used_pair on off)) (pair_bad sf on off) refl (pulse_bad false (ahead sf on off) q k) refl
  where
    touch : Bool
    touch = pulses_touch sf (ahead sf on off) q k

    go : (unused bit3 : Bool) → pair_bad sf on off ≡ bit3 → (bit4 : Bool) → pulse_bad false (ahead sf on off) q k ≡ bit4
        → (unused || bit3 || (bit4 || touch)) ≡ (unused || bit3 || bit4)
    go true bit3 e bit4 f = refl
    go false true e bit4 f = refl
    go false false e true f = refl
    go false false e false f = no_touch sf _ q k (train_separate sf on off q k e f)
