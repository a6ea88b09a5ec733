-- Laws of an output before the forces: what the kind of its switch leaves of the rule.
-- Assumes nothing.
use Prim.Native.Nat.{ℕ, ◌+◌, ◌*◌, ◌≤◌}
use mathlib.Core.Bool.{Bool, true, false, ◌&&◌, and-true, true≢false}
use mathlib.Core.Logic.{inl, inr}
use mathlib.Core.Path.{◌≡◌, refl, sym, ap, ◌∙◌}
use native.Mathlib.Nat.{zero-add}
use native.Mathlib.Omega.{arith}
use lib.Dec.{ltb}
use lib.IntN.{ℤ}
use mir.Val.{bool_byte}
use borrow.Author.Tests.{ne_eqb}
use Rattle.std.proofs.lemmas.Bool.{cases_lt}
use Rattle.std.proofs.lemmas.Bool.Decides.{nat_tests}
use Rattle.rules.specs.declared.Position.{Position}
use Rattle.rules.specs.declared.Switch.{Switch}
use Rattle.rules.specs.declared.Switch.TheVariants.{Unprogrammed, Normal, Pulse, Timed}
use Rattle.rules.specs.declared.Limit.{Limit}
use Rattle.rules.specs.declared.TimedState.{TimedState}
use Rattle.rules.specs.declared.Conditions.{Conditions}
use Rattle.rules.specs.Variants.{anded_of}
use Rattle.rules.specs.Words.{bit, packed}
use Rattle.rules.specs.Motion.{c_value, scale}
use Rattle.rules.specs.Switches.{pair_holds, switch_holds, passes, switch_tests, detector_holds}
use Rattle.rules.specs.Card.{fresh_timed, timed_after}
use Rattle.rules.proofs.Packing.{packed_lt, packed_bit}
use Rattle.word.proofs.Laws.{bit_past, byte_digit}
use Rattle.engine.specs.Reading.{rule_reading, timed_reading, tests_reading}

-- ---- A switch's kind

abbrev pub is_timed : Switch → Bool
is_timed Unprogrammed = false
is_timed Normal = false
is_timed (Pulse q k) = false
is_timed (Timed t) = true

-- ---- What the kind leaves of the rule

-- a timed switch is on while its time lasts: it has none where its pair does not hold
lasts : (t sf : ℕ) (c : ℤ) (l : Limit) (p : Position) (x : TimedState) →
    switch_holds sf c l (Timed t) p (ltb 0 (timed_after (Timed t) (pair_holds sf c l 0 p) x).left) ≡ ltb 0 (timed_after (Timed t) (pair_holds sf c l 0 p) x).left
unfolding switch_holds timed_after
lasts t sf c l p x = grind (arith, nat_tests)

-- another switch has no time
no_time : (s : Switch) (sf : ℕ) (c : ℤ) (l : Limit) (p : Position) (lasting : Bool) → is_timed s ≡ false → switch_holds sf c l s p lasting ≡ switch_holds sf c l s p true
unfolding switch_holds
no_time Unprogrammed sf c l p lasting e = refl
no_time Normal sf c l p lasting e = refl
no_time (Pulse q k) sf c l p lasting e = refl
no_time (Timed t) sf c l p lasting e = absurd (true≢false e)

fresh : (s : Switch) (held : Bool) (x : TimedState) → is_timed s ≡ false → timed_after s held x ≡ fresh_timed
unfolding timed_after
fresh Unprogrammed held x e = refl
fresh Normal held x e = refl
fresh (Pulse q k) held x e = refl
fresh (Timed t) held x e = absurd (true≢false e)

module _ (w : Conditions) (l : Limit) (q : Position) where
  pub untimed_rests : (s : Switch) (x : TimedState) → is_timed s ≡ false → timed_reading w l s q x ≡ fresh_timed
  untimed_rests s x h = fresh s (pair_holds (scale w) (c_value w.c) l 0 q) x h

  -- the switch holds, a timed one as if its time lasted
  abbrev pub held_here : Switch → Bool
  held_here s = switch_holds (scale w) (c_value w.c) l s q true

  -- that test makes a timed switch's state
  pub timed_tested : (x : TimedState) (t : ℕ) → timed_after (Timed t) (held_here (Timed t)) x ≡ timed_reading w l (Timed t) q x
  unfolding switch_holds
  timed_tested x t = rw (and-true (pair_holds (scale w) (c_value w.c) l 0 q)) refl

  -- an unprogrammed one takes none
  pub none_tested : tests_reading w l Unprogrammed q ≡ 0
  unfolding switch_tests
  none_tested = refl

  module _ (isopen : Bool) (n : ℕ) where
    -- while a timed switch's time lasts, it is on as far as the rest of the rule lets it
    pub timed_on : (x : TimedState) (t : ℕ) → rule_reading w l (Timed t) q isopen (ltb 0 (timed_reading w l (Timed t) q x).left) n ≡ (ltb 0 (timed_reading w l (Timed t) q x).left && passes w l isopen n)
    timed_on x t = rw (lasts t (scale w) (c_value w.c) l q x) refl

    pub untimed_on : (s : Switch) (lasting : Bool) → is_timed s ≡ false → rule_reading w l s q isopen lasting n ≡ (held_here s && passes w l isopen n)
    untimed_on s lasting h = rw (no_time s (scale w) (c_value w.c) l q lasting h) refl

    pub none_on : (lasting : Bool) → rule_reading w l Unprogrammed q isopen lasting n ≡ false
    unfolding switch_holds
    none_on lasting = refl

-- ---- What is ANDed

module _ (w : Conditions) where
  abbrev holds_at : ℕ → Bool
  holds_at n = detector_holds (anded_of n) w

  -- bit 0 for neither, 1 and 2 for the detectors
  as_word : 1 + 2 * bool_byte w.md1 + 4 * bool_byte w.md2 ≡ packed 3 0 holds_at
  unfolding packed anded_of
  as_word = omega (arith, byte_digit w.md1, byte_digit w.md2)

  never : (n : ℕ) → 3 ≤ n → holds_at n ≡ false
  unfolding anded_of
  never n h = rw (ne_eqb n 0 (omega arith), ne_eqb n 1 (omega arith), ne_eqb n 2 (omega arith))

  pub detector_bit : (n : ℕ) → bit (1 + 2 * bool_byte w.md1 + 4 * bool_byte w.md2) n ≡ detector_holds (anded_of n) w
  detector_bit n =
      rw as_word
      (elim (cases_lt n 3) [
        | inl h ↦ packed_bit 3 0 n holds_at h ∙ ap holds_at (zero-add n)
        | inr h ↦ bit_past _ n 3 (packed_lt 3 0 holds_at) h ∙ sym (never n h)
      ])
