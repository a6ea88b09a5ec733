-- The advance in signs and magnitudes: 01's s is a quotient of magnitudes; one number for either sign; a count taken back by a displacement.
-- Assumes nothing.
use Prim.Native.Nat.{ℕ, zero, suc, min, ◌+◌, ◌-◌, ◌*◌, ◌/◌, ◌%◌, ◌≤◌, ◌<◌}
use mathlib.Core.Bool.{Bool, true, false, cond, xor}
use mathlib.Core.Path.{◌≡◌, refl, sym, ap, ◌∙◌}
use native.Mathlib.Nat.{zero-div, mul-zero, zero-mul, mul_assoc, mul-le-mul, mod-mod, add-mod-mod, mod-eq_of_lt}
use native.Mathlib.Omega.{arith}
use borrow.Author.Tests.{ltb-true, ltb-false, lt-ltb, le-ltb}
use lib.Dec.{ltb}
use lib.IntN.{ℤ, pos, negsuc, neg_ℤ, nat_abs, sub_ℕ, ◌+ℤ◌, ◌-ℤ◌, ◌*ℤ◌, +ℤ_assoc, +ℤ_comm, +ℤ_idl, +ℤ_invl, neg_ℤ-+ℤ, neg_ℤ-neg_ℤ}
use lib.Signed.{quot_z}
use Rattle.std.proofs.lemmas.Nat.{mod_below}
use Rattle.rules.specs.Words.{modulo}
use Rattle.rules.specs.Motion.{c_value}
use Rattle.rules.specs.Counts.{ahead}
use Rattle.rules.specs.Switches.{signed, advance_shift}
use Rattle.rules.proofs.Laws.{minus, ahead_below}
use Rattle.rules.proofs.Congruence.{congruent, modulo_only, ahead_gives, summed}
use Rattle.switch.specs.Parts.{shift_bias, shift_counts, taken_back, spread_of}

-- 0 has one sign
no_sign : (n : ℕ) → n ≡ 0 → neg_ℤ (pos n) ≡ pos n
no_sign n e = rw e

product : (x y : Bool) (a b : ℕ) → signed x a *ℤ signed y b ≡ signed (xor x y) (a * b)
unfolding xor
product false false a b = refl
product false true a zero = sym (no_sign (a * 0) (mul-zero a))
product false true a (suc b) = refl
product true false zero b = sym (no_sign (0 * b) (zero-mul b))
product true false (suc a) b = refl
product true true zero zero = refl
product true true zero (suc b) = no_sign (0 * suc b) (zero-mul (suc b))
product true true (suc a) zero = no_sign (suc a * 0) (mul-zero (suc a))
product true true (suc a) (suc b) = refl

quotient : (x : Bool) (n d : ℕ) → quot_z (signed x n) (pos d) ≡ signed x (n / d)
quotient false n d = refl
quotient true zero d = sym (no_sign (0 / d) (zero-div d))
quotient true (suc n) d = refl

unsigned : (x : Bool) → xor x false ≡ x
unfolding xor
unsigned true = refl
unsigned false = refl

-- s: the sign of the product, and its magnitude divided toward zero
pub shift_signed : (sf : ℕ) (x y : Bool) (a c : ℕ) → advance_shift sf (signed x a) (signed y c) ≡ signed (xor x y) (a * (c * sf) / 245760)
unfolding advance_shift
shift_signed sf x y a c =
    ap (λ (z : ℤ). quot_z (z *ℤ pos sf) (pos 245760)) (product x y a c)
    ∙ ap (λ (z : ℤ). quot_z z (pos 245760)) (product (xor x y) false (a * c) sf ∙ ap (λ (b : Bool). signed b (a * c * sf)) (unsigned (xor x y)))
    ∙ quotient (xor x y) (a * c * sf) 245760
    ∙ ap (λ (n : ℕ). signed (xor x y) (n / 245760)) (mul_assoc a c sf)

-- c, as a number n holds it, in sign and magnitude: n is below what was added, and how far it is from that
abbrev pub back : ℕ → Bool
back n = ltb n 61440

abbrev pub magnitude : ℕ → ℕ
magnitude n = nat_abs (c_value n)

in_signs : (n : ℕ) → c_value n ≡ signed (back n) (magnitude n)
in_signs n = go (back n)
  where
    go : (b : Bool) → cond b (negsuc (61440 - suc n)) (pos (n - 61440)) ≡ signed b (nat_abs (cond b (negsuc (61440 - suc n)) (pos (n - 61440))))
    go true = refl
    go false = refl

-- s of an advance at c, as a number n holds c
pub shift_of : (t : ℕ) (x : Bool) (a n : ℕ) → advance_shift (t + 1) (signed x a) (c_value n) ≡ signed (xor x (back n)) (shift_counts (t + 1) a (magnitude n))
unfolding shift_counts
shift_of t x a n = ap (advance_shift (t + 1) (signed x a)) (in_signs n) ∙ shift_signed (t + 1) x (back n) a (magnitude n)

-- s with its bias, for either sign
pub biased_up : (b n : ℕ) → sub_ℕ (b + n) b ≡ pos n
biased_up b n = rw (le-ltb (b + n) b (omega arith)) (ap pos (omega arith))

pub biased_down : (b n : ℕ) → n ≤ b → sub_ℕ (b - n) b ≡ neg_ℤ (pos n)
biased_down b zero h = rw (le-ltb (b - 0) b (omega arith)) (ap pos (omega arith))
biased_down b (suc n) h = rw (lt-ltb (b - suc n) b (omega arith)) (ap negsuc (omega arith))

-- no s of a stored advance and c is over the bias
pub shift_fits : (sf a n : ℕ) → a ≤ 65535 → n ≤ 4294967295 → sf ≤ 65536 → shift_counts sf a n ≤ shift_bias
unfolding shift_counts
shift_fits sf a n ha hn hs =
    let p : n * sf ≤ 4294967295 * 65536 = mul-le-mul {n₂ = 4294967295} {m₂ = 65536} hn hs in
    let q : a * (n * sf) ≤ 65535 * (4294967295 * 65536) = mul-le-mul {n₂ = 65535} {m₂ = 4294967295 * 65536} ha p in
    omega arith

-- a difference of two shifts with one bias is the difference of the shifts
pub one_bias : (a b d : ℕ) → sub_ℕ a d -ℤ sub_ℕ b d ≡ sub_ℕ a b
one_bias a b d =
    rw (← minus a d, ← minus b d, ← minus a b)
    (ap (λ (z : ℤ). (pos a -ℤ pos d) +ℤ z) (neg_ℤ-+ℤ (pos b) (neg_ℤ (pos d)) ∙ ap (λ (z : ℤ). neg_ℤ (pos b) +ℤ z) (neg_ℤ-neg_ℤ (pos d)))
    ∙ +ℤ_assoc (pos a) (neg_ℤ (pos d)) (neg_ℤ (pos b) +ℤ pos d)
    ∙ ap (λ (z : ℤ). pos a +ℤ z)
    (ap (λ (z : ℤ). neg_ℤ (pos d) +ℤ z) (+ℤ_comm (neg_ℤ (pos b)) (pos d))
    ∙ sym (+ℤ_assoc (neg_ℤ (pos d)) (pos d) (neg_ℤ (pos b)))
    ∙ ap (λ (z : ℤ). z +ℤ neg_ℤ (pos b)) (+ℤ_invl (pos d))
    ∙ +ℤ_idl (neg_ℤ (pos b))))

-- ---- A count taken back

shifted : (p s b : ℕ) → pos p +ℤ sub_ℕ s b ≡ sub_ℕ (p + s) b
shifted p s b = summed p s b (sub_ℕ s b) (sym (minus s b))

-- by m counts down, where s is m below its bias
pub back_down : (t s b m p r : ℕ) → s + m ≡ b → r ≡ ahead (t + 1) (m % (t + 1)) p → r ≡ taken_back (t + 1) (sub_ℕ s b) p
unfolding taken_back
back_down t s b m p r e h =
    rw (shifted p s b)
    (modulo_only t (p + s) b r (rw h (ahead_below t (m % (t + 1)) p))
    (sym (congruent t (m % (t + 1)) m (r + s) (r + m % (t + 1) + s) (r + b) (mod-mod m (t + 1)) (omega arith) (omega arith))
    ∙ congruent t (r + m % (t + 1)) p s (r + m % (t + 1) + s) (p + s) (rw h (ahead_gives t (m % (t + 1)) p)) refl refl))

-- by m counts up, where s is m over its bias
pub back_up : (t s b m p r : ℕ) → s ≡ b + m → r ≡ (p + m % (t + 1)) % (t + 1) → r ≡ taken_back (t + 1) (sub_ℕ s b) p
unfolding taken_back
back_up t s b m p r e h =
    rw (shifted p s b)
    (modulo_only t (p + s) b r (rw h (mod_below (p + m % (t + 1)) (t + 1) (omega arith)))
    (congruent t r (p + m) b (r + b) (p + s) (rw (h, mod-mod (p + m % (t + 1)) (t + 1)) (add-mod-mod p m (t + 1))) refl (omega arith)))

-- by no more than leaves it in the turn
pub back_within : (t s b p r : ℕ) → p + s ≡ b + r → r < t + 1 → r ≡ taken_back (t + 1) (sub_ℕ s b) p
unfolding taken_back modulo
back_within t s b p r e h = sym (rw (shifted p s b, e, biased_up b r) (mod-eq_of_lt h))

-- the spread, from a sum that is not below 0
pub spread_within : (sf a b : ℕ) → min (a + sf - b) (2 * sf) ≡ spread_of sf (sub_ℕ a b)
unfolding spread_of
spread_within sf a b = go (ltb a b) refl
  where
    go : (x : Bool) → ltb a b ≡ x → min (a + sf - b) (2 * sf) ≡ spread_of sf (cond x (negsuc (b - suc a)) (pos (a - b)))
    go true e = let h = ltb-true a b e in omega arith
    go false e = over (ltb-false a b e) (ltb sf (a - b)) refl
      where
        over : b ≤ a → (y : Bool) → ltb sf (a - b) ≡ y → min (a + sf - b) (2 * sf) ≡ cond y (sf + sf) (sf + (a - b))
        over h true d = let l = ltb-true sf (a - b) d in omega arith
        over h false d = let l = ltb-false sf (a - b) d in omega arith
