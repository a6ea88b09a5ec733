-- Laws of the rules' words: the digits of `packed`, bits of a bitwise operation, counts over bits, words stored into a file. Callers cite these and open none of the definitions.
-- Assumes nothing.
use Prim.Native.Nat.{ℕ, zero, suc, ◌+◌, ◌*◌, ◌/◌, ◌%◌, ◌-◌, ◌^◌, ◌≤◌, ◌<◌, min, max}
use mathlib.Core.Bool.{Bool, true, false, not, ◌&&◌, ◌||◌, xor}
use mathlib.Core.List.{List}
use mathlib.Core.Path.{◌≡◌, refl, sym, ap, ap₂, ◌∙◌}
use native.Mathlib.Nat.{lt_of_lt_of_le, lt_of_le_of_lt, zero-add}
use native.Mathlib.Omega.{arith}
use lib.Dec.{eqb}
use lib.Pow.{pow_mono}
use borrow.Author.Tests.{eq-eqb, ne_eqb}
use Rattle.std.proofs.Common.{inl, inr}
use Rattle.std.proofs.lemmas.Bool.{cases_eq}
use Rattle.std.proofs.lemmas.Bool.Decides.{nat_tests}
use Rattle.std.proofs.lemmas.Nat.Bits.{bit_at_and, bit_at_or, bit_at_xor, bit_at_above, bit_at-lt, same_from_bits_below}
use Rattle.std.specs.Int.{bit_at}
use lib.Bits.{bit_and, bit_or, bit_xor, and_le_l}
use lib.Count.{ones, ones_step}
use mir.Val.{bool_byte}
use Rattle.rules.proofs.Laws.{some_none, some_one}
use Rattle.rules.proofs.Packing.{digit_le, packed_lt, packed_bit, packed_same}
use Rattle.rules.specs.Words.{word, bit, digit, packed, some_of, count_of, lowest_of, any_word, forced}

-- ---- `packed`

-- `b as u16` in the code
pub byte_digit : (b : Bool) → bool_byte b ≡ digit b
byte_digit true = refl
byte_digit false = refl

pub packed_below : (n k i : ℕ) (f : ℕ → Bool) → n ≤ k → packed n i f < 2 ^ k
packed_below n k i f h = lt_of_lt_of_le (packed_lt n i f) (pow_mono h)

-- one turn of a loop from the top bit down: from the digits from `left` on to those from `left - 1` on
pub packed_turn : (n left : ℕ) (f : ℕ → Bool) → 0 < left → left ≤ n → packed (n - left) left f * 2 + digit (f (left - 1)) ≡ packed (n - (left - 1)) (left - 1) f
unfolding packed
packed_turn n left f h k =
    let e : n - (left - 1) ≡ suc (n - left) = omega arith in
    let j : left - 1 + 1 ≡ left = omega arith in
    rw (e, j)

digit_of : (d : ℕ) → d < 2 → digit (eqb d 1) ≡ d
digit_of d h = grind (arith, nat_tests)

digit_at : (w k : ℕ) → digit (bit w k) ≡ bit_at w k
unfolding bit
digit_at w k = digit_of (bit_at w k) (bit_at-lt w k)

-- a word of n digits is told by them
pub word_is : (n w : ℕ) (f : ℕ → Bool) → w < 2 ^ n → ((k : ℕ) → k < n → bit w k ≡ f k) → w ≡ packed n 0 f
word_is n w f h same =
    let p : ℕ = packed n 0 f in
    same_from_bits_below n w p h (packed_lt n 0 f)
    (λ k a. sym (digit_at w k) ∙ ap digit (same k a ∙ sym (packed_bit n 0 k f a ∙ ap f (zero-add k))) ∙ digit_at p k)

-- ---- Bits of a bitwise operation

module _ (op f : ℕ → ℕ → ℕ) (g : Bool → Bool → Bool)
    (at : (a b k : ℕ) → bit_at (op a b) k ≡ f (bit_at a k) (bit_at b k))
    (on : (x y : Bool) → eqb (f (digit x) (digit y)) 1 ≡ g x y) where
  op_bit : (a b k : ℕ) → bit (op a b) k ≡ g (bit a k) (bit b k)
  unfolding bit
  op_bit a b k =
      ap (λ (z : ℕ). eqb z 1) (at a b k ∙ sym (ap₂ f (digit_at a k) (digit_at b k))) ∙ on (bit a k) (bit b k)

and_digit : (x y : Bool) → eqb (min (digit x) (digit y)) 1 ≡ x && y
and_digit x y = grind (arith, nat_tests)

or_digit : (x y : Bool) → eqb (max (digit x) (digit y)) 1 ≡ x || y
or_digit x y = grind (arith, nat_tests)

xor_digit : (x y : Bool) → eqb ((digit x + digit y) % 2) 1 ≡ xor x y
unfolding xor
xor_digit x y = grind (arith, nat_tests)

pub and_bit : (a b k : ℕ) → bit (bit_and a b) k ≡ bit a k && bit b k
and_bit = op_bit bit_and min ◌&&◌ bit_at_and and_digit

pub or_bit : (a b k : ℕ) → bit (bit_or a b) k ≡ bit a k || bit b k
or_bit = op_bit bit_or max ◌||◌ bit_at_or or_digit

pub xor_bit : (a b k : ℕ) → bit (bit_xor a b) k ≡ xor (bit a k) (bit b k)
xor_bit = op_bit bit_xor (λ x y. (x + y) % 2) xor bit_at_xor xor_digit

pub all_bits : (k : ℕ) → k < 16 → bit 65535 k ≡ true
unfolding packed
all_bits k h = packed_bit 16 0 k (λ n. true) h

-- a word turned over
pub not_bit : (w k : ℕ) → k < 16 → bit (bit_xor w 65535) k ≡ not (bit w k)
unfolding xor
not_bit w k h = xor_bit w 65535 k ∙ grind (arith, nat_tests, all_bits k h)

-- a mask laid over a word
pub and_packed : (n w : ℕ) (f : ℕ → Bool) → bit_and (packed n 0 f) w ≡ packed n 0 (λ k. f k && bit w k)
and_packed n w f =
    word_is n (bit_and (packed n 0 f) w) (λ k. f k && bit w k) (lt_of_le_of_lt (and_le_l (packed n 0 f) w) (packed_lt n 0 f))
    (λ k h. and_bit (packed n 0 f) w k ∙ ap (λ (b : Bool). b && bit w k) (packed_bit n 0 k f h ∙ ap f (zero-add k)))

-- forces laid over a word, off beats on, of the bits that are there
pub forces_packed : (off on w : ℕ) (f : ℕ → Bool) → bit_and (packed 16 0 f) (bit_and (bit_xor off 65535) (bit_or on w)) ≡ packed 16 0 (λ k. f k && forced (bit off k) (bit on k) (bit w k))
forces_packed off on w f =
    and_packed 16 (bit_and (bit_xor off 65535) (bit_or on w)) f
    ∙ packed_same 16 0 (λ k. f k && bit (bit_and (bit_xor off 65535) (bit_or on w)) k) (λ k. f k && forced (bit off k) (bit on k) (bit w k))
    (λ k a h. ap (λ (b : Bool). f k && b) (and_bit (bit_xor off 65535) (bit_or on w) k ∙ ap₂ ◌&&◌ (not_bit off k h) (or_bit on w k)))

-- past its digits a word has no bit set
pub bit_past : (w k n : ℕ) → w < 2 ^ n → n ≤ k → bit w k ≡ false
unfolding bit
bit_past w k n h l = rw (bit_at_above w n k h l)

-- ---- Counts and tests over the digits

pub ones_packed : (n i : ℕ) (f : ℕ → Bool) → ones (packed n i f) ≡ count_of n i f
unfolding count_of packed ones
ones_packed zero i f = refl
ones_packed (suc n) i f =
    let low : packed (suc n) i f % 2 ≡ digit (f i) = omega (arith, digit_le (f i)) in
    let rest : packed (suc n) i f / 2 ≡ packed n (i + 1) f = omega (arith, digit_le (f i)) in
    ones_step (packed (suc n) i f) ∙ rw (low, rest, ones_packed n (i + 1) f)

some_digit : (p : ℕ) (b : Bool) → b || not (eqb p 0) ≡ not (eqb (p * 2 + digit b) 0)
some_digit p b = grind (arith, nat_tests)

pub some_packed : (n i : ℕ) (f : ℕ → Bool) → some_of n i f ≡ not (eqb (packed n i f) 0)
unfolding some_of packed
some_packed zero i f = refl
some_packed (suc n) i f = rw (some_packed n (i + 1) f) (some_digit (packed n (i + 1) f) (f i))

pub any_none : (from to : ℕ) (file : List ℕ) → ((k : ℕ) → from ≤ k → k ≤ to → word file k ≡ 0) → any_word from to file ≡ false
unfolding any_word
any_none from to file h =
    some_none (to + 1 - from) from (λ n. not (eqb (word file n) 0)) (λ k a b. rw (eq-eqb (word file k) 0 (h k a (omega arith))))

pub any_one : (from to k : ℕ) (file : List ℕ) → from ≤ k → k ≤ to → (word file k ≡ 0 → ⊥) → any_word from to file ≡ true
unfolding any_word
any_one from to k file a b h =
    let e : from + (k - from) ≡ k = omega arith in
    some_one (to + 1 - from) from (k - from) (λ n. not (eqb (word file n) 0)) (omega arith) (rw (e, ne_eqb (word file k) 0 h))

-- the lowest number with f, where no lower one has it; 0 where none has
pub lowest_found : (n i k : ℕ) (f : ℕ → Bool) → i ≤ k → k < i + n → ((j : ℕ) → i ≤ j → j < k → f j ≡ false) → f k ≡ true → lowest_of n i f ≡ k
unfolding lowest_of
lowest_found zero i k f a b h e = absurd (omega arith)
lowest_found (suc n) i k f a b h e =
    elim (cases_eq i k) [
      | inl s ↦ rw (rw (← s) at e) s
      | inr d ↦ rw (h i (omega arith) (omega arith)) (lowest_found n (i + 1) k f (omega arith) (omega arith) (λ j c g. h j (omega arith) g) e)
    ]

pub lowest_none : (n i : ℕ) (f : ℕ → Bool) → ((j : ℕ) → i ≤ j → j < i + n → f j ≡ false) → lowest_of n i f ≡ 0
unfolding lowest_of
lowest_none zero i f h = refl
lowest_none (suc n) i f h =
    rw (h i (omega arith) (omega arith)) (lowest_none n (i + 1) f (λ j a b. h j (omega arith) (omega arith)))

-- ---- Words stored into a file
