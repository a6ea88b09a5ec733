-- Laws of the two words of outputs: forces and missing outputs, applied to whole words, are those of each output.
-- Assumes nothing.
use Prim.Native.Nat.{ℕ, zero, suc, ◌+◌, ◌-◌, ◌/◌, ◌^◌, ◌≤◌, ◌<◌}
use mathlib.Core.Bool.{Bool, false, ◌&&◌, and-true}
use mathlib.Core.Logic.{inl, inr}
use mathlib.Core.Path.{◌≡◌, refl, sym, ap, ◌∙◌}
use native.Mathlib.Nat.{zero-add}
use native.Mathlib.Omega.{arith}
use lib.Dec.{ltb}
use lib.Bits.{bit_and}
use lib.Pow.{shr-shr}
use borrow.Author.Tests.{lt-ltb, le-ltb}
use Rattle.std.proofs.lemmas.Bool.{cases_lt}
use Rattle.rules.specs.declared.Model.{Model}
use Rattle.rules.specs.declared.Model.TheVariants.{NoModule, M8511, M8512, M8513}
use Rattle.rules.specs.declared.Sample.{Sample}
use Rattle.rules.specs.Words.{bit, packed, word_of, forced}
use Rattle.rules.specs.Variants.{real_count, virtual_count}
use Rattle.rules.specs.Switches.{present, forced_off, forced_on, output_on, output_words}
use Rattle.rules.proofs.Packing.{packed_lt, packed_bit, packed_same}
use Rattle.word.proofs.Laws.{and_bit, all_bits, bit_past}

-- the lower and the higher digits of a number
low_bit : (w k : ℕ) → k < 16 → bit (bit_and w 65535) k ≡ bit w k
low_bit w k h = and_bit w 65535 k ∙ rw (all_bits k h) (and-true (bit w k))

high_bit : (w n k : ℕ) → bit (w / 2 ^ n) k ≡ bit w (n + k)
unfolding bit
high_bit w n k = rw (shr-shr w n k)

-- the digits from j + i on
packed_on : (n i j : ℕ) (f : ℕ → Bool) → packed n i (λ k. f (j + k)) ≡ packed n (j + i) f
unfolding packed
packed_on zero i j f = refl
packed_on (suc n) i j f =
    let e : j + i + 1 ≡ j + (i + 1) = omega arith in
    rw (e, packed_on n (i + 1) j f)

-- the word of the outputs of a type that a module has
present_bit : (count n : ℕ) → n < 16 → bit (word_of 0 (λ k. ltb k count)) n ≡ ltb n count
present_bit count n h = packed_bit 16 0 n (λ k. ltb k count) h ∙ ap (λ (k : ℕ). ltb k count) (zero-add n)

-- a module has output n
pub real_present : (m : Model) (n : ℕ) → n < 16 → bit (word_of 0 (λ k. ltb k (real_count m))) n ≡ present m n
unfolding present
real_present m n h = present_bit (real_count m) n h ∙ rw (lt-ltb n 16 h)

few_virtual : (m : Model) → virtual_count m ≤ 16
unfolding virtual_count
few_virtual NoModule = omega arith
few_virtual M8511 = omega arith
few_virtual M8512 = omega arith
few_virtual M8513 = omega arith

pub virtual_present : (m : Model) (n : ℕ) → 16 ≤ n → bit (word_of 0 (λ k. ltb k (virtual_count m))) (n - 16) ≡ present m n
unfolding present
virtual_present m n h =
    rw (le-ltb n 16 h)
    (elim (cases_lt (n - 16) 16) [
      | inl b ↦ present_bit (virtual_count m) (n - 16) b
      | inr b ↦ bit_past _ (n - 16) 16 (packed_lt 16 0 _) b ∙ sym (le-ltb (n - 16) (virtual_count m) (omega (arith, few_virtual m)))
    ])

module _ (m : Model) (s : Sample) (rule : ℕ) where
  abbrev real_at : ℕ → Bool
  real_at n =
      bit (word_of 0 (λ k. ltb k (real_count m))) n && forced (bit s.realoff n) (bit s.realon n) (bit (bit_and rule 65535) n)

  abbrev virtual_at : ℕ → Bool
  virtual_at n =
      bit (word_of 0 (λ k. ltb k (virtual_count m))) n && forced (bit s.virtualoff n) (bit s.virtualon n) (bit (rule / 65536) n)

  real_at_lem : (n : ℕ) → n < 16 → real_at n ≡ output_on m s (bit rule) n
  unfolding output_on
  real_at_lem n h = rw (real_present m n h, low_bit rule n h, lt-ltb n 16 h)

  virtual_at_lem : (n : ℕ) → n < 16 → virtual_at n ≡ output_on m s (bit rule) (16 + n)
  unfolding output_on
  virtual_at_lem n h =
      let e : 16 + n - 16 ≡ n = omega arith in
      rw (rw e at (virtual_present m (16 + n) (omega arith)), high_bit rule 16 n, le-ltb (16 + n) 16 (omega arith), e)

  pub real_word : word_of 0 real_at ≡ word_of 0 (output_on m s (bit rule))
  real_word = packed_same 16 0 real_at (output_on m s (bit rule)) (λ k a h. real_at_lem k h)

  pub virtual_word : word_of 0 virtual_at ≡ word_of 16 (output_on m s (bit rule))
  virtual_word =
      packed_same 16 0 virtual_at (λ k. output_on m s (bit rule) (16 + k)) (λ k a h. virtual_at_lem k h)
      ∙ packed_on 16 0 16 (output_on m s (bit rule))

-- the words are told by what the rule says of each of the 32 outputs
module _ (m : Model) (s : Sample) (rule other : ℕ → Bool) (same : (k : ℕ) → k < 32 → rule k ≡ other k) where
  on_same : (k : ℕ) → k < 32 → output_on m s rule k ≡ output_on m s other k
  unfolding output_on
  on_same k h = ap (λ (on : Bool). present m k && forced (forced_off s k) (forced_on s k) on) (same k h)

  pub words_same : output_words m s rule ≡ output_words m s other
  unfolding output_words
  words_same =
      rw (
        packed_same 16 0 (output_on m s rule) (output_on m s other) (λ k a b. on_same k (omega arith)),
        packed_same 16 16 (output_on m s rule) (output_on m s other) (λ k a b. on_same k (omega arith)),
      )

-- the rule as one word of 32 bits
pub words_packed : (m : Model) (s : Sample) (rule : ℕ → Bool) → output_words m s (bit (packed 32 0 rule)) ≡ output_words m s rule
words_packed m s rule =
    words_same m s (bit (packed 32 0 rule)) rule (λ k h. packed_bit 32 0 k rule h ∙ ap rule (zero-add k))

-- no output on before the forces
pub words_none : (m : Model) (s : Sample) → output_words m s (bit 0) ≡ output_words m s (λ k. false)
words_none m s = words_same m s (bit 0) (λ k. false) (λ k h. bit_past 0 k 0 (omega arith) (omega arith))
