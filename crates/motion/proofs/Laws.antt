-- Laws of the rules of motion: the word of the active real inputs, and bounds of the products and of the windows.
-- Assumes nothing.
use Rattle.std.proofs.Common.{◌≡◌, ℕ, zero, suc, ◌+◌, ◌-◌, ◌^◌, ◌<◌, ◌≤◌, Bool, false, not, ◌&&◌, eqb, ltb, leb, sym, ap, ap₂, ◌∙◌, mul-le-mul, add-one, arith, ne_eqb, leb-false}
use mathlib.Core.Bool.{xor, beq, not-not}
use lib.Bits.{bit_xor}
use lib.Dec.{leb-zero, leb-suc-suc, eqb-suc-zero}
use Rattle.rules.specs.declared.Model.{Model}
use Rattle.rules.specs.declared.DecimalCode.{DecimalCode}
use Rattle.rules.specs.declared.DecimalCode.TheVariants.{Code0, Code1, Code2, Code3}
use Rattle.rules.specs.declared.Setup.{Setup}
use Rattle.rules.specs.declared.Sample.{Sample}
use Rattle.rules.specs.declared.Window.{Window}
use Rattle.rules.specs.Words.{bit, word_of, forced}
use Rattle.rules.specs.Variants.{real_count, code_number}
use Rattle.rules.specs.Motion.{real_input, scaled_position}
use Rattle.rules.specs.Card.{updates}
use Rattle.rules.proofs.Packing.{packed_same, packed_bit}
use Rattle.word.proofs.Laws.{xor_bit, not_bit}

-- ---- Inputs

-- the word of the active real inputs, of those that are there and the words of currents and states
pub inputs_word : (m : Model) (u : Setup) (s : Sample) →
    word_of 0 (λ n. bit (word_of 0 (λ k. ltb k (real_count m))) n && forced (bit s.inputsoff n) (bit s.inputson n) (bit (bit_xor (bit_xor s.currents u.states) 65535) n)) ≡ word_of 0 (real_input m u s)
unfolding real_input xor
inputs_word m u s =
    let there : ℕ → Bool = λ n. ltb n (real_count m) in
    let same : ℕ = bit_xor s.currents u.states in
    packed_same 16 0 (λ n. bit (word_of 0 there) n && forced (bit s.inputsoff n) (bit s.inputson n) (bit (bit_xor same 65535) n)) (real_input m u s)
    (λ k a h. ap₂ (λ (b c : Bool). b && forced (bit s.inputsoff k) (bit s.inputson k) c)
    (packed_bit 16 0 k there h ∙ ap there (omega arith))
    (not_bit same k h ∙ ap not (xor_bit s.currents u.states k) ∙ not-not (beq (bit s.currents k) (bit u.states k))))

-- ---- Positions

-- the scaled position of any q and SF of 16 bits
pub scaled_le : (top q : ℕ) → top < 65536 → q < 65536 → scaled_position (top + 1) q ≤ 4194240
unfolding scaled_position
scaled_le top q a b = omega (arith, mul-le-mul {n₁ = q} {m₁ = top + 1} {n₂ = 65535} {m₂ = 65536} (omega arith) (omega arith))

-- ---- Windows

pub updates_natural : (size : ℕ) (w : Window) → leb size (w.steps + 1) ≡ updates size w
unfolding updates
updates_natural zero w = leb-zero (w.steps + 1) ∙ sym (leb-zero w.steps)
updates_natural (suc n) w =
    let e : suc n - 1 ≡ n = omega arith in
    rw (add-one w.steps, e) (leb-suc-suc n w.steps)

-- before its last step a window has room for one more
pub steps_below : (size : ℕ) (w : Window) → updates size w ≡ false → w.steps + 1 < size
unfolding updates
steps_below size w h = omega (arith, leb-false (size - 1) w.steps h)

-- ---- Tachometer and detectors

pub power_range : (code : DecimalCode) → (0 < 10 ^ code_number code) × (10 ^ code_number code ≤ 1000)
power_range Code0 = (omega arith, omega arith)
power_range Code1 = (omega arith, omega arith)
power_range Code2 = (omega arith, omega arith)
power_range Code3 = (omega arith, omega arith)

-- not both are 0
pub not_both : (a b : ℕ) → (a + b ≡ 0 → ⊥) → eqb a 0 && eqb b 0 ≡ false
not_both zero b h = ne_eqb b 0 (λ e. h (omega arith))
not_both (suc a) b h = rw (eqb-suc-zero a)
