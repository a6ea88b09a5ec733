-- A byte of a list of words is a half of one of them. Assumes nothing.
use Prim.Native.Nat.{ℕ, zero, suc, ◌/◌, ◌%◌, ◌<◌}
use mathlib.Core.Bool.{Bool, true, false, cond}
use mathlib.Core.List.{List, [], ◌∷◌}
use mathlib.Core.Path.{◌≡◌, refl}
use native.Mathlib.Omega.{arith}
use lib.Dec.{eqb}
use Rattle.rules.specs.Words.{word, bits, bytes_of}
use Rattle.rules.proofs.Packing.{digit_le}

same : (b : Bool) → ◌≡◌ {A = ℕ} 0 (cond b 0 0)
same true = refl
same false = refl

pub byte_of_words : (ws : List ℕ) (n : ℕ) → word (bytes_of ws) n ≡ cond (eqb (n % 2) 0) (word ws (n / 2) % 256) (word ws (n / 2) / 256)
unfolding bytes_of
byte_of_words [] n = same (eqb (n % 2) 0)
byte_of_words (w ∷ ws) zero = refl
byte_of_words (w ∷ ws) (suc zero) = refl
byte_of_words (w ∷ ws) (suc (suc n)) =
    let r : suc (suc n) % 2 ≡ n % 2 = omega arith in
    let q : suc (suc n) / 2 ≡ suc (n / 2) = omega arith in
    rw (r, q) (byte_of_words ws n)

-- the word of four bits
pub four_bits : (b0 b1 b2 b3 : Bool) → bits (b0 ∷ b1 ∷ b2 ∷ b3 ∷ false ∷ false ∷ []) < 16
four_bits b0 b1 b2 b3 = omega (arith, digit_le b0, digit_le b1, digit_le b2, digit_le b3)
