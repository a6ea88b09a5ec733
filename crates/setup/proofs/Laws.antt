-- Laws of the setup words. Assumes nothing.
use Prim.Native.Nat.{ℕ, ◌+◌, ◌-◌, ◌%◌}
use mathlib.Core.Bool.{Bool, not, xor, beq}
use mathlib.Core.Path.{◌≡◌, refl, sym, ap, ◌∙◌}
use native.Mathlib.Nat.{mul-zero, mod-zero}
use native.Mathlib.Omega.{arith}
use borrow.Author.Tests.{le-ltb}
use lib.IntN.{sub_ℕ}
use Rattle.rules.specs.Words.{modulo}
use Rattle.rules.specs.Motion.{turned, scaled_position}
use Rattle.rules.specs.SetupWords.{preset_offset}
use Rattle.rules.proofs.Laws.{modulo_natural}

-- the exclusive or is that two bits differ
pub xor_differs : (a b : Bool) → xor a b ≡ not (beq a b)
unfolding xor
xor_differs a b = refl

-- the offset that gives the preset, as the code works it out; a scale factor of 0 is never in force
pub preset_zero : (reversed : Bool) (preset raw : ℕ) → preset_offset 0 reversed preset raw ≡ preset
unfolding preset_offset scaled_position modulo
preset_zero reversed preset raw =
    let z : preset - 0 ≡ preset = omega arith in
    rw (mul-zero (turned reversed raw), le-ltb preset 0 (omega arith), z) (mod-zero preset)

pub preset_natural : (sf : ℕ) (reversed : Bool) (preset raw : ℕ) → (sf ≡ 0 → ⊥)
    → (preset + (sf - 1 + 1 - scaled_position (sf - 1 + 1) (turned reversed raw) % (sf - 1 + 1))) % (sf - 1 + 1) ≡ preset_offset sf reversed preset raw
unfolding preset_offset
preset_natural sf reversed preset raw h =
    let s : sf - 1 + 1 ≡ sf = omega arith in
    sym (modulo_natural preset (scaled_position (sf - 1 + 1) (turned reversed raw)) (sf - 1))
    ∙ ap (λ (n : ℕ). modulo (sub_ℕ preset (scaled_position n (turned reversed raw))) n) s
