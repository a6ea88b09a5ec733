-- How many bits are set in the bytes of a number, and the pair tests of 32 outputs by eights.
-- Assumes nothing.
use Prim.Native.Nat.{ℕ, zero, suc, ◌+◌, ◌*◌, ◌/◌, ◌^◌, ◌<◌}
use mathlib.Core.Bool.{cond}
use mathlib.Core.List.{List}
use mathlib.Core.Path.{◌≡◌, refl, ◌∙◌}
use native.Mathlib.Nat.{pow-suc}
use native.Mathlib.Omega.{arith}
use lib.Bits.{block_half, block_odd}
use lib.Count.{ones, ones_step}
use lib.ListN.{get_or}
use mir.Syntax.{w64}
use Rattle.std.specs.Int.{from_le_bytes}
use Rattle.std.specs.List.{sum}
use Rattle.rules.specs.declared.Model.{Model}
use Rattle.rules.specs.declared.Model.TheVariants.{NoModule, M8511, M8512, M8513}
use Rattle.rules.specs.Variants.{real_count, virtual_count}
use Rattle.rules.specs.Words.{table}
use Rattle.rules.specs.Switches.{present}

-- a lower part of k digits
ones_block : (k a r : ℕ) → r < 2 ^ k → ones (a * 2 ^ k + r) ≡ ones a + ones r
ones_block zero a r h =
    let none : a * 1 + r ≡ a = omega arith in
    let r0 : r ≡ 0 = omega arith in
    rw (none, r0) (unfold ones in omega arith)
ones_block (suc k) a r h =
    let whole : r < 2 ^ k * 2 = rw (pow-suc 2 k) at h in
    ones_step (a * 2 ^ suc k + r) ∙ rw (block_odd a k r, block_half a k r, ones_block k a (r / 2) (omega (arith, whole)), ones_step r) (omega arith)

joined : (k r a : ℕ) → r < 2 ^ k → ones (r + a * 2 ^ k) ≡ ones r + ones a
joined k r a h =
    let turn : r + a * 2 ^ k ≡ a * 2 ^ k + r = omega arith in
    rw (turn, ones_block k a r h) (omega arith)

-- eight bytes
pub eight_ones : (bs : List ℕ) → ((i : ℕ) → get_or bs i 0 < 256) → ones (from_le_bytes w64 bs) ≡ sum (table 8 0 (λ k. ones (get_or bs k 0)))
unfolding table
eight_ones bs small = go (get_or bs 0 0) (get_or bs 1 0) (get_or bs 2 0) (get_or bs 3 0) (get_or bs 4 0) (get_or bs 5 0) (get_or bs 6 0) (get_or bs 7 0) (small 0) (small 1) (small 2) (small 3) (small 4) (small 5) (small 6)
  where
    go : (a b c d e f g h : ℕ) → a < 256 → b < 256 → c < 256 → d < 256 → e < 256 → f < 256 → g < 256
        → ones (a + b * 256 + c * 65536 + d * 16777216 + e * 4294967296 + f * 1099511627776 + g * 281474976710656 + h * 72057594037927936)
        ≡ 0 + ones a + ones b + ones c + ones d + ones e + ones f + ones g + ones h
    go a b c d e f g h a' b' c' d' e' f' g' =
        rw (
          joined 56 (a + b * 256 + c * 65536 + d * 16777216 + e * 4294967296 + f * 1099511627776 + g * 281474976710656) h (omega arith),
          joined 48 (a + b * 256 + c * 65536 + d * 16777216 + e * 4294967296 + f * 1099511627776) g (omega arith),
          joined 40 (a + b * 256 + c * 65536 + d * 16777216 + e * 4294967296) f (omega arith),
          joined 32 (a + b * 256 + c * 65536 + d * 16777216) e (omega arith),
          joined 24 (a + b * 256 + c * 65536) d (omega arith),
          joined 16 (a + b * 256) c (omega arith),
          joined 8 a b (omega arith),
        )
        (omega arith)

-- a module has all or none of each eight outputs
pub by_eights : (m : Model) (t : ℕ → ℕ)
    → cond (present m 0) (sum (table 8 0 t)) 0 + cond (present m 8) (sum (table 8 8 t)) 0 + cond (present m 16) (sum (table 8 16 t)) 0 + cond (present m 24) (sum (table 8 24 t)) 0
    ≡ sum (table 32 0 (λ k. cond (present m k) (t k) 0))
unfolding table present real_count virtual_count
by_eights NoModule t = refl
by_eights M8511 t = omega arith
by_eights M8512 t = omega arith
by_eights M8513 t = omega arith
