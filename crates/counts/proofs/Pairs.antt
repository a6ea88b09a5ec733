-- An equal pair holds nowhere.
-- Assumes nothing.
use Prim.Native.Nat.{ℕ, ◌+◌, ◌-◌}
use mathlib.Core.Bool.{false}
use mathlib.Core.Path.{◌≡◌}
use native.Mathlib.Omega.{arith}
use borrow.Author.Tests.{le-ltb}
use Rattle.rules.specs.Words.{modulo}
use Rattle.rules.specs.Counts.{ahead, holds}

-- no count is ahead of itself
ahead_none : (sf a : ℕ) → ahead (sf + 1) a a ≡ 0
unfolding ahead modulo
ahead_none sf a =
    let e : a - a ≡ 0 = omega arith in
    rw (le-ltb a a (omega arith), e) (omega arith)

pub equal_pair : (sf a p : ℕ) → holds (sf + 1) a a p ≡ false
unfolding holds
equal_pair sf a p = rw (ahead_none sf a) (le-ltb _ 0 (omega arith))
