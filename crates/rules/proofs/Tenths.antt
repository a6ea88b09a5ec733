-- 02's "Tenths of a turn", over the definitions: a stop is an update with C 0 alone, and how large the speed and what is made on the way to it and to Tach get.
-- Assumes nothing.
use Prim.Native.Nat.{ℕ, ◌*◌, ◌≤◌}
use mathlib.Core.Logic.{◌↔◌}
use mathlib.Core.Path.{◌≡◌, refl, ap}
use mathlib.Core.Bool.{Bool, true, false}
use native.Mathlib.Omega.{arith}
use lib.IntN.{ℤ, pos, negsuc, nat_abs}
use borrow.Author.Tests.{eqb-true}
use Rattle.std.proofs.lemmas.Bool.{and_parts}
use Rattle.rules.specs.Words.{round_half_up}
use Rattle.rules.specs.Motion.{window_steps, window_time, tenths_of, is_stop, unbiased}
use Rattle.rules.specs.Sums.{most_tenths}
use Rattle.rules.proofs.Laws.{apart_is}

-- ---- A stop

-- the magnitude of C is 0 where its tenths are
still_counts : (fast : Bool) (n : ℕ) → round_half_up (n * 600000) (1024 * window_time fast) ≡ 0 → n ≡ 0
unfolding round_half_up window_time
still_counts true n e = omega arith
still_counts false n e = omega arith

none_counted : (z : ℤ) → nat_abs z ≡ 0 → z ≡ pos 0
none_counted (pos n) e = ap pos e
none_counted (negsuc n) e = absurd (omega arith)

no_tenths : (fast : Bool) → tenths_of fast (pos 0) ≡ 0
unfolding tenths_of round_half_up window_time
no_tenths true = refl
no_tenths false = refl

-- "0 tenths, which is C 0 alone", for both W
pub still : (fast : Bool) (c : ℤ) → (tenths_of fast c ≡ 0) ↔ (c ≡ pos 0)
unfolding tenths_of
still fast c = (λ e. none_counted c (still_counts fast (nat_abs c) e), λ e. rw e (no_tenths fast))

-- "A stop is now an update of 0 tenths, which is C 0 alone"
pub stop_is : (fast update : Bool) (c : ℤ) → (is_stop update (tenths_of fast c) ≡ true) ↔ ((update ≡ true) × (c ≡ pos 0))
unfolding is_stop
stop_is fast update c = (
  λ e. let p = and_parts update _ e in (p.0, (still fast c).0 (eqb-true _ 0 p.1)),
  λ p. rw (p.0, (still fast c).1 p.1) refl,
)

-- "at W 120 a C of 1 was a stop and is none any more"
pub creep : is_stop true (tenths_of true (pos 1)) ≡ false
unfolding is_stop tenths_of round_half_up window_time
creep = refl

-- ---- Bounds

-- the magnitude of the sum of a full window, whose number is at most 1023 for each step
pub magnitude_within : (size n : ℕ) → n ≤ 1023 * size → nat_abs (unbiased size n) ≤ 512 * size
magnitude_within size n b = rw (← apart_is n (512 * size)) (omega arith)

-- half a turn in each step is 1,500,000 tenths
pub tenths_within : (fast : Bool) (c : ℤ) → nat_abs c ≤ 512 * window_steps fast → tenths_of fast c ≤ most_tenths
unfolding tenths_of round_half_up window_time window_steps
tenths_within true c b = omega arith
tenths_within false c b = omega arith
