-- A train of pulses: the starts do not fall from one pulse to the next, so the last pulse that has started decides.
-- Assumes nothing.
use Prim.Native.Nat.{ℕ, zero, suc, ◌+◌, ◌-◌, ◌*◌, ◌/◌, ◌≤◌, ◌<◌, min}
use mathlib.Core.Bool.{Bool, true, false, ◌&&◌}
use mathlib.Core.Path.{◌≡◌, refl}
use native.Mathlib.Nat.{zero-add, div-zero, mul-zero, zero-div, mul-le-mul_right, le-div_iff_mul-le, div-lt_iff_lt-mul, div-mul-le_self, min-le_left, min-le_right}
use native.Mathlib.Omega.{arith}
use borrow.Author.Tests.{leb-true, ltb-false, le-ltb, le-leb}
use lib.Dec.{ltb, leb}
use Rattle.rules.specs.Switches.{pulse_start, pulse_on}
use Rattle.switch.specs.Parts.{last_pulse}
use Rattle.rules.proofs.Laws.{some_one, some_none}
use Rattle.rules.proofs.Trains.{div_monotone, start_value}

-- in m = R − K and d = Q − 1: the last started pulse has started, and no started one starts after it
abbrev last : ℕ → ℕ → ℕ → ℕ
last m d at = min d (((at + 1) * d - 1) / m)

last_started : (m d at : ℕ) → last m d at * m / d ≤ at
last_started m zero at = rw (div-zero (last m 0 at * m)) (omega arith)
last_started zero (suc d) at = rw (mul-zero (last 0 (suc d) at), zero-div (suc d)) (omega arith)
last_started (suc m) (suc d) at =
    let n = (at + 1) * suc d - 1 in
    let x = last (suc m) (suc d) at * suc m in
    let below : x ≤ n / suc m * suc m = mul-le-mul_right (suc m) (min-le_right (suc d) (n / suc m)) in
    let some : 0 < (at + 1) * suc d = omega arith in
    let less : x / suc d < at + 1 =
    (div-lt_iff_lt-mul {k = suc d} {x = x} {y = at + 1} (omega arith)).1 (omega (arith, div-mul-le_self n (suc m))) in
    omega arith

last_latest : (m d at j : ℕ) → j ≤ d → j * m / d ≤ at → j * m / d ≤ last m d at * m / d
last_latest m zero at j h s = rw (div-zero (j * m)) (omega arith)
last_latest zero (suc d) at j h s = rw (mul-zero j, zero-div (suc d)) (omega arith)
last_latest (suc m) (suc d) at j h s =
    let n = (at + 1) * suc d - 1 in
    let started : j * suc m < (at + 1) * suc d = (div-lt_iff_lt-mul {k = suc d} {x = j * suc m} {y = at + 1} (omega arith)).0 (omega arith) in
    let early : j ≤ n / suc m = (le-div_iff_mul-le {k = suc m} {x = j} {y = n} (omega arith)).1 (omega arith) in
    div_monotone (suc d) (mul-le-mul_right (suc m) (omega arith))

module _ (r q k at : ℕ) (some : 0 < q) where
  begun : pulse_start r q k (last_pulse r q k at) ≤ at
  unfolding last_pulse
  begun = rw (start_value r q k (last (r - k) (q - 1) at)) (last_started (r - k) (q - 1) at)

  latest : (j : ℕ) → j < q → pulse_start r q k j ≤ at → pulse_start r q k j ≤ pulse_start r q k (last_pulse r q k at)
  unfolding last_pulse
  latest j h s =
      rw (start_value r q k j, start_value r q k (last (r - k) (q - 1) at))
      (last_latest (r - k) (q - 1) at j (omega arith) (rw (start_value r q k j) at s))

  within : last_pulse r q k at < q
  unfolding last_pulse
  within = omega (arith, min-le_left (q - 1) (((at + 1) * (q - 1) - 1) / (r - k)))

  -- a pulse that the last one does not reach past `at`
  dark : ltb at (pulse_start r q k (last_pulse r q k at) + k) ≡ false → (j : ℕ) → j < q → (b : Bool) → leb (pulse_start r q k j) at ≡ b →
      (b && ltb at (pulse_start r q k j + k)) ≡ false
  dark e j h true s = le-ltb at (pulse_start r q k j + k) (omega (arith, ltb-false at (pulse_start r q k (last_pulse r q k at) + k) e, latest j h (leb-true (pulse_start r q k j) at s)))
  dark e j h false s = refl

  decided : (b : Bool) → ltb at (pulse_start r q k (last_pulse r q k at) + k) ≡ b → pulse_on r q k at ≡ b
  unfolding pulse_on
  decided true e = some_one q 0 (last_pulse r q k at) _ within
      (rw (zero-add (last_pulse r q k at), le-leb (pulse_start r q k (last_pulse r q k at)) at begun) e)
  decided false e = some_none q 0 _ (λ j a h. dark e j (omega arith) (leb (pulse_start r q k j) at) refl)

  -- the last pulse that has started decides
  pub pulse_decided : pulse_on r q k at ≡ ltb at (pulse_start r q k (last_pulse r q k at) + k)
  pulse_decided = decided (ltb at (pulse_start r q k (last_pulse r q k at) + k)) refl
