-- Congruence modulo SF: a difference reduced mod SF is the one count below SF that gives the minuend with the subtrahend added; integers as differences.
-- Assumes nothing.
use Prim.Native.Nat.{ℕ, suc, ◌+◌, ◌-◌, ◌*◌, ◌/◌, ◌%◌, ◌<◌}
use mathlib.Core.Path.{◌≡◌, refl, sym, ap, ◌∙◌}
use native.Mathlib.Nat.{mod-eq_of_lt, mod-add-mod, add-mul-mod_self_right, div-add-mod'}
use native.Mathlib.Omega.{arith}
use lib.IntN.{ℤ, pos, negsuc, neg_ℤ, sub_ℕ, ◌+ℤ◌, ◌-ℤ◌, +ℤ_idl}
use Rattle.std.proofs.lemmas.Nat.{mod_below}
use Rattle.rules.specs.Words.{modulo}
use Rattle.rules.specs.Counts.{ahead}
use Rattle.rules.specs.Switches.{advance_shift, moved}
use Rattle.rules.proofs.Laws.{minus, modulo_below, modulo_natural, add_differences, ahead_below}

-- x and y are congruent mod t + 1, and so are these and a number more
more : (t x y u : ℕ) → x % (t + 1) ≡ y % (t + 1) → (x + u) % (t + 1) ≡ (y + u) % (t + 1)
more t x y u e = sym (mod-add-mod x (t + 1) u) ∙ ap (λ (r : ℕ). (r + u) % (t + 1)) e ∙ mod-add-mod y (t + 1) u

-- the same of two sums, in whatever order they are written
pub congruent : (t x y u a b : ℕ) → x % (t + 1) ≡ y % (t + 1) → a ≡ x + u → b ≡ y + u → a % (t + 1) ≡ b % (t + 1)
congruent t x y u a b e p q = rw (p, q) (more t x y u e)

-- u and what it lacks to the next multiple
filled : (t x u : ℕ) → (x + u + (t + 1 - u % (t + 1))) % (t + 1) ≡ x % (t + 1)
filled t x u =
    let e : x + u + (t + 1 - u % (t + 1)) ≡ x + 1 * (t + 1) + u / (t + 1) * (t + 1) = omega (arith, div-add-mod' u (t + 1), mod_below u (t + 1) (omega arith)) in
    rw e (add-mul-mod_self_right (x + 1 * (t + 1)) (u / (t + 1)) (t + 1) ∙ add-mul-mod_self_right x 1 (t + 1))

-- a number less on both sides
cancelled : (t x y u : ℕ) → (x + u) % (t + 1) ≡ (y + u) % (t + 1) → x % (t + 1) ≡ y % (t + 1)
cancelled t x y u e = sym (filled t x u) ∙ more t (x + u) (y + u) (t + 1 - u % (t + 1)) e ∙ filled t y u

-- (a − b) mod (t + 1), with b added, is a
modulo_gives : (t a b : ℕ) → (modulo (sub_ℕ a b) (t + 1) + b) % (t + 1) ≡ a % (t + 1)
modulo_gives t a b =
    let e : a + (t + 1 - b % (t + 1)) + b ≡ a + b + (t + 1 - b % (t + 1)) = omega arith in
    rw (modulo_natural a b t, mod-add-mod (a + (t + 1 - b % (t + 1))) (t + 1) b, e) (filled t a b)

-- and no other count is
pub modulo_only : (t a b r : ℕ) → r < t + 1 → (r + b) % (t + 1) ≡ a % (t + 1) → r ≡ modulo (sub_ℕ a b) (t + 1)
modulo_only t a b r h e =
    sym (mod-eq_of_lt h)
    ∙ cancelled t r (modulo (sub_ℕ a b) (t + 1)) b (e ∙ sym (modulo_gives t a b))
    ∙ mod-eq_of_lt (modulo_below (sub_ℕ a b) t)

pub ahead_gives : (t from to : ℕ) → (ahead (t + 1) from to + from) % (t + 1) ≡ to % (t + 1)
unfolding ahead
ahead_gives t from to = modulo_gives t to from

ahead_only : (t from to r : ℕ) → r < t + 1 → (r + from) % (t + 1) ≡ to % (t + 1) → r ≡ ahead (t + 1) from to
unfolding ahead
ahead_only t from to r h e = modulo_only t to from r h e

-- ---- An integer as a difference: up − down

abbrev up : ℤ → ℕ
up (pos n) = n
up (negsuc n) = 0

abbrev down : ℤ → ℕ
down (pos n) = 0
down (negsuc n) = suc n

as_difference : (z : ℤ) → z ≡ pos (up z) -ℤ pos (down z)
as_difference (pos n) = ap pos (omega arith)
as_difference (negsuc n) = sym (+ℤ_idl (negsuc n))

against : (z : ℤ) → neg_ℤ z ≡ pos (down z) -ℤ pos (up z)
against (pos n) = sym (+ℤ_idl (neg_ℤ (pos n)))
against (negsuc n) = ap pos (omega arith)

-- x + (a − b)
pub summed : (x a b : ℕ) (z : ℤ) → z ≡ pos a -ℤ pos b → pos x +ℤ z ≡ sub_ℕ (x + a) b
summed x a b z e =
    ap (λ (v : ℤ). pos x +ℤ v) e
    ∙ ap (λ (v : ℤ). v +ℤ (pos a -ℤ pos b)) (as_difference (pos x))
    ∙ add_differences x 0 a b
    ∙ minus (x + a) (0 + b)
    ∙ ap (sub_ℕ (x + a)) (omega arith)

-- x + z, and x − z
plus : (x : ℕ) (z : ℤ) → pos x +ℤ z ≡ sub_ℕ (x + up z) (down z)
plus x z = summed x (up z) (down z) z (as_difference z)

less : (x : ℕ) (z : ℤ) → pos x -ℤ z ≡ sub_ℕ (x + down z) (up z)
less x z = summed x (down z) (up z) (neg_ℤ z) (against z)

-- x + s − z
both_shifts : (x : ℕ) (s z : ℤ) → pos x +ℤ s -ℤ z ≡ sub_ℕ (x + up s + down z) (down s + up z)
both_shifts x s z =
    ap (λ (v : ℤ). v -ℤ z) (plus x s ∙ sym (minus (x + up s) (down s)))
    ∙ ap (λ (v : ℤ). (pos (x + up s) -ℤ pos (down s)) +ℤ v) (against z)
    ∙ add_differences (x + up s) (down s) (down z) (up z)
    ∙ minus (x + up s + down z) (down s + up z)

-- ---- A moved setpoint

-- s added gives the setpoint
moved_gives : (t : ℕ) (a c : ℤ) (x : ℕ) →
    (moved (t + 1) a c x + up (advance_shift (t + 1) a c)) % (t + 1) ≡ (x + down (advance_shift (t + 1) a c)) % (t + 1)
unfolding moved
moved_gives t a c x =
    let s : ℤ = advance_shift (t + 1) a c in
    rw (less x s) (modulo_gives t (x + down s) (up s))

-- How far a position is ahead of a moved setpoint: how far the position, taken back by the displacement, is ahead of the setpoint.
pub ahead_of_moved : (t : ℕ) (a c : ℤ) (x p : ℕ) →
    ahead (t + 1) (moved (t + 1) a c x) p ≡ ahead (t + 1) x (modulo (pos p +ℤ advance_shift (t + 1) a c) (t + 1))
ahead_of_moved t a c x p =
    let s : ℤ = advance_shift (t + 1) a c in
    let m : ℕ = moved (t + 1) a c x in
    let r : ℕ = ahead (t + 1) m p in
    let from : ℕ = modulo (pos p +ℤ s) (t + 1) in
    let back : (from + down s) % (t + 1) ≡ (p + up s) % (t + 1) = rw (plus p s) (modulo_gives t (p + up s) (down s)) in
    ahead_only t x from r (ahead_below t m p)
    (cancelled t (r + x) from (down s)
    (sym (congruent t (m + up s) (x + down s) r (r + m + up s) (r + x + down s) (moved_gives t a c x) (omega arith) (omega arith))
    ∙ congruent t (r + m) p (up s) (r + m + up s) (p + up s) (ahead_gives t m p) refl refl
    ∙ sym back))

-- How far a moved OFF setpoint is ahead of a moved ON setpoint: (off − on) mod SF + s of ON − s of OFF, reduced mod SF.
pub moved_apart : (t : ℕ) (a b c : ℤ) (on off : ℕ) →
    ahead (t + 1) (moved (t + 1) a c on) (moved (t + 1) b c off)
    ≡ modulo (pos (ahead (t + 1) on off) +ℤ advance_shift (t + 1) a c -ℤ advance_shift (t + 1) b c) (t + 1)
moved_apart t a b c on off =
    let s : ℤ = advance_shift (t + 1) a c in
    let z : ℤ = advance_shift (t + 1) b c in
    let m : ℕ = moved (t + 1) a c on in
    let n : ℕ = moved (t + 1) b c off in
    let h : ℕ = ahead (t + 1) on off in
    let r : ℕ = ahead (t + 1) m n in
    rw (both_shifts h s z)
    (modulo_only t (h + up s + down z) (down s + up z) r (ahead_below t m n)
    (cancelled t (r + (down s + up z)) (h + up s + down z) on
    (sym (congruent t (m + up s) (on + down s) (r + up z) (r + m + up s + up z) (r + (down s + up z) + on) (moved_gives t a c on) (omega arith) (omega arith))
    ∙ congruent t (r + m) n (up s + up z) (r + m + up s + up z) (n + up z + up s) (ahead_gives t m n) (omega arith) (omega arith)
    ∙ congruent t (n + up z) (off + down z) (up s) (n + up z + up s) (off + down z + up s) (moved_gives t b c off) refl refl
    ∙ sym (congruent t (h + on) off (down z + up s) (h + up s + down z + on) (off + down z + up s) (ahead_gives t on off) (omega arith) (omega arith)))))
