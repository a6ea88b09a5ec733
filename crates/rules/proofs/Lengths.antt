-- 02, request 5/14: what the length says of a pair of a normal or timed switch, for every scale factor, c and switch. Assumes nothing.
use Prim.Native.Nat.{ℕ, zero, suc, ◌+◌, ◌-◌, ◌≤◌, ◌<◌}
use mathlib.Core.Bool.{Bool, true, false, cond, ◌&&◌}
use mathlib.Core.Logic.{◌↔◌, ◌⊎◌, inl, inr, ⊎_elim}
use mathlib.Core.Path.{◌≡◌, refl, sym, ap, fun_ext, ◌∙◌}
use native.Mathlib.Nat.{mod-eq_of_lt}
use native.Mathlib.Omega.{arith}
use borrow.Author.Tests.{leb-true, lt-ltb, le-ltb}
use lib.Dec.{ltb, leb, lt→ltb, ltb→lt, le→leb}
use lib.IntN.{ℤ, pos, negsuc, ◌+ℤ◌, ◌-ℤ◌, +ℤ-neg_ℤ_cancel}
use lib.Signed.{◌≤ℤ◌, ◌<ℤ◌, lt_z, le_z_yes, lt_z_yes, <ℤ-≤ℤ_trans, clash_ℤ}
use Rattle.std.proofs.lemmas.Bool.{and_parts, and_from, false_from_ne_true, true_from_ne_false, cases_lt}
use Rattle.std.proofs.lemmas.Float.{T_from_true}
use Rattle.rules.specs.declared.Advance.{Advance}
use Rattle.rules.specs.declared.Limit.{Limit}
use Rattle.rules.specs.declared.Position.{Position}
use Rattle.rules.specs.Words.{modulo, count_of}
use Rattle.rules.specs.Counts.{ahead, holds}
use Rattle.rules.specs.Switches.{advance_value, advance_shift, moved, count_at, on_setpoint, off_setpoint, pair_used, on_shift, off_shift, pair_length, holds_for, pair_holds}
use Rattle.rules.proofs.Laws.{modulo_below, ahead_below, ahead_up, ahead_round}
use Rattle.rules.proofs.Congruence.{moved_apart}

-- ---- One comparison

-- A position is from 0 to SF − 1 counts ahead of the moved ON setpoint, so that the three cases are one comparison of whole numbers.
pub holds_signed : (t : ℕ) (z : ℤ) (start p : ℕ) → holds_for (t + 1) z start p ≡ lt_z (pos (ahead (t + 1) start p)) z
unfolding holds_for
holds_signed t (negsuc n) start p = refl
holds_signed t (pos n) start p = go (leb n 0) refl (leb (t + 1) n) refl
  where
    go : (x : Bool) → leb n 0 ≡ x → (y : Bool) → leb (t + 1) n ≡ y → cond x false (cond y true (ltb (ahead (t + 1) start p) n)) ≡ ltb (ahead (t + 1) start p) n
    go true e y f = sym (le-ltb (ahead (t + 1) start p) n (omega (arith, leb-true n 0 e)))
    go false e true f = sym (lt-ltb (ahead (t + 1) start p) n (omega (arith, leb-true (t + 1) n f, ahead_below t start p)))
    go false e false f = refl

-- the moved ON setpoint of pair k
abbrev pub moved_on : ℕ → ℤ → Limit → ℕ → ℕ
moved_on sf c l k = moved sf (advance_value l.onadvance) c (on_setpoint l k)

-- and its moved OFF setpoint
abbrev pub moved_off : ℕ → ℤ → Limit → ℕ → ℕ
moved_off sf c l k = moved sf (advance_value l.offadvance) c (off_setpoint l k)

pub pair_signed : (t : ℕ) (c : ℤ) (l : Limit) (k : ℕ) (p : Position) →
    pair_holds (t + 1) c l k p ≡ (pair_used l k && lt_z (pos (ahead (t + 1) (moved_on (t + 1) c l k) (count_at p))) (pair_length (t + 1) c l k))
unfolding pair_holds
pair_signed t c l k p = rw (holds_signed t (pair_length (t + 1) c l k) (moved_on (t + 1) c l k) (count_at p))

-- a natural below a whole number, which is then over 0
below_positive : (a : ℕ) (z : ℤ) → pos a <ℤ z → pos 0 <ℤ z
below_positive a (pos n) h = lt_z_yes (lt→ltb 0 n (omega (arith, ltb→lt a n h.lt)))
below_positive a (negsuc n) h = absurd h.lt

-- A pair holds exactly where it is used and its length is SF or more, or over 0 with the position less than that many counts ahead of the moved ON setpoint.
pub pair_exactly : (t : ℕ) (c : ℤ) (l : Limit) (k : ℕ) (p : Position) →
    (pair_holds (t + 1) c l k p ≡ true)
    ↔ ((pair_used l k ≡ true)
    × ((pos (t + 1) ≤ℤ pair_length (t + 1) c l k)
    ⊎ ((pos 0 <ℤ pair_length (t + 1) c l k) × (pos (ahead (t + 1) (moved_on (t + 1) c l k) (count_at p)) <ℤ pair_length (t + 1) c l k))))
pair_exactly t c l k p = (
  λ e. let b = and_parts (pair_used l k) _ (sym (pair_signed t c l k p) ∙ e) in
      let h : pos a <ℤ z = lt_z_yes (T_from_true _ b.1) in
      (b.0, inr (below_positive a z h, h)),
  λ x. pair_signed t c l k p ∙ and_from _ _ x.0 (true_from_ne_false (lt_z (pos a) z) (λ e. rw e at (⊎_elim (λ more. <ℤ-≤ℤ_trans within more) (λ y. y.1) x.1).lt)),
)
  where
    a : ℕ
    a = ahead (t + 1) (moved_on (t + 1) c l k) (count_at p)

    z : ℤ
    z = pair_length (t + 1) c l k

    within : pos a <ℤ pos (t + 1)
    within = lt_z_yes (lt→ltb a (t + 1) (ahead_below t (moved_on (t + 1) c l k) (count_at p)))

-- "At 0 or less the pair never holds."
pub never_holds : (t : ℕ) (c : ℤ) (l : Limit) (k : ℕ) (p : Position) → pair_length (t + 1) c l k ≤ℤ pos 0 → pair_holds (t + 1) c l k p ≡ false
never_holds t c l k p h =
    false_from_ne_true _
    (λ e. ⊎_elim (λ more. clash_ℤ (<ℤ-≤ℤ_trans (lt_z_yes (lt→ltb 0 (t + 1) (omega arith))) more) h) (λ y. clash_ℤ y.0 h) ((pair_exactly t c l k p).0 e).1)

-- "At SF or more it always holds."
pub always_holds : (t : ℕ) (c : ℤ) (l : Limit) (k : ℕ) (p : Position) → pair_used l k ≡ true → pos (t + 1) ≤ℤ pair_length (t + 1) c l k → pair_holds (t + 1) c l k p ≡ true
always_holds t c l k p u h = (pair_exactly t c l k p).1 (u, inl h)

-- ---- Where it is the formula of 01

unreduced : (t a : ℕ) (z : ℤ) → pos 0 ≤ℤ z → z <ℤ pos (t + 1) → lt_z (pos a) z ≡ ltb a (modulo z (t + 1))
unfolding modulo
unreduced t a (pos n) h k = rw (mod-eq_of_lt (ltb→lt n (t + 1) k.lt))
unreduced t a (negsuc n) h k = absurd h.le

-- From 0 to SF − 1 the length is that of the moved pair, and 01's formula of the moved pair tells it.
pub within_a_turn : (t : ℕ) (c : ℤ) (l : Limit) (k : ℕ) (p : Position) → pos 0 ≤ℤ pair_length (t + 1) c l k → pair_length (t + 1) c l k <ℤ pos (t + 1) →
    pair_holds (t + 1) c l k p ≡ (pair_used l k && holds (t + 1) (moved_on (t + 1) c l k) (moved_off (t + 1) c l k) (count_at p))
unfolding holds pair_length
within_a_turn t c l k p h m =
    pair_signed t c l k p
    ∙ rw (moved_apart t (advance_value l.onadvance) (advance_value l.offadvance) c (on_setpoint l k) (off_setpoint l k))
    (ap (λ (b : Bool). pair_used l k && b) (unreduced t (ahead (t + 1) (moved_on (t + 1) c l k) (count_at p)) _ h m))

-- With equal shifts the length is that of the pair as programmed.
pub equal_length : (t : ℕ) (c : ℤ) (l : Limit) (k : ℕ) → on_shift (t + 1) c l ≡ off_shift (t + 1) c l → pair_length (t + 1) c l k ≡ pos (ahead (t + 1) (on_setpoint l k) (off_setpoint l k))
unfolding pair_length
equal_length t c l k e =
    ap (λ (s : ℤ). pos (ahead (t + 1) (on_setpoint l k) (off_setpoint l k)) +ℤ s -ℤ off_shift (t + 1) c l) e
    ∙ +ℤ-neg_ℤ_cancel (pos (ahead (t + 1) (on_setpoint l k) (off_setpoint l k))) (off_shift (t + 1) c l)

-- So with equal shifts it is 01's formula at every position,
pub equal_shifts : (t : ℕ) (c : ℤ) (l : Limit) (k : ℕ) (p : Position) → on_shift (t + 1) c l ≡ off_shift (t + 1) c l →
    pair_holds (t + 1) c l k p ≡ (pair_used l k && holds (t + 1) (moved_on (t + 1) c l k) (moved_off (t + 1) c l k) (count_at p))
equal_shifts t c l k p e =
    let z = equal_length t c l k e in
    within_a_turn t c l k p
    (rw z (le_z_yes (le→leb 0 (ahead (t + 1) (on_setpoint l k) (off_setpoint l k)) (omega arith))))
    (rw z (lt_z_yes (lt→ltb _ (t + 1) (ahead_below t (on_setpoint l k) (off_setpoint l k)))))

-- and with equal advances at every c.
pub equal_advances : (t : ℕ) (c : ℤ) (l : Limit) (k : ℕ) (p : Position) → l.onadvance ≡ l.offadvance →
    pair_holds (t + 1) c l k p ≡ (pair_used l k && holds (t + 1) (moved_on (t + 1) c l k) (moved_off (t + 1) c l k) (count_at p))
equal_advances t c l k p e = equal_shifts t c l k p (ap (λ (a : Advance). advance_shift (t + 1) (advance_value a) c) e)

-- ---- At how many positions

-- a test that every number of a range passes, or fails
pub count_each : (n i : ℕ) (f : ℕ → Bool) (b : Bool) → ((k : ℕ) → i ≤ k → k < i + n → f k ≡ b) → count_of n i f ≡ cond b n 0
unfolding count_of
count_each zero i f true h = refl
count_each zero i f false h = refl
count_each (suc n) i f true h = rw (h i (omega arith) (omega arith), count_each n (i + 1) f true (λ k a b. h k (omega arith) (omega arith))) (omega arith)
count_each (suc n) i f false h = rw (h i (omega arith) (omega arith), count_each n (i + 1) f false (λ k a b. h k (omega arith) (omega arith)))

-- the numbers of two ranges in a row
pub count_split : (m n i : ℕ) (f : ℕ → Bool) → count_of (m + n) i f ≡ count_of m i f + count_of n (i + m) f
unfolding count_of
count_split zero n i f =
    let e : i + 0 ≡ i = omega arith in
    let z : 0 + n ≡ n = omega arith in
    rw (e, z) (omega arith)
count_split (suc m) n i f =
    let e : i + 1 + m ≡ i + suc m = omega arith in
    let z : suc m + n ≡ suc (m + n) = omega arith in
    rw (z, count_split m n (i + 1) f, e) (omega arith)

-- three ranges, of which the middle one passes where the others fail, or the other way round
count_three : (x y z n : ℕ) (f : ℕ → Bool) (middle outer : Bool) → x + y + z ≡ n → ((k : ℕ) → k < x → f k ≡ outer) → ((k : ℕ) → x ≤ k → k < x + y → f k ≡ middle)
    → ((k : ℕ) → x + y ≤ k → k < n → f k ≡ outer) → count_of n 0 f ≡ cond outer x 0 + cond middle y 0 + cond outer z 0
count_three x y z n f middle outer e a b c =
    rw (← e)
    (count_split (x + y) z 0 f
    ∙ rw (
      count_split x y 0 f,
      count_each x 0 f outer (λ k p q. a k (omega arith)),
      count_each y (0 + x) f middle (λ k p q. b k (omega arith) (omega arith)),
      count_each z (0 + (x + y)) f outer (λ k p q. c k (omega arith) (omega arith)),
    ))

-- Of the SF positions n are less than n counts ahead of a count: they follow it, in one stretch or round the turn.
so_many : (t n start : ℕ) → start ≤ t → n ≤ t + 1 → count_of (t + 1) 0 (λ p. ltb (ahead (t + 1) start p) n) ≡ n
so_many t n start s h =
    elim (cases_lt (t + 1) (start + n)) [
      | inl r ↦
          count_three (start + n - (t + 1)) (t + 1 - n) (t + 1 - start) (t + 1) _ false true (omega arith)
          (λ k a. rw (ahead_round t start k (omega arith) s) (lt-ltb _ n (omega arith)))
          (λ k a b. rw (ahead_round t start k (omega arith) s) (le-ltb _ n (omega arith)))
          (λ k a b. rw (ahead_up t start k (omega arith) (omega arith)) (lt-ltb _ n (omega arith)))
          ∙ omega arith
      | inr r ↦
          count_three start n (t + 1 - (start + n)) (t + 1) _ true false (omega arith)
          (λ k a. rw (ahead_round t start k a s) (le-ltb _ n (omega arith)))
          (λ k a b. rw (ahead_up t start k a (omega arith)) (lt-ltb _ n (omega arith)))
          (λ k a b. rw (ahead_up t start k (omega arith) (omega arith)) (le-ltb _ n (omega arith)))
          ∙ omega arith
    ]

moved_below : (t : ℕ) (a c : ℤ) (x : ℕ) → moved (t + 1) a c x ≤ t
unfolding moved
moved_below t a c x = omega (arith, modulo_below (pos x -ℤ advance_shift (t + 1) a c) t)

-- A used pair whose length is n, from 0 to SF, holds at exactly n of the SF positions, of the machine or of a group.
pub held_counts : (t : ℕ) (c : ℤ) (l : Limit) (k n : ℕ) (at : ℕ → Position) → ((p : ℕ) → count_at (at p) ≡ p) → pair_used l k ≡ true → pair_length (t + 1) c l k ≡ pos n → n ≤ t + 1
    → count_of (t + 1) 0 (λ p. pair_holds (t + 1) c l k (at p)) ≡ n
held_counts t c l k n at place u e h =
    let same : (λ (p : ℕ). pair_holds (t + 1) c l k (at p)) ≡ (λ (p : ℕ). ltb (ahead (t + 1) (moved_on (t + 1) c l k) p) n) =
    fun_ext (λ p. pair_signed t c l k (at p) ∙ rw (u, place p, e)) in
    ap (λ (f : ℕ → Bool). count_of (t + 1) 0 f) same
    ∙ so_many t n (moved_on (t + 1) c l k) (moved_below t (advance_value l.onadvance) c (on_setpoint l k)) h
