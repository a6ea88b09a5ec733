-- The card's windows: its biased sums in 32 bits are 01's signed sums of movements, and never run over.
-- Assumes nothing.
use Prim.Native.Nat.{ℕ, suc, ◌+◌, ◌-◌, ◌*◌, ◌%◌, ◌^◌, ◌≤◌, ◌<◌}
use mathlib.Core.Path.{◌≡◌, refl, sym, ap, ◌∙◌}
use mathlib.Core.Bool.{Bool, true, false, cond}
use mathlib.Core.List.{List, [], ◌∷◌}
use mathlib.Core.Logic.{inl, inr}
use native.Mathlib.Nat.{zero-mod, suc-mod, mod-lt, mod_self, mod-eq_of_lt, mod-le}
use native.Mathlib.Omega.{arith}
use lib.ListN.{length, take, drop}
use lib.Dec.{ltb, eqb, lit<, lit≤}
use lib.IntN.{ℤ, pos, nat_abs, sub_ℕ, ◌+ℤ◌, ◌-ℤ◌, -ℤ-+ℤ_cancel}
use borrow.Author.Tests.{leb-true, leb-false, lt-ltb, le-ltb, eq-eqb, ne_eqb}
use Rattle.std.proofs.lemmas.Bool.{cases_Bool, cases_lt}
use Rattle.rules.specs.declared.Setup.{Setup}
use Rattle.rules.specs.declared.Last.{Last}
use Rattle.rules.specs.declared.Window.{Window}
use Rattle.rules.specs.declared.Speed.{Speed}
use Rattle.rules.specs.Words.{modulo, round_half_up}
use Rattle.rules.specs.Motion.{movement, window_steps, window_time, short_steps, tenths_of, unbiased, c_value, biased_c}
use Rattle.rules.specs.Card.{biased_movement, updates, window_sum, window_after, c_after, tenths_after, speed_after, fresh_window, fresh_speed}
use Rattle.rules.specs.History.{movement_from, movements, total, window_total, c_of, big_c_of, tenths_at, update_at}
use Rattle.rules.proofs.Laws.{modulo_below, minus, add_differences}
use Rattle.rules.proofs.Tenths.{magnitude_within, tenths_within}

-- what a number stands for is held by that number
pub held_c : (n : ℕ) → biased_c (c_value n) ≡ n
held_c n = rw (← minus n (512 * short_steps)) (ap nat_abs (-ℤ-+ℤ_cancel (pos n) (pos (512 * short_steps))))

-- ---- Movements

-- q of the last step, as the card keeps it
pub last_of : List ℕ → Last
last_of [] = record { stepped = false; at = 0 }
last_of (q ∷ qs) = record { stepped = true; at = q }

pub movement_is : (qs : List ℕ) (q : ℕ) → movement_from qs q ≡ pos (biased_movement (last_of qs) q) -ℤ pos 512
unfolding movement_from last_of biased_movement movement
movement_is [] q = refl
movement_is (last ∷ qs) q = refl

pub biased_below : (last : Last) (q : ℕ) → biased_movement last q ≤ 1023
unfolding biased_movement
biased_below last q = go last.stepped
  where
    go : (b : Bool) → cond b (modulo (sub_ℕ q last.at +ℤ pos 512) 1024) 512 ≤ 1023
    go true = let b = modulo_below (sub_ℕ q last.at +ℤ pos 512) 1023 in omega arith
    go false = lit≤ tt

pub length_movements : (qs : List ℕ) → length (movements qs) ≡ length qs
unfolding movements
length_movements [] = refl
length_movements (q ∷ qs) = ap suc (length_movements qs)

-- ---- A window

pub record WindowLink (w : ℕ) (h : List ℤ) (x : Window) : Type 0 where
  pub steps : x.steps ≡ length h % w
  pub sum : pos x.sum -ℤ pos (512 * x.steps) ≡ total (take (length h % w) h)
  pub within : x.sum ≤ 1023 * x.steps

module _ (w : ℕ) (some : 0 < w) (small : w ≤ 2520) (h : List ℤ) (x : Window) (k : WindowLink w h x) where
  pub steps_below : x.steps < w
  steps_below = rw k.steps (mod-lt (length h) some)

  module _ (m : ℕ) (b : m ≤ 1023) where
    -- the sum with one movement more does not run over
    pub sum_fits : x.sum + m < 2 ^ 32
    sum_fits = let s = steps_below in let i = k.within in omega arith

    sum_is : window_sum x m ≡ x.sum + m
    unfolding window_sum
    sum_is = mod-eq_of_lt sum_fits

    -- the movement, and the past with it
    abbrev z : ℤ
    z = pos m -ℤ pos 512

    wraps : suc (length h % w) ≡ w → suc (length h) % w ≡ 0
    wraps e = suc-mod (length h) w ∙ ap (λ (n : ℕ). n % w) e ∙ mod_self w

    goes : (suc (length h % w) ≡ w → ⊥) → suc (length h) % w ≡ suc (length h % w)
    goes f = let b = mod-lt (length h) some in suc-mod (length h) w ∙ mod-eq_of_lt (omega (arith, f))

    -- both are below the window, or neither
    early : (suc (length h % w) ≡ w → ⊥) → ltb (suc (length h)) w ≡ ltb (length h) w
    early f =
        elim (cases_lt (length h) w) [
          | inl l ↦
              let g : suc (length h) ≡ w → ⊥ = λ d. f (ap suc (mod-eq_of_lt l) ∙ d) in
              rw (lt-ltb (length h) w l, lt-ltb (suc (length h)) w (omega (arith, g)))
          | inr l ↦ rw (le-ltb (length h) w l, le-ltb (suc (length h)) w (omega arith))
        ]

    -- the sum of the window so far and this movement
    total_is : pos (x.sum + m) -ℤ pos (512 * suc x.steps) ≡ z +ℤ total (take (length h % w) h)
    total_is =
        let e : x.sum + m ≡ m + x.sum = omega arith in
        let f : 512 * suc x.steps ≡ 512 + 512 * x.steps = omega arith in
        rw (e, f) (sym (add_differences m 512 x.sum (512 * x.steps)) ∙ ap (λ (y : ℤ). z +ℤ y) k.sum)

    last : updates w x ≡ true → suc (length h % w) ≡ w
    unfolding updates
    last e = let l = leb-true (w - 1) x.steps e in let s = steps_below in sym (ap suc k.steps) ∙ (omega arith)

    inner : updates w x ≡ false → suc (length h % w) ≡ w → ⊥
    unfolding updates
    inner e d = let l = leb-false (w - 1) x.steps e in let s = k.steps in omega arith

    pub update_is : updates w x ≡ eqb (suc (length h) % w) 0
    update_is =
        elim (cases_Bool (updates w x)) [
          | inl e ↦ e ∙ sym (eq-eqb (suc (length h) % w) 0 (wraps (last e)))
          | inr e ↦ e ∙ sym (ne_eqb (suc (length h) % w) 0 (λ d. let g = goes (inner e) in omega arith))
        ]

    pub window_step : WindowLink w (z ∷ h) (window_after w x m)
    unfolding window_after
    window_step =
        elim (cases_Bool (updates w x)) [
          | inl e ↦ rw e (record { steps = sym (wraps (last e)); sum = rw (wraps (last e)); within = omega arith })
          | inr e ↦
              let g = goes (inner e) in
              let s : x.steps + 1 ≡ suc x.steps = omega arith in
              rw e (record {
                steps = rw (g, s) (ap suc k.steps);
                sum = rw (g, sum_is, s) total_is;
                within = rw sum_is (let i = k.within in omega arith);
              })
        ]

    -- the number of a full window is at most 1023 for each step
    pub update_within : updates w x ≡ true → window_sum x m ≤ 1023 * w
    update_within e = let l = last e in let i = k.within in let s = k.steps in rw sum_is (omega arith)

    -- what an update gives, and what stands between updates
    pub value_is : (v : ℤ) → v ≡ window_total w h → cond (updates w x) (sub_ℕ (window_sum x m) (512 * w)) v ≡ window_total w (z ∷ h)
    unfolding window_total
    value_is v i =
        elim (cases_Bool (updates w x)) [
          | inl e ↦
              let E = last e in
              let l = mod-le (length h) w in
              let s : suc x.steps ≡ w = ap suc k.steps ∙ E in
              rw (e, le-ltb (suc (length h)) w (omega arith), wraps E, sum_is, ← minus (x.sum + m) (512 * w))
              ((rw s at total_is) ∙ ap (λ (n : ℕ). total (take n (z ∷ h))) E)
          | inr e ↦ rw (e, goes (inner e), early (inner e)) i
        ]

pub window_fresh : (w : ℕ) → WindowLink w [] fresh_window
window_fresh w = record { steps = sym (zero-mod w); sum = rw (zero-mod w); within = lit≤ tt }

-- ---- The speed

pub record SpeedLink (fast : Bool) (x : Speed) (qs : List ℕ) : Type 0 where
  pub last : x.last ≡ last_of qs
  pub short : WindowLink short_steps (movements qs) x.short
  pub long : WindowLink (window_steps fast) (movements qs) x.long
  pub c : c_value x.c ≡ c_of qs
  pub tenths : x.tenths ≡ tenths_at fast qs

short_some : 0 < short_steps
short_some = lit< tt

short_small : short_steps ≤ 2520
short_small = lit≤ tt

pub long_some : (fast : Bool) → 0 < window_steps fast
unfolding window_steps
long_some true = lit< tt
long_some false = lit< tt

pub long_small : (fast : Bool) → window_steps fast ≤ 2520
unfolding window_steps
long_small true = lit≤ tt
long_small false = lit≤ tt

module _ (u : Setup) (x : Speed) (qs : List ℕ) (k : SpeedLink u.fast x qs) (q : ℕ) where
  abbrev m : ℕ
  m = biased_movement x.last q

  m_is : pos m -ℤ pos 512 ≡ movement_from qs q
  m_is = rw k.last (sym (movement_is qs q))

  abbrev b : m ≤ 1023
  b = biased_below x.last q

  c_is : c_value (c_after x m) ≡ c_of (q ∷ qs)
  unfolding c_after c_of movements
  c_is =
      go (updates short_steps x.short)
      ∙ value_is short_steps short_some short_small (movements qs) x.short k.short m b (c_value x.c) (unfold c_of in k.c)
      ∙ ap (λ (z : ℤ). window_total short_steps (z ∷ movements qs)) m_is
    where
      go : (u : Bool) → c_value (cond u (window_sum x.short m) x.c) ≡ cond u (unbiased short_steps (window_sum x.short m)) (c_value x.c)
      go true = refl
      go false = refl

  pub c_held : c_after x m ≡ biased_c (c_of (q ∷ qs))
  c_held = sym (held_c (c_after x m)) ∙ ap biased_c c_is

  -- the tenths of an update are far below 32 bits
  fits : updates (window_steps u.fast) x.long ≡ true → tenths_of u.fast (unbiased (window_steps u.fast) (window_sum x.long m)) % 2 ^ 32 ≡ tenths_of u.fast (unbiased (window_steps u.fast) (window_sum x.long m))
  fits e =
      let w : ℕ = window_steps u.fast in
      let n : ℕ = window_sum x.long m in
      let l : n ≤ 1023 * w = update_within w (long_some u.fast) (long_small u.fast) (movements qs) x.long k.long m b e in
      mod-eq_of_lt (omega (arith, tenths_within u.fast (unbiased w n) (magnitude_within w n l)))

  pub tenths_are : tenths_after u.fast x m ≡ tenths_at u.fast (q ∷ qs)
  unfolding tenths_after tenths_at big_c_of movements
  tenths_are =
      go (updates (window_steps u.fast) x.long) refl
      ∙ ap (tenths_of u.fast) (value_is (window_steps u.fast) (long_some u.fast) (long_small u.fast) (movements qs) x.long k.long m b _ refl)
      ∙ ap (λ (z : ℤ). tenths_of u.fast (window_total (window_steps u.fast) (z ∷ movements qs))) m_is
    where
      go : (c : Bool) → updates (window_steps u.fast) x.long ≡ c
          → cond c (tenths_of u.fast (unbiased (window_steps u.fast) (window_sum x.long m)) % 2 ^ 32) x.tenths
          ≡ tenths_of u.fast (cond c (unbiased (window_steps u.fast) (window_sum x.long m)) (window_total (window_steps u.fast) (movements qs)))
      go true e = fits e
      go false e = unfold tenths_at big_c_of in k.tenths

  -- C is made in an update and not kept: the number that the step makes stands for it
  pub big_c_is : updates (window_steps u.fast) x.long ≡ true → unbiased (window_steps u.fast) (window_sum x.long m) ≡ big_c_of u.fast (q ∷ qs)
  unfolding big_c_of movements
  big_c_is e =
      rw (← m_is)
      (rw e at (value_is (window_steps u.fast) (long_some u.fast) (long_small u.fast) (movements qs) x.long k.long m b _ refl))

  pub updates_is : updates (window_steps u.fast) x.long ≡ update_at u.fast (q ∷ qs)
  unfolding update_at
  updates_is =
      rw (← length_movements qs)
      (update_is (window_steps u.fast) (long_some u.fast) (long_small u.fast) (movements qs) x.long k.long m b)

  pub speed_step : SpeedLink u.fast (speed_after u x q) (q ∷ qs)
  unfolding speed_after last_of movements
  speed_step = record {
    last = refl;
    short = rw (← m_is) (window_step short_steps short_some short_small (movements qs) x.short k.short m b);
    long = rw (← m_is) (window_step (window_steps u.fast) (long_some u.fast) (long_small u.fast) (movements qs) x.long k.long m b);
    c = c_is;
    tenths = tenths_are;
  }

pub speed_fresh : (fast : Bool) → SpeedLink fast fresh_speed []
unfolding last_of movements c_of big_c_of tenths_at window_total
speed_fresh fast = record {
  last = refl;
  short = window_fresh short_steps;
  long = window_fresh (window_steps fast);
  c = refl;
  tenths = go fast;
}
  where
    go : (f : Bool) → 0 ≡ tenths_of f (cond (ltb 0 (window_steps f)) (pos 0) (total (take (window_steps f) (drop (0 % window_steps f) []))))
    go true = unfold window_steps tenths_of round_half_up window_time in refl
    go false = unfold window_steps tenths_of round_half_up window_time in refl
