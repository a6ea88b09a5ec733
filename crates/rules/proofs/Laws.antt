-- Laws that more than one proof cites: the difference modulo SF as sums and remainders of naturals, and words stored into a file.
-- Assumes nothing.
use Prim.Native.Nat.{ℕ, zero, suc, ◌+◌, ◌-◌, ◌*◌, ◌/◌, ◌%◌, ◌≤◌, ◌<◌}
use mathlib.Core.Path.{◌≡◌, refl, sym, ap, ◌∙◌}
use mathlib.Core.Bool.{Bool, true, false}
use mathlib.Core.List.{List, [], ◌∷◌}
use mathlib.Core.Logic.{inl, inr}
use native.Mathlib.Nat.{mod-eq_of_lt, add-mod_right, add-mul-mod_self_right, div-add-mod'}
use native.Mathlib.Omega.{arith}
use borrow.Author.Tests.{le-ltb, lt-ltb}
use lib.ListN.{length, get_or, set, length-set}
use lib.Seq.{get_or-set_same, get_or-set_other}
use lib.IntN.{ℤ, pos, negsuc, neg_ℤ, nat_abs, sub_ℕ, ◌+ℤ◌, ◌-ℤ◌, +ℤ_assoc, +ℤ_comm, neg_ℤ-+ℤ}
use Rattle.std.proofs.lemmas.Nat.{mod_below}
use Rattle.std.proofs.lemmas.Bool.{cases_lt, or_right}
use Rattle.rules.specs.Words.{modulo, stored_at, some_of}
use Rattle.rules.specs.Counts.{ahead}

-- a − b of two naturals
pub minus : (a b : ℕ) → pos a -ℤ pos b ≡ sub_ℕ a b
minus a zero = rw (le-ltb a 0 (omega arith)) (ap pos (omega arith))
minus a (suc b) = refl

-- how far two counts are apart, as the library's `abs_diff` reckons it
pub apart_is : (a b : ℕ) → (a - b) + (b - a) ≡ nat_abs (sub_ℕ a b)
apart_is a b = elim (cases_lt a b) [ inl l ↦ rw (lt-ltb a b l) (omega arith) | inr l ↦ rw (le-ltb a b l) (omega arith) ]

exchange : (a b c d : ℤ) → (a +ℤ b) +ℤ (c +ℤ d) ≡ (a +ℤ c) +ℤ (b +ℤ d)
exchange a b c d =
    +ℤ_assoc a b (c +ℤ d)
    ∙ ap (λ (z : ℤ). a +ℤ z) (sym (+ℤ_assoc b c d) ∙ ap (λ (z : ℤ). z +ℤ d) (+ℤ_comm b c) ∙ +ℤ_assoc c b d)
    ∙ sym (+ℤ_assoc a c (b +ℤ d))

-- (a − b) + (c − d) = (a + c) − (b + d)
pub add_differences : (a b c d : ℕ) → (pos a -ℤ pos b) +ℤ (pos c -ℤ pos d) ≡ pos (a + c) -ℤ pos (b + d)
add_differences a b c d =
    exchange (pos a) (neg_ℤ (pos b)) (pos c) (neg_ℤ (pos d)) ∙ ap (λ (z : ℤ). pos (a + c) +ℤ z) (sym (neg_ℤ-+ℤ (pos b) (pos d)))

-- (a − b) + c
difference_add : (a b c : ℕ) → sub_ℕ a b +ℤ pos c ≡ sub_ℕ (a + c) b
difference_add a b c =
    let e : c + 0 ≡ c = omega arith in
    let f : b + 0 ≡ b = omega arith in
    rw (← minus a b, ← minus (a + c) b) (rw (e, f) at (add_differences a b c 0))

pub modulo_below : (z : ℤ) (t : ℕ) → modulo z (t + 1) < t + 1
unfolding modulo
modulo_below (pos n) t = mod_below n (t + 1) (omega arith)
modulo_below (negsuc n) t = omega arith

-- (a − b) mod n: to a add what b lacks to the next multiple of n
pub modulo_natural : (a b t : ℕ) → modulo (sub_ℕ a b) (t + 1) ≡ (a + (t + 1 - b % (t + 1))) % (t + 1)
unfolding modulo
modulo_natural a b t = elim (cases_lt a b) [
  | inl l ↦
      let k : ℕ = b - suc a in
      let r : ℕ = t + 1 - 1 - k % (t + 1) in
      let e : a + (t + 1 - b % (t + 1)) + k / (t + 1) * (t + 1) ≡ r + b / (t + 1) * (t + 1) =
      omega (arith, div-add-mod' k (t + 1), div-add-mod' b (t + 1), mod_below k (t + 1) (omega arith), mod_below b (t + 1) (omega arith)) in
      rw (lt-ltb a b l)
      (sym (mod-eq_of_lt (omega arith))
      ∙ sym (add-mul-mod_self_right r (b / (t + 1)) (t + 1))
      ∙ ap (λ (x : ℕ). x % (t + 1)) (sym e)
      ∙ add-mul-mod_self_right (a + (t + 1 - b % (t + 1))) (k / (t + 1)) (t + 1))
  | inr l ↦
      let e : a + (t + 1 - b % (t + 1)) ≡ a - b + 1 * (t + 1) + b / (t + 1) * (t + 1) =
      omega (arith, div-add-mod' b (t + 1), mod_below b (t + 1) (omega arith)) in
      rw (le-ltb a b l, e) (sym (add-mul-mod_self_right (a - b + 1 * (t + 1)) (b / (t + 1)) (t + 1) ∙ add-mul-mod_self_right (a - b) 1 (t + 1)))
]

-- ((q − last + 512) mod 1024) of a movement
pub biased_natural : (last q : ℕ) → modulo (sub_ℕ q last +ℤ pos 512) 1024 ≡ (q + (1024 - last % 1024) + 512) % 1024
biased_natural last q = rw (difference_add q last 512) (modulo_natural (q + 512) last 1023 ∙ omega arith)

pub ahead_natural : (t from to : ℕ) → ahead (t + 1) from to ≡ (to + (t + 1 - from % (t + 1))) % (t + 1)
unfolding ahead
ahead_natural t from to = modulo_natural to from t

pub ahead_below : (t from to : ℕ) → ahead (t + 1) from to < t + 1
unfolding ahead
ahead_below t from to = modulo_below (sub_ℕ to from) t

-- where both are in range one comparison gives it, with no division
pub ahead_up : (t from to : ℕ) → from ≤ to → to ≤ t → ahead (t + 1) from to ≡ to - from
ahead_up t from to h k =
    ahead_natural t from to
    ∙ (let e : from % (t + 1) ≡ from = mod-eq_of_lt (omega arith) in
    let s : to + (t + 1 - from) ≡ to - from + (t + 1) = omega arith in
    rw (e, s) (add-mod_right (to - from) (t + 1) ∙ mod-eq_of_lt (omega arith)))

pub ahead_round : (t from to : ℕ) → to < from → from ≤ t → ahead (t + 1) from to ≡ to + (t + 1 - from)
ahead_round t from to h k =
    ahead_natural t from to
    ∙ (let e : from % (t + 1) ≡ from = mod-eq_of_lt (omega arith) in rw e (mod-eq_of_lt (omega arith)))

-- words stored into a file leave it as long as it was
pub length_stored : (at : ℕ) (ws file : List ℕ) → length (stored_at at ws file) ≡ length file
unfolding stored_at
length_stored at [] file = refl
length_stored at (w ∷ ws) file = length_stored (at + 1) ws (set file at w) ∙ length-set file at w

-- and change only their own places
pub stored_outside : (at : ℕ) (ws file : List ℕ) (k : ℕ) → ((at ≤ k) × (k < at + length ws) → ⊥) → get_or (stored_at at ws file) k 0 ≡ get_or file k 0
unfolding stored_at
stored_outside at [] file k h = refl
stored_outside at (w ∷ ws) file k h =
    stored_outside (at + 1) ws (set file at w) k (λ p. h (omega arith, omega arith)) ∙ get_or-set_other file at k w 0 (λ e. h (omega arith, omega arith))

-- word k of them is at their place + k
pub stored_word : (at : ℕ) (ws file : List ℕ) (k : ℕ) → k < length ws → at + k < length file → get_or (stored_at at ws file) (at + k) 0 ≡ get_or ws k 0
unfolding stored_at
stored_word at [] file k h f = absurd (omega arith)
stored_word at (w ∷ ws) file zero h f =
    let e : at + 0 ≡ at = omega arith in
    rw e (stored_outside (at + 1) ws (set file at w) at (λ p. omega arith) ∙ get_or-set_same file at w 0 (omega arith))
stored_word at (w ∷ ws) file (suc k) h f =
    let e : at + suc k ≡ at + 1 + k = omega arith in
    rw e (stored_word (at + 1) ws (set file at w) k (omega arith) (omega (arith, length-set file at w)))

-- `some_of` where no number has f, and where one has it
pub some_none : (n i : ℕ) (f : ℕ → Bool) → ((k : ℕ) → i ≤ k → k < i + n → f k ≡ false) → some_of n i f ≡ false
unfolding some_of
some_none zero i f h = refl
some_none (suc n) i f h =
    rw (h i (omega arith) (omega arith)) (some_none n (i + 1) f (λ k a b. h k (omega arith) (omega arith)))

pub some_one : (n i k : ℕ) (f : ℕ → Bool) → k < n → f (i + k) ≡ true → some_of n i f ≡ true
unfolding some_of
some_one zero i k f b h = absurd (omega arith)
some_one (suc n) i zero f b h =
    let e : i + 0 ≡ i = omega arith in
    rw (rw e at h)
some_one (suc n) i (suc k) f b h =
    let e : i + suc k ≡ i + 1 + k = omega arith in
    or_right (f i) _ (some_one n (i + 1) k f (omega arith) (rw e at h))
