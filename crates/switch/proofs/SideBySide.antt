-- The pairs side by side: what the vectors hold, lane by lane, and that in range each lane tests what a pair's test says.
-- Assumes nothing.
use Prim.Native.Nat.{ℕ, zero, suc, min, ◌+◌, ◌-◌, ◌*◌, ◌/◌, ◌%◌, ◌≤◌, ◌<◌}
use mathlib.Core.Bool.{Bool, true, false, cond, not, ◌&&◌, ◌||◌}
use mathlib.Core.List.{List}
use mathlib.Core.Path.{◌≡◌, refl, sym, ap, ◌∙◌}
use native.Mathlib.Nat.{zero-add, mod-eq_of_lt}
use Rattle.std.proofs.Math.Bool.{and_assoc, and-true}
use native.Mathlib.Omega.{arith}
use borrow.Author.Tests.{ltb-true, ltb-false, leb-true, leb-false, eqb-true, eqb-false, le-leb, lt-leb, eq-eqb, ne_eqb, not-false, clash}
use lib.Dec.{ltb, leb, eqb}
use lib.ListN.{length, get_or}
use lib.Lanes.{Each1, mask_l, fold_l, top}
use mir.Syntax.{w16}
use mir.Val.{Fits, bool_byte}
use lib.Bits.{bit_and, bit_or, bit_xor, and_block, xor_block, xor_self, and_zero_r}
use lib.Count.{ones, ones_step}
use Rattle.std.proofs.lemmas.Simd.{mask_l-mod, Each1-get_or}
use Rattle.std.proofs.lemmas.Nat.{le_or_l, le_or_r, and_comm, and_mask}
use mathlib.Core.Logic.{inl, inr}
use Rattle.std.proofs.lemmas.Bool.{and_parts, cases_eq}
use Rattle.rules.specs.Words.{bit, digit, table, packed, some_of, each_of, count_of, count_up_to}
use Rattle.rules.specs.Counts.{used_pair}
use Rattle.rules.specs.Counts.{ahead}
use Rattle.rules.proofs.Laws.{ahead_up, ahead_round, ahead_below}
use Rattle.rules.proofs.Packing.{digit_le, length_table, packed_same, packed_bit}
use Rattle.word.proofs.Laws.{packed_below, some_packed, ones_packed, and_packed}
use Rattle.switch.specs.Parts.{less, lane_holds, pair_at, pair_of, used_of}
use Rattle.switch.proofs.Pairs.{agree}

-- ---- Eight lanes as a table of what they hold

mask_packed : (n i : ℕ) (f : ℕ → Bool) → mask_l (table n i f) ≡ packed n i f
unfolding table packed
mask_packed zero i f = refl
mask_packed (suc n) i f = rw (mask_packed n (i + 1) f) (omega arith)

-- the bits of lanes that say what f says
pub marked : (lane f : ℕ → Bool) → ((k : ℕ) → lane k ≡ f k) → mask_l (table 8 0 lane) % 18446744073709551616 ≡ packed 8 0 f
marked lane f h = mask_l-mod (table 8 0 lane) 64 (rw (length_table 8 0 lane) (omega arith)) ∙ mask_packed 8 0 lane ∙ packed_same 8 0 lane f (λ k _ _. h k)

-- ---- The used pairs

-- what a comparison's lane shows
abbrev pub lane_of : Bool → Bool
lane_of t = top 15 (cond t 65535 0)

shown : (t : Bool) → lane_of t ≡ t
shown true = refl
shown false = refl

both_none : (a b : ℕ) → eqb (bit_or a b) 0 ≡ (eqb a 0 && eqb b 0)
both_none a b = go (eqb a 0) (eqb b 0) refl refl
  where
    go : (x y : Bool) → eqb a 0 ≡ x → eqb b 0 ≡ y → eqb (bit_or a b) 0 ≡ (x && y)
    go true true d e = rw (eqb-true a 0 d, eqb-true b 0 e) refl
    go true false d e = ne_eqb (bit_or a b) 0 (λ z. eqb-false b 0 e (omega (arith, z, le_or_r a b)))
    go false y d e = ne_eqb (bit_or a b) 0 (λ z. eqb-false a 0 d (omega (arith, z, le_or_l a b)))

pub or_used : (a b : ℕ) → lane_of (not (eqb (bit_or a b) 0)) ≡ used_pair a b
or_used a b = shown (not (eqb (bit_or a b) 0)) ∙ ap not (both_none a b)

-- the pairs that hold if they are used
abbrev pub sums : (lane : Bool → Bool) → ℕ → ℕ → ℕ → ℕ → ℕ → Bool
sums lane top from spread on off =
    let sf = (top + 1) % 65536 in
    let at = (less from on + cond (lane (leb on from)) 0 sf) % 65536 in
    let length = (less off on + cond (lane (leb on off)) 0 sf) % 65536 in
    lane (ltb (less ((at + sf) % 65536) length) spread)

pub sums_hold : (t from spread on off : ℕ) → sums lane_of t from spread on off ≡ lane_holds t from spread on off
unfolding lane_holds
sums_hold t from spread on off = rw (shown (leb on from), shown (leb on off)) (shown _)

-- ---- All in range

-- numbers of which none is over 0
or_none : (n i acc : ℕ) (f : ℕ → ℕ) → eqb (fold_l bit_or acc (table n i f)) 0 ≡ (eqb acc 0 && each_of n i (λ k. eqb (f k) 0))
unfolding table each_of
or_none zero i acc f = sym (and-true (eqb acc 0))
or_none (suc n) i acc f = or_none n (i + 1) (bit_or acc (f i)) f ∙ rw (both_none acc (f i)) (and_assoc (eqb acc 0) (eqb (f i) 0) _)

each_same : (n i : ℕ) (f g : ℕ → Bool) → ((k : ℕ) → i ≤ k → k < i + n → f k ≡ g k) → each_of n i f ≡ each_of n i g
unfolding each_of
each_same zero i f g h = refl
each_same (suc n) i f g h = rw (h i (omega arith) (omega arith), each_same n (i + 1) f g (λ k a b. h k (omega arith) (omega arith)))

-- the larger of two, and how far a number is over another
abbrev pub larger : (Bool → Bool) → ℕ → ℕ → ℕ
larger lane a b = cond (lane (ltb a b)) b a

abbrev pub over : (Bool → Bool) → ℕ → ℕ → ℕ
over lane a t = less (cond (lane (ltb a t)) t a) t

larger_in : (a b t : ℕ) → leb (larger (λ x. x) a b) t ≡ (leb a t && leb b t)
larger_in a b t = go (ltb a b) (leb a t) (leb b t) refl refl refl
  where
    go : (x y z : Bool) → ltb a b ≡ x → leb a t ≡ y → leb b t ≡ z → leb (cond x b a) t ≡ (y && z)
    go true true z d e g = g
    go true false z d e g = lt-leb b t (omega (arith, ltb-true a b d, leb-false a t e))
    go false true z d e g = e ∙ sym (sym g ∙ le-leb b t (omega (arith, ltb-false a b d, leb-true a t e)))
    go false false z d e g = e

larger_fits : (a b : ℕ) → a ≤ 65535 → b ≤ 65535 → larger (λ x. x) a b ≤ 65535
larger_fits a b h l = go (ltb a b)
  where
    go : (x : Bool) → cond x b a ≤ 65535
    go true = l
    go false = h

not_over : (a t : ℕ) → a ≤ 65535 → t ≤ 65535 → eqb (over (λ x. x) a t) 0 ≡ leb a t
not_over a t h l = go (ltb a t) refl
  where
    go : (x : Bool) → ltb a t ≡ x → eqb (less (cond x t a) t) 0 ≡ leb a t
    go true e = eq-eqb (less t t) 0 (omega arith) ∙ sym (le-leb a t (omega (arith, ltb-true a t e)))
    go false e = over_by (leb a t) refl (ltb-false a t e)
      where
        over_by : (y : Bool) → leb a t ≡ y → t ≤ a → eqb (less a t) 0 ≡ y
        over_by true d g = eq-eqb (less a t) 0 (omega (arith, leb-true a t d))
        over_by false d g = ne_eqb (less a t) 0 (λ z. omega (arith, z, leb-false a t d))

abbrev pub excess : (Bool → Bool) → ℕ → ℕ → ℕ → ℕ → ℕ
excess lane t from on off = over lane (larger lane (larger lane on off) from) t

pub within : (t from on off : ℕ) → t ≤ 65535 → from ≤ 65535 → on ≤ 65535 → off ≤ 65535 → eqb (excess lane_of t from on off) 0 ≡ (leb on t && leb off t && leb from t)
within t from on off ht hf ha hb =
    rw (shown (ltb on off), shown (ltb (larger (λ x. x) on off) from), shown (ltb (larger (λ x. x) (larger (λ x. x) on off) from) t))
    (not_over (larger (λ x. x) (larger (λ x. x) on off) from) t (larger_fits (larger (λ x. x) on off) from (larger_fits on off ha hb) hf) ht
    ∙ larger_in (larger (λ x. x) on off) from t
    ∙ ap (λ (b : Bool). b && leb from t) (larger_in on off t))

pub all_within : (t from : ℕ) (f g : ℕ → ℕ) → t ≤ 65535 → from ≤ 65535 → ((k : ℕ) → k < 8 → f k ≤ 65535) → ((k : ℕ) → k < 8 → g k ≤ 65535)
    → eqb (fold_l bit_or 0 (table 8 0 (λ k. excess lane_of t from (f k) (g k)))) 0 ≡ each_of 8 0 (λ k. leb (f k) t && leb (g k) t && leb from t)
all_within t from f g ht hf hl hr =
    or_none 8 0 0 (λ k. excess lane_of t from (f k) (g k))
    ∙ each_same 8 0 _ _ (λ k a b. within t from (f k) (g k) ht hf (hl k (omega (arith, b))) (hr k (omega (arith, b))))

-- a lane's number
pub lane_fits : (xs : List ℕ) → length xs ≡ 8 → Each1 (Fits w16) xs → (k : ℕ) → k < 8 → get_or xs k 0 ≤ 65535
lane_fits xs h fits k b = let f = (Each1-get_or (Fits w16) xs k 0 (omega (arith, h, b)) fits).fits in omega (arith, f)

-- ---- The bits up to the lowest one of another number

-- a flag's digit
pub ones_byte : (b : Bool) → ones (bool_byte b) ≡ digit b
unfolding ones
ones_byte true = refl
ones_byte false = refl

-- the digits in front of the last one, and that one
pub ones_digit : (m x : ℕ) → x ≤ 1 → ones (m * 2 + x) ≡ x + ones m
ones_digit m x b =
    let low : (m * 2 + x) % 2 ≡ x = omega arith in
    let rest : (m * 2 + x) / 2 ≡ m = omega arith in
    ones_step (m * 2 + x) ∙ rw (low, rest) refl

and_last : (u m x : ℕ) → x ≤ 1 → ones (bit_and (u * 2 + x) (m * 2 + 1)) ≡ x + ones (bit_and u m)
and_last u m x b =
    let kept : bit_and x 1 ≡ x = below x b in
    ap ones (and_block 1 u m x 1 (omega arith) (omega arith)) ∙ rw kept (ones_digit (bit_and u m) x b)
  where
    below : (x : ℕ) → x ≤ 1 → bit_and x 1 ≡ x
    below zero b = refl
    below (suc zero) b = refl
    below (suc (suc x)) b = absurd (omega arith)

some_over : (n i : ℕ) (f : ℕ → Bool) → some_of n i f ≡ true → 0 < packed n i f
some_over n i f h = go (packed n i f) refl
  where
    go : (m : ℕ) → packed n i f ≡ m → 0 < m
    go zero e = absurd (clash (rw e at (sym (some_packed n i f) ∙ h)))
    go (suc m) e = omega arith

-- a number less one differs from it in the lowest bit that is set and in those below
odd_differs : (e : ℕ) → bit_xor (e * 2 + 1) (e * 2 + 1 - 1) ≡ 0 * 2 + 1
odd_differs e =
    let less_one : e * 2 + 1 - 1 ≡ e * 2 + 0 = omega arith in
    rw (less_one, xor_block 1 e e 1 0 (omega arith) (omega arith), xor_self e) refl

even_differs : (e : ℕ) → 0 < e → bit_xor (e * 2 + 0) (e * 2 + 0 - 1) ≡ bit_xor e (e - 1) * 2 + 1
even_differs e h =
    let less_one : e * 2 + 0 - 1 ≡ (e - 1) * 2 + 1 = omega arith in
    rw less_one (xor_block 1 e (e - 1) 0 1 (omega arith) (omega arith))

up_to_lowest : (n i : ℕ) (f ends : ℕ → Bool) → some_of n i ends ≡ true
    → ones (bit_and (packed n i f) (bit_xor (packed n i ends) (packed n i ends - 1))) ≡ count_up_to n i f ends
unfolding packed some_of count_up_to ones
up_to_lowest zero i f ends h = absurd (clash h)
up_to_lowest (suc n) i f ends h = go (λ g. up_to_lowest n (i + 1) f ends g) (ends i) refl h
  where
    u : ℕ
    u = packed n (i + 1) f

    e : ℕ
    e = packed n (i + 1) ends

    go : (some_of n (i + 1) ends ≡ true → ones (bit_and u (bit_xor e (e - 1))) ≡ count_up_to n (i + 1) f ends)
        → (b : Bool) → ends i ≡ b → (b || some_of n (i + 1) ends) ≡ true
        → ones (bit_and (u * 2 + digit (f i)) (bit_xor (e * 2 + digit b) (e * 2 + digit b - 1))) ≡ digit (f i) + cond b 0 (count_up_to n (i + 1) f ends)
    go rest true d g = rw (odd_differs e) (and_last u 0 (digit (f i)) (digit_le (f i)) ∙ rw (and_zero_r u) refl)
    go rest false d g =
        rw (even_differs e (some_over n (i + 1) ends g))
        (and_last u (bit_xor e (e - 1)) (digit (f i)) (digit_le (f i)) ∙ ap (λ (z : ℕ). digit (f i) + z) (rest g))

up_to_no_end : (n i : ℕ) (f ends : ℕ → Bool) → some_of n i ends ≡ false → count_up_to n i f ends ≡ count_of n i f
unfolding some_of count_of count_up_to
up_to_no_end zero i f ends h = refl
up_to_no_end (suc n) i f ends h = go (λ g. up_to_no_end n (i + 1) f ends g) (ends i) h
  where
    go : (some_of n (i + 1) ends ≡ false → count_up_to n (i + 1) f ends ≡ count_of n (i + 1) f)
        → (b : Bool) → (b || some_of n (i + 1) ends) ≡ false → digit (f i) + cond b 0 (count_up_to n (i + 1) f ends) ≡ digit (f i) + count_of n (i + 1) f
    go rest true g = absurd (clash (sym g))
    go rest false g = ap (λ (z : ℕ). digit (f i) + z) (rest g)

pub counted : (f ends : ℕ → Bool)
    → ones (bit_and (bit_xor (packed 8 0 ends) ((packed 8 0 ends + 18446744073709551615) % 18446744073709551616)) (packed 8 0 f % 256)) ≡ count_up_to 8 0 f ends
counted f ends =
    let small : packed 8 0 f % 256 ≡ packed 8 0 f = mod-eq_of_lt (packed_below 8 8 0 f (omega arith)) in
    rw (small, and_comm (bit_xor (packed 8 0 ends) ((packed 8 0 ends + 18446744073709551615) % 18446744073709551616)) (packed 8 0 f)) (go (some_of 8 0 ends) refl)
  where
    go : (b : Bool) → some_of 8 0 ends ≡ b
        → ones (bit_and (packed 8 0 f) (bit_xor (packed 8 0 ends) ((packed 8 0 ends + 18446744073709551615) % 18446744073709551616))) ≡ count_up_to 8 0 f ends
    go true h =
        let over : 0 < packed 8 0 ends = some_over 8 0 ends h in
        let few = packed_below 8 8 0 ends (omega arith) in
        let less_one : (packed 8 0 ends + 18446744073709551615) % 18446744073709551616 ≡ packed 8 0 ends - 1 = omega (arith, over, few) in
        rw less_one (up_to_lowest 8 0 f ends h)
    go false h =
        let none : packed 8 0 ends ≡ 0 = eqb-true (packed 8 0 ends) 0 (not-false (eqb (packed 8 0 ends) 0) (sym (some_packed 8 0 ends) ∙ h)) in
        let few = packed_below 8 8 0 f (omega arith) in
        rw none (ap ones (and_mask (packed 8 0 f) 64 ∙ omega (arith, few)) ∙ ones_packed 8 0 f ∙ sym (up_to_no_end 8 0 f ends h))

-- ---- In range a lane tests what a pair's test says

lane_ahead : (t from to : ℕ) → t < 32767 → from ≤ t → to ≤ t → (less to from + cond (leb from to) 0 ((t + 1) % 65536)) % 65536 ≡ ahead (t + 1) from to
lane_ahead t from to h a b = go (leb from to) refl
  where
    go : (x : Bool) → leb from to ≡ x → (less to from + cond x 0 ((t + 1) % 65536)) % 65536 ≡ ahead (t + 1) from to
    go true e = let le = leb-true from to e in rw (ahead_up t from to le b) (omega arith)
    go false e = let lt = leb-false from to e in rw (ahead_round t from to lt a) (omega arith)

lane_pair : (t from spread on off : ℕ) → t < 32767 → from ≤ t → on ≤ t → off ≤ t → used_pair on off && lane_holds t from (min spread 65535) on off ≡ pair_at (t + 1) from spread on off
unfolding lane_holds pair_at
lane_pair t from spread on off h f a b =
    let x = ahead_below t on from in
    let y = ahead_below t on off in
    rw (lane_ahead t on from h a f, lane_ahead t on off h a b)
    (ap (λ (z : Bool). used_pair on off && z)
    (agree (less ((ahead (t + 1) on from + (t + 1) % 65536) % 65536) (ahead (t + 1) on off)) (min spread 65535) (ahead (t + 1) on from + (t + 1 - ahead (t + 1) on off)) spread (λ g. omega arith) (λ g. omega arith)))

-- at one of those at each of which it is
each_at : (n i k : ℕ) (f : ℕ → Bool) → each_of n i f ≡ true → i ≤ k → k < i + n → f k ≡ true
unfolding each_of
each_at zero i k f h a b = absurd (omega arith)
each_at (suc n) i k f h a b =
    let p = and_parts (f i) (each_of n (i + 1) f) h in
    elim (cases_eq k i) [ inl e ↦ rw e p.0 | inr d ↦ each_at n (i + 1) k f p.1 (omega arith) (omega arith) ]

-- the used pairs that hold, where all are in range
pub both_marked : (t from spread : ℕ) (setpoints : List ℕ) → t < 32767
    → each_of 8 0 (λ k. leb (get_or setpoints (2 * k) 0) t && leb (get_or setpoints (2 * k + 1) 0) t && leb from t) ≡ true
    → bit_and (packed 8 0 (used_of setpoints)) (packed 8 0 (λ k. lane_holds t from (min spread 65535) (get_or setpoints (2 * k) 0) (get_or setpoints (2 * k + 1) 0)))
    ≡ packed 8 0 (pair_of (t + 1) from spread setpoints)
unfolding pair_of
both_marked t from spread setpoints h e =
    let lanes : ℕ → Bool = λ k. lane_holds t from (min spread 65535) (get_or setpoints (2 * k) 0) (get_or setpoints (2 * k + 1) 0) in
    and_packed 8 (packed 8 0 lanes) (used_of setpoints)
    ∙ packed_same 8 0 (λ k. used_of setpoints k && bit (packed 8 0 lanes) k) (pair_of (t + 1) from spread setpoints)
    (λ k a b.
    let on = get_or setpoints (2 * k) 0 in
    let off = get_or setpoints (2 * k + 1) 0 in
    let all = and_parts (leb on t && leb off t) (leb from t) (each_at 8 0 k (λ j. leb (get_or setpoints (2 * j) 0) t && leb (get_or setpoints (2 * j + 1) 0) t && leb from t) e a b) in
    let two = and_parts (leb on t) (leb off t) all.0 in
    rw (packed_bit 8 0 k lanes (omega arith), zero-add k) (lane_pair t from spread on off h (leb-true from t all.1) (leb-true on t two.0) (leb-true off t two.1)))
