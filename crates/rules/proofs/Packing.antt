-- Laws of `packed` and `table`: a bit of a packed word, an entry of a table, and two of them made by functions that agree.
-- Assumes nothing.
use Prim.Native.Nat.{ℕ, zero, suc, ◌+◌, ◌*◌, ◌/◌, ◌%◌, ◌^◌, ◌≤◌, ◌<◌}
use mathlib.Core.Bool.{Bool, true, false}
use mathlib.Core.List.{List, [], ◌∷◌, ◌++◌}
use mathlib.Core.Path.{◌≡◌, refl, ap, ◌∙◌}
use native.Mathlib.Nat.{pow-suc, mul_comm, div-div-eq-div-mul}
use native.Mathlib.Omega.{arith}
use lib.Pow.{pow_pos}
use lib.ListN.{length, get_or}
use lib.Dec.{eqb}
use borrow.Author.Tests.{eq-eqb, ne_eqb}
use Rattle.rules.specs.Words.{bit, digit, packed, table}

pub digit_le : (b : Bool) → digit b ≤ 1
digit_le true = omega arith
digit_le false = omega arith

-- digits of which those from the m-th on are 0
pub packed_below : (n i m : ℕ) (f : ℕ → Bool) → ((k : ℕ) → m ≤ k → k < n → f (i + k) ≡ false) → packed n i f < 2 ^ m
unfolding packed
packed_below zero i m f h = pow_pos m
packed_below (suc n) i zero f h =
    let e : i + 0 ≡ i = omega arith in
    let a = packed_below n (i + 1) zero f (λ k b c. let q : i + 1 + k ≡ i + suc k = omega arith in rw q (h (suc k) (omega arith) (omega arith))) in
    let z = rw e at (h 0 (omega arith) (omega arith)) in
    rw z (omega arith)
packed_below (suc n) i (suc m) f h =
    let a = packed_below n (i + 1) m f (λ k b c. let q : i + 1 + k ≡ i + suc k = omega arith in rw q (h (suc k) (omega arith) (omega arith))) in
    rw (pow-suc 2 m) (omega (arith, a, digit_le (f i)))

pub packed_lt : (n i : ℕ) (f : ℕ → Bool) → packed n i f < 2 ^ n
packed_lt n i f = packed_below n i n f (λ k a b. absurd (omega arith))

lowest : (q : Bool) (w : ℕ) → eqb ((w * 2 + digit q) / 1 % 2) 1 ≡ q
lowest true w = eq-eqb ((w * 2 + 1) / 1 % 2) 1 (omega arith)
lowest false w = ne_eqb ((w * 2 + 0) / 1 % 2) 1 (λ e. omega arith)

-- bit k of a packed word
pub packed_bit : (n i k : ℕ) (f : ℕ → Bool) → k < n → bit (packed n i f) k ≡ f (i + k)
unfolding packed bit
packed_bit zero i k f h = absurd (omega arith)
packed_bit (suc n) i zero f h = let e : i + 0 ≡ i = omega arith in rw e (lowest (f i) (packed n (i + 1) f))
packed_bit (suc n) i (suc k) f h =
    let e : (packed n (i + 1) f * 2 + digit (f i)) / 2 ≡ packed n (i + 1) f = omega (arith, digit_le (f i)) in
    let j : i + 1 + k ≡ i + suc k = omega arith in
    rw (pow-suc 2 k, mul_comm (2 ^ k) 2, ← div-div-eq-div-mul _ 2 (2 ^ k), e) (packed_bit n (i + 1) k f (omega arith) ∙ ap f j)

pub packed_same : (n i : ℕ) (f g : ℕ → Bool) → ((k : ℕ) → i ≤ k → k < i + n → f k ≡ g k) → packed n i f ≡ packed n i g
unfolding packed
packed_same zero i f g e = refl
packed_same (suc n) i f g e =
    rw (e i (omega arith) (omega arith), packed_same n (i + 1) f g (λ k a b. e k (omega arith) (omega arith)))

module _ {A : Type 0} where
  pub length_table : (n i : ℕ) (f : ℕ → A) → length (table n i f) ≡ n
  unfolding table
  length_table zero i f = refl
  length_table (suc n) i f = ap suc (length_table n (i + 1) f)

  pub table_same : (n i : ℕ) (f g : ℕ → A) → ((k : ℕ) → i ≤ k → k < i + n → f k ≡ g k) → table n i f ≡ table n i g
  unfolding table
  table_same zero i f g h = refl
  table_same (suc n) i f g h = rw (h i (omega arith) (omega arith), table_same n (i + 1) f g (λ k a b. h k (omega arith) (omega arith)))

  -- entry k of a table
  pub get_d_table : (n i : ℕ) (f : ℕ → A) (d : A) (k : ℕ) → k < n → get_or (table n i f) k d ≡ f (i + k)
  unfolding table
  get_d_table zero i f d k h = absurd (omega arith)
  get_d_table (suc n) i f d zero h = let e : i + 0 ≡ i = omega arith in rw e
  get_d_table (suc n) i f d (suc k) h = let j : i + 1 + k ≡ i + suc k = omega arith in get_d_table n (i + 1) f d k (omega arith) ∙ ap f j

  -- of a table from 0 on
  pub get_d_table_0 : (n : ℕ) (f : ℕ → A) (d : A) (k : ℕ) → k < n → get_or (table n 0 f) k d ≡ f k
  get_d_table_0 n f d k h = get_d_table n 0 f d k h ∙ ap f (omega arith)

  -- one element more at the end of a table
  pub table_more : (n i : ℕ) (f : ℕ → A) → table n i f ++ (f (i + n) ∷ []) ≡ table (suc n) i f
  unfolding table
  table_more zero i f =
      let e : i + 0 ≡ i = omega arith in
      rw e
  table_more (suc n) i f =
      let e : i + suc n ≡ i + 1 + n = omega arith in
      rw e (ap (λ (ys : List A). f i ∷ ys) (table_more n (i + 1) f))
