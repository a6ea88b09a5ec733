-- What `array::from_fn` makes and chains of iterators find, in the words of the rules: tables, and tests over a range. Assumes nothing.
use Rattle.std.proofs.Common.{ℕ, zero, suc, refl, ◌≡◌, ◌+◌, ◌≤◌, ◌<◌, Bool, List, [], ◌∷◌, length, filter, get_or, add-one, sym, ◌∙◌, arith, inl, inr}
use native.Mathlib.Nat.{zero-add}
use Rattle.std.proofs.lemmas.List.{same_lists, get_or_default}
use Rattle.std.proofs.lemmas.Bool.{cases_eq}
use Rattle.std.proofs.lemmas.Bool.Decides.{nat_tests}
use Rattle.std.specs.Array.{IsFromFnResultFrom, IsFromFnResult}
use denote.Param.Members.{Mut, Called}
use Rattle.std.specs.List.{list_any, list_all, range_with_len}
use Rattle.rules.specs.Words.{some_of, each_of, count_of, table}
use Rattle.rules.proofs.Packing.{length_table, get_d_table}

-- a list that has f (i + k) at each of its n places k
pub table_is : {A : Type 0} (xs : List A) (n i : ℕ) (f : ℕ → A) → length xs ≡ n → ((k : ℕ) (d : A) → k < n → get_or xs k d ≡ f (i + k)) → xs ≡ table n i f
table_is xs n i f l h =
    same_lists xs (table n i f) (l ∙ sym (length_table n i f)) (λ k d b.
    let w : k < n = omega arith in
    h k d w ∙ sym (get_d_table n i f d k w))

-- a list of n numbers
pub as_table : (n : ℕ) (xs : List ℕ) → length xs ≡ n → xs ≡ table n 0 (λ k. get_or xs k 0)
as_table n xs h = table_is xs n 0 (λ k. get_or xs k 0) h (λ k d b. rw (zero-add k) (get_or_default xs k d 0 (omega (arith, h))))

-- what `from_fn` makes of a closure that changes nothing and gives h k at k
module _ {F B : Type 0} (g : Mut F (ℕ × Unit {0}) B) (s : F) (ys : List B) (h : ℕ → B) (n : ℕ)
    (calls : (k : ℕ) (y : B) (q : F) → k < n → Called g s (k, tt) y q → (q ≡ s) × (y ≡ h k)) where
  from_places : (left j : ℕ) (p : F) → p ≡ s → j + left ≤ n → IsFromFnResultFrom g p ys j left → (k : ℕ) (d : B) → j ≤ k → k < j + left → get_or ys k d ≡ h k
  from_places zero j p e b m k d lo hi = absurd (omega arith)
  from_places (suc left) j p e b m k d lo hi =
      let c = calls j m.1 m.0 (omega arith) (rw e at m.3) in
      elim (cases_eq j k) [
        | inl o ↦ rw (← o) (m.2.1 d ∙ c.1)
        | inr o ↦ from_places left (j + 1) m.0 c.0 (omega arith) m.4 k d (omega arith) (omega arith)
      ]

  -- the table of f from i on, which is h from 0 on
  pub from_fn_is : IsFromFnResult g s ys n → (i : ℕ) (f : ℕ → B) → ((k : ℕ) → h k ≡ f (i + k)) → ys ≡ table n i f
  from_fn_is m i f e = table_is ys n i f m.long (λ k d b. from_places n 0 s refl (omega arith) m.each k d (omega arith) (omega arith) ∙ e k)

-- tests over the n numbers from i on: `any`, `all` and `filter` over the range
pub some_any : (n i : ℕ) (f : ℕ → Bool) → list_any f (range_with_len i n) ≡ some_of n i f
unfolding some_of
some_any zero i f = refl
some_any (suc n) i f = rw (some_any n (i + 1) f)

pub each_all : (n i : ℕ) (f : ℕ → Bool) → list_all f (range_with_len i n) ≡ each_of n i f
unfolding each_of
each_all zero i f = refl
each_all (suc n) i f = rw (each_all n (i + 1) f)

pub count_filter : (n i : ℕ) (f : ℕ → Bool) → length (filter f (range_with_len i n)) ≡ count_of n i f
unfolding count_of
count_filter zero i f = refl
count_filter (suc n) i f = grind (arith, nat_tests, count_filter n (i + 1) f)

-- the same test one number further on
each_next : (n i : ℕ) (f g : ℕ → Bool) → ((k : ℕ) → f k ≡ g (suc k)) → each_of n i f ≡ each_of n (i + 1) g
unfolding each_of
each_next zero i f g h = refl
each_next (suc n) i f g h = rw (h i, ← add-one i, each_next n (i + 1) f g h)

-- `all` over a list
pub each_list : (f : ℕ → Bool) (xs : List ℕ) → list_all f xs ≡ each_of (length xs) 0 (λ k. f (get_or xs k 0))
unfolding each_of
each_list f [] = refl
each_list f (x ∷ xs) = rw (each_list f xs, each_next (length xs) 0 (λ k. f (get_or xs k 0)) (λ k. f (get_or (x ∷ xs) k 0)) (λ k. refl))
