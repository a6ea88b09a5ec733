-- Laws of lists that a step cites: tables filled upwards and downwards by a loop, also where the old list lies.
-- Assumes nothing.
use Prim.Native.Nat.{ℕ, suc, ◌+◌, ◌-◌, ◌<◌, ◌≤◌}
use mathlib.Core.List.{List}
use mathlib.Core.Path.{◌≡◌, refl, sym, ◌∙◌}
use native.Mathlib.Numerals.{add-one}
use native.Mathlib.Omega.{arith}
use lib.ListN.{length, get_or, take, drop, set, length-set}
use lib.Seq.{take-suc-set, take_all}
use Rattle.std.specs.Prelude.{◌≢◌}
use Rattle.std.proofs.lemmas.List.{drop-set, drop_all, get_or-set_other}
use Rattle.rules.specs.Words.{table}
use Rattle.rules.proofs.Packing.{table_more}

module _ {A : Type 0} where
  -- a list of n elements whose first k are those of a function
  abbrev pub FilledUp : ℕ → ℕ → (ℕ → A) → List A → Type 0
  FilledUp n k f xs = (length xs ≡ n) × (take k xs ≡ table k 0 f)

  pub up_none : (n : ℕ) (f : ℕ → A) (xs : List A) → length xs ≡ n → FilledUp n 0 f xs
  unfolding table
  up_none n f xs h = (h, refl)

  pub up_more : (n k : ℕ) (f : ℕ → A) (xs : List A) (v : A) → k < n → FilledUp n k f xs → v ≡ f k → FilledUp n (k + 1) f (set xs k v)
  up_more n k f xs v h e q =
      let z : 0 + k ≡ k = omega arith in
      (simp length-set e.0, rw (add-one k, take-suc-set xs k v (omega arith), e.1, q) (rw z at (table_more k 0 f)))

  pub up_all : (n k : ℕ) (f : ℕ → A) (xs : List A) → k ≡ n → FilledUp n k f xs → xs ≡ table n 0 f
  up_all n k f xs h e = sym (take_all n xs (omega arith)) ∙ rw h at e.1

  -- a list of n elements of which those from k on are those of a function
  abbrev pub FilledDown : ℕ → ℕ → (ℕ → A) → List A → Type 0
  FilledDown n k f xs = (length xs ≡ n) × (drop k xs ≡ table (n - k) k f)

  pub down_none : (n : ℕ) (f : ℕ → A) (xs : List A) → length xs ≡ n → FilledDown n n f xs
  unfolding table
  down_none n f xs h =
      let z : n - n ≡ 0 = omega arith in
      (h, rw z (drop_all n xs (omega arith)))

  pub down_more : (n k : ℕ) (f : ℕ → A) (xs : List A) (v : A) → 0 < k → k ≤ n → FilledDown n k f xs → v ≡ f (k - 1) → FilledDown n (k - 1) f (set xs (k - 1) v)
  unfolding table
  down_more n k f xs v h l e q =
      let m : n - (k - 1) ≡ suc (n - k) = omega arith in
      let j : k - 1 + 1 ≡ k = omega arith in
      (simp length-set e.0, rw (m, drop-set xs (k - 1) v (omega arith), j, e.1, q))

  pub down_all : (n k : ℕ) (f : ℕ → A) (xs : List A) → k ≡ 0 → FilledDown n k f xs → xs ≡ table n 0 f
  down_all n k f xs h e =
      let z : n - 0 ≡ n = omega arith in
      rw z at (rw h at e.1)

  -- in a list that is renewed where it lies: the elements from k on are still those that it began with, or those below k
  abbrev pub StillUp : ℕ → A → List A → List A → Type 0
  StillUp k d old xs = (i : ℕ) → k ≤ i → get_or xs i d ≡ get_or old i d

  pub still_up : (k : ℕ) (d : A) (old xs : List A) (v : A) → StillUp k d old xs → StillUp (k + 1) d old (set xs k v)
  still_up k d old xs v h i l =
      let other : i ≢ k = omega arith in
      get_or-set_other xs k i v d other ∙ h i (omega arith)

  abbrev pub StillDown : ℕ → A → List A → List A → Type 0
  StillDown k d old xs = (i : ℕ) → i < k → get_or xs i d ≡ get_or old i d

  pub still_down : (k : ℕ) (d : A) (old xs : List A) (v : A) → StillDown k d old xs → StillDown (k - 1) d old (set xs (k - 1) v)
  still_down k d old xs v h i l =
      let other : i ≢ k - 1 = omega arith in
      get_or-set_other xs (k - 1) i v d other ∙ h i (omega arith)
