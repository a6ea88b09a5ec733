-- 02, request 6/14: which numbers are counted up to the first that ends the count, and at most how many pair tests an output and a step take, for every module
-- and sample. Assumes nothing.
use Prim.Native.Nat.{ℕ, zero, suc, ◌+◌, ◌≤◌, ◌<◌}
use mathlib.Core.Bool.{Bool, true, false, cond}
use mathlib.Core.List.{List}
use mathlib.Core.Path.{◌≡◌, refl, ◌∙◌}
use native.Mathlib.Omega.{arith}
use lib.IntN.{ℤ}
use Rattle.std.proofs.lemmas.List.Sums.{sum_by-le}
use Rattle.std.specs.List.{sum}
use Rattle.rules.specs.declared.GroupPosition.{GroupPosition}
use Rattle.rules.specs.declared.Position.{Position}
use Rattle.rules.specs.declared.Model.{Model}
use Rattle.rules.specs.declared.Switch.{Switch}
use Rattle.rules.specs.declared.Switch.TheVariants.{Unprogrammed, Normal, Pulse, Timed}
use Rattle.rules.specs.declared.Limit.{Limit}
use Rattle.rules.specs.declared.Programming.{Programming}
use Rattle.rules.specs.declared.Conditions.{Conditions}
use Rattle.rules.specs.declared.Module.{Module}
use Rattle.rules.specs.declared.Sample.{Sample}
use Rattle.rules.specs.Words.{digit, count_of, count_up_to, table}
use Rattle.rules.specs.Variants.{limit_switch}
use Rattle.rules.specs.Switches.{pair_used, present, limit_of, switch_tests, output_tests, tests_at, pair_tests, answer_of}
use Rattle.rules.specs.Card.{tests_now, step_answer, step_call}
use Rattle.rules.proofs.Lengths.{count_split}
use Rattle.rules.proofs.Packing.{digit_le, length_table, get_d_table_0}

-- ---- Which numbers are counted

-- one number more
pub count_more : (n i : ℕ) (f : ℕ → Bool) → count_of (n + 1) i f ≡ count_of n i f + digit (f (i + n))
unfolding count_of
count_more n i f = count_split n 1 i f ∙ omega arith

-- where none ends the count all are; else those up to and including the first that does
pub up_to_none : (n i : ℕ) (f ends : ℕ → Bool) → ((k : ℕ) → i ≤ k → k < i + n → ends k ≡ false) → count_up_to n i f ends ≡ count_of n i f
unfolding count_up_to count_of
up_to_none zero i f ends h = refl
up_to_none (suc n) i f ends h =
    rw (h i (omega arith) (omega arith), up_to_none n (i + 1) f ends (λ k a b. h k (omega arith) (omega arith)))

pub up_to_first : (n i k : ℕ) (f ends : ℕ → Bool) → k < n → ((j : ℕ) → i ≤ j → j < i + k → ends j ≡ false) → ends (i + k) ≡ true
    → count_up_to n i f ends ≡ count_of (k + 1) i f
unfolding count_up_to count_of
up_to_first zero i k f ends b h e = absurd (omega arith)
up_to_first (suc n) i zero f ends b h e =
    let z : i + 0 ≡ i = omega arith in
    rw (rw z at e)
up_to_first (suc n) i (suc k) f ends b h e =
    let m : suc k + 1 ≡ suc (k + 1) = omega arith in
    let next : i + suc k ≡ i + 1 + k = omega arith in
    rw (m, h i (omega arith) (omega arith), up_to_first n (i + 1) k f ends (omega arith) (λ j c d. h j (omega arith) (omega arith)) (rw next at e))

-- ---- How many at most

-- of n numbers at most n are counted
pub count_below : (n i : ℕ) (f ends : ℕ → Bool) → count_up_to n i f ends ≤ n
unfolding count_up_to
count_below zero i f ends = omega arith
count_below (suc n) i f ends = go (ends i) (digit_le (f i)) (count_below n (i + 1) f ends)
  where
    go : (last : Bool) {x y : ℕ} → x ≤ 1 → y ≤ n → x + cond last 0 y ≤ suc n
    go true a b = omega arith
    go false a b = omega arith

-- "at most 8 for each normal output and 1 for each other"
abbrev pub most_tests : Switch → ℕ
most_tests Unprogrammed = 0
most_tests Normal = 8
most_tests (Pulse q k) = 1
most_tests (Timed t) = 1

pub switch_tests_below : (sf : ℕ) (c : ℤ) (l : Limit) (s : Switch) (p : Position) → switch_tests sf c l s p ≤ most_tests s
unfolding switch_tests
switch_tests_below sf c l Unprogrammed p = omega arith
switch_tests_below sf c l Normal p = count_below 8 0 (pair_used l) _
switch_tests_below sf c l (Pulse q k) p = digit_le (pair_used l 0)
switch_tests_below sf c l (Timed t) p = digit_le (pair_used l 0)

most_below : (s : Switch) → most_tests s ≤ 8
most_below Unprogrammed = omega arith
most_below Normal = omega arith
most_below (Pulse q k) = omega arith
most_below (Timed t) = omega arith

module _ (model : Model) (p : Programming) (w : Conditions) (positions : List GroupPosition) where
  -- of output n, from 0, present or not
  pub tests_below : (n : ℕ) → tests_at model p w positions n ≤ most_tests (limit_switch (limit_of p n))
  unfolding tests_at output_tests
  tests_below n = go (present model n) (switch_tests_below _ _ (limit_of p n) (limit_switch (limit_of p n)) _)
    where
      go : (is : Bool) {x y : ℕ} → x ≤ y → cond is x 0 ≤ y
      go true a = a
      go false a = omega arith

  pub few_tests : (n : ℕ) → tests_at model p w positions n ≤ 8
  few_tests n = omega (arith, tests_below n, most_below (limit_switch (limit_of p n)))

  sum_below : sum (table 32 0 (tests_at model p w positions)) ≤ 256
  sum_below =
      let f : ℕ → ℕ = tests_at model p w positions in
      let e = sum_by-le (λ (x : ℕ). x) 8 (table 32 0 f) (λ k d h. let b = rw (length_table 32 0 f) at h in rw (get_d_table_0 32 f d k b) (few_tests k)) in
      rw (length_table 32 0 f) at e

  pub pair_tests_below : (ok : Bool) → pair_tests model ok p w positions ≤ 256
  unfolding pair_tests
  pair_tests_below true = sum_below
  pair_tests_below false = omega arith

-- "so never over 256"
pub step_tests : (m : Module) (s : Sample) → (step_call m s).answer.tests ≤ 256
unfolding step_call step_answer answer_of tests_now
step_tests m s = pair_tests_below _ _ _ _ _
