-- The two lists of calls that reach the bounds of C, by a law of windows of equal movements: nothing computes their 5,040 steps. Assumes nothing.
use Prim.Native.Nat.{ℕ, zero, suc, ◌+◌, ◌-◌, ◌*◌, ◌/◌, ◌%◌, ◌≤◌, ◌<◌}
use mathlib.Core.Path.{◌≡◌, refl, ap, ◌∙◌}
use mathlib.Core.Bool.{true, false}
use mathlib.Core.List.{List, [], ◌∷◌}
use native.Mathlib.Nat.{mod-mod, add-mod-mod, add-mul-mod_self_right, div-add-mod'}
use native.Mathlib.Omega.{arith}
use lib.ListN.{length, take, replicate}
use lib.Dec.{ltb, lit<}
use lib.IntN.{ℤ, pos, sub_ℕ, ◌-ℤ◌}
use borrow.Author.Tests.{le-ltb, le-leb}
use Rattle.rules.specs.declared.Model.{Model}
use Rattle.rules.specs.declared.Configuration.{Configuration}
use Rattle.rules.specs.Words.{round_half_up}
use Rattle.rules.specs.Motion.{scale_factor, turned, movement, window_steps, window_time, short_steps, tenths_of, c_value}
use Rattle.rules.specs.Calls.{raw_most, default_setup, fresh_configuration, sound, step_configuration, configuration_after}
use Rattle.rules.specs.Run.{run}
use Rattle.rules.specs.Sums.{least_big_c, most_big_c, least_c, most_c, most_product, sample_at, steps_by, backward, forward}
use Rattle.rules.specs.History.{configuration_of, setup_in_force, is_module_start, since, turned_in, since_module_start, movement_from, movements, total, window_total, c_of, big_c_of, tenths_at}
use Rattle.rules.proofs.Laws.{minus, add_differences, biased_natural}
use Rattle.rules.proofs.Windows.{length_movements}
use Rattle.rules.proofs.Agreement.{agrees}

-- ---- A window of equal movements

-- the sum of so many movements of m − 512 is that many times as much
equal_total : (m n : ℕ) → total (replicate n (pos m -ℤ pos 512)) ≡ pos (m * n) -ℤ pos (512 * n)
equal_total m zero = let e : m * 0 ≡ 0 = omega arith in rw e
equal_total m (suc n) =
    let e : m * suc n ≡ m + m * n = omega arith in
    let f : 512 * suc n ≡ 512 + 512 * n = omega arith in
    rw (equal_total m n, e, f) (add_differences m 512 (m * n) (512 * n))

-- a full window whose movements are equal
equal_window : (m size : ℕ) (h : List ℤ) → ltb (length h) size ≡ false → length h % size ≡ 0 → take size h ≡ replicate size (pos m -ℤ pos 512)
    → window_total size h ≡ sub_ℕ (m * size) (512 * size)
unfolding window_total
equal_window m size h full last e = rw (full, last, e, equal_total m size) (minus (m * size) (512 * size))

-- ---- Steps that are `by` counts apart

-- q of each, the latest first: raw itself, since a fresh card counts up
qs_by : ℕ → ℕ → List ℕ
qs_by by zero = []
qs_by by (suc n) = n * by % 1024 ∷ qs_by by n

length_qs : (by n : ℕ) → length (qs_by by n) ≡ n
unfolding qs_by
length_qs by zero = refl
length_qs by (suc n) = ap suc (length_qs by n)

-- what lies between two in a row
between : (a by : ℕ) → ((a + by) % 1024 + (1024 - a % 1024 % 1024) + 512) % 1024 ≡ (by + 512) % 1024
between a by =
    let d = div-add-mod' a 1024 in
    let r : ℕ = 1024 - a % 1024 + 512 in
    let e : (a + by) % 1024 + (1024 - a % 1024) + 512 ≡ r + (a + by) % 1024 = omega arith in
    let f : r + (a + by) ≡ by + 512 + (a / 1024 + 1) * 1024 = omega arith in
    rw (mod-mod a 1024, e, add-mod-mod r (a + by) 1024, f) (add-mul-mod_self_right (by + 512) (a / 1024 + 1) 1024)

moves : (by n : ℕ) → movement (suc n * by % 1024) (n * by % 1024) ≡ pos ((by + 512) % 1024) -ℤ pos 512
unfolding movement
moves by n =
    let a : ℕ = n * by in
    let e : suc n * by ≡ a + by = omega arith in
    let f : ((a + by) % 1024 + (1024 - a % 1024 % 1024) + 512) % 1024 ≡ (by + 512) % 1024 = between a by in
    rw (biased_natural (n * by % 1024) (suc n * by % 1024), e, f)

-- all but the first step's are equal
equal_movements : (by k n : ℕ) → k ≤ n → take k (movements (qs_by by (suc n))) ≡ replicate k (pos ((by + 512) % 1024) -ℤ pos 512)
unfolding qs_by movements movement_from
equal_movements by zero n b = refl
equal_movements by (suc k) zero b = absurd (omega arith)
equal_movements by (suc k) (suc n) b = rw (moves by n, equal_movements by k n (omega arith))

-- so the sum of a full window after the first
window_by : (by size n : ℕ) → size < n → n % size ≡ 0 → window_total size (movements (qs_by by n)) ≡ sub_ℕ ((by + 512) % 1024 * size) (512 * size)
window_by by size zero b last = absurd (omega arith)
window_by by size (suc n) b last =
    let e : length (movements (qs_by by (suc n))) ≡ suc n = length_movements (qs_by by (suc n)) ∙ length_qs by (suc n) in
    equal_window ((by + 512) % 1024) size (movements (qs_by by (suc n))) (rw e (le-ltb (suc n) size (omega arith))) (rw e last) (equal_movements by size n (omega arith))

-- ---- A fresh card that only steps

-- as power-up left it, but for the last raw
record Untouched (g : Configuration) : Type 0 where
  setup : g.programming.setup ≡ default_setup
  fault : g.fault ≡ false

sound_step : (g : Configuration) (raw : ℕ) → Untouched g → raw ≤ raw_most → sound g (sample_at raw) ≡ true
unfolding sound
sound_step g raw k b = rw (le-leb raw raw_most b, k.fault)

in_range : (n : ℕ) → n % 1024 ≤ raw_most
in_range n = omega arith

fresh_untouched : (model : Model) → Untouched (fresh_configuration model)
unfolding fresh_configuration
fresh_untouched model = record { setup = refl; fault = refl }

step_untouched : (g : Configuration) (raw : ℕ) → Untouched g → raw ≤ raw_most → Untouched (step_configuration g (sample_at raw))
unfolding step_configuration
step_untouched g raw k b = rw (sound_step g raw k b) (record { setup = k.setup; fault = k.fault })

module _ (model : Model) (by : ℕ) where
  untouched : (n : ℕ) → Untouched (configuration_of model (steps_by by n))
  unfolding configuration_of configuration_after steps_by
  untouched zero = fresh_untouched model
  untouched (suc n) = step_untouched (configuration_of model (steps_by by n)) (n * by % 1024) (untouched n) (in_range (n * by))

  -- the positions of the steps since the module start, which is power-up
  qs_are : (n : ℕ) → since_module_start model (steps_by by n) ≡ qs_by by n
  unfolding since_module_start since is_module_start turned_in turned default_setup steps_by qs_by
  qs_are zero = refl
  qs_are (suc n) =
      let k = untouched n in
      rw (sound_step (configuration_of model (steps_by by n)) (n * by % 1024) k (in_range (n * by)), k.setup) (ap (λ (qs : List ℕ). n * by % 1024 ∷ qs) (qs_are n))

  module _ (n : ℕ) where
    -- TResp 0
    slow : (setup_in_force model (steps_by by n)).fast ≡ false
    unfolding default_setup
    slow = rw (untouched n).setup

    -- c and C at the end of a window that is not the first
    c_by : short_steps < n → n % short_steps ≡ 0 → c_of (since_module_start model (steps_by by n)) ≡ sub_ℕ ((by + 512) % 1024 * 120) 61440
    unfolding c_of
    c_by b last = rw (qs_are n) (window_by by short_steps n b last)

    big_c_by : 2520 < n → n % 2520 ≡ 0 → big_c_of (setup_in_force model (steps_by by n)).fast (since_module_start model (steps_by by n)) ≡ sub_ℕ ((by + 512) % 1024 * 2520) 1290240
    unfolding big_c_of window_steps
    big_c_by b last = rw (slow, qs_are n) (window_by by 2520 n b last)

    -- the card's own c, and its tenths, which are of C
    card_by : (c big_c : ℤ) → c_of (since_module_start model (steps_by by n)) ≡ c → big_c_of (setup_in_force model (steps_by by n)).fast (since_module_start model (steps_by by n)) ≡ big_c
        → (c_value (run model (steps_by by n)).state.since.speed.c ≡ c) × ((run model (steps_by by n)).state.since.speed.tenths ≡ tenths_of false big_c)
    unfolding tenths_at
    card_by c big_c e f =
        let k = (agrees model (steps_by by n)).speed in
        (k.c ∙ e, k.tenths ∙ (rw (← f, slow)))

-- ---- The two lists

-- C is exactly −1,290,240 after the one, and 1,287,720 after the other
pub backward_reaches : (model : Model) → big_c_of (setup_in_force model backward).fast (since_module_start model backward) ≡ least_big_c
backward_reaches model = big_c_by model 512 _ (lit< tt) refl

pub forward_reaches : (model : Model) → big_c_of (setup_in_force model forward).fast (since_module_start model forward) ≡ most_big_c
forward_reaches model = big_c_by model 511 _ (lit< tt) refl

-- and c −61,440 and 61,320
pub backward_reaches_c : (model : Model) → c_of (since_module_start model backward) ≡ least_c
backward_reaches_c model = c_by model 512 _ (lit< tt) refl

pub forward_reaches_c : (model : Model) → c_of (since_module_start model forward) ≡ most_c
forward_reaches_c model = c_by model 511 _ (lit< tt) refl

-- the card itself
pub backward_card : (model : Model) → (c_value (run model backward).state.since.speed.c ≡ least_c) × ((run model backward).state.since.speed.tenths ≡ 1500000)
unfolding tenths_of round_half_up window_time
backward_card model = card_by model 512 _ least_c least_big_c (backward_reaches_c model) (backward_reaches model)

pub forward_card : (model : Model) → (c_value (run model forward).state.since.speed.c ≡ most_c) × ((run model forward).state.since.speed.tenths ≡ 1497070)
unfolding tenths_of round_half_up window_time
forward_card model = card_by model 511 _ most_c most_big_c (forward_reaches_c model) (forward_reaches model)

-- q × SF is 1,047,552 in a fresh card's step at raw 1023
pub product_reached : (model : Model) → turned_in model [] (sample_at 1023) * scale_factor (setup_in_force model []) ≡ most_product
unfolding turned_in turned configuration_of fresh_configuration default_setup
product_reached model = refl
