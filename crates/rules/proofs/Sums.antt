-- 02's "Smaller sums": over every list of calls the movement sums and the scaled position's product stay within their bounds, told of 01's signed sums, and
-- the numbers that the card holds stand for these sums. So do the speed, and what is made on the way to it and to Tach. Assumes nothing.
use Prim.Native.Nat.{ℕ, zero, suc, ◌+◌, ◌-◌, ◌*◌, ◌%◌, ◌≤◌, ◌<◌}
use mathlib.Core.Logic.{◌↔◌, inl, inr}
use mathlib.Core.Path.{◌≡◌, refl, sym, ◌∙◌}
use mathlib.Core.Bool.{Bool, true, false}
use mathlib.Core.List.{List, [], ◌∷◌}
use native.Mathlib.Nat.{mod-lt, mul-le-mul}
use native.Mathlib.Omega.{arith}
use lib.ListN.{length, take, drop}
use lib.Dec.{ltb, leb, lit<, lit≤, le→leb}
use lib.IntN.{ℤ, pos, neg_ℤ, nat_abs, sub_ℕ, ◌-ℤ◌, +ℤ_idr, +ℤ_invr}
use lib.Signed.{◌≤ℤ◌, lt_z, le_z_yes, lt_z_yes, lt_z_no, <ℤ-≤ℤ_trans, clash_ℤ}
use borrow.Author.Tests.{ltb-true, ltb-false, leb-true}
use Rattle.std.proofs.lemmas.Bool.{and_parts, false_from_ne_true, cases_Bool}
use Rattle.std.proofs.lemmas.Float.{T_from_true, T_from_false}
use Rattle.rules.specs.declared.Model.{Model}
use Rattle.rules.specs.declared.Setup.{Setup}
use Rattle.rules.specs.declared.Configuration.{Configuration}
use Rattle.rules.specs.declared.Window.{Window}
use Rattle.rules.specs.declared.Speed.{Speed}
use Rattle.rules.specs.declared.Sample.{Sample}
use Rattle.rules.specs.Motion.{scale_factor, turned, window_steps, short_steps, unbiased, c_value, conditions}
use Rattle.rules.specs.Groups.{group_event, stops}
use Rattle.rules.specs.Calls.{Call, Step, FileCall, NudgeCall, ByteCall, raw_most, sound}
use Rattle.rules.specs.Card.{biased_movement, window_sum}
use Rattle.rules.specs.Run.{run}
use Rattle.rules.specs.Sums.{least_big_c, most_big_c, least_c, most_c, most_product, most_tenths, most_counted, most_doubled}
use Rattle.rules.specs.History.{configuration_of, setup_in_force, turned_in, since_module_start, up_to_step, movements, total, window_total, running_total, c_of, big_c_of, update_at, tenths_at, tenths_in, conditions_in, group_step_in, last_raw}
use Rattle.rules.proofs.Laws.{minus, modulo_below, add_differences}
use Rattle.rules.proofs.Windows.{held_c, last_of, movement_is, biased_below, WindowLink, big_c_is, updates_is, long_some, long_small}
use Rattle.rules.proofs.Tenths.{magnitude_within, tenths_within, stop_is}
use Rattle.rules.proofs.Ranges.{ranges}
use Rattle.rules.proofs.Agreement.{agrees}

-- ---- A sum of movements

-- The sum of `size` movements or fewer: a number, at most 1023 for each step, less 512 for each.
record Swing (size : ℕ) (z : ℤ) : Type 0 where
  number : ℕ
  is : z ≡ pos number -ℤ pos (512 * size)
  below : number ≤ 1023 * size

swing_total : (size : ℕ) (qs : List ℕ) → Swing size (total (take size (movements qs)))
unfolding movements
swing_total zero qs = record { number = 0; is = refl; below = omega arith }
swing_total (suc n) [] = record { number = 512 * suc n; is = sym (+ℤ_invr (pos (512 * suc n))); below = omega arith }
swing_total (suc n) (q ∷ qs) =
    let k = swing_total n qs in
    let m : ℕ = biased_movement (last_of qs) q in
    let b = biased_below (last_of qs) q in
    let r = k.below in
    let e : 512 * suc n ≡ 512 + 512 * n = omega arith in
    record {
      number = m + k.number;
      is = rw (movement_is qs q, k.is, e) (add_differences m 512 k.number (512 * n));
      below = omega arith;
    }

-- so many steps more leave room
wider : (n size : ℕ) (z : ℤ) → n ≤ size → Swing n z → Swing size z
wider n size z b k =
    let d : ℕ = 512 * (size - n) in
    let r = k.below in
    let e : 512 * size ≡ 512 * n + d = omega arith in
    record {
      number = k.number + d;
      is = rw e (sym (+ℤ_idr z) ∙ rw (← +ℤ_invr (pos d), k.is) (add_differences k.number (512 * n) d d));
      below = omega arith;
    }

drop_movements : (n : ℕ) (qs : List ℕ) → drop n (movements qs) ≡ movements (drop n qs)
unfolding movements
drop_movements zero qs = refl
drop_movements (suc n) [] = refl
drop_movements (suc n) (q ∷ qs) = drop_movements n qs

-- a full window, and one that has begun
module _ (n size : ℕ) (some : 0 < n) (small : n ≤ size) (qs : List ℕ) where
  swing_full : Swing size (window_total n (movements qs))
  unfolding window_total
  swing_full = elim (cases_Bool (ltb (length (movements qs)) n)) [
    | inl t ↦ rw t (wider 0 size (pos 0) (omega arith) (record { number = 0; is = refl; below = omega arith }))
    | inr t ↦ rw (t, drop_movements (length (movements qs) % n) qs) (wider n size _ small (swing_total n (drop (length (movements qs) % n) qs)))
  ]

  swing_running : Swing size (running_total n (movements qs))
  unfolding running_total
  swing_running =
      let b = mod-lt (length (movements qs)) some in
      wider (length (movements qs) % n) size _ (omega arith) (swing_total (length (movements qs) % n) qs)

-- ---- The bounds

-- from a least to a most
pub record Between (a b z : ℤ) : Type 0 where
  pub least : a ≤ℤ z
  pub most : z ≤ℤ b

-- n − b, where n is at most b + m
difference_between : (n b m : ℕ) → n ≤ b + m → Between (neg_ℤ (pos b)) (pos m) (sub_ℕ n b)
difference_between n b m l = elim (cases_Bool (ltb n b)) [ inl t ↦ below b t | inr t ↦ rw t (above b (ltb-false n b t) l) ]
  where
    below : (b : ℕ) → ltb n b ≡ true → Between (neg_ℤ (pos b)) (pos m) (sub_ℕ n b)
    below zero t = let i = ltb-true n 0 t in absurd (omega arith)
    below (suc b) t =
        let i = ltb-true n (suc b) t in
        rw t (record { least = le_z_yes (le→leb (suc b - suc n) b (omega arith)); most = le_z_yes tt })

    above : (b : ℕ) → b ≤ n → n ≤ b + m → Between (neg_ℤ (pos b)) (pos m) (pos (n - b))
    above zero i j = record { least = le_z_yes (le→leb 0 (n - 0) (omega arith)); most = le_z_yes (le→leb (n - 0) m (omega arith)) }
    above (suc b) i j = record { least = le_z_yes tt; most = le_z_yes (le→leb (n - suc b) m (omega arith)) }

-- ≤ of three
order : (a b c : ℤ) → a ≤ℤ b → b ≤ℤ c → a ≤ℤ c
order a b c h k = lt_z_no (T_from_false (lt_z c a) (false_from_ne_true _ (λ t. clash_ℤ (<ℤ-≤ℤ_trans (lt_z_yes (T_from_true _ t)) h) k)))

-- the bounds of so many movements, and wider ones
swing_between : (size : ℕ) (a b z : ℤ) → a ≤ℤ neg_ℤ (pos (512 * size)) → pos (511 * size) ≤ℤ b → Swing size z → Between a b z
swing_between size a b z h j k =
    let r = k.below in
    let e : Between (neg_ℤ (pos (512 * size))) (pos (511 * size)) z =
    rw (k.is, minus k.number (512 * size)) (difference_between k.number (512 * size) (511 * size) (omega arith)) in
    record { least = order a _ z h e.least; most = order z _ b e.most j }

-- After the calls `l`: c and C, and the sums since their windows' beginnings, for either TResp.
pub record SumsWithin (model : Model) (l : List Call) : Type 0 where
  pub c : Between least_c most_c (c_of (since_module_start model l))
  pub short : Between least_c most_c (running_total short_steps (movements (since_module_start model l)))
  pub big_c : (fast : Bool) → Between least_big_c most_big_c (big_c_of fast (since_module_start model l))
  pub long : (fast : Bool) → Between least_big_c most_big_c (running_total (window_steps fast) (movements (since_module_start model l)))

pub sums_within : (model : Model) (l : List Call) → SumsWithin model l
unfolding c_of big_c_of
sums_within model l =
    let qs : List ℕ = since_module_start model l in
    record {
      c = swing_between 120 least_c most_c _ (le_z_yes tt) (le_z_yes tt) (swing_full short_steps 120 (lit< tt) (lit≤ tt) qs);
      short = swing_between 120 least_c most_c _ (le_z_yes tt) (le_z_yes tt) (swing_running short_steps 120 (lit< tt) (lit≤ tt) qs);
      big_c = λ fast. swing_between 2520 least_big_c most_big_c _ (le_z_yes tt) (le_z_yes tt) (swing_full (window_steps fast) 2520 (long_some fast) (long_small fast) qs);
      long = λ fast. swing_between 2520 least_big_c most_big_c _ (le_z_yes tt) (le_z_yes tt) (swing_running (window_steps fast) 2520 (long_some fast) (long_small fast) qs);
    }

-- ---- The speed

pub magnitude_in : (fast : Bool) (qs : List ℕ) → nat_abs (big_c_of fast qs) ≤ 512 * window_steps fast
unfolding big_c_of
magnitude_in fast qs =
    let w : ℕ = window_steps fast in
    let k = swing_full w w (long_some fast) (omega arith) qs in
    rw (k.is, minus k.number (512 * w)) (magnitude_within w k.number k.below)

-- In a step after the calls `l`: |C| × 600,000, the tenths, and what is made of these for Tach.
pub record SpeedWithin (model : Model) (l : List Call) (s : Sample) : Type 0 where
  pub counted : nat_abs (big_c_of (setup_in_force model l).fast (up_to_step model l s)) * 600000 ≤ most_counted
  pub tenths : tenths_in model l s ≤ most_tenths
  pub doubled : 2 * (tenths_in model l s * (setup_in_force model l).scalars.multiplier) ≤ most_doubled

pub speed_within : (model : Model) (l : List Call) (s : Sample) → SpeedWithin model l s
unfolding tenths_in tenths_at
speed_within model l s =
    let u : Setup = setup_in_force model l in
    let c = magnitude_in u.fast (up_to_step model l s) in
    let t = tenths_within u.fast _ c in
    record {
      counted = let b = long_small u.fast in omega arith;
      tenths = t;
      doubled = omega (arith, mul-le-mul {n₂ = 1500000} {m₂ = 1100} t (ranges model l).setup.multiplier);
    }

-- A group's step is a stop exactly in an update with C 0.
pub stop_in : (model : Model) (l : List Call) (s : Sample) (n : ℕ)
    → (stops (group_step_in model n l s).event ≡ true)
    ↔ ((update_at (setup_in_force model l).fast (up_to_step model l s) ≡ true) × (big_c_of (setup_in_force model l).fast (up_to_step model l s) ≡ pos 0))
unfolding stops group_step_in group_event conditions_in conditions tenths_in tenths_at
stop_in model l s n = stop_is (setup_in_force model l).fast _ _

-- ---- What a step's switches read

-- c in a step's conditions, which the history has too, stands for 01's signed sum
pub c_read : (model : Model) (l : List Call) (s : Sample) → c_value (conditions_in model l s).c ≡ c_of (up_to_step model l s)
unfolding conditions_in conditions c_of
c_read model l s =
    let k = swing_full short_steps 120 (lit< tt) (lit≤ tt) (up_to_step model l s) in
    rw (k.is, minus k.number 61440, held_c k.number)

-- ---- What the card holds

window_held : (size : ℕ) (h : List ℤ) (x : Window) → WindowLink size h x → unbiased x.steps x.sum ≡ running_total size h
unfolding running_total
window_held size h x k = sym (minus x.sum (512 * x.steps)) ∙ k.sum

-- The numbers of the card after the calls `l`, and the one that it makes of C's window in its next step, if that is an update, stand for 01's sums.
pub record SumsHeld (model : Model) (l : List Call) (x : Speed) : Type 0 where
  pub c : c_value x.c ≡ c_of (since_module_start model l)
  pub short : unbiased x.short.steps x.short.sum ≡ running_total short_steps (movements (since_module_start model l))
  pub long : unbiased x.long.steps x.long.sum ≡ running_total (window_steps (setup_in_force model l).fast) (movements (since_module_start model l))
  pub big_c : (s : Sample) → update_at (setup_in_force model l).fast (up_to_step model l s) ≡ true
      → unbiased (window_steps (setup_in_force model l).fast) (window_sum x.long (biased_movement x.last (turned_in model l s)))
      ≡ big_c_of (setup_in_force model l).fast (up_to_step model l s)

pub sums_held : (model : Model) (l : List Call) → SumsHeld model l (run model l).state.since.speed
sums_held model l =
    let u : Setup = setup_in_force model l in
    let qs : List ℕ = since_module_start model l in
    let x : Speed = (run model l).state.since.speed in
    let k = (agrees model l).speed in
    record {
      c = k.c;
      short = window_held short_steps (movements qs) x.short k.short;
      long = window_held (window_steps u.fast) (movements qs) x.long k.long;
      big_c = λ s e. big_c_is u x qs k (turned_in model l s) (updates_is u x qs k (turned_in model l s) ∙ e);
    }

-- ---- The scaled position's product

turned_below : (reversed : Bool) (raw : ℕ) → raw ≤ raw_most → turned reversed raw ≤ 1023
unfolding turned
turned_below true raw b = let m = modulo_below (sub_ℕ 1024 raw) 1023 in omega arith
turned_below false raw b = b

-- of every raw position that is not answered 11
pub product_within : (model : Model) (l : List Call) (raw : ℕ) → raw ≤ raw_most → turned (setup_in_force model l).reversed raw * scale_factor (setup_in_force model l) ≤ most_product
product_within model l raw b =
    let u : Setup = setup_in_force model l in
    omega (arith, mul-le-mul {n₂ = 1023} {m₂ = 1024} (turned_below u.reversed raw b) (ranges model l).setup.most)

sound_below : (g : Configuration) (s : Sample) → sound g s ≡ true → s.raw ≤ raw_most
unfolding sound
sound_below g s e = leb-true s.raw raw_most (and_parts (leb s.raw raw_most) _ e).0

-- so of every step that is not answered 11
pub step_product : (model : Model) (l : List Call) (s : Sample) → sound (configuration_of model l) s ≡ true
    → turned_in model l s * scale_factor (setup_in_force model l) ≤ most_product
unfolding turned_in
step_product model l s e = product_within model l s.raw (sound_below (configuration_of model l) s e)

-- the raw of the last step not answered 11 is in range
pub last_raw_below : (model : Model) (l : List Call) → last_raw model l ≤ raw_most
unfolding last_raw
last_raw_below model [] = lit≤ tt
last_raw_below model (Step s ∷ l) =
    elim (cases_Bool (sound (configuration_of model l) s)) [ inl q ↦ rw q (sound_below (configuration_of model l) s q) | inr q ↦ rw q (last_raw_below model l) ]
last_raw_below model (FileCall kind file ∷ l) = last_raw_below model l
last_raw_below model (NudgeCall w ∷ l) = last_raw_below model l
last_raw_below model (ByteCall a ∷ l) = last_raw_below model l

-- so, after an accepted setup cycle with the Preset bit, of the raw position that it went by
pub preset_product : (model : Model) (l : List Call) → turned (setup_in_force model l).reversed (last_raw model l) * scale_factor (setup_in_force model l) ≤ most_product
preset_product model l = product_within model l (last_raw model l) (last_raw_below model l)
