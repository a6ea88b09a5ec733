-- Every module that a card can hold: for each list of calls from power-up no sum or count of the state machine runs over, the movement sums and the scaled
-- position's product are within 02's bounds, setpoints, offsets, presets and shifts are below SF, and what the checks bound is within its bounds. So what Card
-- says of other modules (a sum or a speed modulo 2^32) no card meets. Assumes nothing.
use Prim.Native.Nat.{ℕ, ◌+◌, ◌-◌, ◌*◌, ◌^◌, ◌≤◌, ◌<◌}
use mathlib.Core.Logic.{inl, inr}
use mathlib.Core.Path.{◌≡◌}
use mathlib.Core.Bool.{Bool, true, false, cond}
use mathlib.Core.List.{List, [], ◌∷◌}
use native.Mathlib.Nat.{mod-eq_of_lt, mul-le-mul_right}
use native.Mathlib.Omega.{arith}
use lib.Dec.{ltb, lit<, lit≤}
use lib.Pow.{pow_pos}
use lib.IntN.{ℤ}
use borrow.Author.Tests.{ltb-false, lt-ltb, le-ltb}
use Rattle.std.proofs.lemmas.Bool.{cases_Bool}
use Rattle.std.proofs.lemmas.Nat.{mod_below}
use Rattle.rules.specs.declared.Model.{Model}
use Rattle.rules.specs.declared.Switch.{Switch}
use Rattle.rules.specs.declared.Switch.TheVariants.{Pulse, Timed}
use Rattle.rules.specs.declared.Programming.{Programming}
use Rattle.rules.specs.declared.Scalars.{Scalars}
use Rattle.rules.specs.declared.Setup.{Setup}
use Rattle.rules.specs.declared.Configuration.{Configuration}
use Rattle.rules.specs.declared.Window.{Window}
use Rattle.rules.specs.declared.SinceStart.{SinceStart}
use Rattle.rules.specs.declared.Shown.{Shown}
use Rattle.rules.specs.declared.Module.{Module}
use Rattle.rules.specs.declared.Sample.{Sample}
use Rattle.rules.specs.Motion.{real_input, scale_factor, turned, scaled_position, machine_position, machine_at, window_steps, short_steps, unbiased, c_value, tach_value, tach_shown, real_inputs, conditions, fault_conditions}
use Rattle.rules.specs.Variants.{model_in, real_count, limit_switch}
use Rattle.rules.specs.Counts.{ahead, used_pair}
use Rattle.rules.specs.Switches.{on_setpoint, off_setpoint, timed_steps, present, limit_of, output_on, output_words, answer_of}
use Rattle.rules.specs.Words.{word_of}
use Rattle.rules.specs.Bus.{shown_by}
use Rattle.rules.specs.Calls.{Call, Step, FileCall, NudgeCall, ByteCall, raw_most, sound}
use Rattle.rules.specs.Card.{biased_movement, window_sum, group_state_at, timed_at}
use Rattle.rules.specs.Run.{run}
use Rattle.rules.specs.Sums.{least_big_c, most_big_c, least_c, most_c, most_product, most_tenths}
use Rattle.rules.specs.History.{configuration_of, setup_in_force, conditions_in, outputs_in, last_position, expected_answer, since_module_start, since_group_start, since_limit_start, last_taken, past_of, movements, tenths_at, held_at}
use Rattle.rules.specs.BusHistory.{last_shown}
use Rattle.rules.proofs.Packing.{packed_lt, packed_below}
use Rattle.rules.proofs.GroupPast.{shift_below}
use Rattle.rules.proofs.Timed.{passed_of}
use Rattle.rules.proofs.Windows.{steps_below, sum_fits, biased_below, long_some, long_small}
use Rattle.rules.proofs.Laws.{ahead_below}
use Rattle.rules.proofs.Trains.{Separate, separate}
use Rattle.rules.proofs.Tenths.{tenths_within}
use Rattle.rules.proofs.Sums.{Between, sums_within, sums_held, magnitude_in, product_within, last_raw_below}
use Rattle.rules.proofs.Ranges.{SwitchWithin, Within, ranges}
use Rattle.rules.proofs.Programs.{model_is}
use Rattle.rules.proofs.Agreement.{configuration_is, agrees}
use Rattle.rules.proofs.RackBus.{shown_is}
use Rattle.rules.proofs.Theorem.{raw_is}

-- a window of so many steps: its count is below them, the sum that its number stands for is from a to b, and the number with a movement more, whatever q comes,
-- fits 32 bits
pub record WindowWithin (size : ℕ) (a b : ℤ) (w : Window) (next : ℕ → ℕ) : Type 0 where
  pub steps : w.steps < size
  pub value : Between a b (unbiased w.steps w.sum)
  pub sum : (q : ℕ) → w.sum + next q < 2 ^ 32

pub record StateWithin (p : Programming) (x : SinceStart) : Type 0 where
  pub short : WindowWithin short_steps least_c most_c x.speed.short (biased_movement x.speed.last)
  pub long : WindowWithin (window_steps p.setup.fast) least_big_c most_big_c x.speed.long (biased_movement x.speed.last)
  pub c : Between least_c most_c (c_value x.speed.c)
  pub tenths : x.speed.tenths ≤ most_tenths
  pub shift : (n : ℕ) → n < 6 → (group_state_at x n).shift < scale_factor p.setup
  pub left : (n t : ℕ) → n < 32 → limit_switch (limit_of p n) ≡ Timed t → (timed_at x n).left ≤ timed_steps t

-- what the last step showed; figure 5.1 of real outputs and inputs: "Always 0000h for 8511, 00FFh Max. for 8512."
pub record ShownWithin (model : Model) (x : Shown) : Type 0 where
  pub position : x.position.0 < 1024
  pub tach : x.tach ≤ 32767
  pub real : x.real < 2 ^ real_count model
  pub virtuals : x.virtuals < 2 ^ 16
  pub inputs : x.inputs < 2 ^ real_count model

-- q × SF: of every raw position that is not answered 11, of which the last step's is one
pub record PositionWithin (g : Configuration) : Type 0 where
  pub raw : g.raw ≤ raw_most
  pub product : (raw : ℕ) → raw ≤ raw_most → turned g.programming.setup.reversed raw * scale_factor g.programming.setup ≤ most_product

pub record ModuleWithin (x : Module) : Type 0 where
  pub programming : Within x.configuration.programming
  pub position : PositionWithin x.configuration
  pub state : StateWithin x.configuration.programming x.state.since
  pub shown : ShownWithin (model_in x.configuration) x.state.kept.shown

-- where the sum fits, `window_sum` is the plain sum
pub plain_sum : (size : ℕ) (a b : ℤ) (w : Window) (next : ℕ → ℕ) → WindowWithin size a b w next → (q : ℕ) → window_sum w (next q) ≡ w.sum + next q
unfolding window_sum
plain_sum size a b w next k q = mod-eq_of_lt (k.sum q)

left_below : (n passed : ℕ) (held : Bool) → cond held (n - passed) 0 ≤ n
left_below n passed true = omega arith
left_below n passed false = omega arith

state_within : (model : Model) (l : List Call) → StateWithin (configuration_of model l).programming (run model l).state.since
state_within model l =
    let k = agrees model l in
    let h = sums_held model l in
    let i = sums_within model l in
    let p : Programming = (configuration_of model l).programming in
    let x : SinceStart = (run model l).state.since in
    record {
      short = record {
        steps = steps_below short_steps (lit< tt) (lit≤ tt) (movements (since_module_start model l)) x.speed.short k.speed.short;
        value = rw h.short i.short;
        sum = λ q. sum_fits short_steps (lit< tt) (lit≤ tt) (movements (since_module_start model l)) x.speed.short k.speed.short
            (biased_movement x.speed.last q) (biased_below x.speed.last q);
      };
      long = record {
        steps = steps_below (window_steps p.setup.fast) (long_some _) (long_small _) (movements (since_module_start model l)) x.speed.long k.speed.long;
        value = rw h.long (i.long p.setup.fast);
        sum = λ q. sum_fits (window_steps p.setup.fast) (long_some _) (long_small _) (movements (since_module_start model l)) x.speed.long k.speed.long
            (biased_movement x.speed.last q) (biased_below x.speed.last q);
      };
      c = rw h.c i.c;
      tenths = rw k.speed.tenths (unfold tenths_at in tenths_within p.setup.fast _ (magnitude_in p.setup.fast (since_module_start model l)));
      shift = λ n b. rw (k.groups n b).shift (shift_below p.setup.top (last_taken (past_of (since_group_start model l n))));
      left = λ n t b e. rw (k.timed n b t e).left (left_below (timed_steps t) (passed_of (since_limit_start model l n)) (held_at (since_limit_start model l n)));
    }

-- ---- What the last step showed

below_1024 : (model : Model) (l : List Call) (raw : ℕ) → (machine_position (setup_in_force model l) raw).0 < 1024
unfolding machine_position
below_1024 model l raw =
    let u : Setup = setup_in_force model l in
    let a = mod_below (scaled_position (scale_factor u) (turned u.reversed raw) + u.offset) (u.top + 1) (omega arith) in
    let b = (ranges model l).setup.most in
    omega arith

last_below : (model : Model) (l : List Call) → (last_position model l).0 < 1024
unfolding last_position machine_at
last_below model [] = lit< tt
last_below model (Step s ∷ l) = elim (cases_Bool (sound (configuration_of model l) s)) [ inl q ↦ rw q (below_1024 model l s.raw) | inr q ↦ rw q (last_below model l) ]
last_below model (FileCall kind file ∷ l) = last_below model l
last_below model (NudgeCall w ∷ l) = last_below model l
last_below model (ByteCall a ∷ l) = last_below model l

answer_below : (model : Model) (l : List Call) (s : Sample) → (expected_answer model l s).position.0 < 1024
unfolding expected_answer answer_of conditions_in conditions fault_conditions machine_at
answer_below model l s = elim (cases_Bool (sound (configuration_of model l) s)) [ inl q ↦ rw q (below_1024 model l s.raw) | inr q ↦ rw q (last_below model l) ]

tach_below : (k : Scalars) (tenths : ℕ) → tach_shown k tenths ≤ 32767
unfolding tach_shown
tach_below k tenths = elim (cases_Bool (ltb 32767 (tach_value k tenths))) [ inl q ↦ rw q (omega arith) | inr q ↦ let h = ltb-false 32767 (tach_value k tenths) q in rw q (omega arith) ]

real_below : (model : Model) (s : Sample) (rule : ℕ → Bool) → word_of 0 (output_on model s rule) < 2 ^ real_count model
unfolding output_on present
real_below model s rule =
    packed_below 16 0 (real_count model) _ (λ k b c. let z : 0 + k ≡ k = omega arith in rw (z, lt-ltb k 16 c, le-ltb k (real_count model) b))

inputs_below : (model : Model) (l : List Call) (s : Sample) → real_inputs (configuration_of model l) s < 2 ^ real_count model
unfolding real_inputs real_input
inputs_below model l s =
    rw (model_is model l) (packed_below 16 0 (real_count model) _ (λ k b c. let z : 0 + k ≡ k = omega arith in rw (z, le-ltb k (real_count model) b)))

step_within : (model : Model) (l : List Call) (s : Sample) → ShownWithin model (shown_by (expected_answer model l s) (real_inputs (configuration_of model l) s))
unfolding shown_by
step_within model l s = record {
  position = answer_below model l s;
  tach = unfold expected_answer answer_of in tach_below _ _;
  real = unfold expected_answer answer_of outputs_in output_words in real_below model s _;
  virtuals = unfold expected_answer answer_of outputs_in output_words in packed_lt 16 16 _;
  inputs = inputs_below model l s;
}

shown_within : (model : Model) (l : List Call) → ShownWithin model (last_shown model l)
unfolding last_shown
shown_within model [] = record { position = lit< tt; tach = lit≤ tt; real = pow_pos (real_count model); virtuals = lit< tt; inputs = pow_pos (real_count model) }
shown_within model (Step s ∷ l) = step_within model l s
shown_within model (FileCall kind file ∷ l) = shown_within model l
shown_within model (NudgeCall w ∷ l) = shown_within model l
shown_within model (ByteCall a ∷ l) = shown_within model l

-- THE REACHABLE MODULES
pub reachable : (model : Model) (l : List Call) → ModuleWithin (run model l)
reachable model l = record {
  programming = rw (configuration_is model l) (ranges model l);
  position = rw (configuration_is model l) (record { raw = rw (raw_is model l) (last_raw_below model l); product = product_within model l });
  state = rw (configuration_is model l) (state_within model l);
  shown = rw (configuration_is model l, model_is model l, shown_is model l) (shown_within model l);
}

-- ---- The switches of a reachable module, by output from 0

-- R of a switch: (off − on) mod SF of its first pair, unmoved
abbrev pub train_length : Programming → ℕ → ℕ
train_length p n = ahead (scale_factor p.setup) (on_setpoint (limit_of p n) 0) (off_setpoint (limit_of p n) 0)

-- its first pair is used; "0/0 is unused"
abbrev pub first_used : Programming → ℕ → Bool
first_used p n = used_pair (on_setpoint (limit_of p n) 0) (off_setpoint (limit_of p n) 0)

module _ (model : Model) (l : List Call) (n : ℕ) where
  abbrev p : Programming
  p = (run model l).configuration.programming

  first : (s : Switch) → limit_switch (limit_of p n) ≡ s → SwitchWithin (scale_factor p.setup) s (on_setpoint (limit_of p n) 0) (off_setpoint (limit_of p n) 0)
  first s e = rw e at ((reachable model l).programming.limits n).switch

  -- "Q pulses of K counts, both at least 1", and R ≥ Q × K + Q − 1
  pub used_pulse : (q k : ℕ) → limit_switch (limit_of p n) ≡ Pulse q k → first_used p n ≡ true → (1 ≤ q) × (1 ≤ k) × (q * k + q - 1 ≤ train_length p n)
  used_pulse q k e u = first (Pulse q k) e u

  -- its pulses are at least one count apart, and exactly Q fall in its length, however often it was nudged
  pub running_train : (q k : ℕ) → limit_switch (limit_of p n) ≡ Pulse q k → first_used p n ≡ true → Separate (scale_factor p.setup) (train_length p n) q k
  running_train q k e u =
      let t : ℕ = p.setup.top in
      let f = used_pulse q k e u in
      separate (t + 1) (train_length p n) q k (ahead_below t (on_setpoint (limit_of p n) 0) (off_setpoint (limit_of p n) 0)) f.0 f.1 (omega (arith, f.2))

  -- so R − K and Q − 1 of "floor(j × (R − K) / (Q − 1))" are the plain differences
  pub plain_pulse : (q k : ℕ) → limit_switch (limit_of p n) ≡ Pulse q k → first_used p n ≡ true → (k ≤ train_length p n) × (1 ≤ q)
  plain_pulse q k e u =
      let f = used_pulse q k e u in
      let a = f.0 in
      let b = f.2 in
      (omega (arith, mul-le-mul_right {m = 1} {n = q} k a), a)

  -- "T in ms, 1 to 9999"
  pub used_timed : (t : ℕ) → limit_switch (limit_of p n) ≡ Timed t → first_used p n ≡ true → (1 ≤ t) × (t ≤ 9999)
  used_timed t e u = first (Timed t) e u
