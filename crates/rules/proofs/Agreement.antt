-- The module that a list of calls leaves agrees with what 01 says of the list: its configuration, its speed, each group's and each timed output's state.
-- Assumes nothing.
use Prim.Native.Nat.{ℕ, zero, suc, ◌+◌, ◌<◌}
use mathlib.Core.Path.{◌≡◌, refl, ap, ◌∙◌}
use mathlib.Core.Bool.{Bool, true, false, cond, not}
use mathlib.Core.List.{List, [], ◌∷◌}
use native.Mathlib.Omega.{arith}
use lib.ListN.{get_or, set, replicate, get_or-replicate}
use lib.Dec.{ltb}
use Rattle.std.proofs.lemmas.Nat.{mod_below}
use Rattle.rules.specs.declared.Model.{Model}
use Rattle.rules.specs.declared.Limit.{Limit}
use Rattle.rules.specs.declared.Programming.{Programming}
use Rattle.rules.specs.declared.Configuration.{Configuration}
use Rattle.rules.specs.declared.SinceStart.{SinceStart}
use Rattle.rules.specs.declared.Module.{Module}
use Rattle.rules.specs.declared.Sample.{Sample}
use Rattle.rules.specs.declared.FileCycle.TheVariants.{SetupCycle, GroupCycle, LimitCycle}
use Rattle.rules.specs.Words.{bit}
use Rattle.rules.specs.Variants.{group_mode, limit_switch}
use Rattle.rules.specs.Motion.{scale_factor, turned, machine_position, machine_at, conditions}
use Rattle.rules.specs.Groups.{group_at, group_event}
use Rattle.rules.specs.Switches.{limit_of, past_limits}
use Rattle.rules.specs.GroupWords.{with_groups}
use Rattle.rules.specs.LimitWords.{with_limits}
use Rattle.rules.specs.FileCycle.{brought}
use Rattle.rules.specs.Nudge.{nudge_clear_bit, nudge_output, nudged_limit, nudged_programming}
use Rattle.rules.specs.Calls.{Read, Write, Call, Step, FileCall, NudgeCall, ByteCall, sound, configuration_after}
use Rattle.rules.specs.Card.{speed_after, group_after, speed_now, conditions_now, group_now, left_position, open_now, groups_now, positions_now, openness_now, timed_after, timed_now, timed_of, group_state_at, fresh_group, timed_at, fresh_timed, module_start, group_start, limit_start, start_of, since_after, fresh_module, file_call, nudge_call, since_now, step_state, step_call, write_call}
use Rattle.rules.specs.Run.{accessed, module_after, run}
use Rattle.rules.specs.History.{configuration_of, programming_of, is_module_start, is_group_start, is_limit_start, since, turned_in, since_module_start, up_to_step, tenths_in, conditions_in, GroupStep, past_of, group_step_in, since_group_start, group_past, position_in, open_in, positions_in, openness_in, pair_in, since_limit_start, lasts_in}
use Rattle.rules.proofs.Packing.{get_d_table_0, table_same}
use Rattle.rules.proofs.GroupPast.{GroupLink, group_step, group_fresh, position_is, open_is}
use Rattle.rules.proofs.Timed.{TimedLink, timed_step, timed_fresh, lasting_is}
use Rattle.rules.proofs.Windows.{SpeedLink, speed_step, speed_fresh, c_held, tenths_are, updates_is}
use Rattle.rules.proofs.Cycles.{either_way, file_leaves, nudge_leaves, step_programming}

-- ---- The configuration

call_configuration : (x : Module) (call : Call) → (module_after x call).configuration ≡ configuration_after x.configuration call
unfolding accessed module_after configuration_after step_call file_call nudge_call write_call
call_configuration x (Step s) = refl
call_configuration x (FileCall kind file) = refl
call_configuration x (NudgeCall w) = refl
call_configuration x (ByteCall (Read n)) = refl
call_configuration x (ByteCall (Write n v)) = refl

pub configuration_is : (model : Model) (l : List Call) → (run model l).configuration ≡ configuration_of model l
unfolding run configuration_of fresh_module
configuration_is model [] = refl
configuration_is model (call ∷ l) = call_configuration (run model l) call ∙ ap (λ (g : Configuration). configuration_after g call) (configuration_is model l)

-- ---- The state

-- a group, with the number n from 0: its state is that of its steps since its start
abbrev pub GroupAgrees : Programming → SinceStart → ℕ → List GroupStep → Type 0
GroupAgrees p x n steps = GroupLink (scale_factor p.setup) (group_mode (group_at p n)) (group_state_at x n) (past_of steps)

-- a timed output likewise, from what its pair did
abbrev pub TimedAgrees : Programming → SinceStart → ℕ → List Bool → Type 0
TimedAgrees p x n pairs = TimedLink (limit_switch (limit_of p n)) (timed_at x n) pairs

-- where the programming is p, the state is that of the steps since each start
pub record Agrees (p : Programming) (x : SinceStart) (qs : List ℕ) (steps : ℕ → List GroupStep) (pairs : ℕ → List Bool) : Type 0 where
  pub speed : SpeedLink p.setup.fast x.speed qs
  pub groups : (n : ℕ) → n < 6 → GroupAgrees p x n (steps n)
  pub timed : (n : ℕ) → n < 32 → TimedAgrees p x n (pairs n)

fresh_groups : (sf : ℕ) (p : Programming) (n : ℕ) → n < 6
    → GroupLink sf (group_mode (group_at p n)) (get_or (replicate 6 fresh_group) n fresh_group) (past_of [])
unfolding past_of
fresh_groups sf p n b = rw (get_or-replicate 6 n fresh_group fresh_group b) (group_fresh sf (group_mode (group_at p n)))

fresh_timed_lem : (p : Programming) (n : ℕ) → n < 32 → TimedLink (limit_switch (limit_of p n)) (get_or (replicate 32 fresh_timed) n fresh_timed) []
fresh_timed_lem p n b = rw (get_or-replicate 32 n fresh_timed fresh_timed b) (timed_fresh (limit_switch (limit_of p n)))

started : (p : Programming) → Agrees p module_start [] (λ _. []) (λ _. [])
unfolding module_start
started p = record {
  speed = speed_fresh p.setup.fast;
  groups = fresh_groups (scale_factor p.setup) p;
  timed = fresh_timed_lem p;
}

-- a nudge changes no switch's type
switch_stays : (ls : List Limit) (i n w : ℕ) → (get_or (set ls i (nudged_limit (get_or ls i past_limits) w)) n past_limits).action ≡ (get_or ls n past_limits).action
unfolding nudged_limit
switch_stays [] i n w = refl
switch_stays (x ∷ ls) zero zero w = refl
switch_stays (x ∷ ls) zero (suc n) w = refl
switch_stays (x ∷ ls) (suc i) zero w = refl
switch_stays (x ∷ ls) (suc i) (suc n) w = switch_stays ls i n w

nudged_agrees : (p : Programming) (w : ℕ) (ends : Bool) (x : SinceStart) (qs : List ℕ) (steps : ℕ → List GroupStep) (pairs : ℕ → List Bool)
    → Agrees p x qs steps pairs → Agrees (cond ends p (nudged_programming p w)) x qs steps pairs
nudged_agrees p w true x qs steps pairs k = k
nudged_agrees p w false x qs steps pairs k = unfold nudged_programming with_limits in (record {
  speed = k.speed;
  groups = k.groups;
  timed = λ n b. rw (switch_stays p.limits (nudge_output w) n w) (k.timed n b);
})

-- ---- A step

module _ (model : Model) (l : List Call) (x : SinceStart) (k : Agrees (programming_of model l) x (since_module_start model l) (since_group_start model l) (since_limit_start model l)) (s : Sample) where
  abbrev g : Configuration
  g = configuration_of model l

  abbrev p : Programming
  p = programming_of model l

  abbrev q : ℕ
  q = turned p.setup.reversed s.raw

  -- what the groups and outputs read: c, the tenths and their updates are those of the history
  pub conditions_are : conditions_now g x s ≡ conditions_in model l s
  unfolding conditions_now conditions_in speed_now speed_after tenths_in turned_in
  conditions_are =
      rw (
        c_held p.setup x.speed (since_module_start model l) k.speed q,
        tenths_are p.setup x.speed (since_module_start model l) k.speed q,
        updates_is p.setup x.speed (since_module_start model l) k.speed q,
      )

  event_below : (n : ℕ) → (group_event (conditions_in model l s) (group_at p n) n).machine.0 < p.setup.top + 1
  unfolding group_event conditions_in conditions machine_at machine_position
  event_below n = mod_below _ (p.setup.top + 1) (omega arith)

  -- a group
  module _ (n : ℕ) (b : n < 6) where
    group_in : GroupLink (scale_factor p.setup) (group_mode (group_at p n)) (group_now (conditions_in model l s) (group_at p n) (group_state_at x n) n) (group_past model l s n)
    unfolding group_now group_past group_step_in past_of conditions_in conditions
    group_in =
        group_step p.setup.top (group_at p n) (group_state_at x n) (group_event (conditions_in model l s) (group_at p n) n) (past_of (since_group_start model l n)) (k.groups n b) (event_below n)

    position_in_lem : left_position (conditions_in model l s) (group_at p n) (group_state_at x n) n ≡ position_in model l s n
    unfolding left_position position_in group_past group_step_in past_of conditions_in conditions
    position_in_lem =
        rw (position_is p.setup.top (group_at p n) (group_state_at x n) (group_event (conditions_in model l s) (group_at p n) n) (past_of (since_group_start model l n)) (k.groups n b) (event_below n))

    pub open_in_lem : open_now (conditions_in model l s) (group_at p n) (group_state_at x n) n ≡ open_in model l s n
    unfolding open_now open_in group_now group_after group_past group_step_in past_of conditions_in conditions
    open_in_lem =
        open_is p.setup.top (group_at p n) (group_state_at x n) (group_event (conditions_in model l s) (group_at p n) n) (past_of (since_group_start model l n)) (k.groups n b) (event_below n)

  -- the six groups
  pub positions_in_lem : positions_now (conditions_in model l s) p.groups x.groups ≡ positions_in model l s
  unfolding positions_now positions_in
  positions_in_lem = table_same 6 0 _ _ (λ n a b. position_in_lem n b)

  pub openness_in_lem : openness_now (conditions_in model l s) p.groups x.groups ≡ openness_in model l s
  unfolding openness_now openness_in
  openness_in_lem = table_same 6 0 _ _ (λ n a b. open_in_lem n b)

  -- a timed output's pair, and the steps left to it
  timed_is : (n : ℕ) → timed_of p (conditions_in model l s) (positions_in model l s) x.timed n
      ≡ timed_after (limit_switch (limit_of p n)) (pair_in model n l s) (timed_at x n)
  unfolding timed_of timed_now pair_in
  timed_is n = refl

  pub lasting_in : (n : ℕ) → n < 32 → ltb 0 (timed_of p (conditions_in model l s) (positions_in model l s) x.timed n).left ≡ lasts_in model l s n
  unfolding lasts_in
  lasting_in n b = rw (timed_is n) (lasting_is (limit_switch (limit_of p n)) (pair_in model n l s) (timed_at x n) (since_limit_start model l n) (k.timed n b))

  timed_in : (n : ℕ) → n < 32 → TimedLink (limit_switch (limit_of p n)) (timed_of p (conditions_in model l s) (positions_in model l s) x.timed n) (pair_in model n l s ∷ since_limit_start model l n)
  timed_in n b = rw (timed_is n) (timed_step (limit_switch (limit_of p n)) (pair_in model n l s) (timed_at x n) (since_limit_start model l n) (k.timed n b))

  step_agrees : Agrees p (since_after p (conditions_in model l s) (speed_now p.setup x.speed s) x) (up_to_step model l s) (λ n. group_step_in model n l s ∷ since_group_start model l n) (λ n. pair_in model n l s ∷ since_limit_start model l n)
  unfolding since_after groups_now
  step_agrees = record {
    speed = unfold speed_now turned_in in speed_step p.setup x.speed (since_module_start model l) k.speed q;
    groups = λ n b. rw (get_d_table_0 6 (λ n. group_now (conditions_in model l s) (group_at p n) (group_state_at x n) n) fresh_group n b) (unfold group_past in group_in n b);
    timed = λ n b. rw (positions_in_lem, get_d_table_0 32 (timed_of p (conditions_in model l s) (positions_in model l s) x.timed) fresh_timed n b) (timed_in n b);
  }

  -- a step answered 11 is a module start
  sample_agrees : (ok : Bool)
      → Agrees p (cond ok (since_after p (conditions_now g x s) (speed_now p.setup x.speed s) x) module_start) (cond (not ok) [] (up_to_step model l s))
      (λ n. cond (not ok) [] (group_step_in model n l s ∷ since_group_start model l n)) (λ n. cond (not ok) [] (pair_in model n l s ∷ since_limit_start model l n))
  sample_agrees true = rw conditions_are step_agrees
  sample_agrees false = started p

-- ---- The cycles: accepted, each is its start; else nothing comes of it

module _ (g : Configuration) (x : SinceStart) (qs : List ℕ) (steps : ℕ → List GroupStep) (pairs : ℕ → List Bool) (k : Agrees g.programming x qs steps pairs) where
  group_started : (file : List ℕ) → Agrees (brought GroupCycle g file) (group_start x) qs (λ _. []) (λ _. [])
  unfolding brought with_groups group_start
  group_started file = record {
    speed = k.speed;
    groups = fresh_groups (scale_factor g.programming.setup) (brought GroupCycle g file);
    timed = fresh_timed_lem (brought GroupCycle g file);
  }

  limit_started : (file : List ℕ) → Agrees (brought LimitCycle g file) (limit_start x) qs steps (λ _. [])
  unfolding brought with_limits limit_start
  limit_started file = record { speed = k.speed; groups = k.groups; timed = fresh_timed_lem (brought LimitCycle g file) }

-- ---- Every list

pub agrees : (model : Model) (l : List Call)
    → Agrees (programming_of model l) (run model l).state.since (since_module_start model l) (since_group_start model l) (since_limit_start model l)
unfolding run configuration_of accessed module_after configuration_after since_module_start since_group_start since_limit_start since is_module_start is_group_start is_limit_start fresh_module step_call step_state since_now file_call start_of nudge_call write_call
agrees model [] = started _
agrees model (Step s ∷ l) =
    rw (configuration_is model l, step_programming (configuration_of model l) s)
    (sample_agrees model l (run model l).state.since (agrees model l) s (sound (configuration_of model l) s))
agrees model (FileCall SetupCycle file ∷ l) =
    let x : SinceStart = (run model l).state.since in
    rw (configuration_is model l)
    (either_way (file_leaves SetupCycle (configuration_of model l) file)
    (λ p q. Agrees p (cond q module_start x) (cond q [] (since_module_start model l)) (λ n. cond q [] (since_group_start model l n)) (λ n. cond q [] (since_limit_start model l n)))
    (λ _. started _) (agrees model l))
agrees model (FileCall GroupCycle file ∷ l) =
    let x : SinceStart = (run model l).state.since in
    rw (configuration_is model l)
    (either_way (file_leaves GroupCycle (configuration_of model l) file)
    (λ p q. Agrees p (cond q (group_start x) x) (since_module_start model l) (λ n. cond q [] (since_group_start model l n)) (λ n. cond q [] (since_limit_start model l n)))
    (λ _. group_started (configuration_of model l) x _ _ _ (agrees model l) file) (agrees model l))
agrees model (FileCall LimitCycle file ∷ l) =
    let x : SinceStart = (run model l).state.since in
    rw (configuration_is model l)
    (either_way (file_leaves LimitCycle (configuration_of model l) file)
    (λ p q. Agrees p (cond q (limit_start x) x) (since_module_start model l) (since_group_start model l) (λ n. cond q [] (since_limit_start model l n)))
    (λ _. limit_started (configuration_of model l) x _ _ _ (agrees model l) file) (agrees model l))
agrees model (NudgeCall w ∷ l) =
    let x : SinceStart = (run model l).state.since in
    rw (configuration_is model l)
    (either_way (nudge_leaves (configuration_of model l) w) (λ p q. Agrees p (cond q x x) (since_module_start model l) (since_group_start model l) (since_limit_start model l))
    (λ _. nudged_agrees (programming_of model l) w (bit w nudge_clear_bit) x _ _ _ (agrees model l)) (agrees model l))
agrees model (ByteCall (Read n) ∷ l) = agrees model l
agrees model (ByteCall (Write n v) ∷ l) = agrees model l
