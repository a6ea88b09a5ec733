-- A group's state is its past: each field of the state says what History says of the group's steps since its start, and goes on so by a step.
-- Assumes nothing.
use Prim.Native.Nat.{ℕ, ◌+◌, ◌%◌, ◌<◌}
use mathlib.Core.Path.{◌≡◌, refl, sym, ap, ◌∙◌}
use mathlib.Core.Bool.{Bool, true, false, cond, not, ◌&&◌, ◌||◌, or-false, and-false, and_self_left, true≢false}
use mathlib.Core.List.{List, [], ◌∷◌}
use mathlib.Core.Option.{Option, none, some}
use mathlib.Core.Logic.{inl, inr}
use native.Mathlib.Omega.{arith}
use native.Mathlib.Nat.{add-zero, mod-eq_of_lt, add-mod-mod, add_left_comm}
use lib.Dec.{eqb}
use borrow.Author.Tests.{not-true}
use Rattle.std.proofs.lemmas.Bool.{and_parts, cases_Bool}
use Rattle.rules.specs.declared.MachinePosition.{MachinePosition}
use Rattle.rules.specs.declared.Mode.{Mode}
use Rattle.rules.specs.declared.Mode.TheVariants.{NoMode, Mode0, Mode1, Mode2, Mode3, Mode4, Mode5}
use Rattle.rules.specs.declared.Group.{Group}
use Rattle.rules.specs.declared.GroupState.{GroupState}
use Rattle.rules.specs.declared.Event.{Event}
use Rattle.rules.specs.Motion.{is_stop}
use Rattle.rules.specs.Variants.{group_mode}
use Rattle.rules.specs.Counts.{ahead}
use Rattle.rules.specs.Groups.{group_position, preset_shift, presets, edge, stops, running, is_open}
use Rattle.rules.specs.Card.{position_by, begins_now, takes_now, shift_now, position_now, held_now, qualified_now, opened_now, group_after, fresh_group}
use Rattle.rules.specs.Quant.{exists, after_each, no_later, latest_saw}
use Rattle.rules.specs.History.{GroupStep, PastStep, begins_at, takes_at, level_at, first_at, edge_at, first_edge_at, stop_at, running_at, last_taken, preset_position, position_from, position_at, dwell_at, begins, takes, latest_dwell_saw, qualifies_at, counts_at, open_at}
use Rattle.rules.proofs.Laws.{ahead_natural, ahead_below}
use Rattle.rules.proofs.Past.{none_of, all_of, now, after_step, later_step}
use Rattle.rules.proofs.Stretch.{Lawful, saw_step}

-- ---- Positions

-- the shift that a last taken edge leaves
pub shift_of : ℕ → Option PastStep → ℕ
shift_of sf none = 0
shift_of sf (some s) = preset_shift sf s.program.offset s.event.machine

pub shift_below : (t : ℕ) (o : Option PastStep) → shift_of (t + 1) o < t + 1
unfolding shift_of preset_shift
shift_below t none = omega arith
shift_below t (some s) = ahead_below t s.event.machine.0 s.program.offset

-- Machine Position plus the shift is the preset plus the travel
preset_travel : (t m from preset : ℕ) → (m + ahead (t + 1) from preset) % (t + 1) ≡ (preset + ahead (t + 1) from m) % (t + 1)
preset_travel t m from preset = rw (ahead_natural t from preset, ahead_natural t from m) (simp (add-mod-mod, add_left_comm))

position : (t : ℕ) (g : Group) (o : Option PastStep) (m : MachinePosition) → m.0 < t + 1
    → position_by (t + 1) g (shift_of (t + 1) o) m ≡ position_from (t + 1) g o m
unfolding position_by position_from
position t g o m b = go (presets (group_mode g)) o
  where
    go : (q : Bool) (o : Option PastStep)
        → group_position (t + 1) (cond q (shift_of (t + 1) o) g.offset) m ≡ cond q (preset_position (t + 1) o m) (group_position (t + 1) g.offset m)
    go false o = refl
    go true none = unfold group_position shift_of preset_position in λ i. record { 0 = (ap (λ (n : ℕ). n % (t + 1)) (add-zero m.0) ∙ mod-eq_of_lt b) i }
    go true (some s) =
        unfold group_position shift_of preset_position preset_shift in λ i. record { 0 = preset_travel t m.0 s.event.machine.0 s.program.offset i }

-- ---- The link

pub record GroupLink (sf : ℕ) (mode : Mode) (x : GroupState) (h : List PastStep) : Type 0 where
  pub level : x.level ≡ level_at h
  pub first : x.first ≡ first_at h
  pub held : x.held ≡ dwell_at h
  pub shift : x.shift ≡ shift_of sf (last_taken h)
  pub taken : x.taken ≡ exists takes_at h
  pub begun : x.begun ≡ after_each begins_at takes_at h
  pub qualified : presets mode ≡ false → x.qualified ≡ latest_dwell_saw qualifies_at h
  pub lawful : presets mode ≡ false → Lawful begins_at dwell_at h
  pub isopen : is_open mode (level_at h) x.opened ≡ open_at mode h

-- a stretch's step in the state's form
settle : (b h n x l : Bool) → b ≡ (h && n) → cond b x ((h && x) || l) ≡ ((h && x) || (not b && l))
settle true true n x l e = sym (or-false x)
settle true false n x l e = absurd (true≢false e)
settle false h n x l e = refl

-- Mode 5: a this step qualifies, b a dwell begins, z it is a stop, f an edge of First Cycle, l the latest dwell saw a qualifying step, n no stop came since
mode5_step : (a b z f l n : Bool) → (a ≡ true → z ≡ false)
    → ((f && (a || (not b && l))) || (not z && (a || (not b && (l && n)))))
    ≡ ((a || (not b && l)) && ((a || (f && (a || (not b && l)))) || (not z && n)))
mode5_step true b z true l n e = refl
mode5_step true b z false l n e = rw (e refl)
mode5_step false true z f l n e = simp and-false
mode5_step false false z f true n e = refl
mode5_step false false z f false n e = simp and-false

-- a stop never qualifies
pub no_stop : (h : Bool) (e : Event) → (h && running e) ≡ true → stops e ≡ false
unfolding running stops is_stop
no_stop h e t =
    let r : eqb e.tenths 0 ≡ false =
    not-true (eqb e.tenths 0) (and_parts e.level (not (eqb e.tenths 0)) (and_parts h (e.level && not (eqb e.tenths 0)) t).1).1 in
    rw (r, and-false)

module _ (t : ℕ) (g : Group) (x : GroupState) (e : Event) (h : List PastStep) (k : GroupLink (t + 1) (group_mode g) x h) (b : e.machine.0 < t + 1) where
  abbrev pub S : GroupStep
  S = record { sf = t + 1; program = g; event = e }

  begins_is : begins_now (t + 1) g x e ≡ begins S h
  unfolding begins_now begins
  begins_is = rw (k.held, k.shift, position t g (last_taken h) e.machine b)

  takes_is : takes_now (t + 1) g x e ≡ takes S h
  unfolding takes_now takes
  takes_is = rw (begins_is, k.level, k.taken, k.begun)

  -- the step as a past step, and the past with it
  abbrev P : PastStep
  P = record { sf = t + 1; program = g; event = e; begins = begins S h; takes = takes S h }

  abbrev pub N : List PastStep
  N = P ∷ h

  shift_is : shift_now (t + 1) g x e ≡ shift_of (t + 1) (last_taken N)
  unfolding shift_now shift_of last_taken
  shift_is = rw (takes_is, k.shift) (elim (cases_Bool (takes S h)) [ inl q ↦ rw q | inr q ↦ rw q ])

  pub position_is : position_now (t + 1) g x e ≡ position_at N
  unfolding position_now position_at
  position_is = rw shift_is (position t g (last_taken N) e.machine b)

  held_is : held_now (t + 1) g x e ≡ dwell_at N
  unfolding held_now dwell_at
  held_is = rw position_is

  b_is : begins_now (t + 1) g x e ≡ begins_at N
  unfolding begins_at
  b_is = begins_is

  t_is : takes_now (t + 1) g x e ≡ takes_at N
  unfolding takes_at
  t_is = takes_is

  taken_is : (takes_now (t + 1) g x e || x.taken) ≡ exists takes_at N
  taken_is = rw (t_is, k.taken)

  begun_is : (not (takes_now (t + 1) g x e) && (begins_now (t + 1) g x e || x.begun)) ≡ after_each begins_at takes_at N
  begun_is = rw (t_is, b_is, k.begun) (sym (after_step begins_at takes_at P h))

  -- ---- Modes 4 and 5: no edge is taken, and a dwell begins where its pair begins to hold

  lawful_is : presets (group_mode g) ≡ false → Lawful begins_at dwell_at N
  lawful_is q = all_of (unfold begins_at begins dwell_at position_at position_from in rw q) (k.lawful q)

  -- the latest dwell goes on as the state does
  saw_is : (X : List PastStep → Bool) → presets (group_mode g) ≡ false → latest_dwell_saw X N ≡ ((dwell_at N && X N) || (not (begins_at N) && latest_dwell_saw X h))
  unfolding latest_dwell_saw
  saw_is X q =
      saw_step begins_at dwell_at X (unfold dwell_at in refl) P h (lawful_is q)
      ∙ settle (begins_at N) (dwell_at N) (not (dwell_at h)) (X N) (latest_saw begins_at dwell_at X h) (lawful_is q N now)

  qualifies_is : (dwell_at N && qualifies_at N) ≡ (dwell_at N && running e)
  unfolding qualifies_at running_at
  qualifies_is = and_self_left (dwell_at N) (running e)

  qualified_is : presets (group_mode g) ≡ false → qualified_now (t + 1) g x e ≡ latest_dwell_saw qualifies_at N
  unfolding qualified_now
  qualified_is q = rw (held_is, b_is, k.qualified q) (sym (saw_is qualifies_at q ∙ rw qualifies_is))

  open_two : x.opened ≡ open_at Mode2 h → opened_now Mode2 (t + 1) g x e ≡ open_at Mode2 N
  unfolding opened_now open_at
  open_two o = rw (t_is, b_is, o) (sym (later_step takes_at begins_at P h))

  open_four : presets (group_mode g) ≡ false → x.opened ≡ open_at Mode4 h → opened_now Mode4 (t + 1) g x e ≡ open_at Mode4 N
  unfolding opened_now open_at edge_at
  open_four q o = rw (held_is, b_is, k.level, o) (sym (saw_is edge_at q))

  open_five : presets (group_mode g) ≡ false → x.opened ≡ open_at Mode5 h → opened_now Mode5 (t + 1) g x e ≡ open_at Mode5 N
  unfolding opened_now open_at qualifies_at counts_at running_at stop_at first_edge_at
  open_five q o =
      rw (held_is, b_is, qualified_is q, k.first, o, later_step (λ j. qualifies_at j || counts_at j) stop_at P h, saw_is qualifies_at q, qualifies_is)
      (mode5_step (dwell_at N && running e) (begins_at N) (stops e) (edge (first_at h) e.first) (latest_dwell_saw qualifies_at h)
      (no_later (λ j. qualifies_at j || counts_at j) stop_at h) (no_stop (dwell_at N) e))

  pub open_is : is_open (group_mode g) e.level (opened_now (group_mode g) (t + 1) g x e) ≡ open_at (group_mode g) N
  unfolding is_open
  open_is = go (group_mode g) refl k.isopen
    where
      go : (m : Mode) → group_mode g ≡ m → is_open m (level_at h) x.opened ≡ open_at m h → is_open m e.level (opened_now m (t + 1) g x e) ≡ open_at m N
      go NoMode q o = unfold open_at in refl
      go Mode0 q o = unfold open_at in refl
      go Mode1 q o = unfold open_at in refl
      go Mode2 q o = open_two o
      go Mode3 q o = unfold open_at level_at in refl
      go Mode4 q o = open_four (unfold presets in ap presets q) o
      go Mode5 q o = open_five (unfold presets in ap presets q) o

  pub group_step : GroupLink (t + 1) (group_mode g) (group_after (t + 1) g x e) N
  unfolding group_after level_at first_at
  group_step = record {
    level = refl;
    first = refl;
    held = held_is;
    shift = shift_is;
    taken = taken_is;
    begun = begun_is;
    qualified = qualified_is;
    lawful = lawful_is;
    isopen = open_is;
  }

pub group_fresh : (sf : ℕ) (mode : Mode) → GroupLink sf mode fresh_group []
unfolding level_at first_at dwell_at last_taken shift_of after_each latest_dwell_saw latest_saw
group_fresh sf mode = record {
  level = refl;
  first = refl;
  held = refl;
  shift = refl;
  taken = refl;
  begun = refl;
  qualified = λ _. refl;
  lawful = λ _ k r. absurd (none_of r);
  isopen = go mode;
}
  where
    go : (m : Mode) → is_open m false false ≡ open_at m []
    go NoMode = unfold is_open open_at in refl
    go Mode0 = unfold is_open open_at in refl
    go Mode1 = unfold is_open open_at in refl
    go Mode2 = unfold is_open open_at no_later in refl
    go Mode3 = unfold is_open open_at in refl
    go Mode4 = unfold is_open open_at in refl
    go Mode5 = unfold is_open open_at in refl
