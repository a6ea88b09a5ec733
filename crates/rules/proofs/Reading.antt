-- How the history reads: for each quantifier the proposition that its test says, and 01's sentences on groups and timed switches as such propositions.
-- `Moment j h`: j is the past h as it stood at one of its steps; of two moments the longer is the later. Assumes nothing.
use Prim.Native.Nat.{ℕ, ◌+◌, ◌%◌, ◌≤◌, ◌<◌}
use mathlib.Core.Path.{◌≡◌, refl, sym, subst, ◌∙◌}
use mathlib.Core.Logic.{◌↔◌, inl, inr}
use mathlib.Core.Bool.{Bool, true, false, not, ◌&&◌, ◌||◌, and-false, false≢true}
use mathlib.Core.List.{List, [], ◌∷◌}
use mathlib.Core.Option.{none, some, some-injective, none-ne-some, some-ne-none}
use native.Mathlib.Omega.{arith}
use lib.ListN.{length}
use Rattle.std.proofs.lemmas.Bool.{and_parts, and_from, cond-true, false_from_ne_true, cases_Bool}
use Rattle.rules.specs.declared.Mode.TheVariants.{Mode2, Mode3, Mode4, Mode5}
use Rattle.rules.specs.declared.Switch.TheVariants.{Timed}
use Rattle.rules.specs.Variants.{group_mode}
use Rattle.rules.specs.Counts.{ahead}
use Rattle.rules.specs.Groups.{presets, dwell_holds, group_position}
use Rattle.rules.specs.Switches.{timed_steps}
use Rattle.rules.specs.Quant.{exists, every, after_each, no_later, latest_saw, held_under}
use Rattle.rules.specs.History.{GroupStep, PastStep, begins_at, takes_at, level_at, edge_at, first_edge_at, stop_at, running_at, last_taken, preset_position, position_from, position_at, dwell_at, begins, takes, past_of, latest_dwell_saw, qualifies_at, counts_at, open_at, held_at, lasts}
use Rattle.rules.proofs.Past.{clash, Moment, now, back, none_of, number, all_of, exists→, exists←, every→, every←, AfterEach, after_each→, after_each←, NoLater, no_later→, no_later←, later_step}
use Rattle.rules.proofs.Stretch.{LatestSaw, latest_saw→, latest_saw←}
use Rattle.rules.proofs.Timed.{HeldUnder, held_under→, held_under←}
use Rattle.rules.proofs.GroupPast.{no_stop}

-- ---- The quantifiers

module _ {A : Type 0} (P Q : List A → Bool) (h : List A) where
  pub exists_reads : (exists P h ≡ true) ↔ ((j : List A) × Moment j h × (P j ≡ true))
  exists_reads = (λ t. exists→ P h t, λ e. exists← P e.1 e.2)

  pub every_reads : (every P h ≡ true) ↔ ((k : List A) → Moment k h → P k ≡ true)
  every_reads = (λ t k r. every→ P r t, λ f. every← P h f)

  -- ∃ j with P, ∀ k with Q: k is earlier than j
  pub after_each_reads : (after_each P Q h ≡ true) ↔ AfterEach P Q h
  after_each_reads = (λ t. after_each→ P Q h t, λ e. after_each← P Q h e)

  -- ∃ j with P, ∀ later k: neither P nor Q
  pub no_later_reads : (no_later P Q h ≡ true) ↔ NoLater P Q h
  no_later_reads = (λ t. no_later→ P Q h t, λ e. no_later← P Q h e)

  -- ∃ b with B and none later, ∃ j from b on with X, ∀ k from b to j: H
  pub latest_saw_reads : (X : List A → Bool) → (latest_saw P Q X h ≡ true) ↔ LatestSaw P Q X h
  latest_saw_reads X = (λ t. latest_saw→ P Q X h t, λ e. latest_saw← P Q X h e)

  -- ∃ b where H began, ∀ k from b on: H, and now is fewer than n steps after b
  pub held_under_reads : (n : ℕ) → (held_under n P h ≡ true) ↔ HeldUnder P n h
  held_under_reads n = (λ t. held_under→ P n h t, λ e. held_under← P n h e)

-- ---- Groups

-- Mode 2: an edge was taken, and no dwell began in a later step
pub mode2_reads : (h : List PastStep) → (open_at Mode2 h ≡ true) ↔ NoLater takes_at begins_at h
unfolding open_at
mode2_reads h = no_later_reads takes_at begins_at h

-- Mode 3: its input is active
pub mode3_reads : (s : GroupStep) (h : List GroupStep) → open_at Mode3 (past_of (s ∷ h)) ≡ s.event.level
unfolding open_at past_of level_at
mode3_reads s h = refl

-- Mode 4: an edge of its input fell in its latest dwell
pub mode4_reads : (h : List PastStep) → (open_at Mode4 h ≡ true) ↔ LatestSaw begins_at dwell_at edge_at h
unfolding open_at latest_dwell_saw
mode4_reads h = latest_saw_reads begins_at dwell_at h edge_at

-- Mode 5: its latest dwell saw a qualifying step, and no stop came in a later step than the last qualifying step or counted First Cycle edge
pub mode5_reads : (h : List PastStep)
    → (open_at Mode5 h ≡ true) ↔ (LatestSaw begins_at dwell_at qualifies_at h × NoLater (λ j. qualifies_at j || counts_at j) stop_at h)
unfolding open_at latest_dwell_saw
mode5_reads h = (
  λ t. let b = and_parts _ _ t in (latest_saw→ begins_at dwell_at qualifies_at h b.0, no_later→ (λ j. qualifies_at j || counts_at j) stop_at h b.1),
  λ e. and_from _ _ (latest_saw← begins_at dwell_at qualifies_at h e.0) (no_later← (λ j. qualifies_at j || counts_at j) stop_at h e.1),
)

-- an edge of this very step: no stop is later, so that only whether it counts is left
absorbed : (l q r : Bool) → (l && ((q || l) || r)) ≡ l
absorbed true true r = refl
absorbed true false r = refl
absorbed false q r = refl

pressed : (h : List PastStep) → first_edge_at h ≡ true → open_at Mode5 h ≡ latest_dwell_saw qualifies_at h
unfolding open_at counts_at
pressed [] f = clash f (unfold first_edge_at in refl)
pressed (s ∷ h) f =
    rw (later_step (λ j. qualifies_at j || counts_at j) stop_at s h, f)
    (absorbed (latest_dwell_saw qualifies_at (s ∷ h)) (qualifies_at (s ∷ h)) (not (stop_at (s ∷ h)) && no_later (λ j. qualifies_at j || counts_at j) stop_at h))

-- Mode 5 in a step with a First Cycle edge, a stop in it or not: open exactly where the latest dwell saw a qualifying step
pub mode5_pressed : (h : List PastStep) → first_edge_at h ≡ true → (open_at Mode5 h ≡ true) ↔ LatestSaw begins_at dwell_at qualifies_at h
unfolding latest_dwell_saw
mode5_pressed h f = rw (pressed h f) (latest_saw_reads begins_at dwell_at h qualifies_at)

-- a stop's step is no qualifying one
stop_plain : (h : List PastStep) → stop_at h ≡ true → qualifies_at h ≡ false
unfolding stop_at qualifies_at running_at
stop_plain [] z = absurd (false≢true z)
stop_plain (s ∷ h) z = false_from_ne_true _ (λ t. clash z (no_stop (dwell_at (s ∷ h)) s.event t))

-- Mode 5 in the step of a stop without a First Cycle edge: closed
pub mode5_stopped : (h : List PastStep) → stop_at h ≡ true → first_edge_at h ≡ false → open_at Mode5 h ≡ false
unfolding open_at counts_at
mode5_stopped [] z f = clash z (unfold stop_at in refl)
mode5_stopped (s ∷ h) z f =
    rw (later_step (λ j. qualifies_at j || counts_at j) stop_at s h, f, z, stop_plain (s ∷ h) z) (and-false (latest_dwell_saw qualifies_at (s ∷ h)))

-- Mode 5 in the step of a stop in which a dwell begins: closed, with a First Cycle edge or without
pub mode5_begun : (h : List PastStep) → stop_at h ≡ true → begins_at h ≡ true → open_at Mode5 h ≡ false
mode5_begun [] z b = clash z (unfold stop_at in refl)
mode5_begun (s ∷ h) z b =
    false_from_ne_true _ (λ t. let e = ((mode5_reads (s ∷ h)).0 t).0 in clash (seen e.1 e.2.1 e.4 e.5.0 e.5.2) (stop_plain (s ∷ h) z))
  where
    -- what a dwell saw that begins in the last step, it saw in that step
    seen : {c j : List PastStep} → Moment c (s ∷ h) → ((k : List PastStep) → Moment k (s ∷ h) → length c < length k → begins_at k ≡ false)
        → Moment j (s ∷ h) → length c ≤ length j → qualifies_at j ≡ true → qualifies_at (s ∷ h) ≡ true
    seen c l now i q = q
    seen now l (back r) i q = let n = number r in absurd (omega arith)
    seen (back c) l (back r) i q = let n = number c in clash b (l (s ∷ h) now (omega arith))

-- a dwell begins: it holds before any edge of the step is taken, and did not at the end of the previous step
pub begins_reads : (s : GroupStep) (h : List GroupStep)
    → begins_at (past_of (s ∷ h))
    ≡ (dwell_holds s.sf s.program.dwell (position_from s.sf s.program (last_taken (past_of h)) s.event.machine) && not (dwell_at (past_of h)))
unfolding past_of begins_at begins
begins_reads s h = refl

-- an edge is taken: Mode 1 or 2, an edge, and none was taken since the start, or a dwell begins in this step or began since the last taken one
pub takes_reads : (s : GroupStep) (h : List GroupStep)
    → takes_at (past_of (s ∷ h))
    ≡ (presets (group_mode s.program)
    && edge_at (past_of (s ∷ h))
    && (not (exists takes_at (past_of h)) || begins_at (past_of (s ∷ h)) || after_each begins_at takes_at (past_of h)))
unfolding past_of takes_at takes edge_at begins_at
takes_reads s h = refl

-- s is the last step in which an edge was taken: it is the head of a moment, and in no later step an edge was taken
abbrev pub LastTaken : PastStep → List PastStep → Type 0
LastTaken s h =
    (r : List PastStep) × Moment (s ∷ r) h × (s.takes ≡ true) × ((k : List PastStep) → Moment k h → length (s ∷ r) < length k → takes_at k ≡ false)

pub last_taken_reads : (h : List PastStep) (s : PastStep) → last_taken h ≡ some s → LastTaken s h
unfolding last_taken takes_at
last_taken_reads [] s e = absurd (none-ne-some s e)
last_taken_reads (x ∷ h) s e =
    elim (cases_Bool x.takes) [
      | inl t ↦ subst (λ (y : PastStep). LastTaken y (x ∷ h)) (some-injective x s (sym (cond-true x.takes (some x) (last_taken h) t) ∙ e))
          (h, now, t, λ k r l. let j = number r in absurd (omega arith))
      | inr t ↦ let f = last_taken_reads h s (rw t at e) in (f.0, back f.1, f.2, all_of (λ _. t) f.3)
    ]

pub none_taken_reads : (h : List PastStep) → last_taken h ≡ none → (k : List PastStep) → Moment k h → takes_at k ≡ false
unfolding last_taken takes_at
none_taken_reads (x ∷ h) e =
    elim (cases_Bool x.takes) [
      | inl t ↦ absurd (some-ne-none x (sym (cond-true x.takes (some x) (last_taken h) t) ∙ e))
      | inr t ↦ all_of t (none_taken_reads h (rw t at e))
    ]
none_taken_reads [] e = λ k r. absurd (none_of r)

-- and the other way: such a step is what `last_taken` finds, and with none it finds none
same_taken : {j h : List PastStep} → Moment j h → ((k : List PastStep) → Moment k h → length j < length k → takes_at k ≡ false) → last_taken h ≡ last_taken j
unfolding last_taken takes_at
same_taken now f = refl
same_taken {j = j} (back {s = x} {h = h} r) f = let i = number r in rw (f (x ∷ h) now (omega arith)) (same_taken r (λ k m. f k (back m)))

pub last_taken_told : (h : List PastStep) (s : PastStep) → LastTaken s h → last_taken h ≡ some s
unfolding last_taken
last_taken_told h s e = same_taken e.1 e.3 ∙ rw e.2

pub none_taken_told : (h : List PastStep) → ((k : List PastStep) → Moment k h → takes_at k ≡ false) → last_taken h ≡ none
unfolding last_taken takes_at
none_taken_told [] f = refl
none_taken_told (x ∷ h) f = rw (f (x ∷ h) now) (none_taken_told h (λ k r. f k (back r)))

-- Modes 1 and 2: the preset in force at the last edge taken plus the travel from there, modulo SF; with no such edge the machine's
pub preset_reads : (s : PastStep) (h : List PastStep) (taken : PastStep) → presets (group_mode s.program) ≡ true → last_taken (s ∷ h) ≡ some taken
    → (position_at (s ∷ h)).0 ≡ (taken.program.offset + ahead s.sf taken.event.machine.0 s.event.machine.0) % s.sf
unfolding position_at position_from preset_position
preset_reads s h taken e f = rw (e, f)

pub machine_reads : (s : PastStep) (h : List PastStep) → presets (group_mode s.program) ≡ true → last_taken (s ∷ h) ≡ none
    → (position_at (s ∷ h)).0 ≡ s.event.machine.0
unfolding position_at position_from preset_position
machine_reads s h e f = rw (e, f)

-- Modes 0, 3, 4, 5: Machine Position plus the group offset, modulo SF
pub offset_reads : (s : PastStep) (h : List PastStep) → presets (group_mode s.program) ≡ false
    → (position_at (s ∷ h)).0 ≡ (s.event.machine.0 + s.program.offset) % s.sf
unfolding position_at position_from group_position
offset_reads s h e = rw e

-- ---- Timed switches

-- the pair holds now, and has from a step where it began on, fewer than 5 × T steps ago
pub timed_reads : (t : ℕ) (h : List Bool) → (lasts (Timed t) h ≡ true) ↔ HeldUnder held_at (timed_steps t) h
unfolding lasts
timed_reads t h = held_under_reads held_at held_at h (timed_steps t)
