-- What the cycles leave of a configuration: the model always, the programming unless the cycle is accepted. Assumes nothing.
use Prim.Native.Nat.{ℕ}
use mathlib.Core.Path.{◌≡◌, refl}
use mathlib.Core.Bool.{Bool, true, false, cond, not, ◌&&◌, ◌||◌, false≢true}
use mathlib.Core.List.{List}
use mathlib.Core.Logic.{inl, inr}
use lib.ListN.{length}
use lib.Dec.{eqb}
use Rattle.std.proofs.lemmas.Bool.{cases_Bool}
use Rattle.rules.specs.declared.Programming.{Programming}
use Rattle.rules.specs.declared.Configuration.{Configuration}
use Rattle.rules.specs.declared.Sample.{Sample}
use Rattle.rules.specs.declared.FileCycle.{FileCycle}
use Rattle.rules.specs.declared.FileCycle.TheVariants.{SetupCycle, GroupCycle, LimitCycle}
use Rattle.rules.specs.declared.Cycle.{Cycle}
use Rattle.rules.specs.declared.Cycle.TheVariants.{OfFile, NudgeCycle}
use Rattle.rules.specs.declared.Refusal.{Refusal}
use Rattle.rules.specs.declared.Refusal.TheVariants.{NudgeOutput, NudgeSetpoint}
use Rattle.rules.specs.declared.Decision.{Decision}
use Rattle.rules.specs.Words.{bit}
use Rattle.rules.specs.Motion.{scale_factor}
use Rattle.rules.specs.Switches.{limit_of}
use Rattle.rules.specs.Cycle.{is_accepted, transmit_bit, acts, underway, idle_cycle, cycle, turned_away, stands, ignored_cycle, refused_cycle, accepted_cycle, judged}
use Rattle.rules.specs.FileCycle.{file_length, length_refusal, data_refusal, barred, file_errors, brought, command, clears, file_acts, file_cycle}
use Rattle.rules.specs.Nudge.{nudge_clear_bit, nudge_output, nudge_pair, nudge_output_bad, nudge_setpoint_bad, nudged_programming, nudge_acts, nudge_cycle}
use Rattle.rules.specs.Calls.{sound, step_configuration}

-- a cycle's result where the programming was `old`: an accepted cycle passed its checks and brought `new`
pub record Leaves (m : ℕ) (old new : Programming) (checks : Bool) (r : Decision) : Type 0 where
  pub model : r.configuration.model ≡ m
  pub programming : r.configuration.programming ≡ cond (is_accepted r.outcome) new old
  pub passed : is_accepted r.outcome ≡ true → checks ≡ true

-- so what holds of the new programming where the checks passed, and of the old one, holds of the result, accepted or not
pub either_way : {m : ℕ} {old new : Programming} {checks : Bool} {r : Decision} → Leaves m old new checks r → (P : Programming → Bool → Type 0)
    → (checks ≡ true → P new true) → P old false → P r.configuration.programming (is_accepted r.outcome)
either_way {old = old} {new = new} {r = r} k P a b =
    rw k.programming (elim (cases_Bool (is_accepted r.outcome)) [ inl e ↦ rw e (a (k.passed e)) | inr e ↦ rw e b ])

turned_away_lem : (why : Refusal) (g : Configuration) (new : Programming) (q : Bool) → Leaves g.model g.programming new q (turned_away why g)
unfolding turned_away
turned_away_lem why g new q = record { model = refl; programming = refl; passed = λ e. absurd (false≢true e) }

judged_leaves : (barred q : Bool) (errors : ℕ) (why : Refusal) (new : Programming) (g : Configuration) → eqb errors 0 ≡ q
    → Leaves g.model g.programming new q (judged barred errors why new g)
unfolding judged ignored_cycle accepted_cycle refused_cycle
judged_leaves true q errors why new g e = record { model = refl; programming = refl; passed = λ f. absurd (false≢true f) }
judged_leaves false true errors why new g e = rw e (record { model = refl; programming = refl; passed = λ _. refl })
judged_leaves false false errors why new g e = rw e (record { model = refl; programming = refl; passed = λ f. absurd (false≢true f) })

cycle_leaves : (kind : Cycle) (command : ℕ) (clear : Bool) (act : Configuration → Decision) (g : Configuration) (new : Programming) (q : Bool)
    → Leaves g.model g.programming new q (act (underway kind clear g)) → Leaves g.model g.programming new q (cycle kind command clear act g)
unfolding cycle idle_cycle
cycle_leaves kind command clear act g new q k =
    elim (cases_Bool (acts kind command g)) [
      | inl a ↦ rw a k
      | inr a ↦
          elim (cases_Bool (bit command transmit_bit)) [
            | inl b ↦ rw (a, b) (record { model = refl; programming = refl; passed = λ e. absurd (false≢true e) })
            | inr b ↦ rw (a, b) (record { model = refl; programming = refl; passed = λ e. absurd (false≢true e) })
          ]
    ]

-- a cycle that takes a file: what it reads of the configuration is not changed by transmit and ClrErr
pub errors_underway : (kind : FileCycle) (c : Cycle) (clear : Bool) (g : Configuration) (file : List ℕ) → file_errors kind (underway c clear g) file ≡ file_errors kind g file
unfolding file_errors underway
errors_underway SetupCycle c clear g file = refl
errors_underway GroupCycle c clear g file = refl
errors_underway LimitCycle c clear g file = refl

brought_underway : (kind : FileCycle) (c : Cycle) (clear : Bool) (g : Configuration) (file : List ℕ) → brought kind (underway c clear g) file ≡ brought kind g file
unfolding brought underway
brought_underway SetupCycle c clear g file = refl
brought_underway GroupCycle c clear g file = refl
brought_underway LimitCycle c clear g file = refl

acts_leaves : (kind : FileCycle) (c : Cycle) (clear : Bool) (g : Configuration) (file : List ℕ)
    → Leaves (underway c clear g).model (underway c clear g).programming (brought kind g file) (eqb (file_errors kind g file) 0) (file_acts kind file (underway c clear g))
unfolding file_acts
acts_leaves kind c clear g file =
    rw (errors_underway kind c clear g file, brought_underway kind c clear g file)
    (judged_leaves (barred kind (underway c clear g)) _ (file_errors kind g file) (data_refusal kind) (brought kind g file) (underway c clear g) refl)

-- the length first
by_length : (g : Configuration) (new : Programming) (q fits : Bool) (why : Refusal) (r : Decision)
    → Leaves g.model g.programming new q r → Leaves g.model g.programming new q (cond fits r (turned_away why g))
by_length g new q true why r k = k
by_length g new q false why r k = turned_away_lem why g new q

pub file_leaves : (kind : FileCycle) (g : Configuration) (file : List ℕ)
    → Leaves g.model g.programming (brought kind g file) (eqb (file_errors kind g file) 0) (file_cycle kind g file)
unfolding file_cycle underway
file_leaves kind g file =
    by_length g _ _ (eqb (length file) (file_length kind)) (length_refusal kind) _
    (cycle_leaves (OfFile kind) (command kind file) (clears (command kind file)) (file_acts kind file) g _ _
    (acts_leaves kind (OfFile kind) (clears (command kind file)) g file))

-- what an accepted nudge brings, and its checks: bit 14 "ends there"
abbrev pub nudged : Programming → ℕ → Programming
nudged p w = cond (bit w nudge_clear_bit) p (nudged_programming p w)

abbrev pub nudge_passes : Programming → ℕ → Bool
nudge_passes p w =
    bit w nudge_clear_bit
    || (not (nudge_output_bad p w) && not (nudge_setpoint_bad (scale_factor p.setup) (limit_of p (nudge_output w)) (nudge_pair w) w))

pub nudge_leaves : (g : Configuration) (w : ℕ)
    → Leaves g.model g.programming (nudged g.programming w) (nudge_passes g.programming w) (nudge_cycle g w)
unfolding nudge_cycle nudge_acts underway ignored_cycle accepted_cycle refused_cycle
nudge_leaves g w =
    cycle_leaves NudgeCycle w (bit w nudge_clear_bit) (nudge_acts w) g (nudged g.programming w) (nudge_passes g.programming w)
    (go (bit w nudge_clear_bit) (stands (underway NudgeCycle (bit w nudge_clear_bit) g).errors) (nudge_output_bad g.programming w)
    (nudge_setpoint_bad (scale_factor g.programming.setup) (limit_of g.programming (nudge_output w)) (nudge_pair w) w)
    (underway NudgeCycle (bit w nudge_clear_bit) g))
  where
    go : (ends barred bad9 bad10 : Bool) (o : Configuration)
        → Leaves o.model o.programming (cond ends o.programming (nudged_programming o.programming w)) (ends || (not bad9 && not bad10))
        (cond ends (accepted_cycle o.programming o)
        (cond barred (ignored_cycle o)
        (cond bad9 (refused_cycle NudgeOutput o)
        (cond bad10 (refused_cycle NudgeSetpoint o) (accepted_cycle (nudged_programming o.programming w) o)))))
    go true barred bad9 bad10 o = record { model = refl; programming = refl; passed = λ _. refl }
    go false true bad9 bad10 o = record { model = refl; programming = refl; passed = λ e. absurd (false≢true e) }
    go false false true bad10 o = record { model = refl; programming = refl; passed = λ e. absurd (false≢true e) }
    go false false false true o = record { model = refl; programming = refl; passed = λ e. absurd (false≢true e) }
    go false false false false o = record { model = refl; programming = refl; passed = λ _. refl }

-- a step changes neither
pub step_model : (g : Configuration) (s : Sample) → (step_configuration g s).model ≡ g.model
unfolding step_configuration
step_model g s = elim (cases_Bool (sound g s)) [ inl e ↦ rw e | inr e ↦ rw e ]

pub step_programming : (g : Configuration) (s : Sample) → (step_configuration g s).programming ≡ g.programming
unfolding step_configuration
step_programming g s = elim (cases_Bool (sound g s)) [ inl e ↦ rw e | inr e ↦ rw e ]
