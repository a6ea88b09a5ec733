-- The programming after every list of calls: what power-up has and what each accepted cycle keeps. Assumes nothing.
use Prim.Native.Nat.{ℕ}
use mathlib.Core.Path.{◌≡◌, refl, ap, ◌∙◌}
use mathlib.Core.Bool.{Bool, true, false, not, ◌&&◌, xor}
use mathlib.Core.List.{List, [], ◌∷◌}
use mathlib.Core.Logic.{inl, inr}
use lib.Dec.{eqb}
use borrow.Author.Tests.{eq-eqb, ne_eqb}
use Rattle.std.proofs.lemmas.Bool.{cases_Bool, cases_eq}
use Rattle.rules.specs.declared.Model.{Model}
use Rattle.rules.specs.declared.Model.TheVariants.{NoModule, M8511, M8512, M8513}
use Rattle.rules.specs.declared.Setup.{Setup}
use Rattle.rules.specs.declared.Programming.{Programming}
use Rattle.rules.specs.declared.Configuration.{Configuration}
use Rattle.rules.specs.declared.FileCycle.{FileCycle}
use Rattle.rules.specs.Words.{bit}
use Rattle.rules.specs.Variants.{model_of, model_number, model_in}
use Rattle.rules.specs.Motion.{scale_factor}
use Rattle.rules.specs.Switches.{limit_of}
use Rattle.rules.specs.SetupWords.{no_programs, with_setup}
use Rattle.rules.specs.FileCycle.{file_errors, brought}
use Rattle.rules.specs.Nudge.{nudge_clear_bit, nudge_output, nudge_pair, nudge_output_bad, nudge_setpoint_bad, nudged_programming}
use Rattle.rules.specs.Calls.{Call, Step, FileCall, NudgeCall, ByteCall, default_setup, fresh_configuration, configuration_after}
use Rattle.rules.specs.History.{configuration_of, programming_of}
use Rattle.rules.proofs.Cycles.{either_way, file_leaves, nudge_leaves, nudged, nudge_passes, step_model, step_programming}

-- no call changes the model's number, which reads as the model
model_stays : (model : Model) (l : List Call) → (configuration_of model l).model ≡ model_number model
unfolding configuration_of configuration_after fresh_configuration
model_stays model [] = refl
model_stays model (Step s ∷ l) = step_model (configuration_of model l) s ∙ model_stays model l
model_stays model (FileCall kind file ∷ l) = (file_leaves kind (configuration_of model l) file).model ∙ model_stays model l
model_stays model (NudgeCall w ∷ l) = (nudge_leaves (configuration_of model l) w).model ∙ model_stays model l
model_stays model (ByteCall a ∷ l) = model_stays model l

pub model_read : (model : Model) → model_of (model_number model) ≡ model
unfolding model_of model_number
model_read NoModule = refl
model_read M8511 = refl
model_read M8512 = refl
model_read M8513 = refl

pub model_is : (model : Model) (l : List Call) → model_in (configuration_of model l) ≡ model
model_is model l = ap model_of (model_stays model l) ∙ model_read model

-- X at power-up, and kept by what each accepted cycle brings
pub record Keeps (X : Programming → Type 0) : Type 0 where
  pub start : X (no_programs default_setup)
  pub file : (kind : FileCycle) (g : Configuration) (file : List ℕ) → eqb (file_errors kind g file) 0 ≡ true → X g.programming → X (brought kind g file)
  pub nudge : (p : Programming) (w : ℕ) → (not (nudge_output_bad p w) && not (nudge_setpoint_bad (scale_factor p.setup) (limit_of p (nudge_output w)) (nudge_pair w) w)) ≡ true
      → X p → X (nudged_programming p w)

module _ (X : Programming → Type 0) (k : Keeps X) where
  nudges : (p : Programming) (w : ℕ) (ends : Bool) → bit w nudge_clear_bit ≡ ends → nudge_passes p w ≡ true → X p → X (nudged p w)
  nudges p w true e c a = rw e a
  nudges p w false e c a = rw e (k.nudge p w (rw e at c) a)

  pub always : (model : Model) (l : List Call) → X (programming_of model l)
  unfolding configuration_of configuration_after fresh_configuration
  always model [] = k.start
  always model (Step s ∷ l) = rw (step_programming (configuration_of model l) s) (always model l)
  always model (FileCall kind file ∷ l) =
      either_way (file_leaves kind (configuration_of model l) file) (λ p _. X p) (λ c. k.file kind (configuration_of model l) file c (always model l)) (always model l)
  always model (NudgeCall w ∷ l) =
      either_way (nudge_leaves (configuration_of model l) w) (λ p _. X p) (λ c. nudges (programming_of model l) w (bit w nudge_clear_bit) refl c (always model l)) (always model l)
  always model (ByteCall a ∷ l) = always model l

-- a new setup drops the programs, or SF is the same and they stay
pub with_setup_lem : (X : Programming → Type 0) (p : Programming) (u : Setup) → X (no_programs u)
    → (p.setup.top ≡ u.top → X (record { setup = u; groups = p.groups; owners = p.owners; limits = p.limits })) → X (with_setup p u)
unfolding with_setup
with_setup_lem X p u dropped stays =
    elim (cases_eq p.setup.top u.top) [
      | inl e ↦ elim (cases_Bool (xor p.setup.independent u.independent)) [ inl q ↦ rw (eq-eqb _ _ e, q) dropped | inr q ↦ rw (eq-eqb _ _ e, q) (stays e) ]
      | inr d ↦ rw (ne_eqb _ _ d) dropped
    ]
