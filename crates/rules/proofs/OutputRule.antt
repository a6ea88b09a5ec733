-- The output rule reads only this: of a step's conditions, of the output's own group and of its timed switch. Assumes nothing.
use Prim.Native.Nat.{ℕ}
use mathlib.Core.Path.{◌≡◌, refl, ap}
use mathlib.Core.Bool.{Bool, true, false}
use Rattle.rules.specs.declared.GroupPosition.{GroupPosition}
use Rattle.rules.specs.declared.IoType.TheVariants.{Real}
use Rattle.rules.specs.declared.Anded.{Anded}
use Rattle.rules.specs.declared.Anded.TheVariants.{Never, Neither, First, Second}
use Rattle.rules.specs.declared.Limit.{Limit}
use Rattle.rules.specs.declared.Conditions.{Conditions}
use Rattle.rules.specs.Variants.{anded_of}
use Rattle.rules.specs.Motion.{level, enable_input}
use Rattle.rules.specs.Switches.{type_of, switch_position, admitted, enable_holds, detector_holds, passes, output_rule}

-- what it reads of the conditions of a step for output n: LS Enable of its kind and, in Independent Mode, the output's own real input
pub record ReadAlike (w v : Conditions) (n : ℕ) : Type 0 where
  pub top : w.top ≡ v.top
  pub independent : w.independent ≡ v.independent
  pub machine : w.machine ≡ v.machine
  pub c : w.c ≡ v.c
  pub md1 : w.md1 ≡ v.md1
  pub md2 : w.md2 ≡ v.md2
  pub enable : level w (type_of n) enable_input ≡ level v (type_of n) enable_input
  pub own : v.independent ≡ true → level w Real n ≡ level v Real n

pub same_conditions : (w v : Conditions) (n : ℕ) → w ≡ v → ReadAlike w v n
same_conditions w v n e = record {
  top = ap (λ (u : Conditions). u.top) e;
  independent = ap (λ (u : Conditions). u.independent) e;
  machine = ap (λ (u : Conditions). u.machine) e;
  c = ap (λ (u : Conditions). u.c) e;
  md1 = ap (λ (u : Conditions). u.md1) e;
  md2 = ap (λ (u : Conditions). u.md2) e;
  enable = ap (λ (u : Conditions). level u (type_of n) enable_input) e;
  own = λ _. ap (λ (u : Conditions). level u Real n) e;
}

detector_same : (d : Anded) (w v : Conditions) → w.md1 ≡ v.md1 → w.md2 ≡ v.md2 → detector_holds d w ≡ detector_holds d v
detector_same Never w v e f = refl
detector_same Neither w v e f = refl
detector_same First w v e f = e
detector_same Second w v e f = f

-- of the group's position and openness it reads nothing in Independent Mode
pub rule_alike : (mode : Bool) (w v : Conditions) (l : Limit) (x y : GroupPosition) (a b lasts goes : Bool) (n : ℕ) → v.independent ≡ mode → ReadAlike w v n
    → (mode ≡ false → x ≡ y) → (mode ≡ false → a ≡ b) → lasts ≡ goes → output_rule w l x a lasts n ≡ output_rule v l y b goes n
unfolding output_rule passes switch_position admitted enable_holds
rule_alike true w v l x y a b lasts goes n i k p o e =
    rw (k.own i, detector_same (anded_of l.detector) w v k.md1 k.md2, k.top, k.c, k.machine, k.independent, i, e)
rule_alike false w v l x y a b lasts goes n i k p o e =
    rw (k.enable, detector_same (anded_of l.detector) w v k.md1 k.md2, k.top, k.c, k.independent, i, p refl, o refl, e)
