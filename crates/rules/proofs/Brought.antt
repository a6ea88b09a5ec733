-- What an accepted cycle brings, and what it drops. Card and History share these rules, so that the history does not see them. Assumes nothing.
use Prim.Native.Nat.{ℕ, ◌+◌, ◌-◌, ◌*◌, ◌/◌, ◌%◌, ◌<◌}
use mathlib.Core.Path.{◌≡◌, refl, ap, ◌∙◌}
use mathlib.Core.Bool.{true, xor, or-true}
use mathlib.Core.List.{List}
use native.Mathlib.Nat.{mod-eq_of_lt, add-mod-mod, add-mul-mod_self_right, div-add-mod'}
use native.Mathlib.Omega.{arith}
use borrow.Author.Tests.{eq-eqb, ne_eqb}
use lib.ListN.{replicate}
use lib.IntN.{sub_ℕ}
use Rattle.std.specs.Cmp.{booleans_Decides}
use Rattle.std.proofs.lemmas.Nat.{mod_below}
use Rattle.rules.specs.declared.Setup.{Setup}
use Rattle.rules.specs.declared.Group.{Group}
use Rattle.rules.specs.declared.Limit.{Limit}
use Rattle.rules.specs.declared.Programming.{Programming}
use Rattle.rules.specs.Words.{word, bit, modulo}
use Rattle.rules.specs.Motion.{turned, scaled_position, machine_position}
use Rattle.rules.specs.Groups.{no_group}
use Rattle.rules.specs.Switches.{no_limit}
use Rattle.rules.specs.SetupWords.{preset_offset, setup_of, with_setup}
use Rattle.rules.specs.GroupWords.{owners_of, with_groups}
use Rattle.rules.specs.LimitWords.{with_limits}
use Rattle.rules.proofs.Laws.{modulo_natural}

-- ---- "A changed SF or mode drops group and limit programs.", and nothing else does

pub programs_stay : (p : Programming) (u : Setup) → p.setup.top ≡ u.top → p.setup.independent ≡ u.independent
    → with_setup p u ≡ record { setup = u; groups = p.groups; owners = p.owners; limits = p.limits }
unfolding with_setup xor
programs_stay p u t i = rw (eq-eqb p.setup.top u.top t, i, (booleans_Decides u.independent u.independent).1 refl)

abbrev pub Dropped : Programming → Setup → Type 0
Dropped p u = with_setup p u ≡ record { setup = u; groups = replicate 6 no_group; owners = replicate 32 0; limits = replicate 32 no_limit }

pub another_sf_drops : (p : Programming) (u : Setup) → (p.setup.top ≡ u.top → ⊥) → Dropped p u
unfolding with_setup
another_sf_drops p u t = rw (ne_eqb p.setup.top u.top t)

pub another_mode_drops : (p : Programming) (u : Setup) → xor p.setup.independent u.independent ≡ true → Dropped p u
unfolding with_setup
another_mode_drops p u i = rw (i, or-true _)

-- "Acceptance drops limit programs.": of a group cycle
pub groups_brought : (p : Programming) (gs : List Group) → with_groups p gs ≡ record { setup = p.setup; groups = gs; owners = owners_of gs; limits = replicate 32 no_limit }
unfolding with_groups
groups_brought p gs = refl

-- a limit cycle and a nudge change limit programs alone
pub limits_brought : (p : Programming) (ls : List Limit) → with_limits p ls ≡ record { setup = p.setup; groups = p.groups; owners = p.owners; limits = ls }
unfolding with_limits
limits_brought p ls = refl

-- ---- "The Preset bit replaces the offset so that Machine Position equals the preset at the raw of the last step"

to_preset : (t at preset : ℕ) → preset < t + 1 → (at + (preset + (t + 1 - at % (t + 1))) % (t + 1)) % (t + 1) ≡ preset
to_preset t at preset b =
    let e : at + (preset + (t + 1 - at % (t + 1))) ≡ preset + (at / (t + 1) + 1) * (t + 1) =
    omega (arith, div-add-mod' at (t + 1), mod_below at (t + 1) (omega arith)) in
    simp add-mod-mod (ap (λ (x : ℕ). x % (t + 1)) e ∙ add-mul-mod_self_right preset (at / (t + 1) + 1) (t + 1) ∙ mod-eq_of_lt b)

-- from a scaled position on
from_there : (sf at preset : ℕ) → preset < sf → (at + modulo (sub_ℕ preset at) sf) % sf ≡ preset
from_there sf at preset b =
    let e : sf ≡ sf - 1 + 1 = omega arith in
    rw e (rw (modulo_natural preset at (sf - 1)) (to_preset (sf - 1) at preset (omega arith)))

pub preset_shows : (file : List ℕ) (raw : ℕ) → bit (word file 0) 1 ≡ true → word file 2 < word file 1
    → (machine_position (setup_of file raw) raw).0 ≡ word file 2
unfolding machine_position setup_of preset_offset
preset_shows file raw b below =
    let e : word file 1 - 1 + 1 ≡ word file 1 = omega arith in
    rw (b, e) (from_there (word file 1) (scaled_position (word file 1) (turned (bit (word file 0) 4) raw)) (word file 2) below)
