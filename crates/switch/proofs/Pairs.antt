-- A switch's pairs by the position taken back and the spread of the displacements: what the loop over pairs tests is the rule.
-- Assumes nothing.
use Prim.Native.Nat.{ℕ, suc, ◌+◌, ◌-◌, ◌≤◌, ◌<◌}
use mathlib.Core.Bool.{Bool, true, false, cond, ◌&&◌}
use mathlib.Core.Path.{◌≡◌, refl, sym, ap, fun_ext, ◌∙◌}
use native.Mathlib.Omega.{arith}
use borrow.Author.Tests.{ltb-true, ltb-false, lt-ltb, le-ltb}
use lib.Dec.{ltb}
use lib.IntN.{ℤ, pos, negsuc, neg_ℤ, sub_ℕ, ◌+ℤ◌, ◌-ℤ◌, +ℤ_assoc}
use lib.Signed.{lt_z}
use Rattle.rules.specs.declared.Limit.{Limit}
use Rattle.rules.specs.declared.Position.{Position}
use Rattle.rules.specs.declared.Switch.TheVariants.{Normal}
use Rattle.rules.specs.Words.{some_of, count_up_to}
use Rattle.rules.specs.Counts.{ahead}
use Rattle.rules.specs.Switches.{advance_value, count_at, on_setpoint, off_setpoint, pair_used, on_shift, off_shift, pair_length, pair_holds, normal_holds, switch_tests}
use Rattle.rules.proofs.Laws.{ahead_below}
use Rattle.rules.proofs.Congruence.{ahead_of_moved}
use Rattle.rules.proofs.Lengths.{pair_signed}
use Rattle.switch.specs.Parts.{taken_back, spread_of, pair_at, pair_of, some_pair, used_of, pairs_tested}

-- two tests that say the same
pub agree : (a b c d : ℕ) → (a < b → c < d) → (b ≤ a → d ≤ c) → ltb a b ≡ ltb c d
agree a b c d f g = go (ltb a b) refl
  where
    go : (x : Bool) → ltb a b ≡ x → x ≡ ltb c d
    go true e = sym (lt-ltb c d (f (ltb-true a b e)))
    go false e = sym (le-ltb c d (g (ltb-false a b e)))

-- a length b + n
longer : (sf a b n : ℕ) → a < sf → b < sf → ltb a (b + n) ≡ ltb (a + (sf - b)) (cond (ltb sf n) (sf + sf) (sf + n))
longer sf a b n ha hb = go (ltb sf n) refl
  where
    go : (x : Bool) → ltb sf n ≡ x → ltb a (b + n) ≡ ltb (a + (sf - b)) (cond x (sf + sf) (sf + n))
    go true e = let h = ltb-true sf n e in agree a (b + n) (a + (sf - b)) (sf + sf) (λ g. omega arith) (λ g. omega arith)
    go false e = agree a (b + n) (a + (sf - b)) (sf + n) (λ g. omega arith) (λ g. omega arith)

-- a length b − (n + 1)
shorter : (sf a b n : ℕ) → a < sf → b < sf → lt_z (pos a) (sub_ℕ b (suc n)) ≡ ltb (a + (sf - b)) (sf - suc n)
shorter sf a b n ha hb = go (ltb b (suc n)) refl
  where
    go : (x : Bool) → ltb b (suc n) ≡ x → lt_z (pos a) (cond x (negsuc (suc n - suc b)) (pos (b - suc n))) ≡ ltb (a + (sf - b)) (sf - suc n)
    go true e = let h = ltb-true b (suc n) e in sym (le-ltb (a + (sf - b)) (sf - suc n) (omega arith))
    go false e = let h = ltb-false b (suc n) e in agree a (b - suc n) (a + (sf - b)) (sf - suc n) (λ g. omega arith) (λ g. omega arith)

-- a length b + d against the spread of d
by_spread : (sf a b : ℕ) (d : ℤ) → a < sf → b < sf → lt_z (pos a) (pos b +ℤ d) ≡ ltb (a + (sf - b)) (spread_of sf d)
unfolding spread_of
by_spread sf a b (pos n) ha hb = longer sf a b n ha hb
by_spread sf a b (negsuc n) ha hb = shorter sf a b n ha hb

-- a position taken back by the ON displacement of a switch, and the spread of its displacements
abbrev pub from_at : ℕ → ℤ → Limit → Position → ℕ
from_at sf c l p = taken_back sf (on_shift sf c l) (count_at p)

abbrev pub spread_at : ℕ → ℤ → Limit → ℕ
spread_at sf c l = spread_of sf (on_shift sf c l -ℤ off_shift sf c l)

pub pair_displaced : (t : ℕ) (c : ℤ) (l : Limit) (k : ℕ) (p : Position) →
    pair_holds (t + 1) c l k p ≡ pair_at (t + 1) (from_at (t + 1) c l p) (spread_at (t + 1) c l) (on_setpoint l k) (off_setpoint l k)
unfolding pair_at pair_length taken_back
pair_displaced t c l k p =
    let h : ℕ = ahead (t + 1) (on_setpoint l k) (off_setpoint l k) in
    pair_signed t c l k p
    ∙ rw (ahead_of_moved t (advance_value l.onadvance) c (on_setpoint l k) (count_at p), +ℤ_assoc (pos h) (on_shift (t + 1) c l) (neg_ℤ (off_shift (t + 1) c l)))
    (ap (λ (b : Bool). pair_used l k && b)
    (by_spread (t + 1) _ h (on_shift (t + 1) c l -ℤ off_shift (t + 1) c l) (ahead_below t (on_setpoint l k) _) (ahead_below t (on_setpoint l k) (off_setpoint l k))))

pub some_displaced : (t : ℕ) (c : ℤ) (l : Limit) (p : Position) →
    normal_holds (t + 1) c l p ≡ some_pair (t + 1) (from_at (t + 1) c l p) (spread_at (t + 1) c l) l.setpoints
unfolding normal_holds some_pair pair_of
some_displaced t c l p = ap (λ (f : ℕ → Bool). some_of 8 0 f) (fun_ext (λ k. pair_displaced t c l k p))

-- the tests of a normal switch
pub tests_displaced : (t : ℕ) (c : ℤ) (l : Limit) (p : Position) →
    switch_tests (t + 1) c l Normal p ≡ pairs_tested (t + 1) (from_at (t + 1) c l p) (spread_at (t + 1) c l) l.setpoints
unfolding switch_tests pairs_tested pair_of
tests_displaced t c l p = ap (λ (ends : ℕ → Bool). count_up_to 8 0 (used_of l.setpoints) ends) (fun_ext (λ k. pair_displaced t c l k p))
