-- `Displaced::one_by_one` meets its contract: pair by pair, up to the first that holds. Assumes nothing.
use Prim.Native.Nat.{ℕ, suc, ◌+◌, ◌*◌, ◌^◌, ◌≤◌, ◌<◌}
use native.Mathlib.Nat.{pow-suc}
use mathlib.Core.Bool.{Bool, true}
use mathlib.Core.Logic.{inl, inr}
use mathlib.Core.Path.{◌≡◌, refl, sym, ap₂, ◌∙◌}
use native.Mathlib.Nat.{zero-add}
use native.Mathlib.Omega.{arith}
use Rattle.std.proofs.lemmas.Bool.{cases_eq}
use Rattle.word.proofs.Laws.{byte_digit}
use Rattle.rules.proofs.Laws.{some_none, some_one}
use Rattle.rules.proofs.Packing.{digit_le}
use lib.Count.{ones}
use Rattle.rules.specs.Words.{digit, count_of}
use Rattle.rules.specs.Counts.{used_pair}
use mir.Val.{bool_byte}
use Rattle.rules.proofs.Tests.{count_more, up_to_none, up_to_first}
use Rattle.switch.proofs.SideBySide.{ones_digit}
use Rattle.switch.specs.Parts.{pair_of, some_pair, used_of, pairs_tested}
use Rattle.switch.proofs.Displaced.one_by_one.Goals as goal

-- a pair more of those that are counted
counted : (k tested : ℕ) (used : ℕ → Bool) (b : Bool) → b ≡ used k → ones tested ≡ count_of k 0 used → ones (tested * 2 + bool_byte b) ≡ count_of (k + 1) 0 used
counted k tested used b e h = rw (byte_digit, e, ones_digit tested (digit (used k)) (digit_le (used k)), h) (omega arith ∙ sym (rw (zero-add k) at (count_more k 0 used)))

doubled : (k tested b : ℕ) → tested < 2 ^ k → b ≤ 1 → tested * 2 + b < 2 ^ (k + 1)
doubled k tested b h l = let next : k + 1 ≡ suc k = omega arith in rw (next, pow-suc 2 k) (omega (arith, h, l))

pub loop-k-init : goal.loop-k-init
unfolding count_of ones
loop-k-init c = (λ j b. absurd (omega arith), refl, omega arith)

pub returns-then-pair_holds : goal.returns-then-pair_holds
unfolding some_pair pairs_tested pair_of
returns-then-pair_holds c =
    let x = c.args in
    let l = c.loop-k in
    let pair = c.pair-pair.ensures in
    let holds = pair_of (x.self.sf.top + 1) x.self.from x.self.spread x.setpoints.now in
    let held : holds (0 + l.k) ≡ true = rw (zero-add l.k) (rw (pair.0, pair.1) at (sym c.pair_holds.ensures ∙ c.if-pair_holds.true)) in (
      sym (some_one 8 0 l.k holds (omega arith) held),
      counted l.k l.tested (used_of x.setpoints.now) c.used_pair.result (c.used_pair.ensures ∙ ap₂ used_pair pair.0 pair.1) l.invariant.1
          ∙ sym (up_to_first 8 0 l.k (used_of x.setpoints.now) holds (omega arith) (λ j a b. l.invariant.0 j (omega arith)) held),
    )

pub loop-k-preserved : goal.loop-k-preserved
unfolding pair_of
loop-k-preserved c =
    let x = c.args in
    let l = c.loop-k in
    let pair = c.pair-pair.ensures in (
      λ j b. elim (cases_eq j l.k) [ inl e ↦ rw e (rw (pair.0, pair.1) at (sym c.pair_holds.ensures ∙ c.if-pair_holds.false)) | inr d ↦ l.invariant.0 j (omega arith) ],
      counted l.k l.tested (used_of x.setpoints.now) c.used_pair.result (c.used_pair.ensures ∙ ap₂ used_pair pair.0 pair.1) l.invariant.1,
      doubled l.k l.tested (bool_byte c.used_pair.result) l.invariant.2 (rw (byte_digit c.used_pair.result) (digit_le c.used_pair.result)),
    )

pub returns : goal.returns
unfolding some_pair pairs_tested
returns c =
    let l = c.loop-k in
    let k : l.k ≡ 8 = omega arith in (
      sym (some_none 8 0 _ (λ j a b. l.invariant.0 j (omega arith))),
      l.invariant.1 ∙ rw k (sym (up_to_none 8 0 _ _ (λ j a b. l.invariant.0 j (omega arith)))),
    )
