-- `engine::outputs::outputs_after` meets its contract: one output more of the word, of the table and of the sum at each turn, from the highest down. Assumes nothing.
use Prim.Native.Nat.{ℕ, ◌≤◌, ◌<◌, ◌-◌, ◌*◌, ◌^◌}
use mathlib.Core.List.{List}
use mathlib.Core.Logic.{inl, inr}
use lib.Count.{ones}
use mathlib.Core.Bool.{Bool, false, cond}
use mathlib.Core.Path.{◌≡◌, refl, sym, ap, ◌∙◌}
use native.Mathlib.Omega.{arith}
use Rattle.std.proofs.lemmas.Bool.{cases_eq}
use Rattle.std.proofs.lemmas.List.{get_or-set_other}
use Rattle.std.proofs.lemmas.Grind.{get_or-set_at}
use Rattle.std.specs.List.{sum}
use lib.Dec.{ltb}
use lib.ListN.{length, get_or, set, length-set}
use Rattle.rules.specs.declared.Conditions.{Conditions}
use Rattle.rules.specs.declared.Position.{Position}
use Rattle.rules.specs.declared.Limit.{Limit}
use Rattle.rules.specs.declared.TimedState.{TimedState}
use Rattle.rules.specs.Words.{packed, table}
use Rattle.rules.specs.Groups.{no_position, of_group}
use Rattle.rules.specs.Switches.{past_limits, present, switch_position, output_rule, rule_at, timed_holds, output_tests, tests_at}
use Rattle.rules.specs.Card.{fresh_timed, timed_now, timed_of}
use Rattle.rules.proofs.Packing.{digit_le, table_same}
use Rattle.word.proofs.Laws.{byte_digit, packed_below, packed_turn}
use Rattle.engine.proofs.Lists.{down_none, down_more, down_all, still_down}
use Rattle.engine.specs.declared.outputs.OutputAfter.{OutputAfter}
use borrow.Author.Rules.{rules}
use Rattle.engine.specs.Reading.{rule_reading, timed_reading, tests_reading}
use Rattle.engine.proofs.Reading.{position_there}
use Rattle.engine.proofs.outputs.outputs_after.Invariants.{on_at, tested_at, ToldDown}
use Rattle.engine.proofs.outputs.outputs_after.Goals as goal
use Rattle.engine.proofs.OutputLaws.{none_on, none_tested, untimed_rests}
use Rattle.rules.specs.Variants.{limit_switch}
use Rattle.rules.specs.declared.Switch.{Switch}
use Rattle.rules.specs.declared.Switch.TheVariants.{Unprogrammed}
use Rattle.engine.proofs.outputs.outputs_after.Goals.{in-Unprogrammed, in_default}

-- an unprogrammed output is off
off : (w : Conditions) (l : Limit) (q : Position) (isopen : Bool) (x : TimedState) (n : ℕ) (a : OutputAfter) (s : Switch) → s ≡ Unprogrammed
    → a ≡ record { on = false; timed = fresh_timed; tested = 0 }
    → (a.on ≡ rule_reading w l s q isopen (ltb 0 (timed_reading w l s q x).left) n) × (a.timed ≡ timed_reading w l s q x) × (ones a.tested ≡ tests_reading w l s q)
unfolding ones
off w l q isopen x n a s e h = rw (e, h) (sym (none_on w l q isopen n _), sym (untimed_rests w l q Unprogrammed x refl), sym (none_tested w l q))

-- in a turn the word has at most 31 digits
small : (left on : ℕ) (f : ℕ → Bool) → 0 < left → left ≤ 32 → on ≡ packed (32 - left) left f → on * 2 < 2 ^ 32
small left on f p q e = omega (arith, e, packed_below (32 - left) 31 left f (omega arith))

-- one output more of which the pairs are told
told_more : (k : ℕ) (f : ℕ → ℕ) (xs : List ℕ) (v : ℕ) → 0 < k → k ≤ 32 → ToldDown k f xs → ones v ≡ f (k - 1) → ToldDown (k - 1) f (set xs (k - 1) v)
told_more k f xs v h l e q = (
  simp length-set e.0,
  λ j a b. elim (cases_eq j (k - 1)) [
    | inl at ↦ rw (at, get_or-set_at xs (k - 1) (k - 1) v 0 refl (omega (arith, e.0))) q
    | inr other ↦ rw (get_or-set_other xs (k - 1) j v 0 other) (e.1 j (omega arith) b)
  ],
)

pub loop-n-init : goal.loop-n-init
unfolding packed table
loop-n-init c =
    let a = c.args in
    let xs = a.timed.now in
    (refl, down_none 32 (timed_of a.p.now a.w a.positions.now xs) xs (search rules), (refl, λ j l h. absurd (omega arith)), λ i l. refl)

pub overflow_mul-on : goal.overflow_mul-on
overflow_mul-on c =
    let a = c.args in
    let xs = a.timed.now in
    let l = c.loop-n in
    record { fits = small l.n l.on (on_at a.p.now a.w a.positions.now a.isopen xs) (omega arith) (omega arith) l.invariant.0 }

pub overflow_add-on : goal.overflow_add-on
overflow_add-on c =
    let a = c.args in
    let xs = a.timed.now in
    let l = c.loop-n in
    let on = c.match-from.a.on in
    let e = small l.n l.on (on_at a.p.now a.w a.positions.now a.isopen xs) (omega arith) (omega arith) l.invariant.0 in
    omega (arith, e, byte_digit on, digit_le on)

pub loop-n-preserved : goal.loop-n-preserved
unfolding rule_at output_rule timed_of timed_now timed_holds output_tests
loop-n-preserved c =
    let a = c.args in
    let xs = a.timed.now in
    let l = c.loop-n in
    let n = l.n - 1 in
    let o = c.match-from.a in
    let old = l.invariant.3 n (omega arith) in
    let whole : length a.positions.now ≡ 6 = search rules in
    let program = get_or a.p.now.limits n past_limits in
    let owner = get_or a.p.now.owners n 0 in
    let r : (o.on ≡ on_at a.p.now a.w a.positions.now a.isopen xs n) × (o.timed ≡ timed_of a.p.now a.w a.positions.now xs n) × (ones o.tested ≡ tested_at a.p.now a.w a.positions.now n) =
    elim c.match-from.branch [
      | in-Unprogrammed w ↦
          off a.w program (switch_position a.w (of_group no_position a.positions.now owner)) (of_group false a.isopen owner) (get_or xs n fresh_timed) n o (limit_switch program) (sym c.from.ensures ∙ w.in-Unprogrammed.is) w.a-is
      | in_default w ↦
          let q = position_there a.w a.positions.now whole _ _ _ c.counts_read-counts.ensures w.position_read.ensures in
          (rw (w.a-is, w.after-a.ensures.0, q, old, c.from.ensures) refl, rw (w.a-is, w.after-a.ensures.1, q, old, c.from.ensures) refl, rw (w.a-is, w.after-a.ensures.2, q, c.from.ensures) refl)
    ]
    in (
      rw (byte_digit, r.0, l.invariant.0) (packed_turn 32 l.n (on_at a.p.now a.w a.positions.now a.isopen xs) (omega arith) (omega arith)),
      down_more 32 l.n (timed_of a.p.now a.w a.positions.now xs) l.timed _ (omega arith) (omega arith) l.invariant.1 r.1,
      told_more l.n (tested_at a.p.now a.w a.positions.now) l.tested _ (omega arith) (omega arith) l.invariant.2 r.2,
      still_down l.n fresh_timed xs l.timed _ l.invariant.3,
    )

pub returns : goal.returns
unfolding tests_at
returns c =
    let a = c.args in
    let l = c.loop-n in
    let z : l.n ≡ 0 = omega arith in (
      rw z at l.invariant.0,
      down_all 32 l.n _ l.timed z l.invariant.1,
      c.pair_tests.ensures ∙ ap sum (table_same 32 0 _ _ (λ k h b. ap (λ (t : ℕ). cond (present a.m k) t 0) (l.invariant.2.1 k (omega arith) (omega arith)))),
    )
