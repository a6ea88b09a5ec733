-- `word::lowest_failing` meets its contract: the block that it stops at fails, and none before it. Assumes nothing.
use Rattle.std.proofs.Common.{◌≡◌, ℕ, ◌+◌, ◌≤◌, ◌<◌, not, eqb, sym, ap, ◌∙◌, arith, inl, inr}
use Rattle.std.proofs.lemmas.Bool.{cases_eq}
use borrow.Author.Tests.{ne_eqb}
use Rattle.word.proofs.Laws.{lowest_found, lowest_none}
use Rattle.word.proofs.failing.lowest_failing.Goals as goal

pub returns-then-errors-ne0-clause-number : goal.returns-then-errors-ne0-clause-number
returns-then-errors-ne0-clause-number g c =
    let l = c.loop-number in
    let f : ℕ → ℕ = g.B.Blocks.bits c.args.blocks.now in
    let here : f l.number ≡ 0 → ⊥ = λ z. c.if-errors-ne0.true (c.errors_of-errors.ensures ∙ z) in
    sym (lowest_found c.args.n 1 l.number (λ k. not (eqb (f k) 0)) (omega arith) (omega arith)
    (λ j a b. ap (λ x. not (eqb x 0)) (l.invariant j a b))
    (ap (λ b. not b) (ne_eqb (f l.number) 0 here)))

pub returns-clause-number : goal.returns-clause-number
returns-clause-number g c =
    let f : ℕ → ℕ = g.B.Blocks.bits c.args.blocks.now in
    sym (lowest_none c.args.n 1 (λ k. not (eqb (f k) 0)) (λ j a b. ap (λ x. not (eqb x 0)) (c.loop-number.invariant j a (omega arith))))

pub returns-else-errors-ne0-clause-number : goal.returns-else-errors-ne0-clause-number
returns-else-errors-ne0-clause-number g c =
    let l = c.loop-number in
    let f : ℕ → ℕ = g.B.Blocks.bits c.args.blocks.now in
    let none : (j : ℕ) → 1 ≤ j → j < 1 + c.args.n → f j ≡ 0 =
    λ j a b. elim (cases_eq j l.number) [
      | inl e ↦ rw e (sym c.errors_of-errors.ensures ∙ c.if-errors-ne0.false)
      | inr d ↦ l.invariant j a (omega arith)
    ] in
    sym (lowest_none c.args.n 1 (λ k. not (eqb (f k) 0)) (λ j a b. ap (λ x. not (eqb x 0)) (none j a b)))
