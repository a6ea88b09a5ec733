-- The quantifiers over a past, as facts: what `exists` and `every` say, and how `after_each` and `no_later` go on by one step.
-- Assumes nothing.
use mathlib.Core.Path.{◌≡◌, refl, sym, ap, ◌∙◌}
use mathlib.Core.Logic.{inl, inr, ⊎_elim}
use mathlib.Core.Bool.{Bool, true, false, not, ◌&&◌, ◌||◌, true≢false, false≢true}
use mathlib.Core.List.{List, [], ◌∷◌}
use Prim.Native.Nat.{◌≤◌, ◌<◌}
use native.Mathlib.Omega.{arith}
use lib.ListN.{length}
use borrow.Author.Tests.{ltb-true, lt-ltb, not-true}
use Rattle.std.proofs.lemmas.Bool.{and_parts, and_from, or_cases, or_right, cases_Bool}
use Rattle.std.specs.Cmp.{both_ways}
use Rattle.rules.specs.Quant.{◌⇒◌, exists, every, before, after_each, no_later}

-- ---- tests

pub given : (a : Bool) {b : Bool} → (a ≡ true → b ≡ true) → (a ⇒ b) ≡ true
given true f = f refl
given false f = refl

pub apply : {a b : Bool} → (a ⇒ b) ≡ true → a ≡ true → b ≡ true
apply t e = rw e at t

pub clash {ℓ} : {X : Type ℓ} {a : Bool} → a ≡ true → a ≡ false → X
clash t f = absurd (true≢false (sym t ∙ f))

-- ---- moments

module _ {A : Type 0} where
  pub data Moment : List A → List A → Type 0 where
    now : {s : A} {h : List A} → Moment (s ∷ h) (s ∷ h)
    back : {s : A} {h m : List A} → Moment m h → Moment m (s ∷ h)

  pub none_of : {j : List A} → Moment j [] → ⊥
  none_of r = elim r [ ]

  pub number : {j h : List A} → Moment j h → length j ≤ length h
  number now = omega arith
  number (back r) = let i = number r in omega arith

  pub exists→ : (P : List A → Bool) (h : List A) → exists P h ≡ true → (j : List A) × Moment j h × (P j ≡ true)
  exists→ P [] t = absurd (false≢true t)
  exists→ P (s ∷ h) t =
      ⊎_elim (λ e. (s ∷ h, now, e)) (λ e. let r = exists→ P h e in (r.0, back r.1, r.2)) (or_cases (P (s ∷ h)) (exists P h) t)

  pub exists← : (P : List A → Bool) {j h : List A} → Moment j h → P j ≡ true → exists P h ≡ true
  exists← P now e = rw e
  exists← P (back {s = s} {h = h} r) e = or_right (P (s ∷ h)) _ (exists← P r e)

  pub every→ : (P : List A → Bool) {k h : List A} → Moment k h → every P h ≡ true → P k ≡ true
  every→ P (now {s = s} {h = h}) t = (and_parts (P (s ∷ h)) (every P h) t).0
  every→ P (back {s = s} {h = h} r) t = every→ P r (and_parts (P (s ∷ h)) (every P h) t).1

  pub every← : (P : List A → Bool) (h : List A) → ((k : List A) → Moment k h → P k ≡ true) → every P h ≡ true
  every← P [] f = refl
  every← P (s ∷ h) f = rw (f (s ∷ h) now, every← P h (λ k r. f k (back r)))

  -- ---- what the two compound quantifiers say

  -- at some moment P, and each Q came before that one
  abbrev pub AfterEach : (P Q : List A → Bool) (h : List A) → Type 0
  AfterEach P Q h = (j : List A) × Moment j h × (P j ≡ true) × ((k : List A) → Moment k h → Q k ≡ true → length k < length j)

  -- there is a last moment with P, and no Q came later than that one
  abbrev pub NoLater : (P Q : List A → Bool) (h : List A) → Type 0
  NoLater P Q h =
      (j : List A) × Moment j h × (P j ≡ true)
      × ((k : List A) → Moment k h → length j < length k → P k ≡ false)
      × ((k : List A) → Moment k h → length j < length k → Q k ≡ false)

  module _ (P Q : List A → Bool) (h : List A) where
    pub after_each→ : after_each P Q h ≡ true → AfterEach P Q h
    unfolding after_each
    after_each→ t =
        let e = exists→ (λ j. P j && every (λ k. Q k ⇒ before k j) h) h t in
        let p = and_parts (P e.0) (every (λ k. Q k ⇒ before k e.0) h) e.2 in
        (e.0, e.1, p.0, λ k r q. ltb-true _ _ (apply (every→ (λ k. Q k ⇒ before k e.0) r p.1) q))

    pub after_each← : AfterEach P Q h → after_each P Q h ≡ true
    unfolding after_each
    after_each← e =
        exists← (λ j. P j && every (λ k. Q k ⇒ before k j) h) e.1
        (and_from _ _ e.2 (every← (λ k. Q k ⇒ before k e.0) h (λ k r. given (Q k) (λ q. lt-ltb _ _ (e.3 k r q)))))

    pub no_later→ : no_later P Q h ≡ true → NoLater P Q h
    unfolding no_later
    no_later→ t =
        let e = exists→ (λ j. (P j && every (λ k. before j k ⇒ not (P k)) h) && every (λ k. before j k ⇒ not (Q k)) h) h t in
        let p = and_parts (P e.0 && every (λ k. before e.0 k ⇒ not (P k)) h) (every (λ k. before e.0 k ⇒ not (Q k)) h) e.2 in
        let l = and_parts (P e.0) (every (λ k. before e.0 k ⇒ not (P k)) h) p.0 in (
          e.0,
          e.1,
          l.0,
          (λ k r q. not-true (P k) (apply (every→ (λ k. before e.0 k ⇒ not (P k)) r l.1) (lt-ltb _ _ q))),
          (λ k r q. not-true (Q k) (apply (every→ (λ k. before e.0 k ⇒ not (Q k)) r p.1) (lt-ltb _ _ q))),
        )

    pub no_later← : NoLater P Q h → no_later P Q h ≡ true
    unfolding no_later
    no_later← e =
        exists← (λ j. (P j && every (λ k. before j k ⇒ not (P k)) h) && every (λ k. before j k ⇒ not (Q k)) h) e.1
        (and_from _ _ (and_from _ _ e.2 (every← (λ k. before e.0 k ⇒ not (P k)) h (λ k r. given (before e.0 k) (λ q. ap not (e.3 k r (ltb-true _ _ q))))))
        (every← (λ k. before e.0 k ⇒ not (Q k)) h (λ k r. given (before e.0 k) (λ q. ap not (e.4 k r (ltb-true _ _ q))))))

  -- ---- one step more

  -- what holds at the last moment and at each one before holds at each; what holds at some holds at the last or at one before
  pub all_of : {X : List A → Type 0} {s : A} {h : List A} → X (s ∷ h) → ((k : List A) → Moment k h → X k) → (k : List A) → Moment k (s ∷ h) → X k
  all_of x f k now = x
  all_of x f k (back r) = f k r

  pub one_of : {X : List A → Type 0} {Y : Type 0} {s : A} {h : List A} → (X (s ∷ h) → Y) → ((k : List A) → Moment k h → X k → Y) → (k : List A) → Moment k (s ∷ h) → X k → Y
  one_of x f k now = x
  one_of x f k (back r) = f k r

  module _ (P Q : List A → Bool) (s : A) (h : List A) where
    abbrev N : List A
    N = s ∷ h

    after→ : (q : Bool) → Q N ≡ q → AfterEach P Q N → (not q && (P N || after_each P Q h)) ≡ true
    after→ true q e = let i = number e.1 in let l = e.3 N now q in absurd (omega arith)
    after→ false q e =
        one_of {X = λ j. (P j ≡ true) × ((k : List A) → Moment k N → Q k ≡ true → length k < length j)} (λ x. rw x.0)
        (λ j r x. or_right (P N) _ (after_each← P Q h (j, r, x.0, λ k l. x.1 k (back l)))) e.0 e.1 (e.2, e.3)

    after← : (q : Bool) → Q N ≡ q → (not q && (P N || after_each P Q h)) ≡ true → AfterEach P Q N
    after← true q t = absurd (false≢true t)
    after← false q t =
        ⊎_elim
        (λ p. (N, now, p, all_of (λ t. clash t q) (λ k r t. let i = number r in omega arith)))
        (λ a. let e = after_each→ P Q h a in (e.0, back e.1, e.2, all_of (λ t. clash t q) e.3))
        (or_cases (P N) (after_each P Q h) t)

    pub after_step : after_each P Q N ≡ not (Q N) && (P N || after_each P Q h)
    after_step = both_ways _ _ (λ t. after→ (Q N) refl (after_each→ P Q N t)) (λ t. after_each← P Q N (after← (Q N) refl t))

    later→ : NoLater P Q N → (P N || (not (Q N) && no_later P Q h)) ≡ true
    later→ e = go e.1 e.2 e.3 e.4
      where
        go : {j : List A} → Moment j N → P j ≡ true → ((k : List A) → Moment k N → length j < length k → P k ≡ false)
            → ((k : List A) → Moment k N → length j < length k → Q k ≡ false) → (P N || (not (Q N) && no_later P Q h)) ≡ true
        go now p f g = rw p
        go {j = j} (back r) p f g =
            let i = number r in
            or_right (P N) _ (rw (g N now (omega arith), no_later← P Q h (j, r, p, (λ k m. f k (back m)), (λ k m. g k (back m)))))

    later← : (P N || (not (Q N) && no_later P Q h)) ≡ true → NoLater P Q N
    later← t =
        elim (cases_Bool (P N)) [
          | inl p ↦ (N, now, p, (λ k r l. let i = number r in absurd (omega arith)), (λ k r l. let i = number r in absurd (omega arith)))
          | inr p ↦
              let b = and_parts (not (Q N)) (no_later P Q h) (rw p at t) in let e = no_later→ P Q h b.1 in
              (e.0, back e.1, e.2, all_of (λ _. p) e.3, all_of (λ _. not-true (Q N) b.0) e.4)
        ]

    pub later_step : no_later P Q N ≡ P N || (not (Q N) && no_later P Q h)
    later_step = both_ways _ _ (λ t. later→ (no_later→ P Q N t)) (λ t. no_later← P Q N (later← t))
