-- The latest stretch of a predicate, as a fact, and how it goes on by one step.
-- Assumes nothing.
use mathlib.Core.Path.{◌≡◌, refl, sym, ap, ◌∙◌}
use mathlib.Core.Logic.{⊎_elim, inl, inr}
use mathlib.Core.Bool.{Bool, true, false, cond, not, ◌&&◌, ◌||◌}
use mathlib.Core.List.{List, [], ◌∷◌, tail}
use Prim.Native.Nat.{◌≤◌, ◌<◌}
use native.Mathlib.Omega.{arith}
use lib.ListN.{length}
use borrow.Author.Tests.{ltb-true, leb-true, lt-ltb, le-leb, not-true, not-false}
use Rattle.std.proofs.lemmas.Bool.{and_parts, and_from, or_cases, or_right, cases_Bool}
use Rattle.std.specs.Cmp.{both_ways}
use Rattle.rules.specs.Quant.{◌⇒◌, exists, every, before, upto, latest_saw}
use Rattle.rules.proofs.Past.{given, apply, clash, Moment, now, back, number, exists→, exists←, every→, every←, all_of}

module _ {A : Type 0} (B H : List A → Bool) where
  -- b is the last moment with B
  abbrev Last : List A → List A → Type 0
  Last h b = (B b ≡ true) × ((k : List A) → Moment k h → length b < length k → B k ≡ false)

  -- Where B is the first moment of each H, an H that stands goes back to the last B.
  abbrev pub Lawful : List A → Type 0
  Lawful h = (k : List A) → Moment k h → B k ≡ (H k && not (H (tail k)))

  abbrev Since : List A → Type 0
  Since h = (b : List A) × Moment b h × Last h b × ((k : List A) → Moment k h → length b ≤ length k → H k ≡ true)

  module _ (empty : H [] ≡ false) where
    stretch : (h : List A) → Lawful h → H h ≡ true → Since h
    stretch [] law t = clash t empty
    stretch (s ∷ h) law t =
        elim (cases_Bool (B (s ∷ h))) [
          | inl q ↦ (s ∷ h, now, (q, λ k r l. let i = number r in absurd (omega arith)), all_of (λ _. t) (λ k r l. let i = number r in absurd (omega arith)))
          | inr q ↦
              let u : H h ≡ true = not-false (H h) (sym (rw t at (law (s ∷ h) now)) ∙ q) in
              let e = stretch h (λ k r. law k (back r)) u in
              (e.0, back e.1, (e.2.0, all_of (λ _. q) e.2.1), all_of (λ _. t) e.3)
        ]

  module _ (X : List A → Bool) where
    -- from b to j it is H throughout, and X at j
    abbrev Within : List A → List A → List A → Type 0
    Within h b j = (length b ≤ length j) × ((k : List A) → Moment k h → length b ≤ length k → length k ≤ length j → H k ≡ true) × (X j ≡ true)

    abbrev pub LatestSaw : List A → Type 0
    LatestSaw h = (b : List A) × Moment b h × Last h b × (j : List A) × Moment j h × Within h b j

    -- b is the last moment with B; from b to j it is H throughout, and X at j: the tests
    abbrev last_at : List A → List A → Bool
    last_at h b = B b && every (λ k. before b k ⇒ not (B k)) h

    abbrev saw_at : List A → List A → List A → Bool
    saw_at h b j = (upto b j && every (λ k. (upto b k && upto k j) ⇒ H k) h) && X j

    pub latest_saw→ : (h : List A) → latest_saw B H X h ≡ true → LatestSaw h
    unfolding latest_saw
    latest_saw→ h t =
        let e = exists→ (λ b. last_at h b && exists (λ j. saw_at h b j) h) h t in
        let p = and_parts (last_at h e.0) (exists (λ j. saw_at h e.0 j) h) e.2 in
        let l = and_parts (B e.0) (every (λ k. before e.0 k ⇒ not (B k)) h) p.0 in
        let f = exists→ (λ j. saw_at h e.0 j) h p.1 in
        let q = and_parts (upto e.0 f.0 && every (λ k. (upto e.0 k && upto k f.0) ⇒ H k) h) (X f.0) f.2 in
        let w = and_parts (upto e.0 f.0) (every (λ k. (upto e.0 k && upto k f.0) ⇒ H k) h) q.0 in (
          e.0,
          e.1,
          (l.0, λ k r i. not-true (B k) (apply (every→ (λ k. before e.0 k ⇒ not (B k)) r l.1) (lt-ltb _ _ i))),
          f.0,
          f.1,
          (leb-true _ _ w.0, (λ k r i o. apply (every→ (λ k. (upto e.0 k && upto k f.0) ⇒ H k) r w.1) (and_from _ _ (le-leb _ _ i) (le-leb _ _ o))), q.1),
        )

    pub latest_saw← : (h : List A) → LatestSaw h → latest_saw B H X h ≡ true
    unfolding latest_saw
    latest_saw← h e =
        exists← (λ b. last_at h b && exists (λ j. saw_at h b j) h) e.1
        (and_from _ _ (and_from _ _ e.2.0 (every← (λ k. before e.0 k ⇒ not (B k)) h (λ k r. given (before e.0 k) (λ i. ap not (e.2.1 k r (ltb-true _ _ i))))))
        (exists← (λ j. saw_at h e.0 j) e.4
        (and_from _ _ (and_from _ _ (le-leb _ _ e.5.0)
        (every← (λ k. (upto e.0 k && upto k e.3) ⇒ H k) h (λ k r. given (upto e.0 k && upto k e.3) (λ i. let p = and_parts (upto e.0 k) (upto k e.3) i in e.5.1 k r (leb-true _ _ p.0) (leb-true _ _ p.1)))))
        e.5.2)))

    module _ (empty : H [] ≡ false) (s : A) (h : List A) (law : Lawful (s ∷ h)) where
      abbrev N : List A
      N = s ∷ h

      saw→ : (q : Bool) → B N ≡ q → {b : List A} → Moment b N → Last N b → {j : List A} → Moment j N → Within N b j
          → cond q (X N) ((H N && X N) || latest_saw B H X h) ≡ true
      saw→ true q r l now w = w.2
      saw→ true q r l (back m) w = let i = number m in clash q (l.1 N now (omega arith))
      saw→ false q r l now w = rw (and_from _ _ (w.1 N now w.0 (omega arith)) w.2)
      saw→ false q now l (back m) w = clash l.0 q
      saw→ false q {b} (back r) l {j} (back m) w =
          or_right (H N && X N) _ (latest_saw← h (b, r, (l.0, λ k n. l.1 k (back n)), j, m, (w.0, (λ k n. w.1 k (back n)), w.2)))

      saw← : (q : Bool) → B N ≡ q → cond q (X N) ((H N && X N) || latest_saw B H X h) ≡ true → LatestSaw N
      saw← true q t =
          let b = and_parts (H N) (not (H h)) (sym (law N now) ∙ q) in (
            N,
            now,
            (q, λ k r l. let i = number r in absurd (omega arith)),
            N,
            now,
            (omega arith, all_of (λ _ _. b.0) (λ k r l. let i = number r in absurd (omega arith)), t),
          )
      saw← false q t = ⊎_elim new old (or_cases (H N && X N) (latest_saw B H X h) t)
        where
          new : (H N && X N) ≡ true → LatestSaw N
          new a =
              let b = and_parts (H N) (X N) a in
              let e = stretch empty N law b.0 in
              (e.0, e.1, e.2, N, now, (number e.1, (λ k r l _. e.3 k r l), b.1))

          old : latest_saw B H X h ≡ true → LatestSaw N
          old a =
              let e = latest_saw→ h a in
              let i = number e.4 in (
                e.0,
                back e.1,
                (e.2.0, all_of (λ _. q) e.2.1),
                e.3,
                back e.4,
                (e.5.0, all_of (λ _ l. absurd (omega arith)) e.5.1, e.5.2),
              )

      pub saw_step : latest_saw B H X N ≡ cond (B N) (X N) ((H N && X N) || latest_saw B H X h)
      saw_step = both_ways _ _ (λ t. let e = latest_saw→ N t in saw→ (B N) refl e.1 e.2 e.4 e.5) (λ t. latest_saw← N (saw← (B N) refl t))
