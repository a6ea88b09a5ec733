-- A timed switch: the count of steps that are left to it says the same as its past.
-- Assumes nothing.
use mathlib.Core.Logic.{inl, inr}
use mathlib.Core.Path.{◌≡◌, refl, sym, ap, ◌∙◌}
use mathlib.Core.Bool.{Bool, true, false, cond, not, ◌&&◌}
use mathlib.Core.List.{List, [], ◌∷◌, tail}
use Prim.Native.Nat.{ℕ, suc, ◌+◌, ◌-◌, ◌≤◌, ◌<◌}
use native.Mathlib.Omega.{arith}
use lib.ListN.{length}
use lib.Dec.{ltb}
use borrow.Author.Tests.{ltb-true, lt-ltb, leb-true, le-leb, le-ltb, not-true}
use Rattle.std.proofs.lemmas.Bool.{and_parts, and_from, cases_Bool, cases_lt}
use Rattle.std.specs.Cmp.{both_ways}
use Rattle.rules.specs.declared.Switch.{Switch}
use Rattle.rules.specs.declared.Switch.TheVariants.{Unprogrammed, Normal, Pulse, Timed}
use Rattle.rules.specs.declared.TimedState.{TimedState}
use Rattle.rules.specs.Switches.{timed_steps}
use Rattle.rules.specs.Card.{timed_after, fresh_timed}
use Rattle.rules.specs.History.{held_at, lasts}
use Rattle.rules.specs.Quant.{◌⇒◌, every, upto, held_under}
use Rattle.rules.proofs.Past.{given, apply, clash, Moment, now, back, number, exists→, exists←, every→, every←, all_of}

module _ {A : Type 0} (H : List A → Bool) where
  -- how many steps have passed since H began
  abbrev pub passed : List A → ℕ
  passed [] = 0
  passed (s ∷ h) = cond (H h) (suc (passed h)) 0

  abbrev pub From : List A → List A → Type 0
  From h b = (H b ≡ true) × (H (tail b) ≡ false) × ((k : List A) → Moment k h → length b ≤ length k → H k ≡ true)

  abbrev pub HeldUnder : ℕ → List A → Type 0
  HeldUnder n h = (b : List A) × Moment b h × From h b × (length h < length b + n)

  -- b is where H began, and H stood from there on
  abbrev begun_at : List A → List A → Bool
  begun_at h b = (H b && not (H (tail b))) && every (λ k. upto b k ⇒ H k) h

  pub held_under→ : (n : ℕ) (h : List A) → held_under n H h ≡ true → HeldUnder n h
  unfolding held_under
  held_under→ n h t =
      let e = exists→ (λ b. begun_at h b && ltb (length h) (length b + n)) h t in
      let p = and_parts (begun_at h e.0) (ltb (length h) (length e.0 + n)) e.2 in
      let q = and_parts (H e.0 && not (H (tail e.0))) (every (λ k. upto e.0 k ⇒ H k) h) p.0 in
      let b = and_parts (H e.0) (not (H (tail e.0))) q.0 in
      (e.0, e.1, (b.0, not-true _ b.1, λ k r l. apply (every→ (λ k. upto e.0 k ⇒ H k) r q.1) (le-leb _ _ l)), ltb-true _ _ p.1)

  pub held_under← : (n : ℕ) (h : List A) → HeldUnder n h → held_under n H h ≡ true
  unfolding held_under
  held_under← n h e =
      exists← (λ b. begun_at h b && ltb (length h) (length b + n)) e.1
      (and_from _ _ (and_from _ _ (and_from _ _ e.2.0 (ap not e.2.1)) (every← (λ k. upto e.0 k ⇒ H k) h (λ k r. given (upto e.0 k) (λ l. e.2.2 k r (leb-true _ _ l))))) (lt-ltb _ _ e.3))

module _ {A : Type 0} (H : List A → Bool) (empty : H [] ≡ false) where
  -- the stretch that stands began as many moments ago as are counted
  began : (h : List A) → H h ≡ true → (b : List A) × Moment b h × From H h b × (length h ≡ length b + passed H h)
  began [] t = clash t empty
  began (s ∷ h) t =
      elim (cases_Bool (H h)) [
        | inl q ↦
            let e = began h q in
            (e.0, back e.1, (e.2.0, e.2.1, all_of (λ _. t) e.2.2), rw q (let i = e.3 in omega arith))
        | inr q ↦ (s ∷ h, now, (t, q, all_of (λ _. t) (λ k r l. let i = number r in absurd (omega arith))), rw q (omega arith))
      ]

  self : {b h : List A} → Moment b h → Moment h h
  self now = now
  self (back r) = now

  -- so did any that is H from there on
  latest : {b h : List A} → Moment b h → From H h b → length h ≡ length b + passed H h
  latest (now {h = h}) f = rw f.1 (omega arith)
  latest (back {h = h} r) f =
      let i = latest r (f.0, f.1, λ k m. f.2 k (back m)) in
      rw (f.2 h (back (self r)) (number r)) (omega arith)

  pub timed : (n : ℕ) (h : List A) → held_under n H h ≡ (H h && ltb (passed H h) n)
  timed n h =
      both_ways _ _
      (λ t. let e = held_under→ H n h t in let i = latest e.1 e.2 in let l = e.3 in
      and_from _ _ (e.2.2 h (self e.1) (number e.1)) (lt-ltb (passed H h) n (omega arith)))
      (λ t. let p = and_parts (H h) (ltb (passed H h) n) t in let e = began h p.0 in let i = e.3 in let l = ltb-true (passed H h) n p.1 in
      held_under← H n h (e.0, e.1, e.2, omega arith))

-- ---- The card's count

none_held : held_at [] ≡ false
unfolding held_at
none_held = refl

abbrev pub passed_of : List Bool → ℕ
passed_of h = passed held_at h

-- the state of a timed switch of T milliseconds is that of its past
pub record Counted (t : ℕ) (x : TimedState) (h : List Bool) : Type 0 where
  pub held : x.held ≡ held_at h
  pub left : x.left ≡ cond (held_at h) (timed_steps t - passed_of h) 0

abbrev pub TimedLink : Switch → TimedState → List Bool → Type 0
TimedLink w x h = (t : ℕ) → w ≡ Timed t → Counted t x h

counts_on : (n p : ℕ) (b was : Bool) → cond b (cond was (cond was (n - p) 0 - 1) n) 0 ≡ cond b (n - cond was (suc p) 0) 0
counts_on n p true true = omega arith
counts_on n p true false = omega arith
counts_on n p false was = refl

pub timed_step : (w : Switch) (b : Bool) (x : TimedState) (h : List Bool) → TimedLink w x h → TimedLink w (timed_after w b x) (b ∷ h)
unfolding timed_after held_at
timed_step w b x h k t e =
    let c = k t e in
    rw e (record { held = refl; left = rw (c.left, c.held) (counts_on (timed_steps t) (passed_of h) b (held_at h)) })

pub timed_fresh : (w : Switch) → TimedLink w fresh_timed []
unfolding held_at
timed_fresh w t e = record { held = refl; left = refl }

remains : (n p : ℕ) → ltb 0 (n - p) ≡ ltb p n
remains n p =
    elim (cases_lt p n) [ inl l ↦ rw (lt-ltb p n l) (lt-ltb 0 (n - p) (omega arith)) | inr l ↦ rw (le-ltb p n l) (le-ltb 0 (n - p) (omega arith)) ]

lasting_held : (n p : ℕ) (b : Bool) → ltb 0 (cond b (n - p) 0) ≡ (b && ltb p n)
lasting_held n p true = remains n p
lasting_held n p false = refl

pub lasting_is : (w : Switch) (b : Bool) (x : TimedState) (h : List Bool) → TimedLink w x h → ltb 0 (timed_after w b x).left ≡ lasts w (b ∷ h)
unfolding timed_after lasts
lasting_is Unprogrammed b x h k = refl
lasting_is Normal b x h k = refl
lasting_is (Pulse q c) b x h k = refl
lasting_is (Timed t) b x h k =
    let c = timed_step (Timed t) b x h k t refl in
    ap (ltb 0) c.left ∙ lasting_held (timed_steps t) (passed_of (b ∷ h)) (held_at (b ∷ h)) ∙ sym (timed held_at none_held (timed_steps t) (b ∷ h))
