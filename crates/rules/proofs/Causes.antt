-- Causes of refusal in order: the number of the first that holds, and that each number comes exactly where its cause holds and none before it does.
-- Assumes nothing.
use Prim.Native.Nat.{ℕ}
use mathlib.Core.Bool.{Bool, true, false, cond, not, ◌&&◌, true≢false, false≢true}
use mathlib.Core.List.{List, [], ◌∷◌}
use mathlib.Core.Logic.{◌↔◌}
use mathlib.Core.Path.{◌≡◌, refl, sym}
use borrow.Author.Tests.{eqb-false, not-true}
use lib.Dec.{eqb}
use Rattle.std.proofs.lemmas.Bool.{and_parts}

-- the number of the first cause that holds; 0, accepted, where none does
abbrev pub first_of : List (Bool × ℕ) → ℕ
first_of [] = 0
first_of (c ∷ cs) = cond c.0 c.1 (first_of cs)

-- a number is a cause's exactly where that cause holds and none before it does, and 0 exactly where none holds; `Before` says that none before these holds
abbrev pub Exactly : ℕ → Type 0 → List (Bool × ℕ) → Type 0
Exactly o Before [] = (o ≡ 0) ↔ Before
Exactly o Before (c ∷ cs) = ((o ≡ c.1) ↔ (Before × (c.0 ≡ true))) × Exactly o (Before × (c.0 ≡ false)) cs

-- a number is no cause's and not 0; no two causes have one number, and none has 0
abbrev pub apart : ℕ → List (Bool × ℕ) → Bool
apart n [] = not (eqb n 0)
apart n (c ∷ cs) = not (eqb n c.1) && apart n cs

abbrev pub distinct : List (Bool × ℕ) → Bool
distinct [] = true
distinct (c ∷ cs) = apart c.1 cs && distinct cs

-- a number that is none of these; the first of these and the others
split_apart : (n : ℕ) (c : Bool × ℕ) (cs : List (Bool × ℕ)) → apart n (c ∷ cs) ≡ true → (n ≡ c.1 → ⊥) × (apart n cs ≡ true)
split_apart n c cs h = let p = and_parts (not (eqb n c.1)) (apart n cs) h in (eqb-false n c.1 (not-true _ p.0), p.1)

not_first : (n : ℕ) (cs : List (Bool × ℕ)) → apart n cs ≡ true → n ≡ first_of cs → ⊥
not_first n [] h = eqb-false n 0 (not-true _ h)
not_first n (c ∷ cs) h = go c.0 (not_first n cs (split_apart n c cs h).1)
  where
    go : (b : Bool) → (n ≡ first_of cs → ⊥) → n ≡ cond b c.1 (first_of cs) → ⊥
    go true k = (split_apart n c cs h).0
    go false k = k

none_left : (cs : List (Bool × ℕ)) (o : ℕ) (Before : Type 0) → (Before → ⊥) → apart o cs ≡ true → Exactly o Before cs
none_left [] o Before never h = (λ e. absurd (eqb-false o 0 (not-true _ h) e), λ b. absurd (never b))
none_left (c ∷ cs) o Before never h =
    let p = split_apart o c cs h in
    ((λ e. absurd (p.0 e), λ b. absurd (never b.0)), none_left cs o (Before × (c.0 ≡ false)) (λ b. never b.0) p.1)

from_here : (cs : List (Bool × ℕ)) (Before : Type 0) → Before → distinct cs ≡ true → Exactly (first_of cs) Before cs
from_here [] Before b d = (λ _. b, λ _. refl)
from_here (c ∷ cs) Before b d = go c.0 (and_parts (apart c.1 cs) (distinct cs) d) (from_here cs)
  where
    go : (q : Bool) → (apart c.1 cs ≡ true) × (distinct cs ≡ true) → ((X : Type 0) → X → distinct cs ≡ true → Exactly (first_of cs) X cs)
        → Exactly (cond q c.1 (first_of cs)) Before ((q, c.1) ∷ cs)
    go true p k = ((λ _. (b, refl), λ _. refl), none_left cs c.1 (Before × (true ≡ false)) (λ x. true≢false x.1) p.0)
    go false p k =
        ((λ e. absurd (not_first c.1 cs p.0 (sym e)), λ x. absurd (false≢true x.1)), k (Before × (false ≡ false)) (b, refl) p.1)

-- the number of the first cause that holds is of this form
pub exactly : (cs : List (Bool × ℕ)) (o : ℕ) → distinct cs ≡ true → o ≡ first_of cs → Exactly o Unit cs
exactly cs o d e = rw e (from_here cs Unit tt d)
