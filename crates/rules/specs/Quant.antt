-- Quantifiers over the past, with which History says what 01 says of earlier steps. A past is a list of steps, the latest first; a moment of it is the
-- past as it stood at one of its steps, so that step is the moment's head. Which of two moments is the later is told by how many steps there were.
-- proofs/Reading.antt has the proposition behind each. Assumes nothing.
use Rattle.std.specs.Prelude.{ℕ, ◌+◌, Bool, true, false, not, ◌&&◌, ◌||◌, length, ltb, leb}
use mathlib.Core.List.{List, [], ◌∷◌, tail}

infixr 25 ◌⇒◌
abbrev pub ◌⇒◌ : Bool → Bool → Bool
true ⇒ b = b
false ⇒ b = true

module _ {A : Type 0} where
  -- P at some moment of the past
  abbrev pub exists : (List A → Bool) → List A → Bool
  exists P [] = false
  exists P (s ∷ h) = P (s ∷ h) || exists P h

  -- P at each moment of the past
  abbrev pub every : (List A → Bool) → List A → Bool
  every P [] = true
  every P (s ∷ h) = P (s ∷ h) && every P h

  -- k came before j; k came no later than j
  abbrev pub before : List A → List A → Bool
  before k j = ltb (length k) (length j)

  abbrev pub upto : List A → List A → Bool
  upto k j = leb (length k) (length j)

  -- at some moment P, and each Q came before that one
  unfoldable pub after_each : (List A → Bool) → (List A → Bool) → List A → Bool
  after_each P Q h = exists (λ j. P j && every (λ k. Q k ⇒ before k j) h) h

  -- there is a last moment with P, and no Q came later than that one
  unfoldable pub no_later : (List A → Bool) → (List A → Bool) → List A → Bool
  no_later P Q h =
      exists (λ j. (P j && every (λ k. before j k ⇒ not (P k)) h) && every (λ k. before j k ⇒ not (Q k)) h) h

  -- The latest stretch of H saw X. A stretch begins where B, and lasts for as long as H at each moment.
  -- So: there is a moment b with B, and none later with B; and a moment j from b on, with H at each moment from b to j, and X at j.
  unfoldable pub latest_saw : (List A → Bool) → (List A → Bool) → (List A → Bool) → List A → Bool
  latest_saw B H X h =
      exists
      (λ b. (B b && every (λ k. before b k ⇒ not (B k)) h)
      && exists (λ j. (upto b j && every (λ k. (upto b k && upto k j) ⇒ H k) h) && X j) h)
      h

  -- It is H now, and fewer than n steps have passed since it began: there is a moment b where H began, with H at each moment from b on, and now is
  -- less than n steps after b.
  unfoldable pub held_under : ℕ → (List A → Bool) → List A → Bool
  held_under n H h =
      exists (λ b. ((H b && not (H (tail b))) && every (λ k. upto b k ⇒ H k) h) && ltb (length h) (length b + n)) h
