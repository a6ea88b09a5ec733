-- Demand 1, the file after a call: whatever the outcome, only the status words change; which words an acting cycle puts first. Assumes nothing.
use Prim.Native.Nat.{ℕ, ◌/◌, ◌%◌, ◌^◌, ◌<◌, ◌≤◌}
use mathlib.Core.Bool.{Bool, true, false, cond, ◌||◌}
use mathlib.Core.List.{List, [], ◌∷◌}
use mathlib.Core.Logic.{◌⊎◌, inl, inr}
use mathlib.Core.Path.{◌≡◌, refl, sym, ◌∙◌}
use native.Mathlib.Omega.{arith}
use borrow.Author.Tests.{eqb-true, eq-eqb, ne_eqb}
use lib.ListN.{length, get_or, get_or-eq_default}
use lib.Dec.{eqb}
use Rattle.std.proofs.lemmas.Bool.{cases_lt, cases_Bool, cases_eq}
use Rattle.rules.specs.declared.FileCycle.{FileCycle}
use Rattle.rules.specs.declared.FileCycle.TheVariants.{SetupCycle, GroupCycle, LimitCycle}
use Rattle.rules.specs.declared.Cycle.TheVariants.{OfFile}
use Rattle.rules.specs.declared.Model.{Model}
use Rattle.rules.specs.declared.Programming.{Programming}
use Rattle.rules.specs.declared.Module.{Module}
use Rattle.rules.specs.Words.{word, bit, bits, stored_at}
use Rattle.rules.specs.Variants.{model_in}
use Rattle.rules.specs.Motion.{scale_factor}
use Rattle.rules.specs.Cycle.{acts}
use Rattle.rules.specs.LimitWords.{block_type, limit_block, control_bad, advance_bad, setpoint_bad, length_bit, block_bits, unread, fifth_timed, unassigned, limit_bits, limit_reserved, failing_limit, limit_errors}
use Rattle.rules.specs.FileCycle.{file_length, command_at, status_at, file_errors, failing, command, file_cycle, status_words, file_after}
use Rattle.rules.specs.Card.{file_left}
use Rattle.rules.proofs.Laws.{length_stored, stored_outside, stored_word}
use Rattle.rules.proofs.Packing.{digit_le}

-- 01's lengths, and the word with transmit and ClrErr, of each kind
abbrev pub length_of : FileCycle → ℕ
length_of SetupCycle = 120
length_of GroupCycle = 120
length_of LimitCycle = 650

abbrev pub command_of : FileCycle → List ℕ → ℕ
command_of SetupCycle file = get_or file 0 0
command_of GroupCycle file = get_or file 20 0
command_of LimitCycle file = get_or file 0 0

-- ---- Only the status words change

-- words stored from a place on leave the others, also where they run past the end
stored_to_end : (at : ℕ) (ws file : List ℕ) (k : ℕ) → ((at ≤ k) × (k < length file) → ⊥) → get_or (stored_at at ws file) k 0 ≡ get_or file k 0
stored_to_end at ws file k h =
    elim (cases_lt k (length file)) [
      | inl t ↦ stored_outside at ws file k (λ p. h (p.0, t))
      | inr z ↦
          let y : length (stored_at at ws file) ≤ k = rw (length_stored at ws file) z in
          get_or-eq_default (stored_at at ws file) 0 y ∙ sym (get_or-eq_default file 0 z)
    ]

-- "An acting cycle rewrites its status words (100–109, 110–119, M1 630–649)"
abbrev pub Outside : FileCycle → ℕ → Type 0
Outside SetupCycle k = (100 ≤ k) × (k ≤ 109) → ⊥
Outside GroupCycle k = (110 ≤ k) × (k ≤ 119) → ⊥
Outside LimitCycle k = (630 ≤ k) × (k ≤ 649) → ⊥

-- the words that an acting cycle stores
abbrev stored : FileCycle → Module → List ℕ → List ℕ
stored kind m file =
    status_words kind (file_cycle kind m.configuration file).configuration (file_errors kind m.configuration file) (failing kind m.configuration file) m.state.since.positions

-- what holds of the file, and of the file of the right length with those words, holds of the file after the call
file_either : (P : List ℕ → Type 0) (kind : FileCycle) (m : Module) (file : List ℕ) → P file
    → (length file ≡ file_length kind → P (stored_at (status_at kind) (stored kind m file) file)) → P (file_left kind m file)
unfolding file_left file_after
file_either P kind m file p q =
    elim (cases_eq (length file) (file_length kind)) [
      | inl l ↦ elim (cases_Bool (acts (OfFile kind) (command kind file) m.configuration)) [ inl a ↦ rw (eq-eqb _ _ l, a) (q l) | inr a ↦ rw (eq-eqb _ _ l, a) p ]
      | inr l ↦ rw (ne_eqb _ _ l) p
    ]

-- all other words are as they were, whatever the outcome
pub file_outside : (kind : FileCycle) (m : Module) (file : List ℕ) (k : ℕ) → Outside kind k → get_or (file_left kind m file) k 0 ≡ get_or file k 0
unfolding file_length status_at status_words
file_outside SetupCycle m file k h =
    file_either (λ f. get_or f k 0 ≡ get_or file k 0) SetupCycle m file refl (λ _. stored_outside 100 (stored SetupCycle m file) file k (λ p. h (p.0, omega arith)))
file_outside GroupCycle m file k h =
    file_either (λ f. get_or f k 0 ≡ get_or file k 0) GroupCycle m file refl (λ l. stored_to_end 110 (stored GroupCycle m file) file k (λ p. h (p.0, omega arith)))
file_outside LimitCycle m file k h =
    file_either (λ f. get_or f k 0 ≡ get_or file k 0) LimitCycle m file refl (λ _. stored_outside 630 (stored LimitCycle m file) file k (λ p. h (p.0, omega arith)))

-- and so is the length
pub file_same_length : (kind : FileCycle) (m : Module) (file : List ℕ) → length (file_left kind m file) ≡ length file
file_same_length kind m file =
    file_either (λ f. length f ≡ length file) kind m file refl (λ _. length_stored (status_at kind) (stored kind m file) file)

-- the first status word, and in a group or limit cycle the second, too
abbrev pub Status : FileCycle → ℕ → ℕ → List ℕ → Type 0
Status SetupCycle a b file = get_or file 100 0 ≡ a
Status GroupCycle a b file = (get_or file 110 0 ≡ a) × (get_or file 111 0 ≡ b)
Status LimitCycle a b file = (get_or file 630 0 ≡ a) × (get_or file 631 0 ≡ b)

-- an acting cycle puts 4000h and 0 there where it was ignored, else the check's word and the failing group or output
pub acted_status : (kind : FileCycle) (m : Module) (file : List ℕ) (i : Bool) → eqb (length file) (file_length kind) ≡ true
    → acts (OfFile kind) (command kind file) m.configuration ≡ true → (file_cycle kind m.configuration file).configuration.ignored ≡ i
    → Status kind (cond i 0x4000 (file_errors kind m.configuration file)) (cond i 0 (failing kind m.configuration file)) (file_left kind m file)
unfolding file_left file_after status_at status_words file_length
acted_status SetupCycle m file i l a e =
    let n : length file ≡ 120 = eqb-true (length file) 120 l in
    rw (l, a, e) (stored_word 100 _ file 0 (omega arith) (omega arith))
acted_status GroupCycle m file i l a e =
    let n : length file ≡ 120 = eqb-true (length file) 120 l in
    rw (l, a, e) (stored_word 110 _ file 0 (omega arith) (omega arith), stored_word 110 _ file 1 (omega arith) (omega arith))
acted_status LimitCycle m file i l a e =
    let n : length file ≡ 650 = eqb-true (length file) 650 l in
    rw (l, a, e) (stored_word 630 _ file 0 (omega arith) (omega arith), stored_word 630 _ file 1 (omega arith) (omega arith))

-- ---- Word 630

two_bits : (a b : Bool) → bits (a ∷ b ∷ []) ≤ 3
two_bits a b = omega (arith, digit_le a, digit_le b)

block_bits_below : (sf : ℕ) (fifth : Bool) (b : List ℕ) → block_bits sf fifth b < 32
unfolding block_bits
block_bits_below sf fifth b = go (eqb (block_type b) 3)
  where
    go : (undefined : Bool) → bits (false ∷ control_bad (word b 0) ∷ (advance_bad (word b 1) || advance_bad (word b 2)) ∷ cond undefined [] (setpoint_bad sf b ∷ length_bit sf fifth b ∷ [])) < 32
    go true = omega (arith, two_bits (control_bad (word b 0)) (advance_bad (word b 1) || advance_bad (word b 2)))
    go false = omega (arith, two_bits (control_bad (word b 0)) (advance_bad (word b 1) || advance_bad (word b 2)), two_bits (setpoint_bad sf b) (length_bit sf fifth b))

limit_bits_below : (model : Model) (p : Programming) (file : List ℕ) (n : ℕ) → limit_bits model p file n < 32
unfolding limit_bits
limit_bits_below model p file n =
    elim (cases_Bool (unread model file n)) [
      | inl t ↦ rw t (omega arith)
      | inr t ↦ elim (cases_Bool (unassigned p n)) [ inl o ↦ rw (t, o) (omega arith) | inr o ↦ rw (t, o) (block_bits_below (scale_factor p.setup) (fifth_timed file n) (limit_block file n)) ]
    ]

-- word 630 has bits 0 to 4 of an output, or bit 14 or 15 alone
abbrev pub Word630 : ℕ → Type 0
Word630 w = (w < 32) ⊎ ((w ≡ 0x4000) ⊎ (w ≡ 0x8000))

limit_word : (model : Model) (p : Programming) (file : List ℕ) → Word630 (limit_errors model p file)
unfolding limit_errors
limit_word model p file =
    elim (cases_Bool (limit_reserved file)) [
      | inl t ↦ rw t (inr (inr refl))
      | inr t ↦ elim (cases_Bool (eqb (failing_limit model p file) 0)) [ inl z ↦ rw (t, z) (inl (omega arith)) | inr z ↦ rw (t, z) (inl (limit_bits_below model p file (failing_limit model p file))) ]
    ]

-- after every limit cycle that acts, whatever its outcome
pub word_630 : (m : Module) (file : List ℕ) → eqb (length file) 650 ≡ true → acts (OfFile LimitCycle) (word file 0) m.configuration ≡ true
    → Word630 (get_or (file_left LimitCycle m file) 630 0)
unfolding file_length file_errors command_at
word_630 m file l a =
    let i : Bool = (file_cycle LimitCycle m.configuration file).configuration.ignored in
    let s = acted_status LimitCycle m file i l a refl in
    rw s.0 (go i)
  where
    go : (i : Bool) → Word630 (cond i 0x4000 (limit_errors (model_in m.configuration) m.configuration.programming file))
    go true = inr (inl refl)
    go false = limit_word (model_in m.configuration) m.configuration.programming file

-- "Then bit 5 leaves the table and the code; it reads 0"
pub bit_5_reads_0 : (w : ℕ) → Word630 w → bit w 5 ≡ false
unfolding bit
bit_5_reads_0 w (inl l) = ne_eqb (w / 2 ^ 5 % 2) 1 (λ e. omega arith)
bit_5_reads_0 w (inr (inl e)) = rw e refl
bit_5_reads_0 w (inr (inr e)) = rw e refl
