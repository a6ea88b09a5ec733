-- What 02 says of frames, of the definitions that the contracts cite: data read back, an accepted frame is the writer's, a frame has 6 to 493 bytes, and each refusal comes exactly where it is listed.
-- Assumes nothing.
use Rattle.std.proofs.Common.{◌==◌, ◌≡◌, ℕ, ◌<◌, ◌≤◌, Bool, true, false, cond, leb, List, [], ◌∷◌, ◌++◌, length, take, drop, replicate, sym, refl, ap, ◌∙◌, arith, le-leb, leb-false, leb-true, Result, Ok, Err}
use mathlib.Core.Bool.{false≢true}
use borrow.Author.Tests.{lt-leb}
use lib.Seq.{take-append_seam}
use Rattle.std.proofs.lemmas.Bool.{and_parts, false_from_ne_true}
use Rattle.std.proofs.lemmas.Bool.Decides.{nat_tests}
use Rattle.std.proofs.lemmas.List.Sums.{count_by-le-length}
use Rattle.df1.specs.declared.Direction.{Direction}
use Rattle.df1.specs.declared.Refusal.{Refusal}
use Rattle.df1.specs.declared.Refusal.TheVariants.{DataLength, ShortBuffer, NotAFrame}
use Rattle.df1.specs.Frame.{dle, allowed, sent, doubled, frame_of, data_of, is_frame, length_given, fit_outcome, write_outcome, read_outcome, buffer_after, write_buffer, read_buffer, outcome_of}
use Rattle.df1.proofs.Laws.{same_true, same_refl}
use Rattle.df1.proofs.Parts.{frame_data}
use Rattle.df1.proofs.Answers.{frame_size}

-- ---- What the statements speak of

-- "1 to 244 data bytes"
pub Allowed : List ℕ → Type 0
Allowed bytes = (1 ≤ length bytes) × (length bytes ≤ 244)

-- an input is one whole frame, and these are its data
pub record FrameOf (bytes input : List ℕ) : Type 0 where
  pub number : Allowed bytes
  pub whole : input ≡ frame_of bytes

allowed_true : (bytes : List ℕ) → Allowed bytes → allowed (length bytes) ≡ true
unfolding Allowed
allowed_true bytes h = grind (arith, nat_tests)

true_allowed : (bytes : List ℕ) → allowed (length bytes) ≡ true → Allowed bytes
unfolding Allowed
true_allowed bytes h = grind (arith, nat_tests)

-- ---- Frames and their data

-- "Every data string of allowed length reads back from its frame"
pub reads_back : (bytes : List ℕ) → Allowed bytes → (is_frame (frame_of bytes) ≡ true) × (data_of (frame_of bytes) ≡ bytes)
unfolding is_frame
reads_back bytes h =
    let e = frame_data bytes in
    (rw (e, same_refl (frame_of bytes)) (allowed_true bytes h), e)

-- "an accepted frame is the one that the writer makes of its data"
pub accepted_frame : (input : List ℕ) → is_frame input ≡ true → FrameOf (data_of input) input
unfolding is_frame
accepted_frame input h =
    let p = and_parts _ _ h in
    record { number = true_allowed (data_of input) p.1; whole = same_true input (frame_of (data_of input)) p.0 }

-- no two data strings share a frame
pub one_frame : (a b : List ℕ) → frame_of a ≡ frame_of b → a ≡ b
one_frame a b e = sym (frame_data a) ∙ ap data_of e ∙ frame_data b

-- no frame reads as two: what the reader takes for the data of a frame are its data
pub one_reading : (bytes input : List ℕ) → FrameOf bytes input → (is_frame input ≡ true) × (data_of input ≡ bytes)
one_reading bytes input f =
    let r = reads_back bytes f.number in
    (ap is_frame f.whole ∙ r.0, ap data_of f.whole ∙ r.1)

-- a frame has 6 to 493 bytes
pub frame_bounds : (bytes : List ℕ) → Allowed bytes → (6 ≤ length (frame_of bytes)) × (length (frame_of bytes) ≤ 493)
unfolding Allowed
frame_bounds bytes h = (omega (arith, frame_size bytes, h), omega (arith, frame_size bytes, count_by-le-length (λ b. b == dle) bytes, h))

-- both are reached
pub shortest_frame : length (frame_of (0 ∷ [])) ≡ 6
unfolding frame_of doubled sent
shortest_frame = refl

pub longest_frame : length (frame_of (replicate 244 dle)) ≡ 493
unfolding frame_of doubled sent
longest_frame = refl

-- ---- Each refusal, exactly where 02 lists it

-- each of two statements follows from the other
pub Exactly : Type 0 → Type 0 → Type 0
Exactly A B = (A → B) × (B → A)

-- both calls test first one thing and then the room
decided : Bool → Bool → Refusal → ℕ → Result ℕ Refusal
decided t u why n = cond t (cond u (Ok n) (Err ShortBuffer)) (Err why)

module _ (why : Refusal) (apart : why ≡ ShortBuffer → ⊥) (n : ℕ) where
  turned_away_lem : (t u : Bool) → Exactly (decided t u why n ≡ Err why) (t ≡ false)
  unfolding Exactly decided
  turned_away_lem t u = (λ h. grind (arith, nat_tests), λ e. rw e)

  too_short : (t u : Bool) → Exactly (decided t u why n ≡ Err ShortBuffer) ((t ≡ true) × (u ≡ false))
  unfolding Exactly decided
  too_short t u = (λ h. grind (arith, nat_tests), λ e. rw (e.0, e.1))

  taken : (t u : Bool) (m : ℕ) → Exactly (decided t u why n ≡ Ok m) ((t ≡ true) × (u ≡ true) × (m ≡ n))
  unfolding Exactly decided
  taken t u m = (λ h. grind (arith, nat_tests), λ e. rw (e.0, e.1, e.2))

length_apart : DataLength ≡ ShortBuffer → ⊥
length_apart e = cc

frame_apart : NotAFrame ≡ ShortBuffer → ⊥
frame_apart e = cc

-- "15 for data of 0 or over 244 bytes on writing"
pub write_refused_15 : (bytes : List ℕ) (room : ℕ) → Exactly (write_outcome bytes room ≡ Err DataLength) (Allowed bytes → ⊥)
unfolding Exactly write_outcome fit_outcome decided
write_refused_15 bytes room =
    let e = turned_away_lem DataLength length_apart (length (frame_of bytes)) (allowed (length bytes)) (leb (length (frame_of bytes)) room) in
    (λ h a. false≢true (sym (e.0 h) ∙ allowed_true bytes a), λ h. e.1 (false_from_ne_true (allowed (length bytes)) (λ t. h (true_allowed bytes t))))

-- "16, after 15, for a buffer shorter than the frame"
pub write_refused_16 : (bytes : List ℕ) (room : ℕ) → Exactly (write_outcome bytes room ≡ Err ShortBuffer) (Allowed bytes × (room < length (frame_of bytes)))
unfolding Exactly write_outcome fit_outcome decided
write_refused_16 bytes room =
    let e = too_short DataLength length_apart (length (frame_of bytes)) (allowed (length bytes)) (leb (length (frame_of bytes)) room) in (
      λ h. let b = e.0 h in (true_allowed bytes b.0, leb-false (length (frame_of bytes)) room b.1),
      λ h. e.1 (allowed_true bytes h.0, lt-leb (length (frame_of bytes)) room h.1),
    )

-- and accepted in all other cases, with the frame's length
pub write_accepted : (bytes : List ℕ) (room n : ℕ) → Exactly (write_outcome bytes room ≡ Ok n) (Allowed bytes × (length (frame_of bytes) ≤ room) × (n ≡ length (frame_of bytes)))
unfolding Exactly write_outcome fit_outcome decided
write_accepted bytes room n =
    let e = taken DataLength length_apart (length (frame_of bytes)) (allowed (length bytes)) (leb (length (frame_of bytes)) room) n in (
      λ h. let b = e.0 h in (true_allowed bytes b.0, leb-true (length (frame_of bytes)) room b.1, b.2),
      λ h. e.1 (allowed_true bytes h.0, le-leb (length (frame_of bytes)) room h.1, h.2),
    )

-- "17 on reading anything but one whole frame with 1 to 244 data bytes"
pub read_refused_17 : (input : List ℕ) (room : ℕ) → Exactly (read_outcome input room ≡ Err NotAFrame) ((bytes : List ℕ) → FrameOf bytes input → ⊥)
unfolding Exactly read_outcome fit_outcome decided
read_refused_17 input room =
    let e = turned_away_lem NotAFrame frame_apart (length (data_of input)) (is_frame input) (leb (length (data_of input)) room) in
    (λ h bytes f. false≢true (sym (e.0 h) ∙ (one_reading bytes input f).0), λ h. e.1 (false_from_ne_true (is_frame input) (λ t. h (data_of input) (accepted_frame input t))))

-- "and after it 16 when the lent buffer is shorter than the data"
pub read_refused_16 : (input : List ℕ) (room : ℕ) → Exactly (read_outcome input room ≡ Err ShortBuffer) ((bytes : List ℕ) × FrameOf bytes input × (room < length bytes))
unfolding Exactly read_outcome fit_outcome decided
read_refused_16 input room =
    let e = too_short NotAFrame frame_apart (length (data_of input)) (is_frame input) (leb (length (data_of input)) room) in (
      λ h. let b = e.0 h in (data_of input, accepted_frame input b.0, leb-false (length (data_of input)) room b.1),
      λ h. let r = one_reading h.0 input h.1 in e.1 (r.0, lt-leb (length (data_of input)) room (rw (← r.1) at h.2)),
    )

-- and accepted in all other cases, with the data's length
pub read_accepted : (input : List ℕ) (room n : ℕ) → Exactly (read_outcome input room ≡ Ok n) ((bytes : List ℕ) × FrameOf bytes input × (length bytes ≤ room) × (n ≡ length bytes))
unfolding Exactly read_outcome fit_outcome decided
read_accepted input room n =
    let e = taken NotAFrame frame_apart (length (data_of input)) (is_frame input) (leb (length (data_of input)) room) n in (
      λ h. let b = e.0 h in (data_of input, accepted_frame input b.0, leb-true (length (data_of input)) room b.1, b.2),
      λ h. let r = one_reading h.0 input h.1 in e.1 (r.0, le-leb (length (data_of input)) room (rw (← r.1) at h.2), rw r.1 h.3),
    )

-- a refused call gives the length 0, an accepted one that of what it put
pub refused_gives_0 : (d : Direction) (bytes : List ℕ) (room : ℕ) (why : Refusal) → outcome_of d bytes room ≡ Err why → length_given (outcome_of d bytes room) ≡ 0
unfolding length_given
refused_gives_0 d bytes room why h = rw h

pub accepted_gives : (d : Direction) (bytes : List ℕ) (room n : ℕ) → outcome_of d bytes room ≡ Ok n → length_given (outcome_of d bytes room) ≡ n
unfolding length_given
accepted_gives d bytes room n h = rw h

-- ---- From a writer's buffer to a reader's, and back

-- where the writer accepts, it put the frame
put_frame : (bytes buffer : List ℕ) (n : ℕ) → write_outcome bytes (length buffer) ≡ Ok n → take n (write_buffer bytes buffer) ≡ frame_of bytes
unfolding Exactly write_buffer buffer_after
put_frame bytes buffer n w =
    let e = ((write_accepted bytes (length buffer) n).0 w).2 in
    rw (w, e) (take-append_seam (frame_of bytes) (drop (length (frame_of bytes)) buffer))

-- and what it put reads back: the reader gives the data's length and the data, and leaves the rest of its buffer
pub written_reads_back : (bytes buffer out : List ℕ) (n : ℕ) → write_outcome bytes (length buffer) ≡ Ok n → length bytes ≤ length out
    → let frame : List ℕ = take n (write_buffer bytes buffer) in
    (read_outcome frame (length out) ≡ Ok (length bytes)) × (read_buffer frame out ≡ bytes ++ drop (length bytes) out)
unfolding Exactly read_buffer buffer_after
written_reads_back bytes buffer out n w h =
    let a = ((write_accepted bytes (length buffer) n).0 w).0 in
    let r = (read_accepted (frame_of bytes) (length out) (length bytes)).1 (bytes, record { number = a; whole = refl }, h, refl) in
    rw (put_frame bytes buffer n w) (r, rw (r, frame_data bytes))

-- where the reader accepts, the writer makes its input of the data
pub read_writes_back : (input buffer : List ℕ) (room n : ℕ) → read_outcome input room ≡ Ok n → length input ≤ length buffer
    → (write_outcome (data_of input) (length buffer) ≡ Ok (length input)) × (write_buffer (data_of input) buffer ≡ input ++ drop (length input) buffer)
unfolding Exactly write_buffer buffer_after
read_writes_back input buffer room n r h =
    let f = (read_accepted input room n).0 r in
    let g = accepted_frame input (one_reading f.0 input f.1).0 in
    let w = (write_accepted (data_of input) (length buffer) (length input)).1 (g.number, omega (arith, ap length g.whole), ap length g.whole) in
    (w, rw (w, ← g.whole))

-- ---- What is too long is refused by any part of it that is too long

pub long_input : (input : List ℕ) (room : ℕ) → 493 < length input → read_outcome input room ≡ Err NotAFrame
unfolding Exactly
long_input input room h = (read_refused_17 input room).1 (λ bytes f. omega (arith, (frame_bounds bytes f.number).1, ap length f.whole))

pub long_data : (bytes : List ℕ) (room : ℕ) → 244 < length bytes → write_outcome bytes room ≡ Err DataLength
unfolding Exactly Allowed
long_data bytes room h = (write_refused_15 bytes room).1 (λ a. omega (arith, a.1))
