-- Laws of what the calls answer and leave: refused or accepted by their tests.
-- Assumes nothing.
use Rattle.std.proofs.Common.{◌≡◌, ℕ, ◌+◌, true, false, List, ◌++◌, length, drop, Result, Ok, Err, ap, arith}
use Rattle.df1.specs.declared.Refusal.{Refusal}
use Rattle.df1.specs.declared.Refusal.TheVariants.{DataLength, NotAFrame}
use Rattle.df1.specs.Frame.{allowed, frame_of, is_frame, fit_outcome, write_outcome, read_outcome, buffer_after}
use Rattle.df1.specs.Parts.{dle_count, IsBody}
use Rattle.df1.proofs.Laws.{doubled_length}
use Rattle.df1.proofs.Parts.{frame_length}

-- a frame's length by its data's
pub frame_size : (bytes : List ℕ) → length (frame_of bytes) ≡ length bytes + dle_count bytes + 5
frame_size bytes = omega (arith, frame_length bytes, doubled_length bytes)

pub write_not_allowed : (bytes : List ℕ) (room : ℕ) → false ≡ allowed (length bytes) → Err DataLength ≡ write_outcome bytes room
unfolding write_outcome
write_not_allowed bytes room h = rw (← h)

pub write_fit : (bytes : List ℕ) {n : ℕ} (room : ℕ) → true ≡ allowed (length bytes) → n ≡ dle_count bytes → fit_outcome (length bytes + n + 5) room ≡ write_outcome bytes room
unfolding write_outcome
write_fit bytes room h e = rw (← h) (ap (λ (n : ℕ). fit_outcome n room) (omega (arith, frame_size bytes, e)))

pub read_no_frame : (input : List ℕ) (room : ℕ) → is_frame input ≡ false → Err NotAFrame ≡ read_outcome input room
unfolding read_outcome
read_no_frame input room h = rw h

pub read_fit : {input body : List ℕ} {count : ℕ} (room : ℕ) → IsBody input body count → fit_outcome count room ≡ read_outcome input room
unfolding read_outcome
read_fit room is = rw (is.frame, is.number)

-- what a call leaves, by its outcome
pub refused_leaves : (o : Result ℕ Refusal) (why : Refusal) (bytes buffer : List ℕ) → Err why ≡ o → buffer ≡ buffer_after o bytes buffer
unfolding buffer_after
refused_leaves o why bytes buffer h = rw (← h)

pub accepted_puts : (o : Result ℕ Refusal) (n : ℕ) (bytes buffer : List ℕ) → Ok n ≡ o → bytes ++ drop (length bytes) buffer ≡ buffer_after o bytes buffer
unfolding buffer_after
accepted_puts o n bytes buffer h = rw (← h)
