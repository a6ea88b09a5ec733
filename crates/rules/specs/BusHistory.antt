-- What 02, "The rack bus", says of a list of calls: from the model and the calls' arguments alone, what the input table shows, whether the line is up, and
-- what each call answers. Lists of calls have the latest first. Like History, without the state machine (Card). Assumes nothing.
use Rattle.std.specs.Prelude.{ℕ, Bool, false, not, ◌&&◌, List, [], ◌∷◌, eqb}
use Rattle.rules.specs.declared.Model.{Model}
use Rattle.rules.specs.declared.Configuration.{Configuration}
use Rattle.rules.specs.declared.Shown.{Shown}
use Rattle.rules.specs.declared.Bus.{Bus}
use Rattle.rules.specs.declared.Kept.{Kept}
use Rattle.rules.specs.Words.{bit}
use Rattle.rules.specs.Motion.{real_inputs}
use Rattle.rules.specs.Cycle.{outcome_of, with_ignored}
use Rattle.rules.specs.FileCycle.{file_cycle, file_after}
use Rattle.rules.specs.Nudge.{nudge_cycle}
use Rattle.rules.specs.Bus.{shown_by, nothing_shown, table_byte, request_byte, mask_byte, byte_read, bus_write}
use Rattle.rules.specs.Calls.{Read, Write, Call, Step, FileCall, NudgeCall, ByteCall, Reply, Stepped, Cycled, Showed, Written}
use Rattle.rules.specs.Quant.{after_each, no_later}
use Rattle.rules.specs.History.{configuration_of, expected_answer, left_positions, message_ignored}

-- ---- The input table

-- "Words 1 to 5, MD1, MD2 and TachOv are the last step's, inputs after forces, and 0 before the first."
unfoldable pub last_shown : Model → List Call → Shown
last_shown model [] = nothing_shown
last_shown model (Step s ∷ l) = shown_by (expected_answer model l s) (real_inputs (configuration_of model l) s)
last_shown model (FileCall kind file ∷ l) = last_shown model l
last_shown model (NudgeCall w ∷ l) = last_shown model l
last_shown model (ByteCall a ∷ l) = last_shown model l

-- "with acknowledges, error bits and status"; "MsgIgn shows the last acting cycle."
unfoldable pub shown_configuration : Model → List Call → Configuration
shown_configuration model l = with_ignored (configuration_of model l) (message_ignored model l)

-- "Sixteen bytes show words 0 to 7": byte n of them
unfoldable pub byte_told : Model → List Call → ℕ → ℕ
byte_told model l n = table_byte (shown_configuration model l) (last_shown model l) n

-- ---- The line

-- of a moment of the list, what its call is: "a step with such a count", one that "isn't 0"
unfoldable pub counted_at : Model → List Call → Bool
counted_at model [] = false
counted_at model (Step s ∷ l) = not (eqb (expected_answer model l s).changed 0)
counted_at model (FileCall kind file ∷ l) = false
counted_at model (NudgeCall w ∷ l) = false
counted_at model (ByteCall a ∷ l) = false

-- a byte write with P of its offset and value; a write to byte n; a 1 written to bit 0 of byte n
unfoldable pub write_at : (ℕ → ℕ → Bool) → List Call → Bool
write_at P [] = false
write_at P (Step s ∷ l) = false
write_at P (FileCall kind file ∷ l) = false
write_at P (NudgeCall w ∷ l) = false
write_at P (ByteCall (Read n) ∷ l) = false
write_at P (ByteCall (Write n v) ∷ l) = P n v

abbrev pub writes_at : ℕ → List Call → Bool
writes_at n = write_at (λ m v. eqb m n)

abbrev pub writes_one_at : ℕ → List Call → Bool
writes_one_at n = write_at (λ m v. eqb m n && bit v 0)

-- "a step with such a count came after the last 1 written to bit 0 of byte 16, or ever where none was written": after each of them
unfoldable pub request_told : Model → List Call → Bool
request_told model l = after_each (counted_at model) (writes_one_at request_byte) l

-- "the last write to byte 17 had bit 0 set": one had, and no write to byte 17 came later
unfoldable pub mask_told : List Call → Bool
mask_told l = no_later (writes_one_at mask_byte) (writes_at mask_byte) l

-- "the line is up exactly when the last write to byte 17 had bit 0 set and a step with such a count came after the last 1 written to bit 0 of byte 16, or ever where none was written"
unfoldable pub line_told : Model → List Call → Bool
line_told model l = mask_told l && request_told model l

-- ---- What each call answers

-- what runs on since power-up
unfoldable pub bus_told : Model → List Call → Bus
bus_told model l = record { request = request_told model l; mask = mask_told l }

unfoldable pub kept_told : Model → List Call → Kept
kept_told model l = record { shown = last_shown model l; bus = bus_told model l }

unfoldable pub expected_reply : Model → List Call → Call → Reply
expected_reply model l (Step s) = Stepped (expected_answer model l s)
expected_reply model l (FileCall kind file) =
    Cycled (file_cycle kind (configuration_of model l) file).outcome (file_after kind (configuration_of model l) (left_positions model l) file)
expected_reply model l (NudgeCall w) = Cycled (nudge_cycle (configuration_of model l) w).outcome []
expected_reply model l (ByteCall (Read n)) = Showed (byte_read (shown_configuration model l) (kept_told model l) n)
expected_reply model l (ByteCall (Write n v)) = Written (outcome_of (bus_write (bus_told model l) n v))

-- what the calls of a list in the order of time answer; `past` are the calls before it, the latest first
unfoldable pub expected_replies : Model → List Call → List Call → List Reply
expected_replies model past [] = []
expected_replies model past (call ∷ calls) = expected_reply model past call ∷ expected_replies model (call ∷ past) calls
