-- 02, "3/14 Serial link for the laptop": a DF1 frame, what its writer and its reader answer, and what they leave. "02" is the document of change requests, in all files of this crate.
-- Assumes nothing.
use Rattle.std.specs.Prelude.{ℕ, ◌+◌, ◌-◌, ◌%◌, Bool, true, false, cond, ◌&&◌, List, [], ◌∷◌, ◌++◌, length, take, drop, ◌==◌, nat_le, nat_lt, Result, Ok, Err}
use Rattle.df1.specs.declared.Direction.{Direction}
use Rattle.df1.specs.declared.Direction.TheVariants.{Write, Read}
use Rattle.df1.specs.declared.Refusal.{Refusal}
use Rattle.df1.specs.declared.Refusal.TheVariants.{DataLength, ShortBuffer, NotAFrame}

-- ---- A frame

-- "DLE STX (10h 02h)", "DLE ETX (10h 03h)"
abbrev pub dle : ℕ
dle = 16

abbrev pub stx : ℕ
stx = 2

abbrev pub etx : ℕ
etx = 3

-- "1 to 244 data bytes"
abbrev pub allowed : ℕ → Bool
allowed n = nat_lt 0 n && nat_le n 244

-- "A DLE among the data is sent twice."
unfoldable pub sent : ℕ → List ℕ
sent b = cond (b == dle) (b ∷ b ∷ []) (b ∷ [])

unfoldable pub doubled : List ℕ → List ℕ
doubled [] = []
doubled (b ∷ bytes) = sent b ++ doubled bytes

-- "the sum of the data bytes, where the sum is kept to eight bits by wrapping and a doubled DLE counts once": the data are summed as they are before any is doubled
unfoldable pub sum_of : List ℕ → ℕ
sum_of [] = 0
sum_of (b ∷ bytes) = (b + sum_of bytes) % 256

-- "the two's complement of the sum", of eight bits
unfoldable pub complement : ℕ → ℕ
complement s = (256 - s) % 256

-- "The check byte is the two's complement of the sum of the data bytes"
unfoldable pub check_byte : List ℕ → ℕ
check_byte bytes = complement (sum_of bytes)

-- "A frame is DLE STX (10h 02h), 1 to 244 data bytes, DLE ETX (10h 03h) and one check byte."; "it is itself never doubled"
unfoldable pub frame_of : List ℕ → List ℕ
frame_of bytes = dle ∷ stx ∷ doubled bytes ++ dle ∷ etx ∷ check_byte bytes ∷ []

-- ---- Reading

-- what stands between the first two and the last three bytes of an input
unfoldable pub inside : List ℕ → List ℕ
inside input = take (length input - 5) (drop 2 input)

-- the data of what was sent: a DLE and the byte after it are one data byte
unfoldable pub undoubled : List ℕ → List ℕ
undoubled [] = []
undoubled (b ∷ []) = b ∷ []
undoubled (b ∷ c ∷ body) = b ∷ cond (b == dle) (undoubled body) (undoubled (c ∷ body))

-- the data that an input holds, where it is a frame
unfoldable pub data_of : List ℕ → List ℕ
data_of input = undoubled (inside input)

-- two byte strings are the same
unfoldable pub same : List ℕ → List ℕ → Bool
same [] [] = true
same [] (b ∷ bs) = false
same (a ∷ as') [] = false
same (a ∷ as') (b ∷ bs) = a == b && same as' bs

-- "one whole frame with 1 to 244 data bytes": the input is the frame of the data that it holds
unfoldable pub is_frame : List ℕ → Bool
is_frame input = same input (frame_of (data_of input)) && allowed (length (data_of input))

-- ---- What the calls answer

-- "Turned away: 15 .. 16 .. 17"
unfoldable pub number_of : Refusal → ℕ
number_of DataLength = 15
number_of ShortBuffer = 16
number_of NotAFrame = 17

-- 0 where a call was not refused, else the refusal's number
unfoldable pub outcome_number : Result ℕ Refusal → ℕ
outcome_number (Ok n) = 0
outcome_number (Err why) = number_of why

-- "each gives the length": of what was put into the buffer, so 0 on a refusal
unfoldable pub length_given : Result ℕ Refusal → ℕ
length_given (Ok n) = n
length_given (Err why) = 0

-- "each gives the length": of what was put into the buffer; 16 for a lent buffer that is shorter than what is to be put into it
unfoldable pub fit_outcome : ℕ → ℕ → Result ℕ Refusal
fit_outcome n room = cond (nat_le n room) (Ok n) (Err ShortBuffer)

-- "15 for data of 0 or over 244 bytes on writing; 16, after 15, for a buffer shorter than the frame"
unfoldable pub write_outcome : List ℕ → ℕ → Result ℕ Refusal
write_outcome bytes room = cond (allowed (length bytes)) (fit_outcome (length (frame_of bytes)) room) (Err DataLength)

-- "17 on reading anything but one whole frame with 1 to 244 data bytes, and after it 16 when the lent buffer is shorter than the data"
unfoldable pub read_outcome : List ℕ → ℕ → Result ℕ Refusal
read_outcome input room = cond (is_frame input) (fit_outcome (length (data_of input)) room) (Err NotAFrame)

-- "at the start of a lent buffer", "and leaves the rest"; "A refused call leaves the lent buffer untouched."
unfoldable pub buffer_after : Result ℕ Refusal → List ℕ → List ℕ → List ℕ
buffer_after (Ok n) bytes buffer = bytes ++ drop (length bytes) buffer
buffer_after (Err why) bytes buffer = buffer

-- "The writer puts exactly one frame at the start of a lent buffer": the buffer after its call
unfoldable pub write_buffer : List ℕ → List ℕ → List ℕ
write_buffer bytes buffer = buffer_after (write_outcome bytes (length buffer)) (frame_of bytes) buffer

-- "the reader the data of a frame that spans its whole input": the buffer after its call
unfoldable pub read_buffer : List ℕ → List ℕ → List ℕ
read_buffer input buffer = buffer_after (read_outcome input (length buffer)) (data_of input) buffer

-- either call: its outcome, and the buffer after it
unfoldable pub outcome_of : Direction → List ℕ → ℕ → Result ℕ Refusal
outcome_of Write bytes room = write_outcome bytes room
outcome_of Read bytes room = read_outcome bytes room

unfoldable pub buffer_of : Direction → List ℕ → List ℕ → List ℕ
buffer_of Write bytes buffer = write_buffer bytes buffer
buffer_of Read bytes buffer = read_buffer bytes buffer
