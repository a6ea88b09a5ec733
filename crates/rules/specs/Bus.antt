-- 02, "The rack bus": the input table as bytes, the interrupt request, its mask and the line. "02" is the document of requests, in all files. No past.
-- Assumes nothing.
use Rattle.std.specs.Prelude.{ℕ, Bool, false, cond, Result, Ok, Err, not, ◌&&◌, ◌||◌, List, [], ◌∷◌, ltb, eqb}
use Rattle.rules.specs.declared.Configuration.{Configuration}
use Rattle.rules.specs.declared.Shown.{Shown}
use Rattle.rules.specs.declared.Bus.{Bus}
use Rattle.rules.specs.declared.Kept.{Kept}
use Rattle.rules.specs.declared.Refusal.{Refusal}
use Rattle.rules.specs.declared.Refusal.TheVariants.{ByteOffset, ReadOnlyByte}
use Rattle.rules.specs.declared.Answer.{Answer}
use Rattle.rules.specs.Words.{word, bit, digit, bits, bytes_of}

-- ---- What a step shows

-- "Words 1 to 5, MD1, MD2 and TachOv are the last step's, inputs after forces": those of a step with this answer and these active real inputs
unfoldable pub shown_by : Answer → ℕ → Shown
shown_by a inputs = record {
  position = a.position;
  tach = a.tach;
  real = a.real;
  virtuals = a.virtuals;
  inputs = inputs;
  overflow = a.overflow;
  md1 = a.md1;
  md2 = a.md2;
}

-- "and 0 before the first"
abbrev pub nothing_shown : Shown
nothing_shown =
    record { position = record { 0 = 0 }; tach = 0; real = 0; virtuals = 0; inputs = 0; overflow = false; md1 = false; md2 = false }

-- ---- The input table

-- Word 0 of figure 5.1, bit 0 first: SUErr, GPErr, LSErr, I/DNum, I/DSet, MsgIgn, ModFlt, TrFlt, MD1, MD2, TachOv, bit 11, I/DAck, SUAck, GPAck, LSAck.
-- "bits for parts that 01 leaves out read 0": ModFlt, and bit 11
unfoldable pub status_bits : Configuration → Shown → ℕ
status_bits g x =
    bits
    (g.errors.setup ∷ g.errors.group ∷ g.errors.limit ∷ g.errors.number ∷ g.errors.setpoint ∷ g.ignored ∷ false ∷ g.fault
    ∷ x.md1 ∷ x.md2 ∷ x.overflow ∷ false ∷ g.acknowledges.nudge ∷ g.acknowledges.setup ∷ g.acknowledges.group ∷ g.acknowledges.limit ∷ [])

-- "words 0 to 7 of figure 5.1": then Machine Position, tachometer, real and virtual outputs, real inputs; words 6 and 7 are "RESERVED: Set to zero."
unfoldable pub input_table : Configuration → Shown → List ℕ
input_table g x = status_bits g x ∷ x.position.0 ∷ x.tach ∷ x.real ∷ x.virtuals ∷ x.inputs ∷ 0 ∷ 0 ∷ []

-- "Sixteen bytes show words 0 to 7 of figure 5.1 .., low byte first": byte n of the table
unfoldable pub table_byte : Configuration → Shown → ℕ → ℕ
table_byte g x n = word (bytes_of (input_table g x)) n

-- ---- The request and its mask

-- "It is set by a step whose changed-output count isn't 0, and stays until a 1 is written to that bit."
unfoldable pub requested : Bus → ℕ → Bus
requested b count = record { request = b.request || not (eqb count 0); mask = b.mask }

-- "Byte 17 bit 0 is its mask, 0 after power-up."
abbrev pub fresh_bus : Bus
fresh_bus = record { request = false; mask = false }

-- "The line is up exactly when request and mask are both 1."
unfoldable pub line_of : Bus → Bool
line_of b = b.request && b.mask

-- ---- Byte accesses

-- "Sixteen bytes"; "Byte 16 bit 0 is an interrupt request"; "Byte 17 bit 0 is its mask"
abbrev pub table_bytes : ℕ
table_bytes = 16

abbrev pub request_byte : ℕ
request_byte = 16

abbrev pub mask_byte : ℕ
mask_byte = 17

-- the byte at an offset of at most 17; "The other bits of bytes 16 and 17 read 0."
unfoldable pub byte_at : Configuration → Kept → ℕ → ℕ
byte_at g x n = cond (ltb n table_bytes) (table_byte g x.shown n) (digit (cond (eqb n request_byte) x.bus.request x.bus.mask))

-- "13 for an offset over 17, first"
unfoldable pub byte_read : Configuration → Kept → ℕ → Result ℕ Refusal
byte_read g x n = cond (ltb mask_byte n) (Err ByteOffset) (Ok (byte_at g x n))

-- a refused read hands back 0
abbrev pub byte_shown : Result ℕ Refusal → ℕ
byte_shown (Ok value) = value
byte_shown (Err why) = 0

-- the request "stays until a 1 is written to that bit"; the mask is the bit written last
unfoldable pub stored : Bus → ℕ → ℕ → Bus
stored b n v =
    cond (eqb n request_byte)
    (record { request = b.request && not (bit v 0); mask = b.mask })
    (record { request = b.request; mask = bit v 0 })

-- "Turned away: 13 for an offset over 17, first; 14 for a write below 16. Neither changes a byte."
unfoldable pub bus_write : Bus → ℕ → ℕ → Result Bus Refusal
bus_write b n v = cond (ltb mask_byte n) (Err ByteOffset) (cond (ltb n table_bytes) (Err ReadOnlyByte) (Ok (stored b n v)))

-- the request and the mask that a write leaves
abbrev pub bus_left : Bus → Result Bus Refusal → Bus
bus_left b (Ok after) = after
bus_left b (Err why) = b
