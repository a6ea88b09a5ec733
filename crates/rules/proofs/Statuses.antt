-- What cycles answer and write into their status words, and what a trace prints, computed of whole cards: they hold the definitions that Card and History share
-- to 01's words and numbers. Assumes nothing.
use Prim.Native.Nat.{ℕ}
use mathlib.Core.Path.{◌≡◌, refl}
use mathlib.Core.List.{List, [], ◌∷◌, ◌++◌, map}
use lib.ListN.{replicate, take, drop}
use Rattle.rules.specs.declared.Model.TheVariants.{M8513}
use Rattle.rules.specs.declared.Module.{Module}
use Rattle.rules.specs.declared.FileCycle.{FileCycle}
use Rattle.rules.specs.declared.FileCycle.TheVariants.{SetupCycle, GroupCycle, LimitCycle}
use Rattle.rules.specs.Words.{digit, bytes_of, stored_at}
use Rattle.rules.specs.Cycle.{outcome_number, outcome_of}
use Rattle.rules.specs.Bus.{byte_shown}
use Rattle.rules.specs.Calls.{Read, Write, Call, Step, FileCall, NudgeCall, ByteCall}
use Rattle.rules.specs.Card.{fresh_module, file_call, file_left, nudge_call, read_call, write_call, line_level}
use Rattle.rules.specs.Run.{module_after}
use Rattle.rules.specs.Trace.{report}
use Rattle.rules.proofs.Computes.{machine, trace}
use Rattle.rules.proofs.Runs.{at}

-- ---- What cycles answer, and their status words

-- M0 and M1 with words from places on; their status words are 9 before the cycle
abbrev pub m0_sent : List ℕ → List ℕ → List ℕ
m0_sent setup groups = stored_at 0 setup (stored_at 20 groups (stored_at 100 (replicate 20 9) (replicate 120 0)))

abbrev pub m1_sent : ℕ → List ℕ → List ℕ
m1_sent command blocks = stored_at 0 (command ∷ 0 ∷ blocks) (stored_at 630 (replicate 20 9) (replicate 650 0))

abbrev pub status_place : FileCycle → ℕ
status_place SetupCycle = 100
status_place GroupCycle = 110
status_place LimitCycle = 630

-- of each cycle of a list of calls its number, and of one that takes a file the first eight of the file's status words after it
pub statuses : Module → List Call → List (List ℕ)
statuses x [] = []
statuses x (Step s ∷ calls) = statuses (module_after x (Step s)) calls
statuses x (FileCall kind file ∷ calls) =
    (outcome_number (file_call kind x file).outcome ∷ take 8 (drop (status_place kind) (file_left kind x file))) ∷ statuses (module_after x (FileCall kind file)) calls
statuses x (NudgeCall w ∷ calls) = (outcome_number (nudge_call x w).outcome ∷ []) ∷ statuses (module_after x (NudgeCall w)) calls
statuses x (ByteCall a ∷ calls) = statuses (module_after x (ByteCall a)) calls

-- an Idle cycle leaves the words as they were sent
abbrev pub idle : List ℕ
idle = 65535 ∷ replicate 8 9

-- each call with what it answers
pub status_run : List (Call × List ℕ)
status_run =
    -- setup: SUErr stands at power-up; Idle clears the acknowledge; the Preset bit sets the offset 7 (no step yet); the acknowledge stands; Idle; bad SF, preset and divisor
    (FileCall SetupCycle (m0_sent (0x8000 ∷ 1000 ∷ 7 ∷ 0 ∷ 0 ∷ 0 ∷ 0 ∷ 0 ∷ 1 ∷ 1 ∷ []) []), 5 ∷ 0x4000 ∷ replicate 7 0)
    ∷ (FileCall SetupCycle (m0_sent [] []), idle)
    ∷ (FileCall SetupCycle (m0_sent (0x8003 ∷ 1000 ∷ 7 ∷ 0 ∷ 0 ∷ 0 ∷ 0 ∷ 0 ∷ 1 ∷ 1 ∷ []) []), 0 ∷ 0 ∷ 7 ∷ replicate 6 0)
    ∷ (FileCall SetupCycle (m0_sent (0x8000 ∷ 1000 ∷ []) []), idle)
    ∷ (FileCall SetupCycle (m0_sent [] []), idle)
    ∷ (FileCall SetupCycle (m0_sent (0x8000 ∷ 0 ∷ 1024 ∷ 0 ∷ 0 ∷ 0 ∷ 0 ∷ 0 ∷ 1 ∷ 0 ∷ []) []), 6 ∷ 35 ∷ 7 ∷ replicate 6 0)
    -- groups with ClrErr: group 1 real, Mode 0, two outputs, offset 10; group 2 virtual, Mode 1; no step yet
    ∷ (FileCall GroupCycle (m0_sent [] (0x8001 ∷ 0 ∷ 0x8002 ∷ 0 ∷ 0 ∷ 10 ∷ 0xC101 ∷ 0 ∷ 50 ∷ 100 ∷ [])), 0 ∷ replicate 8 0)
    -- a step at Machine Position 507; limits: output 3 is not dealt
    ∷ (at 512 0, [])
    ∷ (FileCall LimitCycle (m1_sent 0x8000 (replicate 38 0 ++ (0 ∷ 0 ∷ 0 ∷ 1 ∷ 2 ∷ []))), 8 ∷ 1 ∷ 3 ∷ replicate 6 0)
    -- groups: LSErr stands, and the positions are shown; then with ClrErr an offset of 1000 in group 2; then accepted, the positions those of the old groups
    ∷ (FileCall GroupCycle (m0_sent [] []), idle)
    ∷ (FileCall GroupCycle (m0_sent [] (0x8000 ∷ 0 ∷ 0x8002 ∷ 0 ∷ 0 ∷ 10 ∷ [])), 5 ∷ 0x4000 ∷ 0 ∷ 517 ∷ 507 ∷ replicate 4 0)
    ∷ (FileCall GroupCycle (m0_sent [] []), idle)
    ∷ (FileCall GroupCycle (m0_sent [] (0x8001 ∷ 0 ∷ 0 ∷ 0 ∷ 0 ∷ 0 ∷ 0xC101 ∷ 0 ∷ 50 ∷ 1000 ∷ [])), 7 ∷ 1 ∷ 2 ∷ 517 ∷ 507 ∷ replicate 4 0)
    ∷ (FileCall GroupCycle (m0_sent [] []), idle)
    ∷ (FileCall GroupCycle (m0_sent [] (0x8001 ∷ 0 ∷ 0 ∷ 0 ∷ 0 ∷ 0 ∷ 0xC101 ∷ 0 ∷ 50 ∷ 100 ∷ [])), 0 ∷ 0 ∷ 0 ∷ 517 ∷ 507 ∷ replicate 4 0)
    -- limits: output 17 at 1/999
    ∷ (FileCall LimitCycle (m1_sent 0 []), idle)
    ∷ (FileCall LimitCycle (m1_sent 0x8000 (replicate 304 0 ++ (0 ∷ 0 ∷ 0 ∷ 1 ∷ 999 ∷ []))), 0 ∷ replicate 8 0)
    -- nudges: ON up; the acknowledge stands; Idle; output 1 has no program; 5, since I/DNum stands; bit 14; OFF up leaves the range
    ∷ (NudgeCall 0x8110, 0 ∷ [])
    ∷ (NudgeCall 0x8110, 65535 ∷ [])
    ∷ (NudgeCall 0, 65535 ∷ [])
    ∷ (NudgeCall 0x8100, 9 ∷ [])
    ∷ (NudgeCall 0, 65535 ∷ [])
    ∷ (NudgeCall 0x8110, 5 ∷ [])
    ∷ (NudgeCall 0, 65535 ∷ [])
    ∷ (NudgeCall 0xC000, 0 ∷ [])
    ∷ (NudgeCall 0, 65535 ∷ [])
    ∷ (NudgeCall 0x8210, 10 ∷ [])
    -- a step answered 11 is a module start: no positions; then limits with a word 1 that is not zero
    ∷ (at 2000 0, [])
    ∷ (FileCall GroupCycle (m0_sent [] []), idle)
    ∷ (FileCall GroupCycle (m0_sent [] (0x8001 ∷ 0 ∷ 0xC101 ∷ [])), 0 ∷ replicate 8 0)
    ∷ (FileCall LimitCycle (m1_sent 0 []), idle)
    ∷ (FileCall LimitCycle (stored_at 1 (1 ∷ 4 ∷ []) (m1_sent 0x8000 [])), 8 ∷ 0x8000 ∷ replicate 7 0)
    -- Independent Mode with the offset 12; a group cycle is ignored, ClrErr or not; wrong lengths
    ∷ (FileCall SetupCycle (m0_sent [] []), idle)
    ∷ (FileCall SetupCycle (m0_sent (0x8201 ∷ 1000 ∷ 7 ∷ 12 ∷ 0 ∷ 0 ∷ 0 ∷ 0 ∷ 1 ∷ 1 ∷ []) []), 0 ∷ 0 ∷ 12 ∷ replicate 6 0)
    ∷ (FileCall GroupCycle (m0_sent [] []), idle)
    ∷ (FileCall GroupCycle (m0_sent [] (0x8001 ∷ 0 ∷ 0xC101 ∷ [])), 5 ∷ 0x4000 ∷ replicate 7 0)
    ∷ (FileCall GroupCycle [], 1 ∷ [])
    ∷ (FileCall LimitCycle [], 2 ∷ [])
    ∷ []

-- what the run says of its cycles; steps and byte accesses are not told
pub told : List (Call × List ℕ) → List (List ℕ)
told [] = []
told ((Step s, w) ∷ cs) = told cs
told ((FileCall kind file, w) ∷ cs) = w ∷ told cs
told ((NudgeCall n, w) ∷ cs) = w ∷ told cs
told ((ByteCall a, w) ∷ cs) = told cs

pub status_run_lem : statuses (fresh_module M8513) (map (λ (c : Call × List ℕ). c.0) status_run) ≡ told status_run
unfolding machine statuses status_run told
status_run_lem = refl

-- ---- Byte accesses

-- of each byte access of a list of calls its number, with the byte of a read, with the line's level after a write
pub accesses : Module → List Call → List (ℕ × ℕ)
accesses x [] = []
accesses x (Step s ∷ calls) = accesses (module_after x (Step s)) calls
accesses x (FileCall kind file ∷ calls) = accesses (module_after x (FileCall kind file)) calls
accesses x (NudgeCall w ∷ calls) = accesses (module_after x (NudgeCall w)) calls
accesses x (ByteCall (Read n) ∷ calls) = (outcome_number (outcome_of (read_call x n)), byte_shown (read_call x n)) ∷ accesses x calls
accesses x (ByteCall (Write n v) ∷ calls) =
    (outcome_number (write_call x n v).outcome, digit (line_level (module_after x (ByteCall (Write n v))))) ∷ accesses (module_after x (ByteCall (Write n v))) calls

-- reads at some offsets
abbrev pub reads : List ℕ → List Call
reads offsets = map (λ (n : ℕ). ByteCall (Read n)) offsets

-- a step at a raw position with these currents and virtual outputs forced on
abbrev pub forcing : ℕ → ℕ → ℕ → Call
forcing raw currents on = Step (record { raw = raw; currents = currents; virtuals = 0; inputson = 0; inputsoff = 0; realon = 0; realoff = 0; virtualon = on; virtualoff = 0 })

pub access_run : List Call
access_run =
    -- a fresh card: SUErr; a limit cycle answered 5: MsgIgn, LSAck; with transmit clear MsgIgn stays; a nudge with bit 14 drops both
    reads (0 ∷ 1 ∷ [])
    ++ (FileCall LimitCycle (m1_sent 0x8000 []) ∷ reads (0 ∷ 1 ∷ []))
    ++ (FileCall LimitCycle (m1_sent 0 []) ∷ reads (0 ∷ 1 ∷ []))
    ++ (NudgeCall 0xC000 ∷ reads (0 ∷ 1 ∷ []))
    -- active states FFFFh and SLCINT; a step answered 11: TrFlt, its own inputs, its forced output, which sets the request; a nudge drops the fault
    ++ (FileCall SetupCycle (m0_sent (0x8100 ∷ 1024 ∷ 0 ∷ 0 ∷ 0 ∷ 0 ∷ 0 ∷ 0 ∷ 1 ∷ 1 ∷ 0 ∷ 0xffff ∷ []) []) ∷ forcing 2000 2 1 ∷ reads (0 ∷ 8 ∷ 10 ∷ 16 ∷ 17 ∷ []))
    ++ (NudgeCall 0 ∷ NudgeCall 0xC000 ∷ reads (0 ∷ 16 ∷ []))
    -- the mask raises the line at once; FEh clears no request; neither does an accepted setup with SF 2, nor does it clear what was shown of a step at 300
    ++ (ByteCall (Write 17 3) ∷ ByteCall (Write 16 0xfe) ∷ forcing 300 5 1 ∷ FileCall SetupCycle (m0_sent [] []) ∷ [])
    ++ (FileCall SetupCycle (m0_sent (0x8100 ∷ 2 ∷ 0 ∷ 0 ∷ 0 ∷ 0 ∷ 0 ∷ 0 ∷ 1 ∷ 1 ∷ []) []) ∷ reads (2 ∷ 3 ∷ 10 ∷ 16 ∷ 17 ∷ []))
    -- refused accesses; a 1 written to byte 16; a step with no count; one with a count
    ++ (ByteCall (Read 18) ∷ ByteCall (Write 18 0) ∷ ByteCall (Write 15 0) ∷ ByteCall (Write 16 1) ∷ forcing 300 0 1 ∷ ByteCall (Write 17 1) ∷ forcing 300 0 3 ∷ ByteCall (Write 17 1) ∷ ByteCall (Write 17 2) ∷ [])

pub access_run_lem : accesses (fresh_module M8513) access_run
    ≡ (0, 0x01) ∷ (0, 0)
    ∷ (0, 0x21) ∷ (0, 0x80)
    ∷ (0, 0x21) ∷ (0, 0)
    ∷ (0, 0) ∷ (0, 0x10)
    ∷ (0, 0x80) ∷ (0, 1) ∷ (0, 2) ∷ (0, 1) ∷ (0, 0)
    ∷ (0, 0) ∷ (0, 1)
    ∷ (0, 1) ∷ (0, 1)
    ∷ (0, 0x2c) ∷ (0, 1) ∷ (0, 5) ∷ (0, 1) ∷ (0, 1)
    ∷ (13, 0) ∷ (13, 1) ∷ (14, 1) ∷ (0, 0) ∷ (0, 0) ∷ (0, 1) ∷ (0, 0) ∷ []
unfolding machine accesses access_run
access_run_lem = refl

-- ---- Reports

-- 01: "Input 1, 8513, 0, 0, 0, 2, then 10, 0, 0, 0, 0, 5, 4, 0, 0 and 1023 with eight zeros prints": `1 10 0 0001 0000` and `2 1023 0 0000 0000`
pub two_lines : report (bytes_of ((1 ∷ 8513 ∷ 0 ∷ 0 ∷ 0 ∷ 2 ∷ 10 ∷ 0 ∷ 0 ∷ 0 ∷ 0 ∷ 5 ∷ 4 ∷ 0 ∷ 0 ∷ 1023 ∷ replicate 8 0)))
    ≡ 49 ∷ 32 ∷ 49 ∷ 48 ∷ 32 ∷ 48 ∷ 32 ∷ 48 ∷ 48 ∷ 48 ∷ 49 ∷ 32 ∷ 48 ∷ 48 ∷ 48 ∷ 48 ∷ 10 ∷ 50 ∷ 32 ∷ 49 ∷ 48 ∷ 50 ∷ 51 ∷ 32 ∷ 48 ∷ 32 ∷ 48 ∷ 48 ∷ 48 ∷ 48 ∷ 32 ∷ 48 ∷ 48 ∷ 48 ∷ 48 ∷ 10 ∷ []
unfolding trace
two_lines = refl

-- a setup without ClrErr is refused, the group and limit sections are empty, the first sample forces outputs on, the second is cut: `refused 5`, `1 0 0 abcd ef09`, `bad`
pub refused_and_bad : report (bytes_of (1 ∷ 8513 ∷ 20 ∷ 0x8000 ∷ 1024 ∷ replicate 18 0 ++ (0 ∷ 0 ∷ 2 ∷ 0 ∷ 0 ∷ 0 ∷ 0 ∷ 0 ∷ 0xabcd ∷ 0 ∷ 0xef09 ∷ 0 ∷ replicate 8 0)))
    ≡ 114 ∷ 101 ∷ 102 ∷ 117 ∷ 115 ∷ 101 ∷ 100 ∷ 32 ∷ 53 ∷ 10 ∷ 49 ∷ 32 ∷ 48 ∷ 32 ∷ 48 ∷ 32 ∷ 97 ∷ 98 ∷ 99 ∷ 100 ∷ 32 ∷ 101 ∷ 102 ∷ 48 ∷ 57 ∷ 10 ∷ 98 ∷ 97 ∷ 100 ∷ 10 ∷ []
unfolding trace
refused_and_bad = refl

-- an accepted setup (SF 1000, offset 7) prints no line; a byte after the last sample is bad; an unknown module ends the report
pub accepted_and_trailing : report (bytes_of (1 ∷ 8511 ∷ 20 ∷ 0x8001 ∷ 1000 ∷ 0 ∷ 7 ∷ 0 ∷ 0 ∷ 0 ∷ 0 ∷ 1 ∷ 1 ∷ replicate 10 0 ++ (0 ∷ 0 ∷ 1 ∷ 512 ∷ replicate 8 0)) ++ (0 ∷ []))
    ≡ 49 ∷ 32 ∷ 53 ∷ 48 ∷ 55 ∷ 32 ∷ 48 ∷ 32 ∷ 48 ∷ 48 ∷ 48 ∷ 48 ∷ 32 ∷ 48 ∷ 48 ∷ 48 ∷ 48 ∷ 10 ∷ 98 ∷ 97 ∷ 100 ∷ 10 ∷ []
unfolding trace
accepted_and_trailing = refl

pub unknown_ends : report (bytes_of (1 ∷ 8514 ∷ 5 ∷ [])) ≡ 114 ∷ 101 ∷ 102 ∷ 117 ∷ 115 ∷ 101 ∷ 100 ∷ 32 ∷ 51 ∷ 10 ∷ []
unfolding trace
unknown_ends = refl
