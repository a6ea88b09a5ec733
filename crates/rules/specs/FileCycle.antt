-- 01, "Programming": the cycle that takes a file, one for its three kinds; what each kind has of its own is a match on the kind. No past.
-- Assumes nothing.
use Rattle.std.specs.Prelude.{ℕ, Bool, cond, ◌&&◌, ◌||◌, List, [], ◌∷◌, ◌++◌, map, length, replicate, eqb}
use Rattle.rules.specs.declared.GroupPosition.{GroupPosition}
use Rattle.rules.specs.declared.Programming.{Programming}
use Rattle.rules.specs.declared.Configuration.{Configuration}
use Rattle.rules.specs.declared.FileCycle.{FileCycle}
use Rattle.rules.specs.declared.FileCycle.TheVariants.{SetupCycle, GroupCycle, LimitCycle}
use Rattle.rules.specs.declared.Cycle.TheVariants.{OfFile}
use Rattle.rules.specs.declared.Refusal.{Refusal}
use Rattle.rules.specs.declared.Refusal.TheVariants.{M0Length, M1Length, SetupData, GroupData, LimitData}
use Rattle.rules.specs.declared.Decision.{Decision}
use Rattle.rules.specs.Words.{word, bit, table, stored_at}
use Rattle.rules.specs.Variants.{model_in}
use Rattle.rules.specs.Motion.{scale_factor}
use Rattle.rules.specs.Cycle.{m0_length, m1_length, clear_bit, stands, acts, cycle, turned_away, judged, status_word}
use Rattle.rules.specs.SetupWords.{setup_errors, setup_of, with_setup}
use Rattle.rules.specs.GroupWords.{failing_group, group_errors, group_of, with_groups}
use Rattle.rules.specs.LimitWords.{failing_limit, limit_errors, limit_from, with_limits}

-- ---- What each kind has of its own

-- "Setup and group calls take M0, the limit call M1"
unfoldable pub file_length : FileCycle → ℕ
file_length SetupCycle = m0_length
file_length GroupCycle = m0_length
file_length LimitCycle = m1_length

-- "1: M0 length", "2: M1 length"
unfoldable pub length_refusal : FileCycle → Refusal
length_refusal SetupCycle = M0Length
length_refusal GroupCycle = M0Length
length_refusal LimitCycle = M1Length

-- the place of the command word, and of the first status word
unfoldable pub command_at : FileCycle → ℕ
command_at SetupCycle = 0
command_at GroupCycle = 20
command_at LimitCycle = 0

unfoldable pub status_at : FileCycle → ℕ
status_at SetupCycle = 100
status_at GroupCycle = 110
status_at LimitCycle = 630

-- "6, 7, 8: setup, group, limit data."
unfoldable pub data_refusal : FileCycle → Refusal
data_refusal SetupCycle = SetupData
data_refusal GroupCycle = GroupData
data_refusal LimitCycle = LimitData

-- "5: an error stands, or a group cycle in Independent Mode."
unfoldable pub barred : FileCycle → Configuration → Bool
barred SetupCycle g = stands g.errors
barred GroupCycle g = stands g.errors || g.programming.setup.independent
barred LimitCycle g = stands g.errors

-- the check's word, 0 where the file passes, and the failing group or output that it is of
unfoldable pub file_errors : FileCycle → Configuration → List ℕ → ℕ
file_errors SetupCycle g file = setup_errors file
file_errors GroupCycle g file = group_errors (model_in g) (scale_factor g.programming.setup) file
file_errors LimitCycle g file = limit_errors (model_in g) g.programming file

unfoldable pub failing : FileCycle → Configuration → List ℕ → ℕ
failing SetupCycle g file = 0
failing GroupCycle g file = failing_group (model_in g) (scale_factor g.programming.setup) file
failing LimitCycle g file = failing_limit (model_in g) g.programming file

-- the programming that acceptance brings
unfoldable pub brought : FileCycle → Configuration → List ℕ → Programming
brought SetupCycle g file = with_setup g.programming (setup_of file g.raw)
brought GroupCycle g file = with_groups g.programming (table 6 1 (group_of file))
brought LimitCycle g file = with_limits g.programming (table 32 1 (limit_from (model_in g) file))

-- ---- The cycle

-- the command word; ClrErr is its "bit 0"
abbrev pub command : FileCycle → List ℕ → ℕ
command kind file = word file (command_at kind)

abbrev pub clears : ℕ → Bool
clears w = bit w clear_bit

-- what an acting cycle does: 5, or the data's refusal, or acceptance
unfoldable pub file_acts : FileCycle → List ℕ → Configuration → Decision
file_acts kind file g = judged (barred kind g) (file_errors kind g file) (data_refusal kind) (brought kind g file) g

-- "Lengths come first, before the transmit bit is read"
unfoldable pub file_cycle : FileCycle → Configuration → List ℕ → Decision
file_cycle kind g file =
    cond (eqb (length file) (file_length kind))
    (cycle (OfFile kind) (command kind file) (clears (command kind file)) (file_acts kind file) g)
    (turned_away (length_refusal kind) g)

-- ---- The file after it

-- "An acting cycle rewrites its status words (100–109, 110–119, 630–649), unnamed ones zero"; `g` is the configuration after the cycle, whose check found
-- `errors` of `number`. "Word 101 is the offset in force."; "Words 112 to 117 are the Group Positions that the last step left".
unfoldable pub status_words : FileCycle → Configuration → ℕ → ℕ → List GroupPosition → List ℕ
status_words SetupCycle g errors number positions = status_word g.ignored errors ∷ g.programming.setup.offset ∷ replicate 8 0
status_words GroupCycle g errors number positions =
    status_word g.ignored errors ∷ cond g.ignored 0 number ∷ map (λ (p : GroupPosition). p.0) positions ++ (0 ∷ 0 ∷ [])
status_words LimitCycle g errors number positions = status_word g.ignored errors ∷ cond g.ignored 0 number ∷ replicate 18 0

unfoldable pub file_after : FileCycle → Configuration → List GroupPosition → List ℕ → List ℕ
file_after kind g positions file =
    cond (eqb (length file) (file_length kind) && acts (OfFile kind) (command kind file) g)
    (stored_at (status_at kind) (status_words kind (file_cycle kind g file).configuration (file_errors kind g file) (failing kind g file) positions) file)
    file
