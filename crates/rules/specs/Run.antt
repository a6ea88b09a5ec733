-- A card from power-up through a list of calls: each call gets the module that the last one left. Made of the definitions that the public calls' contracts cite.
-- Assumes nothing.
use Rattle.std.specs.Prelude.{ℕ, ◌-◌, Bool, true, false, cond, List, [], ◌∷◌, ltb}
use Rattle.rules.specs.declared.Model.{Model}
use Rattle.rules.specs.declared.Module.{Module}
use Rattle.rules.specs.declared.Sample.{Sample}
use Rattle.rules.specs.declared.Answer.{Answer}
use Rattle.rules.specs.Words.{bit}
use Rattle.rules.specs.Calls.{Access, Read, Write, Call, Step, FileCall, NudgeCall, ByteCall, Reply, Stepped, Cycled, Showed, Written}
use Rattle.rules.specs.Card.{fresh_module, file_call, file_left, nudge_call, step_call, read_call, write_call}

-- "Reads change nothing."
unfoldable pub accessed : Module → Access → Module
accessed x (Read n) = x
accessed x (Write n v) = (write_call x n v).card

unfoldable pub module_after : Module → Call → Module
module_after x (Step s) = (step_call x s).card
module_after x (FileCall kind file) = (file_call kind x file).card
module_after x (NudgeCall w) = (nudge_call x w).card
module_after x (ByteCall a) = accessed x a

-- the module after a list of calls from power-up, the latest first
unfoldable pub run : Model → List Call → Module
run model [] = fresh_module model
run model (call ∷ l) = module_after (run model l) call

-- a module's answers to the steps of a list of calls, in the order of time
unfoldable pub answers : Module → List Call → List Answer
answers x [] = []
answers x (Step s ∷ calls) = (step_call x s).answer ∷ answers (module_after x (Step s)) calls
answers x (FileCall kind file ∷ calls) = answers (module_after x (FileCall kind file)) calls
answers x (NudgeCall w ∷ calls) = answers (module_after x (NudgeCall w)) calls
answers x (ByteCall a ∷ calls) = answers (module_after x (ByteCall a)) calls

-- what a module answers to a call, and to the calls of a list in the order of time
unfoldable pub reply : Module → Call → Reply
reply x (Step s) = Stepped (step_call x s).answer
reply x (FileCall kind file) = Cycled (file_call kind x file).outcome (file_left kind x file)
reply x (NudgeCall w) = Cycled (nudge_call x w).outcome []
reply x (ByteCall (Read n)) = Showed (read_call x n)
reply x (ByteCall (Write n v)) = Written (write_call x n v).outcome

unfoldable pub replies : Module → List Call → List Reply
replies x [] = []
replies x (call ∷ calls) = reply x call ∷ replies (module_after x call) calls

-- the calls of a list that are no byte accesses, and what a module answers to these where it gets them all
abbrev pub is_access : Call → Bool
is_access (Step s) = false
is_access (FileCall kind file) = false
is_access (NudgeCall w) = false
is_access (ByteCall a) = true

unfoldable pub without_accesses : List Call → List Call
without_accesses [] = []
without_accesses (call ∷ calls) = cond (is_access call) (without_accesses calls) (call ∷ without_accesses calls)

unfoldable pub other_replies : Module → List Call → List Reply
other_replies x [] = []
other_replies x (call ∷ calls) = cond (is_access call) (other_replies (module_after x call) calls) (reply x call ∷ other_replies (module_after x call) calls)

-- the bit of an output, counted from 0, in an answer: outputs 0 to 15 in the real word, 16 to 31 in the virtual word
abbrev pub output_bit : Answer → ℕ → Bool
output_bit a n = cond (ltb n 16) (bit a.real n) (bit a.virtuals (n - 16))

-- P of each step of a list of calls in the order of time: of the calls before it, the latest first, of its sample and of what a module, given, answers
abbrev pub EachStep : (List Call → Sample → Answer → Type 0) → List Call → Module → List Call → Type 0
EachStep P past x [] = Unit {0}
EachStep P past x (Step s ∷ calls) = P past s (step_call x s).answer × EachStep P (Step s ∷ past) (module_after x (Step s)) calls
EachStep P past x (FileCall kind file ∷ calls) = EachStep P (FileCall kind file ∷ past) (module_after x (FileCall kind file)) calls
EachStep P past x (NudgeCall w ∷ calls) = EachStep P (NudgeCall w ∷ past) (module_after x (NudgeCall w)) calls
EachStep P past x (ByteCall a ∷ calls) = EachStep P (ByteCall a ∷ past) (module_after x (ByteCall a)) calls
