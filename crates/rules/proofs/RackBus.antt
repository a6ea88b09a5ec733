-- THE RACK BUS: for every model and every list of calls from power-up, the input table, the line and each call's answer are what 02 says of the list; and
-- byte accesses are no event for the other calls. Assumes nothing.
use Prim.Native.Nat.{ℕ, ◌<◌}
use mathlib.Core.Path.{◌≡◌, refl, sym, ap, ◌∙◌}
use mathlib.Core.Logic.{◌↔◌, inl, inr}
use mathlib.Core.Bool.{Bool, true, false, not, ◌&&◌, ◌||◌, true≢false, or_comm, and_comm, or-false}
use mathlib.Core.List.{List, [], ◌∷◌}
use native.Mathlib.Omega.{arith}
use lib.Dec.{ltb, eqb}
use borrow.Author.Tests.{ltb-true, ltb-false, eqb-true, eqb-false, lt-ltb, le-ltb, ne_eqb}
use Rattle.std.proofs.lemmas.Bool.{and_parts, and_from, cases_Bool}
use Rattle.std.specs.Prelude.{Ok}
use Rattle.rules.specs.declared.Model.{Model}
use Rattle.rules.specs.declared.Bus.{Bus}
use Rattle.rules.specs.declared.Module.{Module}
use Rattle.rules.specs.Words.{bit}
use Rattle.rules.specs.Variants.{model_known, model_of}
use Rattle.rules.specs.Motion.{real_inputs}
use Rattle.rules.specs.Cycle.{outcome_of, with_ignored}
use Rattle.rules.specs.Bus.{shown_by, requested, line_of, table_bytes, request_byte, mask_byte, byte_at, byte_read, stored, bus_write, bus_left}
use Rattle.rules.specs.Calls.{Access, Read, Write, Call, Step, FileCall, NudgeCall, ByteCall, Stepped, Showed, Written}
use Rattle.rules.specs.Card.{fresh_module, powered_up, file_call, file_left, nudge_call, step_answer, kept_after, step_state, step_call, with_bus, read_call, write_call, line_level}
use Rattle.rules.specs.Run.{accessed, module_after, run, reply, replies, is_access, without_accesses, other_replies}
use Rattle.rules.specs.Quant.{after_each, no_later}
use Rattle.rules.specs.History.{configuration_of}
use Rattle.rules.specs.BusHistory.{last_shown, shown_configuration, byte_told, counted_at, write_at, writes_at, writes_one_at, request_told, mask_told, line_told, bus_told, kept_told, expected_reply, expected_replies}
use Rattle.rules.proofs.Past.{AfterEach, after_each→, after_each←, after_step, NoLater, no_later→, no_later←, later_step}
use Rattle.rules.proofs.Agreement.{configuration_is}
use Rattle.rules.proofs.Theorem.{history, ignored_is, positions_are, powered_up_lem}

-- ---- What is shown

-- "Words 1 to 5, MD1, MD2 and TachOv are the last step's, inputs after forces, and 0 before the first."
pub shown_is : (model : Model) (l : List Call) → (run model l).state.kept.shown ≡ last_shown model l
unfolding run accessed module_after last_shown fresh_module step_call step_state kept_after file_call nudge_call write_call
shown_is model [] = refl
shown_is model (Step s ∷ l) = λ i. shown_by (history model l s i) (real_inputs (configuration_is model l i) s)
shown_is model (FileCall kind file ∷ l) = shown_is model l
shown_is model (NudgeCall w ∷ l) = shown_is model l
shown_is model (ByteCall (Read n) ∷ l) = shown_is model l
shown_is model (ByteCall (Write n v) ∷ l) = shown_is model l

-- "with acknowledges, error bits and status"; "MsgIgn shows the last acting cycle."
pub configuration_shown : (model : Model) (l : List Call) → (run model l).configuration ≡ shown_configuration model l
unfolding shown_configuration
configuration_shown model l = configuration_is model l ∙ (λ i. with_ignored (configuration_of model l) (ignored_is model l i))

-- ---- The request and its mask

-- a byte write at an offset n: what it does to the request and to the mask
module _ (b : Bus) (n v : ℕ) where
  pub write_request : (bus_left b (bus_write b n v)).request ≡ (not (eqb n request_byte && bit v 0) && b.request)
  unfolding bus_write stored
  write_request =
      elim (cases_Bool (ltb mask_byte n)) [
        | inl q ↦ let h = ltb-true 17 n q in rw (q, ne_eqb n 16 (λ e. omega arith))
        | inr q ↦ elim (cases_Bool (ltb n table_bytes)) [
          | inl r ↦ let h = ltb-true n 16 r in rw (q, r, ne_eqb n 16 (λ e. omega arith))
          | inr r ↦ elim (cases_Bool (eqb n request_byte)) [ inl e ↦ rw (q, r, e) (and_comm b.request (not (bit v 0))) | inr e ↦ rw (q, r, e) ]
        ]
      ]

  pub write_mask : (bus_left b (bus_write b n v)).mask ≡ ((eqb n mask_byte && bit v 0) || (not (eqb n mask_byte) && b.mask))
  unfolding bus_write stored
  write_mask =
      elim (cases_Bool (ltb mask_byte n)) [
        | inl q ↦ let h = ltb-true 17 n q in rw (q, ne_eqb n 17 (λ e. omega arith))
        | inr q ↦ elim (cases_Bool (ltb n table_bytes)) [
          | inl r ↦ let h = ltb-true n 16 r in rw (q, r, ne_eqb n 17 (λ e. omega arith))
          | inr r ↦ elim (cases_Bool (eqb n request_byte)) [
            | inl e ↦ let h = eqb-true n 16 e in rw (q, r, e, ne_eqb n 17 (λ e. omega arith))
            | inr e ↦
                let h = eqb-false n 16 e in let a = ltb-false 17 n q in let c = ltb-false n 16 r in
                let d : n ≡ 17 = omega arith in rw (q, r, e, d) (sym (or-false (bit v 0)))
          ]
        ]
      ]

-- "It is set by a step whose changed-output count isn't 0, and stays until a 1 is written to that bit."
pub request_is : (model : Model) (l : List Call) → (run model l).state.kept.bus.request ≡ request_told model l
unfolding run accessed module_after request_told counted_at write_at fresh_module step_call step_state kept_after requested file_call nudge_call write_call
request_is model [] = unfold after_each in refl
request_is model (Step s ∷ l) =
    (λ i. request_is model l i || not (eqb (history model l s i).changed 0))
    ∙ or_comm (request_told model l) (counted_at model (Step s ∷ l))
    ∙ sym (after_step (counted_at model) (writes_one_at request_byte) (Step s) l)
request_is model (FileCall kind file ∷ l) = request_is model l ∙ sym (after_step (counted_at model) (writes_one_at request_byte) (FileCall kind file) l)
request_is model (NudgeCall w ∷ l) = request_is model l ∙ sym (after_step (counted_at model) (writes_one_at request_byte) (NudgeCall w) l)
request_is model (ByteCall (Read n) ∷ l) = request_is model l ∙ sym (after_step (counted_at model) (writes_one_at request_byte) (ByteCall (Read n)) l)
request_is model (ByteCall (Write n v) ∷ l) =
    write_request (run model l).state.kept.bus n v
    ∙ ap (λ (q : Bool). not (eqb n request_byte && bit v 0) && q) (request_is model l)
    ∙ sym (after_step (counted_at model) (writes_one_at request_byte) (ByteCall (Write n v)) l)

-- "Byte 17 bit 0 is its mask, 0 after power-up.": the bit of the last write
pub mask_is : (model : Model) (l : List Call) → (run model l).state.kept.bus.mask ≡ mask_told l
unfolding run accessed module_after mask_told write_at fresh_module step_call step_state kept_after requested file_call nudge_call write_call
mask_is model [] = unfold no_later in refl
mask_is model (Step s ∷ l) = mask_is model l ∙ sym (later_step (writes_one_at mask_byte) (writes_at mask_byte) (Step s) l)
mask_is model (FileCall kind file ∷ l) = mask_is model l ∙ sym (later_step (writes_one_at mask_byte) (writes_at mask_byte) (FileCall kind file) l)
mask_is model (NudgeCall w ∷ l) = mask_is model l ∙ sym (later_step (writes_one_at mask_byte) (writes_at mask_byte) (NudgeCall w) l)
mask_is model (ByteCall (Read n) ∷ l) = mask_is model l ∙ sym (later_step (writes_one_at mask_byte) (writes_at mask_byte) (ByteCall (Read n)) l)
mask_is model (ByteCall (Write n v) ∷ l) =
    write_mask (run model l).state.kept.bus n v
    ∙ ap (λ (q : Bool). (eqb n mask_byte && bit v 0) || (not (eqb n mask_byte) && q)) (mask_is model l)
    ∙ sym (later_step (writes_one_at mask_byte) (writes_at mask_byte) (ByteCall (Write n v)) l)

pub kept_is : (model : Model) (l : List Call) → (run model l).state.kept ≡ kept_told model l
unfolding kept_told bus_told
kept_is model l = λ i. record { shown = shown_is model l i; bus = record { request = request_is model l i; mask = mask_is model l i } }

-- ---- The line

-- THE LINE, over every list of steps, cycles and byte accesses from power-up
pub line_is : (model : Model) (l : List Call) → line_level (run model l) ≡ line_told model l
unfolding line_level line_of line_told
line_is model l = (λ i. request_is model l i && mask_is model l i) ∙ and_comm (request_told model l) (mask_told l)

-- As a proposition: a write to byte 17 had bit 0 set and no write to it came later; and there is a step with a count that isn't 0 which came after each
-- 1 written to bit 0 of byte 16, so after the last, or ever where none was written.
pub line_reads : (model : Model) (l : List Call)
    → (line_level (run model l) ≡ true) ↔ (NoLater (writes_one_at mask_byte) (writes_at mask_byte) l × AfterEach (counted_at model) (writes_one_at request_byte) l)
unfolding line_told mask_told request_told
line_reads model l = rw (line_is model l) (
  λ t. let b = and_parts _ _ t in (no_later→ (writes_one_at mask_byte) (writes_at mask_byte) l b.0, after_each→ (counted_at model) (writes_one_at request_byte) l b.1),
  λ e. and_from _ _ (no_later← (writes_one_at mask_byte) (writes_at mask_byte) l e.0) (after_each← (counted_at model) (writes_one_at request_byte) l e.1),
)

-- ---- The bytes

pub read_is : (model : Model) (l : List Call) (n : ℕ) → read_call (run model l) n ≡ byte_read (shown_configuration model l) (kept_told model l) n
unfolding read_call
read_is model l n = λ i. byte_read (configuration_shown model l i) (kept_is model l i) n

-- EVERY BYTE 0 TO 15, over every list: words 0 to 7 as the list tells them
pub table_is : (model : Model) (l : List Call) (n : ℕ) → n < 16 → read_call (run model l) n ≡ Ok (byte_told model l n)
unfolding byte_read byte_at byte_told kept_told
table_is model l n b = read_is model l n ∙ rw (le-ltb 17 n (omega arith), lt-ltb n 16 b)

-- ---- Each call's answer

pub reply_is : (model : Model) (l : List Call) (call : Call) → reply (run model l) call ≡ expected_reply model l call
unfolding reply expected_reply file_call file_left nudge_call write_call bus_told
reply_is model l (Step s) = ap Stepped (history model l s)
reply_is model l (FileCall kind file) = rw (configuration_is model l, positions_are model l)
reply_is model l (NudgeCall w) = rw (configuration_is model l)
reply_is model l (ByteCall (Read n)) = ap Showed (read_is model l n)
reply_is model l (ByteCall (Write n v)) = λ i. Written (outcome_of (bus_write (record { request = request_is model l i; mask = mask_is model l i }) n v))

replies_from : (model : Model) (past calls : List Call) → replies (run model past) calls ≡ expected_replies model past calls
unfolding replies expected_replies run
replies_from model past [] = refl
replies_from model past (call ∷ calls) = rw (reply_is model past call, replies_from model (call ∷ past) calls)

-- in the order of time: for every number that power-up takes, whatever the place held, and every list of calls, each call's answer is what the list says
pub every_reply : (x : Module) (n : ℕ) → model_known n ≡ true → (calls : List Call) → replies (powered_up x n).card calls ≡ expected_replies (model_of n) [] calls
unfolding run
every_reply x n k calls = rw (powered_up_lem x n k) (replies_from (model_of n) [] calls)

-- ---- "byte accesses count as no event for the outputs"

-- a call other than a byte access answers the same whatever the request and the mask are, and leaves the same but for them
same_reply : (x : Module) (b : Bus) (call : Call) → is_access call ≡ false → reply (with_bus x b) call ≡ reply x call
unfolding reply step_call step_answer file_call file_left nudge_call
same_reply x b (Step s) e = refl
same_reply x b (FileCall kind file) e = refl
same_reply x b (NudgeCall w) e = refl
same_reply x b (ByteCall a) e = absurd (true≢false e)

same_but : (x : Module) (b : Bus) (call : Call) → is_access call ≡ false → (after : Bus) × (module_after (with_bus x b) call ≡ with_bus (module_after x call) after)
unfolding module_after step_call step_state step_answer kept_after file_call nudge_call
same_but x b (Step s) e = (requested b (step_call x s).answer.changed, refl)
same_but x b (FileCall kind file) e = (b, refl)
same_but x b (NudgeCall w) e = (b, refl)
same_but x b (ByteCall a) e = absurd (true≢false e)

-- a byte access leaves all but the request and the mask
access_leaves : (x : Module) (a : Access) → (after : Bus) × (module_after x (ByteCall a) ≡ with_bus x after)
unfolding module_after accessed write_call
access_leaves x (Read n) = (x.state.kept.bus, refl)
access_leaves x (Write n v) = (bus_left x.state.kept.bus (bus_write x.state.kept.bus n v), refl)

-- what is said of the calls that come later, with this one before them
with_call : (x : Module) (b : Bus) (call : Call) (calls : List Call) → is_access call ≡ false
    → ((y : Module) (c : Bus) → other_replies (with_bus y c) calls ≡ replies y (without_accesses calls))
    → (reply (with_bus x b) call ∷ other_replies (module_after (with_bus x b) call) calls) ≡ (reply x call ∷ replies (module_after x call) (without_accesses calls))
with_call x b call calls e k = let r = same_but x b call e in rw (same_reply x b call e, r.1, k (module_after x call) r.0)

no_event_from : (x : Module) (b : Bus) (calls : List Call) → other_replies (with_bus x b) calls ≡ replies x (without_accesses calls)
unfolding other_replies replies without_accesses
no_event_from x b [] = refl
no_event_from x b (Step s ∷ calls) = with_call x b (Step s) calls refl (λ y c. no_event_from y c calls)
no_event_from x b (FileCall kind file ∷ calls) = with_call x b (FileCall kind file) calls refl (λ y c. no_event_from y c calls)
no_event_from x b (NudgeCall w ∷ calls) = with_call x b (NudgeCall w) calls refl (λ y c. no_event_from y c calls)
no_event_from x b (ByteCall a ∷ calls) = let r = access_leaves (with_bus x b) a in rw r.1 (no_event_from x r.0 calls)

-- for every module and every list: without its byte accesses all other calls answer the same and leave the same files
pub no_event : (x : Module) (calls : List Call) → other_replies x calls ≡ replies x (without_accesses calls)
no_event x calls = no_event_from x x.state.kept.bus calls

after_call : (model : Model) (l : List Call) (call : Call) → is_access call ≡ false → ((b : Bus) × (run model l ≡ with_bus (run model (without_accesses l)) b))
    → (b : Bus) × (module_after (run model l) call ≡ with_bus (module_after (run model (without_accesses l)) call) b)
after_call model l call e k =
    let r = same_but (run model (without_accesses l)) k.0 call e in
    (r.0, ap (λ (x : Module). module_after x call) k.1 ∙ r.1)

-- and the module is the same but for the request and the mask, for every list from power-up, the latest call first
pub same_module : (model : Model) (l : List Call) → (b : Bus) × (run model l ≡ with_bus (run model (without_accesses l)) b)
unfolding run without_accesses
same_module model [] = ((fresh_module model).state.kept.bus, refl)
same_module model (Step s ∷ l) = after_call model l (Step s) refl (same_module model l)
same_module model (FileCall kind file ∷ l) = after_call model l (FileCall kind file) refl (same_module model l)
same_module model (NudgeCall w ∷ l) = after_call model l (NudgeCall w) refl (same_module model l)
same_module model (ByteCall a ∷ l) =
    let k = same_module model l in
    let r = access_leaves (run model l) a in
    (r.0, r.1 ∙ ap (λ (x : Module). with_bus x r.0) k.1)
