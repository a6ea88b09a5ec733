-- 15, then 16, then the frame. Assumes nothing.
use Rattle.std.proofs.Common.{◌≡◌, ◌+◌, length, ℕ, Ok, ap, ◌∙◌, arith, ◌++◌, drop}
use Rattle.std.proofs.lemmas.Result.{err_from_is_err_and}
use Rattle.df1.specs.Frame.{frame_of, doubled, check_byte, write_buffer}
use Rattle.df1.proofs.Laws.{doubled_length}
use Rattle.df1.proofs.Parts.{frame_stored, frame_length}
use Rattle.df1.proofs.Answers.{write_not_allowed, write_fit, refused_leaves, accepted_puts}
use Rattle.df1.proofs.writing.write_frame.Goals as goal

pub returns-then-not-is_allowed-clause-outcome : goal.returns-then-not-is_allowed-clause-outcome
returns-then-not-is_allowed-clause-outcome c = write_not_allowed c.args.bytes.now (length c.args.out.now) c.if-not-is_allowed.ensures

pub returns-then-not-is_allowed-clause-buffer : goal.returns-then-not-is_allowed-clause-buffer
unfolding write_buffer
returns-then-not-is_allowed-clause-buffer c = refused_leaves _ _ (frame_of c.args.bytes.now) c.args.out.now (write_not_allowed c.args.bytes.now (length c.args.out.now) c.if-not-is_allowed.ensures)

-- what the test of the room answers is the call's outcome
pub returns-in_err-n-clause-outcome : goal.returns-in_err-n-clause-outcome
returns-in_err-n-clause-outcome c =
    let p = err_from_is_err_and c.from_residual.result c.from_residual.ensures.1 in
    cc (p.1, p.2, write_fit c.args.bytes.now (length c.args.out.now) c.if-not-is_allowed.ensures c.dle_count.ensures, c.in_err-n.ensures.outcome)

pub returns-in_err-n-clause-buffer : goal.returns-in_err-n-clause-buffer
unfolding write_buffer
returns-in_err-n-clause-buffer c =
    refused_leaves _ _ (frame_of c.args.bytes.now) c.args.out.now (c.in_err-n.ensures.outcome ∙ write_fit c.args.bytes.now (length c.args.out.now) c.if-not-is_allowed.ensures c.dle_count.ensures)

pub returns-clause-outcome : goal.returns-clause-outcome
returns-clause-outcome c = ap (λ (n : ℕ). Ok n) (omega (arith, c.in_ok-n.ensures.within)) ∙ c.in_ok-n.ensures.outcome ∙ write_fit c.args.bytes.now (length c.args.out.now) c.if-not-is_allowed.ensures c.dle_count.ensures

pub returns-clause-buffer : goal.returns-clause-buffer
unfolding write_buffer frame_of
returns-clause-buffer c =
    let bytes = c.args.bytes.now in
    let out = c.args.out.now in
    let n = c.in_ok-n.n in
    let is : n ≡ length (doubled bytes) + 5 = omega (arith, doubled_length bytes, c.dle_count.ensures, c.in_ok-n.ensures.within) in
    let e : n ≡ length (frame_of bytes) = omega (arith, is, frame_length bytes) in
    rw (c.put_doubled.ensures, c.check_byte.ensures) (frame_stored out (doubled bytes) (check_byte bytes) n is (omega (arith, c.in_ok-n.ensures.within)))
    ∙ ap (λ (k : ℕ). frame_of bytes ++ drop k out) e
    ∙ accepted_puts _ _ (frame_of bytes) out (c.in_ok-n.ensures.outcome ∙ write_fit bytes (length out) c.if-not-is_allowed.ensures c.dle_count.ensures)
