-- 17, then 16, then the data. Assumes nothing.
use Rattle.std.proofs.Common.{length, List, ℕ, ap, ◌∙◌, arith}
use Rattle.std.proofs.lemmas.Result.{err_from_is_err_and}
use lib.Seq.{sets}
use Rattle.df1.specs.Frame.{data_of, undoubled, read_buffer}
use Rattle.df1.proofs.Laws.{sets_start}
use Rattle.df1.proofs.Answers.{read_no_frame, read_fit, refused_leaves, accepted_puts}
use Rattle.df1.proofs.reading.read_frame.Goals as goal

pub returns-in_default-clause-outcome : goal.returns-in_default-clause-outcome
returns-in_default-clause-outcome c = read_no_frame c.args.input.now (length c.args.out.now) c.in_default.ensures

pub returns-in_default-clause-buffer : goal.returns-in_default-clause-buffer
unfolding read_buffer
returns-in_default-clause-buffer c =
    let input = c.args.input.now in
    refused_leaves _ _ (data_of input) c.args.out.now (read_no_frame input (length c.args.out.now) c.in_default.ensures)

-- what the test of the room answers is the call's outcome
pub returns-in_err-n-clause-outcome : goal.returns-in_err-n-clause-outcome
returns-in_err-n-clause-outcome c =
    let p = err_from_is_err_and c.from_residual.result c.from_residual.ensures.1 in
    cc (p.1, p.2, read_fit (length c.args.out.now) c.in-Some.ensures, c.in_err-n.ensures.outcome)

pub returns-in_err-n-clause-buffer : goal.returns-in_err-n-clause-buffer
unfolding read_buffer
returns-in_err-n-clause-buffer c =
    refused_leaves _ _ (data_of c.args.input.now) c.args.out.now (c.in_err-n.ensures.outcome ∙ read_fit (length c.args.out.now) c.in-Some.ensures)

pub returns-clause-outcome : goal.returns-clause-outcome
returns-clause-outcome c = c.in_ok-n.ensures.outcome ∙ read_fit (length c.args.out.now) c.in-Some.ensures

pub returns-clause-buffer : goal.returns-clause-buffer
unfolding read_buffer data_of
returns-clause-buffer c =
    let input = c.args.input.now in
    let out = c.args.out.now in
    let is = c.in-Some.ensures in
    c.put_data.ensures ∙ ap (λ (body : List ℕ). sets out 0 (undoubled body)) is.part
    ∙ sets_start out (data_of input) (omega (arith, is.number, c.in_ok-n.ensures.within))
    ∙ accepted_puts _ _ (data_of input) out (c.in_ok-n.ensures.outcome ∙ read_fit (length out) is)
