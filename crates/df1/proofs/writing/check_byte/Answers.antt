-- The sum is a fold over the bytes. Assumes nothing.
use Rattle.std.proofs.Common.{◌≡◌, ◌+◌, ◌%◌, ◌∙◌, ap, rules}
use Rattle.std.specs.List.{fold}
use Rattle.df1.specs.Frame.{complement, check_byte}
use Rattle.df1.proofs.Laws.{sum_fold}
use Rattle.df1.proofs.writing.check_byte.Goals as goal

pub returns : goal.returns
unfolding check_byte
returns c =
    let e : c.fold.result ≡ fold (λ s b. (s + b) % 256) 0 c.args.bytes.now = search rules in
    c.complement.ensures ∙ ap complement (e ∙ sum_fold c.args.bytes.now)
