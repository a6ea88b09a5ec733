-- `limits::limits_from` meets its contract: block by block. Assumes nothing.
use Rattle.std.proofs.Common.{◌+◌, ap, arith, rules}
use Rattle.rules.specs.LimitWords.{limit_from}
use Rattle.word.proofs.Tables.{from_fn_is}
use Rattle.limits.proofs.limits_from.Goals as goal

pub returns : goal.returns
returns c =
    let a = c.args in
    from_fn_is _ _ c.from_fn.result (λ k. limit_from a.m a.file.now (k + 1)) 32 (λ k y q b h. search rules) c.from_fn.ensures.items
    1 (limit_from a.m a.file.now) (λ k. ap (limit_from a.m a.file.now) (omega arith))
