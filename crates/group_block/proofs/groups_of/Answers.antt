-- `group_block::groups_of` meets its contract: block by block. Assumes nothing.
use Rattle.std.proofs.Common.{◌+◌, ap, arith, rules}
use Rattle.rules.specs.GroupWords.{group_of}
use Rattle.word.proofs.Tables.{from_fn_is}
use Rattle.group_block.proofs.groups_of.Goals as goal

pub returns : goal.returns
returns c =
    let f = group_of c.args.file.now in
    from_fn_is _ _ c.from_fn.result (λ k. f (k + 1)) 6 (λ k y q b h. search rules) c.from_fn.ensures.items 1 f (λ k. ap f (omega arith))
