-- `group_block::owners_of` meets its contract: output by output. Assumes nothing.
use Rattle.std.proofs.Common.{◌∙◌, ap, arith, rules}
use Rattle.word.proofs.Tables.{from_fn_is}
use Rattle.group_block.specs.Blocks.{owner_in}
use Rattle.group_block.proofs.Laws.{owners_table}
use Rattle.group_block.proofs.owners_of.Goals as goal

pub returns : goal.returns
returns c =
    let f = owner_in c.args.groups in
    from_fn_is _ _ c.from_fn.result f 32 (λ k y q b h. search rules) c.from_fn.ensures.items 0 f (λ k. ap f (omega arith)) ∙ owners_table c.args.groups
