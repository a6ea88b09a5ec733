-- `limit_block::Block::setpoints` meets its contract: setpoint by setpoint. Assumes nothing.
use Rattle.std.proofs.Common.{ap, arith, rules}
use Rattle.rules.specs.LimitWords.{setpoint_of}
use Rattle.word.proofs.Tables.{from_fn_is}
use Rattle.limit_block.proofs.Block.setpoints.Goals as goal

pub returns : goal.returns
returns c =
    let f = setpoint_of c.args.self.words in
    from_fn_is _ _ c.from_fn.result f 16 (λ k y q b h. search rules) c.from_fn.ensures.items 0 f (λ k. ap f (omega arith))
