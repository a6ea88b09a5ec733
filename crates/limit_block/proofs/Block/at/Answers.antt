-- `limit_block::Block::at` meets its contract: word by word. Assumes nothing.
use Rattle.std.proofs.Common.{ℕ, ◌+◌, ap, arith, rules}
use Rattle.rules.specs.Words.{word}
use Rattle.rules.specs.LimitWords.{block_at, limit_block}
use Rattle.word.proofs.Tables.{from_fn_is}
use Rattle.limit_block.proofs.Block.at.Goals as goal

pub returns : goal.returns
unfolding limit_block
returns c =
    let a = c.args in
    let f : ℕ → ℕ = λ k. word a.file.now (block_at a.n + k) in
    from_fn_is _ _ c.from_fn.result f 19 (λ k y q b h. search rules) c.from_fn.ensures.items 0 f (λ k. ap f (omega arith))
