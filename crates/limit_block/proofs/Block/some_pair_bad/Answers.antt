-- `limit_block::Block::some_pair_bad` meets its contract: pair by pair. Assumes nothing.
use Rattle.std.proofs.Common.{◌+◌, refl, ◌∙◌, rules, tests}
use Rattle.std.proofs.lemmas.Iterator.{YieldsList-from_range}
use Rattle.std.proofs.lemmas.Iterator.Search.{any_from_yields_List}
use Rattle.rules.specs.LimitWords.{block_pair_bad}
use Rattle.word.proofs.Tables.{some_any}
use Rattle.limit_block.proofs.Block.some_pair_bad.Goals as goal

pub returns : goal.returns
returns c =
    let f = block_pair_bad (c.args.sf.top + 1) c.args.self.words in
    any_from_yields_List f _ _ _ c.any.ensures.ran (YieldsList-from_range 0 8 8 refl refl) (λ x b q k. search (rules, tests))
    ∙ some_any 8 0 f
