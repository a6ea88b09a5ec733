-- `limit_block::Block::is_all_zero` meets its contract: word by word. Assumes nothing.
use Rattle.std.proofs.Common.{eqb, ap, ◌∙◌, rules, tests}
use Rattle.std.proofs.lemmas.Iterator.{YieldsList-from_slice}
use Rattle.std.proofs.lemmas.Iterator.Search.{all_from_yields_List}
use Rattle.rules.specs.Words.{word, each_of}
use Rattle.rules.specs.LimitWords.{all_zero}
use Rattle.word.proofs.Tables.{each_list}
use Rattle.limit_block.proofs.Block.is_all_zero.Goals as goal

pub returns : goal.returns
unfolding all_zero
returns c =
    let ws = c.args.self.words in
    all_from_yields_List (λ w. eqb w 0) _ _ _ c.all.ensures.ran (YieldsList-from_slice ws cc) (λ x b q k. search (rules, tests))
    ∙ each_list (λ w. eqb w 0) ws ∙ ap (λ n. each_of n 0 (λ k. eqb (word ws k) 0)) (search rules)
