-- `limit_block::fifth_timed` meets its contract: the timed blocks before it. Assumes nothing.
use Rattle.std.proofs.Common.{ℕ, ◌-◌, ◌%◌, Bool, ◌≡◌, ap, ◌∙◌, arith, rules, tests}
use Rattle.std.proofs.lemmas.Iterator.{YieldsList-from_range}
use Rattle.std.proofs.lemmas.Iterator.Consumers.{YieldsList-from_filter, count_from_yields_List}
use lib.Dec.{leb, eqb}
use Rattle.rules.specs.Words.{word}
use Rattle.rules.specs.LimitWords.{block_at, control_type, fifth_timed}
use Rattle.word.proofs.Tables.{count_filter}
use Rattle.limit_block.proofs.fifth_timed.Goals as goal

pub returns : goal.returns
unfolding fifth_timed
returns c =
    let a = c.args in
    let lower = (a.n - 1) % 16 in
    let timed : ℕ → Bool = λ k. eqb (control_type (word a.file.now (block_at k))) 2 in
    let low : c.saturating_sub-lower.result % 16 ≡ lower = ap (λ n. n % 16) c.saturating_sub-lower.ensures in
    ap (λ n. leb 4 n)
    (count_from_yields_List c.filter.result _ c.count.ensures.ran
    (YieldsList-from_filter _ timed (YieldsList-from_range (a.n - lower) a.n lower (cc low) (omega arith)) c.filter.ensures.closure (λ x b q k. search (rules, tests)))
    ∙ count_filter lower (a.n - lower) timed)
