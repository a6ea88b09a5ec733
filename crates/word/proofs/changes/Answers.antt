-- `word::changes` meets its contract: the exclusive or is the word of the bits that differ, and its ones are their number. Assumes nothing.
use mathlib.Core.Bool.{xor}
use mathlib.Core.Path.{ap, ◌∙◌}
use lib.Bits.{bit_xor, xor_lt}
use lib.Count.{ones}
use Rattle.rules.specs.Words.{bit, differing}
use Rattle.word.proofs.Laws.{word_is, xor_bit, ones_packed}
use borrow.Author.Rules.{rules}
use Rattle.word.proofs.changes.Goals as goal

pub returns : goal.returns
unfolding differing
returns c =
    let a = c.args in
    ap ones (word_is 16 (bit_xor a.old a.new) (λ n. xor (bit a.old n) (bit a.new n)) (xor_lt 16 a.old a.new (search rules) (search rules)) (λ k h. xor_bit a.old a.new k))
    ∙ ones_packed 16 0 (λ n. xor (bit a.old n) (bit a.new n))
