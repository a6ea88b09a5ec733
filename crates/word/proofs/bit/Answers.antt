-- `word::bit` meets its contract: past bit 15 a word has none set. Assumes nothing.
use mathlib.Core.Path.{sym, ◌∙◌}
use borrow.Author.Rules.{rules}
use borrow.Author.Tests.{le-ltb}
use Rattle.word.proofs.Laws.{bit_past}
use Rattle.word.proofs.bit.Goals as goal

pub returns-else-n-lt16 : goal.returns-else-n-lt16
returns-else-n-lt16 c = le-ltb c.args.n 16 c.if-n-lt16.false ∙ sym (bit_past c.args.w c.args.n 16 (search rules) c.if-n-lt16.false)
