-- `engine::answer::output_words` meets its contract: the lower half of the rule is the real outputs, the upper half the virtual ones. Assumes nothing.
use Rattle.std.proofs.Common.{◌≡◌, ap₂, ◌∙◌}
use Rattle.rules.specs.Words.{bit, word_of}
use Rattle.rules.specs.Variants.{io_count}
use Rattle.rules.specs.Switches.{output_on, output_words}
use Rattle.engine.proofs.Words.{real_word, virtual_word}
use Rattle.engine.proofs.answer.output_words.Goals as goal

pub returns : goal.returns
unfolding output_words io_count
returns c =
    let a = c.args in
    let real : c.forced.result ≡ word_of 0 (output_on a.m a.s (bit a.rule)) = (rw c.present.ensures at c.forced.ensures) ∙ real_word a.m a.s a.rule in
    let virtuals : c.forced-2.result ≡ word_of 16 (output_on a.m a.s (bit a.rule)) = (rw c.present-2.ensures at c.forced-2.ensures) ∙ virtual_word a.m a.s a.rule in
    ap₂ (λ x y. record { real = x; virtuals = y }) real virtuals
