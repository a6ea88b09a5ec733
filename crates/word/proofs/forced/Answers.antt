-- `word::forced` meets its contract: the forces of whole words are those of each bit. Assumes nothing.
use Prim.Native.Nat.{ℕ}
use mathlib.Core.Path.{◌≡◌, refl, ap, ◌∙◌}
use lib.Bits.{bit_and, bit_or, bit_xor}
use Rattle.rules.specs.Words.{bit, packed}
use Rattle.word.proofs.Laws.{word_is, forces_packed}
use borrow.Author.Rules.{rules}
use Rattle.word.proofs.forced.Goals as goal

pub returns : goal.returns
returns c = let a = c.args in
    let e : a.present ≡ packed 16 0 (bit a.present) = word_is 16 a.present (bit a.present) (search rules) (λ k h. refl) in
    ap (λ (p : ℕ). bit_and p (bit_and (bit_xor a.off 65535) (bit_or a.on a.before))) e ∙ forces_packed a.off a.on a.before (bit a.present)
