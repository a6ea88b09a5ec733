-- `bus::status_bits` meets its contract: a word is its six lowest bits and 64 times the others. Assumes nothing.
use Rattle.std.proofs.Common.{◌≡◌, ℕ, ◌<◌, Bool, false, [], ◌∷◌, arith}
use Rattle.rules.specs.Words.{bits}
use Rattle.bus.proofs.Laws.{four_bits}
use Rattle.bus.proofs.status_bits.Goals as goal

-- four bits are a number below 16
small : {n : ℕ} (a b c d : Bool) → n ≡ bits (a ∷ b ∷ c ∷ d ∷ false ∷ false ∷ []) → n < 16
small a b c d e = rw e (four_bits a b c d)

pub overflow_mul-result-2 : goal.overflow_mul-result-2
overflow_mul-result-2 c = let a = c.args.g.acknowledges in omega (arith, small a.nudge a.setup a.group a.limit c.bits-high.ensures.0)

pub overflow_add-result-2 : goal.overflow_add-result-2
overflow_add-result-2 c = let a = c.args.g.acknowledges in omega (arith, small a.nudge a.setup a.group a.limit c.bits-high.ensures.0)
