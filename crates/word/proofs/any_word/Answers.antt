-- `word::any_word` meets its contract: the invariant is that the words before `at` are 0. Assumes nothing.
use Prim.Native.Nat.{◌-◌}
use mathlib.Core.Path.{sym}
use mathlib.Core.Logic.{⊎_elim}
use native.Mathlib.Nat.{eq-zero-or-pos}
use native.Mathlib.Omega.{arith}
use lib.ListN.{get_or-eq_default}
use Rattle.word.proofs.Laws.{any_none, any_one}
use Rattle.word.proofs.any_word.Goals as goal

pub returns-then-file-at-ne0 : goal.returns-then-file-at-ne0
returns-then-file-at-ne0 c =
    let a = c.args in
    sym (any_one a.from a.to c.loop-at.at a.file.now (omega arith) (omega arith) c.if-file-at-ne0.true)

pub returns : goal.returns
returns c =
    let a = c.args in
    let l = c.loop-at in
    sym
    (any_none a.from a.to a.file.now
    (λ k f t. ⊎_elim (λ z. get_or-eq_default a.file.now 0 (omega arith)) (λ p. l.invariant k (omega arith) f) (eq-zero-or-pos (l.at - k))))
