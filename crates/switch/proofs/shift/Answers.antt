-- `switch::shift` meets its contract: s by signs and magnitudes, over or below its bias. Assumes nothing.
use mathlib.Core.Bool.{xor, true, false}
use mathlib.Core.Path.{◌≡◌, sym, ◌∙◌}
use Rattle.switch.specs.Parts.{shift_bias}
use Rattle.switch.proofs.Advance.{back, shift_of, biased_up, biased_down}
use Rattle.switch.proofs.shift.Goals as goal

pub returns-then-a-back-clause-value : goal.returns-then-a-back-clause-value
unfolding xor
returns-then-a-back-clause-value c =
    let x = c.args in
    let e : xor x.a.negative (back x.c) ≡ true = c.if-a-back.true in
    biased_down shift_bias c.shift_counts-s.result c.shift_counts-s.ensures.fits
    ∙ sym (rw (shift_of x.sf.top x.a.negative x.a.tenths x.c, e, ← c.magnitude.ensures, ← c.shift_counts-s.ensures.magnitude))

pub returns-clause-value : goal.returns-clause-value
unfolding xor
returns-clause-value c =
    let x = c.args in
    let e : xor x.a.negative (back x.c) ≡ false = c.if-a-back.false in
    biased_up shift_bias c.shift_counts-s.result
    ∙ sym (rw (shift_of x.sf.top x.a.negative x.a.tenths x.c, e, ← c.magnitude.ensures, ← c.shift_counts-s.ensures.magnitude))
