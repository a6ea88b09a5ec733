-- `taken_back` meets its contract where nothing is reduced. Assumes nothing.
use Prim.Native.Nat.{◌+◌, ◌-◌, ◌%◌}
use native.Mathlib.Omega.{arith}
use Rattle.switch.specs.Parts.{shift_bias}
use Rattle.switch.proofs.Advance.{back_within}
use Rattle.switch.proofs.taken_back.Goals as goal

pub returns-then-at-whole : goal.returns-then-at-whole
returns-then-at-whole c =
    let x = c.args in
    let s = c.ranges.s.fits in
    let p = c.ranges.p.fits in
    let high = c.if-at-whole.true in
    let at = ((x.s + x.p) % 18446744073709551616 + (18446744073709551616 - shift_bias)) % 18446744073709551616 in
    back_within x.sf.top x.s shift_bias x.p at (omega (arith, s, p, high, c.whole.ensures)) (omega (arith, high, c.whole.ensures))
