-- `Moment::displaced` meets its contract: the spread, within a turn to either side and beyond. Assumes nothing.
use Prim.Native.Nat.{◌+◌, ◌-◌, ◌*◌, min}
use mathlib.Core.Path.{◌≡◌, refl, sym, ap, ap₂, ◌∙◌}
use native.Mathlib.Omega.{arith}
use lib.IntN.{◌-ℤ◌}
use Rattle.switch.specs.Parts.{shift_bias, taken_back, spread_of}
use Rattle.switch.proofs.Advance.{one_bias, spread_within}
use Rattle.switch.proofs.Moment.displaced.Goals as goal
use Rattle.switch.proofs.Moment.displaced.Goals.{then-near-turn, else-near-turn}

pub returns : goal.returns
returns c =
    let on = c.shift-on.result in
    let off = c.shift-off.result in
    let sf = c.args.self.sf.top + 1 in
    let turn = c.whole-turn.ensures in
    let low = c.shift-on.ensures.fits in
    let high = c.shift-off.ensures.fits in
    let small = c.whole-turn.type_inv in
    let spread : c.if-near-turn.spread ≡ min (on + sf - off) (2 * sf) =
    elim c.if-near-turn.branch [
      | then-near-turn w ↦ (let near = w.if-near-turn.true in w.spread-is ∙ omega (arith, near, turn, small, low, high))
      | else-near-turn w ↦ w.spread-is ∙ w.spread_beyond-spread.ensures ∙ rw turn refl
    ]
    in (
      refl,
      c.taken_back.ensures ∙ ap₂ (taken_back sf) c.shift-on.ensures.value c.count_at.ensures,
      spread ∙ spread_within sf on off ∙ ap (spread_of sf) (sym (one_bias on off shift_bias) ∙ ap₂ ◌-ℤ◌ c.shift-on.ensures.value c.shift-off.ensures.value),
    )
