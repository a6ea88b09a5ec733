-- `Displaced::pairs_tested` meets its contract where the pairs are tested side by side. Assumes nothing.
use Prim.Native.Nat.{ℕ, ◌+◌, ◌*◌, min}
use mathlib.Core.Bool.{true, not, ◌&&◌}
use mathlib.Core.Path.{◌≡◌, sym, ap, ◌∙◌}
use lib.Bits.{bit_and}
use lib.Dec.{eqb, leb}
use lib.ListN.{get_or}
use Rattle.rules.specs.Words.{table, packed, each_of}
use Rattle.word.proofs.Laws.{some_packed}
use Rattle.switch.specs.Parts.{pair_of, some_pair, used_of, pairs_tested, lane_holds}
use Rattle.switch.proofs.SideBySide.{both_marked}
use Rattle.switch.proofs.Displaced.pairs_tested.Goals as goal

pub returns-then-in_range : goal.returns-then-in_range
unfolding table packed each_of some_pair pairs_tested
returns-then-in_range c =
    let x = c.args.self in
    let top = x.sf.top in
    let s = c.args.setpoints.now in
    let sides = c.sides_of.ensures in
    let holds = pair_of (top + 1) x.from x.spread s in
    let used : c.used-used.result ≡ packed 8 0 (used_of s) = rw (sides.0, sides.1) at c.used-used.ensures in
    let lanes : c.holding.result ≡ packed 8 0 (λ k. lane_holds top x.from (min x.spread 65535) (get_or s (2 * k) 0) (get_or s (2 * k + 1) 0)) =
    rw (sides.0, sides.1, c.min.ensures) at c.holding.ensures in
    let range : each_of 8 0 (λ k. leb (get_or s (2 * k) 0) top && leb (get_or s (2 * k + 1) 0) top && leb x.from top) ≡ true =
    rw (sides.0, sides.1) at (sym c.in_range.ensures ∙ c.if-in_range.true) in
    let held : bit_and c.used-used.result c.holding.result ≡ packed 8 0 holds =
    rw (used, lanes) (both_marked top x.from x.spread s c.if-top-lt-LANE_TOP.true range) in
    (ap (λ (z : ℕ). not (eqb z 0)) held ∙ sym (some_packed 8 0 holds), c.up_to_lowest.ensures (used_of s) holds used held)
