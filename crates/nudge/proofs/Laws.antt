-- Laws of the nudge: refusal 10 by its four tests. Assumes nothing.
use Rattle.std.proofs.Common.{ℕ, ◌≡◌, Bool, true, false, not, ◌&&◌, ◌||◌}
use Rattle.std.proofs.lemmas.Bool.{or_left, or_right}
use Rattle.rules.specs.Words.{bit}
use Rattle.rules.specs.Nudge.{on_bit, off_bit, down_bit, leaves_range, nudged_if, result_bad, nudge_setpoint_bad}
use Rattle.rules.specs.declared.Limit.{Limit}
use Rattle.rules.specs.Variants.{limit_switch}
use Rattle.rules.specs.Counts.{used_pair}
use Rattle.rules.specs.Switches.{on_setpoint, off_setpoint}

module _ (sf : ℕ) (l : Limit) (k w : ℕ) where
  abbrev unused : Bool
  unused = not (used_pair (on_setpoint l k) (off_setpoint l k))

  abbrev on_leaves : Bool
  on_leaves = bit w on_bit && leaves_range sf (bit w down_bit) (on_setpoint l k)

  abbrev off_leaves : Bool
  off_leaves = bit w off_bit && leaves_range sf (bit w down_bit) (off_setpoint l k)

  abbrev nudged_bad : Bool
  nudged_bad = result_bad sf (limit_switch l) (nudged_if (bit w on_bit) (bit w down_bit) (on_setpoint l k)) (nudged_if (bit w off_bit) (bit w down_bit) (off_setpoint l k))

  pub unused_bad : used_pair (on_setpoint l k) (off_setpoint l k) ≡ false → nudge_setpoint_bad sf l k w ≡ true
  unfolding nudge_setpoint_bad
  unused_bad h = rw h

  pub on_bad : on_leaves ≡ true → nudge_setpoint_bad sf l k w ≡ true
  unfolding nudge_setpoint_bad
  on_bad h = or_left _ nudged_bad (or_left _ off_leaves (or_right unused on_leaves h))

  pub off_bad : off_leaves ≡ true → nudge_setpoint_bad sf l k w ≡ true
  unfolding nudge_setpoint_bad
  off_bad h = or_left _ nudged_bad (or_right (unused || on_leaves) off_leaves h)

  pub pair_bad : nudged_bad ≡ true → nudge_setpoint_bad sf l k w ≡ true
  unfolding nudge_setpoint_bad
  pair_bad h = or_right (unused || on_leaves || off_leaves) nudged_bad h

  pub good : used_pair (on_setpoint l k) (off_setpoint l k) ≡ true → on_leaves ≡ false → off_leaves ≡ false → nudged_bad ≡ false → nudge_setpoint_bad sf l k w ≡ false
  unfolding nudge_setpoint_bad
  good u a b r = rw (u, a, b) r
