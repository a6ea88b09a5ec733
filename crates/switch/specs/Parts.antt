-- The parts in which the code reckons what 01 says of a limit switch; proofs/ shows each to be the rule.
-- Assumes nothing.
use Rattle.std.specs.Prelude.{ℕ, suc, ◌+◌, ◌-◌, ◌*◌, ◌/◌, min, Bool, ◌%◌, cond, ◌&&◌, List, get_or, ltb, leb, ℤ, pos, negsuc, ◌+ℤ◌}
use Rattle.rules.specs.Words.{modulo, some_of, count_up_to}
use Rattle.rules.specs.Counts.{ahead, used_pair}
use Rattle.rules.specs.Switches.{timed_steps}

-- |s| of an advance of `tenths` at `counts` in 120 steps
unfoldable pub shift_counts : ℕ → ℕ → ℕ → ℕ
shift_counts sf tenths counts = tenths * (counts * sf) / 245760

-- what is added to s where one number stands for either sign
abbrev pub shift_bias : ℕ
shift_bias = 140737488355328

-- a count taken back by a displacement of −s
unfoldable pub taken_back : ℕ → ℤ → ℕ → ℕ
taken_back sf s p = modulo (pos p +ℤ s) sf

-- ON shift less OFF shift, which a pair is lengthened by, and SF more: from 0 to 2 × SF
unfoldable pub spread_of : ℕ → ℤ → ℕ
spread_of sf (pos n) = cond (ltb sf n) (sf + sf) (sf + n)
spread_of sf (negsuc n) = sf - suc n

-- a used pair holds where the position taken back is `from`
unfoldable pub pair_at : ℕ → ℕ → ℕ → ℕ → ℕ → Bool
pair_at sf from spread on off = used_pair on off && ltb (ahead sf on from + (sf - ahead sf on off)) spread

-- pair k of a switch's setpoints; some of the eight
unfoldable pub pair_of : ℕ → ℕ → ℕ → List ℕ → ℕ → Bool
pair_of sf from spread setpoints k = pair_at sf from spread (get_or setpoints (2 * k) 0) (get_or setpoints (2 * k + 1) 0)

unfoldable pub some_pair : ℕ → ℕ → ℕ → List ℕ → Bool
some_pair sf from spread setpoints = some_of 8 0 (pair_of sf from spread setpoints)

-- how many of the eight are tested: the used ones up to and including the first that holds
abbrev pub used_of : List ℕ → ℕ → Bool
used_of setpoints k = used_pair (get_or setpoints (2 * k) 0) (get_or setpoints (2 * k + 1) 0)

unfoldable pub pairs_tested : ℕ → ℕ → ℕ → List ℕ → ℕ
pairs_tested sf from spread setpoints = count_up_to 8 0 (used_of setpoints) (pair_of sf from spread setpoints)

-- the last of Q pulses that has started `at` counts from the train's start, or one that starts with it
unfoldable pub last_pulse : ℕ → ℕ → ℕ → ℕ → ℕ
last_pulse r q k at = min (q - 1) (((at + 1) * (q - 1) - 1) / (r - k))

-- for how many steps a timed switch is on, this one included: T ms from where its pair began to hold
unfoldable pub timed_left : ℕ → Bool → Bool → ℕ → ℕ
timed_left t held before left = cond held (cond before (left - 1) (timed_steps t)) 0

-- the same in sixteen bits, of a pair that is used: sums and differences mod 2^16
abbrev pub less : ℕ → ℕ → ℕ
less a b = (a + (65536 - b)) % 65536

unfoldable pub lane_holds : ℕ → ℕ → ℕ → ℕ → ℕ → Bool
lane_holds top from spread on off =
    let sf = (top + 1) % 65536 in
    let at = (less from on + cond (leb on from) 0 sf) % 65536 in
    let length = (less off on + cond (leb on off) 0 sf) % 65536 in
    ltb (less ((at + sf) % 65536) length) spread
