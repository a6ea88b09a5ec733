-- 02, request 4/14: the bounds of the movement sums and of the scaled position's product, and two lists of calls that reach those of C. With 10/14, those of the speed.
-- Assumes nothing.
use Rattle.std.specs.Prelude.{ℕ, zero, suc, ◌*◌, ◌%◌, List, [], ◌∷◌, ℤ, pos, neg_ℤ}
use Rattle.rules.specs.declared.Sample.{Sample}
use Rattle.rules.specs.Calls.{Call, Step}

-- "Over any list the sum for C stays from −1,290,240 to 1,287,720"
abbrev pub least_big_c : ℤ
least_big_c = neg_ℤ (pos 1290240)

abbrev pub most_big_c : ℤ
most_big_c = pos 1287720

-- that for c from −61,440 to 61,320
abbrev pub least_c : ℤ
least_c = neg_ℤ (pos 61440)

abbrev pub most_c : ℤ
most_c = pos 61320

-- "the scaled position with its product": q × SF
abbrev pub most_product : ℕ
most_product = 1047552

-- 02, 10/14: the speed "in tenths of an rpm" of half a turn in each step
abbrev pub most_tenths : ℕ
most_tenths = 1500000

-- what is made on the way: |C| × 600,000, and for Tach the tenths times the multiplier, doubled to round half up
abbrev pub most_counted : ℕ
most_counted = 774144000000

abbrev pub most_doubled : ℕ
most_doubled = 3300000000

-- a sample with nothing but a raw position
abbrev pub sample_at : ℕ → Sample
sample_at raw = record { raw = raw; currents = 0; virtuals = 0; inputson = 0; inputsoff = 0; realon = 0; realoff = 0; virtualon = 0; virtualoff = 0 }

-- so many steps, the latest first: the first at raw 0, each `by` counts on from the one before
unfoldable pub steps_by : ℕ → ℕ → List Call
steps_by by zero = []
steps_by by (suc n) = Step (sample_at (n * by % 1024)) ∷ steps_by by n

-- "and some lists reach each": 5,040 steps of a fresh card, two windows; raw 0, 512, 0, 512 and so on, which is 512 counts back in each
abbrev pub backward : List Call
backward = steps_by 512 5040

-- raw 0, 511, 1022, 509 and so on: 511 counts on in each
abbrev pub forward : List Call
forward = steps_by 511 5040
