-- `up_to_lowest` meets its contract. Assumes nothing.
use Prim.Native.Nat.{◌+◌, ◌%◌}
use native.Mathlib.Omega.{arith}
use lib.Bits.{bit_xor, and_le_r}
use Rattle.switch.proofs.SideBySide.{counted}
use Rattle.switch.proofs.lanes.up_to_lowest.Goals as goal

pub overflow_cast-result : goal.overflow_cast-result
overflow_cast-result c =
    let x = c.args in
    let first = bit_xor x.ends ((x.ends + 18446744073709551615) % 18446744073709551616) in
    record { fits = omega (arith, and_le_r first (x.used % 256)) }

pub returns : goal.returns
returns c = λ f stops d e. rw (d, e) (counted f stops)
