-- 01, the block reader: a group's words of M0 or an output's of M1, as part of that file. No past.
-- Assumes nothing.
use Rattle.std.specs.Prelude.{ℕ, ◌+◌, ◌*◌, Bool, cond, not, ◌||◌, List, [], length, take, drop, ltb, eqb}
use Rattle.rules.specs.declared.Refusal.TheVariants.{M0Length, M1Length, BlockNumber}
use Rattle.rules.specs.Cycle.{number_of, m0_length, m1_length}
use Rattle.rules.specs.LimitWords.{block_at}

-- "4: block number outside 1 to 6 or 1 to 32"; "1 before 2"
unfoldable pub reader_refusal : ℕ → ℕ → Bool → ℕ → ℕ
reader_refusal length0 length1 group n =
    cond (not (eqb length0 m0_length)) (number_of M0Length)
    (cond (not (eqb length1 m1_length)) (number_of M1Length)
    (cond (eqb n 0 || ltb (cond group 6 32) n) (number_of BlockNumber) 0))

-- "hands back the group's 4 words of M0 or the output's 19 of M1 ..; on 1, 2 and 4 the part is empty"
unfoldable pub reader_part : List ℕ → List ℕ → Bool → ℕ → List ℕ
reader_part m0 m1 group n =
    cond (eqb (reader_refusal (length m0) (length m1) group n) 0)
    (cond group (take 4 (drop (18 + 4 * n) m0)) (take 19 (drop (block_at n) m1)))
    []
