-- Counts of a turn, modulo the scale factor SF: how far one is ahead of another, and a pair of setpoints. No past.
-- Assumes nothing.
use Rattle.std.specs.Prelude.{ℕ, Bool, not, ◌&&◌, ◌||◌, ltb, leb, eqb}
use Rattle.std.proofs.Math.IntN.{sub_ℕ}
use Rattle.rules.specs.Words.{modulo}

-- (to − from) mod SF: how far `to` is ahead of `from`
unfoldable pub ahead : ℕ → ℕ → ℕ → ℕ
ahead sf from to = modulo (sub_ℕ to from) sf

-- "A pair (on, off) holds at p where (p − on) mod SF < (off − on) mod SF."
unfoldable pub holds : ℕ → ℕ → ℕ → ℕ → Bool
holds sf on off p = ltb (ahead sf on p) (ahead sf on off)

-- "0/0 is unused"
abbrev pub used_pair : ℕ → ℕ → Bool
used_pair on off = not (eqb on 0 && eqb off 0)

-- a pair that may not be programmed: a setpoint outside 0 to SF − 1, or "equal nonzero"
unfoldable pub pair_bad : ℕ → ℕ → ℕ → Bool
pair_bad sf on off = leb sf on || leb sf off || (eqb on off && not (eqb on 0))
