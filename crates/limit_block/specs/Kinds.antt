-- The types of switch that a block's control word names by number. No past.
-- Assumes nothing.
use Rattle.std.specs.Prelude.{ℕ}
use Rattle.limit_block.specs.declared.Kind.{Kind}
use Rattle.limit_block.specs.declared.Kind.TheVariants.{Normal, Pulse, Timed, Undefined}

-- 01's number of a type, of two bits
abbrev pub number_of : Kind → ℕ
number_of Normal = 0
number_of Pulse = 1
number_of Timed = 2
number_of Undefined = 3
