-- Which block is read, as rules' definitions take it. Assumes nothing.
use Rattle.std.specs.Prelude.{Bool, true, false}
use Rattle.reader.specs.declared.BlockOf.{BlockOf}
use Rattle.reader.specs.declared.BlockOf.TheVariants.{Group, Output}

abbrev pub is_group : BlockOf → Bool
is_group Group = true
is_group Output = false
