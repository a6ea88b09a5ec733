-- The bits that 01 names of each word in which all others are reserved.
-- Assumes nothing.
use Rattle.std.specs.Prelude.{ℕ, List}
use Rattle.rules.specs.SetupWords.{setup_command_bits}
use Rattle.rules.specs.GroupWords.{group_command_bits, group_control_bits}
use Rattle.rules.specs.LimitWords.{limit_command_bits, limit_control_bits}
use Rattle.word.specs.declared.Layout.{Layout}
use Rattle.word.specs.declared.Layout.TheVariants.{SetupCommand, GroupCommand, LimitCommand, GroupControl, LimitControl}

abbrev pub named : Layout → List ℕ
named SetupCommand = setup_command_bits
named GroupCommand = group_command_bits
named LimitCommand = limit_command_bits
named GroupControl = group_control_bits
named LimitControl = limit_control_bits
