-- What the parts of the dealing of outputs give; rules' definitions say the whole.
-- Assumes nothing.
use Rattle.std.specs.Prelude.{ℕ, ◌-◌, cond, ◌&&◌, List, ltb}
use Rattle.rules.specs.declared.IoType.{IoType}
use Rattle.rules.specs.declared.IoType.TheVariants.{Real, Virtual}
use Rattle.rules.specs.declared.Group.{Group}
use Rattle.rules.specs.Variants.{group_type}
use Rattle.rules.specs.GroupWords.{same_type, dealt_to}

-- how many outputs of a type a group takes
unfoldable pub share_of : IoType → Group → ℕ
share_of t g = cond (g.used && same_type t (group_type g)) g.quantity 0

-- the owner of output n, counted from 0
unfoldable pub owner_in : List Group → ℕ → ℕ
owner_in gs n = cond (ltb n 16) (dealt_to Real gs 1 n) (dealt_to Virtual gs 1 (n - 16))
