-- The scale factor that the code holds less one. Assumes nothing.
use Rattle.std.specs.Prelude.{ℕ, ◌+◌}
use Rattle.counts.specs.declared.ScaleFactor.{ScaleFactor}

abbrev pub factor : ScaleFactor → ℕ
factor sf = sf.top + 1
