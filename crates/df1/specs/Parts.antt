-- The parts in which the code reckons the definitions of Frame: how many DLEs data have, and the tests that tell a frame. proofs/Laws.antt and proofs/Parts.antt tie them to Frame.
-- Assumes nothing.
use Rattle.std.specs.Prelude.{◌≡◌, ℕ, Bool, true, cond, not, ◌&&◌, List, [], ◌∷◌, length, ◌==◌, count_by, Option, Some, None}
use Rattle.df1.specs.declared.Scan.{Scan}
use Rattle.df1.specs.Frame.{dle, sum_of, inside, undoubled, is_frame, data_of}

-- how many of the bytes are a DLE
abbrev pub dle_count : List ℕ → ℕ
dle_count bytes = count_by (λ b. b == dle) bytes

-- each DLE is one of two
unfoldable pub paired : List ℕ → Bool
paired [] = true
paired (b ∷ []) = not (b == dle)
paired (b ∷ c ∷ body) = cond (b == dle) (c == dle && paired body) (paired (c ∷ body))

-- the data of what was sent: their number and sum; none where a DLE stands alone
unfoldable pub scan_of : List ℕ → Option Scan
scan_of body = cond (paired body) (Some (record { count = length (undoubled body); sum = sum_of (undoubled body) })) None

-- the input is a frame, with this body and so many data bytes
pub record IsBody (input body : List ℕ) (count : ℕ) : Type 0 where
  pub frame : is_frame input ≡ true
  pub part : body ≡ inside input
  pub number : count ≡ length (data_of input)
