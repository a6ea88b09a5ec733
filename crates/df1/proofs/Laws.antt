-- Laws of frames: data doubled and read again, sums, runs of stores, and the tests that tell a frame.
-- Assumes nothing.
use Rattle.std.proofs.Common.{◌≡◌, ℕ, suc, ◌+◌, ◌%◌, ◌<◌, ◌≤◌, true, cond, eqb, List, [], ◌∷◌, ◌++◌, length, get_or, drop, refl, ap, ◌∙◌, arith, append-nil, drop_of_length-le, drop-drop}
use Rattle.std.specs.List.{fold}
use Rattle.std.proofs.lemmas.List.Sums.{sum_by-cons}
use Rattle.std.proofs.lemmas.Bool.Decides.{nat_tests}
use Rattle.std.proofs.lemmas.List.{drop_more, set_past}
use lib.Seq.{sets, sets-eq, drop-length}
use Rattle.df1.specs.Frame.{dle, sent, doubled, sum_of, undoubled, same}
use Rattle.df1.specs.Parts.{dle_count, paired}

-- ---- Doubled data

-- how many bytes of what was sent a data byte passes over beside itself
abbrev pub more : ℕ → ℕ
more b = cond (eqb b dle) 1 0

pub undoubled_turn : (b : ℕ) (body : List ℕ) → undoubled (b ∷ body) ≡ b ∷ undoubled (drop (more b) body)
unfolding undoubled
undoubled_turn b [] = grind (arith, nat_tests)
undoubled_turn b (c ∷ body) = grind (arith, nat_tests)

pub doubled_length : (bytes : List ℕ) → length (doubled bytes) ≡ length bytes + dle_count bytes
unfolding doubled sent
doubled_length [] = refl
doubled_length (b ∷ bytes) = rw (sum_by-cons more b bytes) (grind (arith, nat_tests, doubled_length bytes))

-- data read back from what is sent of them
pub undoubled_doubled : (bytes : List ℕ) → undoubled (doubled bytes) ≡ bytes
unfolding doubled sent undoubled
undoubled_doubled [] = refl
undoubled_doubled (b ∷ bytes) = grind (arith, nat_tests, undoubled_turn b (doubled bytes), undoubled_doubled bytes)

-- ---- Bodies in which each DLE is one of two

paired_turn : (b : ℕ) (body : List ℕ) → paired (b ∷ body) ≡ paired (cond (eqb b dle) (dle ∷ body) body)
unfolding paired
paired_turn b [] = grind (arith, nat_tests)
paired_turn b (c ∷ body) = grind (arith, nat_tests)

-- the body of doubled data, and doubled data of a body
pub paired_doubled : (bytes : List ℕ) → paired (doubled bytes) ≡ true
unfolding doubled sent paired
paired_doubled [] = refl
paired_doubled (b ∷ bytes) = grind (arith, nat_tests, paired_turn b (doubled bytes), paired_doubled bytes)

pub doubled_undoubled : (body : List ℕ) → paired body ≡ true → doubled (undoubled body) ≡ body
unfolding doubled sent undoubled paired
doubled_undoubled [] h = refl
doubled_undoubled (b ∷ []) h = grind (arith, nat_tests)
doubled_undoubled (b ∷ c ∷ body) h = grind (arith, nat_tests, doubled_undoubled body, doubled_undoubled (c ∷ body))

-- ---- At a place of data, or of what was sent

pub doubled_next : (bytes : List ℕ) (k : ℕ) → k < length bytes → doubled (drop k bytes) ≡ sent (get_or bytes k 0) ++ doubled (drop (k + 1) bytes)
unfolding doubled
doubled_next bytes k h = rw (drop_more bytes k 0 h)

pub doubled_end : (bytes : List ℕ) → doubled (drop (length bytes) bytes) ≡ []
unfolding doubled
doubled_end bytes = rw drop-length

module _ (l : List ℕ) (k : ℕ) (within : k < length l) where
  pub undoubled_next : undoubled (drop k l) ≡ get_or l k 0 ∷ undoubled (drop (k + 1 + more (get_or l k 0)) l)
  undoubled_next = ap undoubled (drop_more l k 0 within) ∙ undoubled_turn (get_or l k 0) (drop (k + 1) l) ∙ rw (drop-drop (more (get_or l k 0)) (k + 1) l)

  -- a DLE waits for its second
  pub paired_next : paired (drop k l) ≡ paired (cond (eqb (get_or l k 0) dle) (dle ∷ drop (k + 1) l) (drop (k + 1) l))
  paired_next = ap paired (drop_more l k 0 within) ∙ paired_turn (get_or l k 0) (drop (k + 1) l)

  pub paired_second : get_or l k 0 ≡ dle → paired (dle ∷ drop k l) ≡ paired (drop (k + 1) l)
  unfolding paired
  paired_second is = rw (drop_more l k 0 within, is)

-- ---- Sums

pub sum_small : (bytes : List ℕ) → sum_of bytes < 256
unfolding sum_of
sum_small [] = omega arith
sum_small (b ∷ bytes) = omega arith

-- summed from the front
pub sum_from : (s : ℕ) (bytes : List ℕ) → s < 256 → fold (λ s b. (s + b) % 256) s bytes ≡ (s + sum_of bytes) % 256
unfolding sum_of
sum_from s [] h = omega arith
sum_from s (b ∷ bytes) h = sum_from ((s + b) % 256) bytes (omega arith) ∙ omega arith

pub sum_fold : (bytes : List ℕ) → fold (λ s b. (s + b) % 256) 0 bytes ≡ sum_of bytes
sum_fold bytes = sum_from 0 bytes (omega arith) ∙ (let h = sum_small bytes in omega arith)

-- ---- Runs of stores

pub sets_start : (out a : List ℕ) → length a ≤ length out → sets out 0 a ≡ a ++ drop (length a) out
sets_start out a h =
    let e : 0 + length a ≡ length a = omega arith in
    rw e at (sets-eq a out 0 (omega arith))

pub sets_whole : (out a : List ℕ) → length out ≡ length a → sets out 0 a ≡ a
sets_whole out a h = sets_start out a (omega arith) ∙ rw (drop_of_length-le out {i = length a} (omega arith), append-nil a)

-- past the end nothing is stored
pub sets_past : (out : List ℕ) (at : ℕ) (a : List ℕ) → length out ≤ at → sets out at a ≡ out
sets_past out at [] h = refl
sets_past out at (x ∷ a) h = rw (set_past out at x h) (sets_past out (suc at) a (omega arith))

-- ---- Two byte strings are the same

pub same_refl : (a : List ℕ) → same a a ≡ true
unfolding same
same_refl [] = refl
same_refl (x ∷ a) = grind (arith, nat_tests, same_refl a)

pub same_true : (a b : List ℕ) → same a b ≡ true → a ≡ b
unfolding same
same_true [] [] h = refl
same_true [] (y ∷ b) h = cc
same_true (x ∷ a) [] h = cc
same_true (x ∷ a) (y ∷ b) h = grind (arith, nat_tests, same_true a b)
