-- Words, bits and counts: what the rules of document 01 are written in. "01" is that document, in all files.
-- Assumes nothing.
use Rattle.std.specs.Prelude.{ℕ, zero, suc, ◌+◌, ◌-◌, ◌*◌, ◌/◌, ◌%◌, ◌^◌, Bool, true, false, cond, not, ◌&&◌, ◌||◌, List, [], ◌∷◌, get_or, set, leb, eqb, ℤ, pos, negsuc}
use Rattle.std.specs.Bool.{xor}

-- the word at a place of a file
abbrev pub word : List ℕ → ℕ → ℕ
word file n = get_or file n 0

-- bit n of a word
unfoldable pub bit : ℕ → ℕ → Bool
bit w n = eqb (w / 2 ^ n % 2) 1

abbrev pub digit : Bool → ℕ
digit b = cond b 1 0

-- the word with these bits, bit 0 first
abbrev pub bits : List Bool → ℕ
bits [] = 0
bits (b ∷ bs) = digit b + 2 * bits bs

-- the number of n binary digits whose digit k is f (i + k)
unfoldable pub packed : ℕ → ℕ → (ℕ → Bool) → ℕ
packed zero i f = 0
packed (suc n) i f = packed n (i + 1) f * 2 + digit (f i)

-- the word whose bit k is f (i + k)
abbrev pub word_of : ℕ → (ℕ → Bool) → ℕ
word_of i f = packed 16 i f

-- the bytes of words, "low byte first"
unfoldable pub bytes_of : List ℕ → List ℕ
bytes_of [] = []
bytes_of (w ∷ ws) = w % 256 ∷ w / 256 ∷ bytes_of ws

-- f at some, at each, of the n numbers from i on; at how many of them
unfoldable pub some_of : ℕ → ℕ → (ℕ → Bool) → Bool
some_of zero i f = false
some_of (suc n) i f = f i || some_of n (i + 1) f

unfoldable pub each_of : ℕ → ℕ → (ℕ → Bool) → Bool
each_of zero i f = true
each_of (suc n) i f = f i && each_of n (i + 1) f

unfoldable pub count_of : ℕ → ℕ → (ℕ → Bool) → ℕ
count_of zero i f = 0
count_of (suc n) i f = digit (f i) + count_of n (i + 1) f

-- at how many of them, in order up to and including the first at which `ends` is
unfoldable pub count_up_to : ℕ → ℕ → (ℕ → Bool) → (ℕ → Bool) → ℕ
count_up_to zero i f ends = 0
count_up_to (suc n) i f ends = digit (f i) + cond (ends i) 0 (count_up_to n (i + 1) f ends)

-- the lowest of the n numbers from i on with f; 0 if there is none
unfoldable pub lowest_of : ℕ → ℕ → (ℕ → Bool) → ℕ
lowest_of zero i f = 0
lowest_of (suc n) i f = cond (f i) i (lowest_of n (i + 1) f)

-- f at each of the n numbers from i on, in order
unfoldable pub table : {A : Type 0} → ℕ → ℕ → (ℕ → A) → List A
table zero i f = []
table (suc n) i f = f i ∷ table n (i + 1) f

-- the file with these words from a place on
unfoldable pub stored_at : ℕ → List ℕ → List ℕ → List ℕ
stored_at at [] file = file
stored_at at (w ∷ ws) file = stored_at (at + 1) ws (set file at w)

-- n is one of these
abbrev pub one_of : List ℕ → ℕ → Bool
one_of [] n = false
one_of (m ∷ ms) n = eqb n m || one_of ms n

-- some bit of a word other than the named ones is set; some word of a file from the first to the last place is not 0
unfoldable pub other_bit : List ℕ → ℕ → Bool
other_bit named w = some_of 16 0 (λ n. not (one_of named n) && bit w n)

unfoldable pub any_word : ℕ → ℕ → List ℕ → Bool
any_word from to file = some_of (to + 1 - from) from (λ n. not (eqb (word file n) 0))

-- z mod d, from 0 to d − 1 for every z (−(n + 1) is `negsuc n`)
unfoldable pub modulo : ℤ → ℕ → ℕ
modulo (pos n) d = n % d
modulo (negsuc n) d = d - 1 - n % d

-- n / d, rounded half up
unfoldable pub round_half_up : ℕ → ℕ → ℕ
round_half_up n d = (2 * n + d) / (2 * d)

-- a word read as two's complement
unfoldable pub signed_word : ℕ → ℤ
signed_word w = cond (leb 32768 w) (negsuc (65535 - w)) (pos w)

-- in how many of their sixteen bits two words differ
unfoldable pub differing : ℕ → ℕ → ℕ
differing a b = count_of 16 0 (λ n. xor (bit a n) (bit b n))

-- a force: off beats on
abbrev pub forced : Bool → Bool → Bool → Bool
forced off on x = not off && (on || x)
