-- The parts of a frame: an input is one exactly where it has them.
-- Assumes nothing.
use Rattle.std.proofs.Common.{◌≡◌, ℕ, suc, ◌+◌, ◌-◌, ◌≤◌, true, false, List, [], ◌∷◌, ◌++◌, length, get_or, take, drop, sym, refl, ap, subst, ◌∙◌, arith, length-append, take-append-drop, drop_of_length-le, drop-cons, take_at, get_or-append-add, Some, None, set, length-take, length-drop, drop-drop}
use lib.Seq.{sets, sets-eq}
use Rattle.std.proofs.Math.Seq.{take-append_seam, drop-append-add}
use Rattle.std.proofs.lemmas.Bool.{and_parts, false_from_ne_true}
use Rattle.std.proofs.lemmas.Bool.Decides.{nat_tests}
use borrow.Rule.Slice.PartMut.{put_mid}
use Rattle.df1.specs.Frame.{dle, stx, etx, allowed, doubled, check_byte, frame_of, inside, sum_of, undoubled, data_of, is_frame}
use Rattle.df1.specs.Parts.{paired, scan_of}
use Rattle.df1.specs.declared.Scan.{Scan}
use Rattle.df1.proofs.Laws.{sets_start, sets_whole, paired_doubled, doubled_undoubled, undoubled_doubled, same_refl, same_true}

-- the last byte of an input
abbrev pub last_of : List ℕ → ℕ
last_of input = get_or input (length input - 1) 0

-- an input begins with DLE STX, and DLE ETX stand before its last byte
pub record Framed (input : List ℕ) : Type 0 where
  pub long : 5 ≤ length input
  pub first : get_or input 0 0 ≡ dle
  pub second : get_or input 1 0 ≡ stx
  pub third_last : get_or input (length input - 3) 0 ≡ dle
  pub second_last : get_or input (length input - 2) 0 ≡ etx

-- what the reader tests of an input
pub record HasParts (input : List ℕ) : Type 0 where
  pub framed : Framed input
  pub pairs : paired (inside input) ≡ true
  pub check : last_of input ≡ check_byte (data_of input)
  pub number : allowed (length (data_of input)) ≡ true

-- ---- An input made of its parts

module _ (body : List ℕ) (x y z : ℕ) where
  abbrev whole : List ℕ
  whole = dle ∷ stx ∷ body ++ x ∷ y ∷ z ∷ []

  whole_length : length whole ≡ length body + 5
  whole_length = simp length-append (omega arith)

  whole_at : (k n : ℕ) → n ≡ length body + 2 + k → get_or whole n 0 ≡ get_or (x ∷ y ∷ z ∷ []) k 0
  whole_at k n e =
      let f : n ≡ suc (suc (length body + k)) = omega arith in
      rw f (get_or-append-add body (x ∷ y ∷ z ∷ []) k 0)

  whole_inside : inside whole ≡ body
  unfolding inside
  whole_inside = take_at body (x ∷ y ∷ z ∷ []) (length whole - 5) (omega (arith, whole_length))

-- the last three bytes
last_three : (rest : List ℕ) (k : ℕ) → length rest ≡ k + 3 → drop k rest ≡ get_or rest k 0 ∷ get_or rest (suc k) 0 ∷ get_or rest (suc (suc k)) 0 ∷ []
last_three rest k e =
    rw (
      drop-cons rest k 0 (omega arith),
      drop-cons rest (suc k) 0 (omega arith),
      drop-cons rest (suc (suc k)) 0 (omega arith),
      drop_of_length-le rest {i = suc (suc (suc k))} (omega arith),
    )

-- an input of five bytes or more is made of its parts
split_by : (input : List ℕ) (k : ℕ) → length input ≡ k + 5
    → input ≡ get_or input 0 0 ∷ get_or input 1 0 ∷ take k (drop 2 input) ++ get_or input (suc (suc k)) 0 ∷ get_or input (suc (suc (suc k))) 0 ∷ get_or input (suc (suc (suc (suc k)))) 0 ∷ []
split_by [] k e = absurd (omega arith)
split_by (a ∷ []) k e = absurd (omega arith)
split_by (a ∷ b ∷ rest) k e =
    ap (λ (l : List ℕ). a ∷ b ∷ l) (sym (take-append-drop k rest) ∙ ap (λ (l : List ℕ). take k rest ++ l) (last_three rest k (omega arith)))

split : (input : List ℕ) → 5 ≤ length input
    → input ≡ get_or input 0 0 ∷ get_or input 1 0 ∷ inside input ++ get_or input (length input - 3) 0 ∷ get_or input (length input - 2) 0 ∷ last_of input ∷ []
unfolding inside
split input h =
    let third : length input - 3 ≡ suc (suc (length input - 5)) = omega arith in
    let second : length input - 2 ≡ suc (suc (suc (length input - 5))) = omega arith in
    let last : length input - 1 ≡ suc (suc (suc (suc (length input - 5)))) = omega arith in
    rw (third, second, last) (split_by input (length input - 5) (omega arith))

-- what the reader takes for the body
pub inside_part : (input : List ℕ) → take (length input - 3 - 2) (drop 2 input) ≡ inside input
unfolding inside
inside_part input =
    let e : length input - 3 - 2 ≡ length input - 5 = omega arith in
    rw e

-- what its parts say of an input
framed_parts : (input : List ℕ) → Framed input → input ≡ dle ∷ stx ∷ inside input ++ dle ∷ etx ∷ last_of input ∷ []
framed_parts input f = split input f.long ∙ rw (f.first, f.second, f.third_last, f.second_last)

-- ---- The parts of a frame

pub frame_length : (bytes : List ℕ) → length (frame_of bytes) ≡ length (doubled bytes) + 5
unfolding frame_of
frame_length bytes = whole_length (doubled bytes) dle etx (check_byte bytes)

frame_inside : (bytes : List ℕ) → inside (frame_of bytes) ≡ doubled bytes
unfolding frame_of
frame_inside bytes = whole_inside (doubled bytes) dle etx (check_byte bytes)

frame_last : (bytes : List ℕ) → last_of (frame_of bytes) ≡ check_byte bytes
unfolding frame_of
frame_last bytes = whole_at (doubled bytes) dle etx (check_byte bytes) 2 (length (frame_of bytes) - 1) (omega (arith, frame_length bytes))

frame_framed : (bytes : List ℕ) → Framed (frame_of bytes)
unfolding frame_of
frame_framed bytes = record {
  long = omega (arith, frame_length bytes);
  first = refl;
  second = refl;
  third_last = whole_at (doubled bytes) dle etx (check_byte bytes) 0 (length (frame_of bytes) - 3) (omega (arith, frame_length bytes));
  second_last = whole_at (doubled bytes) dle etx (check_byte bytes) 1 (length (frame_of bytes) - 2) (omega (arith, frame_length bytes));
}

-- a frame's data
pub frame_data : (bytes : List ℕ) → data_of (frame_of bytes) ≡ bytes
unfolding data_of
frame_data bytes = ap undoubled (frame_inside bytes) ∙ undoubled_doubled bytes

-- ---- What the reader finds

module _ (input : List ℕ) where
  pub frame_parts : is_frame input ≡ true → HasParts input
  unfolding is_frame
  frame_parts h =
      let p = and_parts _ _ h in
      let e = same_true input (frame_of (data_of input)) p.0 in
      record {
        framed = subst Framed (sym e) (frame_framed (data_of input));
        pairs = ap paired (ap inside e ∙ frame_inside (data_of input)) ∙ paired_doubled (data_of input);
        check = ap last_of e ∙ frame_last (data_of input);
        number = p.1;
      }

  pub parts_frame : HasParts input → is_frame input ≡ true
  unfolding is_frame frame_of data_of
  parts_frame p =
      let e : frame_of (data_of input) ≡ input = rw (doubled_undoubled (inside input) p.pairs, ← p.check) (sym (framed_parts input p.framed)) in
      rw (e, same_refl input) p.number

  pub no_frame : (HasParts input → ⊥) → is_frame input ≡ false
  no_frame h = false_from_ne_true (is_frame input) (λ e. h (frame_parts e))

-- what a scan of a body says
pub scan_none : (body : List ℕ) → None ≡ scan_of body → paired body ≡ true → ⊥
unfolding scan_of
scan_none body n e = let h = rw e at n in cc

pub scan_some : (body : List ℕ) (s : Scan) → Some s ≡ scan_of body
    → (paired body ≡ true) × (s.count ≡ length (undoubled body)) × (s.sum ≡ sum_of (undoubled body))
unfolding scan_of
scan_some body s h = grind (arith, nat_tests)

-- ---- A frame stored

module _ (out d : List ℕ) (check n : ℕ) (is : n ≡ length d + 5) (room : n ≤ length out) where
  abbrev start : List ℕ
  start = set (set out 0 dle) 1 stx

  start_is : start ≡ dle ∷ stx ∷ drop 2 out
  start_is = sets_start out (dle ∷ stx ∷ []) (omega arith)

  inner_is : sets (take (length d) (drop 2 out)) 0 d ≡ d
  inner_is = sets_whole (take (length d) (drop 2 out)) d (omega (arith, length-take (length d) (drop 2 out), length-drop 2 out))

  last_is : sets (dle ∷ stx ∷ d ++ drop (length d) (drop 2 out)) (suc (suc (length d))) (dle ∷ etx ∷ check ∷ []) ≡ (dle ∷ stx ∷ d ++ dle ∷ etx ∷ check ∷ []) ++ drop n out
  last_is =
      let w = dle ∷ stx ∷ d ++ drop (length d) (drop 2 out) in
      let e : suc (suc (length d)) + 3 ≡ suc (suc (length d + 3)) = omega arith in
      let f : 2 + (length d + 3) ≡ n = omega arith in
      sets-eq (dle ∷ etx ∷ check ∷ []) w (suc (suc (length d))) (omega (arith, length-append d (drop (length d) (drop 2 out)), length-drop (length d) (drop 2 out), length-drop 2 out))
      ∙ rw (e, take-append_seam d (drop (length d) (drop 2 out)), drop-append-add d (drop (length d) (drop 2 out)) 3, drop-drop 3 (length d) (drop 2 out), drop-drop (length d + 3) 2 out, f)

  pub frame_stored : set (set (set (put_mid 2 (n - 3 - 2) start (sets (take (n - 3 - 2) (drop 2 start)) 0 d)) (n - 3) dle) (n - 3 + 1) etx) (n - 3 + 2) check
      ≡ (dle ∷ stx ∷ d ++ dle ∷ etx ∷ check ∷ []) ++ drop n out
  frame_stored =
      let k : n - 3 - 2 ≡ length d = omega arith in
      let e : n - 3 ≡ suc (suc (length d)) = omega arith in
      let e1 : suc (suc (length d)) + 1 ≡ suc (suc (suc (length d))) = omega arith in
      let e2 : suc (suc (length d)) + 2 ≡ suc (suc (suc (suc (length d)))) = omega arith in
      rw (k, e, e1, e2, start_is, inner_is) last_is
