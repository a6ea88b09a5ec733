-- What is left to put, put, gives the buffer asked for. Assumes nothing.
use Rattle.std.proofs.Common.{◌≡◌, ℕ, ◌+◌, ◌<◌, List, ◌∷◌, length, get_or, drop, set, sym, ◌∙◌, arith, add-one, eq-eqb, ne_eqb}
use lib.Seq.{sets}
use Rattle.df1.specs.Frame.{dle, doubled, sent}
use Rattle.df1.proofs.Laws.{doubled_next, doubled_end, sets_past}
use Rattle.df1.proofs.writing.put_doubled.Goals as goal
use Rattle.df1.proofs.writing.put_doubled.Goals.{then-b-eq-DLE+else-out-place-2, else-b-eq-DLE}

-- one data byte put, and then the rest
module _ (bytes out : List ℕ) (place k : ℕ) (within : k < length bytes) where
  abbrev b : ℕ
  b = get_or bytes k 0

  once : (b ≡ dle → ⊥) → sets out place (doubled (drop k bytes)) ≡ sets (set out place b) (place + 1) (doubled (drop (k + 1) bytes))
  unfolding sent
  once e = rw (doubled_next bytes k within, ne_eqb b dle e, add-one place)

  twice : b ≡ dle → sets out place (doubled (drop k bytes)) ≡ sets (set out place b) (place + 1) (b ∷ doubled (drop (k + 1) bytes))
  unfolding sent
  twice e = rw (doubled_next bytes k within, eq-eqb b dle e, add-one place)

pub returns-then-out-place : goal.returns-then-out-place
returns-then-out-place c =
    let l = c.loop-b in
    sym (sets_past l.out l.place (doubled (drop l.b-index c.args.bytes.now)) c.if-out-place.true) ∙ l.invariant

pub returns-then-out-place-2 : goal.returns-then-out-place-2
returns-then-out-place-2 c =
    let l = c.loop-b in
    let b = get_or c.args.bytes.now l.b-index 0 in
    sym (sets_past (set l.out l.place b) (l.place + 1) (b ∷ doubled (drop (l.b-index + 1) c.args.bytes.now)) c.if-out-place-2.true)
    ∙ sym (twice c.args.bytes.now l.out l.place l.b-index c.loop-b-test.true c.if-b-eq-DLE.true) ∙ l.invariant

pub loop-b-preserved : goal.loop-b-preserved
loop-b-preserved c =
    let l = c.loop-b in
    let bytes = c.args.bytes.now in
    elim c.if-b-eq-DLE.branch [
      | then-b-eq-DLE+else-out-place-2 w ↦ rw (w.out-is, w.place-is, add-one (l.place + 1)) (sym (twice bytes l.out l.place l.b-index c.loop-b-test.true w.if-b-eq-DLE.true) ∙ l.invariant)
      | else-b-eq-DLE w ↦ rw (w.out-is, w.place-is) (sym (once bytes l.out l.place l.b-index c.loop-b-test.true w.if-b-eq-DLE.false) ∙ l.invariant)
    ]

pub returns : goal.returns
returns c =
    let l = c.loop-b in
    let e : l.b-index ≡ length c.args.bytes.now = omega arith in
    rw (e, doubled_end c.args.bytes.now) at l.invariant
