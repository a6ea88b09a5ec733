-- 02's "Tidier limit errors", over the definitions, for every scale factor, Q and K: the pulses of a train that passes bits 3 and 4 of word 630 are at least one
-- count apart, round the turn too, and exactly Q of them fall in its length, each whole. Assumes nothing.
use Prim.Native.Nat.{ℕ, zero, suc, ◌+◌, ◌-◌, ◌*◌, ◌/◌, ◌%◌, ◌≤◌, ◌<◌}
use mathlib.Core.Bool.{Bool, true, false, cond, not, ◌&&◌, ◌||◌, true≢false, and-false}
use mathlib.Core.Logic.{◌⊎◌, inl, inr}
use mathlib.Core.List.{List}
use mathlib.Core.Path.{◌≡◌, refl, sym, ap, ◌∙◌}
use native.Mathlib.Nat.{zero-add, zero-mul, mul-one, suc-mul, zero-div, div-zero, div-eq_of_lt-le, add-mul-div_right, mul-div_cancel_left, mod-eq_of_lt, add-mod_right, div-mul-le_self, le-div_iff_mul-le, mul-le-mul_right}
use native.Mathlib.Omega.{arith}
use lib.Dec.{ltb, leb, eqb}
use borrow.Author.Tests.{eqb-true, eqb-false, ltb-false, leb-false, lt-ltb, lt-leb, le-ltb, le-leb}
use Rattle.std.proofs.lemmas.Bool.{or_parts, cases_lt, cases_eq}
use Rattle.rules.specs.Words.{word, count_of}
use Rattle.rules.specs.Counts.{ahead, pair_bad}
use Rattle.rules.specs.Switches.{pulse_start, pulse_on}
use Rattle.rules.specs.LimitWords.{block_type, block_used, block_length, block_pair_bad, setpoint_bad, pulse_bad, length_bad, length_bit}
use Rattle.rules.proofs.Laws.{ahead_below, some_one, some_none}
use Rattle.rules.proofs.Lengths.{count_split, count_each}

-- ---- Where pulses start

-- a quotient does not fall with its dividend
pub div_monotone : (d : ℕ) {m n : ℕ} → m ≤ n → m / d ≤ n / d
div_monotone zero {m} {n} h = rw (div-zero m, div-zero n) (omega arith)
div_monotone (suc d) {m} {n} h = (le-div_iff_mul-le {k = suc d} {x = m / suc d} {y = n} (omega arith)).1 (omega (arith, div-mul-le_self m (suc d)))

start_by : (r q k j : ℕ) (b : Bool) → eqb q 1 ≡ b → cond b 0 (j * (r - k) / (q - 1)) ≡ j * (r - k) / (q - 1)
start_by r q k j true e = let z : q - 1 ≡ 0 = omega (arith, eqb-true q 1 e) in rw z (sym (div-zero (j * (r - k))))
start_by r q k j false e = refl

-- one pulse starts at 0 by the same formula, as a number divided by 0 is 0
pub start_value : (r q k j : ℕ) → pulse_start r q k j ≡ j * (r - k) / (q - 1)
unfolding pulse_start
start_value r q k j = start_by r q k j (eqb q 1) refl

pub first_start : (r q k : ℕ) → pulse_start r q k 0 ≡ 0
first_start r q k = start_value r q k 0 ∙ rw (zero-mul (r - k)) (zero-div (q - 1))

-- ---- Counting runs

-- n runs of w numbers, the j-th from `from j` on, which ends before `from (j + 1)`: f at each number of a run and at no other up to there
module _ (from : ℕ → ℕ) (w n : ℕ) (f : ℕ → Bool)
    (first : from 0 ≡ 0)
    (grow : (j : ℕ) → j < n → from j + w ≤ from (j + 1))
    (on : (j i : ℕ) → j < n → i < w → f (from j + i) ≡ true)
    (off : (j at : ℕ) → j < n → from j + w ≤ at → at < from (j + 1) → f at ≡ false) where
  pub count_runs : (j : ℕ) → j ≤ n → count_of (from j) 0 f ≡ j * w
  unfolding count_of
  count_runs zero h = rw (first, zero-mul w)
  count_runs (suc j) h =
      let s : suc j ≡ j + 1 = omega arith in
      let g : from j + w ≤ from (j + 1) = grow j (omega arith) in
      let rest : ℕ = from (j + 1) - (from j + w) in
      let e : from (j + 1) ≡ from j + w + rest = omega arith in
      let run = count_each w (0 + from j) f true (λ k a b. let d : from j + (k - from j) ≡ k = omega arith in rw d at (on j (k - from j) (omega arith) (omega arith))) in
      let dark = count_each rest (0 + (from j + w)) f false (λ k a b. off j k (omega arith) (omega arith) (omega arith)) in
      rw (suc-mul j w, s, e) (count_split (from j + w) rest 0 f ∙ rw (count_split (from j) w 0 f, run, dark, count_runs j (omega arith)) (omega arith))

-- ---- A train whose length takes Q pulses of K counts and a count between each two

-- "on there, and not one before": one before the ON setpoint is SF − 1 counts after it
abbrev pub rises : ℕ → ℕ → ℕ → ℕ → ℕ → Bool
rises sf r q k at = pulse_on r q k at && not (pulse_on r q k ((at + (sf - 1)) % sf))

-- of the counts from the ON setpoint of a train of length R
pub record Separate (sf r q k : ℕ) : Type 0 where
  -- "pulses at least one count apart"
  pub apart : (j : ℕ) → j + 1 < q → pulse_start r q k j + k + 1 ≤ pulse_start r q k (j + 1)
  -- the last one from the first of the next turn, which starts SF counts on, too: it ends within R, which is at most SF − 1
  pub turn : pulse_start r q k (q - 1) + k + 1 ≤ sf + pulse_start r q k 0
  pub ends : pulse_start r q k (q - 1) + k ≤ r
  pub below : r ≤ sf - 1
  -- "exactly Q pulses fall in its length", of K counts each
  pub pulses : count_of r 0 (rises sf r q k) ≡ q
  pub counts : count_of r 0 (pulse_on r q k) ≡ q * k
  -- and each is whole: K counts from where it rises, and then it is off
  pub whole : (at : ℕ) → at < r → rises sf r q k at ≡ true → ((i : ℕ) → i < k → pulse_on r q k (at + i) ≡ true) × (pulse_on r q k (at + k) ≡ false)
  -- nothing else is on
  pub dark : (at : ℕ) → r ≤ at → pulse_on r q k at ≡ false

module _ (sf r q k : ℕ) (turn : r < sf) (some : 1 ≤ q) (lit : 1 ≤ k) (fits : q * k + q - 1 ≤ r) where
  abbrev start : ℕ → ℕ
  start = pulse_start r q k

  -- (R − K) ≥ (Q − 1) × (K + 1), and K ≤ R
  room : ((q - 1) * (k + 1) ≤ r - k) × (k ≤ r)
  room =
      let d : ℕ = q - 1 in
      let e : q ≡ suc d = omega arith in
      let f = rw e at fits in
      (omega (arith, f), omega (arith, f))

  apart : (j : ℕ) → j + 1 < q → start j + k + 1 ≤ start (j + 1)
  apart j h =
      let d : ℕ = q - 1 in
      let m : ℕ = r - k in
      let some_gap : 0 < d = omega arith in
      let b : (j * m + (k + 1) * d) / d ≤ (j + 1) * m / d = div_monotone d (omega (arith, room.0)) in
      let c = add-mul-div_right (j * m) (k + 1) {z = d} some_gap in
      rw (start_value r q k j, start_value r q k (j + 1)) (omega (arith, b, c))

  -- the starts do not fall
  climb : (i j : ℕ) → i ≤ j → start i ≤ start j
  climb i j h = rw (start_value r q k i, start_value r q k j) (div_monotone (q - 1) (mul-le-mul_right (r - k) h))

  ends : start (q - 1) + k ≤ r
  ends = rw (start_value r q k (q - 1)) (go (q - 1))
    where
      go : (d : ℕ) → d * (r - k) / d + k ≤ r
      go zero = rw (zero-mul (r - k), div-zero 0) (omega (arith, room.1))
      go (suc d) = rw (mul-div_cancel_left (r - k) {n = suc d} (omega arith)) (omega (arith, room.1))

  -- where the pulses start, and R after the last
  from : ℕ → ℕ
  from j = cond (ltb j q) (start j) r

  from_start : (j : ℕ) → j < q → from j ≡ start j
  unfolding from
  from_start j h = rw (lt-ltb j q h)

  from_end : from q ≡ r
  unfolding from
  from_end = rw (le-ltb q q (omega arith))

  grow : (j : ℕ) → j < q → start j + k ≤ from (j + 1)
  grow j h =
      elim (cases_lt (j + 1) q) [
        | inl l ↦ rw (from_start (j + 1) l) (omega (arith, apart j l))
        | inr l ↦
            let e : j + 1 ≡ q = omega arith in
            let f : j ≡ q - 1 = omega arith in
            rw (e, from_end, f) ends
      ]

  from_below : (j : ℕ) → j ≤ q → from j ≤ r
  from_below j h =
      elim (cases_lt j q) [
        | inl l ↦ rw (from_start j l) (omega (arith, climb j (q - 1) (omega arith), ends))
        | inr l ↦ let e : j ≡ q = omega arith in rw (e, from_end) (omega arith)
      ]

  on : (j i : ℕ) → j < q → i < k → pulse_on r q k (start j + i) ≡ true
  unfolding pulse_on
  on j i h l = some_one q 0 j _ h (rw (zero-add j, le-leb (start j) (start j + i) (omega arith), lt-ltb (start j + i) (start j + k) (omega arith)))

  -- each pulse has ended or is still to start
  none : (at : ℕ) → ((j : ℕ) → j < q → (start j + k ≤ at) ⊎ (at < start j)) → pulse_on r q k at ≡ false
  unfolding pulse_on
  none at h = some_none q 0 _ (λ j a b. elim (h j (omega arith)) [
    | inl past ↦ rw (le-ltb at (start j + k) past) (and-false (leb (start j) at))
    | inr later ↦ rw (lt-leb (start j) at later)
  ])

  off : (j at : ℕ) → j < q → start j + k ≤ at → at < from (j + 1) → pulse_on r q k at ≡ false
  off j at h a b = none at (λ i l. elim (cases_lt j i) [
    | inl later ↦ inr (omega (arith, climb (j + 1) i (omega arith), rw (from_start (j + 1) (omega arith)) at b))
    | inr past ↦ inl (omega (arith, climb i j past))
  ])

  dark : (at : ℕ) → r ≤ at → pulse_on r q k at ≡ false
  dark at h = none at (λ i l. inl (omega (arith, climb i (q - 1) (omega arith), ends)))

  -- one before a count, and before the ON setpoint
  before : (at : ℕ) → at + 1 < sf → (at + 1 + (sf - 1)) % sf ≡ at
  before at h =
      let e : at + 1 + (sf - 1) ≡ at + sf = omega arith in
      rw e (add-mod_right at sf ∙ mod-eq_of_lt (omega arith))

  before_first : (0 + (sf - 1)) % sf ≡ sf - 1
  before_first = let z : 0 + (sf - 1) ≡ sf - 1 = zero-add (sf - 1) in rw z (mod-eq_of_lt (omega arith))

  dark_before : (j : ℕ) → j < q → pulse_on r q k ((start j + (sf - 1)) % sf) ≡ false
  dark_before zero h = rw (first_start r q k, before_first) (dark (sf - 1) (omega arith))
  dark_before (suc j) h =
      let s : suc j ≡ j + 1 = omega arith in
      let at : ℕ = start (j + 1) - 1 in
      let a = apart j (omega arith) in
      let f = from_start (j + 1) (omega arith) in
      let e : start (j + 1) ≡ at + 1 = omega arith in
      let b = from_below (j + 1) (omega arith) in
      rw (s, e, before at (omega (arith, b, f))) (off j at (omega arith) (omega arith) (omega (arith, f)))

  rise_on : (j : ℕ) → j < q → rises sf r q k (start j) ≡ true
  rise_on j h =
      let e : start j + 0 ≡ start j = omega arith in
      rw (rw e at (on j 0 h lit), dark_before j h)

  rise_off : (j at : ℕ) → j < q → start j + 1 ≤ at → at < from (j + 1) → rises sf r q k at ≡ false
  rise_off j at h a b =
      elim (cases_lt at (start j + k)) [
        | inl l ↦
            let i : ℕ = at - 1 - start j in
            let e : at ≡ start j + i + 1 = omega arith in
            let c = from_below (j + 1) (omega arith) in
            rw (e, before (start j + i) (omega (arith, c)), on j i h (omega arith)) (and-false (pulse_on r q k (start j + i + 1)))
        | inr l ↦ rw (off j at h l b)
      ]

  -- the pulse that is the last to start by a count of the length
  located : {C : Type 0} (at : ℕ) → ((j : ℕ) → j < q → from j ≤ at → at < from (j + 1) → C) → (n : ℕ) → n ≤ q → at < from n → C
  located at found zero m h = absurd (omega (arith, from_start 0 some, first_start r q k))
  located at found (suc n) m h =
      let s : suc n ≡ n + 1 = omega arith in
      elim (cases_lt at (from n)) [ inl l ↦ located at found n (omega arith) l | inr l ↦ found n (omega arith) l (rw s at h) ]

  after : (j : ℕ) → j < q → pulse_on r q k (start j + k) ≡ false
  after j h =
      elim (cases_lt (start j + k) (from (j + 1))) [
        | inl l ↦ off j (start j + k) h (omega arith) l
        | inr l ↦ elim (cases_lt (j + 1) q) [
          | inl m ↦ absurd (omega (arith, apart j m, from_start (j + 1) m))
          | inr m ↦ let e : j + 1 ≡ q = omega arith in dark (start j + k) (omega (arith, from_end, rw e at l))
        ]
      ]

  whole : (at : ℕ) → at < r → rises sf r q k at ≡ true → ((i : ℕ) → i < k → pulse_on r q k (at + i) ≡ true) × (pulse_on r q k (at + k) ≡ false)
  whole at h e = located at (λ j l a b. elim (cases_eq at (start j)) [
    | inl s ↦ rw s (λ i m. on j i l m, after j l)
    | inr s ↦ absurd (true≢false (sym e ∙ rise_off j at l (omega (arith, from_start j l, s)) b))
  ]) q (omega arith) (rw from_end h)

  -- a test that w numbers from each start on pass, and no other in the length
  counted : (w : ℕ) (f : ℕ → Bool) → w ≤ k → ((j i : ℕ) → j < q → i < w → f (start j + i) ≡ true)
      → ((j at : ℕ) → j < q → start j + w ≤ at → at < from (j + 1) → f at ≡ false) → count_of r 0 f ≡ q * w
  counted w f h u v =
      ap (λ (n : ℕ). count_of n 0 f) (sym from_end)
      ∙ count_runs from w q f (from_start 0 some ∙ first_start r q k)
      (λ j l. omega (arith, from_start j l, grow j l))
      (λ j i l m. rw (from_start j l) (u j i l m))
      (λ j at l b c. v j at l (rw (from_start j l) at b) c)
      q (omega arith)

  pub separate : Separate sf r q k
  separate = record {
    apart = apart;
    turn = omega (arith, ends);
    ends = ends;
    below = omega arith;
    pulses = counted 1 (rises sf r q k) lit (λ j i l m. let e : start j + i ≡ start j = omega arith in rw e (rise_on j l)) rise_off ∙ mul-one q;
    counts = counted k (pulse_on r q k) (omega arith) on off;
    whole = whole;
    dark = dark;
  }

-- ---- A train that passes bits 3 and 4

-- bit 3 clear, of one pair
pub good_pair : (sf on off : ℕ) → pair_bad sf on off ≡ false → (on < sf) × (off < sf)
unfolding pair_bad
good_pair sf on off e =
    let a = or_parts (leb sf on || leb sf off) (eqb on off && not (eqb on 0)) e in
    let b = or_parts (leb sf on) (leb sf off) a.0 in
    (leb-false sf on b.0, leb-false sf off b.1)

-- bit 4 clear, where bit 3 is
pub good_pulse : (r q k : ℕ) → pulse_bad false r q k ≡ false → (1 ≤ q) × (1 ≤ k) × (q * k + q - 1 ≤ r)
unfolding pulse_bad
good_pulse r q k e =
    let a = or_parts (eqb q 0 || eqb k 0) _ e in
    let b = or_parts (eqb q 0) (eqb k 0) a.0 in
    let c = eqb-false q 0 b.0 in
    let d = eqb-false k 0 b.1 in
    (omega (arith, c), omega (arith, d), omega (arith, ltb-false _ _ a.1))

pub train_separate : (sf on off q k : ℕ) → pair_bad sf on off ≡ false → pulse_bad false (ahead sf on off) q k ≡ false → Separate sf (ahead sf on off) q k
train_separate sf on off q k e f =
    let t : ℕ = sf - 1 in
    let s : sf ≡ t + 1 = omega (arith, good_pair sf on off e) in
    let p = good_pulse (ahead sf on off) q k f in
    separate sf (ahead sf on off) q k (rw s (ahead_below t on off)) p.0 p.1 (omega (arith, p.2))

-- THE TRAINS: "a train not at 0/0 that passes bits 3 and 4 has pulses at least one count apart, for every SF, Q and K, and .. exactly Q pulses fall in its length"
pub block_separate : (sf : ℕ) (fifth : Bool) (b : List ℕ) → block_type b ≡ 1 → block_used b ≡ true → setpoint_bad sf b ≡ false → length_bit sf fifth b ≡ false
    → Separate sf (block_length sf b) (word b 5) (word b 6)
unfolding setpoint_bad block_pair_bad length_bit length_bad
block_separate sf fifth b pulse used bit3 bit4 =
    train_separate sf (word b 3) (word b 4) (word b 5) (word b 6) (rw pulse at bit3) (rw (pulse, used) at (rw bit3 at bit4))

-- and no smaller R would do: with R one short the second pulse starts where the first ends
pub one_short : (q k : ℕ) → 2 ≤ q → 1 ≤ k → pulse_start (q * k + q - 2) q k 1 ≡ pulse_start (q * k + q - 2) q k 0 + k
one_short zero k h l = absurd (omega arith)
one_short (suc d) k h l =
    let x : 1 * (suc d * k + suc d - 2 - k) ≡ suc d * k + suc d - 2 - k = omega arith in
    let less : suc d * k + suc d - 2 - k + 1 ≡ k * d + d = omega arith in
    let v : (suc d * k + suc d - 2 - k) / d ≡ k = div-eq_of_lt-le d (omega (arith, less)) (omega (arith, less)) in
    let y : suc d - 1 ≡ d = omega arith in
    start_value (suc d * k + suc d - 2) (suc d) k 1 ∙ rw (first_start (suc d * k + suc d - 2) (suc d) k, x, y, v) (omega arith)
