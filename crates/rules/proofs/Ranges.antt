-- What an accepted cycle's checks leave, after every list of calls: SF from 2 to 1024; preset, offsets, dwells and setpoints below SF; scalars, modes,
-- owners, types, detectors, advances, pulse trains and durations in range.
-- Assumes nothing.
use Prim.Native.Nat.{ℕ, zero, suc, ◌+◌, ◌-◌, ◌*◌, ◌/◌, ◌%◌, ◌≤◌, ◌<◌}
use mathlib.Core.Logic.{inl, inr}
use mathlib.Core.Path.{◌≡◌, refl, ap, subst, ◌∙◌}
use mathlib.Core.Bool.{Bool, true, false, cond, not, ◌&&◌, ◌||◌, true≢false}
use mathlib.Core.List.{List, [], ◌∷◌}
use native.Mathlib.Omega.{arith}
use lib.ListN.{length, get_or, set, replicate, length-set}
use lib.Dec.{ltb, leb, eqb, lit<, lit≤}
use lib.IntN.{sub_ℕ, nat_abs}
use borrow.Author.Tests.{ltb-true, ltb-false, leb-false, eqb-true, eqb-false, not-true, not-false}
use Rattle.std.proofs.lemmas.Bool.{and_parts, or_parts, cases_Bool, cases_eq, cases_lt}
use Rattle.std.specs.List.{All}
use Rattle.std.proofs.lemmas.List.{get_or_past}
use Rattle.std.proofs.lemmas.List.Elements.{All-nil, All-cons, All-replicate, All-from_get_or, All-append, All-set}
use Rattle.rules.specs.declared.Model.{Model}
use Rattle.rules.specs.declared.Setup.{Setup}
use Rattle.rules.specs.declared.Group.{Group}
use Rattle.rules.specs.declared.IoType.{IoType}
use Rattle.rules.specs.declared.IoType.TheVariants.{Real, Virtual}
use Rattle.rules.specs.declared.Switch.{Switch}
use Rattle.rules.specs.declared.Switch.TheVariants.{Unprogrammed, Normal, Pulse, Timed}
use Rattle.rules.specs.declared.Limit.{Limit}
use Rattle.rules.specs.declared.Programming.{Programming}
use Rattle.rules.specs.declared.Configuration.{Configuration}
use Rattle.rules.specs.declared.FileCycle.{FileCycle}
use Rattle.rules.specs.declared.FileCycle.TheVariants.{SetupCycle, GroupCycle, LimitCycle}
use Rattle.rules.specs.Words.{word, bit, digit, bits, some_of, lowest_of, table, other_bit, signed_word}
use Rattle.rules.specs.Variants.{model_in, io_count, io_type_of, group_type, switch_of, limit_switch}
use Rattle.rules.specs.Counts.{ahead, used_pair, pair_bad}
use Rattle.rules.specs.Motion.{scale_factor, scaled_position, turned, divisor}
use Rattle.rules.specs.Groups.{no_group, group_at}
use Rattle.rules.specs.Switches.{on_setpoint, off_setpoint, no_limit, past_limits, limit_of, owner_of}
use Rattle.rules.specs.SetupWords.{direction_bit, preset_bit, no_programs, setup_errors, sf_bad, sf_judged, detector_bad, scalars_bad, preset_offset, setup_of, with_setup, reserved_status}
use Rattle.rules.specs.GroupWords.{type_bit, used_bit, group_word, group_control_bits, same_type, control_quantity, control_mode, group_of, dealt_up_to, dealt_to, lacks_first_cycle, owners_of, group_program_bad, group_bits, group_reserved, failing_group, group_errors, with_groups}
use Rattle.rules.specs.LimitWords.{control_detector, control_type, block_type, limit_block, action_of, setpoint_of, limit_of_block, unread, unassigned, limit_from, control_bad, advance_bad, block_pair_bad, setpoint_bad, block_length, length_bad, fifth_timed, length_bit, block_bits, limit_bits, limit_reserved, failing_limit, limit_errors, with_limits}
use Rattle.rules.specs.FileCycle.{file_errors, brought}
use Rattle.rules.specs.Nudge.{on_bit, off_bit, down_bit, nudge_output, nudge_pair, pair_missing, nudge_output_bad, nudged_if, result_bad, leaves_range, nudge_fails, nudge_setpoint_bad, nudged_limit, nudged_programming}
use Rattle.rules.specs.Calls.{Call, default_setup}
use Rattle.rules.specs.History.{programming_of}
use Rattle.rules.proofs.Laws.{modulo_below}
use Rattle.rules.proofs.Packing.{length_table}
use Rattle.rules.proofs.Trains.{good_pair, good_pulse}
use Rattle.rules.proofs.Programs.{always, with_setup_lem}

-- ---- Tests that fail

digit_off : (b : Bool) → digit b ≡ 0 → b ≡ false
digit_off true e = absurd (omega arith)
digit_off false e = refl

-- of a word that is 0, the lowest bit and the others
no_bits : (b : Bool) (bs : List Bool) → bits (b ∷ bs) ≡ 0 → (b ≡ false) × (bits bs ≡ 0)
no_bits b bs e = (digit_off b (omega arith), omega arith)

none_of_some : (n i : ℕ) (f : ℕ → Bool) → some_of n i f ≡ false → (k : ℕ) → i ≤ k → k < i + n → f k ≡ false
unfolding some_of
none_of_some zero i f e k a b = absurd (omega arith)
none_of_some (suc n) i f e k a b =
    let p = or_parts (f i) (some_of n (i + 1) f) e in
    elim (cases_eq k i) [ inl d ↦ ap f d ∙ p.0 | inr c ↦ none_of_some n (i + 1) f p.1 k (omega (arith, c)) (omega arith) ]

-- where the lowest with f is 0 there is none; where it is not, f holds there
none_lowest : (n i : ℕ) (f : ℕ → Bool) → 0 < i → lowest_of n i f ≡ 0 → (k : ℕ) → i ≤ k → k < i + n → f k ≡ false
unfolding lowest_of
none_lowest zero i f s e k a b = absurd (omega arith)
none_lowest (suc n) i f s e k a b =
    elim (cases_Bool (f i)) [
      | inl t ↦ let z : i ≡ 0 = rw t at e in absurd (omega arith)
      | inr t ↦ elim (cases_eq k i) [ inl d ↦ ap f d ∙ t | inr c ↦ none_lowest n (i + 1) f (omega arith) (rw t at e) k (omega (arith, c)) (omega arith) ]
    ]

lowest_has : (n i : ℕ) (f : ℕ → Bool) → (lowest_of n i f ≡ 0 → ⊥) → f (lowest_of n i f) ≡ true
unfolding lowest_of
lowest_has zero i f e = absurd (e refl)
lowest_has (suc n) i f e =
    elim (cases_Bool (f i)) [ inl t ↦ rw (t, t) | inr t ↦ rw t (lowest_has n (i + 1) f (rw t at e)) ]

-- a file with no failing block: each block's bits are 0
none_failing : (n : ℕ) (f : ℕ → ℕ) (reserved : Bool)
    → cond reserved reserved_status
    (cond (eqb (cond reserved 0 (lowest_of n 1 (λ k. not (eqb (f k) 0)))) 0) 0 (f (cond reserved 0 (lowest_of n 1 (λ k. not (eqb (f k) 0)))))) ≡ 0
    → (k : ℕ) → 1 ≤ k → k ≤ n → f k ≡ 0
none_failing n f true e k a b = absurd (omega arith)
none_failing n f false e k a b =
    elim (cases_Bool (eqb (lowest_of n 1 (λ k. not (eqb (f k) 0))) 0)) [
      | inl z ↦ eqb-true (f k) 0 (not-false (eqb (f k) 0) (none_lowest n 1 (λ k. not (eqb (f k) 0)) (lit< tt) (eqb-true _ 0 z) k a (omega arith)))
      | inr z ↦
          let h = lowest_has n 1 (λ k. not (eqb (f k) 0)) (eqb-false _ 0 z) in
          absurd (eqb-false _ 0 (not-true (eqb (f (lowest_of n 1 (λ k. not (eqb (f k) 0)))) 0) h) (rw z at e))
    ]

-- ---- Lists

module _ {A : Type 0} (P : A → Type 0) where
  all_table : (k i : ℕ) (f : ℕ → A) → ((j : ℕ) → i ≤ j → j < i + k → P (f j)) → All P (table k i f)
  unfolding table
  all_table zero i f h = All-nil P
  all_table (suc k) i f h = All-cons P (f i) (table k (i + 1) f) (h i (omega arith) (omega arith)) (all_table k (i + 1) f (λ j a b. h j (omega arith) (omega arith)))

  -- what holds of each element and of what is read past the end holds at every place
  at_each : (l : List A) (d : A) → P d → All P l → (n : ℕ) → P (get_or l n d)
  at_each l d last h n = elim (cases_lt n (length l)) [ inl i ↦ h n d i | inr i ↦ rw (get_or_past l n d i) last ]

-- ---- A pair, a group, a limit program, a setup in range

-- the divisor is stored less 1, so it is 1 to 63
pub record SetupWithin (u : Setup) : Type 0 where
  pub least : 2 ≤ scale_factor u
  pub most : scale_factor u ≤ 1024
  pub preset : u.preset < scale_factor u
  pub offset : u.offset < scale_factor u
  pub multiplier : u.scalars.multiplier ≤ 1100
  pub divider : u.scalars.divider ≤ 62
  pub code : u.scalars.code ≤ 3

pub record GroupWithin (sf : ℕ) (g : Group) : Type 0 where
  pub on : g.dwell.on < sf
  pub off : g.dwell.off < sf
  pub offset : g.offset < sf
  pub mode : g.mode ≤ 5
  pub unused : g.used ≡ false → g.mode ≡ 0

-- of a switch whose first pair is (on, off), where that pair is used: of a pulse "Q pulses of K counts, both at least 1" that its length takes, R ≥ Q × K + Q − 1;
-- of a timed one "T in ms, 1 to 9999"
abbrev pub SwitchWithin : ℕ → Switch → ℕ → ℕ → Type 0
SwitchWithin sf Unprogrammed on off = Unit {0}
SwitchWithin sf Normal on off = Unit {0}
SwitchWithin sf (Pulse q k) on off = used_pair on off ≡ true → (1 ≤ q) × (1 ≤ k) × (q * k + q - 1 ≤ ahead sf on off)
SwitchWithin sf (Timed t) on off = used_pair on off ≡ true → (1 ≤ t) × (t ≤ 9999)

pub record LimitWithin (sf : ℕ) (l : Limit) : Type 0 where
  pub setpoints : (k : ℕ) → get_or l.setpoints k 0 < sf
  pub size : (limit_switch l ≡ Unprogrammed → ⊥) → length l.setpoints ≡ 16
  pub kind : l.action.kind ≤ 3
  pub detector : l.detector ≤ 2
  pub onadvance : l.onadvance.tenths ≤ 999
  pub offadvance : l.offadvance.tenths ≤ 999
  pub switch : SwitchWithin sf (limit_switch l) (on_setpoint l 0) (off_setpoint l 0)

pub record Within (p : Programming) : Type 0 where
  pub setup : SetupWithin p.setup
  pub groups : (n : ℕ) → GroupWithin (scale_factor p.setup) (group_at p n)
  pub owners : (n : ℕ) → owner_of p n ≤ 6
  pub limits : (n : ℕ) → LimitWithin (scale_factor p.setup) (limit_of p n)

no_group_lem : (sf : ℕ) → 0 < sf → GroupWithin sf no_group
no_group_lem sf s = record { on = s; off = s; offset = s; mode = lit≤ tt; unused = λ _. refl }

no_limit_lem : (sf : ℕ) → 0 < sf → LimitWithin sf no_limit
unfolding switch_of
no_limit_lem sf s = record {
  setpoints = at_each (λ (x : ℕ). x < sf) (replicate 16 0) 0 s (All-replicate (λ (x : ℕ). x < sf) 16 0 s);
  size = λ _. refl;
  kind = lit≤ tt;
  detector = lit≤ tt;
  onadvance = lit≤ tt;
  offadvance = lit≤ tt;
  switch = tt;
}

past_limits_lem : (sf : ℕ) → 0 < sf → LimitWithin sf past_limits
unfolding switch_of
past_limits_lem sf s =
    record { setpoints = λ k. s; size = λ e. absurd (e refl); kind = lit≤ tt; detector = lit≤ tt; onadvance = lit≤ tt; offadvance = lit≤ tt; switch = tt }

no_limits : (sf : ℕ) → 0 < sf → (n : ℕ) → LimitWithin sf (get_or (replicate 32 no_limit) n past_limits)
no_limits sf s = at_each (LimitWithin sf) (replicate 32 no_limit) past_limits (past_limits_lem sf s) (All-replicate (LimitWithin sf) 32 no_limit (no_limit_lem sf s))

no_programs_lem : (u : Setup) → SetupWithin u → Within (no_programs u)
no_programs_lem u k =
    let s : 0 < scale_factor u = omega arith in
    let none = no_group_lem (scale_factor u) s in
    record {
      setup = k;
      groups = at_each (GroupWithin (scale_factor u)) (replicate 6 no_group) no_group none (All-replicate (GroupWithin (scale_factor u)) 6 no_group none);
      owners = at_each (λ (x : ℕ). x ≤ 6) (replicate 32 0) 0 (lit≤ tt) (All-replicate (λ (x : ℕ). x ≤ 6) 32 0 (lit≤ tt));
      limits = no_limits (scale_factor u) s;
    }

-- ---- The cycles

record SetupWords (file : List ℕ) : Type 0 where
  least : 2 ≤ word file 1
  most : word file 1 ≤ 1024
  preset : word file 2 < word file 1
  offset : word file 3 < word file 1
  multiplier : word file 8 ≤ 1100
  divided : word file 9 ≡ 0 → ⊥
  divisor : word file 9 ≤ 63
  code : word file 10 ≤ 3

setup_words_lem : (file : List ℕ) → eqb (setup_errors file) 0 ≡ true → SetupWords file
unfolding setup_errors sf_bad sf_judged scalars_bad
setup_words_lem file e =
    let z : setup_errors file ≡ 0 = eqb-true _ 0 e in
    let scalars : Bool = scalars_bad (word file 8) (word file 9) (word file 10) in
    let md1 : Bool = detector_bad (word file 4) (word file 5) in
    let md2 : Bool = detector_bad (word file 6) (word file 7) in
    let low2 : Bool = leb (sf_judged (word file 1)) (word file 2) in
    let low3 : Bool = leb (sf_judged (word file 1)) (word file 3) in
    let a = no_bits (sf_bad (word file 1)) (low2 ∷ low3 ∷ md1 ∷ md2 ∷ scalars ∷ []) (omega arith) in
    let b = no_bits low2 (low3 ∷ md1 ∷ md2 ∷ scalars ∷ []) a.1 in
    let c = no_bits low3 (md1 ∷ md2 ∷ scalars ∷ []) b.1 in
    let d = no_bits md2 (scalars ∷ []) (no_bits md1 (md2 ∷ scalars ∷ []) c.1).1 in
    let f = or_parts (ltb (word file 1) 2) (ltb 1024 (word file 1)) a.0 in
    let h = or_parts (ltb 1100 (word file 8) || eqb (word file 9) 0 || ltb 63 (word file 9)) (ltb 3 (word file 10)) (no_bits scalars [] d.1).0 in
    let i = or_parts (ltb 1100 (word file 8) || eqb (word file 9) 0) (ltb 63 (word file 9)) h.0 in
    let j = or_parts (ltb 1100 (word file 8)) (eqb (word file 9) 0) i.0 in
    record {
      least = ltb-false (word file 1) 2 f.0;
      most = ltb-false 1024 (word file 1) f.1;
      preset = leb-false (word file 1) (word file 2) (rw a.0 at b.0);
      offset = leb-false (word file 1) (word file 3) (rw a.0 at c.0);
      multiplier = ltb-false 1100 (word file 8) j.0;
      divided = eqb-false (word file 9) 0 j.1;
      divisor = ltb-false 63 (word file 9) i.1;
      code = ltb-false 3 (word file 10) h.1;
    }

setup_range : (file : List ℕ) (raw : ℕ) → eqb (setup_errors file) 0 ≡ true → SetupWithin (setup_of file raw)
unfolding setup_of preset_offset
setup_range file raw e =
    let w = setup_words_lem file e in
    let l = w.least in
    let h = w.most in
    let f = w.preset in
    let o = w.offset in
    let d = w.divisor in
    let s : word file 1 - 1 + 1 ≡ word file 1 = omega arith in
    record {
      least = omega arith;
      most = omega arith;
      preset = omega arith;
      offset =
          elim (cases_Bool (bit (word file 0) preset_bit)) [
            | inl q ↦ rw (q, s) (rw s at (modulo_below (sub_ℕ (word file 2) (scaled_position (word file 1) (turned (bit (word file 0) direction_bit) raw))) (word file 1 - 1)))
            | inr q ↦ rw (q, s) o
          ];
      multiplier = w.multiplier;
      divider = omega arith;
      code = w.code;
    }

-- "1 SF 2 to 1024, .. 9 divisor 1 to 63": both are stored less 1, and read back as the file has them
pub stored_less_1 : (file : List ℕ) (raw : ℕ) → eqb (setup_errors file) 0 ≡ true
    → (scale_factor (setup_of file raw) ≡ word file 1) × (divisor (setup_of file raw).scalars ≡ word file 9)
unfolding setup_of
stored_less_1 file raw e =
    let w = setup_words_lem file e in
    let l = w.least in
    let d = w.divided in
    (omega arith, omega (arith, d))

keep_setup : (p : Programming) (file : List ℕ) (raw : ℕ) → eqb (setup_errors file) 0 ≡ true → Within p → Within (with_setup p (setup_of file raw))
keep_setup p file raw e k =
    let u : Setup = setup_of file raw in
    let r = setup_range file raw e in
    with_setup_lem Within p u (no_programs_lem u r)
    (λ same. record {
      setup = r;
      groups = subst (λ (t : ℕ). (n : ℕ) → GroupWithin (t + 1) (group_at p n)) same k.groups;
      owners = k.owners;
      limits = subst (λ (t : ℕ). (n : ℕ) → LimitWithin (t + 1) (limit_of p n)) same k.limits;
    })

-- a group block that passes
program_mode : (model : Model) (file : List ℕ) (n : ℕ) → group_program_bad model file n ≡ false → control_mode (group_word file n 0) ≤ 5
unfolding group_program_bad
program_mode model file n e =
    let w : ℕ = group_word file n 0 in
    let t : IoType = io_type_of (bit w type_bit) in
    let quantity : Bool = eqb (control_quantity w) 0 || ltb 16 (control_quantity w) in
    let mode : Bool = ltb 5 (control_mode w) in
    let other : Bool = other_bit group_control_bits w in
    let lacks : Bool = lacks_first_cycle model w in
    let a = or_parts (quantity || mode || other || lacks) (ltb (io_count model t) (dealt_up_to file t n)) e in
    let b = or_parts (quantity || mode || other) lacks a.0 in
    let c = or_parts (quantity || mode) other b.0 in
    ltb-false 5 (control_mode w) (or_parts quantity mode c.0).1

block_group : (model : Model) (sf : ℕ) (file : List ℕ) (n : ℕ) → 0 < sf → group_bits model sf file n ≡ 0 → GroupWithin sf (group_of file n)
unfolding group_bits group_of
block_group model sf file n s e =
    elim (cases_Bool (bit (group_word file n 0) used_bit)) [
      | inl t ↦
          let pair : Bool = pair_bad sf (group_word file n 1) (group_word file n 2) in
          let a = no_bits (leb sf (group_word file n 3)) (group_program_bad model file n ∷ pair ∷ []) (rw t at e) in
          let b = no_bits (group_program_bad model file n) (pair ∷ []) a.1 in
          let d = good_pair sf (group_word file n 1) (group_word file n 2) (no_bits pair [] b.1).0 in
          rw t (record { on = d.0; off = d.1; offset = leb-false sf (group_word file n 3) a.0; mode = program_mode model file n b.0; unused = λ f. absurd (true≢false f) })
      | inr t ↦ rw t (no_group_lem sf s)
    ]

-- an output is dealt to no group, or to one of those that are there
dealt_below : (t : IoType) (gs : List Group) (n i : ℕ) → 0 < n → dealt_to t gs n i < n + length gs
unfolding dealt_to
dealt_below t [] n i s = omega arith
dealt_below t (x ∷ gs) n i s =
    let f = dealt_below t gs (n + 1) in
    elim (cases_Bool (x.used && same_type t (group_type x))) [
      | inl u ↦ elim (cases_Bool (ltb i x.quantity)) [ inl q ↦ rw (u, q) (omega arith) | inr q ↦ rw (u, q) (omega (arith, f (i - x.quantity) (omega arith))) ]
      | inr u ↦ rw u (omega (arith, f i (omega arith)))
    ]

dealt_six : (file : List ℕ) (n : ℕ) → get_or (owners_of (table 6 1 (group_of file))) n 0 ≤ 6
unfolding owners_of
dealt_six file =
    at_each (λ (x : ℕ). x ≤ 6) (owners_of (table 6 1 (group_of file))) 0 (lit≤ tt)
    (All-append (λ (x : ℕ). x ≤ 6) _ _ (all_table (λ (x : ℕ). x ≤ 6) 16 0 _ (λ j _ _. below Real j)) (all_table (λ (x : ℕ). x ≤ 6) 16 0 _ (λ j _ _. below Virtual j)))
  where
    below : (t : IoType) (i : ℕ) → dealt_to t (table 6 1 (group_of file)) 1 i ≤ 6
    below t i = omega (arith, dealt_below t (table 6 1 (group_of file)) 1 i (lit< tt), length_table 6 1 (group_of file))

keep_group : (model : Model) (p : Programming) (file : List ℕ) → eqb (group_errors model (scale_factor p.setup) file) 0 ≡ true → Within p
    → Within (with_groups p (table 6 1 (group_of file)))
unfolding with_groups group_errors failing_group
keep_group model p file e k =
    let sf : ℕ = scale_factor p.setup in
    let s : 0 < sf = omega arith in
    let z = none_failing 6 (group_bits model sf file) (group_reserved file) (eqb-true _ 0 e) in
    record {
      setup = k.setup;
      groups = at_each (GroupWithin sf) _ no_group (no_group_lem sf s) (all_table (GroupWithin sf) 6 1 (group_of file) (λ j a b. block_group model sf file j s (z j a (omega arith))));
      owners = dealt_six file;
      limits = no_limits sf s;
    }

-- a limit block that passes: of a normal switch each of the eight pairs, of the others the first
block_pair : (sf : ℕ) (b : List ℕ) (k : ℕ) → setpoint_bad sf b ≡ false → eqb (block_type b) 0 ≡ true → k < 16 → word b (k + 3) < sf
unfolding setpoint_bad block_pair_bad
block_pair sf b k e t l =
    let j : ℕ = k / 2 in
    let h = good_pair sf (word b (2 * j + 3)) (word b (2 * j + 4)) (none_of_some 8 0 (block_pair_bad sf b) (rw t at e) j (omega arith) (omega arith)) in
    elim (cases_eq (k % 2) 0) [
      | inl r ↦ let i : k + 3 ≡ 2 * j + 3 = omega arith in rw i h.0
      | inr r ↦ let i : k + 3 ≡ 2 * j + 4 = omega (arith, r) in rw i h.1
    ]

first_pair : (sf : ℕ) (b : List ℕ) (k : ℕ) → setpoint_bad sf b ≡ false → eqb (block_type b) 0 ≡ false → k < 2 → word b (k + 3) < sf
unfolding setpoint_bad block_pair_bad
first_pair sf b zero e t l = (good_pair sf (word b 3) (word b 4) (rw t at e)).0
first_pair sf b (suc zero) e t l = (good_pair sf (word b 3) (word b 4) (rw t at e)).1
first_pair sf b (suc (suc k)) e t l = absurd (omega arith)

block_setpoint : (sf : ℕ) (b : List ℕ) (k : ℕ) → 0 < sf → setpoint_bad sf b ≡ false → k < 16 → setpoint_of b k < sf
block_setpoint sf b k s e l =
    elim (cases_Bool (eqb (block_type b) 0)) [
      | inl t ↦ rw t (block_pair sf b k e t l)
      | inr t ↦ elim (cases_Bool (ltb k 2)) [ inl i ↦ rw (t, i) (first_pair sf b k e t (ltb-true k 2 i)) | inr i ↦ rw (t, i) s ]
    ]

record BlockGood (sf : ℕ) (fifth : Bool) (b : List ℕ) : Type 0 where
  detector : control_detector (word b 0) ≡ 3 → ⊥
  onadvance : advance_bad (word b 1) ≡ false
  offadvance : advance_bad (word b 2) ≡ false
  setpoints : setpoint_bad sf b ≡ false
  length : length_bad sf fifth false b ≡ false

block_good : (sf : ℕ) (fifth : Bool) (b : List ℕ) → block_bits sf fifth b ≡ 0 → BlockGood sf fifth b
unfolding block_bits control_bad length_bit
block_good sf fifth b e =
    let rest : List Bool = cond (eqb (block_type b) 3) [] (setpoint_bad sf b ∷ length_bit sf fifth b ∷ []) in
    let advances : Bool = advance_bad (word b 1) || advance_bad (word b 2) in
    let a = no_bits false (control_bad (word b 0) ∷ advances ∷ rest) e in
    let d = no_bits (control_bad (word b 0)) (advances ∷ rest) a.1 in
    let c = no_bits advances rest d.1 in
    let f = or_parts (eqb (control_detector (word b 0)) 3) (eqb (control_type (word b 0)) 3) (or_parts _ _ d.0).0 in
    let h = or_parts (advance_bad (word b 1)) (advance_bad (word b 2)) c.0 in
    let i = no_bits (setpoint_bad sf b) (length_bit sf fifth b ∷ []) (rw f.1 at c.1) in
    record {
      detector = eqb-false (control_detector (word b 0)) 3 f.0;
      onadvance = h.0;
      offadvance = h.1;
      setpoints = i.0;
      length = rw i.0 at (no_bits (length_bit sf fifth b) [] i.1).0;
    }

-- a duration
good_time : (t : ℕ) → (eqb t 0 || ltb 9999 t) ≡ false → (1 ≤ t) × (t ≤ 9999)
good_time t e =
    let a = or_parts (eqb t 0) (ltb 9999 t) e in
    let c = eqb-false t 0 a.0 in
    (omega (arith, c), ltb-false 9999 t a.1)

block_kind : (b : List ℕ) → (action_of b).kind ≤ 3
unfolding action_of
block_kind b =
    elim (cases_Bool (eqb (block_type b) 0)) [
      | inl t ↦ rw t (lit≤ tt)
      | inr t ↦ elim (cases_Bool (eqb (block_type b) 1)) [
        | inl u ↦ rw (t, u) (lit≤ tt)
        | inr u ↦ elim (cases_Bool (eqb (block_type b) 2)) [ inl v ↦ rw (t, u, v) (lit≤ tt) | inr v ↦ rw (t, u, v) (lit≤ tt) ]
      ]
    ]

block_switch : (sf : ℕ) (fifth : Bool) (b : List ℕ) → length_bad sf fifth false b ≡ false
    → SwitchWithin sf (switch_of (action_of b)) (setpoint_of b 0) (setpoint_of b 1)
unfolding length_bad action_of switch_of
block_switch sf fifth b e =
    elim (cases_Bool (eqb (block_type b) 0)) [
      | inl t ↦ rw t tt
      | inr t ↦ elim (cases_Bool (eqb (block_type b) 1)) [
        | inl u ↦ rw (t, u) (λ used. good_pulse (block_length sf b) (word b 5) (word b 6) (rw (u, used) at e))
        | inr u ↦ elim (cases_Bool (eqb (block_type b) 2)) [
          | inl v ↦ rw (t, u, v) (λ used. good_time (word b 5) (rw used at (or_parts fifth _ (rw (u, v) at e)).1))
          | inr v ↦ rw (t, u, v) tt
        ]
      ]
    ]

block_limit : (model : Model) (p : Programming) (file : List ℕ) (n : ℕ) → 0 < scale_factor p.setup → limit_bits model p file n ≡ 0
    → LimitWithin (scale_factor p.setup) (limit_from model file n)
unfolding limit_bits limit_from limit_of_block advance_bad table
block_limit model p file n s e =
    let sf : ℕ = scale_factor p.setup in
    let b : List ℕ = limit_block file n in
    elim (cases_Bool (unread model file n)) [
      | inl t ↦ rw t (no_limit_lem sf s)
      | inr t ↦ elim (cases_Bool (unassigned p n)) [
        | inl o ↦ let z : ◌≡◌ {A = ℕ} 1 0 = rw (t, o) at e in absurd (omega arith)
        | inr o ↦
            let g = block_good sf (fifth_timed file n) b (rw (t, o) at e) in
            rw t (record {
              setpoints = at_each (λ (x : ℕ). x < sf) (table 16 0 (setpoint_of b)) 0 s (all_table (λ (x : ℕ). x < sf) 16 0 (setpoint_of b) (λ j _ i. block_setpoint sf b j s g.setpoints (omega arith)));
              size = λ _. length_table 16 0 (setpoint_of b);
              kind = block_kind b;
              detector = let d = g.detector in omega (arith, d);
              onadvance = ltb-false 999 (nat_abs (signed_word (word b 1))) g.onadvance;
              offadvance = ltb-false 999 (nat_abs (signed_word (word b 2))) g.offadvance;
              switch = block_switch sf (fifth_timed file n) b g.length;
            })
      ]
    ]

keep_limit : (model : Model) (p : Programming) (file : List ℕ) → eqb (limit_errors model p file) 0 ≡ true → Within p
    → Within (with_limits p (table 32 1 (limit_from model file)))
unfolding with_limits limit_errors failing_limit
keep_limit model p file e k =
    let sf : ℕ = scale_factor p.setup in
    let s : 0 < sf = omega arith in
    let z = none_failing 32 (limit_bits model p file) (limit_reserved file) (eqb-true _ 0 e) in
    record {
      setup = k.setup;
      groups = k.groups;
      owners = k.owners;
      limits = at_each (LimitWithin sf) _ past_limits (past_limits_lem sf s) (all_table (LimitWithin sf) 32 1 (limit_from model file) (λ j a b. block_limit model p file j s (z j a (omega arith))));
    }

-- ---- The nudge

-- a pair that may be nudged to (x, y): it was used, and the result passed the checks
record PairNudged (sf : ℕ) (l : Limit) (k x y : ℕ) : Type 0 where
  used : used_pair (on_setpoint l k) (off_setpoint l k) ≡ true
  on : x < sf
  off : y < sf
  passes : nudge_fails sf (limit_switch l) x y ≡ false

abbrev on_to : Limit → ℕ → ℕ → ℕ
on_to l k w = nudged_if (bit w on_bit) (bit w down_bit) (on_setpoint l k)

abbrev off_to : Limit → ℕ → ℕ → ℕ
off_to l k w = nudged_if (bit w off_bit) (bit w down_bit) (off_setpoint l k)

nudged_pair : (sf : ℕ) (l : Limit) (k w : ℕ) → nudge_setpoint_bad sf l k w ≡ false → PairNudged sf l k (on_to l k w) (off_to l k w)
unfolding nudge_setpoint_bad result_bad
nudged_pair sf l k w e =
    let on : ℕ = on_to l k w in
    let off : ℕ = off_to l k w in
    let unused : Bool = not (used_pair (on_setpoint l k) (off_setpoint l k)) in
    let leaves : Bool = bit w on_bit && leaves_range sf (bit w down_bit) (on_setpoint l k) in
    let leaves' : Bool = bit w off_bit && leaves_range sf (bit w down_bit) (off_setpoint l k) in
    let a = or_parts (unused || leaves || leaves') (result_bad sf (limit_switch l) on off) e in
    let b = or_parts (not (used_pair on off) || pair_bad sf on off) (nudge_fails sf (limit_switch l) on off) a.1 in
    let c = good_pair sf on off (or_parts (not (used_pair on off)) (pair_bad sf on off) b.0).1 in
    record {
      used = not-false (used_pair (on_setpoint l k) (off_setpoint l k)) (or_parts unused leaves (or_parts (unused || leaves) leaves' a.0).0).0;
      on = c.0;
      off = c.1;
      passes = b.1;
    }

-- the first pair after a nudge of it
first_set : (l : List ℕ) (on off : ℕ) → length l ≡ 16 → (get_or (set (set l 0 on) 1 off) 0 0 ≡ on) × (get_or (set (set l 0 on) 1 off) 1 0 ≡ off)
first_set [] on off e = absurd (omega arith)
first_set (x ∷ []) on off e = absurd (omega arith)
first_set (x ∷ y ∷ l) on off e = (refl, refl)

module _ (sf : ℕ) (l : Limit) (w : ℕ) (k : LimitWithin sf l) (present : pair_missing (limit_switch l) (nudge_pair w) ≡ false) (h : PairNudged sf l (nudge_pair w) (on_to l (nudge_pair w) w) (off_to l (nudge_pair w) w)) where
  -- of a pulse or timed switch the nudged pair is the first
  first_nudged : (Q : ℕ → ℕ → Type 0) → (limit_switch l ≡ Unprogrammed → ⊥) → eqb (nudge_pair w) 0 ≡ true → Q (on_to l 0 w) (off_to l 0 w)
      → Q (on_setpoint (nudged_limit l w) 0) (off_setpoint (nudged_limit l w) 0)
  unfolding nudged_limit
  first_nudged Q some first a =
      let z : nudge_pair w ≡ 0 = eqb-true (nudge_pair w) 0 first in
      let f = first_set l.setpoints (on_to l 0 w) (off_to l 0 w) (k.size some) in
      rw (z, f.0, f.1) a

  nudged_switch : SwitchWithin sf (limit_switch l) (on_setpoint (nudged_limit l w) 0) (off_setpoint (nudged_limit l w) 0)
  nudged_switch = go (limit_switch l) refl present h.passes k.switch
    where
      go : (s : Switch) → limit_switch l ≡ s → pair_missing s (nudge_pair w) ≡ false → nudge_fails sf s (on_to l (nudge_pair w) w) (off_to l (nudge_pair w) w) ≡ false
          → SwitchWithin sf s (on_setpoint l 0) (off_setpoint l 0) → SwitchWithin sf s (on_setpoint (nudged_limit l w) 0) (off_setpoint (nudged_limit l w) 0)
      go Unprogrammed e m f b = tt
      go Normal e m f b = tt
      go (Pulse q c) e m f b =
          let first = not-false (eqb (nudge_pair w) 0) m in
          let z : nudge_pair w ≡ 0 = eqb-true (nudge_pair w) 0 first in
          first_nudged (SwitchWithin sf (Pulse q c)) (λ o. let d : ◌≡◌ {A = ℕ} 0 1 = cc in omega arith) first
          (λ _. good_pulse (ahead sf (on_to l 0 w) (off_to l 0 w)) q c (rw z at f))
      go (Timed t) e m f b =
          let first = not-false (eqb (nudge_pair w) 0) m in
          let z : nudge_pair w ≡ 0 = eqb-true (nudge_pair w) 0 first in
          λ _. b (rw z at h.used)

  nudged_within : 0 < sf → LimitWithin sf (nudged_limit l w)
  unfolding nudged_limit
  nudged_within s =
      let j : ℕ = nudge_pair w in
      let P : ℕ → Type 0 = λ x. x < sf in
      record {
        setpoints = at_each P _ 0 s
            (All-set P (set l.setpoints (2 * j) (on_to l j w)) (2 * j + 1) (off_to l j w) h.off
            (All-set P l.setpoints (2 * j) (on_to l j w) h.on (All-from_get_or P l.setpoints 0 (λ n _. k.setpoints n))));
        size = λ e. length-set (set l.setpoints (2 * j) (on_to l j w)) (2 * j + 1) (off_to l j w) ∙ length-set l.setpoints (2 * j) (on_to l j w) ∙ k.size e;
        kind = k.kind;
        detector = k.detector;
        onadvance = k.onadvance;
        offadvance = k.offadvance;
        switch = nudged_switch;
      }

keep_nudge : (p : Programming) (w : ℕ)
    → (not (nudge_output_bad p w) && not (nudge_setpoint_bad (scale_factor p.setup) (limit_of p (nudge_output w)) (nudge_pair w) w)) ≡ true
    → Within p → Within (nudged_programming p w)
unfolding nudged_programming with_limits nudge_output_bad
keep_nudge p w e k =
    let sf : ℕ = scale_factor p.setup in
    let s : 0 < sf = omega arith in
    let l : Limit = limit_of p (nudge_output w) in
    let a = and_parts (not (nudge_output_bad p w)) (not (nudge_setpoint_bad sf l (nudge_pair w) w)) e in
    let h = nudged_pair sf l (nudge_pair w) w (not-true (nudge_setpoint_bad sf l (nudge_pair w) w) a.1) in
    let missing : Bool = pair_missing (limit_switch l) (nudge_pair w) in
    let none : Bool = not (bit w on_bit || bit w off_bit) in
    let b = or_parts (missing || none || bit w 11 || bit w 12) (bit w 13) (not-true (nudge_output_bad p w) a.0) in
    let c = or_parts (missing || none || bit w 11) (bit w 12) b.0 in
    let d = or_parts (missing || none) (bit w 11) c.0 in
    record {
      setup = k.setup;
      groups = k.groups;
      owners = k.owners;
      limits = at_each (LimitWithin sf) _ past_limits (past_limits_lem sf s)
          (All-set (LimitWithin sf) p.limits (nudge_output w) (nudged_limit l w) (nudged_within sf l w (k.limits (nudge_output w)) (or_parts missing none d.0).0 h s)
          (All-from_get_or (LimitWithin sf) p.limits past_limits (λ n _. k.limits n)));
    }

keep_file : (kind : FileCycle) (g : Configuration) (file : List ℕ) → eqb (file_errors kind g file) 0 ≡ true → Within g.programming → Within (brought kind g file)
unfolding file_errors brought
keep_file SetupCycle g file e k = keep_setup g.programming file g.raw e k
keep_file GroupCycle g file e k = keep_group (model_in g) g.programming file e k
keep_file LimitCycle g file e k = keep_limit (model_in g) g.programming file e k

pub ranges : (model : Model) (l : List Call) → Within (programming_of model l)
unfolding default_setup
ranges model l = always Within (record {
  start = no_programs_lem default_setup (record {
    least = lit≤ tt;
    most = lit≤ tt;
    preset = lit< tt;
    offset = lit< tt;
    multiplier = lit≤ tt;
    divider = lit≤ tt;
    code = lit≤ tt;
  });
  file = keep_file;
  nudge = keep_nudge;
}) model l
