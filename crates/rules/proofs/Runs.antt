-- Runs computed of the history's definitions, whole cards where the run is short; the theorem makes them runs of the card. They rule out that both sides
-- are dark, and show what 01 names as easy to mistake. Assumes nothing.
use Prim.Native.Nat.{ℕ, zero, suc, ◌+◌, ◌*◌, ◌-◌, ◌/◌, ◌%◌}
use mathlib.Core.Path.{◌≡◌, refl, ◌∙◌}
use mathlib.Core.Bool.{Bool, true, false, cond, ◌&&◌}
use mathlib.Core.List.{List, [], ◌∷◌, ◌++◌, map}
use lib.ListN.{replicate, drop}
use lib.Dec.{ltb, leb}
use lib.IntN.{pos}
use Rattle.std.proofs.lemmas.Bool.{and_parts}
use Rattle.rules.specs.declared.Model.TheVariants.{M8513}
use Rattle.rules.specs.declared.Mode.{Mode}
use Rattle.rules.specs.declared.Mode.TheVariants.{Mode5}
use Rattle.rules.specs.declared.Module.{Module}
use Rattle.rules.specs.declared.FileCycle.TheVariants.{SetupCycle, GroupCycle, LimitCycle}
use Rattle.rules.specs.declared.Answer.{Answer}
use Rattle.rules.specs.Words.{stored_at}
use Rattle.rules.specs.Variants.{model_known, model_of}
use Rattle.rules.specs.Calls.{Call, Step, FileCall, NudgeCall}
use Rattle.rules.specs.Card.{powered_up, fresh_module}
use Rattle.rules.specs.Run.{answers}
use Rattle.rules.specs.History.{GroupStep, past_of, open_at, c_of, tenths_at, expected_answers}
use Rattle.rules.proofs.Computes.{history, machine}
use Rattle.rules.proofs.Theorem.{every_answer}

-- ---- Whole cards

-- a step at a raw position with real input currents and virtual inputs; with real inputs none
abbrev pub stepped : ℕ → ℕ → ℕ → Call
stepped raw currents inputs = Step (record { raw = raw; currents = currents; virtuals = inputs; inputson = 0; inputsoff = 0; realon = 0; realoff = 0; virtualon = 0; virtualoff = 0 })

abbrev pub at : ℕ → ℕ → Call
at raw inputs = stepped raw 0 inputs

-- M0 with a command word for the setup, SF 1024 and active states 1, and the group blocks from the first on
pub m0 : ℕ → List ℕ → List ℕ
m0 command blocks =
    stored_at 0 (command ∷ 1024 ∷ 0 ∷ 0 ∷ 0 ∷ 0 ∷ 0 ∷ 0 ∷ 1 ∷ 1 ∷ 0 ∷ 0xffff ∷ []) (stored_at 20 (0x8000 ∷ 0 ∷ blocks) (replicate 120 0))

-- M1 with the first words of outputs' blocks
pub m1 : List (ℕ × List ℕ) → List ℕ
m1 [] = stored_at 0 (0x8000 ∷ []) (replicate 650 0)
m1 (b ∷ blocks) = stored_at (19 * b.0 - 17) b.1 (m1 blocks)

-- the three cycles, then the steps
abbrev pub with : List ℕ → List ℕ → List Call → List Call
with file limits steps = FileCall SetupCycle file ∷ FileCall GroupCycle file ∷ FileCall LimitCycle limits ∷ steps

-- a virtual group 1 with output 17: its control word, dwell and offset
abbrev pub one_group : ℕ → ℕ → ℕ → ℕ → List ℕ
one_group control on off offset = m0 0x8001 (control ∷ on ∷ off ∷ offset ∷ [])

abbrev pub mode4 : List ℕ
mode4 = one_group 0xC401 0 50 0

-- a normal switch of output 17 that holds at 0 to 1022
abbrev pub whole : List ℕ
whole = m1 ((17, 0 ∷ 0 ∷ 0 ∷ 0 ∷ 1023 ∷ []) ∷ [])

-- A run of a module, and what it answers to its steps: 11 or 0, the real and the virtual outputs
pub record CardRun : Type 0 where
  pub number : ℕ
  pub calls : List Call
  pub says : List (ℕ × ℕ × ℕ)

abbrev pub shown : Answer → ℕ × ℕ × ℕ
shown a = (cond a.refused 11 0, a.real, a.virtuals)

-- what a step shows that lights no real output, and output 17 or not
abbrev pub lit : ℕ × ℕ × ℕ
lit = (0, 0, 1)

abbrev pub dark : ℕ × ℕ × ℕ
dark = (0, 0, 0)

pub card_runs : List CardRun
card_runs =
    -- h) Mode 4, dwell 0/50, positions 1000, 10, 20, 60: edge at 20 opens steps 3, 4
    record { number = 8513; calls = with mode4 whole (at 1000 0 ∷ at 10 0 ∷ at 20 1 ∷ at 60 1 ∷ []); says = dark ∷ dark ∷ lit ∷ lit ∷ [] }
    -- i) As h, edge at 1000, held: closed
    ∷ record { number = 8513; calls = with mode4 whole (at 1000 1 ∷ at 10 1 ∷ at 20 1 ∷ at 60 1 ∷ []); says = dark ∷ dark ∷ dark ∷ dark ∷ [] }
    -- the first step carries an edge and a dwell: open at once
    ∷ record { number = 8511; calls = with mode4 whole (at 10 1 ∷ at 60 0 ∷ []); says = lit ∷ lit ∷ [] }
    -- Mode 1, dwell 0/50, preset 100, a switch at 100/106: the first edge, at 10, is taken; the second, at 20, is not, no dwell having begun since; the
    -- dwell begins at 960, where the position is 26, and the edge at 970 is taken
    ∷ record {
      number = 8513;
      calls = with (one_group 0xC101 0 50 100) (m1 ((17, 0 ∷ 0 ∷ 0 ∷ 100 ∷ 106 ∷ []) ∷ [])) (at 5 0 ∷ at 10 1 ∷ at 15 0 ∷ at 20 1 ∷ at 960 0 ∷ at 970 1 ∷ []);
      says = dark ∷ lit ∷ lit ∷ dark ∷ dark ∷ lit ∷ [];
    }
    -- a timed switch of 1 ms at 0/50 in Mode 0: five steps from where its pair begins to hold, and again after it has not held
    ∷ record {
      number = 8513;
      calls = with (one_group 0xC001 0 0 0) (m1 ((17, 2 ∷ 0 ∷ 0 ∷ 0 ∷ 50 ∷ 1 ∷ []) ∷ [])) (at 10 0 ∷ at 11 0 ∷ at 12 0 ∷ at 13 0 ∷ at 14 0 ∷ at 15 0 ∷ at 60 0 ∷ at 20 0 ∷ []);
      says = lit ∷ lit ∷ lit ∷ lit ∷ lit ∷ dark ∷ dark ∷ lit ∷ [];
    }
    -- a pulse switch as in e), in Mode 0 with the group offset 5
    ∷ record {
      number = 8513;
      calls = with (one_group 0xC001 0 0 5) (m1 ((17, 1 ∷ 0 ∷ 0 ∷ 100 ∷ 120 ∷ 3 ∷ 4 ∷ []) ∷ [])) (at 94 0 ∷ at 95 0 ∷ at 98 0 ∷ at 99 0 ∷ at 103 0 ∷ at 114 0 ∷ at 115 0 ∷ []);
      says = dark ∷ lit ∷ lit ∷ dark ∷ lit ∷ lit ∷ dark ∷ [];
    }
    -- an open Mode 4 group: a refused group cycle (offset 1024; the acknowledge was cleared before) is no start, so it stays open without an edge; a raw over
    -- 1023 is answered 11, and so is the next step; a nudge with bit 14 drops the fault, and the group is closed, since 11 was a start; an edge in the dwell opens it
    ∷ record {
      number = 8513;
      calls = with mode4 whole
          (at 10 1 ∷ FileCall GroupCycle (replicate 120 0) ∷ FileCall GroupCycle (one_group 0xC401 0 50 1024) ∷ at 20 0 ∷ at 5000 1 ∷ at 30 1 ∷ NudgeCall 0xC000 ∷ at 60 0 ∷ at 10 1 ∷ []);
      says = lit ∷ lit ∷ (11, 0, 0) ∷ (11, 0, 0) ∷ dark ∷ lit ∷ [];
    }
    -- Two groups, real outputs. Group 1 is real, in Mode 3, with outputs 1 and 2 (0/1023 and 500/600), its input 1 active in steps 2, 3 and 5 to 8. Group 2 is
    -- virtual, in Mode 2, with output 17 (100/200), dwell 0/50 and preset 100: an edge of input 18 at 510 is taken and opens; at 430 its position is 20, so that a
    -- dwell begins and closes; the edge at 530 is taken again
    ∷ record {
      number = 8513;
      calls = with (m0 0x8001 (0x8302 ∷ 0 ∷ 0 ∷ 0 ∷ 0xC201 ∷ 0 ∷ 50 ∷ 100 ∷ []))
          (m1 ((1, 0 ∷ 0 ∷ 0 ∷ 0 ∷ 1023 ∷ []) ∷ (2, 0 ∷ 0 ∷ 0 ∷ 500 ∷ 600 ∷ []) ∷ (17, 0 ∷ 0 ∷ 0 ∷ 100 ∷ 200 ∷ []) ∷ []))
          (stepped 10 0 0 ∷ stepped 500 1 0 ∷ stepped 510 1 2 ∷ stepped 560 0 0 ∷ stepped 620 1 0 ∷ stepped 430 1 0 ∷ stepped 520 1 0 ∷ stepped 530 1 2 ∷ []);
      says = dark ∷ (0, 3, 0) ∷ (0, 3, 1) ∷ lit ∷ (0, 1, 0) ∷ (0, 1, 0) ∷ (0, 3, 0) ∷ (0, 3, 1) ∷ [];
    }
    -- Independent Mode on an 8512, the group cycle answered 5: outputs 1, 2 and 17 at 0/100, a real one with its own input active; the LS Enable of output 1 is
    -- ignored; output 9 is missing
    ∷ record {
      number = 8512;
      calls = with (m0 0x8201 (0x8001 ∷ []))
          (m1 ((1, 0x8000 ∷ 0 ∷ 0 ∷ 0 ∷ 100 ∷ []) ∷ (2, 0 ∷ 0 ∷ 0 ∷ 0 ∷ 100 ∷ []) ∷ (9, 0 ∷ 0 ∷ 0 ∷ 0 ∷ 100 ∷ []) ∷ (17, 0 ∷ 0 ∷ 0 ∷ 0 ∷ 100 ∷ []) ∷ []))
          (stepped 10 0x0102 0 ∷ stepped 10 0x0101 0 ∷ stepped 99 0 0 ∷ stepped 100 0x0103 0 ∷ []);
      says = (0, 2, 1) ∷ (0, 1, 1) ∷ lit ∷ dark ∷ [];
    }
    -- LS Enable of its kind, input 7 for output 1 and 23 for output 17, and a detector that is on at 0 tenths (low 100, high 50), in Mode 0: output 2 has MD1, output 3 MD2
    ∷ record {
      number = 8513;
      calls = with (stored_at 4 (100 ∷ 50 ∷ []) (m0 0x8001 (0x8003 ∷ 0 ∷ 0 ∷ 0 ∷ 0xC001 ∷ [])))
          (m1 ((1, 0x8000 ∷ 0 ∷ 0 ∷ 0 ∷ 100 ∷ []) ∷ (2, 0x2000 ∷ 0 ∷ 0 ∷ 0 ∷ 100 ∷ []) ∷ (3, 0x4000 ∷ 0 ∷ 0 ∷ 0 ∷ 100 ∷ []) ∷ (17, 0x8000 ∷ 0 ∷ 0 ∷ 0 ∷ 100 ∷ []) ∷ []))
          (stepped 10 0 0 ∷ stepped 10 0x0040 0 ∷ stepped 10 0 0x0040 ∷ []);
      says = (0, 2, 0) ∷ (0, 3, 0) ∷ (0, 2, 1) ∷ [];
    }
    ∷ []

-- each run, computed over the whole table
runs_are : map (λ (r : CardRun). map shown (expected_answers (model_of r.number) [] r.calls)) card_runs ≡ map (λ (r : CardRun). r.says) card_runs
unfolding history card_runs m0 m1
runs_are = refl

-- the runs are of modules that there are
known : List CardRun → Bool
known [] = true
known (r ∷ rs) = model_known r.number && known rs

all_known : known card_runs ≡ true
unfolding history card_runs known
all_known = refl

-- a module, whatever the place held
same_answers : (x : Module) (rs : List CardRun) → known rs ≡ true
    → map (λ (r : CardRun). map shown (answers (powered_up x r.number).card r.calls)) rs
    ≡ map (λ (r : CardRun). map shown (expected_answers (model_of r.number) [] r.calls)) rs
unfolding known
same_answers x [] k = refl
same_answers x (r ∷ rs) k = let b = and_parts _ _ k in rw (every_answer x r.number b.0 r.calls, same_answers x rs b.1)

-- so the card runs
pub card_runs_lem : (x : Module) → map (λ (r : CardRun). map shown (answers (powered_up x r.number).card r.calls)) card_runs ≡ map (λ (r : CardRun). r.says) card_runs
card_runs_lem x = same_answers x card_runs all_known ∙ runs_are

-- ---- A Mode 5 group, whose speed would take a card hundreds of steps

-- openness at each step, in the order of time
pub openings : Mode → List GroupStep → List GroupStep → List Bool
openings mode past [] = []
openings mode past (s ∷ steps) = open_at mode (past_of (s ∷ past)) ∷ openings mode (s ∷ past) steps

-- a step of a group with the dwell 0/50: position, input, First Cycle Input, tenths of an rpm, whether they were updated
pub step : ℕ → Bool → Bool → ℕ → Bool → GroupStep
step p level first tenths update = record {
  sf = 1024;
  program = record { used = true; isvirtual = true; firstvirtual = true; mode = 5; quantity = 1; dwell = record { on = 0; off = 50 }; offset = 0 };
  event = record { machine = record { 0 = p }; level = level; first = first; tenths = tenths; update = update };
}

-- steps from a start, and at which of them the group is open
pub record Mode5Run : Type 0 where
  pub steps : List GroupStep
  pub says : List Bool

pub mode5_runs : List Mode5Run
mode5_runs =
    -- A qualifying step at 20 opens. A stop at 30 closes in the dwell. Input active at 40 with 0 tenths does not open again. A First Cycle edge at 60, out of the
    -- dwell, opens. The next dwell's beginning at 5 closes and forgets, so that an edge there does not count.
    record {
      steps = step 1000 true false 9 false ∷ step 20 true false 9 false ∷ step 30 true false 0 true ∷ step 40 true false 0 false ∷ step 60 true true 0 false
          ∷ step 1000 true false 0 false ∷ step 5 true true 0 false ∷ [];
      says = false ∷ true ∷ false ∷ false ∷ true ∷ true ∷ false ∷ [];
    }
    -- An edge in the step of a stop, after a qualifying step: open, and at 0 tenths until the next update. That is again a stop, and closes, since the press is
    -- held. One more press, in the stop after it, opens; an update with other tenths does not close.
    ∷ record {
      steps = step 20 true false 9 false ∷ step 30 true true 0 true ∷ step 30 true true 0 false ∷ step 30 true true 0 true ∷ step 30 true false 0 false
          ∷ step 30 true true 0 true ∷ step 30 true true 0 false ∷ step 31 false true 9 true ∷ [];
      says = true ∷ true ∷ true ∷ false ∷ false ∷ true ∷ true ∷ true ∷ [];
    }
    -- No qualifying step since the dwell began: the edge is lost, not kept. The qualifying step at 40 opens by itself, and the held press is no edge in the stop after it.
    ∷ record {
      steps = step 20 false false 9 false ∷ step 30 true true 0 true ∷ step 30 true true 0 false ∷ step 40 true true 9 true ∷ step 40 true true 0 true ∷ [];
      says = false ∷ false ∷ false ∷ true ∷ false ∷ [];
    }
    -- Stop, edge and a dwell's beginning in one step: the beginning forgets the qualifying step of the dwell before, so the group stays closed, also by an edge after it.
    ∷ record {
      steps = step 20 true false 9 false ∷ step 60 true false 9 false ∷ step 1000 true false 9 false ∷ step 5 true true 0 true ∷ step 5 true false 0 false
          ∷ step 5 true true 0 false ∷ [];
      says = true ∷ true ∷ true ∷ false ∷ false ∷ false ∷ [];
    }
    -- A press that began a step before the stop and is held: no edge in it, so the stop closes.
    ∷ record {
      steps = step 20 true false 9 false ∷ step 30 true true 9 false ∷ step 30 true true 0 true ∷ step 30 true true 0 false ∷ [];
      says = true ∷ true ∷ false ∷ false ∷ [];
    }
    -- A creep: 1 tenth qualifies, and an update of 1 tenth is no stop; one of 0 is.
    ∷ record {
      steps = step 20 true false 1 false ∷ step 60 false false 1 true ∷ step 61 false false 0 true ∷ [];
      says = true ∷ true ∷ false ∷ [];
    }
    ∷ []

-- each run, computed
pub mode5_runs_lem : map (λ (r : Mode5Run). openings Mode5 [] r.steps) mode5_runs ≡ map (λ (r : Mode5Run). r.says) mode5_runs
unfolding history openings step mode5_runs
mode5_runs_lem = refl

-- ---- Speed: q from 0 up by one at each step

down_from : ℕ → List ℕ
down_from zero = []
down_from (suc n) = n ∷ down_from n

-- c: 0 before the 120th step, then 119, since the first movement is 0, and 120 at the 240th; tenths with TResp 1 from the 600th step on
speeds : (map (λ (n : ℕ). c_of (down_from n)) (119 ∷ 120 ∷ 239 ∷ 240 ∷ []) ≡ pos 0 ∷ pos 119 ∷ pos 119 ∷ pos 120 ∷ [])
    × (map (λ (n : ℕ). tenths_at true (down_from n)) (599 ∷ 600 ∷ []) ≡ 0 ∷ 2925 ∷ [])
unfolding history down_from
speeds = (refl, refl)

-- ---- A moving card, computed by the state machine: c comes with the 120th step, the tenths with the 600th

-- n steps, one count on in each, the first at a raw position
pub moving : ℕ → ℕ → ℕ → List Call
moving zero raw inputs = []
moving (suc n) raw inputs = at (raw % 1024) inputs ∷ moving n (raw + 1) inputs

-- what an 8513 answers to the last n of the calls' steps
abbrev pub last_shown : ℕ → List Call → List (ℕ × ℕ × ℕ)
last_shown n calls = drop n (map shown (answers (fresh_module M8513) calls))

-- c is 119 at the 120th step, so that an advance of 10 ms moves ON 200 by 49, to 151, and not the OFF setpoint
pub advanced_run :
    (last_shown 118 (with (one_group 0xC001 0 0 0) (m1 ((17, 0 ∷ 100 ∷ 0 ∷ 200 ∷ 300 ∷ []) ∷ [])) (moving 121 32 0)) ≡ dark ∷ lit ∷ lit ∷ [])
    × (last_shown 118 (with (one_group 0xC001 0 0 0) (m1 ((17, 0 ∷ 100 ∷ 0 ∷ 200 ∷ 300 ∷ []) ∷ [])) (moving 120 31 0 ++ (at 300 0 ∷ []))) ≡ dark ∷ dark ∷ dark ∷ [])
unfolding machine m0 m1 moving
advanced_run = (refl, refl)

-- the raw positions of n steps at 1,400 rpm, from step k on
pub turning : ℕ → ℕ → List ℕ
turning zero k = []
turning (suc n) k = k * 1792 / 375 % 1024 ∷ turning n (k + 1)

-- what a step at a raw position shows, where outputs are on from one position to before another
abbrev pub on_from : ℕ → ℕ → ℕ → ℕ → ℕ × ℕ × ℕ
on_from outputs on off raw = (0, 0, cond (leb on raw && ltb raw off) outputs 0)

-- 02's accident, two turns: a dwell of 20 counts at 200, ON advance 2 ms. At 1,400 rpm, c from 568 to 574, 2 ms are 47 counts. The OFF advance of output 17 is
-- 2.5 ms, 59 counts: it is on for 8 counts from 153 on. That of output 18 is 3 ms, 71 counts, so that the moved OFF setpoint passes the ON setpoint: it is never
-- on, where it was for 1,020 counts. Before the 120th step c is 0, and both are on for their 20 counts.
pub fast_line :
    map shown (answers (fresh_module M8513) (with (one_group 0xC002 0 0 0) (m1 ((17, 0 ∷ 20 ∷ 25 ∷ 200 ∷ 220 ∷ []) ∷ (18, 0 ∷ 20 ∷ 30 ∷ 200 ∷ 220 ∷ []) ∷ [])) (map (λ (raw : ℕ). at raw 0) (turning 560 0))))
    ≡ map (on_from 3 200 220) (turning 119 0) ++ map (on_from 1 153 161) (turning 441 119)
unfolding machine m0 m1 turning
fast_line = refl

-- A length of a turn and more: output 17 is timed, 1 ms, output 18 normal, both 200/300 with ON advance 99.9 ms and OFF advance −99.9 ms. At c 119, from the
-- 120th step on, the length is 100 + 495 + 495. Both hold at 150; the timed one began once and is off after five steps. At the 240th step c is 0, and neither
-- holds. At 250 both begin again.
pub always_run :
    last_shown 118
    (with (one_group 0xC002 0 0 0) (m1 ((17, 2 ∷ 999 ∷ 64537 ∷ 200 ∷ 300 ∷ 1 ∷ []) ∷ (18, 0 ∷ 999 ∷ 64537 ∷ 200 ∷ 300 ∷ []) ∷ []))
    (moving 120 31 0 ++ replicate 120 (at 150 0) ++ replicate 6 (at 250 0)))
    ≡ dark ∷ replicate 5 (0, 0, 3) ++ replicate 115 (0, 0, 2) ++ (dark ∷ replicate 5 (0, 0, 3)) ++ ((0, 0, 2) ∷ [])
unfolding machine m0 m1 moving
always_run = refl

-- a card with two groups in Mode 5, with dwell 0/1000
pub mode5_with : List Call → List Call
mode5_with =
    with (m0 0x8021 (0xE501 ∷ 0 ∷ 1000 ∷ 0 ∷ 0xC501 ∷ 0 ∷ 1000 ∷ 0 ∷ []))
    (m1 ((17, 0 ∷ 0 ∷ 0 ∷ 0 ∷ 1023 ∷ []) ∷ (18, 0 ∷ 0 ∷ 0 ∷ 0 ∷ 1023 ∷ []) ∷ []))

-- Inputs 17 and 18 active: a step in the dwell qualifies on tenths that aren't 0, with TResp 1 from the 600th step on; after 600
-- steps without movement comes a stop. In its step group 1 has an edge of its First Cycle Input, 24, and is open; group 2 is closed, and an edge of its own, 8,
-- opens it in the next step
pub mode5_card :
    last_shown 598
    (mode5_with (moving 600 0 3 ++ replicate 599 (at 599 3) ++ (at 599 0x83 ∷ stepped 599 0x80 0x83 ∷ [])))
    ≡ dark ∷ replicate 600 (0, 0, 3) ++ (lit ∷ (0, 0, 3) ∷ [])
unfolding machine m0 m1 moving mode5_with
mode5_card = refl

-- The same card at a creep of 1 count in each window, 5 tenths: the 600th step qualifies, and the update in the 1200th is no stop.
pub creep_card :
    last_shown 598
    (mode5_with (replicate 599 (at 0 3) ++ replicate 600 (at 1 3) ++ (at 2 3 ∷ at 2 3 ∷ [])))
    ≡ dark ∷ replicate 602 (0, 0, 3)
unfolding machine m0 m1 mode5_with
creep_card = refl

-- ---- A card that takes 256 pair tests

-- the words of a block, n times
pub blocks : ℕ → List ℕ → List ℕ
blocks zero block = []
blocks (suc n) block = block ++ blocks n block

-- an 8513 in Independent Mode, of which each output is normal with eight pairs at 1/2: at 0 none holds, at 1 the first does; "In a step answered 11 the count is 0."
pub full_card :
    map (λ (a : Answer). a.tests)
    (answers (fresh_module M8513)
    (FileCall SetupCycle (m0 0x8201 []) ∷ FileCall LimitCycle (0x8000 ∷ 0 ∷ blocks 32 (0 ∷ 0 ∷ 0 ∷ blocks 8 (1 ∷ 2 ∷ [])) ++ replicate 40 0) ∷ at 0 0 ∷ at 1 0 ∷ at 5000 0 ∷ at 0 0 ∷ []))
    ≡ 256 ∷ 32 ∷ 0 ∷ 0 ∷ []
unfolding machine m0 blocks
full_card = refl
