-- Laws of what outputs read: the table of counts has, for every number of a group, that of the position which 01's rule reads.
-- Assumes nothing.
use Prim.Native.Nat.{ℕ, zero, suc, ◌≤◌}
use mathlib.Core.Bool.{Bool, true, false, cond}
use mathlib.Core.List.{List}
use mathlib.Core.Logic.{inl, inr}
use mathlib.Core.Path.{◌≡◌, sym, ap, ◌∙◌}
use native.Mathlib.Omega.{arith}
use lib.ListN.{length, get_or}
use Rattle.std.proofs.lemmas.Bool.{cases_lt}
use Rattle.std.proofs.lemmas.List.{get_or_past}
use Rattle.rules.specs.declared.Conditions.{Conditions}
use Rattle.rules.specs.declared.GroupPosition.{GroupPosition}
use Rattle.rules.specs.declared.MachinePosition.{MachinePosition}
use Rattle.rules.specs.declared.Position.{Position}
use Rattle.rules.specs.declared.Position.TheVariants.{OfMachine, OfGroup}
use Rattle.rules.specs.Words.{table}
use Rattle.rules.specs.Groups.{no_position, of_group}
use Rattle.rules.specs.Switches.{count_at, switch_position}
use Rattle.rules.proofs.Packing.{get_d_table_0, length_table}
use Rattle.engine.specs.Reading.{counts_read, position_read}

-- the count decides the position, in either mode
by_count : (b : Bool) (m : MachinePosition) (g : GroupPosition) (n : ℕ) → n ≡ count_at (cond b (OfMachine m) (OfGroup g))
    → cond b (OfMachine (record { 0 = n })) (OfGroup (record { 0 = n })) ≡ cond b (OfMachine m) (OfGroup g)
by_count true m g n e = rw e
by_count false m g n e = rw e

module _ (w : Conditions) (positions : List GroupPosition) (whole : length positions ≡ 6) where
  read : ℕ → ℕ
  read owner = count_at (switch_position w (of_group no_position positions owner))

  -- over 6 is no group
  over : (owner : ℕ) → 7 ≤ owner → of_group no_position positions owner ≡ no_position
  over zero h = absurd (omega arith)
  over (suc k) h = get_or_past positions k no_position (omega arith)

  there : (owner : ℕ) → get_or (table 7 0 read) owner (get_or (table 7 0 read) 0 0) ≡ read owner
  unfolding read
  there owner =
      elim (cases_lt owner 7) [
        | inl h ↦ get_d_table_0 7 read _ owner h
        | inr h ↦ get_or_past (table 7 0 read) owner _ (rw (length_table 7 0 read) h) ∙ get_d_table_0 7 read 0 0 (omega arith) ∙ ap (λ (p : GroupPosition). count_at (switch_position w p)) (sym (over owner h))
      ]

  of_table : (owner : ℕ) → position_read w (counts_read w positions) owner ≡ switch_position w (of_group no_position positions owner)
  unfolding position_read counts_read switch_position read
  of_table owner = by_count w.independent w.machine (of_group no_position positions owner) _ (there owner)

  pub position_there : (counts : List ℕ) (owner : ℕ) (q : Position) → counts ≡ counts_read w positions → q ≡ position_read w counts owner
      → q ≡ switch_position w (of_group no_position positions owner)
  position_there counts owner q e h = h ∙ rw e (of_table owner)
