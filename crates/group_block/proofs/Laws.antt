-- Laws of group blocks and of dealing.
-- Assumes nothing.
use Prim.Native.Nat.{ℕ, suc, ◌+◌, ◌-◌, ◌<◌, ◌≤◌}
use mathlib.Core.Bool.{Bool, true, false, cond, ◌&&◌}
use mathlib.Core.List.{List}
use mathlib.Core.Path.{◌≡◌, refl, ap, ◌∙◌}
use native.Mathlib.Numerals.{add-one}
use native.Mathlib.Omega.{arith}
use lib.Dec.{ltb}
use lib.ListN.{length, get_or, drop}
use lib.Seq.{drop-cons}
use borrow.Author.Tests.{le-ltb, lt-ltb}
use Rattle.rules.specs.declared.Group.{Group}
use Rattle.rules.specs.declared.IoType.{IoType}
use Rattle.rules.specs.Words.{bit, table}
use Rattle.rules.specs.Variants.{group_type}
use Rattle.rules.specs.Groups.{no_group}
use Rattle.rules.specs.GroupWords.{group_word, used_bit, same_type, group_of, dealt_up_to, dealt_to, owners_of}
use Rattle.group_block.specs.Blocks.{share_of, owner_in}

share_picked : (used : Bool) (t : IoType) (g : Group) → g.used ≡ true → share_of t (cond used g no_group) ≡ cond (used && same_type t (group_type g)) g.quantity 0
unfolding share_of
share_picked true t g h = rw h
share_picked false t g h = refl

-- the groups up to the next take what those before it take and what it takes
pub dealt_more : (file : List ℕ) (t : IoType) (n : ℕ) → dealt_up_to file t n + share_of t (group_of file (n + 1)) ≡ dealt_up_to file t (n + 1)
unfolding dealt_up_to group_of
dealt_more file t n =
    rw (add-one n) (ap (λ (x : ℕ). dealt_up_to file t n + x) (share_picked (bit (group_word file (suc n) 0) used_bit) t _ refl))

share_passed : (own : Bool) (q n i : ℕ) (next : ℕ → ℕ) → cond own (cond (ltb i q) n (next (i - q))) (next i) ≡ cond (ltb i (cond own q 0)) n (next (i - cond own q 0))
share_passed true q n i next = refl
share_passed false q n i next =
    let e : i - 0 ≡ i = omega arith in
    rw (le-ltb i 0 (omega arith), e)

-- one group: it takes the output, or what is left after its share goes to the next ones
dealt_turn : (t : IoType) (gs : List Group) (k i : ℕ) (d : Group) → k < length gs → dealt_to t (drop k gs) (k + 1) i ≡ cond (ltb i (share_of t (get_or gs k d))) (k + 1) (dealt_to t (drop (k + 1) gs) (k + 1 + 1) (i - share_of t (get_or gs k d)))
unfolding dealt_to share_of
dealt_turn t gs k i d h =
    rw (drop-cons gs k d h, add-one k)
    (share_passed ((get_or gs k d).used && same_type t (group_type (get_or gs k d))) (get_or gs k d).quantity (suc k) i (dealt_to t (drop (suc k) gs) (suc k + 1)))

pub dealt_here : (t : IoType) (gs : List Group) (k i : ℕ) (d : Group) → k < length gs → i < share_of t (get_or gs k d) → dealt_to t (drop k gs) (k + 1) i ≡ k + 1
dealt_here t gs k i d h here = dealt_turn t gs k i d h ∙ rw (lt-ltb i (share_of t (get_or gs k d)) here)

pub dealt_later : (t : IoType) (gs : List Group) (k i : ℕ) (d : Group) → k < length gs → share_of t (get_or gs k d) ≤ i
    → dealt_to t (drop k gs) (k + 1) i ≡ dealt_to t (drop (k + 1) gs) (k + 1 + 1) (i - share_of t (get_or gs k d))
dealt_later t gs k i d h later = dealt_turn t gs k i d h ∙ rw (le-ltb i (share_of t (get_or gs k d)) later)

pub owners_table : (gs : List Group) → table 32 0 (owner_in gs) ≡ owners_of gs
unfolding table owners_of owner_in
owners_table gs = refl
