-- `word::store` meets its contract: the words lie between what was before and after them. Assumes nothing.
use Rattle.std.proofs.Common.{ℕ, suc, ◌+◌, ◌≤◌, ◌≡◌, ◌∙◌, cond, leb, sym, List, [], ◌∷◌, ◌++◌, length, take, drop, set, arith, append_assoc, length-set}
use Rattle.std.proofs.lemmas.List.{take-append-drop, drop-drop, take_more_set, drop-set-lt}
use Rattle.std.proofs.lemmas.Grind.{common_steps}
use borrow.Author.Tests.{le-leb}
use borrow.Rule.Slice.PartMut.{put_mid}
use Rattle.rules.specs.Words.{stored_at}
use Rattle.word.proofs.store.Goals as goal

between : (at : ℕ) (ws file : List ℕ) → at + length ws ≤ length file → take at file ++ (ws ++ drop (at + length ws) file) ≡ stored_at at ws file
unfolding stored_at
between at [] file h =
    let z : at + 0 ≡ at = omega arith in
    rw z (take-append-drop at file)
between at (w ∷ ws) file h =
    let n : at + suc (length ws) ≡ at + 1 + length ws = omega arith in
    rw (
      ← between (at + 1) ws (set file at w) (rw (length-set file at w) (omega arith)),
      take_more_set file at w (omega arith),
      drop-set-lt (at + 1 + length ws) file at w (omega arith),
      n,
    )
    (sym (append_assoc (take at file) (w ∷ []) (ws ++ drop (at + 1 + length ws) file)))

-- words put at a place, where the place, their number and what was put are as the code reckons them
stored : (i n at : ℕ) (new ws file : List ℕ) → i ≡ at → n ≡ length ws → new ≡ ws → at + length ws ≤ length file
    → put_mid i n file new ≡ cond (leb (at + length ws) (length file)) (stored_at at ws file) file
stored i n at new ws file e f g h = rw (e, f, g, drop-drop (length ws) at file, le-leb (at + length ws) (length file) h) (between at ws file h)

pub returns : goal.returns
returns c =
    let a = c.args in
    stored _ _ a.at _ a.words.now a.file.now (omega arith) (omega arith) (c.copy_from_slice.ensures.after ∙ grind (arith, common_steps)) (omega arith)
