-- The definitions give the bytes written out in specs/Cases.antt, by computation.
-- Assumes nothing.
use Rattle.std.proofs.Common.{◌≡◌, ℕ, List, map, length, Ok, Err, refl}
use Rattle.df1.specs.declared.Refusal.TheVariants.{NotAFrame}
use Rattle.df1.specs.Frame.{sent, doubled, sum_of, complement, check_byte, frame_of, inside, undoubled, data_of, same, is_frame, fit_outcome, read_outcome}
use Rattle.df1.specs.Cases.{frames, no_frames}

-- each line's data have its frame, and the frame reads as them into a buffer of their length
pub frames_hold : (map (λ (f : List ℕ × List ℕ). frame_of f.0) frames ≡ map (λ (f : List ℕ × List ℕ). f.1) frames)
    × (map (λ (f : List ℕ × List ℕ). data_of f.1) frames ≡ map (λ (f : List ℕ × List ℕ). f.0) frames)
    × (map (λ (f : List ℕ × List ℕ). read_outcome f.1 (length f.0)) frames ≡ map (λ (f : List ℕ × List ℕ). Ok (length f.0)) frames)
unfolding frames sent doubled sum_of complement check_byte frame_of inside undoubled data_of same is_frame fit_outcome read_outcome
frames_hold = (refl, refl, refl)

-- each is refused with 17, however long the buffer
pub no_frames_hold : (room : ℕ) → map (λ (input : List ℕ). read_outcome input room) no_frames ≡ map (λ (input : List ℕ). Err NotAFrame) no_frames
unfolding no_frames sent doubled sum_of complement check_byte frame_of inside undoubled data_of same is_frame fit_outcome read_outcome
no_frames_hold room = refl
