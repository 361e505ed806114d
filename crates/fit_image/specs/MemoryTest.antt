-- The test of a memory's first 16,384 words: whether they are the image of a state within the limits, and narrow.
use Rattle.std.specs.Prelude.{Bool, true, false, ◌&&◌, List, [], ◌∷◌, ℕ, zero, suc, ◌+◌, ◌*◌, ◌-◌, eqb, leb, get_or, take, drop}
use Rattle.words.specs.Blocks.{all_zero}
use Rattle.words.specs.Stacks.{block_at}
use Rattle.spec_machine.specs.Fit.{caller_limit, frame_limit}
use Rattle.spec_image.specs.Decode.{held_in}
use Rattle.fit_image.specs.BlockTests.{control_ok, frame_ok, activation_ok}
use Rattle.spec_image.specs.Sizes.{activation_size, caller_room, frame_size, frame_room, env_size, activations_at, frames_at, env_at}

module _ (w : ℕ) (ok : List ℕ → Bool) where
  -- n blocks of w words from a place on pass a test
  abbrev pub passing : List ℕ → ℕ → ℕ → Bool
  passing l at zero = true
  passing l at (suc n) = ok (block_at w l at n) && passing l at n

-- the first five words: the tag, its int, the number of activations, the form and the word of the control
unfoldable pub tag_ok : ℕ → ℕ → ℕ → ℕ → ℕ → Bool
tag_ok tag int count form word =
    let plain = eqb count 0 && (eqb form 0 && eqb word 0) in
    let runs = eqb int 0 && (leb 1 count && (leb count caller_limit && control_ok form word)) in
    get_or (false ∷ (eqb int 0 && plain) ∷ runs ∷ plain ∷ plain ∷ (eqb int 0 && plain) ∷ (eqb int 0 && plain) ∷ false ∷ false ∷ plain ∷ []) tag false

-- the head
unfoldable pub head_ok : List ℕ → Bool
head_ok l = tag_ok (get_or l 0 0) (get_or l 1 0) (get_or l 2 0) (get_or l 3 0) (get_or l 4 0) && all_zero (take 123 (drop 5 l))

-- n activations, and zeros above them
unfoldable pub activations_ok : List ℕ → ℕ → Bool
activations_ok l n = passing activation_size activation_ok l activations_at n && all_zero (take ((caller_room - n) * activation_size) (drop (activations_at + n * activation_size) l))

-- n frames, and zeros above them
unfoldable pub frames_ok : List ℕ → ℕ → Bool
frames_ok l n = passing frame_size frame_ok l frames_at n && all_zero (take ((frame_room - n) * frame_size) (drop (frames_at + n * frame_size) l))

-- the entry function: any word, but zero in the final states, which are tags 4 to 6
unfoldable pub entry_ok : ℕ → ℕ → Bool
entry_ok tag entry = let final = eqb entry 0 in get_or (true ∷ true ∷ true ∷ true ∷ final ∷ final ∷ final ∷ []) tag true

-- the environment of 1,664 words under a tag: a zero, the entry function, and zeros
unfoldable pub env_ok : ℕ → List ℕ → Bool
env_ok tag e = eqb (get_or e 0 0) 0 && (entry_ok tag (get_or e 1 0) && all_zero (drop 2 e))

-- the head, as many activations as it says, as many frames as they say, within the limit, and the environment
unfoldable pub image_ok : List ℕ → Bool
image_ok l =
    let n = get_or l 2 0 in
    head_ok l && (activations_ok l n && (leb (held_in l n) frame_limit && (frames_ok l (held_in l n) && env_ok (get_or l 0 0) (take env_size (drop env_at l)))))
