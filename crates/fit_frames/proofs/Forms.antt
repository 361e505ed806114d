-- A frame in memory by its kind.
use mathlib.Core.Path.{◌≡◌, refl, ◌∙◌}
use mathlib.Core.List.{List}
use Prim.Native.Nat.{ℕ, zero, suc, ◌+◌}
use native.Mathlib.Omega.{arith}
use lib.ListN.{get_or}
use Rattle.spec_machine.specs.Machine.{Frame}
use Rattle.spec_image.specs.Decode.{frames, frame_of}
use Rattle.state_words.specs.Meaning.{frame_at}
use Rattle.fit_frames.specs.Slots.{slots_in}
use Rattle.fit_frames.proofs.FrameSlots.{block_word}
use Rattle.fit_frames.specs.Meaning.{frame_in}

module _ (m : List ℕ) (i : ℕ) where
  -- the frame by its kind
  pub frame_in_lem : (k : ℕ) → get_or m (frame_at i + 0) 0 ≡ k
      → frame_in m i ≡ get_or (frames (get_or m (frame_at i + 1) 0) (get_or m (frame_at i + 2) 0) (get_or m (frame_at i + 3) 0) (slots_in m i)) k Frame.discard
  unfolding frame_of
  frame_in_lem k e =
      rw (block_word m i 0 (omega arith), block_word m i 1 (omega arith), block_word m i 2 (omega arith), block_word m i 3 (omega arith), e)

  -- a kind that is none of 1 to 8
  pub frame_else : (k : ℕ) → get_or m (frame_at i + 0) 0 ≡ k
      → (k ≡ 1 → ⊥) → (k ≡ 2 → ⊥) → (k ≡ 3 → ⊥) → (k ≡ 4 → ⊥) → (k ≡ 5 → ⊥) → (k ≡ 6 → ⊥) → (k ≡ 7 → ⊥) → (k ≡ 8 → ⊥) → frame_in m i ≡ Frame.discard
  unfolding frames
  frame_else k e a b c d f g h j = frame_in_lem k e ∙ go k a b c d f g h j
    where
      go : (k : ℕ) → (k ≡ 1 → ⊥) → (k ≡ 2 → ⊥) → (k ≡ 3 → ⊥) → (k ≡ 4 → ⊥) → (k ≡ 5 → ⊥) → (k ≡ 6 → ⊥) → (k ≡ 7 → ⊥) → (k ≡ 8 → ⊥)
          → get_or (frames (get_or m (frame_at i + 1) 0) (get_or m (frame_at i + 2) 0) (get_or m (frame_at i + 3) 0) (slots_in m i)) k Frame.discard ≡ Frame.discard
      go zero a b c d f g h j = refl
      go (suc zero) a b c d f g h j = absurd (a refl)
      go (suc (suc zero)) a b c d f g h j = absurd (b refl)
      go (suc (suc (suc zero))) a b c d f g h j = absurd (c refl)
      go (suc (suc (suc (suc zero)))) a b c d f g h j = absurd (d refl)
      go (suc (suc (suc (suc (suc zero))))) a b c d f g h j = absurd (f refl)
      go (suc (suc (suc (suc (suc (suc zero)))))) a b c d f g h j = absurd (g refl)
      go (suc (suc (suc (suc (suc (suc (suc zero))))))) a b c d f g h j = absurd (h refl)
      go (suc (suc (suc (suc (suc (suc (suc (suc zero)))))))) a b c d f g h j = absurd (j refl)
      go (suc (suc (suc (suc (suc (suc (suc (suc (suc k))))))))) a b c d f g h j = refl
