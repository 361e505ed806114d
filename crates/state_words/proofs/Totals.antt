-- The words of an activation in its block, and how many frames activations have together.
use mathlib.Core.Path.{◌≡◌, ap, ◌∙◌}
use mathlib.Core.List.{List}
use Prim.Native.Nat.{ℕ, ◌+◌, ◌*◌, ◌-◌, ◌<◌}
use native.Mathlib.Numerals.{add-one}
use native.Mathlib.Omega.{arith}
use lib.ListN.{get_or, drop}
use lib.Seq.{get_or-take, get_or-drop}
use Rattle.words.specs.Stacks.{block_at}
use Rattle.spec_image.specs.Decode.{activation_of, frames_held, held_in}
use Rattle.state_words.specs.Meaning.{activation_at}

module _ (m : List ℕ) (a : ℕ) where
  -- word j of the activation's block
  pub activation_word : (j : ℕ) → j < 136 → get_or (block_at 136 m 128 a) j 0 ≡ get_or m (activation_at a + j) 0
  unfolding activation_at
  activation_word j h = get_or-take 136 (drop (128 + a * 136) m) j 0 h ∙ get_or-drop (128 + a * 136) m j 0

  -- its second word is how many frames it has
  pub frames_of_lem : (k : ℕ) → k ≡ get_or m (activation_at a + 1) 0 → frames_held (activation_of (block_at 136 m 128 a)) ≡ k
  unfolding activation_of frames_held
  frames_of_lem k e = rw (activation_word 1 (omega arith), ← e)

-- one more activation
pub total_next : (m : List ℕ) (a k : ℕ) → k ≡ get_or m (activation_at a + 1) 0 → held_in m (a + 1) ≡ k + held_in m a
total_next m a k e = rw (add-one a, frames_of_lem m a k e)

-- one activation less
pub total_last : (m : List ℕ) (a k : ℕ) → 0 < a → k ≡ get_or m (activation_at (a - 1) + 1) 0 → held_in m a ≡ k + held_in m (a - 1)
total_last m a k h e = let z : a ≡ a - 1 + 1 = omega arith in ap (held_in m) z ∙ total_next m (a - 1) k e
