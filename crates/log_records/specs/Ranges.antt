-- The words in which two images may differ.
use Rattle.std.specs.Prelude.{◌≡◌, List, ℕ, ◌≤◌, ◌<◌, ◌-◌, length, get_or, take, drop, replicate}
use Rattle.spec_image.specs.Sizes.{frames_at, env_size, env_at, size}

-- two images are the same from p to where the frames begin, and from q on
pub record Alike (p q : ℕ) (a b : List ℕ) : Type 0 where
  pub before_long : length a ≡ size
  pub after_long : length b ≡ size
  pub low : p ≤ frames_at
  pub high : (frames_at ≤ q) × (q ≤ size)
  pub between : take (frames_at - p) (drop p a) ≡ take (frames_at - p) (drop p b)
  pub above : drop q a ≡ drop q b

-- the environment of an image is zeros
abbrev pub NoEnv : List ℕ → Type 0
NoEnv m = take env_size (drop env_at m) ≡ replicate env_size 0

-- the words of an image are zero from p to where the frames begin, and from q on
pub record Within (p q : ℕ) (a : List ℕ) : Type 0 where
  pub long : length a ≡ size
  pub low : p ≤ frames_at
  pub high : (frames_at ≤ q) × (q ≤ size)
  pub between : (i : ℕ) → p ≤ i → i < frames_at → get_or a i 0 ≡ 0
  pub above : (i : ℕ) → q ≤ i → get_or a i 0 ≡ 0
