-- The slots of a frame in memory.
use Rattle.std.specs.Prelude.{List, ℕ, drop}
use Rattle.words.specs.Stacks.{block_at}
use Rattle.spec_image.specs.Sizes.{frame_size, frames_at, slots_from}

-- the words after the first four of the frame with i frames under it
abbrev pub slots_in : List ℕ → ℕ → List ℕ
slots_in m i = drop slots_from (block_at frame_size m frames_at i)
