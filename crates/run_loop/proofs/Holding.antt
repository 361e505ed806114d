-- What a run begins from, by question 16.
use mathlib.Core.Path.{◌≡◌}
use mathlib.Core.Bool.{true}
use mathlib.Core.List.{List}
use Prim.Native.Nat.{ℕ}
use lib.ListN.{drop}
use Rattle.spec_language.specs.Check.{accepted, check_of}
use Rattle.spec_machine.specs.File.{program_of}
use Rattle.spec_image.specs.Decode.{state_of}
use Rattle.spec_image.specs.Sizes.{size}
use Rattle.spec_image.specs.Memory.{fit_words}
use Rattle.spec_image.proofs.Memory.{held_whole, holds_fit}
use Rattle.run_loop.specs.Runs.{HoldsFit}

-- words that pass with an accepted file hold a fit state
pub words_held : (s m : List ℕ) → check_of s ≡ accepted → fit_words (program_of s) m ≡ true → HoldsFit s m
words_held s m e t =
    let h = holds_fit (program_of s) m t in
    record { passed = e; state = state_of m; rest = drop size m; held = held_whole m (state_of m) h.0; fit = h.1 }
