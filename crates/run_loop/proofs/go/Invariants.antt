use mathlib.Core.Path.{◌≡◌}
use mathlib.Core.List.{List, ◌++◌}
use Prim.Native.Nat.{ℕ, ◌+◌}
use lib.ListN.{length}
use Rattle.spec_machine.specs.Values.{Value}
use Rattle.spec_machine.specs.Machine.{Frame, Saved, RunEnv, running}
use Rattle.spec_machine.specs.Fit.{Fit}
use Rattle.spec_machine.specs.File.{program_of}
use Rattle.spec_image.specs.Layout.{env_words}
use Rattle.spec_image.specs.Core.{core}
use Rattle.state_words.specs.Meaning.{control_is}
use Rattle.run_rules.specs.StepsTo.{Describes}
use Rattle.run_loop.proofs.Reaching.{Reached}
use Rattle.run_loop.proofs.go.Given as goal

abbrev pub invariant-loop-steps : goal.invariant-loop-steps
invariant-loop-steps l = (length l.m ≡ length l.initial.m)
    × ((α : RunEnv) (f : ℕ) (η : List Value) (K : List Frame) (A : List Saved) (R : List ℕ) → l.initial.m ≡ core f η K A ++ (env_words α ++ R) → Describes l.file l.initial.h f K A
    → Fit (program_of l.file) (running (control_is l.initial.c) α f η K A) → Reached l.file l.allowed l.taken (running (control_is l.initial.c) α f η K A) l.steps l.c l.h l.m R)
