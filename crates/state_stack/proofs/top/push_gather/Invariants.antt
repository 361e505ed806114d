use mathlib.Core.Path.{◌≡◌}
use mathlib.Core.List.{List, [], ◌∷◌, ◌++◌}
use Prim.Native.Nat.{ℕ, ◌-◌, ◌≤◌, ◌<◌}
use lib.ListN.{length, replicate}
use Rattle.records.specs.Fields.{size_at}
use Rattle.spec_machine.specs.Values.{Value}
use Rattle.spec_machine.specs.Program.{Operation}
use Rattle.spec_machine.specs.Machine.{Frame, gather, Saved}
use Rattle.spec_image.specs.Image.{saved_frames}
use Rattle.spec_image.specs.Core.{core}
use Rattle.state_stack.proofs.Waits.{Stored}
use Rattle.state_stack.proofs.top.push_gather.Given as goal

abbrev pub invariant-loop-j : goal.invariant-loop-j
invariant-loop-j l = (l.c ≤ l.last)
    × ((f : ℕ) (η : List Value) (h : Operation) (K : List Frame) (A : List Saved) (R : List ℕ) → l.initial.m ≡ core f η (gather h [] (replicate l.initial.j 0) ∷ K) A ++ R → length A < 32 → l.n ≡ length (K ++ saved_frames A)
    → l.initial.j ≡ l.k - 1 → 1 ≤ l.k → l.k ≤ 8 → Stored (size_at l.part) l.k l.last f η h K A R l.m l.j l.c)
