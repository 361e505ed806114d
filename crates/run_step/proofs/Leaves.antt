-- A function left for its caller, or main left for good.
use mathlib.Core.Path.{◌≡◌}
use mathlib.Core.List.{List, [], ◌∷◌, ◌++◌}
use Prim.Native.Nat.{ℕ, ◌≤◌}
use native.Mathlib.Omega.{arith}
use Rattle.spec_machine.specs.Values.{Value, nothing, int, truth}
use Rattle.spec_machine.specs.Machine.{Frame, val, Saved, saved, RunEnv, returned, running}
use Rattle.spec_machine.specs.Next.{leaving}
use Rattle.spec_image.specs.Core.{core}
use Rattle.run_rules.specs.declared.Registers.{Registers}
use Rattle.run_rules.specs.declared.Stepped.{Stepped}
use Rattle.run_rules.specs.StepsTo.{Rest, Describes, StepsTo}
use Rattle.run_step.specs.StepsBy.{StepsBy}

pub pos : {n : ℕ} → (n ≡ 0 → ⊥) → 1 ≤ n
pos {n} h = omega arith

module _ (s : List ℕ) (r : Stepped) (h : Registers) (l m : List ℕ) (R : Rest) (α : RunEnv) (f : ℕ) (η : List Value) (J : List Frame) where
  pub depart_main : (A : List Saved) (w : ℕ) → l ≡ core f η J A ++ R α → Describes s h f J A → h.callers ≡ 0
      → (l ≡ core f η J [] ++ R α → Describes s h f J [] → StepsTo s r l m R (returned α w)) → StepsBy s r l m R (leaving α (int w) A)
  depart_main [] w e t z k = k e t
  depart_main (saved g θ L ∷ A) w e t z k = absurd (omega (arith, t.callers))

  pub depart_caller : (A : List Saved) (v : Value) → l ≡ core f η J A ++ R α → Describes s h f J A → (h.callers ≡ 0 → ⊥)
      → ((g : ℕ) (θ : List Value) (L : List Frame) (B : List Saved) → l ≡ core f η J (saved g θ L ∷ B) ++ R α → Describes s h f J (saved g θ L ∷ B)
      → StepsTo s r l m R (running (val v) α g θ L B)) → StepsBy s r l m R (leaving α v A)
  depart_caller [] v e t z k = absurd (z t.callers)
  depart_caller (saved g θ L ∷ A) nothing e t z k = k g θ L A e t
  depart_caller (saved g θ L ∷ A) (int n) e t z k = k g θ L A e t
  depart_caller (saved g θ L ∷ A) (truth b) e t z k = k g θ L A e t
