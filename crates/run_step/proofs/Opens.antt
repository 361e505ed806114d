-- Expressions evaluated, by their kind.
use mathlib.Core.Path.{◌≡◌, refl, ◌∙◌}
use mathlib.Core.Bool.{Bool, true, false, true≢false}
use mathlib.Core.List.{List, [], ◌∷◌}
use Prim.Native.Nat.{ℕ, ◌-◌}
use lib.ListN.{get_or}
use Rattle.records.specs.Fields.{kind_at, a_at, b_at, size_at}
use Rattle.records.specs.Parts.{part_of}
use Rattle.records.specs.Children.{arity_at, walk}
use Rattle.spec_language.specs.Sorts.{expressions, is_expression}
use Rattle.spec_language.specs.KindLists.{is_constant}
use Rattle.spec_language.specs.Statements.{prior, last}
use Rattle.spec_language.proofs.KindLists.{one_of_lem}
use Rattle.spec_machine.specs.Values.{Value, nothing}
use Rattle.spec_machine.specs.Program.{Operation, apply}
use Rattle.spec_machine.specs.Machine.{Frame, gather, and, val, exec, Saved, saved, RunEnv, running, reach_l, entered}
use Rattle.spec_machine.specs.Next.{opens}
use Rattle.spec_machine.specs.File.{backwards, kids, look_at, fun_of, program_of}
use Rattle.run_rules.specs.declared.Stepped.{Stepped}
use Rattle.run_rules.specs.StepsTo.{Rest, StepsTo}
use Rattle.run_step.specs.StepsBy.{StepsBy}
use Rattle.run_step.proofs.Levels.{arity_call, kids_walk, look_variable, look_and, look_call}

-- the kinds that are evaluated: the expressions that are no constants
pub none_evaluated : (k : ℕ) → (k ≡ 2 → ⊥) → (k ≡ 3 → ⊥) → (k ≡ 4 → ⊥) → (k ≡ 5 → ⊥) → is_constant k ≡ false → is_expression k ≡ true → ⊥
unfolding is_expression
none_evaluated k a b c d n e =
    one_of_lem (λ k. (k ≡ 2 → ⊥) → (k ≡ 3 → ⊥) → (k ≡ 4 → ⊥) → (k ≡ 5 → ⊥) → is_constant k ≡ false → ⊥) expressions
    (no, (no, (λ a b c d n. a refl, (λ a b c d n. b refl, (λ a b c d n. c refl, (λ a b c d n. d refl, (no, tt))))))) k e a b c d n
  where
    no : {A B C D : Type 0} → A → B → C → D → ◌≡◌ {A = Bool} true false → ⊥
    no a b c d n = true≢false n

module _ (s t : List ℕ) (r : Stepped) (l m : List ℕ) (R : Rest) (α : RunEnv) (f : ℕ) (η : List Value) (K : List Frame) (A : List Saved) (i : ℕ) where
  pub variable_done : (v : Value) → kind_at t i ≡ 2 → v ≡ get_or η (b_at t i) nothing → StepsTo s r l m R (running (val v) α f η K A)
      → StepsBy s r l m R (opens (program_of s) (look_at t i) α f η K A)
  variable_done v k e q = rw (look_variable t i k, ← e) q

  -- what gathers operands
  pub gather_done : (h : Operation) (k e : ℕ) (ns : List ℕ) → look_at t i ≡ apply h (kids t i) → arity_at t i ≡ k → t ≡ part_of s f
      → backwards (walk (size_at t) k (i - 1)) [] ≡ e ∷ ns → StepsTo s r l m R (running (reach_l e (look_at t e)) α f η (gather h [] ns ∷ K) A)
      → StepsBy s r l m R (opens (program_of s) (look_at t i) α f η K A)
  unfolding program_of
  gather_done h k e ns look n part w q = rw (look, kids_walk t i k n, w, ← part) q

  pub none_done : (g : ℕ) → kind_at t i ≡ 5 → a_at t i ≡ 0 → g ≡ b_at t i
      → StepsTo s r l m R (running (exec (fun_of s g).body) α g (entered (fun_of s g) []) [] (saved f η K ∷ A))
      → StepsBy s r l m R (opens (program_of s) (look_at t i) α f η K A)
  unfolding program_of walk backwards
  none_done g k z e q = rw (look_call t i k, kids_walk t i 0 (arity_call t i k ∙ z), ← e) q

  pub and_done : kind_at t i ≡ 4 → t ≡ part_of s f → (e : ℕ) → e ≡ i - 1 - size_at t (i - 1)
      → StepsTo s r l m R (running (reach_l e (look_at t e)) α f η (and (i - 1) ∷ K) A)
      → StepsBy s r l m R (opens (program_of s) (look_at t i) α f η K A)
  unfolding program_of prior last
  and_done k part e h q = rw (look_and t i k, ← part, ← h) q
