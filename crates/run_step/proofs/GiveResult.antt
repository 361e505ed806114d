-- A value given to the top frame, by the frame.
use mathlib.Core.Path.{◌≡◌, refl}
use mathlib.Core.Bool.{false}
use mathlib.Core.List.{List, [], ◌∷◌, ◌++◌}
use Prim.Native.Nat.{ℕ, suc, ◌+◌, ◌≤◌, ◌<◌}
use native.Mathlib.Omega.{arith}
use lib.ListN.{length, get_or, set}
use Rattle.records.specs.Fields.{edition_of, params_of, vars_of}
use Rattle.records.specs.Parts.{part_of}
use Rattle.spec_language.specs.Check.{accepted, check_of}
use Rattle.spec_machine.specs.Values.{Value, int, truth, result}
use Rattle.spec_machine.specs.Program.{Operation, op, fn, Ref}
use Rattle.spec_machine.specs.Machine.{Frame, gather, and, branch, check, val, exec, Saved, saved, RunEnv, exception, abort, running, Rule, reach_l, entered}
use Rattle.spec_machine.specs.Next.{settle, on_truth, leaving, goes, give}
use Rattle.spec_machine.specs.Fit.{Fit}
use Rattle.spec_machine.specs.File.{look_at, fun_of, program_of}
use Rattle.spec_image.specs.Core.{core}
use Rattle.state_stack.specs.Shows.{Gathers}
use Rattle.run_rules.specs.declared.Registers as code
use Rattle.run_rules.specs.declared.Stepped.{Stepped}
use Rattle.run_rules.specs.StepsTo.{Rest, Describes, StepsTo}
use Rattle.run_step.specs.StepsBy.{StepsBy}
use Rattle.run_step.proofs.GiveShapes.{ints, arguments, waits, assigned}
use Rattle.run_step.proofs.GiveNeeds.{shaped, empty}

gives_operator : (s : List ℕ) (r : Stepped) (l m : List ℕ) (R : Rest) (α : RunEnv) (f : ℕ) (η : List Value) (fr : Frame) (K : List Frame) (A : List Saved) (v : Value) (o a b : ℕ)
    → fr ≡ gather (op o) (int a ∷ []) [] → v ≡ int b → StepsBy s r l m R (settle α f η K A (result (edition_of s) o a b))
    → StepsBy s r l m R (give (program_of s) v α f η (fr ∷ K) A)
unfolding program_of
gives_operator s r l m R α f η fr K A v o a b w i d = rw (w, i) d

module _ (s : List ℕ) (r : Stepped) (h : code.Registers) (l m : List ℕ) (R : Rest) (α : RunEnv) (f : ℕ) (η : List Value) (fr : Frame) (K : List Frame) (A : List Saved) (v : Value)
    (passed : check_of s ≡ accepted) (held : l ≡ core f η (fr ∷ K) A ++ R α) (describes : Describes s h f (fr ∷ K) A)
    (fit : Fit (program_of s) (running (val v) α f η (fr ∷ K) A)) where
  -- it is done for a given frame
  abbrev GiveSteps : Type 0
  GiveSteps = StepsBy s r l m R (give (program_of s) v α f η (fr ∷ K) A)

  module _ (y z : ℕ) where
    pub give_operator : (o : ℕ) → Gathers fr (op o) y z → z ≡ 0
        → ((a b : ℕ) → l ≡ core f η (gather (op o) (int a ∷ []) [] ∷ K) A ++ R α → Describes s h f (gather (op o) (int a ∷ []) [] ∷ K) A → v ≡ int b
        → StepsBy s r l m R (settle α f η K A (result (edition_of s) o a b))) → GiveSteps
    unfolding program_of
    give_operator o g e q =
        let n = empty g.nodes z g.waits e in
        let i = ints s passed α f η v K A o g.values g.nodes (rw g.is at fit) n in
        let w : fr ≡ gather (op o) (int i.first ∷ []) [] = shaped g.is i.stored n in
        let d = q i.first i.second (rw w at held) (rw w at describes) i.hand in
        gives_operator s r l m R α f η fr K A v o i.first i.second w i.hand d

    pub give_next : (k : Operation) (t : List ℕ) → t ≡ part_of s f → Gathers fr k y z → (z ≡ 0 → ⊥)
        → ((vs : List Value) (e : ℕ) (ns : List ℕ) → l ≡ core f η (gather k vs (e ∷ ns) ∷ K) A ++ R α → Describes s h f (gather k vs (e ∷ ns) ∷ K) A
        → length vs + suc (length ns) ≤ 7 → y ≡ length vs → z ≡ suc (length ns)
        → StepsTo s r l m R (running (reach_l e (look_at t e)) α f η (gather k (vs ++ (v ∷ [])) ns ∷ K) A)) → GiveSteps
    unfolding program_of
    give_next k t part g e q = go g.nodes g.is g.waits
      where
        go : (ns : List ℕ) → fr ≡ gather k g.values ns → z ≡ length ns → GiveSteps
        go [] i w = absurd (e w)
        go (d ∷ ns) i w =
            let n = (waits s passed α f η v K A k g.values d ns (rw i at fit)).0 in
            rw (i, ← part) (q g.values d ns (rw i at held) (rw i at describes) n g.done w)

    pub give_call : (k : ℕ) → Gathers fr (fn k) y z → z ≡ 0
        → ((vs : List Value) → l ≡ core f η (gather (fn k) vs [] ∷ K) A ++ R α → Describes s h f (gather (fn k) vs [] ∷ K) A → y ≡ length vs
        → params_of s k ≡ suc y → suc y ≤ vars_of s k
        → StepsTo s r l m R (running (exec (fun_of s k).body) α k (entered (fun_of s k) (vs ++ (v ∷ []))) [] (saved f η K ∷ A))) → GiveSteps
    unfolding program_of
    give_call k g e q =
        let n = empty g.nodes z g.waits e in
        let i : fr ≡ gather (fn k) g.values [] = shaped g.is refl n in
        let p = arguments s passed α f η v K A k g.values g.nodes (rw g.is at fit) n in
        let d = g.done in
        rw i (q g.values (rw i at held) (rw i at describes) d (omega (arith, d, p.1)) (omega (arith, d, p.2)))

  pub give_and : (n : ℕ) (t : List ℕ) → t ≡ part_of s f → fr ≡ and n
      → StepsBy s r l m R (on_truth v (goes Rule.and_true (running (reach_l n (look_at t n)) α f η K A)) (goes Rule.and_false (running (val (truth false)) α f η K A))) → GiveSteps
  unfolding program_of
  give_and n t part e q = rw (e, ← part) q

  pub give_store : (x : ℕ) → fr ≡ Frame.store x
      → (x < length η → length η ≤ 64 → StepsTo s r l m R (running (exec Ref.nop) α f (set η x v) K A)) → GiveSteps
  give_store x e q = let p = assigned s passed α f η v K A x (rw e at fit) in rw e (q p.0 p.1)

  pub give_branch : (a b : Ref) → fr ≡ branch a b
      → StepsBy s r l m R (on_truth v (goes Rule.if_true (running (exec a) α f η K A)) (goes Rule.if_false (running (exec b) α f η K A))) → GiveSteps
  give_branch a b e q = rw e q

  pub give_leave : fr ≡ Frame.leave → StepsBy s r l m R (leaving α v A) → GiveSteps
  give_leave e q = rw e q

  pub give_assert : fr ≡ check
      → StepsBy s r l m R (on_truth v (goes Rule.assert_true (running (exec Ref.nop) α f η K A)) (goes Rule.assert_false (exception abort))) → GiveSteps
  give_assert e q = rw e q

  pub give_discard : fr ≡ Frame.discard → StepsTo s r l m R (running (exec Ref.nop) α f η K A) → GiveSteps
  give_discard e q = rw e q
