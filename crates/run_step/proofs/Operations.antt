-- An operator applied: its value, or the end of the run.
use mathlib.Core.Path.{◌≡◌, refl, sym, ap, ◌∙◌}
use mathlib.Core.List.{List, [], ◌∷◌, ◌++◌}
use Prim.Native.Nat.{ℕ, ◌+◌, ◌*◌, ◌<◌}
use native.Mathlib.Omega.{arith}
use lib.ListN.{length, get_or}
use Rattle.arith.specs.Operators.{applied}
use Rattle.arith.specs.declared.Applied.TheVariants.{Int, Truth, Arith}
use Rattle.spec_machine.specs.Values.{Value, int, truth, result}
use Rattle.spec_machine.specs.Program.{op}
use Rattle.spec_machine.specs.Machine.{arith as raises, Frame, gather, val, Saved, RunEnv, exception, running}
use Rattle.spec_machine.specs.Next.{settle}
use Rattle.spec_image.specs.Sizes.{caller_room}
use Rattle.spec_image.specs.Image.{saved_frames}
use Rattle.spec_image.specs.Decode.{value_of}
use Rattle.spec_image.specs.Core.{core}
use Rattle.spec_image.proofs.Operands.{value_in}
use Rattle.state_words.specs.declared.Value as code
use Rattle.state_words.specs.declared.Value.TheVariants as code-value
use Rattle.state_words.specs.Meaning.{value_is}
use Rattle.run_rules.specs.declared.Stepped.{Stepped}
use Rattle.run_rules.specs.StepsTo.{Rest, StepsTo}
use Rattle.run_step.specs.StepsBy.{StepsBy}
use Rattle.run_step.proofs.Sorts.{int_inj}

-- the int at hand
pub hand : (v : code.Value) (x b : ℕ) → v ≡ code-value.Int x → value_is v ≡ int b → x ≡ b
unfolding value_is
hand v x b e i = int_inj (sym (ap value_is e) ∙ i)

-- the int in the top frame
pub stored : (l : List ℕ) (n f : ℕ) (η : List Value) (o a : ℕ) (K : List Frame) (A : List Saved) (R : List ℕ) (v : code.Value) (x : ℕ)
    → l ≡ core f η (gather (op o) (int a ∷ []) [] ∷ K) A ++ R → length A < caller_room → n ≡ length (K ++ saved_frames A)
    → value_is v ≡ value_of (get_or l (4480 + n * 20 + (4 + 0 * 2)) 0) (get_or l (4480 + n * 20 + (4 + 0 * 2) + 1) 0) → v ≡ code-value.Int x → x ≡ a
stored l n f η o a K A R v x e few count i q =
    hand v x a q (i ∙ rw e (value_in f η K A R n (4480 + n * 20) few count refl (op o) (int a ∷ []) [] (omega arith) 0 _ (omega arith) refl))

module _ (s : List ℕ) (r : Stepped) (l m : List ℕ) (R : Rest) (α : RunEnv) (f : ℕ) (η : List Value) (K : List Frame) (A : List Saved) (edition o a b x y : ℕ) (ha : x ≡ a) (hb : y ≡ b) where
  pub settled_int : (w : ℕ) → applied edition o x y ≡ Int w → StepsTo s r l m R (running (val (int w)) α f η K A) → StepsBy s r l m R (settle α f η K A (result edition o a b))
  unfolding result
  settled_int w e q = rw (← ha, ← hb, e) q

  pub settled_truth : (w : _) → applied edition o x y ≡ Truth w → StepsTo s r l m R (running (val (truth w)) α f η K A) → StepsBy s r l m R (settle α f η K A (result edition o a b))
  unfolding result
  settled_truth w e q = rw (← ha, ← hb, e) q

  pub settled_arith : applied edition o x y ≡ Arith → StepsTo s r l m R (exception raises) → StepsBy s r l m R (settle α f η K A (result edition o a b))
  unfolding result
  settled_arith e q = rw (← ha, ← hb, e) q
