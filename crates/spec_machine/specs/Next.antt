-- The next state as a function, for the code.
use Rattle.std.specs.Prelude.{true, false, List, [], ◌∷◌, ◌++◌, ℕ, get_or, set}
use Rattle.std.proofs.Math.Option.{Option, none, some}
use Rattle.spec_machine.specs.Values.{Value, nothing, int, truth, result}
use Rattle.spec_machine.specs.Program.{Operation, op, fn, Ref, if_of, ExprForm, const, apply, StmtForm, Program}
use Rattle.spec_machine.specs.Machine.{arith, abort, Frame, gather, and, wait, branch, check, val, eval, exec, Saved, saved, RunEnv, State, exception, calling, returned, running, Rule, reach, first_name, next_name, entered, arguments, entry_name}

-- no rule applies, or this one does
pub data Move : Type 0 where
  stuck : Move
  goes : Rule → State → Move

abbrev pub settle : RunEnv → ℕ → List Value → List Frame → List Saved → Option Value → Move
settle α f η K A none = goes Rule.op_arith (exception arith)
settle α f η K A (some v) = goes Rule.op_value (running (val v) α f η K A)

abbrev pub op_next : ℕ → ℕ → List Value → Value → RunEnv → ℕ → List Value → List Frame → List Saved → Move
op_next i o [] v α f η K A = stuck
op_next i o (nothing ∷ vs) v α f η K A = stuck
op_next i o (truth t ∷ vs) v α f η K A = stuck
op_next i o (int a ∷ (w ∷ vs)) v α f η K A = stuck
op_next i o (int a ∷ []) nothing α f η K A = stuck
op_next i o (int a ∷ []) (truth t) α f η K A = stuck
op_next i o (int a ∷ []) (int b) α f η K A = settle α f η K A (result i o a b)

abbrev pub finish : Program → Operation → List Value → Value → RunEnv → ℕ → List Value → List Frame → List Saved → Move
finish P (op o) vs v α f η K A = op_next P.edition o vs v α f η K A
finish P (fn g) vs v α f η K A = goes Rule.call_enter (running (exec (P.fun g).body) α g (entered (P.fun g) (vs ++ (v ∷ []))) [] (saved f η K ∷ A))

abbrev pub on_truth : Value → Move → Move → Move
on_truth nothing s t = stuck
on_truth (int n) s t = stuck
on_truth (truth true) s t = s
on_truth (truth false) s t = t

abbrev pub leaving : RunEnv → Value → List Saved → Move
leaving α nothing [] = stuck
leaving α (truth t) [] = stuck
leaving α (int c) [] = goes Rule.leave (returned α c)
leaving α v (saved g θ L ∷ A) = goes Rule.leave (running (val v) α g θ L A)

-- the next state where a value is at hand; by frame
abbrev pub give : Program → Value → RunEnv → ℕ → List Value → List Frame → List Saved → Move
give P v α f η [] A = stuck
give P v α f η (gather h vs [] ∷ K) A = finish P h vs v α f η K A
give P v α f η (gather h vs (n ∷ ns) ∷ K) A = goes (next_name h) (running (reach P f n) α f η (gather h (vs ++ (v ∷ [])) ns ∷ K) A)
give P v α f η (and l ∷ K) A = on_truth v (goes Rule.and_true (running (reach P f l) α f η K A)) (goes Rule.and_false (running (val (truth false)) α f η K A))
give P v α f η (wait r ∷ K) A = stuck
give P v α f η (Frame.store x ∷ K) A = goes Rule.store (running (exec Ref.nop) α f (set η x v) K A)
give P v α f η (branch a b ∷ K) A = on_truth v (goes Rule.if_true (running (exec a) α f η K A)) (goes Rule.if_false (running (exec b) α f η K A))
give P v α f η (Frame.leave ∷ K) A = leaving α v A
give P v α f η (check ∷ K) A = on_truth v (goes Rule.assert_true (running (exec Ref.nop) α f η K A)) (goes Rule.assert_false (exception abort))
give P v α f η (Frame.discard ∷ K) A = goes Rule.discard (running (exec Ref.nop) α f η K A)

-- the next state where an expression is to be evaluated; by kind
abbrev pub opens : Program → ExprForm → RunEnv → ℕ → List Value → List Frame → List Saved → Move
opens P (const v) α f η K A = stuck
opens P (ExprForm.var x) α f η K A = goes Rule.var (running (val (get_or η x nothing)) α f η K A)
opens P (apply h (n ∷ ns)) α f η K A = goes (first_name h) (running (reach P f n) α f η (gather h [] ns ∷ K) A)
opens P (apply (op o) []) α f η K A = stuck
opens P (apply (fn g) []) α f η K A = goes Rule.call_none (running (exec (P.fun g).body) α g (entered (P.fun g) []) [] (saved f η K ∷ A))
opens P (ExprForm.and n l) α f η K A = goes Rule.and_first (running (reach P f n) α f η (and l ∷ K) A)
opens P ExprForm.stray α f η K A = stuck

-- the next state where a nop is to be executed; by frame
abbrev pub passes : RunEnv → ℕ → List Value → List Frame → List Saved → Move
passes α f η [] A = stuck
passes α f η (gather h vs ns ∷ K) A = stuck
passes α f η (and l ∷ K) A = stuck
passes α f η (wait s ∷ K) A = goes Rule.nop (running (exec s) α f η K A)
passes α f η (Frame.store x ∷ K) A = stuck
passes α f η (branch a b ∷ K) A = stuck
passes α f η (Frame.leave ∷ K) A = stuck
passes α f η (check ∷ K) A = stuck
passes α f η (Frame.discard ∷ K) A = stuck

-- the next state where a statement is to be executed; by kind
abbrev pub runs : Program → StmtForm → RunEnv → ℕ → List Value → List Frame → List Saved → Move
runs P StmtForm.nop α f η K A = passes α f η K A
runs P (StmtForm.seq a b) α f η K A = goes Rule.seq (running (exec a) α f η (wait b ∷ K) A)
runs P (StmtForm.assign x n) α f η K A = goes Rule.assign (running (reach P f n) α f η (Frame.store x ∷ K) A)
runs P (StmtForm.decl x a) α f η K A = goes Rule.decl (running (exec a) α f (set η x nothing) K A)
runs P (StmtForm.if n a b) α f η K A = goes Rule.if (running (reach P f n) α f η (branch a b ∷ K) A)
runs P (StmtForm.while w n a) α f η K A = goes Rule.while (running (exec (if_of w)) α f η K A)
runs P (StmtForm.return n) α f η K A = goes Rule.return (running (reach P f n) α f η (Frame.leave ∷ K) A)
runs P (StmtForm.assert n) α f η K A = goes Rule.assert (running (reach P f n) α f η (check ∷ K) A)
runs P (StmtForm.expr n) α f η K A = goes Rule.expr (running (reach P f n) α f η (Frame.discard ∷ K) A)
runs P StmtForm.stray α f η K A = stuck

abbrev pub next : Program → State → Move
next P (State.value c) = stuck
next P (exception x) = stuck
next P (calling α o) = goes (entry_name o) (running (exec (P.fun α.entry).body) α α.entry (entered (P.fun α.entry) (arguments o)) [] [])
next P (returned α c) = goes Rule.value (State.value c)
next P (running (val v) α f η K A) = give P v α f η K A
next P (running (eval n) α f η K A) = opens P (P.look f n) α f η K A
next P (running (exec r) α f η K A) = runs P (P.see f r) α f η K A
