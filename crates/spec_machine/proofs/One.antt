-- At most one rule applies, in a single way.
use mathlib.Core.Path.{◌≡◌, refl, sym, ◌∙◌}
use mathlib.Core.Bool.{true, false}
use mathlib.Core.List.{List, [], ◌∷◌}
use mathlib.Core.Option.{Option, none, some}
use Prim.Native.Nat.{ℕ}
use lib.ListN.{length}
use Rattle.spec_machine.specs.Values.{Value, nothing, int, truth, result}
use Rattle.spec_machine.specs.Program.{op, fn, ExprForm, const, apply, StmtForm, Program}
use Rattle.spec_machine.specs.Machine.{Frame, gather, and, wait, branch, check, val, eval, exec, State, exception, calling, returned, running, Rule, Event, quiet, reads, has, lacks, enters, leaves, ends, Step, first, enter, op_value, op_arith, and_first, and_false, and_true, call_none, call_entry, assert_true, assert_false, if_true, if_false, leave_entry}
use Rattle.spec_machine.specs.Next.{goes, next}

-- ---- the event of the rule that applies at a state

-- of a function's entry
abbrev entering : Program → ℕ → Event
entering P g = enters (length (P.fun g).params)

-- of an operator's result
abbrev settling : Option Value → Event
settling none = ends
settling (some v) = quiet

abbrev operating : Program → ℕ → List Value → Value → Event
operating P o [] v = quiet
operating P o (nothing ∷ vs) v = quiet
operating P o (truth t ∷ vs) v = quiet
operating P o (int a ∷ (w ∷ vs)) v = quiet
operating P o (int a ∷ []) nothing = quiet
operating P o (int a ∷ []) (truth t) = quiet
operating P o (int a ∷ []) (int b) = settling (result P.edition o a b)

-- of an assert
abbrev checking : Value → Event
checking nothing = quiet
checking (int n) = quiet
checking (truth true) = quiet
checking (truth false) = ends

-- of a value that is given to the frames
abbrev giving : Program → Value → List Frame → Event
giving P v [] = quiet
giving P v (gather (op o) vs [] ∷ K) = operating P o vs v
giving P v (gather (fn g) vs [] ∷ K) = entering P g
giving P v (gather h vs (n ∷ ns) ∷ K) = quiet
giving P v (and l ∷ K) = quiet
giving P v (wait r ∷ K) = quiet
giving P v (Frame.store x ∷ K) = has x
giving P v (branch a b ∷ K) = quiet
giving P v (Frame.leave ∷ K) = leaves
giving P v (check ∷ K) = checking v
giving P v (Frame.discard ∷ K) = quiet

-- of an expression
abbrev opening : Program → ExprForm → Event
opening P (const v) = quiet
opening P (ExprForm.var x) = reads x
opening P (apply (op o) ns) = quiet
opening P (apply (fn g) []) = entering P g
opening P (apply (fn g) (n ∷ ns)) = quiet
opening P (ExprForm.and n l) = quiet
opening P ExprForm.stray = quiet

-- of a statement
abbrev executing : StmtForm → Event
executing StmtForm.nop = quiet
executing (StmtForm.seq a b) = quiet
executing (StmtForm.assign x n) = quiet
executing (StmtForm.decl x a) = lacks x
executing (StmtForm.if n a b) = quiet
executing (StmtForm.while w n a) = quiet
executing (StmtForm.return n) = quiet
executing (StmtForm.assert n) = quiet
executing (StmtForm.expr n) = quiet
executing StmtForm.stray = quiet

abbrev event_of : Program → State → Event
event_of P (State.value c) = quiet
event_of P (exception x) = quiet
event_of P (calling α o) = entering P α.entry
event_of P (returned α c) = ends
event_of P (running (val v) α f η K A) = giving P v K
event_of P (running (eval n) α f η K A) = opening P (P.look f n)
event_of P (running (exec r) α f η K A) = executing (P.see f r)

-- a step is the next state of the function, with the event of the rule that applies
goes_on : {P : Program} {r : Rule} {v : Event} {s t : State} → Step P r v s t → (next P s ≡ goes r t) × (v ≡ event_of P s)
goes_on (first {h = op o} e) = (rw e, rw e)
goes_on (first {h = fn g} e) = (rw e, rw e)
goes_on (Step.next {h = op o}) = (refl, refl)
goes_on (Step.next {h = fn g}) = (refl, refl)
goes_on (op_value e) = (rw e, rw e)
goes_on (op_arith e) = (rw e, rw e)
goes_on (and_first e) = (rw e, rw e)
goes_on and_false = (refl, refl)
goes_on and_true = (refl, refl)
goes_on (Step.var e) = (rw e, rw e)
goes_on (Step.seq e) = (rw e, rw e)
goes_on (Step.nop e) = (rw e, rw e)
goes_on (Step.assign e) = (rw e, rw e)
goes_on Step.store = (refl, refl)
goes_on (Step.decl e) = (rw e, rw e)
goes_on (Step.assert e) = (rw e, rw e)
goes_on assert_true = (refl, refl)
goes_on assert_false = (refl, refl)
goes_on (Step.if e) = (rw e, rw e)
goes_on if_true = (refl, refl)
goes_on if_false = (refl, refl)
goes_on (Step.while e) = (rw e, rw e)
goes_on (Step.expr e) = (rw e, rw e)
goes_on Step.discard = (refl, refl)
goes_on enter = (refl, refl)
goes_on (call_none e) = (rw e, rw e)
goes_on call_entry = (refl, refl)
goes_on (Step.return e) = (rw e, rw e)
goes_on Step.leave = (refl, refl)
goes_on leave_entry = (refl, refl)
goes_on Step.value = (refl, refl)

pub sound : {P : Program} {r : Rule} {v : Event} {s t : State} → Step P r v s t → next P s ≡ goes r t
sound a = (goes_on a).0

-- two steps from one state are of one rule, with one event, and to one state
pub one_rule : {P : Program} {r q : Rule} {v w : Event} {s t u : State} → Step P r v s t → Step P q w s u → (r ≡ q) × (v ≡ w) × (t ≡ u)
one_rule a b =
    let e = sound a in
    let f = sound b in
    (cc, (goes_on a).1 ∙ sym (goes_on b).1, cc)
