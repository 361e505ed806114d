use native.Mathlib.Omega.{arith}
use Prim.Native.Nat.{◌-◌}
use Rattle.state_words.specs.Meaning.{control_is}
use Rattle.run_step.proofs.FitStates.{laid, cut, bounds, evaluates, executes, waiting, nothing_hand, int_hand, truth_hand, at_fit_val, at_fit_eval, at_fit_exec, val_done, eval_done, exec_done}
use Rattle.run_step.proofs.step.Goals.{in-Nothing, in-Int, in-Truth}
use Rattle.run_step.proofs.step.Goals as goal

pub overflow_mul-e : goal.overflow_mul-e
overflow_mul-e c = omega (arith, (laid c.args.file.now c.args.starts.now (control_is c.args.c) c.args.h c.args.m.now c.requires.0).1)

pub overflow_add-e : goal.overflow_add-e
overflow_add-e c = let q = (laid c.args.file.now c.args.starts.now (control_is c.args.c) c.args.h c.args.m.now c.requires.0) in omega (arith, q.0, q.1)

pub slice_bounds-part-end : goal.slice_bounds-part-end
slice_bounds-part-end c = (laid c.args.file.now c.args.starts.now (control_is c.args.c) c.args.h c.args.m.now c.requires.0).0

pub open-requires : goal.open-requires
open-requires c = let e = evaluates c.args.file.now c.args.starts.now _ c.args.h c.args.m.now (cut c.args.file.now c.args.starts.now (control_is c.args.c) c.args.h c.args.m.now c.requires.0) _ (at_fit_eval _ _ _ _ _ _ c.in-Eval.is c.requires.0) in ((bounds c.args.file.now c.args.starts.now (control_is c.args.c) c.args.h c.args.m.now c.requires.0 c.requires.1), c.requires.0.starts, e.0, e.1, e.2)

pub returns-in-Eval : goal.returns-in-Eval
returns-in-Eval c α f η K A R e t fit = eval_done _ _ _ _ _ R α f η K A _ _ _ c.in-Eval.is t (cut c.args.file.now c.args.starts.now (control_is c.args.c) c.args.h c.args.m.now c.requires.0) fit (λ i k. c.«open».ensures α f η K A R e t c.requires.0.passed i k)

pub execute-requires : goal.execute-requires
execute-requires c = let e = at_fit_exec _ _ _ _ _ _ c.in-Exec.is c.requires.0 in record { bounds = ((bounds c.args.file.now c.args.starts.now (control_is c.args.c) c.args.h c.args.m.now c.requires.0 c.requires.1), executes c.args.file.now c.args.starts.now _ c.args.h c.args.m.now (cut c.args.file.now c.args.starts.now (control_is c.args.c) c.args.h c.args.m.now c.requires.0) _ e); waits = waiting _ _ _ _ _ e }

pub returns-in-Exec : goal.returns-in-Exec
returns-in-Exec c α f η K A R e t fit = exec_done _ _ _ _ _ R α f η K A _ _ _ c.in-Exec.is t (cut c.args.file.now c.args.starts.now (control_is c.args.c) c.args.h c.args.m.now c.requires.0) fit (λ i k. c.execute.ensures _ α f η K A R e t c.requires.0.passed i k)

pub give-requires : goal.give-requires
give-requires c = (at_fit_val _ _ _ _ _ _ (elim c.match-c.branch [ in-Nothing x ↦ nothing_hand _ _ x.in-Nothing.is x.v-is | in-Int x ↦ int_hand _ _ _ x.in-Int.is x.v-is | in-Truth x ↦ truth_hand _ _ _ x.in-Truth.is x.v-is ]) c.requires.0, (cut c.args.file.now c.args.starts.now (control_is c.args.c) c.args.h c.args.m.now c.requires.0), c.requires.1)

pub returns : goal.returns
returns c α f η K A R e t fit = val_done _ _ _ _ _ R α f η K A _ _ (elim c.match-c.branch [ in-Nothing x ↦ nothing_hand _ _ x.in-Nothing.is x.v-is | in-Int x ↦ int_hand _ _ _ x.in-Int.is x.v-is | in-Truth x ↦ truth_hand _ _ _ x.in-Truth.is x.v-is ]) e t fit (λ fr L i j k. c.give.ensures α f η fr L A R i j k)
