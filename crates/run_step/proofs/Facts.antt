-- What a fit state has at hand for its step.
use mathlib.Core.Path.{◌≡◌, sym}
use mathlib.Core.List.{List}
use Prim.Native.Nat.{ℕ, ◌≤◌, ◌<◌}
use lib.ListN.{length}
use borrow.Author.Tests.{ltb-true}
use Rattle.records.specs.Fields.{params_of, kind_at, a_at, b_at}
use Rattle.records.specs.Parts.{part_of}
use Rattle.spec_language.specs.Check.{accepted, check_of}
use Rattle.spec_language.proofs.Accept.{accepted_is}
use Rattle.spec_language.proofs.Facts.{call_fields}
use Rattle.spec_language.proofs.Typings.{fields_at}
use Rattle.spec_machine.specs.Values.{Value}
use Rattle.spec_machine.specs.Program.{Ref, node, StmtForm, var_types}
use Rattle.spec_machine.specs.Machine.{Frame, Control, eval, exec, Saved, RunEnv, running}
use Rattle.spec_machine.specs.Fit.{Fit, Var}
use Rattle.spec_machine.specs.File.{look_at, form_at, see_at, program_of}
use Rattle.spec_machine.proofs.Holding.{holds_length}
use Rattle.spec_machine.proofs.Accepted.{GoodE, GoodS}
use Rattle.spec_machine.proofs.Files.{accepted_program}
use Rattle.spec_image.proofs.Sized.{file_sized}
use Rattle.run_step.proofs.Levels.{look_variable}

module _ (s : List ℕ) (passed : check_of s ≡ accepted) (c : Control) (α : RunEnv) (f : ℕ) (η : List Value) (K : List Frame) (A : List Saved)
    (fit : Fit (program_of s) (running c α f η K A)) where
  -- it has at most 64 variables
  pub variables_few : length η ≤ 64
  variables_few =
      let p = fit.proper in
      rw (holds_length η (var_types ((program_of s).fun f)) p.holds) ((file_sized s passed).vars f p.known)

  pub variable_held : (x : ℕ) → Var (program_of s) f x → x < length η
  variable_held x v = rw (holds_length η (var_types ((program_of s).fun f)) fit.proper.holds) v

-- the variable read, and the variable declared
pub reads_variable : (s : List ℕ) → check_of s ≡ accepted → (α : RunEnv) (f : ℕ) (η : List Value) (K : List Frame) (A : List Saved) (i : ℕ)
    → Fit (program_of s) (running (eval i) α f η K A) → kind_at (part_of s f) i ≡ 2 → b_at (part_of s f) i < length η
unfolding program_of
reads_variable s passed α f η K A i fit e =
    let g : GoodE (program_of s) f (look_at (part_of s f) i) = (accepted_program s passed).exprs f i fit.proper.frames.0 in
    variable_held s passed (eval i) α f η K A fit _ (rw (look_variable (part_of s f) i e) at g)

pub decl_variable : (s : List ℕ) → check_of s ≡ accepted → (α : RunEnv) (f : ℕ) (η : List Value) (K : List Frame) (A : List Saved) (i x : ℕ) (r : Ref)
    → Fit (program_of s) (running (exec (node i)) α f η K A) → form_at (part_of s f) i ≡ StmtForm.decl x r → x < length η
unfolding program_of see_at
decl_variable s passed α f η K A i x r fit e =
    let g : GoodS (program_of s) f (form_at (part_of s f) i) = (accepted_program s passed).stmts f (node i) fit.proper.frames.0 in
    variable_held s passed (exec (node i)) α f η K A fit x (rw e at g).0

-- a call has as many arguments as its function has parameters
pub call_params : (s : List ℕ) → check_of s ≡ accepted → (α : RunEnv) (f : ℕ) (η : List Value) (K : List Frame) (A : List Saved) (i : ℕ)
    → Fit (program_of s) (running (eval i) α f η K A) → kind_at (part_of s f) i ≡ 5 → params_of s (b_at (part_of s f) i) ≡ a_at (part_of s f) i
unfolding program_of
call_params s passed α f η K A i fit e =
    let p = fit.proper in
    sym (call_fields s f (a_at (part_of s f) i) (b_at (part_of s f) i) (fields_at s (accepted_is s passed) f p.known i 5 (ltb-true _ _ p.frames.0.0) e)).1
