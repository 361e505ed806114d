-- What a fit state has on its top where a value is at hand.
use mathlib.Core.Path.{◌≡◌, refl, sym, ap, ◌∙◌}
use mathlib.Core.List.{List, [], ◌∷◌, ◌++◌, map}
use Prim.Native.Nat.{ℕ, suc, ◌+◌, ◌-◌, ◌≤◌, ◌<◌}
use native.Mathlib.Omega.{arith}
use lib.ListN.{length, get_or, length-append, length-map}
use borrow.Author.Tests.{ltb-true}
use Rattle.records.specs.Fields.{functions, params_of, vars_of, count_of}
use Rattle.records.specs.Parts.{part_of}
use Rattle.spec_language.specs.Check.{accepted, check_of}
use Rattle.spec_language.specs.Types as types
use Rattle.spec_language.proofs.Accept.{accepted_is, function}
use Rattle.spec_machine.specs.Values.{Value, nothing, int, truth, Ty, t_int, t_bool, type_v}
use Rattle.spec_machine.specs.Program.{Operation, op, fn}
use Rattle.spec_machine.specs.Machine.{Frame, gather, and, val, Saved, saved, RunEnv, running}
use Rattle.spec_machine.specs.Fit.{Fit}
use Rattle.spec_machine.specs.File.{fun_of, program_of}
use Rattle.spec_machine.proofs.Files.{accepted_program}
use Rattle.spec_machine.proofs.Operands.{types_length}
use Rattle.spec_image.specs.Image.{frames_of}
use Rattle.spec_image.proofs.Sized.{file_sized, fit_narrow}
use Rattle.spec_machine.proofs.Moves.{entry_gives}
use Rattle.run_step.proofs.Facts.{variables_few, variable_held}

-- two ints
pub record Ints (vs : List Value) (v : Value) (o : ℕ) : Type 0 where
  pub first : ℕ
  pub second : ℕ
  pub stored : vs ≡ int first ∷ []
  pub hand : v ≡ int second
  pub known : o < 16

-- a value of type int is one
pub record Int (v : Value) : Type 0 where
  pub word : ℕ
  pub is : v ≡ int word

pub int_typed : (v : Value) → type_v v ≡ t_int → Int v
int_typed nothing e = absurd (let z : ◌≡◌ {A = ℕ} 0 1 = e in omega arith)
int_typed (int n) e = record { word = n; is = refl }
int_typed (truth b) e = absurd (let z : ◌≡◌ {A = ℕ} 2 1 = e in omega arith)

module _ (s : List ℕ) (passed : check_of s ≡ accepted) (α : RunEnv) (f : ℕ) (η : List Value) (v : Value) (K : List Frame) (A : List Saved) where
  abbrev At : Frame → Type 0
  At fr = Fit (program_of s) (running (val v) α f η (fr ∷ K) A)

  -- an operator's operands
  pub ints : (o : ℕ) (vs : List Value) (ns : List ℕ) → At (gather (op o) vs ns) → ns ≡ [] → Ints vs v o
  ints o vs ns fit none =
      let t = fit.proper.frames in
      both vs (t.0 ∙ rw none) t.3
    where
      both : (vs : List Value) → t_int ∷ t_int ∷ [] ≡ map type_v vs ++ (type_v v ∷ []) → o < 16 → Ints vs v o
      both [] e k = absurd (let z : ◌≡◌ {A = ℕ} 2 1 = ap length e in omega arith)
      both (w ∷ []) e k =
          let a = int_typed w (sym (ap (λ (l : List Ty). get_or l 0 0) e)) in
          let b = int_typed v (sym (ap (λ (l : List Ty). get_or l 1 0) e)) in
          record { first = a.word; second = b.word; stored = ap (λ (x : Value). x ∷ []) a.is; hand = b.is; known = k }
      both (w ∷ (x ∷ vs)) e k = absurd (let z : 2 ≡ length (map type_v (w ∷ x ∷ vs) ++ (type_v v ∷ [])) = ap length e in omega (arith, length-append (map type_v vs) (type_v v ∷ [])))

  -- a call's arguments
  pub arguments : (g : ℕ) (vs : List Value) (ns : List ℕ) → At (gather (fn g) vs ns) → ns ≡ []
      → (g < functions s) × (params_of s g ≡ suc (length vs)) × (suc (length vs) ≤ vars_of s g) × (length vs ≤ 7)
  unfolding program_of fun_of
  arguments g vs ns fit none =
      let t = fit.proper.frames in
      let k : g < functions s = t.3 in
      let q : (fun_of s g).params ≡ map type_v vs ++ (type_v v ∷ []) = t.0 ∙ rw none in
      let e : length (fun_of s g).params ≡ length vs + 1 = ap length q ∙ simp (length-append, length-map) in
      let p : params_of s g ≡ suc (length vs) = sym (types_length (types.var_type s g (part_of s g) (count_of s g)) (params_of s g) 0) ∙ e ∙ omega arith in
      let w = function s (accepted_is s passed) g k in
      (k, p, omega (arith, p, w.least), omega (arith, p, w.params))

  -- an operand that waits
  pub waits : (h : Operation) (vs : List Value) (e : ℕ) (ns : List ℕ) → At (gather h vs (e ∷ ns)) → (length vs + suc (length ns) ≤ 7) × (e < count_of s f)
  unfolding frames_of program_of
  waits h vs e ns fit = ((fit_narrow (program_of s) (file_sized s passed) _ fit).frames.0, ltb-true _ _ fit.proper.frames.1.0.0)

  pub conjunct : (n : ℕ) → At (and n) → (type_v v ≡ t_bool) × (n < count_of s f)
  unfolding program_of
  conjunct n fit = let t = fit.proper.frames in (t.0, ltb-true _ _ t.1.0)

  pub assigned : (x : ℕ) → At (Frame.store x) → (x < length η) × (length η ≤ 64)
  assigned x fit = (variable_held s passed (val v) α f η (Frame.store x ∷ K) A fit x fit.proper.frames.1, variables_few s passed (val v) α f η (Frame.store x ∷ K) A fit)

  -- what is left: the entry function with an int, or a function for its caller
  pub main_int : At Frame.leave → A ≡ [] → Int v
  main_int fit e =
      let z : f ≡ α.entry = (rw e at fit).proper.callers in
      int_typed v (fit.proper.frames.0 ∙ rw z (entry_gives (program_of s) (accepted_program s passed) fit.proper.entry))

  pub caller_known : At Frame.leave → (g : ℕ) (θ : List Value) (L : List Frame) (B : List Saved) → A ≡ saved g θ L ∷ B → g < functions s
  unfolding program_of
  caller_known fit g θ L B e = (rw e at fit).proper.callers.5
