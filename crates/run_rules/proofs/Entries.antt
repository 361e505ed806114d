-- Functions entered and left: the variables, the head and the limits.
use mathlib.Core.Path.{◌≡◌, refl, sym, ap, ◌∙◌}
use mathlib.Core.List.{List, [], ◌∷◌, ◌++◌}
use Prim.Native.Nat.{ℕ, suc, ◌+◌, ◌*◌, ◌-◌, ◌≤◌, ◌<◌}
use native.Mathlib.Omega.{arith}
use lib.ListN.{length, replicate, length-append}
use Rattle.records.specs.Fields.{params_of, vars_of, count_of}
use Rattle.records.specs.Parts.{start_of, part_of}
use Rattle.spec_language.specs.Types as types
use Rattle.spec_machine.specs.Values.{Value, nothing}
use Rattle.spec_machine.specs.Machine.{Frame, Control, Saved, saved, RunEnv, running, entered, blank}
use Rattle.spec_machine.specs.Fit.{caller_limit, frame_limit}
use Rattle.spec_machine.specs.File.{fun_of}
use Rattle.spec_machine.proofs.Operands.{types_length}
use Rattle.spec_image.specs.Image.{saved_frames}
use Rattle.spec_image.specs.Core.{core}
use Rattle.spec_image.proofs.Calls.{blank_is}
use Rattle.state_words.specs.declared.Control as code
use Rattle.state_words.specs.Meaning.{control_is}
use Rattle.run_rules.specs.declared.Registers.{Registers}
use Rattle.run_rules.specs.declared.Stepped.TheVariants.{Went, Full}
use Rattle.run_rules.specs.StepsTo.{Rest, Describes, StepsTo}
use Rattle.run_rules.proofs.Steps.{on, callers_over}

-- the variables that are no parameters
locals_blank : (s : List ℕ) (g : ℕ) → blank (fun_of s g).locals ≡ replicate (vars_of s g - params_of s g) nothing
unfolding fun_of
locals_blank s g =
    let n : length (fun_of s g).locals ≡ vars_of s g - params_of s g = types_length (types.var_type s g (part_of s g) (count_of s g)) (vars_of s g - params_of s g) (params_of s g) in
    blank_is (fun_of s g).locals ∙ rw n

-- at entry without arguments, and with some
pub entered_none : (s : List ℕ) (g : ℕ) → params_of s g ≡ 0 → replicate (vars_of s g) nothing ≡ entered (fun_of s g) []
entered_none s g e =
    let n : vars_of s g - params_of s g ≡ vars_of s g = omega arith in
    sym (locals_blank s g ∙ rw n)

pub entered_some : (s : List ℕ) (g y : ℕ) (vs : List Value) → params_of s g ≡ suc y → vs ++ replicate (vars_of s g - suc y) nothing ≡ entered (fun_of s g) vs
entered_some s g y vs e = ap (λ (l : List Value). vs ++ l) (sym (locals_blank s g ∙ rw e))

-- the head of the function entered
pub entered_describes : (s : List ℕ) (f : ℕ) (η : List Value) (K : List Frame) (A : List Saved) (g st n a u : ℕ)
    → st ≡ 12 * start_of s g → n ≡ count_of s g → a ≡ suc (length A) → u ≡ length (K ++ saved_frames A)
    → Describes s (record { function = g; start = st; count = n; callers = a; frames = 0; under = u }) g [] (saved f η K ∷ A)
unfolding saved_frames
entered_describes s f η K A g st n a u hs hn ha hu = record { function = refl; start = hs; count = hn; callers = ha; frames = refl; under = hu }

-- the head of the function left for
pub left_describes : (s : List ℕ) (h : Registers) (f : ℕ) (J : List Frame) (g : ℕ) (θ : List Value) (L : List Frame) (A : List Saved) (r st n a k u : ℕ)
    → Describes s h f J (saved g θ L ∷ A) → r ≡ g → st ≡ 12 * start_of s g → n ≡ count_of s g → a + 1 ≡ h.callers → k ≡ length L → u ≡ h.under - k
    → Describes s (record { function = r; start = st; count = n; callers = a; frames = k; under = u }) g L A
unfolding saved_frames
left_describes s h f J g θ L A r st n a k u t hr hs hn ha hk hu =
    record {
      function = hr;
      start = hs;
      count = hn;
      callers = omega (arith, t.callers);
      frames = hk;
      under = omega (arith, t.under, length-append L (saved_frames A));
    }

-- a step within the limits, by its control and its variables
pub on_is : (s : List ℕ) (c : code.Control) (h : Registers) (l m : List ℕ) (R : Rest) (α : RunEnv) (k : Control) (f : ℕ) (η θ : List Value) (K : List Frame) (A : List Saved)
    → control_is c ≡ k → θ ≡ η → m ≡ core f θ K A ++ R α → Describes s h f K A → h.callers < caller_limit → h.under + h.frames ≤ frame_limit
    → StepsTo s (Went c h) l m R (running k α f η K A)
on_is s c h l m R α k f η θ K A q v e t a n = rw (← q, ← v) (on s c h l m R α f θ K A e t a n)

-- no function is entered past the limit
pub entered_full : (s : List ℕ) (k : Control) (h : Registers) (l : List ℕ) (R : Rest) (α : RunEnv) (f g : ℕ) (η θ : List Value) (J K : List Frame) (A : List Saved)
    → Describes s h f J A → caller_limit - 1 ≤ h.callers → StepsTo s Full l l R (running k α g θ [] (saved f η K ∷ A))
unfolding StepsTo
entered_full s k h l R α f g η θ J K A t a = (callers_over k α g θ [] (saved f η K ∷ A) (omega (arith, t.callers)), refl)

-- the callers and the frames of the caller
module _ {s : List ℕ} {h : Registers} {f : ℕ} {J : List Frame} {g : ℕ} {θ : List Value} {L : List Frame} {A : List Saved} (t : Describes s h f J (saved g θ L ∷ A)) where
  pub left_callers : (a : ℕ) → a + 1 ≡ h.callers → a ≡ length A
  left_callers a e = omega (arith, t.callers)

  pub left_under : h.under ≡ length L + length (saved_frames A)
  unfolding saved_frames
  left_under = t.under ∙ length-append L (saved_frames A)
