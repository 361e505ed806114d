-- A running state is proper exactly where each of its activations is fit.
use mathlib.Core.Path.{◌≡◌, refl, sym, ap, ◌∙◌}
use mathlib.Core.Bool.{Bool, true, false, ◌&&◌, and_comm, and-true, and-false}
use mathlib.Core.List.{List, [], ◌∷◌, ◌++◌}
use Prim.Native.Nat.{ℕ}
use lib.ListN.{length}
use lib.Seq.{take_at, drop_at}
use Rattle.spec_machine.specs.Values.{Value}
use Rattle.spec_machine.specs.Program.{Program, var_types}
use Rattle.spec_machine.specs.Machine.{Frame, Control, Saved, saved, RunEnv, running}
use Rattle.spec_machine.specs.Fit.{held, comes, comes_from}
use Rattle.spec_machine.specs.Test.{has_function, all_hold_typed, takes, control_over, flows, flows_from, is_entry, callers, proper}
use Rattle.spec_image.specs.Layout.{activation}
use Rattle.spec_image.specs.Image.{saved_activations, saved_frames}
use Rattle.fit_frames.proofs.Walk.{caller_walk, current_walk}
use Rattle.fit_state.specs.Activations.{callers_fit, running_fit}

rotated : (h t w c r k : Bool) → (h && (t && (w && (c && (r && k))))) ≡ ((k && (h && (t && (w && c)))) && r)
rotated true true true true r k = and_comm r k ∙ ap (λ (x : Bool). x && r) (sym (and-true k))
rotated true true true false r k = rw (and-false k)
rotated true true false c r k = rw (and-false k)
rotated true false w c r k = rw (and-false k)
rotated false t w c r k = rw (and-false k)

module _ (P : Program) where
  callers_law : (e f : ℕ) (A : List Saved) → callers P e f A ≡ callers_fit P e f (saved_activations A) (saved_frames A)
  unfolding saved_activations saved_frames
  callers_law e f [] = refl
  callers_law e f (saved g θ L ∷ A) =
      let b = all_hold_typed θ (var_types (P.fun g)) in
      let t = (P.fun f).result in
      rotated b (takes P g t L) (flows P g L (held θ)) (comes P g L) (callers P e g A) (has_function P g)
      ∙ rw (caller_walk P g t (held θ) L, callers_law e g A, take_at L (saved_frames A) (length L) refl, drop_at L (saved_frames A) (length L) refl)

  pub proper_law : (c : Control) (α : RunEnv) (f : ℕ) (η : List Value) (K : List Frame) (A : List Saved)
      → proper P (running c α f η K A) ≡ (is_entry P α.entry && running_fit P α.entry c (activation f (length K) η ∷ saved_activations A) (K ++ saved_frames A))
  proper_law c α f η K A =
      ap (λ (b : Bool). is_entry P α.entry && b)
      (and_comm (callers P α.entry f A) (has_function P f && (all_hold_typed η (var_types (P.fun f)) && (control_over P f c K && (flows_from P f c K (held η) && comes_from P f c K))))
      ∙ rw (current_walk P f c (held η) K, callers_law α.entry f A, take_at K (saved_frames A) (length K) refl, drop_at K (saved_frames A) (length K) refl))
