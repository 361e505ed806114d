-- Words that say more activations than the limit of saved callers hold no fit state.
use mathlib.Core.Path.{◌≡◌, refl, ap}
use mathlib.Core.Bool.{true, false}
use mathlib.Core.List.{List, [], ◌∷◌}
use Prim.Native.Nat.{ℕ, suc, ◌<◌}
use native.Mathlib.Omega.{arith}
use lib.ListN.{length, get_or, drop}
use Rattle.records.proofs.Bools.{by}
use Rattle.words.proofs.Entries.{length-entries}
use Rattle.spec_machine.specs.Program.{Program}
use Rattle.spec_machine.specs.Machine.{Frame, Control, RunEnv}
use Rattle.spec_machine.specs.Fit.{caller_limit, WithinLimits}
use Rattle.spec_image.specs.Sizes.{activation_size, activations_at}
use Rattle.spec_image.specs.Layout.{Activation, activation}
use Rattle.spec_image.specs.Decode.{activation_of, callers_of, running_of, control_of, env_of, activations_in, frames_in, states, state_of}
use Rattle.spec_image.specs.Memory.{fit_words}
use Rattle.spec_image.proofs.Memory.{holds_fit}

-- each activation under the current one is a caller
pub length_callers : (X : List Activation) (K : List Frame) → length (callers_of X K) ≡ length X
unfolding callers_of
length_callers [] K = refl
length_callers (activation f k η ∷ X) K = ap suc (length_callers X (drop k K))

-- more activations than the limit pass it, main's empty caller being counted
passes_limit : (c : Control) (α : RunEnv) (X : List Activation) (K : List Frame) → caller_limit < length X → ¬ WithinLimits (running_of c α X K)
unfolding running_of
passes_limit c α [] K h w = absurd (omega arith)
passes_limit c α (activation f k η ∷ X) K h w = absurd (omega (arith, length_callers X (drop k K), w.0))

pub deep_unfit : (P : Program) (m : List ℕ) → get_or m 0 0 ≡ 2 → caller_limit < get_or m 2 0 → fit_words P m ≡ false
unfolding state_of states activations_in
deep_unfit P m running h = by (fit_words P m) fit (λ e. e)
  where
    deep : ¬ WithinLimits (state_of m)
    deep = rw running (passes_limit (control_of (get_or m 3 0) (get_or m 4 0)) (env_of m) (activations_in m) (frames_in m) (omega (arith, length-entries activation_size activation_of m activations_at (get_or m 2 0))))

    fit : fit_words P m ≡ true → fit_words P m ≡ false
    fit e = absurd (deep (holds_fit P m e).1.within)
