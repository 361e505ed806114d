-- Question 16: the words of a memory pass the test exactly where they hold the image of a fit state, and of one alone.
use mathlib.Core.Path.{◌≡◌, sym, ap, ◌∙◌}
use mathlib.Core.Bool.{true}
use mathlib.Core.List.{List, ◌++◌}
use Prim.Native.Nat.{ℕ, ◌≤◌}
use native.Mathlib.Omega.{arith}
use lib.ListN.{length, get_or, take, drop, replicate, length-take, take-append-drop}
use lib.Seq.{take_at, drop_at}
use Rattle.words.specs.Blocks.{eq_words}
use Rattle.words.proofs.Tests.{same_eq, eq-same}
use Rattle.records.proofs.Bools.{and_left, and_right}
use Rattle.spec_machine.specs.Program.{Program}
use Rattle.spec_machine.specs.Machine.{State}
use Rattle.spec_machine.specs.Fit.{WithinLimits, Fit}
use Rattle.spec_machine.proofs.Says.{Says}
use Rattle.spec_machine.proofs.Tests.{fit_says}
use Rattle.spec_image.specs.Image.{image}
use Rattle.spec_image.specs.Decode.{state_of}
use Rattle.spec_image.specs.Sizes.{size}
use Rattle.spec_image.specs.Memory.{Holds, fit_words}
use Rattle.spec_image.proofs.BlockLengths.{zeros_at}
use Rattle.spec_image.specs.Narrow.{Narrow}
use Rattle.spec_image.proofs.Images.{image_length, decode_image, image_inj, marked}
use Rattle.spec_image.proofs.Sized.{Sized, fit_narrow}

-- a memory that holds a state is its image, and what follows it
pub held_whole : (m : List ℕ) (s : State) → Holds m s → m ≡ image s ++ drop size m
held_whole m s h = sym (take-append-drop size m) ∙ rw h

pub held_length : (m : List ℕ) (s : State) → WithinLimits s → Holds m s → size ≤ length m
held_length m s w h = omega (arith, sym (length-take size m) ∙ ap length h ∙ image_length s w)

-- an image and what follows it hold the state
pub whole_held : (s : State) (R : List ℕ) → WithinLimits s → Holds (image s ++ R) s × (drop size (image s ++ R) ≡ R)
whole_held s R w = (take_at (image s) R size (image_length s w), drop_at (image s) R size (image_length s w))

-- the state that a memory holds is the state that its words stand for
pub held_state : (m : List ℕ) (s : State) → WithinLimits s → Narrow s → Holds m s → state_of m ≡ s
held_state m s w n h = ap state_of (held_whole m s h) ∙ decode_image s w n (drop size m)

-- zeros hold no state
pub zeros_hold_none : (n : ℕ) (s : State) → Holds (replicate n 0) s → ⊥
zeros_hold_none n s h =
    let l : List ℕ = replicate n 0 in
    let z : get_or l 0 0 ≡ 0 = zeros_at n 0 in
    let e : get_or l 0 0 ≡ get_or (image s ++ drop size l) 0 0 = ap (λ (k : List ℕ). get_or k 0 0) (held_whole l s h) in
    omega (arith, marked s (drop size l))

module _ (P : Program) (m : List ℕ) where
  -- words that pass are the image of a fit state
  pub holds_fit : fit_words P m ≡ true → Holds m (state_of m) × Fit P (state_of m)
  unfolding fit_words
  holds_fit e = (same_eq (take size m) (image (state_of m)) (and_left (eq_words (take size m) (image (state_of m))) _ e), (fit_says P (state_of m)).so (and_right (eq_words (take size m) (image (state_of m))) _ e))

  module _ (z : Sized P) where
    -- the image of a fit state passes
    pub fit_holds : (s : State) → Fit P s → Holds m s → fit_words P m ≡ true
    unfolding fit_words
    fit_holds s f h = rw (held_state m s f.within (fit_narrow P z s f) h, h, eq-same (image s)) ((fit_says P s).if f)

    -- a memory holds the image of one fit state at most
    pub one_state : (s t : State) → Fit P s → Fit P t → Holds m s → Holds m t → s ≡ t
    one_state s t f g h k = image_inj s t f.within (fit_narrow P z s f) g.within (fit_narrow P z t g) (sym h ∙ k)

    -- question 16
    pub sixteen_says : Says (fit_words P m) ((s : State) × (Holds m s × Fit P s))
    sixteen_says = record { so = λ e. (state_of m, holds_fit e); if = λ h. fit_holds h.0 h.1.1 h.1.0 }

-- the image of a fit state passes, whatever follows it
pub image_passes : (P : Program) → Sized P → (s : State) (R : List ℕ) → Fit P s → fit_words P (image s ++ R) ≡ true
image_passes P z s R f = fit_holds P (image s ++ R) z s f (whole_held s R f.within).0
