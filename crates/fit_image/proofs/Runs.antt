-- The running state of activations and frames, and what a head that passes says.
use mathlib.Core.Path.{◌≡◌, refl, sym, ap, ◌∙◌}
use mathlib.Core.Bool.{true, ◌&&◌, false≢true}
use mathlib.Core.List.{List, [], ◌∷◌}
use Prim.Native.Nat.{ℕ, zero, suc, ◌-◌, ◌≤◌}
use native.Mathlib.Omega.{arith}
use lib.Dec.{eqb, leb}
use lib.ListN.{length, get_or, take, drop, replicate, length-drop, take-append-drop}
use lib.Seq.{take-add, length-take-le}
use borrow.Author.Tests.{eqb-true, leb-true}
use Rattle.words.specs.Blocks.{all_zero}
use Rattle.words.specs.Stacks.{total}
use Rattle.words.proofs.Tests.{both}
use Rattle.spec_machine.specs.Machine.{Frame, Control, RunEnv}
use Rattle.spec_machine.specs.Fit as fit
use Rattle.spec_machine.specs.Fit.{WithinLimits, caller_limit, frame_limit}
use Rattle.spec_image.specs.Layout.{control_words, Activation, activation, env_words}
use Rattle.spec_image.specs.Image.{saved_activations, saved_frames, head_words, activations_of, frames_of, env_part}
use Rattle.spec_image.specs.Decode.{frames_held, callers_of, running_of}
use Rattle.spec_image.proofs.Images.{length_frames}
use Rattle.spec_image.proofs.Depth.{length_callers}
use Rattle.fit_image.specs.MemoryTest.{tag_ok}
use Rattle.fit_image.proofs.BlockTests.{zeros}

-- ---- activations and frames as a running state

-- callers cut out of frames that are as many as the callers hold
callers_cut : (X : List Activation) (F : List Frame) → length F ≡ total frames_held X
    → (saved_activations (callers_of X F) ≡ X) × (saved_frames (callers_of X F) ≡ F)
unfolding saved_activations saved_frames callers_of frames_held
callers_cut [] [] h = (refl, refl)
callers_cut [] (f ∷ F) h = absurd (omega arith)
callers_cut (activation f k η ∷ X) F h =
    let n : length (take k F) ≡ k = length-take-le k F (omega arith) in
    let i = callers_cut X (drop k F) (simp length-drop (omega arith)) in
    (rw (n, i.0), rw i.1 (take-append-drop k F))

module _ (c : Control) (α : RunEnv) where
  -- what the running state of activations and frames has
  pub record Runs (X : List Activation) (F : List Frame) : Type 0 where
    pub activations : activations_of (running_of c α X F) ≡ X
    pub frames : frames_of (running_of c α X F) ≡ F
    pub head : head_words (running_of c α X F) ≡ 2 ∷ 0 ∷ length X ∷ control_words c
    pub env : env_part (running_of c α X F) ≡ env_words α
    pub within : length X ≤ caller_limit → length F ≤ frame_limit → WithinLimits (running_of c α X F)

  pub runs : (X : List Activation) (F : List Frame) → 1 ≤ length X → length F ≡ total frames_held X → Runs X F
  unfolding activations_of frames_of head_words env_part running_of frames_held
  runs [] F p h = absurd (omega arith)
  runs (activation f k η ∷ X) F p h =
      let n : length (take k F) ≡ k = length-take-le k F (omega arith) in
      let d : length (drop k F) ≡ length F - k = length-drop k F in
      let i = callers_cut X (drop k F) (omega arith) in
      let a = length_callers X (drop k F) in
      let b : fit.saved_frame_count (callers_of X (drop k F)) ≡ length F - k = sym (length_frames (callers_of X (drop k F))) ∙ ap length i.1 ∙ d in
      record {
        activations = rw (n, i.0);
        frames = rw i.1 (take-append-drop k F);
        head = rw a;
        env = refl;
        within = λ u v. (omega (arith, a), omega (arith, n, b));
      }

-- ---- the head

five_words : (l : List ℕ) → 5 ≤ length l → take 5 l ≡ get_or l 0 0 ∷ get_or l 1 0 ∷ get_or l 2 0 ∷ get_or l 3 0 ∷ get_or l 4 0 ∷ []
five_words [] h = absurd (omega arith)
five_words (a ∷ []) h = absurd (omega arith)
five_words (a ∷ b ∷ []) h = absurd (omega arith)
five_words (a ∷ b ∷ c ∷ []) h = absurd (omega arith)
five_words (a ∷ b ∷ c ∷ d ∷ []) h = absurd (omega arith)
five_words (a ∷ b ∷ c ∷ d ∷ e ∷ l) h = refl

pub head_sound : (l : List ℕ) → 128 ≤ length l → all_zero (take 123 (drop 5 l)) ≡ true
    → take 128 l ≡ get_or l 0 0 ∷ get_or l 1 0 ∷ get_or l 2 0 ∷ get_or l 3 0 ∷ get_or l 4 0 ∷ replicate 123 0
head_sound l h e =
    let z : take 123 (drop 5 l) ≡ replicate 123 0 = zeros (take 123 (drop 5 l)) 123 (length-take-le 123 (drop 5 l) (simp length-drop (omega arith))) e in
    take-add 5 123 l ∙ rw (five_words l (omega arith), z)

-- a state that does not run has no control and no activations
pub plain : (c f w : ℕ) → eqb c 0 && (eqb f 0 && eqb w 0) ≡ true → (c ≡ 0) × (f ≡ 0) × (w ≡ 0)
plain c f w e =
    let t = both (eqb c 0) (eqb f 0 && eqb w 0) e in
    let u = both (eqb f 0) (eqb w 0) t.1 in
    (eqb-true c 0 t.0, eqb-true f 0 u.0, eqb-true w 0 u.1)

pub few_said : (t i c f w : ℕ) → tag_ok t i c f w ≡ true → c ≤ caller_limit
unfolding tag_ok
few_said zero i c f w e = absurd (false≢true e)
few_said (suc zero) i c f w e = omega (arith, (plain c f w (both (eqb i 0) _ e).1).0)
few_said (suc (suc zero)) i c f w e = leb-true c caller_limit (both (leb c caller_limit) _ (both (leb 1 c) _ (both (eqb i 0) _ e).1).1).0
few_said (suc (suc (suc zero))) i c f w e = omega (arith, (plain c f w e).0)
few_said (suc (suc (suc (suc zero)))) i c f w e = omega (arith, (plain c f w e).0)
few_said (suc (suc (suc (suc (suc zero))))) i c f w e = omega (arith, (plain c f w (both (eqb i 0) _ e).1).0)
few_said (suc (suc (suc (suc (suc (suc zero)))))) i c f w e = omega (arith, (plain c f w (both (eqb i 0) _ e).1).0)
few_said (suc (suc (suc (suc (suc (suc (suc zero))))))) i c f w e = absurd (false≢true e)
few_said (suc (suc (suc (suc (suc (suc (suc (suc zero)))))))) i c f w e = absurd (false≢true e)
few_said (suc (suc (suc (suc (suc (suc (suc (suc (suc zero))))))))) i c f w e = omega (arith, (plain c f w e).0)
few_said (suc (suc (suc (suc (suc (suc (suc (suc (suc (suc t)))))))))) i c f w e = absurd (false≢true e)
