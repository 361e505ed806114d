-- Steps by what they do to the registers, the frames and the limits.
use mathlib.Core.Path.{◌≡◌, refl, sym, ◌∙◌}
use mathlib.Core.Bool.{true, false, and-false, true≢false}
use mathlib.Core.List.{List, ◌∷◌, ◌++◌}
use Prim.Native.Nat.{ℕ, ◌+◌, ◌≤◌, ◌<◌}
use native.Mathlib.Omega.{arith}
use lib.Dec.{leb}
use lib.ListN.{length, length-append}
use borrow.Author.Tests.{le-leb, lt-leb}
use Rattle.spec_machine.specs.Values.{Value}
use Rattle.spec_machine.specs.Machine.{Frame, Control, Saved, RunEnv, Exception, exception, running}
use Rattle.spec_machine.specs.Fit as fit
use Rattle.spec_machine.specs.Run.{within_limits}
use Rattle.spec_image.specs.Image.{saved_frames}
use Rattle.spec_image.specs.Core.{core}
use Rattle.spec_image.proofs.Images.{length_frames}
use Rattle.state_words.specs.declared.Control as code
use Rattle.state_words.specs.Meaning.{control_is}
use Rattle.run_rules.specs.declared.Registers.{Registers}
use Rattle.run_rules.specs.declared.Stepped.{Stepped}
use Rattle.run_rules.specs.declared.Stepped.TheVariants.{Went, Full, Returned, Arith, Abort}
use Rattle.run_rules.specs.StepsTo.{Rest, Describes, StepsTo}

-- ---- limits

module _ (c : Control) (α : RunEnv) (f : ℕ) (η : List Value) (K : List Frame) (A : List Saved) where
  pub within_yes : length A < fit.caller_limit → length K + length (saved_frames A) ≤ fit.frame_limit → within_limits (running c α f η K A) ≡ true
  within_yes a k =
      let n : length K + fit.saved_frame_count A ≤ fit.frame_limit = rw (← length_frames A) k in
      let b : 1 + length A ≤ fit.caller_limit = omega arith in
      rw (le-leb (1 + length A) fit.caller_limit b, le-leb (length K + fit.saved_frame_count A) fit.frame_limit n)

  pub frames_over : fit.frame_limit < length K + length (saved_frames A) → within_limits (running c α f η K A) ≡ false
  frames_over k =
      let n : fit.frame_limit < length K + fit.saved_frame_count A = rw (← length_frames A) k in
      rw (lt-leb (length K + fit.saved_frame_count A) fit.frame_limit n) (and-false (leb (1 + length A) fit.caller_limit))

  pub callers_over : fit.caller_limit ≤ length A → within_limits (running c α f η K A) ≡ false
  callers_over a =
      let b : fit.caller_limit < 1 + length A = omega arith in
      rw (lt-leb (1 + length A) fit.caller_limit b)

-- ---- the head

module _ {s : List ℕ} {h : Registers} {f : ℕ} {K : List Frame} {A : List Saved} (t : Describes s h f K A) where
  -- all frames
  pub counted : h.under + h.frames ≡ length (K ++ saved_frames A)
  counted = omega (arith, t.under, t.frames, length-append K (saved_frames A))

-- the frames under the top one
pub counted_under : {s : List ℕ} {h : Registers} {f : ℕ} {fr : Frame} {K : List Frame} {A : List Saved} → Describes s h f (fr ∷ K) A → (n : ℕ) → n + 1 ≡ h.frames
    → h.under + n ≡ length (K ++ saved_frames A)
counted_under {K} {A} t n e = omega (arith, t.under, t.frames, e, length-append K (saved_frames A))

-- a step within the limits
pub on : (s : List ℕ) (c : code.Control) (h : Registers) (l m : List ℕ) (R : Rest) (α : RunEnv) (f : ℕ) (η : List Value) (K : List Frame) (A : List Saved)
    → m ≡ core f η K A ++ R α → Describes s h f K A → h.callers < fit.caller_limit → h.under + h.frames ≤ fit.frame_limit
    → StepsTo s (Went c h) l m R (running (control_is c) α f η K A)
unfolding StepsTo
on s c h l m R α f η K A e t a k =
    record {
      environment = α;
      function = f;
      variables = η;
      frames = K;
      callers = A;
      is = refl;
      held = e;
      describes = t;
      limits = within_yes (control_is c) α f η K A (omega (arith, t.callers, a)) (omega (arith, t.under, t.frames, k));
    }

-- the head with another number of frames
pub moved : {s : List ℕ} {h : Registers} {f : ℕ} {K : List Frame} {A : List Saved} → Describes s h f K A → (k : ℕ) (L : List Frame) → k ≡ length L
    → Describes s (record { function = h.function; start = h.start; count = h.count; callers = h.callers; frames = k; under = h.under }) f L A
moved t k L e = record { function = t.function; start = t.start; count = t.count; callers = t.callers; frames = e; under = t.under }

-- a frame is laid, or there is no room for it
pub full : (s : List ℕ) (c : Control) (h : Registers) (l : List ℕ) (R : Rest) (α : RunEnv) (f : ℕ) (η : List Value) (fr : Frame) (K : List Frame) (A : List Saved)
    → Describes s h f K A → fit.frame_limit ≤ h.under + h.frames → StepsTo s Full l l R (running c α f η (fr ∷ K) A)
unfolding StepsTo
full s c h l R α f η fr K A t k = (frames_over c α f η (fr ∷ K) A (omega (arith, t.under, t.frames, k)), refl)

-- a running state is no exception
unraised : {x : Exception} (c : Control) (α : RunEnv) (f : ℕ) (η : List Value) (K : List Frame) (A : List Saved) → running c α f η K A ≡ exception x → ⊥
unraised c α f η K A e =
    let z : ◌≡◌ {A = ℕ} 0 1 = cc in
    omega arith

-- a step to a running state within the limits does not depend on the memory before it
pub rebased : (s : List ℕ) (r : Stepped) (l k m : List ℕ) (R : Rest) (c : Control) (α : RunEnv) (f : ℕ) (η : List Value) (K : List Frame) (A : List Saved)
    → let t = running c α f η K A in within_limits t ≡ true → StepsTo s r l m R t → StepsTo s r k m R t
unfolding StepsTo
rebased s (Went d h) l k m R c α f η K A w q = q
rebased s Full l k m R c α f η K A w q = absurd (true≢false (sym w ∙ q.0))
rebased s (Returned v) l k m R c α f η K A w q = q
rebased s Arith l k m R c α f η K A w q = absurd (unraised c α f η K A q.0)
rebased s Abort l k m R c α f η K A w q = absurd (unraised c α f η K A q.0)
