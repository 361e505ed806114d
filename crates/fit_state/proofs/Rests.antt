-- The state that a memory holds is fit exactly where the activations that its words stand for are.
use mathlib.Core.Path.{◌≡◌, refl, sym, ap, ◌∙◌}
use mathlib.Core.Bool.{true, false, ◌&&◌, false≢true}
use mathlib.Core.List.{List, ◌++◌}
use mathlib.Core.Option.{Option, none}
use Prim.Native.Nat.{ℕ, suc, ◌+◌, ◌-◌, ◌≤◌, ◌<◌}
use native.Mathlib.Omega.{arith}
use lib.ListN.{length, get_or}
use borrow.Author.Tests.{le-leb}
use Rattle.words.specs.Stacks.{total}
use Rattle.spec_machine.specs.Values.{Value}
use Rattle.spec_machine.specs.Program.{Program}
use Rattle.spec_machine.specs.Machine.{Exception, abort, Frame, Control, Saved, RunEnv, State, exception, calling, returned, running}
use Rattle.spec_machine.specs.Fit.{WithinLimits, caller_limit, frame_limit, saved_frame_count}
use Rattle.spec_machine.specs.Run.{within_limits}
use Rattle.spec_machine.specs.Test.{is_entry, in_words, proper, fit}
use Rattle.spec_image.specs.Image.{head_words, activations_of, frames_of, env_part, image}
use Rattle.spec_image.specs.Decode.{control_of, frames_held, activations_to, held_in, activations_in, frames_in}
use Rattle.spec_image.specs.Narrow.{Narrow}
use Rattle.spec_image.proofs.ValueWords.{control_back}
use Rattle.spec_image.proofs.Images.{few_activations, few_frames, frames_held_lem, head_word_lem, count_in, activations_in_lem, frames_in_lem, decode_image}
use Rattle.fit_state.specs.HoldsState.{HoldsState}
use Rattle.state_words.specs.Meaning.{activation_at}
use Rattle.fit_state.specs.Activations.{at, activation_fit, function_of, frames_under, callers_fit, running_fit, entry_fit}
use Rattle.fit_state.specs.Meaning.{activation_in, frames_to}
use Rattle.fit_state.proofs.Activations.{proper_law}
use Rattle.fit_state.proofs.Lists.{function_of_lem, under-is}
use Rattle.fit_state.proofs.Entries.{entry_in}
use Rattle.fit_state.proofs.StateWords.{Small, small_words}

within_true : (s : State) → WithinLimits s → within_limits s ≡ true
within_true (State.value c) w = refl
within_true (exception x) w = refl
within_true (calling α o) w = refl
within_true (returned α c) w = refl
within_true (running c α f η K A) w = rw (le-leb (1 + length A) caller_limit w.0, le-leb (length K + saved_frame_count A) frame_limit w.1)

-- what is left to test
fit_proper : (P : Program) (s : State) (R : List ℕ) → WithinLimits s → Narrow s → Small (image s ++ R) → fit P s ≡ proper P s
fit_proper P s R w n h =
    let e : in_words s ≡ true = rw (decode_image s w n R) at (small_words (image s ++ R) h) in
    rw (e, within_true s w)

module _ (P : Program) (m : List ℕ) (s : State) (R : List ℕ) (e : m ≡ image s ++ R) (w : WithinLimits s) (n : Narrow s) (h : Small m) where
  fit_left : fit P s ≡ proper P s
  fit_left = fit_proper P s R w n (rw e at h)

-- a state at rest
pub fit_rest : (P : Program) (m : List ℕ) (s : State) (R : List ℕ) → m ≡ image s ++ R → WithinLimits s → Narrow s → Small m → (get_or m 0 0 ≡ 2 → ⊥) → fit P s ≡ entry_fit P s
unfolding head_words
fit_rest P m (State.value c) R e w n h q = fit_left P m (State.value c) R e w n h
fit_rest P m (exception x) R e w n h q = fit_left P m (exception x) R e w n h
fit_rest P m (calling α o) R e w n h q = fit_left P m (calling α o) R e w n h
fit_rest P m (returned α c) R e w n h q = fit_left P m (returned α c) R e w n h
fit_rest P m (running c α f η K A) R e w n h q = absurd (q (rw e (head_word_lem (running c α f η K A) R 0 (omega arith))))

-- a state whose run was started otherwise
pub fit_not : (P : Program) (m : List ℕ) (s : State) (R : List ℕ) → m ≡ image s ++ R → WithinLimits s → Narrow s → Small m → entry_fit P s ≡ false → fit P s ≡ false
fit_not P m (State.value c) R e w n h q = absurd (false≢true (sym q))
fit_not P m (exception x) R e w n h q = absurd (false≢true (sym q))
fit_not P m (calling α o) R e w n h q = fit_left P m (calling α o) R e w n h ∙ q
fit_not P m (returned α c) R e w n h q = fit_left P m (returned α c) R e w n h ∙ q
fit_not P m (running c α f η K A) R e w n h q = fit_left P m (running c α f η K A) R e w n h ∙ rw q

-- a running state
running_law : (P : Program) (c : Control) (α : RunEnv) (f : ℕ) (η : List Value) (K : List Frame) (A : List Saved) (R : List ℕ)
    → let s = running c α f η K A in WithinLimits s → Narrow s
    → let m = image s ++ R in
    proper P s ≡ (is_entry P (get_or m 14721 0) && running_fit P (get_or m 14721 0) (control_of (get_or m 3 0) (get_or m 4 0)) (activations_in m) (frames_in m))
unfolding head_words activations_of frames_of env_part
running_law P c α f η K A R w n =
    let s = running c α f η K A in
    proper_law P c α f η K A
    ∙ rw (activations_in_lem s R n, frames_in_lem s R n w, head_word_lem s R 3 (omega arith), head_word_lem s R 4 (omega arith), control_back c, entry_in s R w α refl)

pub fit_running : (P : Program) (m : List ℕ) (s : State) (R : List ℕ) → m ≡ image s ++ R → WithinLimits s → Narrow s → Small m → get_or m 0 0 ≡ 2
    → is_entry P (get_or m 14721 0) ≡ true → fit P s ≡ running_fit P (get_or m 14721 0) (control_of (get_or m 3 0) (get_or m 4 0)) (activations_in m) (frames_in m)
unfolding head_words
fit_running P m (State.value c) R e w n h q i =
    let z : get_or (image (State.value c) ++ R) 0 0 ≡ 4 = head_word_lem (State.value c) R 0 (omega arith) in
    absurd (omega (arith, ap (λ (l : List ℕ). get_or l 0 0) e))
fit_running P m (exception Exception.arith) R e w n h q i =
    let z : get_or (image (exception Exception.arith) ++ R) 0 0 ≡ 5 = head_word_lem (exception Exception.arith) R 0 (omega arith) in
    absurd (omega (arith, ap (λ (l : List ℕ). get_or l 0 0) e))
fit_running P m (exception abort) R e w n h q i =
    let z : get_or (image (exception abort) ++ R) 0 0 ≡ 6 = head_word_lem (exception abort) R 0 (omega arith) in
    absurd (omega (arith, ap (λ (l : List ℕ). get_or l 0 0) e))
fit_running P m (calling α none) R e w n h q i =
    let z : get_or (image (calling α none) ++ R) 0 0 ≡ 1 = head_word_lem (calling α none) R 0 (omega arith) in
    absurd (omega (arith, ap (λ (l : List ℕ). get_or l 0 0) e))
fit_running P m (calling α (Option.some c)) R e w n h q i =
    let z : get_or (image (calling α (Option.some c)) ++ R) 0 0 ≡ 9 = head_word_lem (calling α (Option.some c)) R 0 (omega arith) in
    absurd (omega (arith, ap (λ (l : List ℕ). get_or l 0 0) e))
fit_running P m (returned α c) R e w n h q i =
    let z : get_or (image (returned α c) ++ R) 0 0 ≡ 3 = head_word_lem (returned α c) R 0 (omega arith) in
    absurd (omega (arith, ap (λ (l : List ℕ). get_or l 0 0) e))
fit_running P m (running c α f η K A) R e w n h q i =
    fit_left P m (running c α f η K A) R e w n h ∙ running_law P c α f η K A R w n ∙ rw (← e, i)

running_some : (s : State) → get_or (head_words s) 0 0 ≡ 2 → 0 < get_or (head_words s) 2 0
unfolding head_words
running_some (State.value c) q = absurd (omega arith)
running_some (exception Exception.arith) q = absurd (omega arith)
running_some (exception abort) q = absurd (omega arith)
running_some (calling α none) q = absurd (omega arith)
running_some (calling α (Option.some n)) q = absurd (omega arith)
running_some (returned α c) q = absurd (omega arith)
running_some (running c α f η K A) q = omega arith

-- what the memory holds lies in its rooms
module _ (m : List ℕ) (h : HoldsState m) where
  pub few : get_or m 2 0 ≤ 32
  few =
      let z : get_or m 2 0 ≡ length (activations_of h.state)
      = rw h.held (head_word_lem h.state h.rest 2 (omega arith) ∙ count_in h.state) in
      omega (arith, few_activations h.state h.within)

  pub fewer : total frames_held (activations_in m) ≤ 512
  fewer =
      let z : total frames_held (activations_in m) ≡ length (frames_of h.state)
      = rw (h.held, activations_in_lem h.state h.rest h.narrow) (frames_held_lem h.state) in
      omega (arith, few_frames h.state h.within)

  -- a running state has an activation
  pub some : get_or m 0 0 ≡ 2 → 0 < get_or m 2 0
  unfolding head_words
  some q =
      let t : get_or (head_words h.state) 0 0 ≡ 2 = sym (head_word_lem h.state h.rest 0 (omega arith)) ∙ (rw h.held at q) in
      let z : get_or m 2 0 ≡ get_or (head_words h.state) 2 0 = rw h.held (head_word_lem h.state h.rest 2 (omega arith)) in
      omega (arith, z, running_some h.state t)

-- ---- the way down from the current activation

module _ (P : Program) (m : List ℕ) (s : State) (R : List ℕ) (e : m ≡ image s ++ R) (w : WithinLimits s) (n : Narrow s) (h : Small m) (tag : get_or m 0 0 ≡ 2) (i : is_entry P (get_or m 14721 0) ≡ true)
    (c : Control) (high : ℕ) (ec : c ≡ control_of (get_or m 3 0) (get_or m 4 0)) (eh : high ≡ held_in m (get_or m 2 0)) (here : 0 < get_or m 2 0) where
  abbrev a : ℕ
  a = get_or m 2 0 - 1

  opened : fit P s ≡ (activation_fit P (at c) (activation_in m a) (frames_to m high) && callers_fit P (get_or m 14721 0) (function_of (activation_in m a)) (activations_to m a) (frames_under (activation_in m a) (frames_to m high)))
  unfolding activations_in frames_in
  opened =
      let z : get_or m 2 0 ≡ suc a = omega arith in
      fit_running P m s R e w n h tag i ∙ rw (← ec, ← eh) (ap (λ (k : ℕ). running_fit P (get_or m 14721 0) c (activations_to m k) (frames_to m high)) z)

  pub fits_less : activation_fit P (at c) (activation_in m a) (frames_to m high) ≡ false → fit P s ≡ false
  fits_less q = opened ∙ rw q

  pub fits_more : (f k : ℕ) → f ≡ get_or m (activation_at a + 0) 0 → k ≡ get_or m (activation_at a + 1) 0 → k ≤ high
      → activation_fit P (at c) (activation_in m a) (frames_to m high) ≡ true → fit P s ≡ callers_fit P (get_or m 14721 0) f (activations_to m a) (frames_to m (high - k))
  fits_more f k ef ek l q = opened ∙ rw (q, function_of_lem m a f ef, under-is m (get_or m 2 0) high here k ek l)
