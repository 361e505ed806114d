-- Words below 2^32 stand for a state whose ints are words.
use mathlib.Core.Path.{◌≡◌, refl, ◌∙◌}
use mathlib.Core.Bool.{Bool, true, false}
use mathlib.Core.List.{List, [], ◌∷◌}
use Prim.Native.Nat.{ℕ, zero, suc, ◌+◌, ◌*◌, ◌^◌, ◌<◌}
use lib.Dec.{eqb}
use lib.ListN.{get_or, take, drop}
use borrow.Author.Tests.{lt-ltb}
use Rattle.varset.specs.Lowest.{pick}
use Rattle.words.specs.Stacks.{block_at, entries, Every, total}
use Rattle.words.proofs.Stacks.{every_drop}
use Rattle.spec_machine.specs.Values.{nothing, int, truth}
use Rattle.spec_machine.specs.Program.{Operation, op, fn}
use Rattle.spec_machine.specs.Machine.{Frame, Control, val, eval, exec, RunEnv, State, main_call}
use Rattle.spec_machine.specs.Test.{is_word, all_words, frames_in_words, control_in_word, saved_in_words, in_words}
use Rattle.spec_machine.proofs.KeepWords.{take_below, drop_below}
use Rattle.spec_image.specs.Layout.{Activation, activation}
use Rattle.spec_image.specs.Decode.{value_of, values_of, ref_of, operands, frames, frame_of, control_of, activation_of, frames_held, callers_of, running_of, activations_in, frames_in, env_of, states, state_of}
use Rattle.spec_image.proofs.BlockLengths.{every_take, get_d_so}

-- every word is below 2^32
abbrev pub Small : List ℕ → Type 0
Small l = (i : ℕ) → get_or l i 0 < 2 ^ 32

every_entries : {E : Type 0} (Q : E → Type 0) (w : ℕ) (dec : List ℕ → E) → ((b : List ℕ) → Small b → Q (dec b))
    → (l : List ℕ) → Small l → (a n : ℕ) → Every Q (entries w dec l a n)
every_entries Q w dec q l h a zero = tt
every_entries Q w dec q l h a (suc n) = (q (block_at w l a n) (take_below (2 ^ 32) w (drop (a + n * w) l) (drop_below (2 ^ 32) (a + n * w) l h)), every_entries Q w dec q l h a n)

-- ---- values, frames, activations, controls

module _ (α : RunEnv) where
  value_word : (t w : ℕ) → w < 2 ^ 32 → is_word α (value_of t w) ≡ true
  unfolding value_of
  value_word t w h = go (eqb t 0) (eqb t 1)
    where
      go : (a b : Bool) → is_word α (pick a nothing (pick b (int w) (truth (eqb w 1)))) ≡ true
      go true b = refl
      go false true = lt-ltb w (2 ^ 32) h
      go false false = refl

  values_words_lem : (n : ℕ) (l : List ℕ) → Small l → all_words α (values_of n l) ≡ true
  unfolding values_of
  values_words_lem zero l h = refl
  values_words_lem (suc n) l h = rw (value_word (get_or l 0 0) (get_or l 1 0) (h 1), values_words_lem n (drop 2 l) (drop_below (2 ^ 32) 2 l h))

  -- a frame adds no int that is no word
  abbrev Plain : Frame → Type 0
  Plain fr = (K : List Frame) → frames_in_words α (fr ∷ K) ≡ frames_in_words α K

  operands_plain : (h : Operation) (n m : ℕ) (l : List ℕ) → Small l → Plain (operands h n m l)
  unfolding operands
  operands_plain h n m l s K = rw (values_words_lem n l s)

  frame_plain : (b : List ℕ) → Small b → Plain (frame_of b)
  unfolding frame_of frames
  frame_plain b s =
      let o = drop_below (2 ^ 32) 4 b s in
      get_d_so Plain (frames (get_or b 1 0) (get_or b 2 0) (get_or b 3 0) (drop 4 b)) (get_or b 0 0) Frame.discard (
        λ K. refl,
        (
          operands_plain (op (get_or b 1 0)) (get_or b 2 0) (get_or b 3 0) (drop 4 b) o,
          (
            operands_plain (fn (get_or b 1 0)) (get_or b 2 0) (get_or b 3 0) (drop 4 b) o,
            (λ K. refl, (λ K. refl, (λ K. refl, (λ K. refl, (λ K. refl, (λ K. refl, tt)))))),
          ),
        ),
      )
      (λ K. refl)

  plain_words : (K : List Frame) → Every Plain K → frames_in_words α K ≡ true
  plain_words [] h = refl
  plain_words (fr ∷ K) h = h.0 K ∙ plain_words K h.1

  abbrev Wordy : Activation → Type 0
  Wordy (activation f k η) = all_words α η ≡ true

  activation_wordy : (b : List ℕ) → Small b → Wordy (activation_of b)
  unfolding activation_of
  activation_wordy b s = values_words_lem (get_or b 2 0) (drop 8 b) (drop_below (2 ^ 32) 8 b s)

  control_word : (form w : ℕ) → w < 2 ^ 32 → control_in_word α (control_of form w) ≡ true
  unfolding control_of
  control_word form w h = go (eqb form 1) (eqb form 2) (eqb form 3) (eqb form 4)
    where
      go : (a b c d : Bool)
          → control_in_word α (pick a (val nothing) (pick b (val (int w)) (pick c (val (truth (eqb w 1))) (pick d (eval w) (exec (ref_of w)))))) ≡ true
      go true b c d = refl
      go false true c d = lt-ltb w (2 ^ 32) h
      go false false true d = refl
      go false false false true = refl
      go false false false false = refl

  callers_words : (X : List Activation) (K : List Frame) → Every Wordy X → Every Plain K → saved_in_words α (callers_of X K) ≡ true
  unfolding callers_of
  callers_words [] K h p = refl
  callers_words (activation f k η ∷ X) K h p =
      rw (h.0, plain_words (take k K) (every_take Plain k K p), callers_words X (drop k K) h.1 (every_drop Plain k K p))

  running_words : (c : Control) (X : List Activation) (K : List Frame) → control_in_word α c ≡ true → Every Wordy X → Every Plain K → in_words (running_of c α X K) ≡ true
  unfolding running_of
  running_words c [] K e h p = refl
  running_words c (activation f k η ∷ X) K e h p =
      rw (e, h.0, plain_words (take k K) (every_take Plain k K p), callers_words X (drop k K) h.1 (every_drop Plain k K p))

-- the state's ints are words
pub small_words : (m : List ℕ) → Small m → in_words (state_of m) ≡ true
unfolding state_of states activations_in frames_in
small_words m s =
    let α = env_of m in
    let c = control_word α (get_or m 3 0) (get_or m 4 0) (s 4) in
    let x = every_entries (Wordy α) 136 activation_of (activation_wordy α) m s 128 (get_or m 2 0) in
    let k = every_entries (Plain α) 20 frame_of (frame_plain α) m s 4480 (total frames_held (activations_in m)) in
    let one = lt-ltb (get_or m 1 0) (2 ^ 32) (s 1) in
    let run = running_words α (control_of (get_or m 3 0) (get_or m 4 0)) (activations_in m) (frames_in m) c x k in
    get_d_so (λ (z : State). in_words z ≡ true) (states m) (get_or m 0 0) main_call
    (refl, (refl, (run, (one, (one, (refl, (refl, (refl, (refl, (rw one, tt))))))))))
    refl
