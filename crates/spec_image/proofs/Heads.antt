-- The head and the frame count stored and taken out: between the image of a state and its words while it runs.
use mathlib.Core.Path.{◌≡◌, refl, sym, ap, ◌∙◌}
use mathlib.Core.List.{List, [], ◌∷◌, ◌++◌, append_assoc}
use mathlib.Core.Option.{none, some}
use Prim.Native.Nat.{ℕ, suc, ◌+◌, ◌*◌, ◌-◌, ◌≤◌, ◌<◌}
use native.Mathlib.Omega.{arith}
use lib.ListN.{length, get_or, set, drop, replicate, length-append, length-replicate, replicate-append-replicate}
use lib.Seq.{drop_at}
use Rattle.words.specs.Blocks.{puts}
use Rattle.words.specs.Stacks.{region}
use Rattle.words.proofs.Blocks.{puts_block, puts_inside}
use Rattle.spec_machine.specs.Values.{Value, nothing, int, truth}
use Rattle.spec_machine.specs.Machine.{Exception, abort, Frame, Control, val, eval, exec, Saved, RunEnv, State, exception, calling, returned, running}
use Rattle.spec_image.specs.Layout.{filled, frame_words, control_words, Activation, activation, activation_words, env_words}
use Rattle.spec_image.specs.Image.{saved_activations, saved_frames, head_words, activations_of, frames_of, env_part, image, exception_tag}
use Rattle.spec_image.specs.Core.{core}
use Rattle.spec_image.proofs.BlockLengths.{length-filled}
use Rattle.spec_image.proofs.Images.{length_saved, length_env, image_parts, head_word_lem}
use Rattle.spec_image.proofs.Rooms.{rooms, filled_is, length_rooms, activations_open, activation_word}
use Rattle.spec_image.proofs.Frames.{core_rooms}
use Rattle.spec_image.proofs.Variables.{rooms_count}

-- ---- heads

-- words stored over words that are not more, in a block
filled_over : (w : ℕ) (us vs : List ℕ) → length us ≤ length vs → length vs ≤ w → puts (filled w us) 0 0 vs ≡ filled w vs
filled_over w us vs h k =
    let d : List ℕ = replicate (length vs - length us) 0 in
    let n : w - length us ≡ (length vs - length us) + (w - length vs) = omega arith in
    let e : filled w us ≡ (us ++ d) ++ replicate (w - length vs) 0
    = filled_is w us (omega arith) ∙ rw (n, ← replicate-append-replicate {A = ℕ} (length vs - length us) (w - length vs) 0) (simp append_assoc) in
    let m : length (us ++ d) ≡ length vs = omega (arith, h, length-append us d, length-replicate {A = ℕ} (length vs - length us) 0) in
    ap (λ (l : List ℕ). puts l 0 0 vs) e ∙ puts_block vs (us ++ d) [] (replicate (w - length vs) 0) 0 0 refl m ∙ sym (filled_is w vs k)

zeros_filled : (w k : ℕ) → k ≤ w → replicate {A = ℕ} w 0 ≡ filled w (replicate k 0)
zeros_filled w k h =
    let n : k + (w - k) ≡ w = omega arith in
    let m : length (replicate {A = ℕ} k 0) ≡ k = length-replicate k 0 in
    sym (filled_is w (replicate k 0) (omega arith) ∙ rw (m, replicate-append-replicate {A = ℕ} k (w - k) 0, n))

module _ (R : List ℕ) (X : List Activation) (F : List Frame) where
  -- a head is stored over one that is not longer
  pub rooms_head : (us vs : List ℕ) → length us ≤ length vs → length vs ≤ 128
      → puts (rooms (filled 128 us) X F ++ R) 0 0 vs ≡ rooms (filled 128 vs) X F ++ R
  rooms_head us vs h k =
      let r : List ℕ = region 136 activation_words 32 X ++ (region 20 frame_words 512 F ++ R) in
      let n : 0 + (0 + length vs) ≤ length (filled 128 us) = omega (arith, k, length-filled 128 us) in
      rw (activations_open (filled 128 us) R X F, activations_open (filled 128 vs) R X F, ← filled_over 128 us vs h k)
      (puts_inside vs (filled 128 us) [] r 0 0 0 refl n)

pub image_rooms : (s : State) (R : List ℕ) → image s ++ R ≡ rooms (filled 128 (head_words s)) (activations_of s) (frames_of s) ++ (env_part s ++ R)
unfolding rooms
image_rooms s R = image_parts s R ∙ simp append_assoc

-- ---- a running state

length_control : (c : Control) → length (control_words c) ≡ 2
unfolding control_words
length_control (val nothing) = refl
length_control (val (int n)) = refl
length_control (val (truth b)) = refl
length_control (eval n) = refl
length_control (exec r) = refl

-- one word of its head
pub running_word : (c : Control) (α : RunEnv) (f : ℕ) (η : List Value) (K : List Frame) (A : List Saved) (R : List ℕ) (j : ℕ) → j < 128
    → get_or (image (running c α f η K A) ++ R) j 0 ≡ get_or (2 ∷ 0 ∷ suc (length A) ∷ control_words c) j 0
unfolding head_words
running_word c α f η K A R j h = head_word_lem (running c α f η K A) R j h

module _ (c : Control) (α : RunEnv) (f : ℕ) (η : List Value) (K : List Frame) (A : List Saved) (R : List ℕ) (a b : ℕ)
    (count : a ≡ length A) (place : b ≡ 128 + a * 136 + 1) where
  known : a ≡ length (saved_activations A)
  known = count ∙ sym (length_saved A)

  five : length (head_words (running c α f η K A)) ≤ 5
  unfolding head_words
  five = omega (arith, length_control c)

  running_rooms : image (running c α f η K A) ++ R
      ≡ rooms (filled 128 (head_words (running c α f η K A))) (activation f (length K) η ∷ saved_activations A) (K ++ saved_frames A) ++ (env_words α ++ R)
  unfolding activations_of frames_of env_part
  running_rooms = image_rooms (running c α f η K A) R

  -- the five words of the head and the frame count are stored
  pub store_head : (n k x y : ℕ) → n ≡ a + 1 → k ≡ length K → control_words c ≡ x ∷ y ∷ []
      → set (puts (core f η K A ++ (env_words α ++ R)) 0 0 (2 ∷ 0 ∷ n ∷ x ∷ y ∷ [])) b k ≡ image (running c α f η K A) ++ R
  unfolding head_words
  store_head n k x y hn hk e =
      let z : replicate {A = ℕ} 128 0 ≡ filled 128 [] = zeros_filled 128 0 (omega arith) in
      let h : n ≡ suc (length A) = omega arith in
      let w : head_words (running c α f η K A) ≡ 2 ∷ 0 ∷ n ∷ x ∷ y ∷ [] = rw (e, h) in
      rw (
        place,
        hk,
        running_rooms,
        w,
        core_rooms f η K A,
        z,
        rooms_head (env_words α ++ R) (activation f 0 η ∷ saved_activations A) (K ++ saved_frames A) [] (2 ∷ 0 ∷ n ∷ x ∷ y ∷ []) (omega arith) (omega arith),
      )
      (rooms_count (filled 128 (2 ∷ 0 ∷ n ∷ x ∷ y ∷ [])) (env_words α ++ R) (saved_activations A) (K ++ saved_frames A)
      (length-filled 128 (2 ∷ 0 ∷ n ∷ x ∷ y ∷ [])) a known f 0 η (length K))

  -- they are taken out
  pub clear_head : set (puts (image (running c α f η K A) ++ R) 0 0 (0 ∷ 0 ∷ 0 ∷ 0 ∷ 0 ∷ [])) b 0 ≡ core f η K A ++ (env_words α ++ R)
  clear_head =
      let z : replicate {A = ℕ} 128 0 ≡ filled 128 (0 ∷ 0 ∷ 0 ∷ 0 ∷ 0 ∷ []) = zeros_filled 128 5 (omega arith) in
      rw (
        place,
        running_rooms,
        core_rooms f η K A,
        z,
        rooms_head (env_words α ++ R) (activation f (length K) η ∷ saved_activations A) (K ++ saved_frames A) (head_words (running c α f η K A)) (0 ∷ 0 ∷ 0 ∷ 0 ∷ 0 ∷ [])
            five (omega arith),
      )
      (rooms_count (filled 128 (0 ∷ 0 ∷ 0 ∷ 0 ∷ 0 ∷ [])) (env_words α ++ R) (saved_activations A) (K ++ saved_frames A)
      (length-filled 128 (0 ∷ 0 ∷ 0 ∷ 0 ∷ 0 ∷ [])) a known f (length K) η 0)

  -- the frame count is read
  pub frame_count : get_or (image (running c α f η K A) ++ R) b 0 ≡ length K
  unfolding activation_words filled
  frame_count =
      rw (place, running_rooms)
      (activation_word (filled 128 (head_words (running c α f η K A))) (env_words α ++ R) (saved_activations A) (K ++ saved_frames A)
      (length-filled 128 (head_words (running c α f η K A))) a known (activation f (length K) η) 1 (omega arith))

-- ---- at rest

-- a state with no activation
abbrev pub Resting : State → Type 0
Resting (State.value c) = Unit {0}
Resting (exception x) = Unit {0}
Resting (calling α o) = Unit {0}
Resting (returned α c) = Unit {0}
Resting (running c α f η K A) = ⊥

-- its head
abbrev pub rest_words : State → List ℕ
rest_words (State.value c) = 4 ∷ c ∷ []
rest_words (exception x) = exception_tag x ∷ []
rest_words (calling α none) = 1 ∷ []
rest_words (calling α (some n)) = 9 ∷ n ∷ []
rest_words (returned α c) = 3 ∷ c ∷ []
rest_words (running c α f η K A) = []

pub rest_rooms : (s : State) (R : List ℕ) → Resting s → image s ++ R ≡ rooms (filled 128 (rest_words s)) [] [] ++ (env_part s ++ R)
unfolding head_words activations_of frames_of
rest_rooms (State.value c) R r = image_rooms (State.value c) R
rest_rooms (exception Exception.arith) R r = image_rooms (exception Exception.arith) R
rest_rooms (exception abort) R r = image_rooms (exception abort) R
rest_rooms (calling α none) R r = image_rooms (calling α none) R
rest_rooms (calling α (some n)) R r = image_rooms (calling α (some n)) R
rest_rooms (returned α c) R r = image_rooms (returned α c) R
rest_rooms (running c α f η K A) R r = absurd r

rest_short : (s : State) → length (rest_words s) ≤ 2
rest_short (State.value c) = omega arith
rest_short (exception x) = omega arith
rest_short (calling α none) = omega arith
rest_short (calling α (some n)) = omega arith
rest_short (returned α c) = omega arith
rest_short (running c α f η K A) = omega arith

-- rooms of nothing are zeros
zeros_append : (a b c z : ℕ) → z ≡ a + (b + c) → replicate {A = ℕ} a 0 ++ (replicate b 0 ++ replicate c 0) ≡ replicate z 0
zeros_append a b c z e = rw (replicate-append-replicate {A = ℕ} b c 0, replicate-append-replicate {A = ℕ} a (b + c) 0, e)

pub empty_rooms : (z : ℕ) → z ≡ 14720 → rooms (replicate 128 0) [] [] ≡ replicate z 0
unfolding rooms
empty_rooms z e = zeros_append 128 4352 10240 z e

module _ (s : State) (R : List ℕ) (rest : Resting s) (z : ℕ) (all : z ≡ 14720) where
  -- its head is stored in zeros
  pub store_rest : puts (replicate z 0 ++ (env_part s ++ R)) 0 0 (rest_words s) ≡ image s ++ R
  store_rest =
      let e : replicate {A = ℕ} 128 0 ≡ filled 128 [] = zeros_filled 128 0 (omega arith) in
      rw (← empty_rooms z all, rest_rooms s R rest, e) (rooms_head (env_part s ++ R) [] [] [] (rest_words s) (omega arith) (omega (arith, rest_short s)))

  -- it is taken out
  pub clear_rest : puts (image s ++ R) 0 0 (0 ∷ 0 ∷ []) ≡ replicate z 0 ++ (env_part s ++ R)
  clear_rest =
      let e : replicate {A = ℕ} 128 0 ≡ filled 128 (0 ∷ 0 ∷ []) = zeros_filled 128 2 (omega arith) in
      rw (← empty_rooms z all, rest_rooms s R rest, e) (rooms_head (env_part s ++ R) [] [] (rest_words s) (0 ∷ 0 ∷ []) (rest_short s) (omega arith))

-- ---- a running state that ends

module _ (f : ℕ) (η : List Value) (K : List Frame) (A : List Saved) (few : length A < 32) (fewer : length (K ++ saved_frames A) ≤ 512) where
  pub core_length : length (core f η K A) ≡ 14720
  core_length =
      rw (core_rooms f η K A)
      (length_rooms (replicate 128 0) [] (activation f 0 η ∷ saved_activations A) (K ++ saved_frames A) (length-replicate {A = ℕ} 128 0) (omega (arith, few, length_saved A)) fewer)

  -- what follows all its words and those of its environment
  pub past_core : (α : RunEnv) (R : List ℕ) (z : ℕ) → z ≡ 16384 → drop z (core f η K A ++ (env_words α ++ R)) ≡ R
  past_core α R z all =
      let n : length (core f η K A ++ env_words α) ≡ z = omega (arith, length-append (core f η K A) (env_words α), core_length, length_env α) in
      rw (← append_assoc (core f η K A) (env_words α) R) (drop_at (core f η K A ++ env_words α) R z n)
