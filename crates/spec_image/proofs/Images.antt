-- The image of a state within the limits has 16,384 words, and the state is read back from it.
use mathlib.Core.Path.{◌≡◌, refl, sym, ap, ◌∙◌}
use mathlib.Core.List.{List, [], ◌∷◌, ◌++◌, append_assoc, append-nil}
use mathlib.Core.Option.{none, some}
use Prim.Native.Nat.{ℕ, suc, ◌+◌, ◌≤◌, ◌<◌}
use native.Mathlib.Nat.{le_trans}
use native.Mathlib.Omega.{arith}
use lib.ListN.{length, get_or, take, drop, replicate, length-append, length-replicate, get_or-append}
use lib.Seq.{take_at, drop_at}
use Rattle.words.specs.Stacks.{region, Wide, Back, total}
use Rattle.words.proofs.Stacks.{every, length_region}
use Rattle.words.proofs.Blocks.{get_d_block}
use Rattle.words.proofs.Entries.{entries_region}
use Rattle.spec_machine.specs.Values.{Value}
use Rattle.spec_machine.specs.Program.{Program}
use Rattle.spec_machine.specs.Machine.{Exception, abort, Frame, Control, Saved, saved, RunEnv, State, exception, calling, returned, running}
use Rattle.spec_machine.specs.Fit as fit
use Rattle.spec_machine.specs.Fit.{WithinLimits, Proper, caller_limit, frame_limit}
use Rattle.spec_image.specs.Sizes.{caller_room, frame_room}
use Rattle.spec_image.specs.Layout.{filled, frame_words, activation_words, env_words}
use Rattle.spec_image.specs.Image.{saved_activations, saved_frames, head_words, activations_of, frames_of, env_part, image}
use Rattle.spec_image.specs.Decode.{frame_of, control_of, activation_of, frames_held, callers_of, running_of, env_of, activations_in, frames_in, states, state_of}
use Rattle.spec_image.specs.Narrow.{NarrowFrame, NarrowActivation, Narrow}
use Rattle.spec_image.proofs.ValueWords.{control_back}
use Rattle.spec_image.proofs.BlockLengths.{length-filled, filled_at, frame_wide, frame_back, activation_wide, activation_back, every_so}

-- ---- sizes

-- the limits are within the rooms of an image
callers_room : caller_limit ≤ caller_room
callers_room = omega arith

frames_room : frame_limit ≤ frame_room
frames_room = omega arith

pub length_saved : (A : List Saved) → length (saved_activations A) ≡ length A
unfolding saved_activations
length_saved [] = refl
length_saved (saved g θ L ∷ A) = ap suc (length_saved A)

pub length_frames : (A : List Saved) → length (saved_frames A) ≡ fit.saved_frame_count A
unfolding saved_frames
length_frames [] = refl
length_frames (saved g θ L ∷ A) = simp (length-append, length_frames A)

pub few_activations : (s : State) → WithinLimits s → length (activations_of s) ≤ 32
unfolding activations_of
few_activations (State.value c) w = omega arith
few_activations (exception x) w = omega arith
few_activations (calling α o) w = omega arith
few_activations (returned α c) w = omega arith
few_activations (running c α f η K A) w = omega (arith, w.0, callers_room, length_saved A)

pub few_frames : (s : State) → WithinLimits s → length (frames_of s) ≤ 512
unfolding frames_of
few_frames (State.value c) w = omega arith
few_frames (exception x) w = omega arith
few_frames (calling α o) w = omega arith
few_frames (returned α c) w = omega arith
few_frames (running c α f η K A) w = simp (length-append, length_frames A) (le_trans w.1 frames_room)

-- the activations hold the frames that the state has
saved_held_lem : (A : List Saved) → total frames_held (saved_activations A) ≡ length (saved_frames A)
unfolding saved_activations saved_frames frames_held
saved_held_lem [] = refl
saved_held_lem (saved g θ L ∷ A) = simp (length-append, saved_held_lem A)

pub frames_held_lem : (s : State) → total frames_held (activations_of s) ≡ length (frames_of s)
unfolding activations_of frames_of frames_held
frames_held_lem (State.value c) = refl
frames_held_lem (exception x) = refl
frames_held_lem (calling α o) = refl
frames_held_lem (returned α c) = refl
frames_held_lem (running c α f η K A) = simp (length-append, saved_held_lem A)

-- the environment has its 1,664 words
pub length_env : (α : RunEnv) → length (env_words α) ≡ 1664
unfolding env_words
length_env α = length-filled 1664 _

pub length_part : (s : State) → length (env_part s) ≡ 1664
unfolding env_part
length_part (State.value c) = length-replicate {A = ℕ} 1664 0
length_part (exception x) = length-replicate {A = ℕ} 1664 0
length_part (calling α o) = length_env α
length_part (returned α c) = length_env α
length_part (running c α f η K A) = length_env α

length_three : (a b c : List ℕ) → length (a ++ (b ++ c)) ≡ length a + (length b + length c)
length_three a b c = simp length-append

module _ (s : State) where
  -- the words of the activations and of the frames, each in its room
  abbrev pub activation_region : List ℕ
  activation_region = region 136 activation_words 32 (activations_of s)

  abbrev pub frame_region : List ℕ
  frame_region = region 20 frame_words 512 (frames_of s)

  pub length_activations : WithinLimits s → length activation_region ≡ 4352
  length_activations w = length_region 136 activation_words 32 (activations_of s) (every (Wide 136 activation_words) activation_wide (activations_of s)) (few_activations s w)

  pub length_stack : WithinLimits s → length frame_region ≡ 10240
  length_stack w = length_region 20 frame_words 512 (frames_of s) (every (Wide 20 frame_words) frame_wide (frames_of s)) (few_frames s w)

  pub image_length : WithinLimits s → length (image s) ≡ 16384
  unfolding image
  image_length w =
      omega (
        arith,
        length_three (filled 128 (head_words s)) activation_region (frame_region ++ env_part s),
        length-append frame_region (env_part s),
        length-filled 128 (head_words s),
        length_activations w,
        length_stack w,
        length_part s,
      )

  -- the head, the activations, the frames, and what is left
  pub image_parts : (R : List ℕ) → image s ++ R ≡ filled 128 (head_words s) ++ (activation_region ++ (frame_region ++ (env_part s ++ R)))
  unfolding image
  image_parts R = simp append_assoc

  -- one word of the head
  pub head_word_lem : (R : List ℕ) (j : ℕ) → j < 128 → get_or (image s ++ R) j 0 ≡ get_or (head_words s) j 0
  head_word_lem R j h =
      rw (image_parts R)
      (get_or-append (filled 128 (head_words s)) _ 0 j (rw (length-filled 128 (head_words s)) h) ∙ filled_at 128 (head_words s) j h)

-- ---- what is read back

pub count_in : (s : State) → get_or (head_words s) 2 0 ≡ length (activations_of s)
unfolding head_words activations_of
count_in (State.value c) = refl
count_in (exception Exception.arith) = refl
count_in (exception abort) = refl
count_in (calling α none) = refl
count_in (calling α (some c)) = refl
count_in (returned α c) = refl
count_in (running c α f η K A) = rw (length_saved A)

module _ (s : State) (R : List ℕ) (n : Narrow s) where
  pub activations_in_lem : activations_in (image s ++ R) ≡ activations_of s
  unfolding activations_in
  activations_in_lem =
      rw (head_word_lem s R 2 (omega arith), count_in s, image_parts s R)
      (entries_region 136 activation_words activation_of (filled 128 (head_words s)) _ 32 128 (activations_of s) (length-filled 128 (head_words s))
      (every (Wide 136 activation_words) activation_wide (activations_of s))
      (every_so NarrowActivation (Back activation_words activation_of) activation_back (activations_of s) n.activations))

  pub frames_in_lem : WithinLimits s → frames_in (image s ++ R) ≡ frames_of s
  unfolding frames_in
  frames_in_lem w =
      let H = filled 128 (head_words s) ++ activation_region s in
      let k : length H ≡ 4480 = omega (arith, length-append (filled 128 (head_words s)) (activation_region s), length-filled 128 (head_words s), length_activations s w) in
      let e : image s ++ R ≡ H ++ (frame_region s ++ (env_part s ++ R)) = image_parts s R ∙ sym (append_assoc (filled 128 (head_words s)) (activation_region s) _) in
      rw (activations_in_lem, frames_held_lem s, e)
      (entries_region 20 frame_words frame_of H (env_part s ++ R) 512 4480 (frames_of s) k
      (every (Wide 20 frame_words) frame_wide (frames_of s))
      (every_so NarrowFrame (Back frame_words frame_of) frame_back (frames_of s) n.frames))

-- the environment of a run of main is zeros, and so it is in every fit state
pub env_zero : (α : RunEnv) → α.entry ≡ 0 → env_words α ≡ replicate 1664 0
unfolding env_words filled
env_zero α e = rw e

pub part_zero : (P : Program) (s : State) → Proper P s → env_part s ≡ replicate 1664 0
unfolding env_part
part_zero P (State.value c) h = refl
part_zero P (exception x) h = refl
part_zero P (calling α o) h = env_zero α h.0
part_zero P (returned α c) h = env_zero α h
part_zero P (running c α f η K A) h = env_zero α h.entry

-- the environment is read back
module _ (s : State) (R : List ℕ) (w : WithinLimits s) where
  abbrev before : List ℕ
  before = filled 128 (head_words s) ++ (activation_region s ++ frame_region s)

  before_length : length before ≡ 14720
  before_length =
      omega (
        arith,
        length_three (filled 128 (head_words s)) (activation_region s) (frame_region s),
        length-filled 128 (head_words s),
        length_activations s w,
        length_stack s w,
      )

  env_word : (j : ℕ) → j < 1664 → get_or (image s ++ R) (14720 + j) 0 ≡ get_or (env_part s) j 0
  env_word j h =
      let e : image s ++ R ≡ before ++ (env_part s ++ R) = image_parts s R ∙ simp append_assoc in
      rw e (get_d_block before (env_part s) R 14720 j before_length (rw (length_part s) h))

  -- its words are the last of the image
  pub env_in : take 1664 (drop 14720 (image s ++ R)) ≡ env_part s
  env_in =
      let e : image s ++ R ≡ before ++ (env_part s ++ R) = image_parts s R ∙ simp append_assoc in
      rw (e, drop_at before (env_part s ++ R) 14720 before_length) (take_at (env_part s) R 1664 (length_part s))

  pub env_back : (α : RunEnv) → env_part s ≡ env_words α → env_of (image s ++ R) ≡ α
  unfolding env_of env_words
  env_back α e = let q : get_or (image s ++ R) 14721 0 ≡ α.entry = env_word 1 (omega arith) ∙ rw e (filled_at 1664 (0 ∷ α.entry ∷ []) 1 (omega arith)) in rw q

-- the frames cut into those of each caller
pub callers_back : (A : List Saved) → callers_of (saved_activations A) (saved_frames A) ≡ A
unfolding callers_of saved_activations saved_frames
callers_back [] = refl
callers_back (saved g θ L ∷ A) = rw (take_at L (saved_frames A) (length L) refl, drop_at L (saved_frames A) (length L) refl, callers_back A)

running_back : (c : Control) (α : RunEnv) (f : ℕ) (η : List Value) (K : List Frame) (A : List Saved) (R : List ℕ) → let s = running c α f η K A in
    WithinLimits s → Narrow s → let m = image s ++ R in running_of (control_of (get_or m 3 0) (get_or m 4 0)) (env_of m) (activations_in m) (frames_in m) ≡ s
unfolding running_of head_words activations_of frames_of env_part
running_back c α f η K A R w n =
    let s = running c α f η K A in
    rw (
      activations_in_lem s R n,
      frames_in_lem s R n w,
      head_word_lem s R 3 (omega arith),
      head_word_lem s R 4 (omega arith),
      control_back c,
      env_back s R w α refl,
      take_at K (saved_frames A) (length K) refl,
      drop_at K (saved_frames A) (length K) refl,
      callers_back A,
    )

-- the state is read back from its image, whatever follows it
pub decode_image : (s : State) → WithinLimits s → Narrow s → (R : List ℕ) → state_of (image s ++ R) ≡ s
unfolding state_of states head_words env_part
decode_image (State.value c) w n R = rw (head_word_lem (State.value c) R 0 (omega arith), head_word_lem (State.value c) R 1 (omega arith))
decode_image (exception Exception.arith) w n R = rw (head_word_lem (exception Exception.arith) R 0 (omega arith))
decode_image (exception abort) w n R = rw (head_word_lem (exception abort) R 0 (omega arith))
decode_image (calling α none) w n R = rw (head_word_lem (calling α none) R 0 (omega arith), env_back (calling α none) R w α refl)
decode_image (calling α (some c)) w n R =
    let s = calling α (some c) in
    rw (head_word_lem s R 0 (omega arith), head_word_lem s R 1 (omega arith), env_back s R w α refl)
decode_image (returned α c) w n R =
    let s = returned α c in
    rw (head_word_lem s R 0 (omega arith), head_word_lem s R 1 (omega arith), env_back s R w α refl)
decode_image (running c α f η K A) w n R = rw (head_word_lem (running c α f η K A) R 0 (omega arith)) (running_back c α f η K A R w n)

-- states within the limits, and narrow, with one image are one state
pub image_inj : (s t : State) → WithinLimits s → Narrow s → WithinLimits t → Narrow t → image s ≡ image t → s ≡ t
image_inj s t w n v k e = sym (decode_image s w n []) ∙ rw e (decode_image t v k [])

-- the first word of an image is not zero
tagged : (s : State) → 0 < get_or (head_words s) 0 0
unfolding head_words
tagged (State.value c) = omega arith
tagged (exception Exception.arith) = omega arith
tagged (exception abort) = omega arith
tagged (calling α none) = omega arith
tagged (calling α (some c)) = omega arith
tagged (returned α c) = omega arith
tagged (running c α f η K A) = omega arith

pub marked : (s : State) (R : List ℕ) → 0 < get_or (image s ++ R) 0 0
marked s R = rw (head_word_lem s R 0 (omega arith)) (tagged s)

pub zeros_no_image : (s : State) → replicate 16384 0 ≡ image s → ⊥
zeros_no_image s e =
    let h : 0 < get_or (image s) 0 0 = rw (append-nil (image s)) at (marked s []) in
    let z : 0 ≡ get_or (image s) 0 0 = ap (λ (l : List ℕ). get_or l 0 0) e in
    omega arith
