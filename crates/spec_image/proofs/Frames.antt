-- The top frame of a state while it runs: laid, taken off, read, and its operands.
use mathlib.Core.Path.{◌≡◌, refl, ap, ◌∙◌}
use mathlib.Core.List.{List, [], ◌∷◌, ◌++◌}
use Prim.Native.Nat.{ℕ, ◌+◌, ◌*◌, ◌≤◌, ◌<◌}
use native.Mathlib.Omega.{arith}
use lib.ListN.{length, get_or, replicate, length-replicate}
use Rattle.words.specs.Blocks.{puts}
use Rattle.spec_machine.specs.Values.{Value}
use Rattle.spec_machine.specs.Program.{Operation, op, fn}
use Rattle.spec_machine.specs.Machine.{Frame, gather, and, wait, branch, check, Saved}
use Rattle.spec_image.specs.Layout.{filled, values_words, nodes_words, ref_word, block, gathering, frame_words, activation}
use Rattle.spec_image.specs.Image.{saved_activations, saved_frames}
use Rattle.spec_image.specs.Decode.{ref_of}
use Rattle.spec_image.specs.Core.{core}
use Rattle.spec_image.proofs.ValueWords.{ref_back, length_nodes}
use Rattle.spec_image.proofs.Images.{length_saved}
use Rattle.spec_image.proofs.Rooms.{rooms, frame_push, frame_pop, frame_word, frame_change}

-- ---- what the words of a frame are

-- the kind and the word of what gathers operands
abbrev pub head_kind : Operation → ℕ
head_kind (op o) = 1
head_kind (fn g) = 2

abbrev pub head_word : Operation → ℕ
head_word (op o) = o
head_word (fn g) = g

-- the first four words of a frame
abbrev pub kind_of : Frame → ℕ
kind_of (gather h vs ns) = head_kind h
kind_of (and n) = 3
kind_of (wait r) = 4
kind_of (Frame.store x) = 5
kind_of (branch a b) = 6
kind_of Frame.leave = 7
kind_of check = 8
kind_of Frame.discard = 9

abbrev pub first_of : Frame → ℕ
first_of (gather h vs ns) = head_word h
first_of (and n) = n
first_of (wait r) = ref_word r
first_of (Frame.store x) = x
first_of (branch a b) = ref_word a
first_of Frame.leave = 0
first_of check = 0
first_of Frame.discard = 0

abbrev pub second_of : Frame → ℕ
second_of (gather h vs ns) = length vs
second_of (and n) = 0
second_of (wait r) = 0
second_of (Frame.store x) = 0
second_of (branch a b) = ref_word b
second_of Frame.leave = 0
second_of check = 0
second_of Frame.discard = 0

-- the operands of a frame
abbrev pub values_in : Frame → List Value
values_in (gather h vs ns) = vs
values_in (and n) = []
values_in (wait r) = []
values_in (Frame.store x) = []
values_in (branch a b) = []
values_in Frame.leave = []
values_in check = []
values_in Frame.discard = []

abbrev pub nodes_in : Frame → List ℕ
nodes_in (gather h vs ns) = ns
nodes_in (and n) = []
nodes_in (wait r) = []
nodes_in (Frame.store x) = []
nodes_in (branch a b) = []
nodes_in Frame.leave = []
nodes_in check = []
nodes_in Frame.discard = []

pub frame_words_lem : (fr : Frame)
    → frame_words fr ≡ filled 20 (kind_of fr ∷ first_of fr ∷ second_of fr ∷ length (nodes_in fr) ∷ values_words (values_in fr) ++ nodes_words (nodes_in fr))
unfolding frame_words gathering block values_words nodes_words
frame_words_lem (gather (op o) vs ns) = refl
frame_words_lem (gather (fn g) vs ns) = refl
frame_words_lem (and n) = refl
frame_words_lem (wait r) = refl
frame_words_lem (Frame.store x) = refl
frame_words_lem (branch a b) = refl
frame_words_lem Frame.leave = refl
frame_words_lem check = refl
frame_words_lem Frame.discard = refl

-- the frame of each kind that has these words and operands
abbrev pub told : Frame → List Frame
told fr =
    Frame.discard ∷ gather (op (first_of fr)) (values_in fr) (nodes_in fr) ∷ gather (fn (first_of fr)) (values_in fr) (nodes_in fr) ∷ and (first_of fr)
    ∷ wait (ref_of (first_of fr)) ∷ Frame.store (first_of fr) ∷ branch (ref_of (first_of fr)) (ref_of (second_of fr)) ∷ Frame.leave ∷ check ∷ []

-- a frame by its kind
pub of_kind : (fr : Frame) (k : ℕ) → kind_of fr ≡ k → fr ≡ get_or (told fr) k Frame.discard
of_kind fr k e = by_kind fr ∙ ap (λ (i : ℕ). get_or (told fr) i Frame.discard) e
  where
    by_kind : (fr : Frame) → fr ≡ get_or (told fr) (kind_of fr) Frame.discard
    by_kind (gather (op o) vs ns) = refl
    by_kind (gather (fn g) vs ns) = refl
    by_kind (and n) = refl
    by_kind (wait r) = rw (ref_back r)
    by_kind (Frame.store x) = refl
    by_kind (branch a b) = rw (ref_back a, ref_back b)
    by_kind Frame.leave = refl
    by_kind check = refl
    by_kind Frame.discard = refl

-- ---- laid and taken off

pub core_rooms : (f : ℕ) (η : List Value) (K : List Frame) (A : List Saved)
    → core f η K A ≡ rooms (replicate 128 0) (activation f 0 η ∷ saved_activations A) (K ++ saved_frames A)
unfolding core rooms
core_rooms f η K A = refl

module _ (f : ℕ) (η : List Value) (K : List Frame) (A : List Saved) (R : List ℕ) (n at : ℕ)
    (few : length A < 32) (count : n ≡ length (K ++ saved_frames A)) (place : at ≡ 4480 + n * 20) where
  held : length (activation f 0 η ∷ saved_activations A) ≤ 32
  held = omega (arith, length_saved A)

  -- a frame is laid on the top by its words that are not zeros at the end
  pub push_frame : (fr : Frame) (vs : List ℕ) → n < 512 → length vs ≤ 20 → frame_words fr ≡ filled 20 vs
      → puts (core f η K A ++ R) at 0 vs ≡ core f η (fr ∷ K) A ++ R
  push_frame fr vs room short e =
      rw (place, core_rooms f η K A, core_rooms f η (fr ∷ K) A)
      (frame_push (replicate 128 0) R (activation f 0 η ∷ saved_activations A) (K ++ saved_frames A) (length-replicate {A = ℕ} 128 0) held n count fr vs room short e)

  -- the top frame is taken off
  pub pop_frame : (fr : Frame) → n < 512 → puts (core f η (fr ∷ K) A ++ R) at 0 (replicate 20 0) ≡ core f η K A ++ R
  pop_frame fr room =
      rw (place, core_rooms f η K A, core_rooms f η (fr ∷ K) A)
      (frame_pop (replicate 128 0) R (activation f 0 η ∷ saved_activations A) (K ++ saved_frames A) (length-replicate {A = ℕ} 128 0) held n count fr room)

  -- a frame without operands
  pub push_plain : (fr : Frame) → n < 512 → values_in fr ≡ [] → nodes_in fr ≡ []
      → puts (core f η K A ++ R) at 0 (kind_of fr ∷ first_of fr ∷ second_of fr ∷ 0 ∷ []) ≡ core f η (fr ∷ K) A ++ R
  unfolding values_words nodes_words
  push_plain fr room v s =
      push_frame fr (kind_of fr ∷ first_of fr ∷ second_of fr ∷ 0 ∷ []) room (omega arith)
      (frame_words_lem fr ∙ rw (v, s))

  -- a frame that gathers, with the nodes that wait
  pub push_gather : (h : Operation) (ns : List ℕ) → n < 512 → length ns ≤ 7
      → puts (core f η K A ++ R) at 0 (head_kind h ∷ head_word h ∷ 0 ∷ length ns ∷ nodes_words ns) ≡ core f η (gather h [] ns ∷ K) A ++ R
  unfolding values_words
  push_gather h ns room short =
      push_frame (gather h [] ns) (head_kind h ∷ head_word h ∷ 0 ∷ length ns ∷ nodes_words ns) room (omega (arith, length_nodes ns)) (frame_words_lem (gather h [] ns))

  -- ---- read

  module _ (fr : Frame) where
    -- one word of the top frame
    pub top_word : (b j : ℕ) → b ≡ at + j → j < 20 → get_or (core f η (fr ∷ K) A ++ R) b 0 ≡ get_or (frame_words fr) j 0
    top_word b j e h =
        rw (e, place, core_rooms f η (fr ∷ K) A)
        (frame_word (replicate 128 0) R (activation f 0 η ∷ saved_activations A) (K ++ saved_frames A) (length-replicate {A = ℕ} 128 0) held n count fr j h)

    -- its kind and its three words
    pub top_kind : get_or (core f η (fr ∷ K) A ++ R) at 0 ≡ kind_of fr
    unfolding filled
    top_kind = top_word at 0 (omega arith) (omega arith) ∙ rw (frame_words_lem fr)

    pub top_first : get_or (core f η (fr ∷ K) A ++ R) (at + 1) 0 ≡ first_of fr
    unfolding filled
    top_first = top_word (at + 1) 1 refl (omega arith) ∙ rw (frame_words_lem fr)

    pub top_second : get_or (core f η (fr ∷ K) A ++ R) (at + 2) 0 ≡ second_of fr
    unfolding filled
    top_second = top_word (at + 2) 2 refl (omega arith) ∙ rw (frame_words_lem fr)

    pub top_third : get_or (core f η (fr ∷ K) A ++ R) (at + 3) 0 ≡ length (nodes_in fr)
    unfolding filled
    top_third = top_word (at + 3) 3 refl (omega arith) ∙ rw (frame_words_lem fr)

    -- words of the top frame change, in two places
    pub change_frame : (gr : Frame) (b c i j : ℕ) (us vs : List ℕ) → b ≡ at + i → c ≡ at + j → i + length us ≤ 20 → j + length vs ≤ 20
        → puts (puts (frame_words fr) i 0 us) j 0 vs ≡ frame_words gr
        → puts (puts (core f η (fr ∷ K) A ++ R) b 0 us) c 0 vs ≡ core f η (gr ∷ K) A ++ R
    change_frame gr b c i j us vs hb hc hi hj e =
        rw (hb, hc, place, core_rooms f η (fr ∷ K) A, core_rooms f η (gr ∷ K) A)
        (frame_change (replicate 128 0) R (activation f 0 η ∷ saved_activations A) (K ++ saved_frames A) (length-replicate {A = ℕ} 128 0) held n count fr gr i j us vs hi hj e)
