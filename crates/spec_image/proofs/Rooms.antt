-- The words of a head, activations and frames in their rooms: the top of either stack laid, taken off, read and changed.
use mathlib.Core.Path.{◌≡◌, refl, sym, ap, ◌∙◌}
use mathlib.Core.List.{List, [], ◌∷◌, ◌++◌, append_assoc}
use Prim.Native.Nat.{ℕ, zero, suc, ◌+◌, ◌*◌, ◌-◌, ◌≤◌, ◌<◌}
use native.Mathlib.Nat.{one-mul, add-mul, add-zero}
use native.Mathlib.Omega.{arith}
use lib.ListN.{length, get_or, take, drop, replicate, length-append, length-drop, length-replicate, replicate-append-replicate}
use lib.Seq.{drop-append-add, drop-append-le, take-append-le}
use Rattle.words.specs.Blocks.{puts}
use Rattle.words.specs.Stacks.{words, region, Wide}
use Rattle.words.proofs.Blocks.{puts_block, puts_inside, length_puts, get_d_block}
use Rattle.words.proofs.Stacks.{every, length_words, length_region, pops_law, word_law}
use Rattle.spec_machine.specs.Machine.{Frame}
use Rattle.spec_image.specs.Layout.{filled, frame_words, Activation, activation_words}
use Rattle.spec_image.proofs.ValueWords.{take_over}
use Rattle.spec_image.proofs.BlockLengths.{frame_wide, activation_wide}

-- a head, activations in their room, and frames in theirs
unfoldable pub rooms : List ℕ → List Activation → List Frame → List ℕ
rooms H X F = H ++ (region 136 activation_words 32 X ++ region 20 frame_words 512 F)

-- ---- blocks

take_zeros : (k w : ℕ) → k ≤ w → take k (replicate {A = ℕ} w 0) ≡ replicate k 0
take_zeros zero w h = refl
take_zeros (suc k) zero h = absurd (omega arith)
take_zeros (suc k) (suc w) h = ap (λ (l : List ℕ). 0 ∷ l) (take_zeros k w (omega arith))

-- words, and the zeros after them
pub filled_is : (w : ℕ) (vs : List ℕ) → length vs ≤ w → filled w vs ≡ vs ++ replicate (w - length vs) 0
unfolding filled
filled_is w vs h = rw (take_over w vs (replicate w 0) h, take_zeros (w - length vs) w (omega arith))

-- words that are stored in zeros
puts_zeros : (w : ℕ) (vs : List ℕ) → length vs ≤ w → puts (replicate w 0) 0 0 vs ≡ filled w vs
puts_zeros w vs h =
    let n : w ≡ length vs + (w - length vs) = omega arith in
    let e : replicate {A = ℕ} w 0 ≡ replicate (length vs) 0 ++ replicate (w - length vs) 0
    = ap (λ (k : ℕ). replicate {A = ℕ} k 0) n ∙ sym (replicate-append-replicate (length vs) (w - length vs) 0) in
    ap (λ (l : List ℕ). puts l 0 0 vs) e
    ∙ puts_block vs (replicate (length vs) 0) [] (replicate (w - length vs) 0) 0 0 refl (length-replicate (length vs) 0)
    ∙ sym (filled_is w vs h)

module _ {E : Type 0} (w : ℕ) (enc : E → List ℕ) (H R : List ℕ) (m : ℕ) (K : List E) where
  -- the zeros over a stack begin with the place of the next entry
  place_free : length K < m
      → H ++ (region w enc m K ++ R) ≡ (H ++ words enc K) ++ (replicate w 0 ++ (replicate ((m - suc (length K)) * w) 0 ++ R))
  place_free h =
      let e : m - length K ≡ 1 + (m - suc (length K)) = omega arith in
      let z : replicate {A = ℕ} ((m - length K) * w) 0 ≡ replicate w 0 ++ replicate ((m - suc (length K)) * w) 0
      = rw (e, replicate-append-replicate, add-mul, one-mul) in
      rw z (simp append_assoc)

  place_held : (f : E) → H ++ (region w enc m (f ∷ K) ++ R) ≡ (H ++ words enc K) ++ (enc f ++ (replicate ((m - suc (length K)) * w) 0 ++ R))
  place_held f = simp append_assoc

-- ---- a block between two lists

module _ (p q r : List ℕ) (at : ℕ) (begins : length p ≡ at) where
  -- its words are stored
  inside : (j : ℕ) (vs : List ℕ) → j + length vs ≤ length q → puts (p ++ (q ++ r)) (at + j) 0 vs ≡ p ++ (puts q j 0 vs ++ r)
  inside j vs h = puts_inside vs q p r at j 0 begins (omega arith)

  -- its words are read
  part : (j k : ℕ) → j + k ≤ length q → take k (drop (at + j) (p ++ (q ++ r))) ≡ take k (drop j q)
  part j k h =
      rw (← begins, drop-append-add p (q ++ r) j, drop-append-le j q r (omega arith))
      (take-append-le k (drop j q) r (simp length-drop (omega arith)))

-- zeros become a block
filling : (w : ℕ) (p r : List ℕ) (at : ℕ) → length p ≡ at → (vs : List ℕ) → length vs ≤ w
    → puts (p ++ (replicate w 0 ++ r)) at 0 vs ≡ p ++ (filled w vs ++ r)
filling w p r at begins vs short =
    let n : 0 + length vs ≤ length (replicate {A = ℕ} w 0) = omega (arith, length-replicate {A = ℕ} w 0) in
    rw (← puts_zeros w vs short) (rw (add-zero at) at (inside p (replicate w 0) r at begins 0 vs n))

-- a block becomes zeros where at least its words that are not zeros at the end are cleared
clearing : (w : ℕ) (p r : List ℕ) (at : ℕ) → length p ≡ at → (vs : List ℕ) (k : ℕ) → length vs ≤ k → k ≤ w
    → puts (p ++ (filled w vs ++ r)) at 0 (replicate k 0) ≡ p ++ (replicate w 0 ++ r)
clearing w p r at begins vs k used short =
    let q : List ℕ = vs ++ replicate (k - length vs) 0 in
    let i : k - length vs + (w - k) ≡ w - length vs = omega arith in
    let j : k + (w - k) ≡ w = omega arith in
    let n : length q ≡ length (replicate {A = ℕ} k 0)
    = omega (arith, length-append vs (replicate {A = ℕ} (k - length vs) 0), length-replicate {A = ℕ} (k - length vs) 0, length-replicate {A = ℕ} k 0) in
    let e : filled w vs ++ r ≡ q ++ (replicate (w - k) 0 ++ r)
    = rw (filled_is w vs (omega arith), ← i, ← replicate-append-replicate {A = ℕ} (k - length vs) (w - k) 0) (simp append_assoc) in
    let z : replicate {A = ℕ} w 0 ++ r ≡ replicate k 0 ++ (replicate (w - k) 0 ++ r)
    = rw (← append_assoc (replicate {A = ℕ} k 0) (replicate (w - k) 0) r, replicate-append-replicate {A = ℕ} k (w - k) 0, j) in
    rw (e, z) (puts_block (replicate k 0) q p (replicate (w - k) 0 ++ r) at 0 (begins ∙ sym (add-zero at)) n)

-- ---- the frames

module _ (H R : List ℕ) (X : List Activation) (F : List Frame) where
  -- the words under the next frame, and over it
  abbrev under : List ℕ
  under = (H ++ region 136 activation_words 32 X) ++ words frame_words F

  abbrev over : List ℕ
  over = replicate ((512 - suc (length F)) * 20) 0 ++ R

  frames_open : rooms H X F ++ R ≡ (H ++ region 136 activation_words 32 X) ++ (region 20 frame_words 512 F ++ R)
  unfolding rooms
  frames_open = simp append_assoc

module _ (H R : List ℕ) (X : List Activation) (F : List Frame) where
  frame_free : length F < 512 → rooms H X F ++ R ≡ under H R X F ++ (replicate 20 0 ++ over H R X F)
  frame_free h = frames_open H R X F ∙ place_free 20 frame_words (H ++ region 136 activation_words 32 X) R 512 F h

  frame_held : (fr : Frame) → rooms H X (fr ∷ F) ++ R ≡ under H R X F ++ (frame_words fr ++ over H R X F)
  frame_held fr = frames_open H R X (fr ∷ F) ∙ place_held 20 frame_words (H ++ region 136 activation_words 32 X) R 512 F fr

module _ (H R : List ℕ) (X : List Activation) (F : List Frame) (head : length H ≡ 128) (few : length X ≤ 32) where
  length_front : length (H ++ region 136 activation_words 32 X) ≡ 4480
  length_front =
      omega (
        arith,
        length-append H (region 136 activation_words 32 X),
        length_region 136 activation_words 32 X (every (Wide 136 activation_words) activation_wide X) few,
      )

  pub length_rooms : length F ≤ 512 → length (rooms H X F) ≡ 14720
  unfolding rooms
  length_rooms h =
      omega (
        arith,
        length-append H (region 136 activation_words 32 X ++ region 20 frame_words 512 F),
        length-append (region 136 activation_words 32 X) (region 20 frame_words 512 F),
        length-append H (region 136 activation_words 32 X),
        length_front,
        length_region 20 frame_words 512 F (every (Wide 20 frame_words) frame_wide F) h,
      )

  length_under : (n : ℕ) → n ≡ length F → length (under H R X F) ≡ 4480 + n * 20
  length_under n e =
      rw e
      (omega (
        arith,
        length-append (H ++ region 136 activation_words 32 X) (words frame_words F),
        length_front,
        length_words 20 frame_words F (every (Wide 20 frame_words) frame_wide F),
      ))

  module _ (n : ℕ) (count : n ≡ length F) where
    -- a frame is laid on the top by its words that are not zeros at the end
    pub frame_push : (fr : Frame) (vs : List ℕ) → n < 512 → length vs ≤ 20 → frame_words fr ≡ filled 20 vs
        → puts (rooms H X F ++ R) (4480 + n * 20) 0 vs ≡ rooms H X (fr ∷ F) ++ R
    frame_push fr vs room short e =
        rw (frame_free H R X F (omega arith), frame_held H R X F fr, e)
        (filling 20 (under H R X F) (over H R X F) (4480 + n * 20) (length_under n count) vs short)

    -- the top frame is taken off
    pub frame_pop : (fr : Frame) → n < 512 → puts (rooms H X (fr ∷ F) ++ R) (4480 + n * 20) 0 (replicate 20 0) ≡ rooms H X F ++ R
    frame_pop fr room =
        rw (frame_free H R X F (omega arith), frame_held H R X F fr)
        (puts_block (replicate 20 0) (frame_words fr) (under H R X F) (over H R X F) (4480 + n * 20) 0
        (length_under n count ∙ sym (add-zero (4480 + n * 20))) (frame_wide fr ∙ sym (length-replicate {A = ℕ} 20 0)))

    -- it is taken off by clearing at least its words that are not zeros at the end
    pub frame_clear : (fr : Frame) (vs : List ℕ) (k : ℕ) → n < 512 → length vs ≤ k → k ≤ 20 → frame_words fr ≡ filled 20 vs
        → puts (rooms H X (fr ∷ F) ++ R) (4480 + n * 20) 0 (replicate k 0) ≡ rooms H X F ++ R
    frame_clear fr vs k room used short e =
        rw (frame_free H R X F (omega arith), frame_held H R X F fr, e)
        (clearing 20 (under H R X F) (over H R X F) (4480 + n * 20) (length_under n count) vs k used short)

    -- the frames over a stack are taken off
    pub frames_pop : (K : List Frame) → length K + n ≤ 512
        → puts (rooms H X (K ++ F) ++ R) (4480 + n * 20) 0 (replicate (length K * 20) 0) ≡ rooms H X F ++ R
    frames_pop K room =
        rw (frames_open H R X (K ++ F), frames_open H R X F)
        (pops_law 20 frame_words (H ++ region 136 activation_words 32 X) R 512 (4480 + n * 20) K F
        (every (Wide 20 frame_words) frame_wide K) (every (Wide 20 frame_words) frame_wide F) (rw (length_front, count)) (omega arith))

    module _ (fr : Frame) where
      -- one word of the top frame
      pub frame_word : (j : ℕ) → j < 20 → get_or (rooms H X (fr ∷ F) ++ R) (4480 + n * 20 + j) 0 ≡ get_or (frame_words fr) j 0
      frame_word j h =
          rw (frame_held H R X F fr)
          (get_d_block (under H R X F) (frame_words fr) (over H R X F) (4480 + n * 20) j (length_under n count) (rw (frame_wide fr) h))

      -- neighbouring words of the top frame
      pub frame_part : (j k : ℕ) → j + k ≤ 20 → take k (drop (4480 + n * 20 + j) (rooms H X (fr ∷ F) ++ R)) ≡ take k (drop j (frame_words fr))
      frame_part j k h =
          rw (frame_held H R X F fr)
          (part (under H R X F) (frame_words fr) (over H R X F) (4480 + n * 20) (length_under n count) j k (rw (frame_wide fr) h))

      -- neighbouring words of the top frame change, in two places
      pub frame_change : (gr : Frame) (i j : ℕ) (us vs : List ℕ) → i + length us ≤ 20 → j + length vs ≤ 20
          → puts (puts (frame_words fr) i 0 us) j 0 vs ≡ frame_words gr
          → puts (puts (rooms H X (fr ∷ F) ++ R) (4480 + n * 20 + i) 0 us) (4480 + n * 20 + j) 0 vs ≡ rooms H X (gr ∷ F) ++ R
      frame_change gr i j us vs hi hj e =
          rw (frame_held H R X F fr, frame_held H R X F gr, ← e)
          (ap (λ (l : List ℕ). puts l (4480 + n * 20 + j) 0 vs)
          (inside (under H R X F) (frame_words fr) (over H R X F) (4480 + n * 20) (length_under n count) i us (rw (frame_wide fr) hi))
          ∙ inside (under H R X F) (puts (frame_words fr) i 0 us) (over H R X F) (4480 + n * 20) (length_under n count) j vs
          (rw (length_puts us (frame_words fr) i 0, frame_wide fr) hj))

-- ---- the activations

module _ (H R : List ℕ) (X : List Activation) (F : List Frame) where
  -- the words under the next activation, and over it
  abbrev low : List ℕ
  low = H ++ words activation_words X

  abbrev high : List ℕ
  high = replicate ((32 - suc (length X)) * 136) 0 ++ (region 20 frame_words 512 F ++ R)

  -- the head, the activations, the frames, and what is left
  pub activations_open : rooms H X F ++ R ≡ H ++ (region 136 activation_words 32 X ++ (region 20 frame_words 512 F ++ R))
  unfolding rooms
  activations_open = simp append_assoc

module _ (H R : List ℕ) (X : List Activation) (F : List Frame) where
  activation_free : length X < 32 → rooms H X F ++ R ≡ low H R X F ++ (replicate 136 0 ++ high H R X F)
  activation_free h = activations_open H R X F ∙ place_free 136 activation_words H (region 20 frame_words 512 F ++ R) 32 X h

  activation_held : (x : Activation) → rooms H (x ∷ X) F ++ R ≡ low H R X F ++ (activation_words x ++ high H R X F)
  activation_held x = activations_open H R (x ∷ X) F ∙ place_held 136 activation_words H (region 20 frame_words 512 F ++ R) 32 X x

module _ (H R : List ℕ) (X : List Activation) (F : List Frame) (head : length H ≡ 128) (a : ℕ) (count : a ≡ length X) where
  length_low : length (low H R X F) ≡ 128 + a * 136
  length_low =
      rw count
      (omega (arith, length-append H (words activation_words X), length_words 136 activation_words X (every (Wide 136 activation_words) activation_wide X)))

  -- an activation is laid on the top by its words that are not zeros at the end
  pub activation_push : (x : Activation) (vs : List ℕ) → a < 32 → length vs ≤ 136 → activation_words x ≡ filled 136 vs
      → puts (rooms H X F ++ R) (128 + a * 136) 0 vs ≡ rooms H (x ∷ X) F ++ R
  activation_push x vs room short e =
      rw (activation_free H R X F (omega arith), activation_held H R X F x, e)
      (filling 136 (low H R X F) (high H R X F) (128 + a * 136) length_low vs short)

  -- the top activation is taken off
  pub activation_pop : (x : Activation) → a < 32 → puts (rooms H (x ∷ X) F ++ R) (128 + a * 136) 0 (replicate 136 0) ≡ rooms H X F ++ R
  activation_pop x room =
      rw (activation_free H R X F (omega arith), activation_held H R X F x)
      (puts_block (replicate 136 0) (activation_words x) (low H R X F) (high H R X F) (128 + a * 136) 0
      (length_low ∙ sym (add-zero (128 + a * 136))) (activation_wide x ∙ sym (length-replicate {A = ℕ} 136 0)))

  -- it is taken off by clearing at least its words that are not zeros at the end
  pub activation_clear : (x : Activation) (vs : List ℕ) (k : ℕ) → a < 32 → length vs ≤ k → k ≤ 136 → activation_words x ≡ filled 136 vs
      → puts (rooms H (x ∷ X) F ++ R) (128 + a * 136) 0 (replicate k 0) ≡ rooms H X F ++ R
  activation_clear x vs k room used short e =
      rw (activation_free H R X F (omega arith), activation_held H R X F x, e)
      (clearing 136 (low H R X F) (high H R X F) (128 + a * 136) length_low vs k used short)

  module _ (x : Activation) where
    -- one word of the top activation
    pub activation_word : (j : ℕ) → j < 136 → get_or (rooms H (x ∷ X) F ++ R) (128 + a * 136 + j) 0 ≡ get_or (activation_words x) j 0
    activation_word j h =
        rw (activation_held H R X F x)
        (get_d_block (low H R X F) (activation_words x) (high H R X F) (128 + a * 136) j length_low (rw (activation_wide x) h))

    -- neighbouring words of the top activation change
    pub activation_change : (y : Activation) (j : ℕ) (vs : List ℕ) → j + length vs ≤ 136 → puts (activation_words x) j 0 vs ≡ activation_words y
        → puts (rooms H (x ∷ X) F ++ R) (128 + a * 136 + j) 0 vs ≡ rooms H (y ∷ X) F ++ R
    activation_change y j vs h e =
        rw (activation_held H R X F x, activation_held H R X F y, ← e)
        (inside (low H R X F) (activation_words x) (high H R X F) (128 + a * 136) length_low j vs (rw (activation_wide x) h))

    -- one word of the activation under the top
    pub caller_word : (y : Activation) (j : ℕ) → j < 136 → get_or (rooms H (y ∷ x ∷ X) F ++ R) (128 + a * 136 + j) 0 ≡ get_or (activation_words x) j 0
    caller_word y j h =
        rw (activations_open H R (y ∷ x ∷ X) F)
        (word_law 136 activation_words H (region 20 frame_words 512 F ++ R) 32 (128 + a * 136) (y ∷ x ∷ X) 1 x
        (every (Wide 136 activation_words) activation_wide (y ∷ x ∷ X)) (omega arith) (rw (head, count)) (128 + a * 136 + j) j refl h)
