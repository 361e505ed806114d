-- The words of an image that a state does not fill are zero, and two images differ where one of them is filled.
use mathlib.Core.Path.{◌≡◌, refl, sym, ap, ◌∙◌}
use mathlib.Core.List.{List, ◌++◌, append_assoc}
use Prim.Native.Nat.{ℕ, zero, suc, ◌+◌, ◌*◌, ◌-◌, ◌≤◌, ◌<◌, max}
use native.Mathlib.Omega.{arith}
use lib.ListN.{length, get_or, take, drop, replicate, length-append, length-drop, length-replicate, get_or-append}
use lib.Seq.{length-take-le, get_or-append-add, get_or-take, get_or-drop, ext_get_or}
use Rattle.words.specs.Stacks.{words, Wide, total}
use Rattle.words.proofs.Stacks.{length_words, every}
use Rattle.spec_machine.specs.Machine.{State}
use Rattle.spec_machine.specs.Fit.{WithinLimits}
use Rattle.spec_image.specs.Sizes.{frames_at, size}
use Rattle.spec_image.specs.Layout.{filled, frame_words, activation_words}
use Rattle.spec_image.specs.Image.{head_words, activations_of, frames_of, env_part, image}
use Rattle.spec_image.specs.Decode.{frames_held, activations_in, held_in}
use Rattle.spec_image.proofs.BlockLengths.{length-filled, zeros_at, frame_wide, activation_wide}
use Rattle.spec_image.proofs.Images.{few_activations, few_frames, frames_held_lem, head_word_lem, count_in, activations_in_lem, env_in, image_length}
use Rattle.spec_image.proofs.Memory.{whole_held}
use Rattle.fit_state.specs.HoldsState.{HoldsState}
use Rattle.log_records.specs.Ranges.{Alike, NoEnv, Within}

zeros_twice : (m n j : ℕ) → ◌≡◌ {A = ℕ} (get_or (replicate m 0 ++ replicate n 0) j 0) 0
zeros_twice zero n j = zeros_at n j
zeros_twice (suc m) n zero = refl
zeros_twice (suc m) n (suc j) = zeros_twice m n j

module _ (s : State) (w : WithinLimits s) where
  abbrev acts : ℕ
  acts = length (activations_of s)

  abbrev held : ℕ
  held = length (frames_of s)

  abbrev lower : List ℕ
  lower = filled 128 (head_words s) ++ words activation_words (activations_of s)

  abbrev gap : List ℕ
  gap = replicate ((32 - acts) * 136) 0

  abbrev upper : List ℕ
  upper = words frame_words (frames_of s)

  abbrev end : List ℕ
  end = replicate ((512 - held) * 20) 0 ++ env_part s

  in_four : image s ≡ lower ++ (gap ++ (upper ++ end))
  unfolding image
  in_four = simp append_assoc

  lower_length : length lower ≡ 128 + acts * 136
  lower_length = length-append (filled 128 (head_words s)) (words activation_words (activations_of s))
      ∙ rw (length-filled 128 (head_words s), length_words 136 activation_words (activations_of s) (every (Wide 136 activation_words) activation_wide (activations_of s))) refl

  gap_length : length gap ≡ (32 - acts) * 136
  gap_length = length-replicate ((32 - acts) * 136) 0

  upper_length : length upper ≡ held * 20
  upper_length = length_words 20 frame_words (frames_of s) (every (Wide 20 frame_words) frame_wide (frames_of s))

  -- between the activations and the frames
  gap_zero : (i : ℕ) → 128 + acts * 136 ≤ i → i < frames_at → get_or (image s) i 0 ≡ 0
  gap_zero i h k =
      let j : ℕ = i - (128 + acts * 136) in
      let e : length lower + j ≡ i = omega (arith, lower_length) in
      let l : j < length gap = omega (arith, gap_length, few_activations s w) in
      rw (in_four, ← e) (get_or-append-add lower (gap ++ (upper ++ end)) j 0 ∙ (get_or-append gap (upper ++ end) 0 j l ∙ zeros_at ((32 - acts) * 136) j))

  -- behind the frames
  end_zero : env_part s ≡ replicate 1664 0 → (i : ℕ) → frames_at + held * 20 ≤ i → get_or (image s) i 0 ≡ 0
  end_zero z i h =
      let j : ℕ = i - (frames_at + held * 20) in
      let l : length (lower ++ (gap ++ upper)) ≡ length lower + (length gap + length upper) = simp length-append in
      let e : length (lower ++ (gap ++ upper)) + j ≡ i = omega (arith, l, lower_length, gap_length, upper_length, few_activations s w) in
      let p : image s ≡ (lower ++ (gap ++ upper)) ++ end = in_four ∙ simp append_assoc in
      rw (p, ← e) (get_or-append-add (lower ++ (gap ++ upper)) end j 0 ∙ rw z (zeros_twice ((512 - held) * 20) 1664 j))

  pub image_within : env_part s ≡ replicate 1664 0 → Within (128 + acts * 136) (frames_at + held * 20) (image s)
  image_within z =
      let a = few_activations s w in
      let f = few_frames s w in
      record { long = image_length s w; low = omega arith; high = (omega arith, omega arith); between = gap_zero; above = end_zero z }

module _ (m : List ℕ) (h : HoldsState m) where
  -- the count of activations in the head, and of their frames
  pub count_there : get_or m 2 0 ≡ length (activations_of h.state)
  count_there = rw h.held (head_word_lem h.state h.rest 2 (omega arith) ∙ count_in h.state)

  pub frames_there : held_in m (get_or m 2 0) ≡ length (frames_of h.state)
  unfolding activations_in
  frames_there =
      let e : activations_in m ≡ activations_of h.state = rw h.held (activations_in_lem h.state h.rest h.narrow) in
      ap (total frames_held) e ∙ frames_held_lem h.state

  pub few_there : (get_or m 2 0 ≤ 32) × (held_in m (get_or m 2 0) ≤ 512)
  few_there = (omega (arith, count_there, few_activations h.state h.within), omega (arith, frames_there, few_frames h.state h.within))

  pub extent_is : {n k : ℕ} → NoEnv m → n ≡ get_or m 2 0 → k ≡ held_in m (get_or m 2 0) → Within (128 + n * 136) (4480 + k * 20) (take size m)
  extent_is o e f =
      let z : env_part h.state ≡ replicate 1664 0 = sym (env_in h.state h.rest h.within) ∙ (rw h.held at o) in
      let t : take size m ≡ image h.state = ap (λ (l : List ℕ). take size l) h.held ∙ (whole_held h.state h.rest h.within).0 in
      rw (t, e ∙ count_there, f ∙ frames_there) (image_within h.state h.within z)

-- two images that are zero in a part are alike there
module _ {p q p' q' : ℕ} {a b : List ℕ} (x : Within p q a) (y : Within p' q' b) where
  part_same : (c n : ℕ) → c + n ≤ size → ((i : ℕ) → c ≤ i → i < c + n → get_or a i 0 ≡ get_or b i 0) → take n (drop c a) ≡ take n (drop c b)
  part_same c n r h =
      let A : length (take n (drop c a)) ≡ n = length-take-le n (drop c a) (omega (arith, length-drop c a, x.long)) in
      let B : length (take n (drop c b)) ≡ n = length-take-le n (drop c b) (omega (arith, length-drop c b, y.long)) in
      ext_get_or 0 (take n (drop c a)) (take n (drop c b)) (A ∙ sym B)
      (λ i l. rw (get_or-take n (drop c a) i 0 (omega (arith, A)), get_or-take n (drop c b) i 0 (omega (arith, A)), get_or-drop c a i 0, get_or-drop c b i 0) (h (c + i) (omega arith) (omega (arith, A))))

  pub joined_alike : Alike (max p p') (max q q') a b
  joined_alike =
      let P : ℕ = max p p' in
      let Q : ℕ = max q q' in
      let l : P ≤ frames_at = omega (arith, x.low, y.low) in
      let u : Q ≤ size = omega (arith, x.high.1, y.high.1) in
      let A : length (drop Q a) ≡ size - Q = length-drop Q a ∙ rw x.long refl in
      let B : length (drop Q b) ≡ size - Q = length-drop Q b ∙ rw y.long refl in
      record {
        before_long = x.long;
        after_long = y.long;
        low = l;
        high = (omega (arith, x.high.0), u);
        between = part_same P (frames_at - P) (omega arith) (λ i h k. x.between i (omega arith) (omega arith) ∙ sym (y.between i (omega arith) (omega arith)));
        above = ext_get_or 0 (drop Q a) (drop Q b) (A ∙ sym B) (λ i h. rw (get_or-drop Q a i 0, get_or-drop Q b i 0) (x.above (Q + i) (omega arith) ∙ sym (y.above (Q + i) (omega arith))));
      }
