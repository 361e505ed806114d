-- Functions entered and left while a state runs.
use mathlib.Core.Path.{◌≡◌, refl, sym, ap, ◌∙◌}
use mathlib.Core.List.{List, [], ◌∷◌, ◌++◌, append_assoc}
use Prim.Native.Nat.{ℕ, suc, ◌+◌, ◌*◌, ◌-◌, ◌≤◌, ◌<◌, min}
use native.Mathlib.Nat.{add-zero}
use native.Mathlib.Omega.{arith, min_cases}
use lib.ListN.{length, get_or, set, take, drop, replicate, length-append, length-replicate, replicate-append-replicate}
use Rattle.words.specs.Blocks.{puts}
use Rattle.words.specs.Moves.{moved}
use Rattle.words.proofs.Moves.{puts_next, puts_swap}
use Rattle.spec_machine.specs.Values.{Value, nothing, Ty}
use Rattle.spec_machine.specs.Program.{Operation}
use Rattle.spec_machine.specs.Machine.{Frame, gather, Saved, saved, blank}
use Rattle.spec_image.specs.Layout.{filled, value_words, values_words, nodes_words, Activation, activation, activation_words}
use Rattle.spec_image.specs.Image.{saved_activations, saved_frames}
use Rattle.spec_image.specs.Core.{core}
use Rattle.spec_image.proofs.ValueWords.{length-values, length_nodes}
use Rattle.spec_image.proofs.Images.{length_saved}
use Rattle.spec_image.proofs.SlotWords.{length_value, values_one, blank_values}
use Rattle.spec_image.proofs.Rooms.{rooms, filled_is, frame_clear, frame_part, frames_pop, activation_push, activation_pop, activation_clear, activation_word, caller_word}
use Rattle.spec_image.proofs.Frames.{head_kind, head_word, core_rooms, frame_words_lem}
use Rattle.spec_image.proofs.Operands.{gather_slots}
use Rattle.spec_image.proofs.Variables.{activation_words_lem, rooms_values, rooms_count}
use Rattle.spec_image.proofs.Heads.{empty_rooms}

-- the variables that are no parameters have nothing
pub blank_is : (ts : List Ty) → blank ts ≡ replicate (length ts) nothing
blank_is [] = refl
blank_is (t ∷ ts) = ap (λ (l : List Value). nothing ∷ l) (blank_is ts)

-- ---- the parts

-- an activation with nothing in its variables
blank_activation : (g c : ℕ) → c ≤ 64 → activation_words (activation g 0 (replicate c nothing)) ≡ filled 136 (g ∷ 0 ∷ c ∷ [])
blank_activation g c h =
    let n : length (replicate {A = Value} c nothing) ≡ c = length-replicate c nothing in
    let m : 2 * c + (128 - 2 * c) ≡ 128 = omega arith in
    let z : replicate {A = ℕ} (2 * c) 0 ++ replicate (128 - 2 * c) 0 ≡ replicate 128 0
    = replicate-append-replicate (2 * c) (128 - 2 * c) 0 ∙ ap (λ (k : ℕ). replicate {A = ℕ} k 0) m in
    activation_words_lem g 0 (replicate c nothing) (omega arith) ∙ rw (n, blank_values c, z) (sym (filled_is 136 (g ∷ 0 ∷ c ∷ []) (omega arith)))

module _ (H R : List ℕ) (X : List Activation) (F : List Frame) (head : length H ≡ 128) (a : ℕ) (count : a ≡ length X) where
  -- a function's activation is laid on the top, by its first three words
  pub rooms_enter : (g c : ℕ) → a < 32 → c ≤ 64
      → puts (rooms H X F ++ R) (128 + a * 136) 0 (g ∷ 0 ∷ c ∷ []) ≡ rooms H (activation g 0 (replicate c nothing) ∷ X) F ++ R
  rooms_enter g c room short =
      activation_push H R X F head a count (activation g 0 (replicate c nothing)) (g ∷ 0 ∷ c ∷ []) room (omega arith) (blank_activation g c short)

  -- its first variables get values
  pub rooms_arguments : (g : ℕ) (vs : List Value) (c l : ℕ) → c ≡ length vs + l → c ≤ 64
      → puts (rooms H (activation g 0 (replicate c nothing) ∷ X) F ++ R) (128 + a * 136 + 8) 0 (values_words vs)
      ≡ rooms H (activation g 0 (vs ++ replicate l nothing) ∷ X) F ++ R
  rooms_arguments g vs c l e short =
      let s : replicate {A = Value} c nothing ≡ replicate (length vs) nothing ++ replicate l nothing
      = rw e (sym (replicate-append-replicate (length vs) l nothing)) in
      let n : length (replicate {A = Value} (length vs) nothing) ≡ length vs = length-replicate (length vs) nothing in
      let m : length (replicate {A = Value} (length vs) nothing ++ replicate l nothing) ≤ 64
      = rw (← s, length-replicate {A = Value} c nothing) short in
      rw s (rooms_values H R X F head a count g 0 [] (replicate (length vs) nothing) vs (replicate l nothing) n m)

module _ (H R : List ℕ) (X : List Activation) (F : List Frame) (head : length H ≡ 128) (a : ℕ) (count : a ≡ length X) where
  module _ (g : ℕ) (h : Operation) (vs : List Value) (c l q n : ℕ) (room : a < 32) (short : c ≤ 64) (known : c ≡ length vs + suc l) (few : length vs ≤ 7)
      (all : length vs ≤ 2 * q) (most : 2 * q ≤ suc (length vs)) (under : n ≡ length F) where
    -- its first variables get the values in the top frame, whose slots are read two at a time
    rooms_copied : let m = rooms H (activation g 0 (replicate c nothing) ∷ X) (gather h vs [] ∷ F) ++ R in
        puts m (128 + a * 136 + 8) 0 (take (q * 4) (drop (4480 + n * 20 + 4) m))
        ≡ rooms H (activation g 0 (vs ++ ((nothing ∷ []) ++ replicate l nothing)) ∷ X) (gather h vs [] ∷ F) ++ R
    rooms_copied =
        let d : ℕ = 2 * q - length vs in
        let us : List Value = vs ++ replicate d nothing in
        let w : q * 4 ≡ 2 * (length vs + d) = omega arith in
        let i : d + (suc l - d) ≡ suc l = omega arith in
        let k : length us ≡ length vs + d = omega (arith, length-append vs (replicate {A = Value} d nothing), length-replicate {A = Value} d nothing) in
        let p = frame_part H R (activation g 0 (replicate c nothing) ∷ X) F head (omega arith) n under (gather h vs []) 4 (2 * (length vs + d)) (omega arith)
        ∙ gather_slots h vs d few (omega arith) in
        let t : us ++ replicate (suc l - d) nothing ≡ vs ++ ((nothing ∷ []) ++ replicate l nothing)
        = append_assoc vs (replicate d nothing) (replicate (suc l - d) nothing)
        ∙ ap (λ (r : List Value). vs ++ r) (replicate-append-replicate d (suc l - d) nothing ∙ ap (λ (i : ℕ). replicate i nothing) i) in
        rw (w, p, ← t) (rooms_arguments H R X (gather h vs [] ∷ F) head a count g us c (suc l - d) (omega arith) short)

    -- one at hand follows them, and the frame is taken off by its first words, once its slots are cleared
    rooms_moved : (v : Value) → n < 512 → let m = rooms H (activation g 0 (replicate c nothing) ∷ X) (gather h vs [] ∷ F) ++ R in
        puts (puts (moved m (4480 + n * 20 + 4) (128 + a * 136 + 8) (q * 4)) (128 + a * 136 + (8 + 2 * length vs)) 0 (value_words v))
        (4480 + n * 20) 0 (0 ∷ 0 ∷ 0 ∷ 0 ∷ [])
        ≡ rooms H (activation g 0 (vs ++ ((v ∷ []) ++ replicate l nothing)) ∷ X) F ++ R
    rooms_moved v fewer =
        let A : ℕ = 4480 + n * 20 in
        let S : ℕ = 128 + a * 136 + (8 + 2 * length vs) in
        let W : List ℕ = value_words v in
        let O : List ℕ = 0 ∷ 0 ∷ 0 ∷ 0 ∷ [] in
        let Z : List ℕ = replicate (q * 4) 0 in
        let F₁ : List Frame = gather h vs [] ∷ F in
        let M = rooms H (activation g 0 (vs ++ ((nothing ∷ []) ++ replicate l nothing)) ∷ X) F₁ ++ R in
        let N = rooms H (activation g 0 (vs ++ ((v ∷ []) ++ replicate l nothing)) ∷ X) F₁ ++ R in
        let ws : List ℕ = head_kind h ∷ head_word h ∷ length vs ∷ 0 ∷ values_words vs ++ nodes_words [] in
        let i : length (vs ++ ((nothing ∷ []) ++ replicate l nothing)) ≤ 64
        = omega (arith, short, known, length-append vs ((nothing ∷ []) ++ replicate l nothing), length-replicate l nothing) in
        let u : length ws ≤ 4 + q * 4 = omega (arith, length-append (values_words vs) (nodes_words []), length-values vs, length_nodes []) in
        let r : puts M S 0 W ≡ N
        = rw (values_one v) at (rooms_values H R X F₁ head a count g 0 vs (nothing ∷ []) (v ∷ []) (replicate l nothing) refl i) in
        ap (λ (t : List ℕ). puts (puts (puts t (A + 4) 0 Z) S 0 W) A 0 O) rooms_copied
        ∙ ap (λ (t : List ℕ). puts t A 0 O) (puts_swap W Z M S (A + 4) (omega (arith, length_value v)) ∙ ap (λ (t : List ℕ). puts t (A + 4) 0 Z) r)
        ∙ puts_swap O Z N A (A + 4) (omega arith)
        ∙ puts_next O Z N A (A + 4) refl
        ∙ ap (λ (t : List ℕ). puts N A 0 t) (replicate-append-replicate 4 (q * 4) 0)
        ∙ frame_clear H R (activation g 0 (vs ++ ((v ∷ []) ++ replicate l nothing)) ∷ X) F head (omega arith) n under (gather h vs []) ws (4 + q * 4)
        fewer u (omega arith) (frame_words_lem (gather h vs []))

-- ---- entered

module _ (f : ℕ) (η : List Value) (K : List Frame) (A : List Saved) (R : List ℕ) (a b here : ℕ)
    (count : a ≡ length A) (old : b ≡ 128 + a * 136 + 1) (new : here ≡ 128 + (a + 1) * 136) where
  module _ (k g c : ℕ) (frames : k ≡ length K) (room : a + 1 < 32) (short : c ≤ 64) where
    -- the frame count is stored, and the new activation's first three words, whatever the frames are
    entering : (F : List Frame)
        → puts (set (rooms (replicate 128 0) (activation f 0 η ∷ saved_activations A) F ++ R) b k) here 0 (g ∷ 0 ∷ c ∷ [])
        ≡ rooms (replicate 128 0) (activation g 0 (replicate c nothing) ∷ saved_activations (saved f η K ∷ A)) F ++ R
    unfolding saved_activations
    entering F =
        rw (old, new, frames, rooms_count (replicate 128 0) R (saved_activations A) F (length-replicate {A = ℕ} 128 0) a (count ∙ sym (length_saved A)) f 0 η (length K))
        (rooms_enter (replicate 128 0) R (activation f (length K) η ∷ saved_activations A) F (length-replicate {A = ℕ} 128 0) (a + 1)
        (omega (arith, count, length_saved A)) g c room short)

    -- without arguments
    pub enter_none : puts (set (core f η K A ++ R) b k) here 0 (g ∷ 0 ∷ c ∷ []) ≡ core g (replicate c nothing) [] (saved f η K ∷ A) ++ R
    unfolding saved_frames
    enter_none =
        rw (core_rooms f η K A, core_rooms g (replicate c nothing) [] (saved f η K ∷ A)) (entering (K ++ saved_frames A))

    module _ (n at : ℕ) (under : n ≡ length (K ++ saved_frames A)) (top : at ≡ 4480 + n * 20) (fewer : n < 512) where
      -- with arguments moved from the frame, and the last one at hand
      pub enter_moved : (h : Operation) (vs : List Value) (v : Value) (l q s : ℕ) → c ≡ length vs + suc l → length vs ≤ 7 → length vs ≤ 2 * q → 2 * q ≤ suc (length vs)
          → s ≡ here + (8 + length vs * 2) → let m = puts (set (core f η (gather h vs [] ∷ K) A ++ R) b k) here 0 (g ∷ 0 ∷ c ∷ []) in
          puts (puts (moved m (at + 4) (here + 8) (q * 4)) s 0 (value_words v)) at 0 (0 ∷ 0 ∷ 0 ∷ 0 ∷ [])
          ≡ core g ((vs ++ (v ∷ [])) ++ replicate l nothing) [] (saved f η K ∷ A) ++ R
      unfolding saved_activations saved_frames
      enter_moved h vs v l q s hc hv all most hs =
          let e : s ≡ 128 + (a + 1) * 136 + (8 + 2 * length vs) = omega arith in
          rw (
            core_rooms f η (gather h vs [] ∷ K) A,
            entering (gather h vs [] ∷ (K ++ saved_frames A)),
            core_rooms g ((vs ++ (v ∷ [])) ++ replicate l nothing) [] (saved f η K ∷ A),
            e,
            new,
            top,
            append_assoc vs (v ∷ []) (replicate l nothing),
          )
          (rooms_moved (replicate 128 0) R (activation f (length K) η ∷ saved_activations A) (K ++ saved_frames A) (length-replicate {A = ℕ} 128 0) (a + 1)
          (omega (arith, count, length_saved A)) g h vs c l q n room short hc hv all most under v fewer)

-- the function that is called first, in words that are zeros
pub enter_main : (R : List ℕ) (z at g c : ℕ) → z ≡ 14720 → at ≡ 128 → c ≤ 64
    → puts (replicate z 0 ++ R) at 0 (g ∷ 0 ∷ c ∷ []) ≡ core g (replicate c nothing) [] [] ++ R
unfolding saved_activations saved_frames
enter_main R z at g c all place short =
    rw (place, ← empty_rooms z all, core_rooms g (replicate c nothing) [] [])
    (rooms_enter (replicate 128 0) R [] [] (length-replicate {A = ℕ} 128 0) 0 refl g c (omega arith) short)

-- ---- left

module _ (H R : List ℕ) (X : List Activation) (F : List Frame) (head : length H ≡ 128) (a : ℕ) (count : a ≡ length X) where
  -- the top activation is taken off by clearing the words that it uses, by the number of variables that it says
  rooms_leave : (f k : ℕ) (η : List Value) → a < 32 → let m = rooms H (activation f k η ∷ X) F ++ R in
      puts m (128 + a * 136) 0 (replicate (8 + min (get_or m (128 + a * 136 + 2) 0) 64 * 2) 0) ≡ rooms H X F ++ R
  unfolding activation_words filled
  rooms_leave f k η room =
      let m = rooms H (activation f k η ∷ X) F ++ R in
      let c : get_or m (128 + a * 136 + 2) 0 ≡ length η = activation_word H R X F head a count (activation f k η) 2 (omega arith) in
      let ws : List ℕ = f ∷ k ∷ length η ∷ 0 ∷ 0 ∷ 0 ∷ 0 ∷ 0 ∷ values_words η in
      rw c
      (min_cases (length η) 64 (puts m (128 + a * 136) 0 (replicate (8 + min (length η) 64 * 2) 0) ≡ rooms H X F ++ R)
      (λ h e. rw e
      (activation_clear H R X F head a count (activation f k η) ws (8 + length η * 2) room (omega (arith, length-values η)) (omega arith) refl))
      (λ h e. rw e (activation_pop H R X F head a count (activation f k η) room)))

module _ (f : ℕ) (η : List Value) (J : List Frame) (R : List ℕ) where
  -- the caller's function
  pub caller_function : (g : ℕ) (θ : List Value) (L : List Frame) (A : List Saved) (a b : ℕ) → a ≡ length A → b ≡ 128 + a * 136
      → get_or (core f η J (saved g θ L ∷ A) ++ R) b 0 ≡ g
  unfolding saved_activations activation_words filled
  caller_function g θ L A a b count old =
      rw (old, core_rooms f η J (saved g θ L ∷ A))
      (rw (add-zero (128 + a * 136)) at
      (caller_word (replicate 128 0) R (saved_activations A) (J ++ saved_frames (saved g θ L ∷ A)) (length-replicate {A = ℕ} 128 0) a (count ∙ sym (length_saved A))
      (activation g (length L) θ) (activation f 0 η) 0 (omega arith)))

  -- the caller's frame count
  pub caller_count : (g : ℕ) (θ : List Value) (L : List Frame) (A : List Saved) (a b : ℕ) → a ≡ length A → b ≡ 128 + a * 136 + 1
      → get_or (core f η J (saved g θ L ∷ A) ++ R) b 0 ≡ length L
  unfolding saved_activations activation_words filled
  caller_count g θ L A a b count old =
      rw (old, core_rooms f η J (saved g θ L ∷ A))
      (caller_word (replicate 128 0) R (saved_activations A) (J ++ saved_frames (saved g θ L ∷ A)) (length-replicate {A = ℕ} 128 0) a (count ∙ sym (length_saved A))
      (activation g (length L) θ) (activation f 0 η) 1 (omega arith))

  module _ (g : ℕ) (θ : List Value) (L : List Frame) (A : List Saved) (n a at b here size : ℕ) (under : n ≡ length (L ++ saved_frames A)) (count : a ≡ length A)
      (top : at ≡ 4480 + n * 20) (old : b ≡ 128 + a * 136 + 1) (new : here ≡ 128 + (a + 1) * 136) (sized : size ≡ length J * 20)
      (room : a + 1 < 32) (fewer : length J + n ≤ 512) where
    -- the frames are taken off, then the activation by the words that it uses, and the caller's frame count is taken out
    pub leave : let m = puts (core f η J (saved g θ L ∷ A) ++ R) at 0 (replicate size 0) in
        set (puts m here 0 (replicate (8 + min (get_or m (here + 2) 0) 64 * 2) 0)) b 0 ≡ core g θ L A ++ R
    unfolding saved_activations saved_frames
    leave =
        let Z : List ℕ = replicate 128 0 in
        let z : length Z ≡ 128 = length-replicate {A = ℕ} 128 0 in
        let X : List Activation = saved_activations A in
        let i : suc (suc (length X)) ≤ 32 = omega (arith, room, count, length_saved A) in
        let c : a + 1 ≡ suc (length X) = omega (arith, count, length_saved A) in
        rw (
          sized,
          old,
          new,
          top,
          core_rooms f η J (saved g θ L ∷ A),
          core_rooms g θ L A,
          frames_pop Z R (activation f 0 η ∷ activation g (length L) θ ∷ X) (L ++ saved_frames A) z i n under J fewer,
          rooms_leave Z R (activation g (length L) θ ∷ X) (L ++ saved_frames A) z (a + 1) c f 0 η room,
        )
        (rooms_count Z R X (L ++ saved_frames A) z a (count ∙ sym (length_saved A)) g (length L) θ 0)

  -- the function that was called first is left: all words but the environment's are zeros
  pub leave_main : (size all at here : ℕ) → size ≡ length J * 20 → all ≡ 14720 → at ≡ 4480 → here ≡ 128 → length J ≤ 512
      → puts (puts (core f η J [] ++ R) at 0 (replicate size 0)) here 0 (replicate 136 0) ≡ replicate all 0 ++ R
  unfolding saved_activations saved_frames
  leave_main size all at here sized every top new fewer =
      let Z : List ℕ = replicate 128 0 in
      let z : length Z ≡ 128 = length-replicate {A = ℕ} 128 0 in
      rw (
        sized,
        top,
        new,
        ← empty_rooms all every,
        core_rooms f η J [],
        frames_pop Z R (activation f 0 η ∷ []) [] z (omega arith) 0 refl J (omega arith),
      )
      (activation_pop Z R [] [] z 0 refl (activation f 0 η) (omega arith))
