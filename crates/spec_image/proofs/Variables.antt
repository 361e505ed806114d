-- The variables of the current activation while a state runs: read and stored.
use mathlib.Core.Path.{◌≡◌, refl, sym, ◌∙◌}
use mathlib.Core.List.{List, [], ◌∷◌, ◌++◌, append_assoc}
use Prim.Native.Nat.{ℕ, suc, ◌+◌, ◌*◌, ◌-◌, ◌≤◌, ◌<◌}
use native.Mathlib.Nat.{add-zero}
use native.Mathlib.Omega.{arith}
use lib.ListN.{length, get_or, set, take, drop, replicate, length-append, length-replicate}
use lib.Seq.{split_at, set_split, length-take-le, get_or-append-add}
use Rattle.words.specs.Blocks.{puts}
use Rattle.words.proofs.Blocks.{puts_block}
use Rattle.spec_machine.specs.Values.{Value, nothing}
use Rattle.spec_machine.specs.Machine.{Frame, Saved}
use Rattle.spec_image.specs.Layout.{filled, value_words, values_words, Activation, activation, activation_words}
use Rattle.spec_image.specs.Image.{saved_activations, saved_frames}
use Rattle.spec_image.specs.Decode.{value_of}
use Rattle.spec_image.specs.Core.{core}
use Rattle.spec_image.proofs.ValueWords.{value_back, length-values}
use Rattle.spec_image.proofs.BlockLengths.{filled_at}
use Rattle.spec_image.proofs.Images.{length_saved}
use Rattle.spec_image.proofs.SlotWords.{values_append, values_one, values_at}
use Rattle.spec_image.proofs.Rooms.{rooms, filled_is, activation_word, activation_change}
use Rattle.spec_image.proofs.Frames.{core_rooms}

-- ---- the words of an activation

-- the first eight words, the variables, zeros
pub activation_words_lem : (f k : ℕ) (η : List Value) → length η ≤ 64
    → activation_words (activation f k η)
    ≡ f ∷ k ∷ length η ∷ 0 ∷ 0 ∷ 0 ∷ 0 ∷ 0 ∷ values_words η ++ replicate (128 - 2 * length η) 0
unfolding activation_words
activation_words_lem f k η h =
    let l = f ∷ k ∷ length η ∷ 0 ∷ 0 ∷ 0 ∷ 0 ∷ 0 ∷ values_words η in
    let n : length l ≤ 136 = omega (arith, length-values η) in
    let e : 136 - length l ≡ 128 - 2 * length η = omega (arith, length-values η) in
    filled_is 136 l n ∙ rw e

-- a word of variable x
variable_word : (f k : ℕ) (η : List Value) (x j : ℕ) → x < length η → length η ≤ 64 → j < 2
    → get_or (activation_words (activation f k η)) (8 + (2 * x + j)) 0 ≡ get_or (value_words (get_or η x nothing)) j 0
unfolding activation_words
variable_word f k η x j h w i =
    filled_at 136 _ (8 + (2 * x + j)) (omega arith)
    ∙ get_or-append-add (f ∷ k ∷ length η ∷ 0 ∷ 0 ∷ 0 ∷ 0 ∷ 0 ∷ []) (values_words η) (2 * x + j) 0
    ∙ values_at η x j h i

-- values are stored over as many variables
variables_stored : (f k : ℕ) (us qs vs ws : List Value) → length qs ≡ length vs → length (us ++ (qs ++ ws)) ≤ 64
    → puts (activation_words (activation f k (us ++ (qs ++ ws)))) (8 + 2 * length us) 0 (values_words vs)
    ≡ activation_words (activation f k (us ++ (vs ++ ws)))
variables_stored f k us qs vs ws same short =
    let m = length (us ++ (qs ++ ws)) in
    let c : length (us ++ (vs ++ ws)) ≡ m = simp length-append (omega arith) in
    let Z : List ℕ = replicate (128 - 2 * m) 0 in
    let parted : (ts : List Value) → values_words (us ++ (ts ++ ws)) ++ Z ≡ values_words us ++ (values_words ts ++ (values_words ws ++ Z))
    = λ ts. simp (values_append, append_assoc) in
    let p : List ℕ = f ∷ k ∷ m ∷ 0 ∷ 0 ∷ 0 ∷ 0 ∷ 0 ∷ values_words us in
    let n : length p ≡ 8 + 2 * length us + 0 = omega (arith, length-values us) in
    let d : length (us ++ (vs ++ ws)) ≤ 64 = omega arith in
    rw (activation_words_lem f k (us ++ (qs ++ ws)) short, activation_words_lem f k (us ++ (vs ++ ws)) d, c, parted qs, parted vs)
    (puts_block (values_words vs) (values_words qs) p (values_words ws ++ Z) (8 + 2 * length us) 0 n
    (length-values qs ∙ rw same (sym (length-values vs))))

-- ---- in the rooms

module _ (H R : List ℕ) (X : List Activation) (F : List Frame) (head : length H ≡ 128) (a : ℕ) (count : a ≡ length X) (f k : ℕ) where
  -- values are stored over as many variables of the top activation
  pub rooms_values : (us qs vs ws : List Value) → length qs ≡ length vs → length (us ++ (qs ++ ws)) ≤ 64
      → puts (rooms H (activation f k (us ++ (qs ++ ws)) ∷ X) F ++ R) (128 + a * 136 + (8 + 2 * length us)) 0 (values_words vs)
      ≡ rooms H (activation f k (us ++ (vs ++ ws)) ∷ X) F ++ R
  rooms_values us qs vs ws same short =
      let n : 8 + 2 * length us + length (values_words vs) ≤ 136
      = omega (arith, same, short, length-values vs, length-append us (qs ++ ws), length-append qs ws) in
      activation_change H R X F head a count (activation f k (us ++ (qs ++ ws))) (activation f k (us ++ (vs ++ ws))) (8 + 2 * length us) (values_words vs) n
      (variables_stored f k us qs vs ws same short)

  -- a value is stored in variable x of the top activation
  pub rooms_variable : (η : List Value) (x : ℕ) (v : Value) → x < length η → length η ≤ 64
      → puts (rooms H (activation f k η ∷ X) F ++ R) (128 + a * 136 + (8 + 2 * x)) 0 (value_words v) ≡ rooms H (activation f k (set η x v) ∷ X) F ++ R
  rooms_variable η x v h short =
      let s : η ≡ take x η ++ ((get_or η x nothing ∷ []) ++ drop (suc x) η) = split_at η x nothing h in
      let t : length (take x η) ≡ x = length-take-le x η (omega arith) in
      let n : length (take x η ++ ((get_or η x nothing ∷ []) ++ drop (suc x) η)) ≤ 64 = rw (← s) short in
      let z = rooms_values (take x η) (get_or η x nothing ∷ []) (v ∷ []) (drop (suc x) η) refl n in
      rw (set_split η x v h)
      (rw (← s, t, values_one v) at z)

  -- the top activation's frame count is stored
  pub rooms_count : (η : List Value) (l : ℕ) → set (rooms H (activation f k η ∷ X) F ++ R) (128 + a * 136 + 1) l ≡ rooms H (activation f l η ∷ X) F ++ R
  unfolding activation_words filled
  rooms_count η l =
      rw (add-zero (128 + a * 136 + 1)) at
      (activation_change H R X F head a count (activation f k η) (activation f l η) 1 (l ∷ []) (omega arith) refl)

-- ---- while a state runs

module _ (f : ℕ) (η : List Value) (K : List Frame) (A : List Saved) (R : List ℕ) (a at : ℕ) (count : a ≡ length A) (place : at ≡ 128 + a * 136) where
  known : a ≡ length (saved_activations A)
  known = count ∙ sym (length_saved A)

  -- one word of the current activation
  pub current_word : (b j : ℕ) → b ≡ at + j → j < 136 → get_or (core f η K A ++ R) b 0 ≡ get_or (activation_words (activation f 0 η)) j 0
  current_word b j e h =
      rw (e, place, core_rooms f η K A)
      (activation_word (replicate 128 0) R (saved_activations A) (K ++ saved_frames A) (length-replicate {A = ℕ} 128 0) a known (activation f 0 η) j h)

  -- its function, and how many variables it has
  pub current_function : get_or (core f η K A ++ R) at 0 ≡ f
  unfolding activation_words filled
  current_function = current_word at 0 (omega arith) (omega arith)

  pub current_variables : get_or (core f η K A ++ R) (at + 2) 0 ≡ length η
  unfolding activation_words filled
  current_variables = current_word (at + 2) 2 refl (omega arith)

  module _ (x b : ℕ) (here : x < length η) (short : length η ≤ 64) (slot : b ≡ at + (8 + x * 2)) where
    -- the two words of variable x
    pub read_variable : (c j : ℕ) → c ≡ b + j → j < 2 → get_or (core f η K A ++ R) c 0 ≡ get_or (value_words (get_or η x nothing)) j 0
    read_variable c j e i =
        current_word c (8 + (2 * x + j)) (omega arith) (omega arith) ∙ variable_word f 0 η x j here short i

    -- the value that they stand for
    pub variable_back : value_of (get_or (core f η K A ++ R) b 0) (get_or (core f η K A ++ R) (b + 1) 0) ≡ get_or η x nothing
    variable_back = rw (read_variable b 0 (omega arith) (omega arith), read_variable (b + 1) 1 refl (omega arith)) (value_back (get_or η x nothing))

    -- a value is stored in variable x
    pub store_variable : (v : Value) → puts (core f η K A ++ R) b 0 (value_words v) ≡ core f (set η x v) K A ++ R
    store_variable v =
        let e : b ≡ 128 + a * 136 + (8 + 2 * x) = omega arith in
        rw (e, core_rooms f η K A, core_rooms f (set η x v) K A)
        (rooms_variable (replicate 128 0) R (saved_activations A) (K ++ saved_frames A) (length-replicate {A = ℕ} 128 0) a known f 0 η x v here short)
