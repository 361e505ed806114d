-- Frames and activations: a block that passes is written again as it was read and is narrow, and the block of one that is narrow passes.
use mathlib.Core.Path.{◌≡◌, refl, sym, ap, ◌∙◌}
use mathlib.Core.Bool.{true, false, false≢true}
use mathlib.Core.List.{List, [], ◌∷◌, ◌++◌}
use Prim.Native.Nat.{ℕ, zero, suc, ◌+◌, ◌*◌, ◌-◌, ◌≤◌}
use native.Mathlib.Omega.{arith}
use lib.Dec.{leb}
use lib.ListN.{length, get_or, take, drop, replicate, length-drop, take-append-drop}
use lib.Seq.{drop_at, drop-drop, length-take-le}
use borrow.Author.Tests.{leb-true, le-leb, le-ltb}
use Rattle.words.specs.Blocks.{all_zero}
use Rattle.words.proofs.Blocks.{parted}
use Rattle.words.proofs.Tests.{both, all_zeros, zeros_all}
use Rattle.spec_machine.specs.Values.{Value}
use Rattle.spec_machine.specs.Program.{Operation, op, fn}
use Rattle.spec_machine.specs.Machine.{Frame, gather, and, wait, branch, check}
use Rattle.spec_image.specs.Layout.{filled, values_words, nodes_words, block, frame_words, Activation, activation, activation_words}
use Rattle.spec_image.specs.Decode.{values_of, nodes_of, operands, frames, frame_of, activation_of}
use Rattle.spec_image.specs.Narrow.{NarrowFrame, NarrowActivation}
use Rattle.spec_image.proofs.ValueWords.{length-values, length_nodes, length_values_of, length_nodes_of, ref_word_lem}
use Rattle.spec_image.proofs.Frames.{head_kind, head_word}
use Rattle.spec_image.proofs.Operands.{gather_words}
use Rattle.spec_image.proofs.Variables.{activation_words_lem}
use Rattle.fit_image.specs.BlockTests.{values_ok, nodes_ok, operands_ok, frame_ok, activation_ok}
use Rattle.fit_image.proofs.SlotTests.{values_sound, nodes_sound, values_pass, nodes_pass}

-- words that are all zero, by their number
pub zeros : (l : List ℕ) (n : ℕ) → length l ≡ n → all_zero l ≡ true → l ≡ replicate n 0
zeros l n h e = rw (← h) (all_zeros l e)

-- ---- frames that gather

module _ (h : Operation) (y z : ℕ) (slots : List ℕ) (long : length slots ≡ 16) (e : operands_ok y z slots ≡ true) where
  few : y + z ≤ 7
  unfolding operands_ok
  few = leb-true (y + z) 7 (both (leb (y + z) 7) _ e).0

  pub operands_narrow : NarrowFrame (operands h y z slots)
  unfolding operands
  operands_narrow = rw (length_values_of y slots, length_nodes_of z (drop (2 * y) slots)) few

  pub operands_sound : frame_words (operands h y z slots) ≡ head_kind h ∷ head_word h ∷ y ∷ z ∷ slots
  unfolding operands operands_ok
  operands_sound =
      let vs = values_of y slots in
      let ns = nodes_of z (drop (2 * y) slots) in
      let t = both (values_ok y slots) _ (both (leb (y + z) 7) _ e).1 in
      let u = both (nodes_ok z (drop (2 * y) slots)) (all_zero (drop (2 * y + 2 * z) slots)) t.1 in
      let k : length vs ≡ y = length_values_of y slots in
      let j : length ns ≡ z = length_nodes_of z (drop (2 * y) slots) in
      let v : values_words vs ≡ take (2 * y) slots = values_sound y slots (omega (arith, few)) t.0 in
      let w : nodes_words ns ≡ take (2 * z) (drop (2 * y) slots) = nodes_sound z (drop (2 * y) slots) (simp length-drop (omega (arith, few))) u.0 in
      let o : drop (2 * y + 2 * z) slots ≡ replicate (16 - 2 * (y + z)) 0
      = zeros (drop (2 * y + 2 * z) slots) (16 - 2 * (y + z)) (simp length-drop (omega (arith, few))) u.1 in
      let r : take (2 * y) slots ++ (take (2 * z) (drop (2 * y) slots) ++ replicate (16 - 2 * (y + z)) 0) ≡ slots
      = rw (← o) (sym (parted slots (2 * y) (2 * z))) in
      gather_words h vs ns operands_narrow ∙ rw (v, w, k, j, r)

operands_pass : (vs : List Value) (ns : List ℕ) → length vs + length ns ≤ 7 → (k : ℕ)
    → operands_ok (length vs) (length ns) (values_words vs ++ (nodes_words ns ++ replicate k 0)) ≡ true
unfolding operands_ok
operands_pass vs ns h k =
    let d : drop (2 * length vs) (values_words vs ++ (nodes_words ns ++ replicate k 0)) ≡ nodes_words ns ++ replicate k 0
    = drop_at (values_words vs) _ (2 * length vs) (length-values vs) in
    let o : drop (2 * length vs + 2 * length ns) (values_words vs ++ (nodes_words ns ++ replicate k 0)) ≡ replicate k 0
    = sym (drop-drop (2 * length ns) (2 * length vs) _) ∙ rw d (drop_at (nodes_words ns) (replicate k 0) (2 * length ns) (length_nodes ns)) in
    rw (le-leb (length vs + length ns) 7 h, values_pass vs (nodes_words ns ++ replicate k 0), d, nodes_pass ns (replicate k 0), o) (zeros_all k)

-- ---- frames

four_words : (b : List ℕ) → length b ≡ 20 → b ≡ get_or b 0 0 ∷ get_or b 1 0 ∷ get_or b 2 0 ∷ get_or b 3 0 ∷ drop 4 b
four_words [] h = absurd (omega arith)
four_words (k ∷ []) h = absurd (omega arith)
four_words (k ∷ x ∷ []) h = absurd (omega arith)
four_words (k ∷ x ∷ y ∷ []) h = absurd (omega arith)
four_words (k ∷ x ∷ y ∷ z ∷ slots) h = refl

-- there is no kind after 9
no_kind : (k : ℕ) (l : List ℕ) → 10 ≤ k → frame_ok (k ∷ l) ≡ false
unfolding frame_ok
no_kind k l h = rw (le-ltb k 3 (omega arith), le-ltb k 6 (omega arith), le-ltb k 7 (omega arith), le-ltb k 10 h)

-- a frame by its kind and its words
by_kind : (k x y z : ℕ) (slots : List ℕ) → length slots ≡ 16 → let b = k ∷ x ∷ y ∷ z ∷ slots in
    frame_ok b ≡ true → (frame_words (frame_of b) ≡ b) × NarrowFrame (frame_of b)
unfolding frame_ok frame_of frames frame_words block filled
by_kind zero x y z s h e = absurd (false≢true e)
by_kind (suc zero) x y z s h e = (operands_sound (op x) y z s h e, operands_narrow (op x) y z s h e)
by_kind (suc (suc zero)) x y z s h e = (operands_sound (fn x) y z s h e, operands_narrow (fn x) y z s h e)
by_kind (suc (suc (suc zero))) x y z s h e = (ap (λ (l : List ℕ). 3 ∷ x ∷ l) (sym (zeros (y ∷ z ∷ s) 18 (omega arith) e)), tt)
by_kind (suc (suc (suc (suc zero)))) x y z s h e = (rw (ref_word_lem x) (ap (λ (l : List ℕ). 4 ∷ x ∷ l) (sym (zeros (y ∷ z ∷ s) 18 (omega arith) e))), tt)
by_kind (suc (suc (suc (suc (suc zero))))) x y z s h e = (ap (λ (l : List ℕ). 5 ∷ x ∷ l) (sym (zeros (y ∷ z ∷ s) 18 (omega arith) e)), tt)
by_kind (suc (suc (suc (suc (suc (suc zero)))))) x y z s h e =
    (rw (ref_word_lem x, ref_word_lem y) (ap (λ (l : List ℕ). 6 ∷ x ∷ y ∷ l) (sym (zeros (z ∷ s) 17 (omega arith) e))), tt)
by_kind (suc (suc (suc (suc (suc (suc (suc zero))))))) x y z s h e = (ap (λ (l : List ℕ). 7 ∷ l) (sym (zeros (x ∷ y ∷ z ∷ s) 19 (omega arith) e)), tt)
by_kind (suc (suc (suc (suc (suc (suc (suc (suc zero)))))))) x y z s h e = (ap (λ (l : List ℕ). 8 ∷ l) (sym (zeros (x ∷ y ∷ z ∷ s) 19 (omega arith) e)), tt)
by_kind (suc (suc (suc (suc (suc (suc (suc (suc (suc zero))))))))) x y z s h e = (ap (λ (l : List ℕ). 9 ∷ l) (sym (zeros (x ∷ y ∷ z ∷ s) 19 (omega arith) e)), tt)
by_kind (suc (suc (suc (suc (suc (suc (suc (suc (suc (suc k)))))))))) x y z s h e =
    let q : 10 ≤ suc (suc (suc (suc (suc (suc (suc (suc (suc (suc k))))))))) = omega arith in
    absurd (false≢true (sym (no_kind _ (x ∷ y ∷ z ∷ s) q) ∙ e))

pub frame_sound : (b : List ℕ) → length b ≡ 20 → frame_ok b ≡ true → (frame_words (frame_of b) ≡ b) × NarrowFrame (frame_of b)
frame_sound b h e =
    let q = four_words b h in
    let n : length (drop 4 b) ≡ 16 = simp length-drop (omega arith) in
    rw (← q) at (by_kind (get_or b 0 0) (get_or b 1 0) (get_or b 2 0) (get_or b 3 0) (drop 4 b) n (rw (← q) e))

pub frame_passes : (f : Frame) → NarrowFrame f → frame_ok (frame_words f) ≡ true
unfolding frame_ok frame_words block filled
frame_passes (gather (op o) vs ns) h = rw (gather_words (op o) vs ns h) (operands_pass vs ns h (16 - 2 * (length vs + length ns)))
frame_passes (gather (fn g) vs ns) h = rw (gather_words (fn g) vs ns h) (operands_pass vs ns h (16 - 2 * (length vs + length ns)))
frame_passes (and n) h = refl
frame_passes (wait r) h = refl
frame_passes (Frame.store x) h = refl
frame_passes (branch a b) h = refl
frame_passes Frame.leave h = refl
frame_passes check h = refl
frame_passes Frame.discard h = refl

-- ---- activations

three_words : (b : List ℕ) → 3 ≤ length b → take 3 b ≡ get_or b 0 0 ∷ get_or b 1 0 ∷ get_or b 2 0 ∷ []
three_words [] h = absurd (omega arith)
three_words (f ∷ []) h = absurd (omega arith)
three_words (f ∷ k ∷ []) h = absurd (omega arith)
three_words (f ∷ k ∷ n ∷ b) h = refl

pub activation_sound : (b : List ℕ) → length b ≡ 136 → activation_ok b ≡ true → (activation_words (activation_of b) ≡ b) × NarrowActivation (activation_of b)
unfolding activation_ok activation_of
activation_sound b h e =
    let n = get_or b 2 0 in
    let slots = drop 8 b in
    let η = values_of n slots in
    let t = both (leb n 64) _ e in
    let u = both (all_zero (take 5 (drop 3 b))) _ t.1 in
    let v = both (values_ok n slots) (all_zero (drop (2 * n) slots)) u.1 in
    let few : n ≤ 64 = leb-true n 64 t.0 in
    let k : length η ≡ n = length_values_of n slots in
    let narrow : length η ≤ 64 = omega arith in
    let long : length slots ≡ 128 = simp length-drop (omega arith) in
    let a : take 3 b ≡ get_or b 0 0 ∷ get_or b 1 0 ∷ n ∷ [] = three_words b (omega arith) in
    let z : take 5 (drop 3 b) ≡ replicate 5 0 = zeros (take 5 (drop 3 b)) 5 (length-take-le 5 (drop 3 b) (simp length-drop (omega arith))) u.0 in
    let w : values_words η ≡ take (2 * n) slots = values_sound n slots (omega arith) v.0 in
    let o : drop (2 * n) slots ≡ replicate (128 - 2 * n) 0 = zeros (drop (2 * n) slots) (128 - 2 * n) (simp length-drop (omega arith)) v.1 in
    let r : values_words η ++ replicate (128 - 2 * length η) 0 ≡ slots = rw (k, w, ← o) (take-append-drop (2 * n) slots) in
    let p : b ≡ get_or b 0 0 ∷ get_or b 1 0 ∷ n ∷ 0 ∷ 0 ∷ 0 ∷ 0 ∷ 0 ∷ slots = parted b 3 5 ∙ rw (a, z) in
    (activation_words_lem (get_or b 0 0) (get_or b 1 0) η narrow ∙ rw (r, k) (sym p), narrow)

pub activation_passes : (a : Activation) → NarrowActivation a → activation_ok (activation_words a) ≡ true
unfolding activation_ok
activation_passes (activation f k η) h =
    let Z : List ℕ = replicate (128 - 2 * length η) 0 in
    let d : drop (2 * length η) (values_words η ++ Z) ≡ Z = drop_at (values_words η) Z (2 * length η) (length-values η) in
    rw (activation_words_lem f k η h, le-leb (length η) 64 h, values_pass η Z, d) (zeros_all (128 - 2 * length η))
