-- A stack read back from words: the round trip, its converse, and that one stack has one image.
use mathlib.Core.Path.{◌≡◌, refl, sym, ap, ◌∙◌}
use mathlib.Core.Bool.{true}
use mathlib.Core.List.{List, [], ◌∷◌, ◌++◌, append_assoc}
use Prim.Native.Nat.{ℕ, zero, suc, ◌+◌, ◌*◌, ◌-◌, ◌<◌, ◌≤◌}
use native.Mathlib.Nat.{zero-add, zero-mul, suc-mul, suc-add, add-mul}
use native.Mathlib.Omega.{arith}
use lib.ListN.{take, drop, length, get_or, replicate, length-append, length-drop, length-replicate}
use lib.Seq.{take-add, take_at, drop-drop, length-take-le}
use Rattle.words.specs.Blocks.{all_zero}
use Rattle.words.specs.Stacks.{words, region, block_at, entries, Every, Wide, Back}
use Rattle.words.proofs.Blocks.{block_at_lem, parted}
use Rattle.words.proofs.Tests.{all_zeros, zeros_all}
use Rattle.words.proofs.Stacks.{length_words}

module _ {E : Type 0} (w : ℕ) (dec : List ℕ → E) where
  pub length-entries : (l : List ℕ) (a n : ℕ) → length (entries w dec l a n) ≡ n
  length-entries l a zero = refl
  length-entries l a (suc n) = ap suc (length-entries l a n)

  -- the entry at a depth under the top
  pub entries_at : (l : List ℕ) (a n d : ℕ) (e : E) → d < n → get_or (entries w dec l a n) d e ≡ dec (block_at w l a (n - suc d))
  entries_at l a zero d e h = absurd (omega arith)
  entries_at l a (suc n) zero e h = let z : suc n - 1 ≡ n = omega arith in rw z
  entries_at l a (suc n) (suc d) e h =
      let z : suc n - suc (suc d) ≡ n - suc d = omega arith in
      rw z (entries_at l a n d e (omega arith))

  -- k entries over n entries
  pub entries_append : (l : List ℕ) (a k n : ℕ) → entries w dec l a (k + n) ≡ entries w dec l (a + n * w) k ++ entries w dec l a n
  entries_append l a zero n = rw (zero-add n)
  entries_append l a (suc k) n =
      let p : a + (k + n) * w ≡ a + n * w + k * w = rw (add-mul k n w) (omega arith) in
      rw (suc-add k n, p, entries_append l a k n)

-- the block over a stack
pub block_over : {E : Type 0} (w : ℕ) (enc : E → List ℕ) (H X : List ℕ) (a : ℕ) (f : E) (K : List E)
    → length H ≡ a → Every (Wide w enc) (f ∷ K) → block_at w (H ++ (words enc (f ∷ K) ++ X)) a (length K) ≡ enc f
block_over w enc H X a f K ha h =
    let n : length (H ++ words enc K) ≡ a + length K * w = simp (length-append, length_words w enc K h.1, ha) in
    let r : H ++ ((words enc K ++ enc f) ++ X) ≡ (H ++ words enc K) ++ (enc f ++ X) = simp append_assoc in
    rw r (block_at_lem (H ++ words enc K) (enc f) X (a + length K * w) w n h.0)

module _ {E : Type 0} (w : ℕ) (enc : E → List ℕ) (dec : List ℕ → E) where
  -- what is read back is the stack
  pub entries_law : (H X : List ℕ) (a : ℕ) (K : List E) → length H ≡ a → Every (Wide w enc) K → Every (Back enc dec) K
      → entries w dec (H ++ (words enc K ++ X)) a (length K) ≡ K
  entries_law H X a [] ha h i = refl
  entries_law H X a (f ∷ K) ha h i =
      let b : entries w dec (H ++ ((words enc K ++ enc f) ++ X)) a (length K) ≡ K
      = rw (append_assoc (words enc K) (enc f) X) (entries_law H (enc f ++ X) a K ha h.1 i.1) in
      rw (block_over w enc H X a f K ha h, b, i.0)

  pub entries_region : (H R : List ℕ) (m a : ℕ) (K : List E) → length H ≡ a → Every (Wide w enc) K → Every (Back enc dec) K
      → entries w dec (H ++ (region w enc m K ++ R)) a (length K) ≡ K
  entries_region H R m a K ha h i =
      rw (append_assoc (words enc K) (replicate ((m - length K) * w) 0) R) (entries_law H (replicate ((m - length K) * w) 0 ++ R) a K ha h i)

  -- blocks that are written as they are read: the words that were read are the words of what was read
  pub canon_law : (l : List ℕ) (a n : ℕ) → ((j : ℕ) → j < n → enc (dec (block_at w l a j)) ≡ block_at w l a j)
      → words enc (entries w dec l a n) ≡ take (n * w) (drop a l)
  canon_law l a zero h = rw zero-mul
  canon_law l a (suc n) h =
      let i : words enc (entries w dec l a n) ≡ take (n * w) (drop a l) = canon_law l a n (λ j k. h j (omega arith)) in
      rw (i, h n (omega arith), suc-mul, take-add (n * w) w (drop a l), drop-drop (n * w) a l)

  -- stacks of one length with the same words are one stack
  pub words_inj : (K L : List E) → Every (Wide w enc) K → Every (Back enc dec) K → Every (Wide w enc) L → Every (Back enc dec) L
      → length K ≡ length L → words enc K ≡ words enc L → K ≡ L
  words_inj K L hK i_k hL i_l n e =
      sym (entries_law [] [] 0 K refl hK i_k)
      ∙ rw (e, n) (entries_law [] [] 0 L refl hL i_l)

  pub region_inj : (m : ℕ) (K L : List E) → Every (Wide w enc) K → Every (Back enc dec) K → Every (Wide w enc) L → Every (Back enc dec) L
      → length K ≡ length L → region w enc m K ≡ region w enc m L → K ≡ L
  region_inj m K L hK i_k hL i_l n e =
      words_inj K L hK i_k hL i_l n
      (sym (take_at (words enc K) (replicate ((m - length K) * w) 0) (length K * w) (length_words w enc K hK))
      ∙ rw (e, n) (take_at (words enc L) (replicate ((m - length L) * w) 0) (length L * w) (length_words w enc L hL)))

  -- a room whose first n blocks are a stack's words and whose other words are zero holds that stack
  pub region_sound : (l : List ℕ) (m a n : ℕ) → n ≤ m → a + m * w ≤ length l
      → words enc (entries w dec l a n) ≡ take (n * w) (drop a l) → all_zero (take ((m - n) * w) (drop (a + n * w) l)) ≡ true
      → l ≡ take a l ++ (region w enc m (entries w dec l a n) ++ drop (a + m * w) l)
  region_sound l m a n h q e z =
      let s : n * w + (m - n) * w ≡ m * w = sym (add-mul n (m - n) w) ∙ ap (λ (k : ℕ). k * w) (let t : n + (m - n) ≡ m = omega arith in t) in
      let k : length (take ((m - n) * w) (drop (a + n * w) l)) ≡ (m - n) * w
      = length-take-le ((m - n) * w) (drop (a + n * w) l) (simp length-drop (omega (arith, s, q))) in
      let o : take ((m - n) * w) (drop (a + n * w) l) ≡ replicate ((m - n) * w) 0
      = all_zeros (take ((m - n) * w) (drop (a + n * w) l)) z ∙ ap (λ (j : ℕ). replicate j 0) k in
      let r : region w enc m (entries w dec l a n) ≡ take (m * w) (drop a l)
      = rw (e, length-entries w dec l a n, ← s, take-add (n * w) ((m - n) * w) (drop a l), drop-drop (n * w) a l, o) in
      parted l a (m * w) ∙ ap (λ (t : List ℕ). take a l ++ (t ++ drop (a + m * w) l)) (sym r)

-- the words above a stack in its room are zero
pub region_zeros : {E : Type 0} (w : ℕ) (enc : E → List ℕ) (H R : List ℕ) (m a : ℕ) (K : List E) → length H ≡ a → Every (Wide w enc) K
    → all_zero (take ((m - length K) * w) (drop (a + length K * w) (H ++ (region w enc m K ++ R)))) ≡ true
region_zeros w enc H R m a K ha h =
    let n : length (H ++ words enc K) ≡ a + length K * w = simp (length-append, length_words w enc K h, ha) in
    let r : H ++ ((words enc K ++ replicate ((m - length K) * w) 0) ++ R) ≡ (H ++ words enc K) ++ (replicate ((m - length K) * w) 0 ++ R) = simp append_assoc in
    rw (r, block_at_lem (H ++ words enc K) (replicate ((m - length K) * w) 0) R (a + length K * w) ((m - length K) * w) n (length-replicate ((m - length K) * w) 0))
    (zeros_all ((m - length K) * w))
