-- A stack in its room, anywhere in a list of words: lengths, borders of blocks, push, pop, and the entry at a depth under the top (the top is at depth 0).
use mathlib.Core.Path.{◌≡◌, sym, ap, ◌∙◌}
use mathlib.Core.List.{List, [], ◌∷◌, ◌++◌, append_assoc, append-nil}
use Prim.Native.Nat.{ℕ, zero, suc, ◌+◌, ◌*◌, ◌-◌, ◌<◌, ◌≤◌}
use native.Mathlib.Nat.{zero-mul, suc-mul, one-mul, add-mul, add-zero}
use native.Mathlib.Omega.{arith}
use lib.ListN.{take, drop, length, get_or, set, replicate, length-append, length-replicate, length-set, replicate-append-replicate}
use lib.Seq.{take_at, drop_at, set-get_or, set_split}
use Rattle.words.specs.Blocks.{puts}
use Rattle.words.specs.Stacks.{words, region, Every, Wide}
use Rattle.words.proofs.Blocks.{puts_block, puts_inside, get_d_block, set_block, block_at_lem}

module _ {E : Type 0} (P : E → Type 0) where
  pub every : ((f : E) → P f) → (K : List E) → Every P K
  every h [] = tt
  every h (f ∷ K) = (h f, every h K)

  pub every_drop : (n : ℕ) (K : List E) → Every P K → Every P (drop n K)
  every_drop zero K h = h
  every_drop (suc n) [] h = tt
  every_drop (suc n) (f ∷ K) h = every_drop n K h.1

  pub every_at : (K : List E) (d : ℕ) (e : E) → d < length K → Every P K → P (get_or K d e)
  every_at [] d e l h = absurd (omega arith)
  every_at (f ∷ K) zero e l h = h.0
  every_at (f ∷ K) (suc d) e l h = every_at K d e (omega arith) h.1

  pub every_set : (K : List E) (d : ℕ) (g : E) → Every P K → P g → Every P (set K d g)
  every_set [] d g h k = tt
  every_set (f ∷ K) zero g h k = (k, h.1)
  every_set (f ∷ K) (suc d) g h k = (h.0, every_set K d g h.1 k)

  pub every_append : (K L : List E) → Every P K → Every P L → Every P (K ++ L)
  every_append [] L h k = k
  every_append (f ∷ K) L h k = (h.0, every_append K L h.1 k)

  pub every_left : (K L : List E) → Every P (K ++ L) → Every P K
  every_left [] L h = tt
  every_left (f ∷ K) L h = (h.0, every_left K L h.1)

  pub every_right : (K L : List E) → Every P (K ++ L) → Every P L
  every_right [] L h = h
  every_right (f ∷ K) L h = every_right K L h.1

module _ {E : Type 0} (enc : E → List ℕ) where
  -- of two stacks, one over the other, the lower one's words come first
  pub words_append : (K L : List E) → words enc (K ++ L) ≡ words enc L ++ words enc K
  words_append [] L = sym (append-nil (words enc L))
  words_append (f ∷ K) L = rw (words_append K L) (append_assoc (words enc L) (words enc K) (enc f))

  -- the words around the block of an entry
  pub words_set : (K : List E) (d : ℕ) (g : E) → d < length K
      → words enc (set K d g) ≡ words enc (drop (suc d) K) ++ (enc g ++ words enc (take d K))
  words_set K d g h =
      ap (words enc) (set_split K d g h)
      ∙ words_append (take d K) (g ∷ drop (suc d) K)
      ∙ append_assoc (words enc (drop (suc d) K)) (enc g) (words enc (take d K))

module _ {E : Type 0} (w : ℕ) (enc : E → List ℕ) where
  pub length_words : (K : List E) → Every (Wide w enc) K → length (words enc K) ≡ length K * w
  length_words [] h = sym (zero-mul w)
  length_words (f ∷ K) h = simp (length-append, length_words K h.1, h.0, suc-mul)

  pub length_region : (m : ℕ) (K : List E) → Every (Wide w enc) K → length K ≤ m → length (region w enc m K) ≡ m * w
  length_region m K h k =
      let e : length K + (m - length K) ≡ m = omega arith in
      simp (length-append, length_words K h, length-replicate) (rw (← add-mul (length K) (m - length K) w, e))

  -- the border between two stacks, one over the other
  pub take_words : (K L : List E) → Every (Wide w enc) L → take (length L * w) (words enc (K ++ L)) ≡ words enc L
  take_words K L h = rw (words_append enc K L) (take_at (words enc L) (words enc K) (length L * w) (length_words L h))

  pub drop_words : (K L : List E) → Every (Wide w enc) L → drop (length L * w) (words enc (K ++ L)) ≡ words enc K
  drop_words K L h = rw (words_append enc K L) (drop_at (words enc L) (words enc K) (length L * w) (length_words L h))

  module _ (H R : List ℕ) (m a : ℕ) (K : List E) (begins : length H ≡ a) (wide : Every (Wide w enc) K) (room : length K ≤ m) where
    ends : length (H ++ region w enc m K) ≡ a + m * w
    ends = omega (arith, begins, length-append H (region w enc m K), length_region m K wide room)

    -- the border between a stack's room and the words after it
    pub take_region : take (a + m * w) (H ++ (region w enc m K ++ R)) ≡ H ++ region w enc m K
    take_region = rw (← append_assoc H (region w enc m K) R) (take_at (H ++ region w enc m K) R (a + m * w) ends)

    pub drop_region : drop (a + m * w) (H ++ (region w enc m K ++ R)) ≡ R
    drop_region = rw (← append_assoc H (region w enc m K) R) (drop_at (H ++ region w enc m K) R (a + m * w) ends)

    -- the words of the room
    pub region_at : take (m * w) (drop a (H ++ (region w enc m K ++ R))) ≡ region w enc m K
    region_at = block_at_lem H (region w enc m K) R a (m * w) begins (length_region m K wide room)

-- the zeros above a stack begin with room for n entries
room_for : (w n k m : ℕ) → n + k ≤ m → replicate {A = ℕ} ((m - k) * w) 0 ≡ replicate (n * w) 0 ++ replicate ((m - (n + k)) * w) 0
room_for w n k m h =
    let e : m - k ≡ n + (m - (n + k)) = omega arith in
    rw (e, replicate-append-replicate, add-mul)

module _ {E : Type 0} (w : ℕ) (enc : E → List ℕ) (H R : List ℕ) (m at : ℕ) (K L : List E)
    (wide_k : Every (Wide w enc) K) (wide_l : Every (Wide w enc) L) (place : at ≡ length H + length L * w) (room : length K + length L ≤ m) where
  under : length (H ++ words enc L) ≡ at + 0
  under = simp (length-append, length_words w enc L wide_l) (omega arith)

  empty : H ++ (region w enc m L ++ R)
      ≡ (H ++ words enc L) ++ (replicate (length K * w) 0 ++ (replicate ((m - (length K + length L)) * w) 0 ++ R))
  empty = rw (room_for w (length K) (length L) m room) (simp append_assoc)

  full : H ++ (region w enc m (K ++ L) ++ R) ≡ (H ++ words enc L) ++ (words enc K ++ (replicate ((m - (length K + length L)) * w) 0 ++ R))
  full = rw (words_append enc K L, length-append K L) (simp append_assoc)

  -- entries are laid over a stack
  pub pushes_law : puts (H ++ (region w enc m L ++ R)) at 0 (words enc K) ≡ H ++ (region w enc m (K ++ L) ++ R)
  pushes_law =
      rw (empty, full)
      (puts_block (words enc K) (replicate (length K * w) 0) (H ++ words enc L) _ at 0 under (length-replicate (length K * w) 0 ∙ sym (length_words w enc K wide_k)))

  -- the entries over a stack are taken off
  pub pops_law : puts (H ++ (region w enc m (K ++ L) ++ R)) at 0 (replicate (length K * w) 0) ≡ H ++ (region w enc m L ++ R)
  pops_law =
      rw (empty, full)
      (puts_block (replicate (length K * w) 0) (words enc K) (H ++ words enc L) _ at 0 under (length_words w enc K wide_k ∙ sym (length-replicate (length K * w) 0)))

module _ {E : Type 0} (w : ℕ) (enc : E → List ℕ) (H R : List ℕ) (m at : ℕ) (f : E) (K : List E)
    (wide : Every (Wide w enc) (f ∷ K)) (place : at ≡ length H + length K * w) (room : length K < m) where
  -- an entry is laid on the top
  pub push_law : puts (H ++ (region w enc m K ++ R)) at 0 (enc f) ≡ H ++ (region w enc m (f ∷ K) ++ R)
  push_law = pushes_law w enc H R m at (f ∷ []) K (wide.0, tt) wide.1 place (omega arith)

  -- the top is taken off
  pub pop_law : puts (H ++ (region w enc m (f ∷ K) ++ R)) at 0 (replicate w 0) ≡ H ++ (region w enc m K ++ R)
  pop_law = rw one-mul at (pops_law w enc H R m at (f ∷ []) K (wide.0, tt) wide.1 place (omega arith))

module _ {E : Type 0} (w : ℕ) (enc : E → List ℕ) (H R : List ℕ) (m at : ℕ) (K : List E) (d : ℕ) (e : E)
    (wide : Every (Wide w enc) K) (here : d < length K) (place : at ≡ length H + length (drop (suc d) K) * w) where
  below : length (H ++ words enc (drop (suc d) K)) ≡ at
  below = simp (length-append, length_words w enc (drop (suc d) K) (every_drop (Wide w enc) (suc d) K wide)) (sym place)

  long : length (enc (get_or K d e)) ≡ w
  long = every_at (Wide w enc) K d e here wide

  -- the words before the entry's block, the block, the words after it
  pub closed : (g : E)
      → (H ++ words enc (drop (suc d) K)) ++ (enc g ++ (words enc (take d K) ++ (replicate ((m - length K) * w) 0 ++ R)))
      ≡ H ++ (region w enc m (set K d g) ++ R)
  closed g = rw (words_set enc K d g here, length-set K d g) (simp append_assoc)

  pub opened : H ++ (region w enc m K ++ R)
      ≡ (H ++ words enc (drop (suc d) K)) ++ (enc (get_or K d e) ++ (words enc (take d K) ++ (replicate ((m - length K) * w) 0 ++ R)))
  opened = ap (λ (L : List E). H ++ (region w enc m L ++ R)) (sym (set-get_or K d e)) ∙ sym (closed (get_or K d e))

  -- the entry's block
  pub block_law : take w (drop at (H ++ (region w enc m K ++ R))) ≡ enc (get_or K d e)
  block_law = rw opened (block_at_lem (H ++ words enc (drop (suc d) K)) (enc (get_or K d e)) _ at w below (long))

  -- one word of it
  pub word_law : (b j : ℕ) → b ≡ at + j → j < w → get_or (H ++ (region w enc m K ++ R)) b 0 ≡ get_or (enc (get_or K d e)) j 0
  word_law b j hb hj =
      rw (hb, opened) (get_d_block (H ++ words enc (drop (suc d) K)) (enc (get_or K d e)) _ at j below (rw long hj))

  module _ (g : E) where
    -- another entry takes its place
    pub replace_law : Wide w enc g → puts (H ++ (region w enc m K ++ R)) at 0 (enc g) ≡ H ++ (region w enc m (set K d g) ++ R)
    replace_law hg =
        rw opened
        (puts_block (enc g) (enc (get_or K d e)) (H ++ words enc (drop (suc d) K)) _ at 0 (below ∙ sym (add-zero at)) (long ∙ sym hg) ∙ closed g)

    -- one word of it changes
    pub poke_law : (b j v : ℕ) → b ≡ at + j → j < w → set (enc (get_or K d e)) j v ≡ enc g
        → set (H ++ (region w enc m K ++ R)) b v ≡ H ++ (region w enc m (set K d g) ++ R)
    poke_law b j v hb hj q =
        rw (hb, opened)
        (set_block (H ++ words enc (drop (suc d) K)) (enc (get_or K d e)) _ at j v below (rw long hj) ∙ rw q (closed g))

    -- neighbouring words of it change
    pub pokes_law : (b j : ℕ) (vs : List ℕ) → b ≡ at + j → j + length vs ≤ w → puts (enc (get_or K d e)) j 0 vs ≡ enc g
        → puts (H ++ (region w enc m K ++ R)) b 0 vs ≡ H ++ (region w enc m (set K d g) ++ R)
    pokes_law b j vs hb hj q =
        rw (hb, opened)
        (puts_inside vs (enc (get_or K d e)) (H ++ words enc (drop (suc d) K)) _ at j 0 below (omega (arith, long, hj)) ∙ rw q (closed g))

    -- two words of it change
    pub poke_two_law : (b c i j u v : ℕ) → b ≡ at + i → c ≡ at + j → i < w → j < w → set (set (enc (get_or K d e)) i u) j v ≡ enc g
        → set (set (H ++ (region w enc m K ++ R)) b u) c v ≡ H ++ (region w enc m (set K d g) ++ R)
    poke_two_law b c i j u v hb hc hi hj q =
        rw (hb, hc, opened)
        (ap (λ (l : List ℕ). set l (at + j) v) (set_block (H ++ words enc (drop (suc d) K)) (enc (get_or K d e)) _ at i u below (rw long hi))
        ∙ set_block (H ++ words enc (drop (suc d) K)) (set (enc (get_or K d e)) i u) _ at j v below (simp length-set (rw long hj))
        ∙ rw q (closed g))
