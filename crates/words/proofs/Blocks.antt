-- A block of words inside a list: stored, read, changed word by word, lent.
use mathlib.Core.Path.{◌≡◌, refl, sym, ap, ◌∙◌}
use mathlib.Core.List.{List, [], ◌∷◌, ◌++◌}
use Prim.Native.Nat.{ℕ, suc, ◌+◌, ◌<◌, ◌≤◌}
use native.Mathlib.Nat.{add-zero, add_assoc}
use native.Mathlib.Omega.{arith}
use lib.ListN.{take, drop, length, get_or, set, replicate, length-append, length-replicate, length-set, length-drop, take-append-drop, get_or-append}
use lib.Seq.{append_snoc, set_at, set-append_left, take_at, drop_at, drop-drop, length-take-le, get_or-append-add, get_or-set_other}
use Rattle.words.specs.Blocks.{puts}

-- a block q becomes vs
pub puts_block : (vs q p r : List ℕ) (at k : ℕ) → length p ≡ at + k → length q ≡ length vs
    → puts (p ++ (q ++ r)) at k vs ≡ p ++ (vs ++ r)
puts_block [] [] p r at k hp hq = refl
puts_block [] (y ∷ q) p r at k hp hq = absurd (omega arith)
puts_block (v ∷ vs) [] p r at k hp hq = absurd (omega arith)
puts_block (v ∷ vs) (y ∷ q) p r at k hp hq =
    rw (set_at p y (q ++ r) v (at + k) hp, ← append_snoc p v (q ++ r), ← append_snoc p v (vs ++ r))
    (puts_block vs q (p ++ (v ∷ [])) r at (suc k) (simp length-append (omega arith)) (omega arith))

pub length_puts : (vs l : List ℕ) (at k : ℕ) → length (puts l at k vs) ≡ length l
length_puts [] l at k = refl
length_puts (v ∷ vs) l at k = length_puts vs (set l (at + k) v) at (suc k) ∙ length-set l (at + k) v

-- a list in three parts: before a block, the block, after it
pub parted : (l : List ℕ) (at n : ℕ) → l ≡ take at l ++ (take n (drop at l) ++ drop (at + n) l)
parted l at n =
    sym (take-append-drop at l)
    ∙ ap (λ (t : List ℕ). take at l ++ t) (sym (take-append-drop n (drop at l)) ∙ ap (λ (t : List ℕ). take n (drop at l) ++ t) (drop-drop n at l))

-- a block stored in any list
pub puts_at : (vs l : List ℕ) (at : ℕ) → at + length vs ≤ length l → puts l at 0 vs ≡ take at l ++ (vs ++ drop (at + length vs) l)
puts_at vs l at h =
    let p : length (take at l) ≡ at = length-take-le at l (omega arith) in
    let q : length (take (length vs) (drop at l)) ≡ length vs = length-take-le (length vs) (drop at l) (simp length-drop (omega arith)) in
    ap (λ (t : List ℕ). puts t at 0 vs) (parted l at (length vs))
    ∙ puts_block vs (take (length vs) (drop at l)) (take at l) (drop (at + length vs) l) at 0 (p ∙ sym (add-zero at)) q

-- the first words set to zero
pub zeroed : (l : List ℕ) (n : ℕ) → n ≤ length l → puts l 0 0 (replicate n 0) ≡ replicate n 0 ++ drop n l
zeroed l n h =
    let z : length (replicate {A = ℕ} n 0) ≡ n = length-replicate {A = ℕ} n 0 in
    let y : 0 + length (replicate {A = ℕ} n 0) ≡ n = omega arith in
    puts_at (replicate n 0) l 0 (omega arith) ∙ ap (λ (k : ℕ). replicate n 0 ++ drop k l) y

-- a part lent and given back as vs is a block stored
pub lent : (vs l : List ℕ) (at n : ℕ) → length vs ≡ n → at + n ≤ length l → take at l ++ (vs ++ drop n (drop at l)) ≡ puts l at 0 vs
lent vs l at n e h =
    let g : at + length vs ≤ length l = omega arith in
    rw (← e, drop-drop (length vs) at l) (sym (puts_at vs l at g))

-- a part lent and given back as zeros
pub zeros_lent : (ys l : List ℕ) (at n k : ℕ) → k ≡ n → at + n ≤ length l → ys ≡ replicate (length (take k (drop at l))) 0
    → take at l ++ (ys ++ drop k (drop at l)) ≡ puts l at 0 (replicate n 0)
zeros_lent ys l at n k e h z =
    let c : length (take n (drop at l)) ≡ n = length-take-le n (drop at l) (simp length-drop (omega arith)) in
    rw (z, e, c) (lent (replicate n 0) l at n (length-replicate n 0) h)

-- the words of a block
pub block_at_lem : (p q r : List ℕ) (at n : ℕ) → length p ≡ at → length q ≡ n → take n (drop at (p ++ (q ++ r))) ≡ q
block_at_lem p q r at n hp hq = rw (drop_at p (q ++ r) at hp, take_at q r n hq)

-- one word of a block
pub get_d_block : (p q r : List ℕ) (at k : ℕ) → length p ≡ at → k < length q → get_or (p ++ (q ++ r)) (at + k) 0 ≡ get_or q k 0
get_d_block p q r at k hp hk = rw (← hp, get_or-append-add) (get_or-append q r 0 k hk)

set_right : (p q : List ℕ) (at k v : ℕ) → length p ≡ at → set (p ++ q) (at + k) v ≡ p ++ set q k v
set_right [] q at k v h = let e : at + k ≡ k = omega arith in rw e
set_right (x ∷ p) q at k v h =
    let e : at + k ≡ suc (length p + k) = omega arith in
    rw e (ap (λ (l : List ℕ). x ∷ l) (set_right p q (length p) k v refl))

-- one word of a block changes
pub set_block : (p q r : List ℕ) (at k v : ℕ) → length p ≡ at → k < length q → set (p ++ (q ++ r)) (at + k) v ≡ p ++ (set q k v ++ r)
set_block p q r at k v hp hk = set_right p (q ++ r) at k v hp ∙ ap (λ (l : List ℕ). p ++ l) (set-append_left q r k v hk)

-- neighbouring words of a block change
pub puts_inside : (vs q p r : List ℕ) (at j k : ℕ) → length p ≡ at → j + (k + length vs) ≤ length q
    → puts (p ++ (q ++ r)) (at + j) k vs ≡ p ++ (puts q j k vs ++ r)
puts_inside [] q p r at j k hp h = refl
puts_inside (v ∷ vs) q p r at j k hp h =
    rw (add_assoc at j k, set_block p q r at (j + k) v hp (omega arith))
    (puts_inside vs (set q (j + k) v) p r at j (suc k) hp (simp length-set (omega arith)))

-- a word that no store meets
pub get_d_puts : (vs l : List ℕ) (at k b : ℕ) → ((j : ℕ) → j < length vs → b ≡ at + (k + j) → ⊥) → get_or (puts l at k vs) b 0 ≡ get_or l b 0
get_d_puts [] l at k b h = refl
get_d_puts (v ∷ vs) l at k b h =
    get_d_puts vs (set l (at + k) v) at (suc k) b (λ j hj e. h (suc j) (omega arith) (omega arith))
    ∙ get_or-set_other l (at + k) b v 0 (λ e. h 0 (omega arith) (omega arith))

-- two lists that begin with parts of one length
pub append_inj : {A : Type 0} (p q r t : List A) → length p ≡ length q → p ++ r ≡ q ++ t → (p ≡ q) × (r ≡ t)
append_inj p q r t h e = (
  sym (take_at p r (length p) refl) ∙ ap (take (length p)) e ∙ take_at q t (length p) (sym h),
  sym (drop_at p r (length p) refl) ∙ ap (drop (length p)) e ∙ drop_at q t (length p) (sym h),
)
