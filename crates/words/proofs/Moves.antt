-- Stores of blocks in one list: two that follow each other, two that do not meet, and words that are moved.
use mathlib.Core.Path.{◌≡◌, refl, sym, ap, ◌∙◌}
use mathlib.Core.List.{List, [], ◌∷◌, ◌++◌}
use Prim.Native.Nat.{ℕ, suc, ◌+◌, ◌<◌, ◌≤◌}
use native.Mathlib.Nat.{add-zero, zero-add, add-suc, suc-add, add_assoc}
use native.Mathlib.Omega.{arith}
use lib.ListN.{take, drop, length, get_or, set, replicate, length-drop, length-replicate, replicate-append-replicate}
use lib.Seq.{set_comm, drop-set-lt, drop-drop, drop-cons, take-add, length-take-le}
use Rattle.words.specs.Blocks.{puts}
use Rattle.words.specs.Moves.{moved}

-- the words of a block from its word j on
pub puts_from : (vs l : List ℕ) (at j k : ℕ) → puts l at (j + k) vs ≡ puts l (at + j) k vs
puts_from [] l at j k = refl
puts_from (v ∷ vs) l at j k =
    let e : suc (j + k) ≡ j + suc k = omega arith in
    rw (e, ← add_assoc at j k) (puts_from vs (set l (at + j + k) v) at j (suc k))

-- two blocks, the second after the first, are one
pub puts_append : (us vs l : List ℕ) (at k : ℕ) → puts (puts l at k us) at (k + length us) vs ≡ puts l at k (us ++ vs)
puts_append [] vs l at k = rw (add-zero k)
puts_append (u ∷ us) vs l at k = rw (add-suc k (length us), ← suc-add k (length us)) (puts_append us vs (set l (at + k) u) at (suc k))

pub puts_next : (us vs l : List ℕ) (at next : ℕ) → next ≡ at + length us → puts (puts l at 0 us) next 0 vs ≡ puts l at 0 (us ++ vs)
puts_next us vs l at next e =
    rw e
    (sym (puts_from vs (puts l at 0 us) at (length us) 0) ∙ rw (add-zero (length us), ← zero-add (length us)) (puts_append us vs l at 0))

-- a word stored where a block is not
set_puts : (vs l : List ℕ) (at k b x : ℕ) → b < at + k → set (puts l at k vs) b x ≡ puts (set l b x) at k vs
set_puts [] l at k b x h = refl
set_puts (v ∷ vs) l at k b x h =
    set_puts vs (set l (at + k) v) at (suc k) b x (omega arith)
    ∙ ap (λ (t : List ℕ). puts t at (suc k) vs) (set_comm l (at + k) b v x (λ e. omega arith))

-- two blocks that do not meet are stored in either order
puts_swap_at : (us vs l : List ℕ) (low k high : ℕ) → low + (k + length us) ≤ high → puts (puts l high 0 vs) low k us ≡ puts (puts l low k us) high 0 vs
puts_swap_at [] vs l low k high h = refl
puts_swap_at (u ∷ us) vs l low k high h =
    rw (set_puts vs l high 0 (low + k) u (omega arith)) (puts_swap_at us vs (set l (low + k) u) low (suc k) high (omega arith))

pub puts_swap : (us vs l : List ℕ) (low high : ℕ) → low + length us ≤ high → puts (puts l high 0 vs) low 0 us ≡ puts (puts l low 0 us) high 0 vs
puts_swap us vs l low high h = puts_swap_at us vs l low 0 high (omega arith)

-- the words after a block that is stored
drop_puts : (vs l : List ℕ) (at k b : ℕ) → at + (k + length vs) ≤ b → drop b (puts l at k vs) ≡ drop b l
drop_puts [] l at k b h = refl
drop_puts (v ∷ vs) l at k b h = drop_puts vs (set l (at + k) v) at (suc k) b (omega arith) ∙ drop-set-lt b l (at + k) v (omega arith)

-- after the first k words the next j are moved
pub moved_more : (l : List ℕ) (from to k j : ℕ) → to + (k + j) ≤ from → from + (k + j) ≤ length l
    → moved (moved l from to k) (from + k) (to + k) j ≡ moved l from to (k + j)
moved_more l from to k j below inside =
    let A = take k (drop from l) in
    let B = take j (drop (from + k) l) in
    let Z : List ℕ = replicate k 0 in
    let Y : List ℕ = replicate j 0 in
    let a : length A ≡ k = length-take-le k (drop from l) (simp length-drop (omega arith)) in
    let b : length B ≡ j = length-take-le j (drop (from + k) l) (simp length-drop (omega arith)) in
    let z : length Z ≡ k = length-replicate {A = ℕ} k 0 in
    let t : take j (drop (from + k) (puts (puts l to 0 A) from 0 Z)) ≡ B
    = ap (λ (r : List ℕ). take j r)
    (drop_puts Z (puts l to 0 A) from 0 (from + k) (omega arith) ∙ drop_puts A l to 0 (from + k) (omega arith)) in
    let s : A ++ B ≡ take (k + j) (drop from l) = rw (← drop-drop k from l) (sym (take-add k j (drop from l))) in
    let w : Z ++ Y ≡ replicate (k + j) 0 = replicate-append-replicate k j 0 in
    rw (
      t,
      puts_swap B Z (puts l to 0 A) (to + k) from (omega arith),
      puts_next A B l to (to + k) (omega arith),
      puts_next Z Y (puts l to 0 (A ++ B)) from (from + k) (omega arith),
      s,
      w,
    )

-- the first of some words, and the others
next_at : (l : List ℕ) (at next k : ℕ) → next ≡ suc at → at < length l → take (suc k) (drop at l) ≡ get_or l at 0 ∷ take k (drop next l)
next_at l at next k e h = rw (e, drop-cons l at 0 h)

-- four words by their places
pub four_at : (l : List ℕ) (at : ℕ) → at + 4 ≤ length l
    → take 4 (drop at l) ≡ get_or l at 0 ∷ get_or l (at + 1) 0 ∷ get_or l (at + 2) 0 ∷ get_or l (at + 3) 0 ∷ []
four_at l at h =
    rw (
      next_at l at (at + 1) 3 (omega arith) (omega arith),
      next_at l (at + 1) (at + 2) 2 (omega arith) (omega arith),
      next_at l (at + 2) (at + 3) 1 (omega arith) (omega arith),
      next_at l (at + 3) (at + 4) 0 (omega arith) (omega arith),
    )
