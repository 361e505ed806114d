-- The loops over slots and over blocks.
use mathlib.Core.Path.{◌≡◌, sym, ap, ◌∙◌}
use mathlib.Core.Bool.{Bool, true, false, ◌&&◌}
use mathlib.Core.List.{List}
use Prim.Native.Nat.{ℕ, suc, ◌+◌, ◌*◌, ◌-◌, ◌<◌}
use native.Mathlib.Omega.{arith}
use native.Mathlib.Nat.{add-zero, sub-zero}
use lib.ListN.{get_or, take, drop}
use lib.Seq.{drop-drop, get_or-drop}
use borrow.Author.Tests.{ne_eqb}
use Rattle.fit_image.specs.BlockTests.{value_ok, values_ok, nodes_ok}
use Rattle.fit_image.specs.MemoryTest.{passing}

module _ (s : List ℕ) (n i : ℕ) (h : i < n) where
  -- what is left is one more than what is left after it
  left : n - i ≡ suc (n - (i + 1))
  left = omega arith

  -- the slots after slot i
  after : drop 2 (drop (2 * i) s) ≡ drop (2 * (i + 1)) s
  after = let e : 2 * i + 2 ≡ 2 * (i + 1) = omega arith in drop-drop 2 (2 * i) s ∙ ap (λ (k : ℕ). drop k s) e

  first : get_or (drop (2 * i) s) 0 0 ≡ get_or s (2 * i) 0
  first = get_or-drop (2 * i) s 0 0 ∙ rw (add-zero (2 * i))

  second : get_or (drop (2 * i) s) 1 0 ≡ get_or s (2 * i + 1) 0
  second = get_or-drop (2 * i) s 1 0

  pub values_more : value_ok (get_or s (2 * i) 0) (get_or s (2 * i + 1) 0) ≡ true → values_ok (n - i) (drop (2 * i) s) ≡ values_ok (n - (i + 1)) (drop (2 * (i + 1)) s)
  values_more e = rw (left, first, second, e, after)

  pub values_less : value_ok (get_or s (2 * i) 0) (get_or s (2 * i + 1) 0) ≡ false → values_ok (n - i) (drop (2 * i) s) ≡ false
  values_less e = rw (left, first, second, e)

  pub nodes_more : get_or s (2 * i + 1) 0 ≡ 0 → nodes_ok (n - i) (drop (2 * i) s) ≡ nodes_ok (n - (i + 1)) (drop (2 * (i + 1)) s)
  nodes_more e = rw (left, second, e, after)

  pub nodes_less : (get_or s (2 * i + 1) 0 ≡ 0 → ⊥) → nodes_ok (n - i) (drop (2 * i) s) ≡ false
  nodes_less e = rw (left, second, ne_eqb (get_or s (2 * i + 1) 0) 0 e)

-- all are left
pub values_start : (s : List ℕ) (n : ℕ) → values_ok (n - 0) (drop (2 * 0) s) ≡ values_ok n s
values_start s n = rw (sub-zero n)

pub nodes_start : (s : List ℕ) (n : ℕ) → nodes_ok (n - 0) (drop (2 * 0) s) ≡ nodes_ok n s
nodes_start s n = rw (sub-zero n)

-- nothing is left
pub values_end : (s : List ℕ) (n i k : ℕ) → n ≡ i → values_ok (n - i) (drop k s) ≡ true
values_end s n i k e = let z : n - i ≡ 0 = omega arith in rw z

pub nodes_end : (s : List ℕ) (n i k : ℕ) → n ≡ i → nodes_ok (n - i) (drop k s) ≡ true
nodes_end s n i k e = let z : n - i ≡ 0 = omega arith in rw z

-- a part of w words, as it is lent
lent : (w at : ℕ) (l : List ℕ) → take (at + w - at) (drop at l) ≡ take w (drop at l)
lent w at l = let e : at + w - at ≡ w = omega arith in ap (λ (k : ℕ). take k (drop at l)) e

-- the walk down from n blocks, at n - 1
module _ (w : ℕ) (ok : List ℕ → Bool) (l : List ℕ) (a n : ℕ) (h : 0 < n) where
  under : n ≡ suc (n - 1)
  under = omega arith

  abbrev block : List ℕ
  block = take (a + (n - 1) * w + w - (a + (n - 1) * w)) (drop (a + (n - 1) * w) l)

  top : passing w ok l a n ≡ (ok block && passing w ok l a (n - 1))
  top = ap (passing w ok l a) under ∙ ap (λ (b : List ℕ). ok b && passing w ok l a (n - 1)) (sym (lent w (a + (n - 1) * w) l))

  pub passing_more : ok block ≡ true → passing w ok l a n ≡ passing w ok l a (n - 1)
  passing_more e = top ∙ rw e

  pub passing_less : ok block ≡ false → passing w ok l a n ≡ false
  passing_less e = top ∙ rw e

pub passing_end : (w : ℕ) (ok : List ℕ → Bool) (l : List ℕ) (a n : ℕ) → n ≡ 0 → passing w ok l a n ≡ true
passing_end w ok l a n e = rw e
