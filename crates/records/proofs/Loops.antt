-- What a loop that looks for the lowest failing record shows, for any test.
use Rattle.std.specs.Prelude.{Option, Some, None}
use mathlib.Core.Path.{◌≡◌, refl, ap, sym}
use mathlib.Core.Bool.{Bool, true, false}
use Prim.Native.Nat.{ℕ, zero, suc, ◌≤◌, ◌<◌, zero-le, suc-le-suc}
use native.Mathlib.Nat.{not-suc-le-zero, le_of_suc-le-suc, zero-lt-suc}
use native.Mathlib.Omega.{arith}
use lib.Dec.{ltb}
use borrow.Author.Tests.{lt-ltb, le-ltb, ltb-true, ltb-false}
use Rattle.varset.specs.Lowest.{pick, lowest}
use Rattle.records.specs.declared.Found.{Found}
use Rattle.records.specs.Search.{At, first_of}

-- two searches that found the same found it at one place, with one item
at_place : Option Found → ℕ
at_place (Some found) = found.place
at_place None = 0

at_item : Option Found → ℕ
at_item (Some found) = found.item
at_item None = 0

pub one_place : {i x j y : ℕ} → At i x ≡ At j y → i ≡ j
unfolding at_place
one_place e = ap at_place e

pub one_item : {i x j y : ℕ} → At i x ≡ At j y → x ≡ y
unfolding at_item
one_item e = ap at_item e

-- no number below i passes the test
abbrev pub Below : (ℕ → Bool) → ℕ → Type 0
Below p i = (k : ℕ) → k < i → p k ≡ false

pub lowest_at : (p : ℕ → Bool) (n i : ℕ) → i < n → Below p i → p i ≡ true → lowest p n ≡ i
unfolding lowest
lowest_at p zero i h b e = absurd (not-suc-le-zero h)
lowest_at p (suc n) zero h b e = rw e
lowest_at p (suc n) (suc i) h b e =
    rw (b zero (zero-lt-suc i)) (ap suc (lowest_at (λ j. p (suc j)) n i (le_of_suc-le-suc h) (λ k l. b (suc k) (suc-le-suc l)) e))

pub lowest_none : (p : ℕ → Bool) (n : ℕ) → Below p n → lowest p n ≡ n
unfolding lowest
lowest_none p zero b = refl
lowest_none p (suc n) b = rw (b zero (zero-lt-suc n)) (ap suc (lowest_none (λ j. p (suc j)) n (λ k l. b (suc k) (suc-le-suc l))))

-- below the lowest none passes, and it passes where it is below n
pub lowest_below : (p : ℕ → Bool) (n : ℕ) → Below p (lowest p n)
unfolding lowest
lowest_below p zero k l = absurd (not-suc-le-zero l)
lowest_below p (suc n) k l = go (p zero) refl (lowest_below (λ j. p (suc j)) n) k l
  where
    go : (b : Bool) → p zero ≡ b → Below (λ j. p (suc j)) (lowest (λ j. p (suc j)) n) → Below p (pick b zero (suc (lowest (λ j. p (suc j)) n)))
    go true e r k l = absurd (not-suc-le-zero l)
    go false e r zero l = e
    go false e r (suc k) l = r k (le_of_suc-le-suc l)

pub lowest_passes : (p : ℕ → Bool) (n : ℕ) → lowest p n < n → p (lowest p n) ≡ true
unfolding lowest
lowest_passes p zero l = absurd (not-suc-le-zero l)
lowest_passes p (suc n) l = go (p zero) refl (lowest_passes (λ j. p (suc j)) n) l
  where
    go : (b : Bool) → p zero ≡ b → (lowest (λ j. p (suc j)) n < n → p (suc (lowest (λ j. p (suc j)) n)) ≡ true)
        → pick b zero (suc (lowest (λ j. p (suc j)) n)) < suc n → p (pick b zero (suc (lowest (λ j. p (suc j)) n))) ≡ true
    go true e r l = e
    go false e r l = r (le_of_suc-le-suc l)

pub lowest_le : (p : ℕ → Bool) (n : ℕ) → lowest p n ≤ n
unfolding lowest
lowest_le p zero = zero-le
lowest_le p (suc n) = go (p zero) (lowest_le (λ j. p (suc j)) n)
  where
    go : (b : Bool) → lowest (λ j. p (suc j)) n ≤ n → pick b zero (suc (lowest (λ j. p (suc j)) n)) ≤ suc n
    go true r = zero-le
    go false r = suc-le-suc r

pub first-at : (p : ℕ → Bool) (n i : ℕ) → i < n → Below p i → p i ≡ true → At i 0 ≡ first_of p n
unfolding first_of
first-at p n i h b e = rw (lowest_at p n i h b e, lt-ltb i n h)

pub first-none : (p : ℕ → Bool) (n i : ℕ) → n ≤ i → Below p i → None ≡ first_of p n
unfolding first_of
first-none p n i h b = rw (lowest_none p n (λ k l. b k (omega arith)), le-ltb n n (omega arith))

-- what is found lies below n
pub found_below : (p : ℕ → Bool) (n i x : ℕ) → At i x ≡ first_of p n → i < n
unfolding first_of
found_below p n i x e = go (ltb (lowest p n) n) refl e
  where
    go : (b : Bool) → ltb (lowest p n) n ≡ b → At i x ≡ pick b (At (lowest p n) 0) None → i < n
    go true q e = let j : i ≡ lowest p n = one_place e in let l : lowest p n < n = ltb-true (lowest p n) n q in omega arith
    go false q e = let z : ◌≡◌ {A = ℕ} 0 1 = cc in absurd (omega arith)

-- where nothing is found none of n passes
pub none_found : (p : ℕ → Bool) (n : ℕ) → first_of p n ≡ None → Below p n
unfolding first_of
none_found p n e = go (ltb (lowest p n) n) refl e
  where
    go : (b : Bool) → ltb (lowest p n) n ≡ b → pick b (At (lowest p n) 0) None ≡ None → Below p n
    go true q e = let z : ◌≡◌ {A = ℕ} 0 1 = cc in absurd (omega arith)
    go false q e =
        let l : n ≤ lowest p n = ltb-false (lowest p n) n q in
        λ k h. lowest_below p n k (omega arith)

-- what is found passes, and none below it does
pub first_lowest : (p : ℕ → Bool) (n k x : ℕ) → first_of p n ≡ At k x → (p k ≡ true) × Below p k
unfolding first_of
first_lowest p n k x e = go (ltb (lowest p n) n) refl e
  where
    go : (b : Bool) → ltb (lowest p n) n ≡ b → pick b (At (lowest p n) 0) None ≡ At k x → (p k ≡ true) × Below p k
    go true q e = let j : k ≡ lowest p n = sym (one_place e) in rw j (lowest_passes p n (ltb-true (lowest p n) n q), lowest_below p n)
    go false q e = let z : ◌≡◌ {A = ℕ} 0 1 = cc in absurd (omega arith)
