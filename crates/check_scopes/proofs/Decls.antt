-- What one more node changes in the count and the table of decls.
use mathlib.Core.Path.{◌≡◌, refl, sym, ap, ◌∙◌}
use mathlib.Core.Bool.{Bool, true, false, not, ◌||◌, and-false, or-true, or-false}
use mathlib.Core.List.{List}
use mathlib.Core.Logic.{◌⊎◌, inl, inr}
use Prim.Native.Nat.{ℕ, zero, suc, ◌+◌, ◌*◌, ◌-◌, ◌≤◌, ◌<◌, zero-le}
use native.Mathlib.Omega.{arith}
use native.Mathlib.Numerals.{add-one}
use lib.Dec.{eqb, leb}
use lib.ListN.{get_or, set, length, length-set, replicate, get_or-replicate}
use lib.Seq.{get_or-set_same, get_or-set_other}
use borrow.Author.Tests.{eqb-true, eqb-false, eq-eqb, ne_eqb, le-leb, lt-leb, leb-true, leb-false}
use Rattle.varset.specs.Lowest.{pick}
use Rattle.varset.specs.Sets.{has, none, with}
use Rattle.records.specs.Fields.{params_of, kind_at, b_at}
use Rattle.spec_language.specs.Scopes.{declares_at, decl_count, decl_of, under, uses_variable}
use Rattle.spec_language.specs.Nodes.{outside}
use Rattle.spec_language.specs.Known.{names_variable}
use Rattle.check_scopes.specs.Counts.{Named, Counts, Decls, Noted}
use Rattle.check_scopes.specs.declared.Declared.{Declared}

-- a node that is no decl of x
module _ (t : List ℕ) (i x : ℕ) (h : declares_at t i x ≡ false) where
  count_same : decl_count t (i + 1) x ≡ decl_count t i x
  unfolding decl_count
  count_same = rw (add-one i, h)

  decl_same : decl_of t (i + 1) x ≡ decl_of t i x
  unfolding decl_of
  decl_same = rw (add-one i, h)

-- a node that is a decl of x
module _ (t : List ℕ) (i x : ℕ) (h : declares_at t i x ≡ true) where
  count_more : decl_count t (i + 1) x ≡ suc (decl_count t i x)
  unfolding decl_count
  count_more = rw (add-one i, h)

  decl_here : decl_of t (i + 1) x ≡ i
  unfolding decl_of
  decl_here = rw (add-one i, h)

no_decl : (t : List ℕ) (i x : ℕ) → (kind_at t i ≡ 9 → ⊥) → declares_at t i x ≡ false
unfolding declares_at
no_decl t i x h = rw (ne_eqb (kind_at t i) 9 h)

other_decl : (t : List ℕ) (i x : ℕ) → (x ≡ b_at t i → ⊥) → declares_at t i x ≡ false
unfolding declares_at
other_decl t i x h = rw (ne_eqb (b_at t i) x (λ e. h (sym e))) (and-false (eqb (kind_at t i) 9))

own_decl : (t : List ℕ) (i : ℕ) → kind_at t i ≡ 9 → declares_at t i (b_at t i) ≡ true
unfolding declares_at
own_decl t i e = rw (e, eq-eqb (b_at t i) (b_at t i) refl)

-- how a test of the count, which the decl's own variable may change, goes over node i, a decl
count_on : (t : List ℕ) (i k : ℕ) (test : ℕ → Bool → Bool) → kind_at t i ≡ 9
    → ((m : ℕ) → test m false ≡ leb k m) → test (decl_count t i (b_at t i)) true ≡ leb k (suc (decl_count t i (b_at t i)))
    → (x : ℕ) → test (decl_count t i x) (eqb x (b_at t i)) ≡ leb k (decl_count t (i + 1) x)
count_on t i k test e off on x = go (eqb x (b_at t i)) refl
  where
    go : (b : Bool) → eqb x (b_at t i) ≡ b → test (decl_count t i x) b ≡ leb k (decl_count t (i + 1) x)
    go true q =
        let p : x ≡ b_at t i = eqb-true x (b_at t i) q in
        rw (p, count_more t i (b_at t i) (own_decl t i e)) on
    go false q = rw (count_same t i x (other_decl t i x (eqb-false x (b_at t i) q))) (off (decl_count t i x))

pub counts_none : (t : List ℕ) (d : Declared) → has d.seen.0 ≡ none → has d.twice.0 ≡ none → Counts t 0 d
unfolding none decl_count
counts_none t d p q = record { seen = p; twice = q }

pub counts_other : (t : List ℕ) (i : ℕ) (d : Declared) → Counts t i d → (kind_at t i ≡ 9 → ⊥) → Counts t (i + 1) d
counts_other t i d c h =
    record { seen = c.seen ∙ (λ k x. leb 1 (sym (same x) k)); twice = c.twice ∙ (λ k x. leb 2 (sym (same x) k)) }
  where
    same : (x : ℕ) → decl_count t (i + 1) x ≡ decl_count t i x
    same x = count_same t i x (no_decl t i x h)

-- node i is a decl of x
module _ (t : List ℕ) (i x : ℕ) (d : Declared) (c : Counts t i d) (e : kind_at t i ≡ 9) (at : x ≡ b_at t i) where
  abbrev here : ℕ
  here = decl_count t i (b_at t i)

  seen_at : (b : Bool) → has d.seen.0 x ≡ b → leb 1 here ≡ b
  seen_at b h = sym (ap (λ (f : ℕ → Bool). f x) c.seen ∙ rw at) ∙ h

  -- seen before
  pub counts_again : (w : Declared) → has d.seen.0 x ≡ true → w.seen ≡ d.seen → has w.twice.0 ≡ with (has d.twice.0) x → Counts t (i + 1) w
  unfolding with
  counts_again w h p q =
      let l : 1 ≤ here = leb-true 1 here (seen_at true h) in
      record {
        seen = rw p c.seen ∙ (λ k y. count_on t i 1 (λ m b. leb 1 m) e (λ m. refl) (seen_at true h ∙ sym (le-leb 1 (suc here) (omega arith))) y k);
        twice = q ∙ rw (c.twice, at) (λ k y. count_on t i 2 (λ m b. leb 2 m || b) e (λ m. or-false (leb 2 m)) (or-true (leb 2 here) ∙ sym (le-leb 2 (suc here) (omega arith))) y k);
      }

  -- not seen before
  pub counts_new : (w : Declared) → has d.seen.0 x ≡ false → has w.seen.0 ≡ with (has d.seen.0) x → w.twice ≡ d.twice → Counts t (i + 1) w
  unfolding with
  counts_new w h q p =
      let l : here < 1 = leb-false 1 here (seen_at false h) in
      record {
        seen = q ∙ rw (c.seen, at) (λ k y. count_on t i 1 (λ m b. leb 1 m || b) e (λ m. or-false (leb 1 m)) (or-true (leb 1 here) ∙ sym (le-leb 1 (suc here) (omega arith))) y k);
        twice = rw p c.twice ∙ (λ k y. count_on t i 2 (λ m b. leb 2 m) e (λ m. refl) (lt-leb 2 here (omega arith) ∙ sym (lt-leb 2 (suc here) (omega arith))) y k);
      }

pub noted_none : (t : List ℕ) → Noted t 0 (replicate 64 0)
unfolding decl_of
noted_none t = (refl, λ x l. get_or-replicate 64 x 0 0 l)

pub noted_other : (t table : List ℕ) (i : ℕ) → Noted t i table → (kind_at t i ≡ 9 → ⊥) → Noted t (i + 1) table
noted_other t table i d h = (d.0, λ x l. d.1 x l ∙ sym (decl_same t i x (no_decl t i x h)))

pub noted_more : (t table : List ℕ) (i x : ℕ) → Noted t i table → kind_at t i ≡ 9 → x ≡ b_at t i → x < 64 → Noted t (i + 1) (set table x i)
noted_more t table i x d e at h = (length-set table x i ∙ d.0, λ y l. go y l (eqb y x) refl)
  where
    go : (y : ℕ) → y < 64 → (b : Bool) → eqb y x ≡ b → get_or (set table x i) y 0 ≡ decl_of t (i + 1) y
    go y l true q =
        let p : y ≡ x = eqb-true y x q in
        let w : x < length table = rw d.0 h in
        rw p (get_or-set_same table x i 0 w ∙ sym (rw at (decl_here t i (b_at t i) (own_decl t i e))))
    go y l false q =
        let n : y ≡ x → ⊥ = eqb-false y x q in
        get_or-set_other table x y i 0 n ∙ d.1 y l ∙ sym (decl_same t i y (other_decl t i y (λ r. n (r ∙ sym at))))

-- the decl found is one of the nodes
decl_le : (t : List ℕ) (n x : ℕ) → decl_of t n x ≤ n - 1
unfolding decl_of
decl_le t zero x = zero-le
decl_le t (suc n) x = go (declares_at t n x) (decl_le t n x)
  where
    go : (b : Bool) → decl_of t n x ≤ n - 1 → pick b n (decl_of t n x) ≤ suc n - 1
    go true r = omega arith
    go false r = omega arith

-- so it lies in the part
pub decl_fits : (t table : List ℕ) (n x b : ℕ) → 12 * n ≤ length t → 0 < n → Decls t n table → x ≡ b → b < 64 → 12 * get_or table x 0 + 12 ≤ length t
decl_fits t table n x b h p d a k =
    let l : decl_of t n x ≤ n - 1 = decl_le t n x in
    let e : get_or table x 0 ≡ decl_of t n x = d x (rw a k) in
    omega arith

-- a use or assignment by a node of a part of n nodes
module _ (s : List ℕ) (f : ℕ) (t : List ℕ) (n i : ℕ) (uses : uses_variable (kind_at t i) ≡ true) where
  pub param_inside : b_at t i < params_of s f → false ≡ outside s f t n i
  unfolding outside
  param_inside l = rw (uses, lt-leb (params_of s f) (b_at t i) l)

  pub strays_is : (d : ℕ) → params_of s f ≤ b_at t i → d ≡ decl_of t n (b_at t i) → not (under t d i) ≡ outside s f t n i
  unfolding outside
  strays_is d l e = rw (uses, le-leb (params_of s f) (b_at t i) l, e)

pub no_use : (s : List ℕ) (f : ℕ) (t : List ℕ) (n i k : ℕ) → k ≡ kind_at t i → ((k ≡ 2) ⊎ (k ≡ 8) → ⊥) → false ≡ outside s f t n i
unfolding outside uses_variable
no_use s f t n i k e p = rw (← e, ne_eqb k 2 (λ q. p (inl q)), ne_eqb k 8 (λ q. p (inr q)))

pub uses_is : (k : ℕ) → (k ≡ 2) ⊎ (k ≡ 8) → uses_variable k ≡ true
unfolding uses_variable
uses_is k (inl e) = rw e
uses_is k (inr e) = rw e

-- what a kind that uses a variable is known by
pub use_known : (t : List ℕ) (n i kind : ℕ) → Named t n → i < n → kind_at t i ≡ kind → uses_variable kind ≡ true → (uses_variable (kind_at t i) ≡ true) × (b_at t i < 64)
unfolding names_variable
use_known t n i kind h l e u = (rw e u, h i l (rw (e, u)))

pub decl_known : (t : List ℕ) (n i : ℕ) → Named t n → i < n → kind_at t i ≡ 9 → b_at t i < 64
unfolding names_variable uses_variable
decl_known t n i h l e = h i l (rw e)
