-- The lowest node of the wrong sort, one child or one parent at a time.
use Rattle.std.specs.Prelude.{None}
use mathlib.Core.Path.{◌≡◌, refl, sym, ap, ◌∙◌}
use mathlib.Core.Bool.{Bool, true, false, ◌&&◌, ◌||◌}
use mathlib.Core.List.{List, [], ◌∷◌}
use Prim.Native.Nat.{ℕ, ◌+◌, ◌-◌, ◌≤◌, ◌<◌, min}
use native.Mathlib.Numerals.{add-one}
use native.Mathlib.Omega.{arith}
use lib.Dec.{eqb}
use lib.ListN.{length}
use borrow.Author.Tests.{eq-eqb, ne_eqb, lt-ltb, le-ltb}
use Rattle.varset.specs.Lowest.{pick, lowest}
use Rattle.records.proofs.Children.{Nodes, nodes_all, nodes_step, nodes_end}
use Rattle.records.specs.Fields.{kind_at, size_at}
use Rattle.records.specs.Search.{At, first_of}
use Rattle.records.specs.Children.{arity_at, walk, children}
use Rattle.records.specs.Numbered.{left_of}
use Rattle.records.proofs.Loops.{lowest_le, lowest_none}
use Rattle.spec_language.specs.Sorts.{is_expression, wrong_sort}
use Rattle.spec_language.specs.Nodes.{wrong_child, some, misplaced}
use Rattle.records.proofs.Lowest.{lowest_or, lowest_one}

-- one number more, which counts where it is wrong
lower_one : (r : ℕ → Bool) (w : Bool) (n low c : ℕ) → c < n → min low (lowest (λ i. (eqb i c && w) || r i) n) ≡ min (pick w (min low c) low) (lowest r n)
lower_one r w n low c h =
    rw (lowest_or (λ i. eqb i c && w) r n, lowest_one (λ i. eqb i c && w) n c h (λ k p. rw (ne_eqb k c p)), eq-eqb c c refl) (go w (lowest_le r n))
  where
    go : (w : Bool) → lowest r n ≤ n → min low (min (pick w c n) (lowest r n)) ≡ min (pick w (min low c) low) (lowest r n)
    go true l = omega arith
    go false l = omega arith

pick_le : (w : Bool) (n low c : ℕ) → low ≤ n → pick w (min low c) low ≤ n
pick_le true n low c h = omega arith
pick_le false n low c h = h

-- the lower of `low` and the lowest wrong one of the children that are left
pub record Lower (t : List ℕ) (n kind whole : ℕ) (left : List (ℕ × ℕ)) (low : ℕ) : Type 0 where
  pub nodes : List ℕ
  pub are : Nodes n left nodes
  pub small : low ≤ n
  pub equal : min low (lowest (wrong_child t kind nodes) n) ≡ whole

pub lower_all : (t : List ℕ) (n i best : ℕ) {left : List (ℕ × ℕ)} → i < n → best ≤ n → left ≡ left_of t (arity_at t i) (i - 1)
    → Lower t n (kind_at t i) (min best (lowest (wrong_child t (kind_at t i) (children t i)) n)) left best
unfolding children
lower_all t n i best l h e = record { nodes = walk (size_at t) (arity_at t i) (i - 1); are = rw e (nodes_all t n (arity_at t i) (i - 1) (omega arith)); small = h; equal = refl }

-- one child more
pub lower_more : (t : List ℕ) (n kind whole k c low next : ℕ) {left more : List (ℕ × ℕ)} → Lower t n kind whole left low → left ≡ (k, c) ∷ more
    → next ≡ pick (wrong_sort kind k (kind_at t c)) (min low c) low → Lower t n kind whole more next
unfolding wrong_child
lower_more t n kind whole k c low next w e p =
    let came = nodes_step w.nodes w.are e in
    record {
      nodes = came.rest;
      are = came.are;
      small = rw p (pick_le (wrong_sort kind k (kind_at t c)) n low c w.small);
      equal = go w.nodes came.rest came.first came.number came.below w.equal;
    }
  where
    go : (nodes rest : List ℕ) → nodes ≡ c ∷ rest → k ≡ length rest → c < n → min low (lowest (wrong_child t kind nodes) n) ≡ whole → min next (lowest (wrong_child t kind rest) n) ≡ whole
    go nodes rest f q l h = rw (p, q) (sym (lower_one (wrong_child t kind rest) (wrong_sort kind (length rest) (kind_at t c)) n low c l) ∙ (rw f at h))

-- no child left
pub lower_end : (t : List ℕ) (n kind whole low : ℕ) {left : List (ℕ × ℕ)} → Lower t n kind whole left low → left ≡ [] → low ≡ whole
unfolding wrong_child
lower_end t n kind whole low w e =
    let none : w.nodes ≡ [] = nodes_end w.nodes w.are e in
    let h : low ≤ n = w.small in
    let equal = rw (none, lowest_none (λ i. false) n (λ k l. refl)) at w.equal in
    omega arith

-- what the body and the parents below q say of node i
abbrev pub seen : List ℕ → ℕ → ℕ → ℕ → Bool
seen t n q i = (eqb (1 + i) n && is_expression (kind_at t i)) || some (λ p. wrong_child t (kind_at t p) (children t p) i) q

pub body_seen : (t : List ℕ) (n : ℕ) → 1 ≤ n → pick (is_expression (kind_at t (n - 1))) (min n (n - 1)) n ≡ lowest (seen t n 0) n
unfolding some
body_seen t n h =
    sym (lowest_one (seen t n 0) n (n - 1) (omega arith) (λ k p. rw (ne_eqb (1 + k) n (λ q. p (omega arith))))
    ∙ rw (eq-eqb (1 + (n - 1)) n (omega arith)) (go (is_expression (kind_at t (n - 1)))))
  where
    go : (e : Bool) → pick (e || false) (n - 1) n ≡ pick e (min n (n - 1)) n
    go true = omega arith
    go false = refl

or_swap : (a b c : Bool) → (a || b) || c ≡ a || (c || b)
or_swap true b c = refl
or_swap false true true = refl
or_swap false true false = refl
or_swap false false true = refl
or_swap false false false = refl

pub parent_step : (t : List ℕ) (n q : ℕ) → min (lowest (seen t n q) n) (lowest (wrong_child t (kind_at t q) (children t q)) n) ≡ lowest (seen t n (q + 1)) n
unfolding some
parent_step t n q = rw (add-one q)
    (sym (lowest_or (seen t n q) (wrong_child t (kind_at t q) (children t q)) n)
    ∙ ap (λ (p : ℕ → Bool). lowest p n) (λ k i.
    or_swap
    (eqb (1 + i) n && is_expression (kind_at t i))
    (some (λ p. wrong_child t (kind_at t p) (children t p) i) q)
    (wrong_child t (kind_at t q) (children t q) i)
    k))

-- all parents are seen
pub seen_at : (t : List ℕ) (n q low : ℕ) → q ≤ n → n ≤ q → low ≡ lowest (seen t n q) n → low < n → At low 0 ≡ first_of (misplaced t n) n
unfolding misplaced first_of
seen_at t n q low a b e h = let z : q ≡ n = omega arith in rw (← rw z at e, lt-ltb low n h)

pub seen_none : (t : List ℕ) (n q low : ℕ) → q ≤ n → n ≤ q → low ≡ lowest (seen t n q) n → n ≤ low → None ≡ first_of (misplaced t n) n
unfolding misplaced first_of
seen_none t n q low a b e h = let z : q ≡ n = omega arith in rw (← rw z at e, le-ltb low n h)
