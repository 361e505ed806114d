-- The walk over children, and the children with their numbers.
use mathlib.Core.Path.{◌≡◌, refl, sym, ap}
use mathlib.Core.List.{List, [], ◌∷◌}
use Prim.Native.Nat.{ℕ, zero, suc, ◌-◌, ◌<◌}
use native.Mathlib.Numerals.{sub-one}
use native.Mathlib.Omega.{arith}
use lib.ListN.{length}
use Rattle.records.specs.Fields.{size_at}
use Rattle.records.specs.Children.{walk}
use Rattle.records.specs.Numbered.{numbered, left_of}
use Rattle.records.proofs.EntryTables.{Each}

-- it finds as many as it is asked for
pub length-walk : (size : ℕ → ℕ) (m c : ℕ) → length (walk size m c) ≡ m
unfolding walk
length-walk size zero c = refl
length-walk size (suc m) c = ap suc (length-walk size m (c - size c))

length-numbered : (xs : List ℕ) → length (numbered xs) ≡ length xs
unfolding numbered
length-numbered [] = refl
length-numbered (child ∷ rest) = ap suc (length-numbered rest)

pub length-left : (t : List ℕ) (m c : ℕ) → length (left_of t m c) ≡ m
length-left t m c = rw (length-numbered (walk (size_at t) m c), length-walk (size_at t) m c)

-- none is left
pub left_none : (t : List ℕ) (m c : ℕ) → m ≡ 0 → left_of t m c ≡ []
unfolding walk numbered
left_none t m c e = rw e

-- the last of those that are left comes first
pub left_step : (t : List ℕ) (m c : ℕ) → (m ≡ 0 → ⊥) → left_of t m c ≡ (m - 1, c) ∷ left_of t (m - 1) (c - size_at t c)
unfolding walk numbered
left_step t zero c h = absurd (h refl)
left_step t (suc m) c h = rw (length-walk (size_at t) m (c - size_at t c), sub-one)

-- what is left of a walk are these nodes, all below n
pub record Nodes (n : ℕ) (left : List (ℕ × ℕ)) (nodes : List ℕ) : Type 0 where
  pub are : left ≡ numbered nodes
  pub inside : Each (λ k c. c < n) nodes

walk_inside : (size : ℕ → ℕ) (n m c : ℕ) → c < n → Each (λ k c. c < n) (walk size m c)
unfolding walk
walk_inside size n zero c h = tt
walk_inside size n (suc m) c h = (h, walk_inside size n m (c - size c) (omega arith))

pub nodes_all : (t : List ℕ) (n m c : ℕ) → c < n → Nodes n (left_of t m c) (walk (size_at t) m c)
nodes_all t n m c h = record { are = refl; inside = walk_inside (size_at t) n m c h }

-- one of them came, with its number
pub record Came (n k c : ℕ) (more : List (ℕ × ℕ)) (nodes : List ℕ) : Type 0 where
  pub rest : List ℕ
  pub first : nodes ≡ c ∷ rest
  pub number : k ≡ length rest
  pub below : c < n
  pub are : Nodes n more rest

pub nodes_step : {n k c : ℕ} {left more : List (ℕ × ℕ)} (nodes : List ℕ) → Nodes n left nodes → left ≡ (k, c) ∷ more → Came n k c more nodes
unfolding numbered
nodes_step [] w e = let a = sym w.are in cc
nodes_step {k = k} {c = c} {more = more} (d ∷ rest) w e =
    let a = sym w.are in
    let pair : ◌≡◌ {A = ℕ × ℕ} (length rest, d) (k, c) = cc in
    let p : d ≡ c = ap (λ (x : ℕ × ℕ). x.1) pair in
    let q : k ≡ length rest = sym (ap (λ (x : ℕ × ℕ). x.0) pair) in
    let r : more ≡ numbered rest = cc in
    record { rest = rest; first = rw p; number = q; below = rw (← p) w.inside.0; are = record { are = r; inside = w.inside.1 } }

pub nodes_end : {n : ℕ} {left : List (ℕ × ℕ)} (nodes : List ℕ) → Nodes n left nodes → left ≡ [] → nodes ≡ []
unfolding numbered
nodes_end [] w e = refl
nodes_end (d ∷ rest) w e = let a = sym w.are in cc
