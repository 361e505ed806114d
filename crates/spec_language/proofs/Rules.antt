-- Questions 13 and 14 at a node of each kind, in the paper's words.
use Rattle.std.specs.Prelude.{None}
use mathlib.Core.Path.{◌≡◌, refl, ap}
use mathlib.Core.Bool.{Bool, true, false, ◌||◌, ◌&&◌}
use mathlib.Core.List.{List, [], ◌∷◌}
use mathlib.Core.Logic.{◌⊎◌, inl, inr}
use Prim.Native.Nat.{ℕ, ◌≤◌, ◌<◌}
use Rattle.varset.specs.Sets.{Set, none, with, without, both, either, less, below}
use Rattle.records.specs.Format.{most_variables}
use Rattle.records.specs.Fields.{kind_at, b_at}
use Rattle.records.specs.Search.{or_else}
use Rattle.records.proofs.Bools.{clash}
use Rattle.spec_language.specs.Sorts.{one_of}
use Rattle.spec_language.specs.KindLists.{is_statement}
use Rattle.spec_language.specs.Statements.{Statement, prior, last, reads_of, statement_at}
use Rattle.spec_language.specs.Flow.{declares, leaves, missing, lacks, returns}
use Rattle.spec_language.proofs.Trees.{one_of_three, by_kind, statement_seq, statement_assign, statement_decl, statement_if, statement_while, statement_return, statement_assert, statement_expr, statement_rest}

-- the statement at node i, begun with the variables d
module _ (t : List ℕ) (i : ℕ) (d : Set) where
  -- "assign adds its variable"
  pub leaves_assign : kind_at t i ≡ 8 → 0 < i → leaves (statement_at t i) d ≡ with d (b_at t i)
  unfolding leaves
  leaves_assign e p = ap (λ (s : Statement). leaves s d) (statement_assign t i e p)

  -- "seq flows left to right"
  pub leaves_seq : kind_at t i ≡ 7 → 0 < i → leaves (statement_at t i) d ≡ leaves (statement_at t (last i)) (leaves (statement_at t (prior t (last i))) d)
  unfolding leaves
  leaves_seq e p = ap (λ (s : Statement). leaves s d) (statement_seq t i e p)

  -- "if leaves what both branches leave"
  pub leaves_if : kind_at t i ≡ 10 → 0 < i → leaves (statement_at t i) d ≡ both (leaves (statement_at t (prior t (last i))) d) (leaves (statement_at t (last i)) d)
  unfolding leaves
  leaves_if e p = ap (λ (s : Statement). leaves s d) (statement_if t i e p)

  -- "decl x takes x away before and after its statement"
  pub leaves_decl : kind_at t i ≡ 9 → 0 < i → leaves (statement_at t i) d ≡ without (leaves (statement_at t (last i)) (without d (b_at t i))) (b_at t i)
  unfolding leaves
  leaves_decl e p = ap (λ (s : Statement). leaves s d) (statement_decl t i e p)

  -- "while leaves what it found, less the variables declared in its body"
  pub leaves_while : kind_at t i ≡ 11 → 0 < i → leaves (statement_at t i) d ≡ less d (declares (statement_at t (last i)))
  unfolding leaves
  leaves_while e p = ap (λ (s : Statement). leaves s d) (statement_while t i e p)

  -- "a return count[s] as giving every variable of the function a value"; no function has more than these
  pub leaves_return : kind_at t i ≡ 12 → 0 < i → leaves (statement_at t i) d ≡ either d (below most_variables)
  unfolding leaves
  leaves_return e p = ap (λ (s : Statement). leaves s d) (statement_return t i e p)

  -- "the rest leave what they found"
  pub leaves_rest : one_of (7 ∷ 8 ∷ 9 ∷ 10 ∷ 11 ∷ 12 ∷ []) (kind_at t i) ≡ false → leaves (statement_at t i) d ≡ d
  unfolding leaves
  leaves_rest = by_kind t i (λ k s. one_of (7 ∷ 8 ∷ 9 ∷ 10 ∷ 11 ∷ 12 ∷ []) k ≡ false → leaves s d ≡ d) (λ k h. refl) no no no no no no (λ h. refl) (λ h. refl)
    where
      no : {A : Type 0} → ◌≡◌ {A = Bool} true false → A
      no e = clash true refl e

  -- "seq flows left to right": the right is judged from what the left leaves
  pub lacks_seq : kind_at t i ≡ 7 → 0 < i
      → lacks (statement_at t i) d ≡ or_else (lacks (statement_at t (prior t (last i))) d) (lacks (statement_at t (last i)) (leaves (statement_at t (prior t (last i))) d))
  unfolding lacks
  lacks_seq e p = ap (λ (s : Statement). lacks s d) (statement_seq t i e p)

  -- "decl x takes x away before .. its statement"
  pub lacks_decl : kind_at t i ≡ 9 → 0 < i → lacks (statement_at t i) d ≡ lacks (statement_at t (last i)) (without d (b_at t i))
  unfolding lacks
  lacks_decl e p = ap (λ (s : Statement). lacks s d) (statement_decl t i e p)

  -- the condition and both branches of an if are judged from what it found
  pub lacks_if : kind_at t i ≡ 10 → 0 < i
      → lacks (statement_at t i) d ≡ or_else (missing (reads_of t (prior t (prior t (last i)))) d) (or_else (lacks (statement_at t (prior t (last i))) d) (lacks (statement_at t (last i)) d))
  unfolding lacks
  lacks_if e p = ap (λ (s : Statement). lacks s d) (statement_if t i e p)

  -- "its body, which is judged from what it found", after its condition
  pub lacks_while : kind_at t i ≡ 11 → 0 < i → lacks (statement_at t i) d ≡ or_else (missing (reads_of t (prior t (last i))) d) (lacks (statement_at t (last i)) d)
  unfolding lacks
  lacks_while e p = ap (λ (s : Statement). lacks s d) (statement_while t i e p)

  -- an assign's expression is judged from what it found
  pub lacks_assign : kind_at t i ≡ 8 → 0 < i → lacks (statement_at t i) d ≡ missing (reads_of t (last i)) d
  unfolding lacks
  lacks_assign e p = ap (λ (s : Statement). lacks s d) (statement_assign t i e p)

  -- and so is that of a return, an assert and kind 14
  pub lacks_expression : 12 ≤ kind_at t i → kind_at t i < 15 → 0 < i → lacks (statement_at t i) d ≡ missing (reads_of t (last i)) d
  unfolding lacks
  lacks_expression l u p = go (one_of_three (kind_at t i) l u)
    where
      go : (kind_at t i ≡ 12) ⊎ ((kind_at t i ≡ 13) ⊎ (kind_at t i ≡ 14)) → lacks (statement_at t i) d ≡ missing (reads_of t (last i)) d
      go (inl e) = ap (λ (s : Statement). lacks s d) (statement_return t i e p)
      go (inr (inl e)) = ap (λ (s : Statement). lacks s d) (statement_assert t i e p)
      go (inr (inr e)) = ap (λ (s : Statement). lacks s d) (statement_expr t i e p)

  -- the rest read nothing
  pub lacks_rest : is_statement (kind_at t i) ≡ false → lacks (statement_at t i) d ≡ None
  unfolding lacks
  lacks_rest h = ap (λ (s : Statement). lacks s d) (statement_rest t i h)

-- the variables declared in the statement at node i
module _ (t : List ℕ) (i : ℕ) where
  pub declares_decl : kind_at t i ≡ 9 → 0 < i → declares (statement_at t i) ≡ with (declares (statement_at t (last i))) (b_at t i)
  unfolding declares
  declares_decl e p = ap declares (statement_decl t i e p)

  pub declares_seq : kind_at t i ≡ 7 → 0 < i → declares (statement_at t i) ≡ either (declares (statement_at t (prior t (last i)))) (declares (statement_at t (last i)))
  unfolding declares
  declares_seq e p = ap declares (statement_seq t i e p)

  pub declares_if : kind_at t i ≡ 10 → 0 < i → declares (statement_at t i) ≡ either (declares (statement_at t (prior t (last i)))) (declares (statement_at t (last i)))
  unfolding declares
  declares_if e p = ap declares (statement_if t i e p)

  pub declares_while : kind_at t i ≡ 11 → 0 < i → declares (statement_at t i) ≡ declares (statement_at t (last i))
  unfolding declares
  declares_while e p = ap declares (statement_while t i e p)

  -- the other kinds declare nothing
  pub declares_rest : (kind_at t i ≡ 7 → ⊥) → (kind_at t i ≡ 9 → ⊥) → (kind_at t i ≡ 10 → ⊥) → (kind_at t i ≡ 11 → ⊥) → declares (statement_at t i) ≡ none
  unfolding declares
  declares_rest =
      by_kind t i (λ k s. (k ≡ 7 → ⊥) → (k ≡ 9 → ⊥) → (k ≡ 10 → ⊥) → (k ≡ 11 → ⊥) → declares s ≡ none) (λ k a b c d. refl)
      (λ a b c d. absurd (a refl)) (λ a b c d. refl) (λ a b c d. absurd (b refl)) (λ a b c d. absurd (c refl)) (λ a b c d. absurd (d refl)) (λ a b c d. refl) (λ a b c d. refl) (λ a b c d. refl)

-- whether the statement at node i returns
module _ (t : List ℕ) (i : ℕ) where
  -- "return does"
  pub returns_return : kind_at t i ≡ 12 → 0 < i → returns (statement_at t i) ≡ true
  unfolding returns
  returns_return e p = ap returns (statement_return t i e p)

  -- "seq if either does"
  pub returns_seq : kind_at t i ≡ 7 → 0 < i → returns (statement_at t i) ≡ returns (statement_at t (prior t (last i))) || returns (statement_at t (last i))
  unfolding returns
  returns_seq e p = ap returns (statement_seq t i e p)

  -- "if when both branches do"
  pub returns_if : kind_at t i ≡ 10 → 0 < i → returns (statement_at t i) ≡ returns (statement_at t (prior t (last i))) && returns (statement_at t (last i))
  unfolding returns
  returns_if e p = ap returns (statement_if t i e p)

  -- "decl as its statement"
  pub returns_decl : kind_at t i ≡ 9 → 0 < i → returns (statement_at t i) ≡ returns (statement_at t (last i))
  unfolding returns
  returns_decl e p = ap returns (statement_decl t i e p)

  -- "nothing else"
  pub returns_rest : (kind_at t i ≡ 7 → ⊥) → (kind_at t i ≡ 9 → ⊥) → (kind_at t i ≡ 10 → ⊥) → (kind_at t i ≡ 12 → ⊥) → returns (statement_at t i) ≡ false
  unfolding returns
  returns_rest =
      by_kind t i (λ k s. (k ≡ 7 → ⊥) → (k ≡ 9 → ⊥) → (k ≡ 10 → ⊥) → (k ≡ 12 → ⊥) → returns s ≡ false) (λ k a b c d. refl)
      (λ a b c d. absurd (a refl)) (λ a b c d. refl) (λ a b c d. absurd (b refl)) (λ a b c d. absurd (c refl)) (λ a b c d. refl) (λ a b c d. absurd (d refl)) (λ a b c d. refl) (λ a b c d. refl)
