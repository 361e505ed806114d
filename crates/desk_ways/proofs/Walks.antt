-- What a walk shows at a node of each kind, from the walks over its children.
use mathlib.Core.Path.{◌≡◌, sym, ◌∙◌}
use mathlib.Core.List.{List, [], ◌∷◌}
use Prim.Native.Nat.{ℕ, ◌-◌, ◌<◌}
use native.Mathlib.Omega.{arith}
use Rattle.varset.specs.Sets.{Set, has, none, with, without, either, below}
use Rattle.varset.specs.declared.VarSet.{VarSet}
use Rattle.records.specs.Format.{most_variables}
use Rattle.records.specs.Fields.{kind_at, b_at, size_at}
use Rattle.spec_language.specs.Statements.{Read, Statement, Seq, Decl, If, While, prior, last, reads_of, statement_at}
use Rattle.spec_language.specs.Flow.{declares, leaves}
use Rattle.spec_language.proofs.KindLists.{none_of}
use Rattle.spec_language.proofs.Trees.{statement_seq, statement_decl, statement_if, statement_while}
use Rattle.spec_language.proofs.Rules.{leaves_assign, leaves_return, leaves_rest, declares_rest}
use Rattle.desk_ways.specs.Follows.{Follows}
use Rattle.desk_ways.specs.declared.flow.Flow.{Flow}

module _ (t : List ℕ) (i : ℕ) {d : Set} {r : Flow} where
  pub follows_seq : {a : ℕ} {f g : Flow} → kind_at t i ≡ 7 → 0 < i → a ≡ i - 1 - size_at t (i - 1)
      → ((s u : Statement) (d : Set) → Follows s d f → Follows u (leaves s d) g → Follows (Seq s u) d r)
      → Follows (statement_at t a) d f → Follows (statement_at t (i - 1)) (has f.left.0) g → Follows (statement_at t i) d r
  unfolding prior last
  follows_seq {a} {f} {g} e p q k h j =
      let z : Follows (statement_at t (i - 1 - size_at t (i - 1))) d f = rw q at h in
      rw (statement_seq t i e p) (k (statement_at t (prior t (last i))) (statement_at t (last i)) d z (rw z.left at j))

  pub follows_decl : {x : ℕ} {f : Flow} → kind_at t i ≡ 9 → 0 < i → x ≡ b_at t i
      → ((s : Statement) (d : Set) → Follows s (without d x) f → Follows (Decl x s) d r)
      → Follows (statement_at t (i - 1)) (without d x) f → Follows (statement_at t i) d r
  unfolding last
  follows_decl {x} {f} e p q k h = rw (statement_decl t i e p, ← q) (k (statement_at t (i - 1)) d h)

  pub follows_if : {a : ℕ} {f g : Flow} → kind_at t i ≡ 10 → 0 < i → a ≡ i - 1 - size_at t (i - 1)
      → ((e : List Read) (s u : Statement) (d : Set) → Follows s d f → Follows u d g → Follows (If e s u) d r)
      → Follows (statement_at t a) d f → Follows (statement_at t (i - 1)) d g → Follows (statement_at t i) d r
  unfolding prior last
  follows_if {a} {f} {g} e p q k h j = rw (statement_if t i e p, ← q) (k (reads_of t (a - size_at t a)) (statement_at t a) (statement_at t (i - 1)) d h j)

  pub follows_while : {f : Flow} → kind_at t i ≡ 11 → 0 < i
      → ((e : List Read) (s : Statement) → Follows s d f → Follows (While e s) d r)
      → Follows (statement_at t (i - 1)) d f → Follows (statement_at t i) d r
  unfolding prior last
  follows_while {f} e p k h = rw (statement_while t i e p) (k (reads_of t (i - 1 - size_at t (i - 1))) (statement_at t (i - 1)) h)

  -- a statement that declares nothing
  follows_plain : {left : VarSet} → (r.left ≡ left) × (has r.declared.0 ≡ none) → has left.0 ≡ leaves (statement_at t i) d → declares (statement_at t i) ≡ none → Follows (statement_at t i) d r
  follows_plain k l z = record { left = rw k.0 l; declared = k.1 ∙ sym z }

  pub follows_assign : {x : ℕ} {left : VarSet} → kind_at t i ≡ 8 → 0 < i → x ≡ b_at t i → (r.left ≡ left) × (has r.declared.0 ≡ none) → has left.0 ≡ with d x → Follows (statement_at t i) d r
  follows_assign e p q k l = follows_plain k (l ∙ rw q (sym (leaves_assign t i d e p))) (declares_rest t i (λ z. omega arith) (λ z. omega arith) (λ z. omega arith) (λ z. omega arith))

  pub follows_return : {left : VarSet} → kind_at t i ≡ 12 → 0 < i → (r.left ≡ left) × (has r.declared.0 ≡ none) → has left.0 ≡ either d (below most_variables) → Follows (statement_at t i) d r
  follows_return e p k l = follows_plain k (l ∙ sym (leaves_return t i d e p)) (declares_rest t i (λ z. omega arith) (λ z. omega arith) (λ z. omega arith) (λ z. omega arith))

-- the rest leave what they find
pub follows_rest : (t : List ℕ) (i : ℕ) (set : VarSet) {r : Flow} (k : ℕ) → kind_at t i ≡ k → (k ≡ 7 → ⊥) → (k ≡ 8 → ⊥) → (k ≡ 9 → ⊥) → (k ≡ 10 → ⊥) → (k ≡ 11 → ⊥) → (k ≡ 12 → ⊥)
    → (r.left ≡ set) × (has r.declared.0 ≡ none) → Follows (statement_at t i) (has set.0) r
follows_rest t i set {r} k e a b c d f g h =
    record {
      left = rw h.0 (sym (leaves_rest t i (has set.0) (rw e (none_of (7 ∷ 8 ∷ 9 ∷ 10 ∷ 11 ∷ 12 ∷ []) k (a, (b, (c, (d, (f, (g, tt))))))))));
      declared = h.1 ∙ sym (declares_rest t i (λ z. omega arith) (λ z. omega arith) (λ z. omega arith) (λ z. omega arith));
    }
