-- What the effect of a statement says, from the effects of its parts.
use mathlib.Core.Path.{◌≡◌, refl, sym, ◌∙◌}
use mathlib.Core.Bool.{true, false, not, ◌&&◌}
use mathlib.Core.List.{List}
use mathlib.Core.Logic.{◌⊎◌, ⊎_elim}
use Prim.Native.Nat.{ℕ}
use lib.Dec.{eqb}
use borrow.Author.Tests.{eqb-true}
use Rattle.varset.specs.Sets.{Set, has, none, with, without, both, either, less, below, Sub}
use Rattle.records.specs.Format.{most_variables}
use Rattle.records.proofs.Bools.{both_mono, and_left, and_right, and_both, or_more, by, or_cases, clash, or_last}
use Rattle.spec_language.specs.Statements.{Read, Statement, Nop, Seq, Assign, Decl, If, While, Return, Assert, Expr}
use Rattle.spec_language.specs.Flow.{declares, leaves, returns}
use Rattle.spec_language.proofs.Flows.{keeps, ok_nop, ok_seq, ok_assign, ok_decl, ok_if, ok_while, ok_return, ok_assert, ok_expr}
use Rattle.check_effects.specs.declared.Effect.{Effect}
use Rattle.check_effects.specs.Effects.{return_code, Covers, Means}

pub empty_member : {C : Type 0} (x : ℕ) → none x ≡ true → C
unfolding none
empty_member x e = clash false e refl

-- a variable that is not one of d is not declared
outside : {s : Set} (d : Set) (x : ℕ) → Sub s d → d x ≡ false → s x ≡ false
outside {s} d x h e = by (s x) (λ t. clash (d x) (h x t) e) (λ f. f)

-- no member of both
apart : (a b : Set) (x : ℕ) → both a b ≡ none → a x ≡ true → b x ≡ false
unfolding both
apart a b x e h = by (b x) (λ t. empty_member x (rw (← e) (and_both (a x) (b x) h t))) (λ f. f)

module _ {s u : Statement} {d : Set} {e₁ e₂ v : Effect} where
  pub sequence_means : Means s d e₁ → Means u d e₂ → both (has e₂.reads.0) d ≡ none
      → has v.reads.0 ≡ either (has e₁.reads.0) (less (has e₂.reads.0) (has e₁.sets.0)) → has v.sets.0 ≡ either (less (has e₁.sets.0) d) (has e₂.sets.0) → (v.code ≡ return_code → (e₁.code ≡ return_code) ⊎ (e₂.code ≡ return_code)) → Means (Seq s u) d v
  unfolding declares leaves returns either less
  sequence_means p q e f g h =
      record {
        reading =
            λ b k. (ok_seq b s u).1 (
              p.reading b (λ x l. k x (rw f (or_more (has e₁.reads.0 x) _ l))),
              q.reading (leaves s b)
                  (λ x l. by (has e₁.sets.0 x) (λ y. p.setting b x y)
                  (λ y. keeps s b x (k x (rw f (or_last (has e₁.reads.0 x) _ (and_both (has e₂.reads.0 x) _ l (rw y))))) (outside d x p.declared (apart (has e₂.reads.0) d x e l)))),
            );
        setting =
            λ b x l. or_cases (has e₁.sets.0 x && not (d x)) (has e₂.sets.0 x) (rw g at l)
            (λ y. keeps u (leaves s b) x (p.setting b x (and_left (has e₁.sets.0 x) _ y)) (outside d x q.declared (by (d x) (λ t. clash (not (d x)) (and_right (has e₁.sets.0 x) _ y) (rw t)) (λ z. z))))
            (λ y. q.setting (leaves s b) x y);
        declared = λ x l. or_cases (declares s x) (declares u x) l (p.declared x) (q.declared x);
        returning = λ z. ⊎_elim (λ y. or_more (returns s) _ (p.returning y)) (λ y. or_last (returns s) _ (q.returning y)) (h z);
      }

  pub branches_means : {e : List Read} (c₀ : ℕ) → Covers e (has c₀) → Means s d e₁ → Means u d e₂
      → has v.reads.0 ≡ either (has c₀) (either (has e₁.reads.0) (has e₂.reads.0)) → has v.sets.0 ≡ both (has e₁.sets.0) (has e₂.sets.0) → (v.code ≡ return_code → (e₁.code ≡ return_code) × (e₂.code ≡ return_code)) → Means (If e s u) d v
  unfolding declares leaves returns either both
  branches_means {e} c₀ o p q f g h =
      record {
        reading =
            λ b k. (ok_if b e s u).1 (
              o b (λ x l. k x (rw f (or_more (has c₀ x) _ l))),
              p.reading b (λ x l. k x (rw f (or_last (has c₀ x) _ (or_more (has e₁.reads.0 x) _ l)))),
              q.reading b (λ x l. k x (rw f (or_last (has c₀ x) _ (or_last (has e₁.reads.0 x) _ l)))),
            );
        setting = λ b x l. both_mono (has e₁.sets.0 x) _ (has e₂.sets.0 x) _ (p.setting b x) (q.setting b x) (rw g at l);
        declared = λ x l. or_cases (declares s x) (declares u x) l (p.declared x) (q.declared x);
        returning = λ z. and_both (returns s) _ (p.returning (h z).0) (q.returning (h z).1);
      }

module _ {s : Statement} {d : Set} {e₁ v : Effect} where
  pub loop_means : {e : List Read} (c₀ : ℕ) → Covers e (has c₀) → Means s d e₁ → has v.reads.0 ≡ either (has c₀) (has e₁.reads.0) → has v.sets.0 ≡ none → (v.code ≡ return_code → ⊥) → Means (While e s) d v
  unfolding declares leaves either
  loop_means {e} c₀ o p f g h =
      record {
        reading = λ b k. (ok_while b e s).1 (o b (λ x l. k x (rw f (or_more (has c₀ x) _ l))), p.reading b (λ x l. k x (rw f (or_last (has c₀ x) _ l))));
        setting = λ b x l. empty_member x (rw g at l);
        declared = p.declared;
        returning = λ z. absurd (h z);
      }

module _ {s : Statement} {d : Set} {e₁ v : Effect} where
  pub scope_means : {x : ℕ} → d x ≡ true → Means s d e₁ → has e₁.reads.0 x ≡ false → v.reads ≡ e₁.reads → v.code ≡ e₁.code → has v.sets.0 ≡ without (has e₁.sets.0) x → Means (Decl x s) d v
  unfolding declares leaves returns with without
  scope_means {x} o p n z e g =
      record {
        reading = λ b k. (ok_decl b x s).1 (p.reading (without b x) (λ y l. and_both (b y) _ (k y (rw z l)) (by (eqb y x) (λ t. clash (has e₁.reads.0 y) l (rw (eqb-true y x t) n)) (λ z. rw z))));
        setting = λ b y l. both_mono (has e₁.sets.0 y) _ _ _ (p.setting (without b x) y) (λ z. z) (rw g at l);
        declared = λ y l. or_cases (declares s y) (eqb y x) l (p.declared y) (λ t. rw (eqb-true y x t) o);
        returning = λ z. p.returning (sym e ∙ z);
      }

-- statements without parts
module _ {d : Set} {v : Effect} where
  pub nop_means : has v.sets.0 ≡ none → (v.code ≡ return_code → ⊥) → Means Nop d v
  unfolding declares leaves
  nop_means g h =
      record { reading = λ b k. ok_nop b; setting = λ b x l. empty_member x (rw g at l); declared = λ x l. empty_member x l; returning = λ z. absurd (h z) }

  pub assign_means : {x : ℕ} {e : List Read} → Covers e (has v.reads.0) → has v.sets.0 ≡ with none x → (v.code ≡ return_code → ⊥) → Means (Assign x e) d v
  unfolding declares leaves with none
  assign_means {x} {e} o g h =
      record {
        reading = λ b k. (ok_assign b x e).1 (o b k);
        setting = λ b y l. or_last (b y) _ (rw g at l);
        declared = λ y l. empty_member y l;
        returning = λ z. absurd (h z);
      }

  pub return_means : {e : List Read} → Covers e (has v.reads.0) → has v.sets.0 ≡ below most_variables → Means (Return e) d v
  unfolding declares leaves returns either
  return_means {e} o g =
      record { reading = λ b k. (ok_return b e).1 (o b k); setting = λ b x l. or_last (b x) _ (rw g at l); declared = λ x l. empty_member x l; returning = λ z. refl }

  pub assert_means : {e : List Read} → Covers e (has v.reads.0) → has v.sets.0 ≡ none → (v.code ≡ return_code → ⊥) → Means (Assert e) d v
  unfolding declares leaves
  assert_means {e} o g h =
      record { reading = λ b k. (ok_assert b e).1 (o b k); setting = λ b x l. empty_member x (rw g at l); declared = λ x l. empty_member x l; returning = λ z. absurd (h z) }

  pub expr_means : {e : List Read} → Covers e (has v.reads.0) → has v.sets.0 ≡ none → (v.code ≡ return_code → ⊥) → Means (Expr e) d v
  unfolding declares leaves
  expr_means {e} o g h =
      record { reading = λ b k. (ok_expr b e).1 (o b k); setting = λ b x l. empty_member x (rw g at l); declared = λ x l. empty_member x l; returning = λ z. absurd (h z) }
