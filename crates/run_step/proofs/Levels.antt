-- What stands at a node of a known kind, and where its children stand.
use mathlib.Core.Path.{◌≡◌, refl, ◌∙◌}
use mathlib.Core.List.{List, [], ◌∷◌}
use Prim.Native.Nat.{ℕ, zero, suc, ◌-◌, ◌<◌}
use native.Mathlib.Omega.{arith}
use Rattle.records.specs.Fields.{kind_at, a_at, b_at, size_at}
use Rattle.records.specs.Children.{arities, arity_of, arity_at, walk, children}
use Rattle.spec_language.specs.Statements.{Shape, prior, last, shape_at}
use Rattle.spec_machine.specs.Program.{op, fn, ExprForm, apply}
use Rattle.spec_machine.specs.File.{backwards, kids, and_form, looks, look_at, form_of, form_at}

-- a list with a first entry
pub record Some (l : List ℕ) : Type 0 where
  pub first : ℕ
  pub rest : List ℕ
  pub is : l ≡ first ∷ rest

-- operands that are gathered have a first one
pub some_back : (cs : List ℕ) (c : ℕ) (acc : List ℕ) → Some (backwards cs (c ∷ acc))
unfolding backwards
some_back [] c acc = record { first = c; rest = acc; is = refl }
some_back (d ∷ cs) c acc = some_back cs d (c ∷ acc)

pub some_walk : (size : ℕ → ℕ) (k at : ℕ) → 0 < k → Some (backwards (walk size k at) [])
unfolding walk backwards
some_walk size zero at p = absurd (omega arith)
some_walk size (suc k) at p = some_back (walk size k (at - size at)) at []

module _ (t : List ℕ) (i : ℕ) where
  pub arity_operator : kind_at t i ≡ 3 → arity_at t i ≡ 2
  unfolding arity_at arity_of arities
  arity_operator e = rw e

  pub arity_and : kind_at t i ≡ 4 → arity_at t i ≡ 2
  unfolding arity_at arity_of arities
  arity_and e = rw e

  pub arity_call : kind_at t i ≡ 5 → arity_at t i ≡ a_at t i
  unfolding arity_at arity_of arities
  arity_call e = rw e

  pub kids_walk : (k : ℕ) → arity_at t i ≡ k → kids t i ≡ backwards (walk (size_at t) k (i - 1)) []
  unfolding kids children
  kids_walk k e = rw e

  pub look_variable : kind_at t i ≡ 2 → look_at t i ≡ ExprForm.var (b_at t i)
  unfolding look_at looks
  look_variable e = rw e

  pub look_operator : kind_at t i ≡ 3 → look_at t i ≡ apply (op (a_at t i)) (kids t i)
  unfolding look_at looks
  look_operator e = rw e

  pub look_and : kind_at t i ≡ 4 → look_at t i ≡ ExprForm.and (prior t (last i)) (last i)
  unfolding look_at looks and_form walk backwards prior last
  look_and e = rw (e, kids_walk 2 (arity_and e))

  pub look_call : kind_at t i ≡ 5 → look_at t i ≡ apply (fn (b_at t i)) (kids t i)
  unfolding look_at looks
  look_call e = rw e

-- a node after its children
pub form_shape : (t : List ℕ) (i : ℕ) → 0 < i → form_at t i ≡ form_of t i (shape_at t i)
unfolding form_at
form_shape t zero p = absurd (omega arith)
form_shape t (suc i) p = refl

pub form_of_lem : (t : List ℕ) (i k : ℕ) (x : Shape) → 0 < i → shape_at t i ≡ x → form_at t i ≡ form_of t i x
form_of_lem t i k x p e = form_shape t i p ∙ rw e
