-- What the pass looks for at a node of each kind.
use mathlib.Core.Path.{◌≡◌, refl}
use mathlib.Core.Bool.{Bool, true, false}
use mathlib.Core.List.{List}
use mathlib.Core.Logic.{inl, inr}
use Prim.Native.Nat.{ℕ, ◌<◌}
use native.Mathlib.Omega.{arith}
use lib.Dec.{ltb}
use Rattle.varset.specs.Lowest.{pick}
use Rattle.records.specs.Fields.{result_of, kind_at, a_at}
use Rattle.records.specs.Children.{arities, arity_of, arity_at}
use Rattle.spec_language.specs.Sorts.{is_expression, wants_expression}
use Rattle.spec_language.specs.Scopes.{uses_variable}
use Rattle.spec_language.specs.Types.{operator_type, types_of, type_at, wants_of, want_at}
use Rattle.spec_language.specs.Nodes.{outside}
use Rattle.check_effects.specs.Effects.{statement_code, return_code}
use Rattle.check_pass.specs.Judged.{Leaf, Operator, Single}

module _ (s : List ℕ) (f : ℕ) (t : List ℕ) (n i : ℕ) where
  pub int_leaf : kind_at t i ≡ 0 → Leaf s f t n i 1
  unfolding arity_at arity_of arities outside uses_variable is_expression type_at types_of
  int_leaf e = record { arity = rw e; plain = rw e; other = λ q. omega arith; scoped = rw e; sort = rw e; type = λ l. rw e; small = omega arith }

  pub bool_leaf : kind_at t i ≡ 1 → Leaf s f t n i 2
  unfolding arity_at arity_of arities outside uses_variable is_expression type_at types_of
  bool_leaf e = record { arity = rw e; plain = rw e; other = λ q. omega arith; scoped = rw e; sort = rw e; type = λ l. rw e; small = omega arith }

  pub nop_leaf : kind_at t i ≡ 6 → Leaf s f t n i statement_code
  unfolding arity_at arity_of arities outside uses_variable is_expression
  nop_leaf e = record { arity = rw e; plain = rw e; other = λ q. omega arith; scoped = rw e; sort = rw e; type = λ l. absurd (omega arith); small = omega arith }

  pub nothing_leaf : kind_at t i ≡ 15 → Leaf s f t n i 0
  unfolding arity_at arity_of arities outside uses_variable is_expression type_at types_of
  nothing_leaf e = record { arity = rw e; plain = rw e; other = λ q. omega arith; scoped = rw e; sort = rw e; type = λ l. rw e; small = omega arith }

  operator_small : (a : ℕ) → operator_type a < statement_code
  unfolding operator_type
  operator_small a = go (ltb a 10)
    where
      go : (b : Bool) → pick b 1 2 < statement_code
      go true = omega arith
      go false = omega arith

  pub number_operator : {a code : ℕ} → kind_at t i ≡ 3 → a ≡ a_at t i → code ≡ operator_type a → Operator s f t n i 1 code
  unfolding arity_at arity_of arities outside uses_variable is_expression type_at types_of wants_expression want_at wants_of
  number_operator {a} {code} e q h =
      record {
        arity = rw e;
        plain = rw e;
        other = λ q. omega arith;
        scoped = rw e;
        sort = rw e;
        type = rw (e, h, q);
        small = rw h (operator_small a);
        wanted = omega arith;
        sorts = λ k. rw e;
        types = λ k. rw e;
      }

  pub and_operator : kind_at t i ≡ 4 → Operator s f t n i 2 2
  unfolding arity_at arity_of arities outside uses_variable is_expression type_at types_of wants_expression want_at wants_of
  and_operator e =
      record { arity = rw e; plain = rw e; other = λ q. omega arith; scoped = rw e; sort = rw e; type = rw e; small = omega arith; wanted = omega arith; sorts = λ k. rw e; types = λ k. rw e }

  pub return_single : {want : ℕ} → kind_at t i ≡ 12 → want ≡ result_of s f → Single s f t n i want return_code
  unfolding arity_at arity_of arities outside uses_variable is_expression wants_expression want_at wants_of
  return_single e q = record { kind = inl (e, refl); arity = rw e; scoped = rw e; sort = rw e; sorts = rw e; types = rw (e, q) }

  pub assert_single : kind_at t i ≡ 13 → Single s f t n i 2 statement_code
  unfolding arity_at arity_of arities outside uses_variable is_expression wants_expression want_at wants_of
  assert_single e = record { kind = inr (inl e, refl); arity = rw e; scoped = rw e; sort = rw e; sorts = rw e; types = rw e }

  pub expr_single : kind_at t i ≡ 14 → Single s f t n i 254 statement_code
  unfolding arity_at arity_of arities outside uses_variable is_expression wants_expression want_at wants_of
  expr_single e = record { kind = inr (inr e, refl); arity = rw e; scoped = rw e; sort = rw e; sorts = rw e; types = rw e }
