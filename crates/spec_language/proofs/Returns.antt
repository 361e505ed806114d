-- Question 13 finds what it finds where each return is its expression and then an assign of every variable of the function.
use mathlib.Core.Path.{◌≡◌, refl}
use mathlib.Core.Bool.{true}
use mathlib.Core.List.{List, []}
use mathlib.Core.Logic.{◌⊎◌, inl, inr, ⊎_elim}
use Prim.Native.Nat.{ℕ, zero, suc, ◌-◌, ◌≤◌, ◌<◌}
use native.Mathlib.Omega.{arith}
use lib.Dec.{eqb}
use borrow.Author.Tests.{eqb-true, eqb-false, ltb-true, lt-ltb}
use Rattle.varset.specs.Sets.{Set, none, with, without, both, either, less, below, Sub}
use Rattle.records.specs.Format.{most_variables}
use Rattle.records.specs.Fields.{functions, params_of, vars_of, count_of, a_at, b_at}
use Rattle.records.specs.Parts.{part_of}
use Rattle.records.proofs.Bools.{both_mono, either_mono, or_more, or_last, or_cases, by}
use Rattle.spec_language.specs.Statements.{Read, Statement, Nop, Seq, Assign, Decl, If, While, Return, Assert, Expr, statement_at}
use Rattle.spec_language.specs.Flow.{declares, leaves}
use Rattle.spec_language.proofs.Facts.{function_is, decl_fields}
use Rattle.spec_language.proofs.Accept.{Accepted, parts}
use Rattle.spec_language.proofs.Typings.{fields_at}
use Rattle.spec_language.proofs.Positions.{sizes}
use Rattle.spec_language.proofs.Scoping.{declares_is, declared_in, body_scoped}
use Rattle.spec_language.proofs.Flows.{Ok, SubIn, reads_none, reads_in, ok_nop, ok_seq, ok_assign, ok_decl, ok_if, ok_while, ok_return, ok_assert, ok_expr, ok_mono, leaves_mono, Scope, inner_in}

-- a statement with r in the place of each return; by kind
unfoldable pub replaced : (List Read → Statement) → Statement → Statement
replaced r Nop = Nop
replaced r (Seq s t) = Seq (replaced r s) (replaced r t)
replaced r (Assign x e) = Assign x e
replaced r (Decl x s) = Decl x (replaced r s)
replaced r (If e s t) = If e (replaced r s) (replaced r t)
replaced r (While e s) = While e (replaced r s)
replaced r (Return e) = r e
replaced r (Assert e) = Assert e
replaced r (Expr e) = Expr e

-- every variable below v is assigned
unfoldable pub assigned : ℕ → Statement
assigned zero = Nop
assigned (suc v) = Seq (assigned v) (Assign v [])

-- an expression, and then a value for every variable below v
abbrev pub giving : ℕ → List Read → Statement
giving v e = Seq (Expr e) (assigned v)

-- ---- with what leaves less in the place of each return, less is left and more is missing

module _ (r : List Read → Statement) (n : (e : List Read) → declares (r e) ≡ none) where
  declares_replaced : (s : Statement) → declares (replaced r s) ≡ declares s
  unfolding declares replaced
  declares_replaced Nop = refl
  declares_replaced (Seq s t) = rw (declares_replaced s, declares_replaced t)
  declares_replaced (Assign x e) = refl
  declares_replaced (Decl x s) = rw (declares_replaced s)
  declares_replaced (If e s t) = rw (declares_replaced s, declares_replaced t)
  declares_replaced (While e s) = declares_replaced s
  declares_replaced (Return e) = n e
  declares_replaced (Assert e) = refl
  declares_replaced (Expr e) = refl

  module _ (p : (e : List Read) (d : Set) → Sub (leaves (r e) d) (leaves (Return e) d)) (q : (e : List Read) (d : Set) → Ok (r e) d → Ok (Return e) d) where
    pub leaves_more : (s : Statement) (d : Set) → Sub (leaves (replaced r s) d) (leaves s d)
    unfolding leaves replaced without both less
    leaves_more Nop d x h = h
    leaves_more (Seq s t) d x h = leaves_mono t (leaves (replaced r s) d) (leaves s d) (leaves_more s d) x (leaves_more t (leaves (replaced r s) d) x h)
    leaves_more (Assign y e) d x h = h
    leaves_more (Decl y s) d x h = both_mono _ _ _ _ (leaves_more s (without d y) x) (λ k. k) h
    leaves_more (If e s t) d x h = both_mono _ _ _ _ (leaves_more s d x) (leaves_more t d x) h
    leaves_more (While e s) d x h = rw (declares_replaced s) at h
    leaves_more (Return e) d x h = p e d x h
    leaves_more (Assert e) d x h = h
    leaves_more (Expr e) d x h = h

    pub ok_more : (s : Statement) (d : Set) → Ok (replaced r s) d → Ok s d
    unfolding replaced
    ok_more Nop d o = ok_nop d
    ok_more (Seq s t) d o =
        let k = (ok_seq d (replaced r s) (replaced r t)).0 o in
        (ok_seq d s t).1 (ok_more s d k.0, ok_mono t (leaves (replaced r s) d) (leaves s d) (leaves_more s d) (ok_more t (leaves (replaced r s) d) k.1))
    ok_more (Assign y e) d o = o
    ok_more (Decl y s) d o = (ok_decl d y s).1 (ok_more s (without d y) ((ok_decl d y (replaced r s)).0 o))
    ok_more (If e s t) d o = let k = (ok_if d e (replaced r s) (replaced r t)).0 o in (ok_if d e s t).1 (k.0, ok_more s d k.1, ok_more t d k.2)
    ok_more (While e s) d o = let k = (ok_while d e (replaced r s)).0 o in (ok_while d e s).1 (k.0, ok_more s d k.1)
    ok_more (Return e) d o = q e d o
    ok_more (Assert e) d o = o
    ok_more (Expr e) d o = o

-- ---- document 01's rule, where a return leaves what it found

none_of_expr : (e : List Read) → declares (Expr e) ≡ none
unfolding declares
none_of_expr e = refl

expr_less : (e : List Read) (d : Set) → Sub (leaves (Expr e) d) (leaves (Return e) d)
unfolding leaves either
expr_less e d x h = or_more (d x) _ h

expr_ok : (e : List Read) (d : Set) → Ok (Expr e) d → Ok (Return e) d
expr_ok e d o = (ok_return d e).1 ((ok_expr d e).0 o)

pub plain_less : (s : Statement) (d : Set) → Sub (leaves (replaced Expr s) d) (leaves s d)
plain_less = leaves_more Expr none_of_expr expr_less expr_ok

-- what passed by it passes
pub plain_ok : (s : Statement) (d : Set) → Ok (replaced Expr s) d → Ok s d
plain_ok = ok_more Expr none_of_expr expr_less expr_ok

-- ---- a value for every variable below v

ok_assigned : (v : ℕ) (d : Set) → Ok (assigned v) d
unfolding assigned
ok_assigned zero d = ok_nop d
ok_assigned (suc v) d = (ok_seq d (assigned v) (Assign v [])).1 (ok_assigned v d, (ok_assign (leaves (assigned v) d) v []).1 (reads_none _))

assigned_none : (v : ℕ) → declares (assigned v) ≡ none
unfolding declares assigned either none
assigned_none zero = refl
assigned_none (suc v) = rw (assigned_none v)

giving_none : (v : ℕ) (e : List Read) → declares (giving v e) ≡ none
unfolding declares either none
giving_none v e = rw (assigned_none v)

-- those and no other
assigned_in : (v : ℕ) (d : Set) (x : ℕ) → x < v → leaves (assigned v) d x ≡ true
unfolding leaves assigned with
assigned_in zero d x l = absurd (omega arith)
assigned_in (suc v) d x l = by (eqb x v) (λ e. or_last (leaves (assigned v) d x) _ e) (λ e. or_more _ _ (assigned_in v d x (omega (arith, eqb-false x v e))))

assigned_out : (v : ℕ) (d : Set) (x : ℕ) → leaves (assigned v) d x ≡ true → (d x ≡ true) ⊎ (x < v)
unfolding leaves assigned with
assigned_out zero d x h = inl h
assigned_out (suc v) d x h =
    or_cases (leaves (assigned v) d x) (eqb x v) h (λ k. ⊎_elim (λ p. inl p) (λ p. inr (omega arith)) (assigned_out v d x k)) (λ k. let q = eqb-true x v k in inr (omega arith))

module _ (v : ℕ) where
  giving_less : v ≤ most_variables → (e : List Read) (d : Set) → Sub (leaves (giving v e) d) (leaves (Return e) d)
  unfolding leaves either below
  giving_less l e d x h = ⊎_elim (λ k. or_more (d x) _ k) (λ k. or_last (d x) _ (lt-ltb x most_variables (omega arith))) (assigned_out v d x h)

  giving_ok : (e : List Read) (d : Set) → Ok (giving v e) d → Ok (Return e) d
  giving_ok e d o = expr_ok e d ((ok_seq d (Expr e) (assigned v)).0 o).0

  -- in the scope of variables below v nothing is left or read that is not there with these alone
  own_leaves : (s : Statement) (u d d' : Set) → Scope u s → Sub u (below v) → Sub (declares s) (below v) → SubIn u d d' → SubIn u (leaves s d) (leaves (replaced (giving v) s) d')
  unfolding leaves replaced declares with without both either less below
  own_leaves Nop u d d' k b w h x i e = h x i e
  own_leaves (Seq s t) u d d' k b w h x i e =
      own_leaves t u (leaves s d) (leaves (replaced (giving v) s) d') k.1 b (λ y l. w y (or_last (declares s y) _ l))
      (own_leaves s u d d' k.0 b (λ y l. w y (or_more _ _ l)) h) x i e
  own_leaves (Assign y f) u d d' k b w h x i e = either_mono (d x) (d' x) _ _ (h x i) (λ z. z) e
  own_leaves (Decl y s) u d d' k b w h x i e =
      both_mono _ _ _ _
      (own_leaves s (with u y) (without d y) (without d' y) k.1 (λ z l. or_cases (u z) (eqb z y) l (b z) (λ q. w z (or_last (declares s z) _ q)))
      (λ z l. w z (or_more _ _ l)) (inner_in u d d' y h) x (or_more (u x) _ i))
      (λ z. z) e
  own_leaves (If f s t) u d d' k b w h x i e =
      both_mono _ _ _ _ (own_leaves s u d d' k.1 b (λ y l. w y (or_more _ _ l)) h x i) (own_leaves t u d d' k.2 b (λ y l. w y (or_last (declares s y) _ l)) h x i) e
  own_leaves (While f s) u d d' k b w h x i e = rw (declares_replaced (giving v) (giving_none v) s) (both_mono _ _ _ _ (h x i) (λ z. z) e)
  own_leaves (Return f) u d d' k b w h x i e = assigned_in v d' x (ltb-true x v (b x i))
  own_leaves (Assert f) u d d' k b w h x i e = h x i e
  own_leaves (Expr f) u d d' k b w h x i e = h x i e

  own_ok : (s : Statement) (u d d' : Set) → Scope u s → Sub u (below v) → Sub (declares s) (below v) → SubIn u d d' → Ok s d → Ok (replaced (giving v) s) d'
  unfolding replaced declares with either
  own_ok Nop u d d' k b w h o = ok_nop d'
  own_ok (Seq s t) u d d' k b w h o =
      let p = (ok_seq d s t).0 o in
      (ok_seq d' (replaced (giving v) s) (replaced (giving v) t)).1 (
        own_ok s u d d' k.0 b (λ y l. w y (or_more _ _ l)) h p.0,
        own_ok t u (leaves s d) (leaves (replaced (giving v) s) d') k.1 b (λ y l. w y (or_last (declares s y) _ l)) (own_leaves s u d d' k.0 b (λ y l. w y (or_more _ _ l)) h) p.1,
      )
  own_ok (Assign y e) u d d' k b w h o = (ok_assign d' y e).1 (reads_in e u d d' h k.0 ((ok_assign d y e).0 o))
  own_ok (Decl y s) u d d' k b w h o =
      (ok_decl d' y (replaced (giving v) s)).1
      (own_ok s (with u y) (without d y) (without d' y) k.1 (λ z l. or_cases (u z) (eqb z y) l (b z) (λ q. w z (or_last (declares s z) _ q)))
      (λ z l. w z (or_more _ _ l)) (inner_in u d d' y h) ((ok_decl d y s).0 o))
  own_ok (If e s t) u d d' k b w h o =
      let p = (ok_if d e s t).0 o in
      (ok_if d' e (replaced (giving v) s) (replaced (giving v) t)).1 (
        reads_in e u d d' h k.0 p.0,
        own_ok s u d d' k.1 b (λ y l. w y (or_more _ _ l)) h p.1,
        own_ok t u d d' k.2 b (λ y l. w y (or_last (declares s y) _ l)) h p.2,
      )
  own_ok (While e s) u d d' k b w h o =
      let p = (ok_while d e s).0 o in
      (ok_while d' e (replaced (giving v) s)).1 (reads_in e u d d' h k.0 p.0, own_ok s u d d' k.1 b w h p.1)
  own_ok (Return e) u d d' k b w h o = (ok_seq d' (Expr e) (assigned v)).1 ((ok_expr d' e).1 (reads_in e u d d' h k ((ok_return d e).0 o)), ok_assigned v _)
  own_ok (Assert e) u d d' k b w h o = (ok_assert d' e).1 (reads_in e u d d' h k ((ok_assert d e).0 o))
  own_ok (Expr e) u d d' k b w h o = (ok_expr d' e).1 (reads_in e u d d' h k ((ok_expr d e).0 o))

-- ---- what that says of a file

-- a return counts as giving every variable of the function a value: where question 13 finds nothing, it finds nothing with these values alone
module _ (s : List ℕ) (h : Accepted s) (f : ℕ) (l : f < functions s) where
  abbrev body : Statement
  body = statement_at (part_of s f) (count_of s f - 1)

  -- its variables are those below v
  declared_below : Sub (declares body) (below (vars_of s f))
  unfolding below
  declared_below x e =
      let d = declared_in (part_of s f) (count_of s f) (sizes s h f l) x (count_of s f - 1) (omega (arith, (parts s h).some f l)) e in
      let k = declares_is (part_of s f) d.node x d.declares in
      let w = decl_fields s f (a_at (part_of s f) d.node) (b_at (part_of s f) d.node) (fields_at s h f l d.node 9 (omega (arith, d.above, (parts s h).some f l)) k.0) in
      lt-ltb x (vars_of s f) (omega (arith, w.2, k.1))

  pub own_return : Ok (replaced (giving (vars_of s f)) body) (below (params_of s f))
  unfolding below
  own_return =
      own_ok (vars_of s f) body (below (params_of s f)) (below (params_of s f)) (below (params_of s f)) (body_scoped s h f l)
      (λ x e. lt-ltb x (vars_of s f) (omega (arith, ltb-true x (params_of s f) e, (function_is s f (h.four f l)).least))) declared_below (λ x i e. e) (h.thirteen f l)

-- and where it finds nothing with these values alone, it finds nothing
pub own_back : (v : ℕ) → v ≤ most_variables → (s : Statement) (d : Set) → Ok (replaced (giving v) s) d → Ok s d
own_back v l = ok_more (giving v) (giving_none v) (giving_less v l) (giving_ok v)
