-- Questions 10 and 11 mean that every statement of an accepted file reads, assigns and declares in its scope.
use mathlib.Core.Path.{◌≡◌, refl, sym, subst}
use mathlib.Core.Logic.{◌⊎◌, inl, inr, ⊎_elim}
use mathlib.Core.Bool.{Bool, true, false, ◌||◌, ◌&&◌}
use mathlib.Core.List.{List}
use Prim.Native.Nat.{ℕ, zero, suc, ◌+◌, ◌-◌, ◌≤◌, ◌<◌}
use native.Mathlib.Omega.{arith}
use native.Mathlib.Nat.{not-suc-le-zero, le_refl}
use native.Mathlib.Decide.{dec_lt, ℕ_discrete}
use lib.Dec.{eqb, ltb}
use borrow.Author.Tests.{eqb-true, eq-eqb, ltb-true, ltb-false, lt-ltb, le-ltb}
use Rattle.varset.specs.Sets.{Set, none, with, either, below}
use Rattle.records.specs.Fields.{functions, params_of, vars_of, count_of, kind_at, a_at, b_at, size_at}
use Rattle.records.specs.Parts.{part_of}
use Rattle.records.specs.Children.{arities, arity_of}
use Rattle.records.proofs.Bools.{and_left, and_right, or_more, or_cases, by, clash, or_last}
use Rattle.spec_language.specs.Sorts.{is_expression, wants_expression}
use Rattle.spec_language.specs.Statements.{prior, last, reads_of, statement_at}
use Rattle.spec_language.specs.Flow.{declares}
use Rattle.spec_language.specs.Scopes.{declares_at, decl_of, under, uses_variable}
use Rattle.spec_language.proofs.Facts.{variable_fields, assign_fields, decl_fields}
use Rattle.spec_language.proofs.Accept.{Accepted, parts}
use Rattle.spec_language.proofs.Tiles.{Sizes, size_fits, nested}
use Rattle.spec_language.proofs.Decls.{one_decl, use_inside}
use Rattle.spec_language.proofs.Typings.{fields_at}
use Rattle.spec_language.proofs.Positions.{sizes}
use Rattle.spec_language.proofs.Trees.{by_kind}
use Rattle.spec_language.proofs.Flows.{Reads, Scope}
use Rattle.spec_language.proofs.Subtrees.{Child, back, child_at, reads_nodes_lem, expression_tree, sort_at}

-- by what holds below a number
pub strongly : (P : ℕ → Type 0) → ((i : ℕ) → ((c : ℕ) → c < i → P c) → P i) → (i : ℕ) → P i
strongly P step i = go (suc i) i (le_refl (suc i))
  where
    go : (levels i : ℕ) → i < levels → P i
    go zero i l = absurd (not-suc-le-zero l)
    go (suc levels) i l = step i (λ c k. go levels c (omega arith))

pub declares_is : (t : List ℕ) (d x : ℕ) → declares_at t d x ≡ true → (kind_at t d ≡ 9) × (b_at t d ≡ x)
unfolding declares_at
declares_is t d x e = (eqb-true _ _ (and_left (eqb (kind_at t d) 9) _ e), eqb-true _ _ (and_right (eqb (kind_at t d) 9) _ e))

pub is_declares : (t : List ℕ) (d x : ℕ) → kind_at t d ≡ 9 → b_at t d ≡ x → declares_at t d x ≡ true
unfolding declares_at
is_declares t d x e q = rw (e, eq-eqb (b_at t d) x q)

-- ---- what a statement declares

-- a decl of x in the subtree of node i
pub record DeclIn (t : List ℕ) (i x : ℕ) : Type 0 where
  pub node : ℕ
  pub above : node ≤ i
  pub near : i < node + size_at t i
  pub declares : declares_at t node x ≡ true

module _ (t : List ℕ) (n : ℕ) (ok : Sizes t n) (x : ℕ) where
  abbrev Declared : ℕ → Type 0
  Declared i = declares (statement_at t i) x ≡ true → DeclIn t i x

  declared_step : (i : ℕ) → i < n → ((c : ℕ) → c < i → c < n → Declared c) → Declared i
  unfolding declares none with either arity_of arities
  declared_step i p r =
      by_kind t i (λ k s. kind_at t i ≡ k → declares s x ≡ true → DeclIn t i x) (λ k e q. clash false q refl)
      (λ e q. or_cases (declares (statement_at t (prior t (last i))) x) _ q (up (child_at t n ok i 7 1 0 p e refl)) (up (child_at t n ok i 7 0 1 p e refl)))
      (λ e q. clash false q refl)
      (λ e q. or_cases (declares (statement_at t (last i)) x) _ q (up (child_at t n ok i 9 0 0 p e refl)) (λ k. here e (sym (eqb-true x (b_at t i) k)) (child_at t n ok i 9 0 0 p e refl)))
      (λ e q. or_cases (declares (statement_at t (prior t (last i))) x) _ q (up (child_at t n ok i 10 1 1 p e refl)) (up (child_at t n ok i 10 0 2 p e refl)))
      (λ e q. up (child_at t n ok i 11 0 1 p e refl) q)
      (λ e q. clash false q refl)
      (λ e q. clash false q refl)
      (λ e q. clash false q refl) refl
    where
      up : {c : ℕ} → Child t i c → declares (statement_at t c) x ≡ true → DeclIn t i x
      up {c} w q =
          let d = r c w.below (omega (arith, w.below)) q in
          record { node = d.node; above = omega (arith, w.below, d.above); near = omega (arith, w.inside, d.near); declares = d.declares }

      here : {c : ℕ} → kind_at t i ≡ 9 → b_at t i ≡ x → Child t i c → DeclIn t i x
      here e q w = record { node = i; above = le_refl i; near = omega (arith, w.below, w.inside, w.some); declares = is_declares t i x e q }

  -- what is declared in a statement has its decl in the subtree
  pub declared_in : (i : ℕ) → i < n → declares (statement_at t i) x ≡ true → DeclIn t i x
  declared_in = strongly (λ i. i < n → Declared i) (λ i r p. declared_step i p r)

-- ---- scopes

-- the variables in scope at node i of function f: the parameters, and those under whose decl it lies
unfoldable pub scope_at : List ℕ → ℕ → ℕ → Set
scope_at s f i x = ltb x (params_of s f) || (ltb x (vars_of s f) && under (part_of s f) (decl_of (part_of s f) (count_of s f) x) i)

module _ (s : List ℕ) (f : ℕ) where
  -- the decl of x
  abbrev pub decl_node : ℕ → ℕ
  decl_node x = decl_of (part_of s f) (count_of s f) x

  -- the two ways to be in scope
  pub data InScope (i x : ℕ) : Type 0 where
    parameter : x < params_of s f → InScope i x
    local : params_of s f ≤ x → x < vars_of s f → i < decl_node x → decl_node x < i + size_at (part_of s f) (decl_node x) → InScope i x

  pub scope_is : (i x : ℕ) → scope_at s f i x ≡ true → InScope i x
  unfolding scope_at under
  scope_is i x e =
      by (ltb x (params_of s f)) (λ q. parameter (ltb-true _ _ q))
      (λ q. let r = rw q at e in
      let u = and_right (ltb x (vars_of s f)) _ r in
      local (ltb-false _ _ q) (ltb-true _ _ (and_left (ltb x (vars_of s f)) _ r)) (ltb-true _ _ (and_left (ltb i (decl_node x)) _ u)) (ltb-true _ _ (and_right (ltb i (decl_node x)) _ u)))

  pub is_scope : (i x : ℕ) → InScope i x → scope_at s f i x ≡ true
  unfolding scope_at under
  is_scope i x (parameter l) = rw (lt-ltb _ _ l)
  is_scope i x (local p v a b) = rw (le-ltb x (params_of s f) p, lt-ltb _ _ v, lt-ltb _ _ a, lt-ltb _ _ b)

same : (a b : Bool) → (a ≡ true → b ≡ true) → (b ≡ true → a ≡ true) → a ≡ b
same true b h k = sym (h refl)
same false true h k = k refl
same false false h k = refl

module _ (s : List ℕ) (h : Accepted s) (f : ℕ) (l : f < functions s) where
  abbrev t : List ℕ
  t = part_of s f

  abbrev n : ℕ
  n = count_of s f

  -- the fields of a decl, which is the one of its variable
  decl_node_lem : (i : ℕ) → i < n → kind_at t i ≡ 9 → (params_of s f ≤ b_at t i) × (b_at t i < vars_of s f) × (i ≡ decl_node s f (b_at t i))
  decl_node_lem i p e =
      let w = decl_fields s f (a_at t i) (b_at t i) (fields_at s h f l i 9 p e) in
      (w.1, w.2, (one_decl s h f l (b_at t i) w.1 w.2).only i p (is_declares t i (b_at t i) e refl))

  -- a decl's variable is not in scope at the decl itself
  pub decl_new : (i : ℕ) → i < n → kind_at t i ≡ 9 → scope_at s f i (b_at t i) ≡ false
  decl_new i p e = by (scope_at s f i (b_at t i)) (λ q. absurd (no (scope_is s f i (b_at t i) q))) (λ q. q)
    where
      no : InScope s f i (b_at t i) → ⊥
      no (parameter v) = omega (arith, (decl_node_lem i p e).0)
      no (local u v a b) = omega (arith, (decl_node_lem i p e).2)

  module _ (i c : ℕ) (p : i < n) (w : Child t i c) where
    -- what is in scope at a node is so at its child
    scope_down : (x : ℕ) → InScope s f i x → InScope s f c x
    scope_down x (parameter v) = parameter v
    scope_down x (local u v a b) =
        let d = decl_node s f x in
        let q : d < n = (one_decl s h f l x u v).inside in
        let z = size_fits t n (sizes s h f l) d q in
        let m : d + 1 - size_at t d + size_at t i ≤ i + 1 = nested t n (sizes s h f l) (d + 1 - size_at t d) d i q (omega arith) (omega arith) b in
        local u v (omega (arith, w.below)) (omega (arith, w.inside, w.some))

    -- and no more, but for the node's own decl
    scope_up : (x : ℕ) → InScope s f c x → InScope s f i x ⊎ (declares_at t i x ≡ true)
    scope_up x (parameter v) = inl (parameter v)
    scope_up x (local u v a b) = go (ℕ_discrete (decl_node s f x) i) (dec_lt (decl_node s f x) i)
      where
        go : Dec (decl_node s f x ≡ i) → Dec (decl_node s f x < i) → InScope s f i x ⊎ (declares_at t i x ≡ true)
        go (yes q) m = inr (rw q at (one_decl s h f l x u v).declares)
        go (no q) (yes m) = absurd (omega (arith, w.apart (decl_node s f x) a m))
        go (no q) (no m) = inl (local u v (omega arith) (omega (arith, w.below)))

    -- a child of another node than a decl has its parent's scope
    pub scope_same : (kind_at t i ≡ 9 → ⊥) → scope_at s f c ≡ scope_at s f i
    scope_same k = λ r x. at x r
      where
        at : (x : ℕ) → scope_at s f c x ≡ scope_at s f i x
        at x =
            same (scope_at s f c x) (scope_at s f i x)
            (λ q. ⊎_elim (is_scope s f i x) (λ (e : declares_at t i x ≡ true). absurd (k (declares_is t i x e).0)) (scope_up x (scope_is s f c x q)))
            (λ q. is_scope s f c x (scope_down x (scope_is s f i x q)))

    decl_in : kind_at t i ≡ 9 → InScope s f c (b_at t i)
    decl_in e =
        let r = decl_node_lem i p e in
        let z : (c < i) × (i < c + size_at t i) = (w.below, omega (arith, w.inside, w.some)) in
        let y = subst (λ (d : ℕ). (c < d) × (d < c + size_at t d)) r.2 z in
        local r.0 r.1 y.0 y.1

    -- a decl's statement has the decl's scope and its variable
    pub scope_with : kind_at t i ≡ 9 → scope_at s f c ≡ with (scope_at s f i) (b_at t i)
    unfolding with
    scope_with e = λ r x. at x r
      where
        at : (x : ℕ) → scope_at s f c x ≡ (scope_at s f i x || eqb x (b_at t i))
        at x =
            same (scope_at s f c x) (scope_at s f i x || eqb x (b_at t i))
            (λ q. ⊎_elim (λ k. or_more (scope_at s f i x) (eqb x (b_at t i)) (is_scope s f i x k)) (λ (k : declares_at t i x ≡ true). or_last (scope_at s f i x) (eqb x (b_at t i)) (eq-eqb x (b_at t i) (sym (declares_is t i x k).1))) (scope_up x (scope_is s f c x q)))
            (λ q. or_cases (scope_at s f i x) (eqb x (b_at t i)) q (λ k. is_scope s f c x (scope_down x (scope_is s f i x k)))
            (λ k. is_scope s f c x (rw (eqb-true x (b_at t i) k) (decl_in e))))

  -- a use or an assignment is in scope
  pub use_scope : (j : ℕ) → j < n → uses_variable (kind_at t j) ≡ true → b_at t j < vars_of s f → InScope s f j (b_at t j)
  use_scope j p e v = go (dec_lt (b_at t j) (params_of s f))
    where
      go : Dec (b_at t j < params_of s f) → InScope s f j (b_at t j)
      go (yes q) = parameter q
      go (no q) = let u = use_inside s h f l j p e (omega arith) in local (omega arith) v u.0 u.1

  -- an expression reads in its scope
  pub reads_scope : (e : ℕ) → e < n → is_expression (kind_at t e) ≡ true → Reads (reads_of t e) (scope_at s f e)
  unfolding uses_variable is_expression
  reads_scope e p q = (reads_nodes_lem t (scope_at s f e) e (size_fits t n (sizes s h f l) e p)).1 (λ j a b k. is_scope s f e (b_at t j) (up j a b (use_scope j (omega arith) (rw k) (variable j (omega arith) k))))
    where
      variable : (j : ℕ) → j < n → kind_at t j ≡ 2 → b_at t j < vars_of s f
      variable j p k = variable_fields s f (a_at t j) (b_at t j) (fields_at s h f l j 2 p k)

      up : (j : ℕ) → j ≤ e → e < j + size_at t e → InScope s f j (b_at t j) → InScope s f e (b_at t j)
      up j a b (parameter v) = parameter v
      up j a b (local u v y z) = go (dec_lt e d)
        where
          d : ℕ
          d = decl_node s f (b_at t j)

          go : Dec (e < d) → InScope s f e (b_at t j)
          go (yes m) = local u v m (omega arith)
          go (no m) =
              let k = (declares_is t d (b_at t j) (one_decl s h f l (b_at t j) u v).declares).0 in
              clash (is_expression (kind_at t d)) (expression_tree s h f l e d p q (omega arith) (omega arith)) (rw k)

  scoped_step : (i : ℕ) → i < n → ((c : ℕ) → c < i → c < n → Scope (scope_at s f c) (statement_at t c)) → Scope (scope_at s f i) (statement_at t i)
  unfolding arity_of arities wants_expression uses_variable
  scoped_step i p r =
      by_kind t i (λ k st. kind_at t i ≡ k → Scope (scope_at s f i) st) (λ k e. tt)
      (λ e. (stmt (λ q. omega arith) (child 7 1 0 e refl), stmt (λ q. omega arith) (child 7 0 1 e refl)))
      (λ e. (expr (λ q. omega arith) (child 8 0 0 e refl) (sort 8 0 0 e refl), is_scope s f i (b_at t i) (use_scope i p (rw e) (assign_fields s f (a_at t i) (b_at t i) (fields_at s h f l i 8 p e)))))
      (λ e. (decl_new i p e, rw (scope_with i (last i) p (child 9 0 0 e refl) e) at (r (last i) (child 9 0 0 e refl).below (omega (arith, (child 9 0 0 e refl).below)))))
      (λ e. (expr (λ q. omega arith) (child 10 2 0 e refl) (sort 10 2 0 e refl), stmt (λ q. omega arith) (child 10 1 1 e refl), stmt (λ q. omega arith) (child 10 0 2 e refl)))
      (λ e. (expr (λ q. omega arith) (child 11 1 0 e refl) (sort 11 1 0 e refl), stmt (λ q. omega arith) (child 11 0 1 e refl)))
      (λ e. expr (λ q. omega arith) (child 12 0 0 e refl) (sort 12 0 0 e refl))
      (λ e. expr (λ q. omega arith) (child 13 0 0 e refl) (sort 13 0 0 e refl))
      (λ e. expr (λ q. omega arith) (child 14 0 0 e refl) (sort 14 0 0 e refl)) refl
    where
      child : (kind j m : ℕ) → kind_at t i ≡ kind → arity_of kind (a_at t i) ≡ 1 + j + m → Child t i (back t j (last i))
      child kind j m e a = child_at t n (sizes s h f l) i kind j m p e a

      sort : (kind j m : ℕ) → kind_at t i ≡ kind → arity_of kind (a_at t i) ≡ 1 + j + m → is_expression (kind_at t (back t j (last i))) ≡ wants_expression kind m
      sort kind j m e a = sort_at s h f l i kind j m p e a

      stmt : {c : ℕ} → (kind_at t i ≡ 9 → ⊥) → Child t i c → Scope (scope_at s f i) (statement_at t c)
      stmt {c} k w = rw (scope_same i c p w k) at (r c w.below (omega (arith, w.below)))

      expr : {c : ℕ} → (kind_at t i ≡ 9 → ⊥) → Child t i c → is_expression (kind_at t c) ≡ true → Reads (reads_of t c) (scope_at s f i)
      expr {c} k w q = rw (scope_same i c p w k) at (reads_scope c (omega (arith, w.below)) q)

  -- the statement at each node stays in its scope
  pub scoped : (i : ℕ) → i < n → Scope (scope_at s f i) (statement_at t i)
  scoped = strongly (λ i. i < n → Scope (scope_at s f i) (statement_at t i)) (λ i r p. scoped_step i p r)

  -- at the body the parameters are in scope
  body_scope : (x : ℕ) → scope_at s f (n - 1) x ≡ below (params_of s f) x
  unfolding below
  body_scope x = same (scope_at s f (n - 1) x) (ltb x (params_of s f)) (λ q. there (scope_is s f (n - 1) x q)) (λ q. is_scope s f (n - 1) x (parameter (ltb-true _ _ q)))
    where
      there : InScope s f (n - 1) x → ltb x (params_of s f) ≡ true
      there (parameter v) = lt-ltb _ _ v
      there (local u v a b) = absurd (omega (arith, (one_decl s h f l x u v).inside))

  pub body_scoped : Scope (below (params_of s f)) (statement_at t (n - 1))
  body_scoped =
      let e : scope_at s f (n - 1) ≡ below (params_of s f) = λ k x. body_scope x k in
      rw e at (scoped (n - 1) (omega (arith, (parts s h).some f l)))
