-- Question 12, one theorem for each line of the paper, of every node of an accepted file.
use mathlib.Core.Path.{◌≡◌, refl, sym}
use mathlib.Core.Logic.{⊎_elim}
use mathlib.Core.Bool.{Bool, true, false}
use mathlib.Core.List.{List, [], ◌∷◌}
use Prim.Native.Nat.{ℕ, ◌-◌, ◌/◌, ◌%◌, ◌^◌, ◌≤◌, ◌<◌}
use native.Mathlib.Omega.{arith}
use native.Mathlib.Nat.{mod-lt, zero-div, zero-lt-suc, not-suc-le-zero}
use lib.Dec.{eqb, ltb}
use lib.ListN.{length}
use borrow.Author.Tests.{eqb-true, ne_eqb, not-false, le-ltb, ltb-false, eqb-false}
use Rattle.varset.specs.Lowest.{pick}
use Rattle.records.specs.Fields.{functions, result_of, params_of, vars_of, mask_of, count_of, kind_at, a_at, b_at, size_at}
use Rattle.records.specs.Parts.{part_of}
use Rattle.records.specs.Children.{arities, arity_of, arity_at, walk, children}
use Rattle.records.proofs.Children.{length-walk}
use Rattle.records.proofs.Bools.{and_left, and_right}
use Rattle.spec_language.specs.Statements.{prior, last}
use Rattle.spec_language.specs.Scopes.{declares_at, decl_of}
use Rattle.spec_language.specs.Types.{any, param_type, var_type, operator_type, types_of, type_at, condition, wants_of, want_at, suits, agree}
use Rattle.spec_language.specs.Nodes.{fields_ok, mistyped}
use Rattle.spec_language.proofs.Facts.{node_fields, assign_fields, decl_fields}
use Rattle.spec_language.proofs.Accept.{Accepted, function}
use Rattle.spec_language.proofs.Decls.{one_decl}

-- a type that is wanted and is not `any` is the type found
suits_is : (want type : ℕ) → want ≤ 2 → suits want type ≡ true → type ≡ want
unfolding suits
suits_is want type l e =
    let n : want ≡ any → ⊥ = λ q. omega arith in
    sym (eqb-true want type (rw (ne_eqb want any n) at e))

pub param_small : (s : List ℕ) (f k : ℕ) → (1 ≤ param_type s f k) × (param_type s f k ≤ 2)
unfolding param_type
param_small s f k = let m : mask_of s f / 2 ^ k % 2 < 2 = mod-lt (mask_of s f / 2 ^ k) (zero-lt-suc 1) in rw (zero-div (2 ^ k)) (omega arith, omega arith)

-- child k of a list of children, the last first
unfoldable pub nth : ℕ → List ℕ → ℕ
nth k [] = 0
nth k (c ∷ cs) = pick (eqb k (length cs)) c (nth k cs)

agree_nth : (want type : ℕ → ℕ) (cs : List ℕ) → agree want type cs ≡ true → (k : ℕ) → k < length cs → suits (want k) (type (nth k cs)) ≡ true
unfolding agree nth
agree_nth want type [] e k h = absurd (not-suc-le-zero h)
agree_nth want type (c ∷ cs) e k h = go (eqb k (length cs)) refl (agree_nth want type cs (and_right (suits (want (length cs)) (type c)) _ e) k)
  where
    go : (b : Bool) → eqb k (length cs) ≡ b → (k < length cs → suits (want k) (type (nth k cs)) ≡ true) → suits (want k) (type (pick b c (nth k cs))) ≡ true
    go true q r = rw (eqb-true k (length cs) q) (and_left (suits (want (length cs)) (type c)) _ e)
    go false q r = let n : k ≡ length cs → ⊥ = eqb-false k (length cs) q in r (omega arith)

-- the children of nodes with one, two and three
one_child : (t : List ℕ) (i : ℕ) → arity_at t i ≡ 1 → children t i ≡ last i ∷ []
unfolding children walk last
one_child t i e = rw e

two_children : (t : List ℕ) (i : ℕ) → arity_at t i ≡ 2 → children t i ≡ last i ∷ (prior t (last i) ∷ [])
unfolding children walk last prior
two_children t i e = rw e

three_children : (t : List ℕ) (i : ℕ) → arity_at t i ≡ 3 → children t i ≡ last i ∷ (prior t (last i) ∷ (prior t (prior t (last i)) ∷ []))
unfolding children walk last prior
three_children t i e = rw e

module _ (want type : ℕ → ℕ) where
  one_typed : (a w : ℕ) → want 0 ≡ w → w ≤ 2 → agree want type (a ∷ []) ≡ true → type a ≡ w
  unfolding agree
  one_typed a w e l h = suits_is w (type a) l (rw e at (and_left (suits (want 0) (type a)) _ h))

  first_agrees : (a b w : ℕ) → want 0 ≡ w → agree want type (b ∷ (a ∷ [])) ≡ true → suits w (type a) ≡ true
  unfolding agree
  first_agrees a b w e h = rw e at (and_left (suits (want 0) (type a)) _ (and_right (suits (want 1) (type b)) _ h))

  two_typed : (a b v w : ℕ) → want 0 ≡ v → want 1 ≡ w → v ≤ 2 → w ≤ 2 → agree want type (b ∷ (a ∷ [])) ≡ true → (type a ≡ v) × (type b ≡ w)
  unfolding agree
  two_typed a b v w e g l m h = (suits_is v (type a) l (first_agrees a b v e h), suits_is w (type b) m (rw g at (and_left (suits (want 1) (type b)) _ h)))

  three_typed : (a b c w : ℕ) → want 0 ≡ w → w ≤ 2 → agree want type (c ∷ (b ∷ (a ∷ []))) ≡ true → type a ≡ w
  unfolding agree
  three_typed a b c w e l h = suits_is w (type a) l (first_agrees a b w e (and_right (suits (want 2) (type c)) _ h))

-- a decl's type is int or bool
decl_small : (s : List ℕ) (h : Accepted s) (f : ℕ) → f < functions s → (x : ℕ) → params_of s f ≤ x → x < vars_of s f
    → let a = a_at (part_of s f) (decl_of (part_of s f) (count_of s f) x) in (1 ≤ a) × (a ≤ 2)
unfolding declares_at
decl_small s h f l x p v =
    let t = part_of s f in
    let d = decl_of t (count_of s f) x in
    let o = one_decl s h f l x p v in
    let k : kind_at t d ≡ 9 = eqb-true _ _ (and_left (eqb (kind_at t d) 9) _ o.declares) in
    let e : fields_ok s f 9 (a_at t d) (b_at t d) ≡ true = rw k at (node_fields s f t d (h.seven f d l o.inside)) in
    let c = (decl_fields s f (a_at t d) (b_at t d) e).0 in
    ⊎_elim (λ (q : a_at t d ≡ 1). (omega arith, omega arith)) (λ (q : a_at t d ≡ 2). (omega arith, omega arith)) c

module _ (s : List ℕ) (h : Accepted s) (f : ℕ) (l : f < functions s) where
  abbrev t : List ℕ
  t = part_of s f

  abbrev n : ℕ
  n = count_of s f

  abbrev type : ℕ → ℕ
  type = type_at s f t n

  abbrev Fields : ℕ → ℕ → Type 0
  Fields i k = fields_ok s f k (a_at t i) (b_at t i) ≡ true

  -- the fields of a node of a known kind
  pub fields_at : (i k : ℕ) → i < n → kind_at t i ≡ k → Fields i k
  fields_at i k p e = rw e at (node_fields s f t i (h.seven f i l p))

  -- a variable's type is int or bool
  pub variable_small : (x : ℕ) → x < vars_of s f → (1 ≤ var_type s f t n x) × (var_type s f t n x ≤ 2)
  unfolding var_type
  variable_small x v = go (ltb x (params_of s f)) refl
    where
      go : (b : Bool) → ltb x (params_of s f) ≡ b → (1 ≤ pick b (param_type s f x) (a_at t (decl_of t n x))) × (pick b (param_type s f x) (a_at t (decl_of t n x)) ≤ 2)
      go true e = param_small s f x
      go false e = decl_small s h f l x (ltb-false x (params_of s f) e) v

  agrees : (i : ℕ) → i < n → agree (want_at s f t n i) type (children t i) ≡ true
  unfolding mistyped
  agrees i p = not-false _ (h.twelve f i l p)

  wanted : (i k : ℕ) → i < n → k < arity_at t i → suits (want_at s f t n i k) (type (nth k (children t i))) ≡ true
  unfolding children
  wanted i k p q = agree_nth (want_at s f t n i) type (children t i) (agrees i p) k (rw (length-walk (size_at t) (arity_at t i) (i - 1)) q)

  module _ (i : ℕ) (p : i < n) where
    -- operators take ints
    pub operator_wants : kind_at t i ≡ 3 → (type (prior t (last i)) ≡ 1) × (type (last i) ≡ 1)
    unfolding want_at wants_of arity_at arity_of arities
    operator_wants e = two_typed (want_at s f t n i) type (prior t (last i)) (last i) 1 1 (rw e) (rw e) (omega arith) (omega arith) (rw (two_children t i (rw e)) at (agrees i p))

    -- && wants bools
    pub and_wants : kind_at t i ≡ 4 → (type (prior t (last i)) ≡ 2) × (type (last i) ≡ 2)
    unfolding want_at wants_of arity_at arity_of arities
    and_wants e = two_typed (want_at s f t n i) type (prior t (last i)) (last i) 2 2 (rw e) (rw e) (omega arith) (omega arith) (rw (two_children t i (rw e)) at (agrees i p))

    -- arguments want the parameters' types
    pub call_wants : kind_at t i ≡ 5 → (k : ℕ) → k < a_at t i → type (nth k (children t i)) ≡ param_type s (b_at t i) k
    unfolding want_at wants_of arity_at arity_of arities
    call_wants e k q =
        let w : want_at s f t n i k ≡ param_type s (b_at t i) k = rw e in
        let m : k < arity_at t i = rw e q in
        suits_is _ _ (param_small s (b_at t i) k).1 (rw w at (wanted i k p m))

    -- assign wants its variable's type
    pub assign_wants : kind_at t i ≡ 8 → type (last i) ≡ var_type s f t n (b_at t i)
    unfolding want_at wants_of arity_at arity_of arities
    assign_wants e =
        one_typed (want_at s f t n i) type (last i) (var_type s f t n (b_at t i)) (rw e)
        (variable_small (b_at t i) (assign_fields s f (a_at t i) (b_at t i) (fields_at i 8 p e))).1 (rw (one_child t i (rw e)) at (agrees i p))

    -- conditions want bool: of an if
    pub if_wants : kind_at t i ≡ 10 → type (prior t (prior t (last i))) ≡ 2
    unfolding want_at wants_of arity_at arity_of arities condition
    if_wants e = three_typed (want_at s f t n i) type (prior t (prior t (last i))) (prior t (last i)) (last i) 2 (rw e) (omega arith) (rw (three_children t i (rw e)) at (agrees i p))

    -- and of a while
    pub while_wants : kind_at t i ≡ 11 → type (prior t (last i)) ≡ 2
    unfolding want_at wants_of arity_at arity_of arities condition
    while_wants e = suits_is 2 _ (omega arith) (first_agrees (want_at s f t n i) type (prior t (last i)) (last i) 2 (rw e) (rw (two_children t i (rw e)) at (agrees i p)))

    -- return wants the function's result type
    pub return_wants : kind_at t i ≡ 12 → type (last i) ≡ result_of s f
    unfolding want_at wants_of arity_at arity_of arities
    return_wants e = one_typed (want_at s f t n i) type (last i) (result_of s f) (rw e) (function s h f l).result (rw (one_child t i (rw e)) at (agrees i p))

    -- asserts want bool; kind 14 takes any
    pub assert_wants : kind_at t i ≡ 13 → type (last i) ≡ 2
    unfolding want_at wants_of arity_at arity_of arities
    assert_wants e = one_typed (want_at s f t n i) type (last i) 2 (rw e) (omega arith) (rw (one_child t i (rw e)) at (agrees i p))

-- ---- the type of a node of each kind
module _ (s : List ℕ) (f : ℕ) (t : List ℕ) (n i : ℕ) where
  pub int_type : kind_at t i ≡ 0 → type_at s f t n i ≡ 1
  unfolding type_at types_of
  int_type e = rw e

  pub bool_type : kind_at t i ≡ 1 → type_at s f t n i ≡ 2
  unfolding type_at types_of
  bool_type e = rw e

  pub variable_type : kind_at t i ≡ 2 → type_at s f t n i ≡ var_type s f t n (b_at t i)
  unfolding type_at types_of
  variable_type e = rw e

  pub operator_gives : kind_at t i ≡ 3 → type_at s f t n i ≡ operator_type (a_at t i)
  unfolding type_at types_of
  operator_gives e = rw e

  -- operators "10 to 15 give bool"
  pub comparison_gives : kind_at t i ≡ 3 → 10 ≤ a_at t i → type_at s f t n i ≡ 2
  unfolding type_at types_of operator_type
  comparison_gives e h = rw (e, le-ltb (a_at t i) 10 h)

  pub and_gives : kind_at t i ≡ 4 → type_at s f t n i ≡ 2
  unfolding type_at types_of
  and_gives e = rw e

  pub call_gives : kind_at t i ≡ 5 → type_at s f t n i ≡ result_of s (b_at t i)
  unfolding type_at types_of
  call_gives e = rw e

  pub nothing_type : kind_at t i ≡ 15 → type_at s f t n i ≡ 0
  unfolding type_at types_of
  nothing_type e = rw e
