-- One level of a node of any file: what it is by the node's kind, and how a statement's tree grows from it.
use mathlib.Core.Path.{◌≡◌, refl, sym, ap, ◌∙◌}
use mathlib.Core.Bool.{Bool, true, false}
use mathlib.Core.List.{List, [], ◌∷◌}
use Prim.Native.Nat.{ℕ, zero, suc, ◌-◌, ◌<◌}
use native.Mathlib.Omega.{arith}
use lib.Dec.{eqb}
use borrow.Author.Tests.{eqb-true, eqb-false}
use Rattle.varset.specs.Lowest.{pick}
use Rattle.records.specs.Fields.{kind_at, a_at, b_at}
use Rattle.records.specs.Children.{arities, arity_of, arity_at, walk, children}
use Rattle.spec_language.specs.Sorts.{is_expression}
use Rattle.spec_language.specs.KindLists.{is_statement}
use Rattle.spec_language.specs.Statements.{Shape, prior, last, shapes, shape_at, reads_of, Nop, statement_in, statement_at}
use Rattle.records.proofs.EntryTables.{entry_at}
use Rattle.spec_language.proofs.KindLists.{expression_past, statement_past}
use Rattle.spec_language.proofs.Trees.{statement_seq, statement_assign, statement_decl, statement_if, statement_while, statement_return, statement_assert, statement_expr, statement_rest, statement_nop}
use Rattle.spec_machine.specs.Values.{nothing, int, truth}
use Rattle.spec_machine.specs.Program.{op, fn, Ref, node, if_of, seq_of, ExprForm, const, apply, StmtForm, grow_f}
use Rattle.spec_machine.specs.File.{backwards, kids, and_form, looks, look_at, ref_at, form_of, form_at, if_form, seq_form, see_at, unrolled, looped, stmt_at}

module _ (t : List ℕ) (i : ℕ) where
  -- an operator and an && have two children
  pub two-kids : arity_at t i ≡ 2 → kids t i ≡ prior t (last i) ∷ (last i ∷ [])
  unfolding kids backwards children walk last prior
  two-kids e = rw e

  and_is : kind_at t i ≡ 4 → and_form (kids t i) ≡ ExprForm.and (prior t (last i)) (last i)
  unfolding and_form arity_at arity_of arities
  and_is e = rw (two-kids (rw e))

  -- a property of each kind's expression
  pub by_look : (P : ExprForm → Type 0)
      → (kind_at t i ≡ 0 → P (const (int (b_at t i))))
      → (kind_at t i ≡ 1 → P (const (truth (eqb (b_at t i) 1))))
      → (kind_at t i ≡ 2 → P (ExprForm.var (b_at t i)))
      → (kind_at t i ≡ 3 → P (apply (op (a_at t i)) (kids t i)))
      → (kind_at t i ≡ 4 → P (ExprForm.and (prior t (last i)) (last i)))
      → (kind_at t i ≡ 5 → P (apply (fn (b_at t i)) (kids t i)))
      → (kind_at t i ≡ 15 → P (const nothing))
      → (is_expression (kind_at t i) ≡ false → P ExprForm.stray)
      → P (look_at t i)
  unfolding look_at looks is_expression
  by_look P c b v o a f n z =
      entry_at (λ k l. kind_at t i ≡ k → P l) (looks t i) ExprForm.stray
      (c, (b, (v, (o, (λ q. rw (and_is q) (a q), (f, (s 6 refl, (s 7 refl, (s 8 refl, (s 9 refl, (s 10 refl, (s 11 refl, (s 12 refl, (s 13 refl, (s 14 refl, (n, tt))))))))))))))))
      (λ k l. s k (expression_past k l)) (kind_at t i) refl
    where
      s : (k : ℕ) → is_expression k ≡ false → kind_at t i ≡ k → P ExprForm.stray
      s k e q = z (rw q e)

  -- a property of each kind's statement; node 0 is a nop or no statement
  pub by_form : (P : StmtForm → Type 0)
      → (kind_at t i ≡ 6 → P StmtForm.nop)
      → (kind_at t i ≡ 7 → 0 < i → P (StmtForm.seq (ref_at t (prior t (last i))) (ref_at t (last i))))
      → (kind_at t i ≡ 8 → 0 < i → P (StmtForm.assign (b_at t i) (last i)))
      → (kind_at t i ≡ 9 → 0 < i → P (StmtForm.decl (b_at t i) (ref_at t (last i))))
      → (kind_at t i ≡ 10 → 0 < i → P (StmtForm.if (prior t (prior t (last i))) (ref_at t (prior t (last i))) (ref_at t (last i))))
      → (kind_at t i ≡ 11 → 0 < i → P (StmtForm.while i (prior t (last i)) (ref_at t (last i))))
      → (kind_at t i ≡ 12 → 0 < i → P (StmtForm.return (last i)))
      → (kind_at t i ≡ 13 → 0 < i → P (StmtForm.assert (last i)))
      → (kind_at t i ≡ 14 → 0 < i → P (StmtForm.expr (last i)))
      → ((kind_at t i ≡ 6 → ⊥) → (0 < i → is_statement (kind_at t i) ≡ false) → P StmtForm.stray)
      → P (form_at t i)
  by_form P n s a d f w r c e z = first i refl
    where
      none : (k : ℕ) → is_statement k ≡ false → (k ≡ 6 → ⊥) → kind_at t i ≡ k → P StmtForm.stray
      none k e o q = z (λ p. o (sym q ∙ p)) (λ p. rw q e)

      table : 0 < i → P (form_of t i (shape_at t i))
      table p =
          unfold form_of shape_at shapes in (entry_at (λ k x. kind_at t i ≡ k → P (form_of t i x)) (shapes t i) Shape.stray
          (none 0 refl (λ q. omega arith), (none 1 refl (λ q. omega arith), (none 2 refl (λ q. omega arith), (none 3 refl (λ q. omega arith), (none 4 refl (λ q. omega arith), (none 5 refl (λ q. omega arith), (n, (λ q. s q p, (λ q. a q p, (λ q. d q p, (λ q. f q p, (λ q. w q p, (λ q. r q p, (λ q. c q p, (λ q. e q p, (none 15 refl (λ q. omega arith), tt))))))))))))))))
          (λ k l. none k (statement_past k l) (λ q. omega arith)) (kind_at t i) refl)

      zeroth : i ≡ 0 → (b : Bool) → eqb (kind_at t i) 6 ≡ b → P (pick b StmtForm.nop StmtForm.stray)
      zeroth q true k = n (eqb-true _ _ k)
      zeroth q false k = z (eqb-false _ _ k) (λ p. absurd (omega arith))

      first : (j : ℕ) → i ≡ j → P (form_at t i)
      first zero q = unfold form_at in (rw q (rw q at (zeroth q (eqb (kind_at t i) 6) refl)))
      first (suc j) q = unfold form_at in (rw q (rw q at (table (omega arith))))

-- ---- trees
module _ (t : List ℕ) where
  -- a nop's node and the nop have one tree
  pub ref_tree : (c : ℕ) → stmt_at t (ref_at t c) ≡ statement_at t c
  unfolding stmt_at ref_at
  ref_tree c = go (eqb (kind_at t c) 6) refl
    where
      go : (b : Bool) → eqb (kind_at t c) 6 ≡ b → stmt_at t (pick b Ref.nop (node c)) ≡ statement_at t c
      go true e = sym (statement_nop t c (eqb-true _ _ e))
      go false e = refl

  stray_tree : (i : ℕ) → (0 < i → is_statement (kind_at t i) ≡ false) → statement_at t i ≡ Nop
  unfolding statement_at statement_in
  stray_tree zero h = refl
  stray_tree (suc i) h = statement_rest t (suc i) (h (omega arith))

  -- the tree at a node grows from its level
  node_tree : (i : ℕ) → statement_at t i ≡ grow_f (reads_of t) (stmt_at t) (form_at t i)
  node_tree i =
      by_form t i (λ s. statement_at t i ≡ grow_f (reads_of t) (stmt_at t) s)
      (statement_nop t i)
      (λ e p. rw (ref_tree (prior t (last i)), ref_tree (last i)) (statement_seq t i e p))
      (statement_assign t i)
      (λ e p. rw (ref_tree (last i)) (statement_decl t i e p))
      (λ e p. rw (ref_tree (prior t (last i)), ref_tree (last i)) (statement_if t i e p))
      (λ e p. rw (ref_tree (last i)) (statement_while t i e p))
      (statement_return t i)
      (statement_assert t i)
      (statement_expr t i)
      (λ k h. stray_tree i h)

  module _ (w : ℕ) where
    abbrev Grows : StmtForm → Type 0
    Grows s = statement_at t w ≡ grow_f (reads_of t) (stmt_at t) s

    if_tree : (s : StmtForm) → Grows s → unrolled (statement_at t w) ≡ grow_f (reads_of t) (stmt_at t) (if_form w s)
    unfolding unrolled looped if_form stmt_at
    if_tree (StmtForm.while v e a) q = rw q
    if_tree StmtForm.nop q = rw q
    if_tree (StmtForm.seq a b) q = rw q
    if_tree (StmtForm.assign x e) q = rw q
    if_tree (StmtForm.decl x a) q = rw q
    if_tree (StmtForm.if e a b) q = rw q
    if_tree (StmtForm.return e) q = rw q
    if_tree (StmtForm.assert e) q = rw q
    if_tree (StmtForm.expr e) q = rw q
    if_tree StmtForm.stray q = rw q

    seq_tree : (s : StmtForm) → Grows s → looped (statement_at t w) ≡ grow_f (reads_of t) (stmt_at t) (seq_form w s)
    unfolding looped seq_form stmt_at
    seq_tree (StmtForm.while v e a) q = rw q
    seq_tree StmtForm.nop q = rw q
    seq_tree (StmtForm.seq a b) q = rw q
    seq_tree (StmtForm.assign x e) q = rw q
    seq_tree (StmtForm.decl x a) q = rw q
    seq_tree (StmtForm.if e a b) q = rw q
    seq_tree (StmtForm.return e) q = rw q
    seq_tree (StmtForm.assert e) q = rw q
    seq_tree (StmtForm.expr e) q = rw q
    seq_tree StmtForm.stray q = rw q

  -- every tree grows from its level
  pub tree_grows : (r : Ref) → stmt_at t r ≡ grow_f (reads_of t) (stmt_at t) (see_at t r)
  unfolding stmt_at see_at
  tree_grows (node i) = node_tree i
  tree_grows Ref.nop = refl
  tree_grows (if_of w) = if_tree w (form_at t w) (node_tree w)
  tree_grows (seq_of w) = seq_tree w (form_at t w) (node_tree w)

-- ---- whiles

-- the node that a while names, and elsewhere the number given
abbrev named : ℕ → StmtForm → ℕ
named i (StmtForm.while w e a) = w
named i StmtForm.nop = i
named i (StmtForm.seq a b) = i
named i (StmtForm.assign x e) = i
named i (StmtForm.decl x a) = i
named i (StmtForm.if e a b) = i
named i (StmtForm.return e) = i
named i (StmtForm.assert e) = i
named i (StmtForm.expr e) = i
named i StmtForm.stray = i

-- a form is a while's, or there is no if and no seq of it
pub by_while : {C : Type 0} (w : ℕ) (x : StmtForm) → ((v e : ℕ) (a : Ref) → x ≡ StmtForm.while v e a → C) → (if_form w x ≡ StmtForm.stray → seq_form w x ≡ StmtForm.stray → C) → C
unfolding if_form seq_form
by_while w (StmtForm.while v e a) f g = f v e a refl
by_while w StmtForm.nop f g = g refl refl
by_while w (StmtForm.seq a b) f g = g refl refl
by_while w (StmtForm.assign x e) f g = g refl refl
by_while w (StmtForm.decl x a) f g = g refl refl
by_while w (StmtForm.if e a b) f g = g refl refl
by_while w (StmtForm.return e) f g = g refl refl
by_while w (StmtForm.assert e) f g = g refl refl
by_while w (StmtForm.expr e) f g = g refl refl
by_while w StmtForm.stray f g = g refl refl

-- an if's and a seq's form is no while's
if_named : (i w : ℕ) (s : StmtForm) → named i (if_form w s) ≡ i
unfolding if_form
if_named i w s = by_while w s (λ v e a q. rw q) (λ p q. rw p)

seq_named : (i w : ℕ) (s : StmtForm) → named i (seq_form w s) ≡ i
unfolding seq_form
seq_named i w s = by_while w s (λ v e a q. rw q) (λ p q. rw q)

module _ (t : List ℕ) (w e : ℕ) (a : Ref) where
  -- a while names its own node
  while_node : (i : ℕ) → form_at t i ≡ StmtForm.while w e a → i ≡ w
  while_node i q =
      sym (by_form t i (λ s. named i s ≡ i) (λ k. refl) (λ k p. refl) (λ k p. refl) (λ k p. refl) (λ k p. refl) (λ k p. refl) (λ k p. refl) (λ k p. refl) (λ k p. refl) (λ k h. refl))
      ∙ ap (named i) q

  no_while : (s : StmtForm) → named (suc w) s ≡ suc w → s ≡ StmtForm.while w e a → ⊥
  no_while s h q = let z : suc w ≡ w = sym h ∙ ap (named (suc w)) q in omega arith

  pub while_see : (r : Ref) → see_at t r ≡ StmtForm.while w e a
      → (r ≡ node w) × (see_at t (if_of w) ≡ StmtForm.if e (seq_of w) Ref.nop) × (see_at t (seq_of w) ≡ StmtForm.seq a (node w))
  unfolding see_at if_form seq_form
  while_see (node i) q =
      let z : i ≡ w = while_node i q in
      let q' : form_at t w ≡ StmtForm.while w e a = rw z at q in
      (ap node z, rw q', rw q')
  while_see Ref.nop q = absurd (no_while StmtForm.nop refl q)
  while_see (if_of v) q = absurd (no_while (if_form v (form_at t v)) (if_named (suc w) v (form_at t v)) q)
  while_see (seq_of v) q = absurd (no_while (seq_form v (form_at t v)) (seq_named (suc w) v (form_at t v)) q)
