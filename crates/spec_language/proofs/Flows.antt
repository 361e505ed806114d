-- Laws L1 to L4 of the flow, for sets of any width.
use Rattle.std.specs.Prelude.{Some, Option, None}
use mathlib.Core.Path.{◌≡◌, refl}
use mathlib.Core.Bool.{Bool, true, false, ◌&&◌, not}
use mathlib.Core.List.{List, [], ◌∷◌, Memᴰ}
use mathlib.Core.Logic.Iff
use mathlib.Core.Logic.{◌↔◌}
use Prim.Native.Nat.{ℕ}
use native.Mathlib.Omega.{arith}
use lib.Dec.{eqb}
use borrow.Author.Tests.{eqb-true, not-true}
use Rattle.varset.specs.Lowest.{pick}
use Rattle.varset.specs.Sets.{Set, none, with, without, both, either, less, Sub}
use Rattle.records.specs.Search.{At, or_else}
use Rattle.records.specs.declared.Found.{Found}
use Rattle.records.proofs.Bools.{both_mono, either_mono, and_left, and_right, and_both, or_false_left, or_false_right, or_more, by, or_cases, clash}
use Rattle.spec_language.specs.Statements.{Read, read, Statement, Nop, Seq, Assign, Decl, If, While, Return, Assert, Expr}
use Rattle.spec_language.specs.Flow.{declares, leaves, missing, lacks}

-- every variable read has a value
abbrev pub Reads : List Read → Set → Type 0
Reads rs d = missing rs d ≡ None

abbrev pub Ok : Statement → Set → Type 0
Ok s d = lacks s d ≡ None

-- a read of x at node n is one of rs
abbrev pub Listed : ℕ → ℕ → List Read → Type 0
Listed n x rs = Memᴰ (read n x) rs

-- ---- what Reads and Ok say of the parts

none_or : (a b : Option Found) → or_else a b ≡ None → (a ≡ None) × (b ≡ None)
unfolding or_else
none_or (Some found) b e = let z : ◌≡◌ {A = ℕ} 0 1 = cc in absurd (omega arith)
none_or None b e = (refl, e)

or-none : (a b : Option Found) → (a ≡ None) × (b ≡ None) → or_else a b ≡ None
unfolding or_else
or-none a b e = rw (e.0, e.1)

none_three : (a b c : Option Found) → or_else a (or_else b c) ≡ None → (a ≡ None) × (b ≡ None) × (c ≡ None)
none_three a b c e =
    let p = none_or a (or_else b c) e in
    let q = none_or b c p.1 in
    (p.0, q.0, q.1)

none_pick : (b : Bool) (a : Option Found) (n : ℕ) → pick b a (At n 0) ≡ None → (b ≡ true) × (a ≡ None)
none_pick true a n e = (refl, e)
none_pick false a n e = let z : ◌≡◌ {A = ℕ} 0 1 = cc in absurd (omega arith)

pub reads_none : (d : Set) → Reads [] d
unfolding missing
reads_none d = refl

pub reads_more : (n x : ℕ) (rs : List Read) (d : Set) → Reads (read n x ∷ rs) d ↔ ((d x ≡ true) × Reads rs d)
unfolding missing
reads_more n x rs d = (none_pick (d x) (missing rs d) n, λ e. rw e.0 e.1)

-- the variable of each read listed is in d
pub reads_listed : (n x : ℕ) (rs : List Read) (d : Set) → Reads rs d → Listed n x rs → d x ≡ true
reads_listed n x rs d r (Memᴰ.head {x = read m y} {xs = rs'} e) = let q : x ≡ y = cc in rw q ((reads_more m y rs' d).0 r).0
reads_listed n x rs d r (Memᴰ.tail {x = read m y} {xs = rs'} l) = reads_listed n x rs' d ((reads_more m y rs' d).0 r).1 l

pub listed_reads : (rs : List Read) (d : Set) → ((n x : ℕ) → Listed n x rs → d x ≡ true) → Reads rs d
listed_reads [] d h = reads_none d
listed_reads (read n x ∷ rs) d h = (reads_more n x rs d).1 (h n x (Memᴰ.head refl), listed_reads rs d (λ m y l. h m y (Memᴰ.tail l)))

-- each member of d in u is one of d'
abbrev pub SubIn : Set → Set → Set → Type 0
SubIn u d d' = (x : ℕ) → u x ≡ true → d x ≡ true → d' x ≡ true

pub reads_in : (e : List Read) (u d d' : Set) → SubIn u d d' → Reads e u → Reads e d → Reads e d'
reads_in e u d d' h k r = listed_reads e d' (λ n x l. h x (reads_listed n x e u k l) (reads_listed n x e d r l))

pub reads_mono : (e : List Read) (d d' : Set) → Sub d d' → Reads e d → Reads e d'
reads_mono e d d' h r = reads_in e d d d' (λ x p q. h x q) r r

module _ (d : Set) where
  pub ok_nop : Ok Nop d
  unfolding lacks
  ok_nop = refl

  pub ok_seq : (s t : Statement) → Ok (Seq s t) d ↔ (Ok s d × Ok t (leaves s d))
  unfolding lacks
  ok_seq s t = (none_or (lacks s d) (lacks t (leaves s d)), or-none (lacks s d) (lacks t (leaves s d)))

  pub ok_assign : (x : ℕ) (e : List Read) → Ok (Assign x e) d ↔ Reads e d
  unfolding lacks
  ok_assign x e = Iff.rfl

  pub ok_decl : (x : ℕ) (s : Statement) → Ok (Decl x s) d ↔ Ok s (without d x)
  unfolding lacks
  ok_decl x s = Iff.rfl

  pub ok_if : (e : List Read) (s t : Statement) → Ok (If e s t) d ↔ (Reads e d × Ok s d × Ok t d)
  unfolding lacks
  ok_if e s t =
      (none_three (missing e d) (lacks s d) (lacks t d), λ h. or-none (missing e d) _ (h.0, or-none (lacks s d) (lacks t d) (h.1, h.2)))

  pub ok_while : (e : List Read) (s : Statement) → Ok (While e s) d ↔ (Reads e d × Ok s d)
  unfolding lacks
  ok_while e s = (none_or (missing e d) (lacks s d), or-none (missing e d) (lacks s d))

  pub ok_return : (e : List Read) → Ok (Return e) d ↔ Reads e d
  unfolding lacks
  ok_return e = Iff.rfl

  pub ok_assert : (e : List Read) → Ok (Assert e) d ↔ Reads e d
  unfolding lacks
  ok_assert e = Iff.rfl

  pub ok_expr : (e : List Read) → Ok (Expr e) d ↔ Reads e d
  unfolding lacks
  ok_expr e = Iff.rfl

-- ---- L1: more variables with a value do no harm

-- of what is left, variable by variable
pub leaves_at : (s : Statement) (d d' : Set) (x : ℕ) → (d x ≡ true → d' x ≡ true) → leaves s d x ≡ true → leaves s d' x ≡ true
unfolding leaves with without both either less
leaves_at Nop d d' x h e = h e
leaves_at (Seq s t) d d' x h e = leaves_at t (leaves s d) (leaves s d') x (leaves_at s d d' x h) e
leaves_at (Assign y f) d d' x h e = either_mono (d x) (d' x) _ _ h (λ k. k) e
leaves_at (Decl y s) d d' x h e = both_mono _ _ _ _ (leaves_at s (without d y) (without d' y) x (both_mono _ _ _ _ h (λ k. k))) (λ k. k) e
leaves_at (If f s t) d d' x h e = both_mono _ _ _ _ (leaves_at s d d' x h) (leaves_at t d d' x h) e
leaves_at (While f s) d d' x h e = both_mono _ _ _ _ h (λ k. k) e
leaves_at (Return f) d d' x h e = either_mono (d x) (d' x) _ _ h (λ k. k) e
leaves_at (Assert f) d d' x h e = h e
leaves_at (Expr f) d d' x h e = h e

pub leaves_mono : (s : Statement) (d d' : Set) → Sub d d' → Sub (leaves s d) (leaves s d')
leaves_mono s d d' h x = leaves_at s d d' x (h x)

without_mono : (d d' : Set) (x : ℕ) → Sub d d' → Sub (without d x) (without d' x)
unfolding without
without_mono d d' x h y e = both_mono _ _ _ _ (h y) (λ k. k) e

-- of what is read
pub ok_mono : (s : Statement) (d d' : Set) → Sub d d' → Ok s d → Ok s d'
ok_mono Nop d d' h o = ok_nop d'
ok_mono (Seq s t) d d' h o =
    let p = (ok_seq d s t).0 o in
    (ok_seq d' s t).1 (ok_mono s d d' h p.0, ok_mono t (leaves s d) (leaves s d') (leaves_mono s d d' h) p.1)
ok_mono (Assign x e) d d' h o = (ok_assign d' x e).1 (reads_mono e d d' h ((ok_assign d x e).0 o))
ok_mono (Decl x s) d d' h o = (ok_decl d' x s).1 (ok_mono s (without d x) (without d' x) (without_mono d d' x h) ((ok_decl d x s).0 o))
ok_mono (If e s t) d d' h o =
    let p = (ok_if d e s t).0 o in
    (ok_if d' e s t).1 (reads_mono e d d' h p.0, ok_mono s d d' h p.1, ok_mono t d d' h p.2)
ok_mono (While e s) d d' h o =
    let p = (ok_while d e s).0 o in
    (ok_while d' e s).1 (reads_mono e d d' h p.0, ok_mono s d d' h p.1)
ok_mono (Return e) d d' h o = (ok_return d' e).1 (reads_mono e d d' h ((ok_return d e).0 o))
ok_mono (Assert e) d d' h o = (ok_assert d' e).1 (reads_mono e d d' h ((ok_assert d e).0 o))
ok_mono (Expr e) d d' h o = (ok_expr d' e).1 (reads_mono e d d' h ((ok_expr d e).0 o))

-- ---- L2: what had a value and is not declared within keeps it

pub keeps : (s : Statement) (d : Set) (x : ℕ) → d x ≡ true → declares s x ≡ false → leaves s d x ≡ true
unfolding leaves declares with without both either less
keeps Nop d x e n = e
keeps (Seq s t) d x e n = keeps t (leaves s d) x (keeps s d x e (or_false_left (declares s x) _ n)) (or_false_right (declares s x) _ n)
keeps (Assign y f) d x e n = or_more _ _ e
keeps (Decl y s) d x e n =
    let q : not (eqb x y) ≡ true = rw (or_false_right (declares s x) _ n) in
    and_both _ _ (keeps s (without d y) x (and_both _ _ e q) (or_false_left (declares s x) _ n)) q
keeps (If f s t) d x e n = and_both _ _ (keeps s d x e (or_false_left (declares s x) _ n)) (keeps t d x e (or_false_right (declares s x) _ n))
keeps (While f s) d x e n = and_both _ _ e (rw n)
keeps (Return f) d x e n = or_more _ _ e
keeps (Assert f) d x e n = e
keeps (Expr f) d x e n = e

-- ---- L3: a statement in the scope u looks at the variables of u alone

-- reads and assigns only in u, and declares only what is not in scope
abbrev pub Scope : Set → Statement → Type 0
Scope u Nop = Unit {0}
Scope u (Seq s t) = Scope u s × Scope u t
Scope u (Assign x e) = Reads e u × (u x ≡ true)
Scope u (Decl x s) = (u x ≡ false) × Scope (with u x) s
Scope u (If e s t) = Reads e u × Scope u s × Scope u t
Scope u (While e s) = Reads e u × Scope u s
Scope u (Return e) = Reads e u
Scope u (Assert e) = Reads e u
Scope u (Expr e) = Reads e u

pub inner_in : (u d d' : Set) (x : ℕ) → SubIn u d d' → SubIn (with u x) (without d x) (without d' x)
unfolding with without
inner_in u d d' x h y i e =
    or_cases (u y) (eqb y x) i (λ p. both_mono _ _ _ _ (h y p) (λ q. q) e) (λ p. clash (eqb y x) p (not-true _ (and_right (d y) _ e)))

pub ok_in : (s : Statement) (u d d' : Set) → SubIn u d d' → Scope u s → Ok s d → Ok s d'
ok_in Nop u d d' h k o = ok_nop d'
ok_in (Seq s t) u d d' h k o =
    let p = (ok_seq d s t).0 o in
    (ok_seq d' s t).1 (ok_in s u d d' h k.0 p.0, ok_in t u (leaves s d) (leaves s d') (λ x i. leaves_at s d d' x (h x i)) k.1 p.1)
ok_in (Assign x e) u d d' h k o = (ok_assign d' x e).1 (reads_in e u d d' h k.0 ((ok_assign d x e).0 o))
ok_in (Decl x s) u d d' h k o =
    (ok_decl d' x s).1 (ok_in s (with u x) (without d x) (without d' x) (inner_in u d d' x h) k.1 ((ok_decl d x s).0 o))
ok_in (If e s t) u d d' h k o =
    let p = (ok_if d e s t).0 o in
    (ok_if d' e s t).1 (reads_in e u d d' h k.0 p.0, ok_in s u d d' h k.1 p.1, ok_in t u d d' h k.2 p.2)
ok_in (While e s) u d d' h k o =
    let p = (ok_while d e s).0 o in
    (ok_while d' e s).1 (reads_in e u d d' h k.0 p.0, ok_in s u d d' h k.1 p.1)
ok_in (Return e) u d d' h k o = (ok_return d' e).1 (reads_in e u d d' h k ((ok_return d e).0 o))
ok_in (Assert e) u d d' h k o = (ok_assert d' e).1 (reads_in e u d d' h k ((ok_assert d e).0 o))
ok_in (Expr e) u d d' h k o = (ok_expr d' e).1 (reads_in e u d d' h k ((ok_expr d e).0 o))

-- what is declared within is not in scope outside
pub fresh : (s : Statement) (u : Set) (x : ℕ) → Scope u s → declares s x ≡ true → u x ≡ false
unfolding declares none with either
fresh Nop u x k e = clash false e refl
fresh (Seq s t) u x k e = or_cases (declares s x) _ e (fresh s u x k.0) (fresh t u x k.1)
fresh (Assign y f) u x k e = clash false e refl
fresh (Decl y s) u x k e =
    or_cases (declares s x) (eqb x y) e (λ p. or_false_left (u x) _ (fresh s (with u y) x k.1 p)) (λ p. rw (eqb-true x y p) k.0)
fresh (If f s t) u x k e = or_cases (declares s x) _ e (fresh s u x k.1) (fresh t u x k.2)
fresh (While f s) u x k e = fresh s u x k.1 e
fresh (Return f) u x k e = clash false e refl
fresh (Assert f) u x k e = clash false e refl
fresh (Expr f) u x k e = clash false e refl

-- of the variables in scope, those not declared within are all
less_in : (s : Statement) (u d : Set) → Scope u s → SubIn u d (less d (declares s))
unfolding less
less_in s u d k x i e = and_both _ _ e (by (declares s x) (λ p. clash (u x) i (fresh s u x k p)) (λ p. rw p))

pub ok_less : (s : Statement) (u d : Set) → Scope u s → Ok s d ↔ Ok s (less d (declares s))
unfolding less
ok_less s u d k = (ok_in s u d (less d (declares s)) (less_in s u d k) k, ok_mono s (less d (declares s)) d (λ x e. and_left (d x) _ e))

-- the condition of a while reads nothing that is declared in its body
pub condition_less : (e : List Read) (s : Statement) (u d : Set) → Scope u (While e s) → Reads e d ↔ Reads e (less d (declares s))
unfolding less
condition_less e s u d k =
    (reads_in e u d (less d (declares s)) (less_in s u d k.1) k.0, reads_mono e (less d (declares s)) d (λ x h. and_left (d x) _ h))

-- what is in scope and had a value keeps it
pub kept_in : (s : Statement) (u d : Set) → Scope u s → SubIn u d (leaves s d)
kept_in s u d k x i e = by (declares s x) (λ p. clash (u x) i (fresh s u x k p)) (λ p. keeps s d x e p)

-- ---- L4: a while may be taken for the if that it equals

abbrev pub Unrolled : List Read → Statement → Statement
Unrolled e s = If e (Seq s (While e s)) Nop

module _ (e : List Read) (s : Statement) (d : Set) where
  pub while_ok : (u : Set) → Scope u (While e s) → Ok (While e s) d → Ok (Unrolled e s) d
  while_ok u k o =
      let p = (ok_while d e s).0 o in
      let h = kept_in s u d k.1 in
      let again = (ok_while (leaves s d) e s).1 (reads_in e u d (leaves s d) h k.0 p.0, ok_in s u d (leaves s d) h k.1 p.1) in
      (ok_if d e (Seq s (While e s)) Nop).1 (p.0, (ok_seq d s (While e s)).1 (p.1, again), ok_nop d)

  pub while_back : Ok (Unrolled e s) d → Ok (While e s) d
  while_back o =
      let p = (ok_if d e (Seq s (While e s)) Nop).0 o in
      (ok_while d e s).1 (p.0, ((ok_seq d s (While e s)).0 p.1).0)

  pub while_leaves : Sub (leaves (While e s) d) (leaves (Unrolled e s) d)
  unfolding leaves both less
  while_leaves x h =
      let n = not-true _ (and_right (d x) _ h) in
      let p = and_left (d x) _ h in
      and_both _ _ (and_both _ _ (keeps s d x p n) (rw n)) p

  pub while_same : Sub (leaves (Unrolled e s) d) (leaves (While e s) d)
  unfolding leaves both less
  while_same x h = and_both _ _ (and_right (leaves s d x && not (declares s x)) _ h) (and_right (leaves s d x) _ (and_left (leaves s d x && not (declares s x)) _ h))
