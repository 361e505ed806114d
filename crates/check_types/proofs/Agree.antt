-- Children taken from the last to the first, and types read from an array.
use mathlib.Core.Path.{◌≡◌, refl, sym, ap, ◌∙◌}
use mathlib.Core.Bool.{Bool, true, false, not, ◌&&◌}
use mathlib.Core.List.{List, [], ◌∷◌}
use Prim.Native.Nat.{ℕ, zero, suc, ◌+◌, ◌-◌, ◌≤◌, ◌<◌}
use native.Mathlib.Omega.{arith}
use lib.ListN.{get_or, set, length}
use lib.Seq.{get_or-set_same, get_or-set_other}
use borrow.Author.Tests.{not-true, not-false}
use borrow.Author.Count.{below_more}
use Rattle.records.proofs.Children.{length-walk, Nodes, Came, nodes_all, nodes_step, nodes_end}
use Rattle.records.specs.Fields.{size_at}
use Rattle.records.specs.Children.{arity_at, walk, children}
use Rattle.records.specs.Numbered.{left_of}
use Rattle.spec_language.specs.Types.{type_at, want_at, suits, agree}
use Rattle.spec_language.specs.Nodes.{mistyped}
use Rattle.spec_language.specs.Known.{Known}
use Rattle.check_types.specs.Types.{NodesTyped}

-- whether the children agree is whether those that are left do; there are at most m
pub record Agrees (want type : ℕ → ℕ) (n m : ℕ) (whole : Bool) (left : List (ℕ × ℕ)) : Type 0 where
  pub nodes : List ℕ
  pub are : Nodes n left nodes
  pub few : length nodes ≤ m
  pub equal : agree want type nodes ≡ whole

pub agree_all : (want type : ℕ → ℕ) (t : List ℕ) (n i : ℕ) {left : List (ℕ × ℕ)} → i < n → left ≡ left_of t (arity_at t i) (i - 1) → Agrees want type n (arity_at t i) (agree want type (children t i)) left
unfolding children
agree_all want type t n i h e =
    let l = length-walk (size_at t) (arity_at t i) (i - 1) in
    record { nodes = walk (size_at t) (arity_at t i) (i - 1); are = rw e (nodes_all t n (arity_at t i) (i - 1) (omega arith)); few = omega arith; equal = refl }

-- the next child c, with its number k
module _ {want type : ℕ → ℕ} {n m : ℕ} {whole : Bool} {left more : List (ℕ × ℕ)} {k c : ℕ} (w : Agrees want type n m whole left) (e : left ≡ (k, c) ∷ more) where
  came : Came n k c more w.nodes
  came = nodes_step w.nodes w.are e

  pub agree_inside : (k < m) × (c < n)
  agree_inside =
      let few = rw came.first at w.few in
      (omega (arith, came.number), came.below)

  agree_first : suits (want k) (type c) && agree want type came.rest ≡ whole
  unfolding agree
  agree_first = go w.nodes came.rest came.first came.number w.equal
    where
      go : (nodes rest : List ℕ) → nodes ≡ c ∷ rest → k ≡ length rest → agree want type nodes ≡ whole → suits (want k) (type c) && agree want type rest ≡ whole
      go nodes rest f q h = rw q (rw f at h)

  -- it is not suited
  pub agree_not : (r : Bool) (x : ℕ) → x ≡ want k → r ≡ suits x (type c) → not r ≡ true → false ≡ whole
  agree_not r x a q h = rw (← a, ← q, not-true r h) at agree_first

  -- it is
  pub agree_more : (r : Bool) (x : ℕ) → x ≡ want k → r ≡ suits x (type c) → not r ≡ false → Agrees want type n m whole more
  agree_more r x a q h =
      let few = rw came.first at w.few in
      record { nodes = came.rest; are = came.are; few = omega arith; equal = rw (← a, ← q, not-false r h) at agree_first }

-- none is left
pub agree_end : {want type : ℕ → ℕ} {n m : ℕ} {whole : Bool} {left : List (ℕ × ℕ)} (w : Agrees want type n m whole left) → left ≡ [] → true ≡ whole
unfolding agree
agree_end w e = rw (nodes_end w.nodes w.are e) at w.equal

-- two readings that agree below i
agree_same : (want type other size : ℕ → ℕ) (i : ℕ) → ((k : ℕ) → k < i → type k ≡ other k) → (m last : ℕ) → last < i
    → agree want type (walk size m last) ≡ agree want other (walk size m last)
unfolding agree walk
agree_same want type other size i same zero last l = refl
agree_same want type other size i same (suc m) last l =
    rw (same last l, agree_same want type other size i same m (last - size last) (omega arith))

-- the test of a node by the types of the nodes below it
pub mistyped_is : (s : List ℕ) (f : ℕ) (t : List ℕ) (n i : ℕ) (types : List ℕ) (r b : Bool) → Known t n → i < n → NodesTyped s f t n i types
    → r ≡ agree (want_at s f t n i) (λ k. get_or types k 0) (children t i) → not r ≡ b → mistyped s f t n i ≡ b
unfolding mistyped children
mistyped_is s f t n i types r b h l known e q = sym (ap not (e ∙ go (arity_at t i) refl)) ∙ q
  where
    go : (m : ℕ) → arity_at t i ≡ m
        → agree (want_at s f t n i) (λ k. get_or types k 0) (walk (size_at t) m (i - 1)) ≡ agree (want_at s f t n i) (type_at s f t n) (walk (size_at t) m (i - 1))
    go zero e = unfold walk agree in refl
    go (suc m) e =
        let p : 0 < i = h.child i l (rw e (omega arith)) in
        agree_same (want_at s f t n i) (λ k. get_or types k 0) (type_at s f t n) (size_at t) i known (suc m) (i - 1) (omega arith)

pub typed_more : (s : List ℕ) (f : ℕ) (t : List ℕ) (n i : ℕ) (types : List ℕ) (v : ℕ) → NodesTyped s f t n i types → i < length types → v ≡ type_at s f t n i
    → NodesTyped s f t n (i + 1) (set types i v)
typed_more s f t n i types v h l e = below_more _ i (λ k p. get_or-set_other types i k v 0 (omega arith) ∙ h k p) (get_or-set_same types i v 0 l ∙ e)
