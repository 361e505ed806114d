-- The place of a refusal by question 7 to 14, located: the node, or the function, that fails the question.
use Rattle.std.specs.Prelude.{None}
use mathlib.Core.Path.{◌≡◌}
use mathlib.Core.Bool.{Bool, false, not}
use mathlib.Core.List.{List}
use Prim.Native.Nat.{ℕ, ◌+◌, ◌-◌, ◌≤◌, ◌<◌}
use native.Mathlib.Omega.{arith}
use Rattle.records.specs.Fields.{functions, params_of, vars_of, count_of, kind_at}
use Rattle.varset.specs.Sets.{below}
use Rattle.records.specs.Parts.{start_of, part_of, Laid}
use Rattle.spec_language.specs.Statements.{statement_at}
use Rattle.spec_language.specs.Flow.{returns}
use Rattle.spec_language.specs.Nodes.{node_ok, size_ok, misplaced, outside, mistyped, answers}
use Rattle.spec_language.specs.Check.{refused, check_of}
use Rattle.spec_language.proofs.Facts.{sized_is}
use Rattle.spec_language.proofs.Accept.{Finds, all_pass, asked_none}
use Rattle.spec_language.proofs.Tiles.{Sizes}
use Rattle.spec_language.proofs.LowestRead.{lacking_inside}
use Rattle.spec_language.proofs.Refusals.{LowestRecord, refused_is}
use Rattle.spec_language.proofs.Verdicts.{Fails, LacksIn, Own, Some, unmet, place_7, place_8, place_9, place_10, place_11, place_12, place_13, place_14}
use Rattle.desk_places.specs.Located.{place_of}
use Rattle.desk_places.specs.declared.Place.TheVariants.{Function, Node}
use Rattle.desk_places.proofs.Records.{function_located, node_located}

-- record p is a node, and it fails
pub record NodeNamed (s : List ℕ) (P : ℕ → ℕ → Type 0) (p : ℕ) : Type 0 where
  pub function : ℕ
  pub node : ℕ
  pub fails : P function node
  pub located : place_of s p ≡ Node function node (kind_at (part_of s function) node)

-- record p is a function's, and it fails
pub record FunctionNamed (s : List ℕ) (R : ℕ → Type 0) (p : ℕ) : Type 0 where
  pub function : ℕ
  pub fails : R function
  pub located : place_of s p ≡ Function function

node_named : (s : List ℕ) (P : ℕ → ℕ → Type 0) (p : ℕ) → Laid s → ((f i : ℕ) → f < functions s → P f i → i < count_of s f) → LowestRecord s (start_of s) P p → NodeNamed s P p
node_named s P p g inside w =
    record { function = w.function; node = w.node; fails = w.fails; located = rw w.place (node_located s g w.function w.known w.node (inside w.function w.node w.known w.fails)) }

function_named : (s : List ℕ) (R : ℕ → Type 0) (p : ℕ) → Laid s → LowestRecord s (λ f. 1 + f) (Own R) p → FunctionNamed s R p
function_named s R p g w =
    let e : p ≡ 1 + w.function = omega (arith, w.place, w.fails.0) in
    record { function = w.function; fails = w.fails.1; located = rw e (function_located s g w.function w.known) }

-- a read without a value is a node of its function
pub reads_inside : (s : List ℕ) → Laid s → (f : ℕ) → f < functions s → Finds s f 8 ≡ None → (i : ℕ) → LacksIn s f i → i < count_of s f
unfolding answers
reads_inside s g f l e i w =
    let n = count_of s f in
    let body : n - 1 < n = omega (arith, g.some f l) in
    let sizes : Sizes (part_of s f) n = λ j k. sized_is (part_of s f) n j (all_pass (size_ok (part_of s f) n) n e j k) in
    omega (arith, (lacking_inside (part_of s f) n sizes (n - 1) body (below (params_of s f)) i w).1)

module _ (s : List ℕ) (p x : ℕ) where
  failing : (q : ℕ) (test : ℕ → ℕ → Bool) → 7 ≤ q → (check_of s ≡ refused q p x → LowestRecord s (start_of s) (Fails s test) p)
      → check_of s ≡ refused q p x → NodeNamed s (Fails s test) p
  failing q test l place e = node_named s (Fails s test) p (refused_is s q p x l e).laid (λ f i k w. w.0) (place e)

  pub names_7 : check_of s ≡ refused 7 p x → NodeNamed s (Fails s (λ f i. not (node_ok s f (part_of s f) i))) p
  names_7 = failing 7 _ (omega arith) (place_7 s p x)

  pub names_8 : check_of s ≡ refused 8 p x → NodeNamed s (Fails s (λ f i. not (size_ok (part_of s f) (count_of s f) i))) p
  names_8 = failing 8 _ (omega arith) (place_8 s p x)

  pub names_9 : check_of s ≡ refused 9 p x → NodeNamed s (Fails s (λ f i. misplaced (part_of s f) (count_of s f) i)) p
  names_9 = failing 9 _ (omega arith) (place_9 s p x)

  pub names_11 : check_of s ≡ refused 11 p x → NodeNamed s (Fails s (λ f i. outside s f (part_of s f) (count_of s f) i)) p
  names_11 = failing 11 _ (omega arith) (place_11 s p x)

  pub names_12 : check_of s ≡ refused 12 p x → NodeNamed s (Fails s (λ f i. mistyped s f (part_of s f) (count_of s f) i)) p
  names_12 = failing 12 _ (omega arith) (place_12 s p x)

  pub names_10 : check_of s ≡ refused 10 p x → FunctionNamed s (λ f. Some (unmet s p x f) (vars_of s f)) p
  names_10 e = function_named s _ p (refused_is s 10 p x (omega arith) e).laid (place_10 s p x e)

  pub names_13 : check_of s ≡ refused 13 p x → NodeNamed s (LacksIn s) p
  names_13 e =
      let r = refused_is s 13 p x (omega arith) e in
      node_named s (LacksIn s) p r.laid (λ f i l w. reads_inside s r.laid f l (asked_none s 8 (r.asks.2 8 (omega arith) (omega arith)) f l) i w) (place_13 s p x e)

  pub names_14 : check_of s ≡ refused 14 p x → FunctionNamed s (λ f. returns (statement_at (part_of s f) (count_of s f - 1)) ≡ false) p
  names_14 e = function_named s _ p (refused_is s 14 p x (omega arith) e).laid (place_14 s p x e)
