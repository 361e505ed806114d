-- What the pass over a part shows of a node, and what it needs to go on.
use Rattle.std.specs.Prelude.{◌≡◌, true, false, List, [], ◌∷◌, ◌⊎◌, ℕ, ◌+◌, ◌*◌, ◌≤◌, ◌<◌, ltb, length, get_or}
use Rattle.std.specs.Coded.{×_prop, Unit-prop}
use Rattle.std.proofs.Props.{props}
use Rattle.varset.specs.Sets.{Set, has}
use Rattle.records.specs.Fields.{functions, kind_at, a_at, b_at, size_at}
use Rattle.records.specs.Parts.{Laid}
use Rattle.records.specs.Children.{arity_at, children}
use Rattle.spec_language.specs.Sorts.{is_expression, wants_expression, wrong_sort}
use Rattle.spec_language.specs.KindLists.{is_statement}
use Rattle.spec_language.specs.Statements.{reads_of, statement_at}
use Rattle.spec_language.specs.Types.{type_at, want_at, suits}
use Rattle.spec_language.specs.Nodes.{total, outside}
use Rattle.spec_language.specs.Known.{CallsKnown}
use Rattle.check_scopes.specs.Counts.{Named, Decls}
use Rattle.check_effects.specs.declared.Effect.{Effect}
use Rattle.check_effects.specs.Effects.{statement_code, return_code, Covers, Means}

-- child k of node i is of the sort and of the type that the node wants
pub record Kid (s : List ℕ) (f : ℕ) (t : List ℕ) (n i k c : ℕ) : Type 0 where
  pub sort : wrong_sort (kind_at t i) k (kind_at t c) ≡ false
  pub type : suits (want_at s f t n i k) (type_at s f t n c) ≡ true

-- so are these children, the last first
abbrev pub Kids : List ℕ → ℕ → List ℕ → ℕ → ℕ → List ℕ → Type 0
Kids s f t n i [] = Unit {0}
Kids s f t n i (c ∷ cs) = Kid s f t n i (length cs) c × Kids s f t n i cs

-- there is one proof of it at most, as a ghost field wants
pub kids_prop : (s : List ℕ) (f : ℕ) (t : List ℕ) (n i : ℕ) (cs : List ℕ) → IsProp (Kids s f t n i cs)
kids_prop s f t n i [] = Unit-prop
kids_prop s f t n i (c ∷ cs) = ×_prop (hlevel props) (kids_prop s f t n i cs)

pub ruleset one_proof = (kids_prop, props)

-- node i passes; its code is an expression's type or a statement's code, and an expression reads no other variables than its effect
pub record Judged (s : List ℕ) (f : ℕ) (t : List ℕ) (n : ℕ) (d : Set) (i : ℕ) (e : Effect) : Type 0 where
  pub size : size_at t i ≡ 1 + total (size_at t) (children t i)
  pub inside : total (size_at t) (children t i) ≤ i
  pub kids : Kids s f t n i (children t i)
  pub scoped : outside s f t n i ≡ false
  pub sort : is_expression (kind_at t i) ≡ ltb e.code statement_code
  pub type : e.code < statement_code → type_at s f t n i ≡ e.code
  pub covers : e.code < statement_code → Covers (reads_of t i) (has e.reads.0)
  pub means : Means (statement_at t i) d e

-- the effect of node k in the working arrays
abbrev pub effect_in : List ℕ → List ℕ → List ℕ → ℕ → Effect
effect_in codes reads sets k = record { code = get_or codes k 0; reads = record { 0 = get_or reads k 0 }; sets = record { 0 = get_or sets k 0 } }

-- what the working arrays say of the first i nodes of a part
pub record Filled (s : List ℕ) (f : ℕ) (t : List ℕ) (n : ℕ) (d : Set) (i : ℕ) (codes reads sets : List ℕ) : Type 0 where
  pub at : (k : ℕ) → k < i → Judged s f t n d k (effect_in codes reads sets k)

-- what is known of a part before the pass
pub record PartFacts (s : List ℕ) (f : ℕ) (t : List ℕ) (n : ℕ) (decls : List ℕ) : Type 0 where
  pub laid : Laid s
  pub function : f < functions s
  pub inside : 12 * n ≤ length t
  pub named : Named t n
  pub arguments : (k : ℕ) → k < n → kind_at t k ≡ 5 → a_at t k ≤ 8
  pub calls : CallsKnown (functions s) t n
  pub told : Decls t n decls

-- the variable of node i is one of the declared, where the node is a decl with a statement under it
abbrev pub Own : List ℕ → Set → ℕ → Type 0
Own t d i = kind_at t i ≡ 9 → (size_at t i ≡ 1 → ⊥) → d (b_at t i) ≡ true

-- what is known where the pass comes to node i
pub record AtNode (s : List ℕ) (f : ℕ) (t : List ℕ) (n : ℕ) (decls codes reads sets : List ℕ) (d : Set) (i : ℕ) : Type 0 where
  pub part : PartFacts s f t n decls
  pub below : i < n
  pub code_room : n ≤ length codes
  pub read_room : n ≤ length reads
  pub set_room : n ≤ length sets
  pub filled : Filled s f t n d i codes reads sets
  pub own : Own t d i

-- node i, which is no variable, has no children, and its code is `code`
pub record Leaf (s : List ℕ) (f : ℕ) (t : List ℕ) (n i code : ℕ) : Type 0 where
  pub arity : arity_at t i ≡ 0
  pub plain : is_statement (kind_at t i) ≡ false
  pub other : kind_at t i ≡ 2 → ⊥
  pub scoped : outside s f t n i ≡ false
  pub sort : is_expression (kind_at t i) ≡ ltb code statement_code
  pub type : code < statement_code → type_at s f t n i ≡ code
  pub small : code < return_code

-- node i has two operands of the type `want`, and its own type is `code`
pub record Operator (s : List ℕ) (f : ℕ) (t : List ℕ) (n i want code : ℕ) : Type 0 where
  pub arity : arity_at t i ≡ 2
  pub plain : is_statement (kind_at t i) ≡ false
  pub other : kind_at t i ≡ 2 → ⊥
  pub scoped : outside s f t n i ≡ false
  pub sort : is_expression (kind_at t i) ≡ true
  pub type : type_at s f t n i ≡ code
  pub small : code < statement_code
  pub wanted : want < statement_code
  pub sorts : (k : ℕ) → wants_expression (kind_at t i) k ≡ true
  pub types : (k : ℕ) → want_at s f t n i k ≡ want

-- node i is a return, an assert or an expression as statement, of an expression of the type `want`
pub record Single (s : List ℕ) (f : ℕ) (t : List ℕ) (n i want code : ℕ) : Type 0 where
  pub kind : ((kind_at t i ≡ 12) × (code ≡ return_code)) ⊎ (((kind_at t i ≡ 13) ⊎ (kind_at t i ≡ 14)) × (code ≡ statement_code))
  pub arity : arity_at t i ≡ 1
  pub scoped : outside s f t n i ≡ false
  pub sort : is_expression (kind_at t i) ≡ false
  pub sorts : wants_expression (kind_at t i) 0 ≡ true
  pub types : want_at s f t n i 0 ≡ want
