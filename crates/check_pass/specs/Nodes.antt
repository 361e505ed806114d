-- What the pass asks of a node and shows of it.
use Rattle.std.specs.Prelude.{◌≡◌, true, ℕ, ◌<◌}
use Rattle.varset.specs.Sets.{has}
use Rattle.records.specs.Fields.{kind_at}
use Rattle.spec_language.specs.Scopes.{uses_variable}
use Rattle.spec_language.specs.Types.{unset}
use Rattle.check_effects.specs.declared.Effect.{Effect}
use Rattle.check_pass.specs.declared.nodes.Node.{Node}
use Rattle.check_pass.specs.Judged.{Judged, Leaf, Operator, Single}

-- the node's kind
abbrev pub Is : Node → ℕ → Type 0
Is node kind = kind_at node.part.now node.index ≡ kind

-- node k of the part passes with that effect
abbrev pub JudgedAt : Node → ℕ → Effect → Type 0
JudgedAt node k e = Judged node.file.now node.function node.part.now node.count (has node.seen.0) k e

-- so does the node itself, unless the effect says that it is not known to
abbrev pub Passes : Node → Effect → Type 0
Passes node e = e.code < unset → JudgedAt node node.index e

-- the node is a leaf of that code
abbrev pub IsLeaf : Node → ℕ → Type 0
IsLeaf node code = Leaf node.file.now node.function node.part.now node.count node.index code

-- the node is an operator of that code over operands of the type `want`
abbrev pub IsOperator : Node → ℕ → ℕ → Type 0
IsOperator node want code = Operator node.file.now node.function node.part.now node.count node.index want code

-- the node is a statement of that code, of one expression of the type `want`
abbrev pub IsSingle : Node → ℕ → ℕ → Type 0
IsSingle node want code = Single node.file.now node.function node.part.now node.count node.index want code

-- the node uses or assigns a variable
abbrev pub Uses : Node → Type 0
Uses node = uses_variable (kind_at node.part.now node.index) ≡ true
