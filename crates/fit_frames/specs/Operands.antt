-- The operands that a frame gathers, tested one by one.
use Rattle.std.specs.Prelude.{Bool, true, ◌&&◌, List, [], ◌∷◌, ◌++◌, map, ℕ, suc, eqb}
use Rattle.varset.specs.Sets.{Set}
use Rattle.spec_machine.specs.Values.{Ty, Value, type_v}
use Rattle.spec_machine.specs.Program.{Program, type_n}
use Rattle.spec_machine.specs.File.{types_from}
use Rattle.spec_machine.specs.Test.{are_ty, reads, expr_in, exprs_in, reads_nodes}

-- the values from operand k on have the types wanted
abbrev pub values_suit : (ℕ → Ty) → ℕ → List Value → Bool
values_suit want k [] = true
values_suit want k (v ∷ vs) = eqb (want k) (type_v v) && values_suit want (suc k) vs

-- a node is an expression of the type wanted, and reads variables of the set alone
abbrev pub node_suits : Program → ℕ → Set → Ty → ℕ → Bool
node_suits P f d t n = expr_in P f n && (eqb t (type_n P f n) && reads P f n d)

-- the nodes from operand k on are
abbrev pub nodes_suit : Program → ℕ → Set → (ℕ → Ty) → ℕ → List ℕ → Bool
nodes_suit P f d want k [] = true
nodes_suit P f d want k (n ∷ ns) = node_suits P f d (want k) n && nodes_suit P f d want (suc k) ns

-- c operands are wanted; the values, one of type t and the nodes are those
unfoldable pub gathered : Program → ℕ → Set → (ℕ → Ty) → ℕ → Ty → List Value → List ℕ → Bool
gathered P f d want c t vs ns =
    are_ty (types_from want c 0) (map type_v vs ++ (t ∷ map (type_n P f) ns)) && (exprs_in P f ns && reads_nodes P f ns d)
