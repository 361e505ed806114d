-- Which field of a record is wrong.
use Rattle.std.specs.Prelude.{Bool, true, false, List, ℕ, ◌+◌, ◌*◌, ◌/◌, ◌^◌, eqb, leb, ltb, length}
use Rattle.varset.specs.Lowest.{pick}
use Rattle.records.specs.Bytes.{u16_at}
use Rattle.records.specs.Fields.{mark_at, result_of, params_of, vars_of, mask_of, count_of, kind_at}
use Rattle.spec_language.specs.Records.{within}
use Rattle.desk_faults.specs.declared.FunctionFault.{FunctionFault}
use Rattle.desk_faults.specs.declared.FunctionFault.TheVariants as ff
use Rattle.desk_faults.specs.declared.NodeFault.{NodeFault}
use Rattle.desk_faults.specs.declared.NodeFault.TheVariants as nf
use Rattle.records.specs.Format.{function_mark, node_mark, most_parameters, most_variables}

-- the first of seven tests that fails
unfoldable pub first_fault : Bool → Bool → Bool → Bool → Bool → Bool → Bool → FunctionFault
first_fault false b c d e g h = ff.Mark
first_fault true false c d e g h = ff.Result
first_fault true true false d e g h = ff.Parameters
first_fault true true true false e g h = ff.Variables
first_fault true true true true false g h = ff.Mask
first_fault true true true true true false h = ff.Zeros
first_fault true true true true true true false = ff.Count
first_fault true true true true true true true = ff.Right

-- question 4's tests of the record of function f, in their order
unfoldable pub function_fault : List ℕ → ℕ → FunctionFault
function_fault s f =
    pick (leb (length s / 12) (1 + f)) ff.Missing
    (first_fault (eqb (mark_at s (1 + f)) function_mark) (leb (result_of s f) 2) (leb (params_of s f) most_parameters) (within (params_of s f) most_variables (vars_of s f))
    (ltb (mask_of s f) (2 ^ params_of s f)) (eqb (u16_at s (12 * (1 + f) + 6)) 0) (leb 1 (count_of s f)))

-- question 7's tests of record k in their order: its mark, its kind, else its fields
unfoldable pub node_fault : List ℕ → ℕ → NodeFault
node_fault s k =
    pick (leb (length s / 12) k) nf.Missing
    (pick (eqb (mark_at s k) node_mark)
    (pick (ltb (kind_at s k) 16) nf.Fields nf.Kind)
    nf.Mark)
