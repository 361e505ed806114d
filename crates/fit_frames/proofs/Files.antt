-- What an accepted file says of functions, variables and calls.
use mathlib.Core.Path.{◌≡◌}
use mathlib.Core.List.{List}
use Prim.Native.Nat.{ℕ, ◌+◌, ◌*◌, ◌≤◌, ◌<◌}
use native.Mathlib.Omega.{arith}
use lib.Dec.{ltb}
use lib.ListN.{length}
use borrow.Author.Tests.{lt-ltb}
use Rattle.records.specs.Fields.{functions, params_of, vars_of, mask_of, count_of}
use Rattle.records.specs.Parts.{part_of, Laid}
use Rattle.spec_language.specs.Check.{accepted, check_of}
use Rattle.spec_language.specs.Types as types
use Rattle.spec_language.proofs.Accept as accept
use Rattle.spec_machine.specs.Program.{fn, wants}
use Rattle.spec_machine.specs.File.{types_from, fun_of, program_of}
use Rattle.spec_machine.specs.Test.{has_var}
use Rattle.spec_machine.proofs.Operands.{types_length, types_same}
use Rattle.spec_machine.proofs.Nodes.{variables}
use Rattle.fit_nodes.specs.Part.{IsPart}

module _ (s : List ℕ) (e : check_of s ≡ accepted) where
  pub laid : Laid s
  laid = accept.parts s (accept.accepted_is s e)

  module _ (f : ℕ) (l : f < functions s) where
    -- the function's record lies in the file
    pub record_in_lem : 12 * (1 + f) + 12 ≤ length s
    record_in_lem = omega (arith, laid.heads)

    -- its variables
    pub has_var_lem : (x : ℕ) → has_var (program_of s) f x ≡ ltb x (vars_of s f)
    unfolding program_of
    has_var_lem x =
        rw (variables s (accept.accepted_is s e) f l, types_length (types.var_type s f (part_of s f) (count_of s f)) (vars_of s f) 0)
    -- what a call wants

pub call_wants : (s : List ℕ) (g : ℕ) → wants (program_of s) (fn g) ≡ types_from (types.mask_type (mask_of s g) 0 0) (params_of s g) 0
unfolding program_of fun_of types.var_type types.param_type
call_wants s g =
    types_same (types.var_type s g (part_of s g) (count_of s g)) (types.mask_type (mask_of s g) 0 0) (params_of s g) 0
    (λ k p q. let z : k < params_of s g = omega arith in rw (lt-ltb k (params_of s g) z))

-- the record of a function whose part is known
pub record_of_part : {s t : List ℕ} {f n : ℕ} → IsPart s f t n → 12 * (1 + f) + 12 ≤ length s
record_of_part p = record_in_lem _ p.passed _ p.known
