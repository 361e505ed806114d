-- The type of a variable, and what the callees ask.
use mathlib.Core.Path.{◌≡◌}
use mathlib.Core.Bool.{true}
use mathlib.Core.List.{List}
use Prim.Native.Nat.{ℕ, ◌+◌, ◌*◌, ◌≤◌, ◌<◌}
use native.Mathlib.Omega.{arith}
use lib.ListN.{length}
use borrow.Author.Tests.{lt-ltb, le-ltb}
use Rattle.records.specs.Fields.{functions, params_of, kind_at, a_at, b_at}
use Rattle.records.specs.Parts.{Laid}
use Rattle.records.specs.Children.{arities, arity_of, arity_at}
use Rattle.spec_language.specs.Scopes.{decl_of, uses_variable}
use Rattle.spec_language.specs.Types.{param_type, var_type}
use Rattle.spec_language.specs.Known.{Known}
use Rattle.check_scopes.proofs.Decls.{use_known}

-- a parameter
pub var_param : (s : List ℕ) (f : ℕ) (t : List ℕ) (n x : ℕ) → x < params_of s f → param_type s f x ≡ var_type s f t n x
unfolding var_type
var_param s f t n x l = rw (lt-ltb x (params_of s f) l)

-- a variable with a decl
pub var_decl : (s : List ℕ) (f : ℕ) (t : List ℕ) (n x d : ℕ) → params_of s f ≤ x → d ≡ decl_of t n x → a_at t d ≡ var_type s f t n x
unfolding var_type
var_decl s f t n x d l e = rw (le-ltb x (params_of s f) l, e)

-- the record of a function lies in the file, and says at most 8 parameters
pub laid_at : (s : List ℕ) (f g : ℕ) → Laid s → g < functions s → f ≡ g → (12 * (1 + f) + 12 ≤ length s) × (params_of s f ≤ 8)
laid_at s f g h l e =
    let a : 12 * (1 + functions s) ≤ length s = h.heads in
    (omega arith, rw e (h.params g l))

-- a variable that node i of a kind that uses one names
pub var_known : (t : List ℕ) (n i x kind : ℕ) → (12 * n ≤ length t) → i < n → Known t n → kind_at t i ≡ kind → uses_variable kind ≡ true → x ≡ b_at t i
    → (12 * n ≤ length t) × (1 ≤ n) × (x < 64)
var_known t n i x kind h l k e u a = (h, omega arith, rw a (use_known t n i kind k.variable l e u).1)

-- the number of an argument
pub argument_few : (t : List ℕ) (n i k : ℕ) → Known t n → i < n → k < arity_at t i → kind_at t i ≡ 5 → k < 8
unfolding arity_at arity_of arities
argument_few t n i k known l h e =
    let a : a_at t i ≤ 8 = known.arguments i l e in
    let b : k < a_at t i = rw e at h in
    omega arith
