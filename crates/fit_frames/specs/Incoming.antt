-- What travels down an activation's frames, and the test of each frame for what comes down to it.
use Rattle.std.specs.Prelude.{Bool, true, false, ◌&&◌, ◌||◌, not, ◌∷◌, ◌++◌, map, ℕ, eqb}
use Rattle.std.proofs.Math.Option.{Option}
use Rattle.varset.specs.Sets.{Set, with, both, either, below}
use Rattle.records.specs.Format.{most_variables}
use Rattle.spec_language.specs.Flow.{leaves, returns}
use Rattle.spec_machine.specs.Values.{Ty, t_none, t_bool, type_v}
use Rattle.spec_machine.specs.Program.{Program, type_n, type_of_var, wants, gives, if_given}
use Rattle.spec_machine.specs.Machine.{Frame, gather, and, wait, branch, check, Control, val, eval, exec}
use Rattle.spec_machine.specs.Fit.{is_const}
use Rattle.spec_machine.specs.Test.{are_ty, reads, ok, expr_in, stmt_in, exprs_in, has_var, known_operation, reads_nodes}

-- whether a value is given and its type, the variables that have a value, and whether something that returns has come
pub data Incoming : Type 0 where
  incoming : Bool → Ty → Set → Bool → Incoming

-- a value of the type comes down
abbrev pub giving : Ty → Set → Incoming
giving t d = incoming true t d false

-- what an operation gives comes down: a value of a type, or none
abbrev pub handed : Option Ty → Set → Bool → Incoming
handed o d e = incoming (if_given o (λ t. true) false) (if_given o (λ t. t) t_none) d e

-- the frame takes what it is given; by frame
abbrev pub typed : Program → ℕ → Bool → Ty → Frame → Bool
typed P f b t (gather h vs ns) = b && (are_ty (wants P h) (map type_v vs ++ (t ∷ map (type_n P f) ns)) && (exprs_in P f ns && known_operation P h))
typed P f b t (and n) = b && (eqb t t_bool && (expr_in P f n && eqb (type_n P f n) t_bool))
typed P f b t (wait r) = not b && stmt_in P f r
typed P f b t (Frame.store x) = b && (eqb t (type_of_var (P.fun f) x) && has_var P f x)
typed P f b t (branch r q) = b && (eqb t t_bool && (stmt_in P f r && stmt_in P f q))
typed P f b t Frame.leave = b && eqb t (P.fun f).result
typed P f b t check = b && eqb t t_bool
typed P f b t Frame.discard = b

-- every variable that the frame reads has a value; by frame
abbrev pub flown : Program → ℕ → Set → Frame → Bool
flown P f d (gather h vs ns) = reads_nodes P f ns d
flown P f d (and n) = reads P f n d
flown P f d (wait r) = ok P f r d
flown P f d (Frame.store x) = true
flown P f d (branch r q) = ok P f r d && ok P f q d
flown P f d Frame.leave = true
flown P f d check = true
flown P f d Frame.discard = true

-- the test of a frame
abbrev pub frame_fits : Program → ℕ → Incoming → Frame → Bool
frame_fits P f (incoming b t d e) fr = typed P f b t fr && flown P f d fr

-- what the frame hands on; by frame
abbrev pub hands_on : Program → ℕ → Incoming → Frame → Incoming
hands_on P f (incoming b t d e) (gather h vs ns) = handed (gives P h) d e
hands_on P f (incoming b t d e) (and n) = incoming true t_bool d e
hands_on P f (incoming b t d e) (wait r) = incoming false t_none (leaves (P.stmt f r) d) (e || returns (P.stmt f r))
hands_on P f (incoming b t d e) (Frame.store x) = incoming false t_none (with d x) e
hands_on P f (incoming b t d e) (branch r q) =
    incoming false t_none (both (leaves (P.stmt f r) d) (leaves (P.stmt f q) d)) (e || (returns (P.stmt f r) && returns (P.stmt f q)))
hands_on P f (incoming b t d e) Frame.leave = incoming false t_none (either d (below most_variables)) true
hands_on P f (incoming b t d e) check = incoming false t_none d e
hands_on P f (incoming b t d e) Frame.discard = incoming false t_none d e

-- under the last frame no value is given, and something that returns has come
abbrev pub ends : Incoming → Bool
ends (incoming b t d e) = not b && e

-- the test of the control, and what it hands to the top frame
abbrev pub start_ok : Program → ℕ → Set → Control → Bool
start_ok P f d (val v) = true
start_ok P f d (eval n) = expr_in P f n && (not (is_const (P.look f n)) && reads P f n d)
start_ok P f d (exec r) = stmt_in P f r && ok P f r d

abbrev pub start : Program → ℕ → Set → Control → Incoming
start P f d (val v) = giving (type_v v) d
start P f d (eval n) = giving (type_n P f n) d
start P f d (exec r) = incoming false t_none (leaves (P.stmt f r) d) (returns (P.stmt f r))
