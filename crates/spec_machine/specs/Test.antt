-- The tests that the memory check makes: fitness as a computed answer.
use Rattle.std.specs.Prelude.{Bool, true, false, ◌&&◌, not, List, [], ◌∷◌, ◌++◌, map, ℕ, ◌+◌, ◌^◌, eqb, ltb, length}
use Rattle.varset.specs.Sets.{Set, with, both, either, below}
use Rattle.records.specs.Format.{most_variables}
use Rattle.records.specs.Search.{clear}
use Rattle.spec_language.specs.Flow.{leaves, missing, lacks}
use Rattle.spec_machine.specs.Values.{Ty, t_int, t_bool, Value, nothing, int, truth, type_v}
use Rattle.spec_machine.specs.Program.{Operation, op, fn, Ref, Program, owns, type_n, var_types, type_of_var, wants, gives, if_given}
use Rattle.spec_machine.specs.Machine.{Frame, gather, and, wait, branch, check, Control, val, eval, exec, Saved, saved, RunEnv, State, exception, calling, returned, running, arguments}
use Rattle.spec_machine.specs.Fit.{is_expr, is_const, is_stmt, owned, held, comes, comes_from}
use Rattle.spec_machine.specs.Run.{within_limits}

-- equal types, in order
abbrev pub are_ty : List Ty → List Ty → Bool
are_ty [] [] = true
are_ty [] (u ∷ us) = false
are_ty (t ∷ ts) [] = false
are_ty (t ∷ ts) (u ∷ us) = eqb t u && are_ty ts us

-- rule 13 of an expression, and of a statement
abbrev pub reads : Program → ℕ → ℕ → Set → Bool
reads P f n d = clear (missing (P.reads f n) d)

abbrev pub ok : Program → ℕ → Ref → Set → Bool
ok P f r d = clear (lacks (P.stmt f r) d)

abbrev pub expr_in : Program → ℕ → ℕ → Bool
expr_in P f n = owns P f n && is_expr (P.look f n)

abbrev pub stmt_in : Program → ℕ → Ref → Bool
stmt_in P f r = owned P f r && is_stmt (P.see f r)

abbrev pub exprs_in : Program → ℕ → List ℕ → Bool
exprs_in P f [] = true
exprs_in P f (n ∷ ns) = expr_in P f n && exprs_in P f ns

abbrev pub has_var : Program → ℕ → ℕ → Bool
has_var P f x = ltb x (length (var_types (P.fun f)))

abbrev pub has_function : Program → ℕ → Bool
has_function P f = ltb f P.funs

abbrev pub known_operation : Program → Operation → Bool
known_operation P (op o) = ltb o 16
known_operation P (fn g) = has_function P g

abbrev pub holds_typed : Value → Ty → Bool
holds_typed nothing t = true
holds_typed (int n) t = eqb t_int t
holds_typed (truth b) t = eqb t_bool t

abbrev pub all_hold_typed : List Value → List Ty → Bool
all_hold_typed [] [] = true
all_hold_typed [] (t ∷ ts) = false
all_hold_typed (v ∷ vs) [] = false
all_hold_typed (v ∷ vs) (t ∷ ts) = holds_typed v t && all_hold_typed vs ts

-- frames that are given no value; by frame
abbrev pub takes_none : Program → ℕ → List Frame → Bool
takes_none P f [] = true
takes_none P f (gather h vs ns ∷ K) = false
takes_none P f (and n ∷ K) = false
takes_none P f (wait r ∷ K) = stmt_in P f r && takes_none P f K
takes_none P f (Frame.store x ∷ K) = false
takes_none P f (branch a b ∷ K) = false
takes_none P f (Frame.leave ∷ K) = false
takes_none P f (check ∷ K) = false
takes_none P f (Frame.discard ∷ K) = false

-- frames that are given a value of type t; by frame
abbrev pub takes : Program → ℕ → Ty → List Frame → Bool
takes P f t [] = false
takes P f t (gather h vs ns ∷ K) = are_ty (wants P h) (map type_v vs ++ (t ∷ map (type_n P f) ns)) && (exprs_in P f ns && (if_given (gives P h) (λ u. takes P f u K) (takes_none P f K) && known_operation P h))
takes P f t (and n ∷ K) = eqb t t_bool && (expr_in P f n && (eqb (type_n P f n) t_bool && takes P f t_bool K))
takes P f t (wait r ∷ K) = false
takes P f t (Frame.store x ∷ K) = eqb t (type_of_var (P.fun f) x) && (has_var P f x && takes_none P f K)
takes P f t (branch a b ∷ K) = eqb t t_bool && (stmt_in P f a && (stmt_in P f b && takes_none P f K))
takes P f t (Frame.leave ∷ K) = eqb t (P.fun f).result && takes_none P f K
takes P f t (check ∷ K) = eqb t t_bool && takes_none P f K
takes P f t (Frame.discard ∷ K) = takes_none P f K

abbrev pub control_over : Program → ℕ → Control → List Frame → Bool
control_over P f (val v) K = takes P f (type_v v) K
control_over P f (eval n) K = expr_in P f n && (not (is_const (P.look f n)) && takes P f (type_n P f n) K)
control_over P f (exec r) K = stmt_in P f r && takes_none P f K

abbrev pub reads_nodes : Program → ℕ → List ℕ → Set → Bool
reads_nodes P f [] d = true
reads_nodes P f (n ∷ ns) d = reads P f n d && reads_nodes P f ns d

-- rule 13 followed through frames; by frame
abbrev pub flows : Program → ℕ → List Frame → Set → Bool
flows P f [] d = true
flows P f (gather h vs ns ∷ K) d = reads_nodes P f ns d && flows P f K d
flows P f (and n ∷ K) d = reads P f n d && flows P f K d
flows P f (wait r ∷ K) d = ok P f r d && flows P f K (leaves (P.stmt f r) d)
flows P f (Frame.store x ∷ K) d = flows P f K (with d x)
flows P f (branch a b ∷ K) d = ok P f a d && (ok P f b d && flows P f K (both (leaves (P.stmt f a) d) (leaves (P.stmt f b) d)))
flows P f (Frame.leave ∷ K) d = flows P f K (either d (below most_variables))
flows P f (check ∷ K) d = flows P f K d
flows P f (Frame.discard ∷ K) d = flows P f K d

abbrev pub flows_from : Program → ℕ → Control → List Frame → Set → Bool
flows_from P f (val v) K d = flows P f K d
flows_from P f (eval n) K d = reads P f n d && flows P f K d
flows_from P f (exec r) K d = ok P f r d && flows P f K (leaves (P.stmt f r) d)

-- the function that a run is started with, and the saved callers down to it
abbrev pub is_entry : Program → ℕ → Bool
is_entry P e = eqb e 0

abbrev pub callers : Program → ℕ → ℕ → List Saved → Bool
callers P e f [] = eqb f e
callers P e f (saved g θ L ∷ A) =
    all_hold_typed θ (var_types (P.fun g)) && (takes P g (P.fun f).result L && (flows P g L (held θ) && (comes P g L && (callers P e g A && has_function P g))))

-- every int is a word of 32 bits, in the environment of the run
abbrev pub is_word : RunEnv → Value → Bool
is_word α nothing = true
is_word α (int n) = ltb n (2 ^ 32)
is_word α (truth b) = true

abbrev pub all_words : RunEnv → List Value → Bool
all_words α [] = true
all_words α (v ∷ vs) = is_word α v && all_words α vs

-- every int in the frames is a word of 32 bits; by frame
abbrev pub frames_in_words : RunEnv → List Frame → Bool
frames_in_words α [] = true
frames_in_words α (gather h vs ns ∷ K) = all_words α vs && frames_in_words α K
frames_in_words α (and n ∷ K) = frames_in_words α K
frames_in_words α (wait r ∷ K) = frames_in_words α K
frames_in_words α (Frame.store x ∷ K) = frames_in_words α K
frames_in_words α (branch a b ∷ K) = frames_in_words α K
frames_in_words α (Frame.leave ∷ K) = frames_in_words α K
frames_in_words α (check ∷ K) = frames_in_words α K
frames_in_words α (Frame.discard ∷ K) = frames_in_words α K

abbrev pub control_in_word : RunEnv → Control → Bool
control_in_word α (val v) = is_word α v
control_in_word α (eval n) = true
control_in_word α (exec r) = true

abbrev pub saved_in_words : RunEnv → List Saved → Bool
saved_in_words α [] = true
saved_in_words α (saved g θ L ∷ A) = all_words α θ && (frames_in_words α L && saved_in_words α A)

abbrev pub in_words : State → Bool
in_words (State.value c) = ltb c (2 ^ 32)
in_words (exception x) = true
in_words (calling α o) = all_words α (arguments o)
in_words (returned α c) = ltb c (2 ^ 32)
in_words (running c α f η K A) = control_in_word α c && (all_words α η && (frames_in_words α K && saved_in_words α A))

abbrev pub proper : Program → State → Bool
proper P (State.value c) = true
proper P (exception x) = true
proper P (calling α o) = is_entry P α.entry && are_ty (P.fun α.entry).params (map type_v (arguments o))
proper P (returned α c) = is_entry P α.entry
proper P (running c α f η K A) = is_entry P α.entry && (callers P α.entry f A && (has_function P f && (all_hold_typed η (var_types (P.fun f)) && (control_over P f c K && (flows_from P f c K (held η) && comes_from P f c K)))))

-- the state is fit
abbrev pub fit : Program → State → Bool
fit P s = in_words s && (within_limits s && proper P s)
