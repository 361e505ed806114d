-- The entry function of the state that a memory holds.
use mathlib.Core.Path.{◌≡◌, refl, sym, ap, ◌∙◌}
use mathlib.Core.Bool.{true, false, ◌&&◌, not, and-true}
use mathlib.Core.List.{List, [], ◌∷◌, ◌++◌}
use mathlib.Core.Option.{none, some}
use Prim.Native.Nat.{ℕ, zero, suc, ◌≤◌}
use native.Mathlib.Omega.{arith}
use lib.Dec.{eqb}
use lib.ListN.{length, get_or}
use borrow.Author.Tests.{ne_eqb}
use Rattle.spec_machine.specs.Values.{t_int}
use Rattle.spec_machine.specs.Program.{Program}
use Rattle.spec_machine.specs.Machine.{Exception, abort, RunEnv, empty_env, State, exception, calling, returned, running}
use Rattle.spec_machine.specs.Fit.{WithinLimits}
use Rattle.spec_language.specs.Check.{accepted, check_of}
use Rattle.spec_machine.specs.File.{program_of}
use Rattle.spec_machine.specs.Test.{are_ty, is_entry}
use Rattle.spec_image.specs.Sizes.{size}
use Rattle.spec_image.specs.Layout.{filled, env_words}
use Rattle.spec_image.specs.Image.{head_words, env_part, image}
use Rattle.spec_image.specs.Decode.{env_of}
use Rattle.spec_image.proofs.Images.{head_word_lem, env_back}
use Rattle.fit_state.specs.HoldsState.{HoldsState}
use Rattle.fit_state.specs.Activations.{entry_fit}
use Rattle.fit_state.specs.Running.{RunningIn}

-- ---- its word

module _ (s : State) (R : List ℕ) (w : WithinLimits s) where
  pub entry_in : (α : RunEnv) → env_part s ≡ env_words α → get_or (image s ++ R) 14721 0 ≡ α.entry
  unfolding env_of
  entry_in α e = ap (λ (x : RunEnv). x.entry) (env_back s R w α e)

-- zero in a final state
value_none : (c : ℕ) → env_part (State.value c) ≡ env_words empty_env
unfolding env_part env_words filled
value_none c = refl

exception_none : (x : Exception) → env_part (exception x) ≡ env_words empty_env
unfolding env_part env_words filled
exception_none x = refl

-- ---- main() without an argument

module _ (P : Program) (takes : (P.fun 0).params ≡ []) where
  alone : (e : ℕ) → (eqb e 0 && true) ≡ (is_entry P e && are_ty (P.fun e).params [])
  alone zero = rw takes
  alone (suc e) = rw (ne_eqb (suc e) 0 (λ z. omega arith))

  given : (e : ℕ) → (eqb e 0 && false) ≡ (is_entry P e && are_ty (P.fun e).params (t_int ∷ []))
  given zero = rw takes
  given (suc e) = rw (ne_eqb (suc e) 0 (λ z. omega arith))

  -- what the code asks
  pub entry_law : (s : State) (R : List ℕ) → WithinLimits s → let m = image s ++ R in (eqb (get_or m 14721 0) 0 && not (eqb (get_or m 0 0) 9)) ≡ entry_fit P s
  unfolding head_words env_part
  entry_law (State.value c) R w = let s = State.value c in rw (entry_in s R w empty_env (value_none c), head_word_lem s R 0 (omega arith))
  entry_law (exception Exception.arith) R w =
      let s = exception Exception.arith in rw (entry_in s R w empty_env (exception_none Exception.arith), head_word_lem s R 0 (omega arith))
  entry_law (exception abort) R w = let s = exception abort in rw (entry_in s R w empty_env (exception_none abort), head_word_lem s R 0 (omega arith))
  entry_law (calling α none) R w = let s = calling α none in rw (entry_in s R w α refl, head_word_lem s R 0 (omega arith)) (alone α.entry)
  entry_law (calling α (some n)) R w = let s = calling α (some n) in rw (entry_in s R w α refl, head_word_lem s R 0 (omega arith)) (given α.entry)
  entry_law (returned α c) R w = let s = returned α c in rw (entry_in s R w α refl, head_word_lem s R 0 (omega arith)) (and-true (eqb α.entry 0))
  entry_law (running c α f η K A) R w = let s = running c α f η K A in rw (entry_in s R w α refl, head_word_lem s R 0 (omega arith)) (and-true (eqb α.entry 0))

-- ---- the entry function of a running state

known : (P : Program) (s : State) (R : List ℕ) → WithinLimits s → get_or (head_words s) 0 0 ≡ 2 → entry_fit P s ≡ true → is_entry P (get_or (image s ++ R) 14721 0) ≡ true
unfolding head_words env_part
known P (State.value c) R w q e = absurd (omega arith)
known P (exception Exception.arith) R w q e = absurd (omega arith)
known P (exception abort) R w q e = absurd (omega arith)
known P (calling α none) R w q e = absurd (omega arith)
known P (calling α (some n)) R w q e = absurd (omega arith)
known P (returned α c) R w q e = absurd (omega arith)
known P (running c α f η K A) R w q e = rw (entry_in (running c α f η K A) R w α refl) e

pub entry_known : (P : Program) (m : List ℕ) (h : HoldsState m) → get_or m 0 0 ≡ 2 → entry_fit P h.state ≡ true → is_entry P (get_or m 14721 0) ≡ true
entry_known P m h q e =
    let t : get_or (head_words h.state) 0 0 ≡ 2 = sym (head_word_lem h.state h.rest 0 (omega arith)) ∙ (rw h.held at q) in
    rw h.held (known P h.state h.rest h.within t e)

-- a memory that holds a running state, with all that is known of it
pub running_in : (file m : List ℕ) → check_of file ≡ accepted → size ≤ length m → (h : HoldsState m) → get_or m 0 0 ≡ 2 → true ≡ entry_fit (program_of file) h.state
    → RunningIn file m
running_in file m p w h q e = record { passed = p; whole = w; holds = h; tag = q; entry = entry_known (program_of file) m h q (sym e) }
