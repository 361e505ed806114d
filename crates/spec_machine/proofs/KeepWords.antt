-- The rules keep every int a word of 32 bits.
use mathlib.Core.Path.{◌≡◌, refl}
use mathlib.Core.List.{List, [], ◌∷◌, ◌++◌}
use Prim.Native.Nat.{ℕ, zero, suc, ◌+◌, ◌*◌, ◌^◌, ◌<◌}
use native.Mathlib.Omega.{arith}
use lib.ListN.{get_or, set, take, drop}
use lib.Seq.{get_or-drop}
use Rattle.records.specs.Bytes.{u16_at, u32_at}
use Rattle.records.specs.Fields.{count_of, b_at}
use Rattle.records.specs.Parts.{start_of, part_of}
use Rattle.spec_machine.specs.File.{look_at, program_of}
use Rattle.spec_machine.specs.Values.{Value, nothing, int, truth, Ty}
use Rattle.spec_machine.specs.Program.{ExprForm, const, apply, Fun, Program}
use Rattle.spec_machine.specs.Machine.{RunEnv, empty_env, State, Rule, Event, reach, reach_l, blank, entered, arguments, Step}
use Rattle.spec_machine.specs.Fit.{IsWord, AllWords, ControlInWord, InWords}
use Rattle.spec_machine.proofs.Operators.{result_word}
use Rattle.spec_machine.proofs.Levels.{by_look}

-- the ints among a program's constants are words
abbrev pub ConstWords : Program → Type 0
ConstWords P = (f n c : ℕ) → P.look f n ≡ const (int c) → c < 2 ^ 32

module _ (α : RunEnv) where
  pub word_at : (vs : List Value) (x : ℕ) → AllWords α vs → IsWord α (get_or vs x nothing)
  word_at [] x w = tt
  word_at (v ∷ vs) zero w = w.0
  word_at (v ∷ vs) (suc x) w = word_at vs x w.1

  words_set : (vs : List Value) (x : ℕ) (v : Value) → IsWord α v → AllWords α vs → AllWords α (set vs x v)
  words_set [] x v h w = tt
  words_set (u ∷ vs) zero v h w = (h, w.1)
  words_set (u ∷ vs) (suc x) v h w = (w.0, words_set vs x v h w.1)

  words_append : (vs ws : List Value) → AllWords α vs → AllWords α ws → AllWords α (vs ++ ws)
  words_append [] ws u w = w
  words_append (v ∷ vs) ws u w = (u.0, words_append vs ws u.1 w)

  words_blank : (ts : List Ty) → AllWords α (blank ts)
  words_blank [] = tt
  words_blank (t ∷ ts) = (tt, words_blank ts)

  words_entered : (g : Fun) (vs : List Value) → AllWords α vs → AllWords α (entered g vs)
  words_entered g vs w = words_append vs (blank g.locals) w (words_blank g.locals)

module _ (P : Program) (constants : ConstWords P) where
  const_word : (α : RunEnv) (f n : ℕ) (v : Value) → P.look f n ≡ const v → IsWord α v
  const_word α f n nothing e = tt
  const_word α f n (int c) e = constants f n c e
  const_word α f n (truth b) e = tt

  reach_word : (α : RunEnv) (f n : ℕ) → ControlInWord α (reach P f n)
  reach_word α f n = go (P.look f n) refl
    where
      go : (l : ExprForm) → P.look f n ≡ l → ControlInWord α (reach_l n l)
      go (const v) e = const_word α f n v e
      go (ExprForm.var x) e = tt
      go (apply h ns) e = tt
      go (ExprForm.and a b) e = tt
      go ExprForm.stray e = tt

  pub words_kept : {r : Rule} {v : Event} {s t : State} → Step P r v s t → InWords s → InWords t
  words_kept (Step.first {f = f} {n = n} {α = α} e) w = (reach_word α f n, w.1, (tt, w.2), w.3)
  words_kept (Step.next {f = f} {v = v} {vs = vs} {n = n} {α = α}) w = (reach_word α f n, w.1, (words_append α vs (v ∷ []) w.2.0 (w.0, tt), w.2.1), w.3)
  words_kept (Step.op_value {o = o} {a = a} {b = b} {v = v} {α = α} e) w = (result_word α P.edition o a b v w.2.0.0 w.0 e, w.1, w.2.1, w.3)
  words_kept (Step.op_arith e) w = tt
  words_kept (Step.and_first {n = n} {f = f} {α = α} e) w = (reach_word α f n, w.1, w.2, w.3)
  words_kept Step.and_false w = w
  words_kept (Step.and_true {l = l} {f = f} {α = α}) w = (reach_word α f l, w.1, w.2, w.3)
  words_kept (Step.var {x = x} {η = η} {α = α} e) w = (word_at α η x w.1, w.1, w.2, w.3)
  words_kept (Step.seq e) w = w
  words_kept (Step.nop e) w = w
  words_kept (Step.assign {n = n} {f = f} {α = α} e) w = (reach_word α f n, w.1, w.2, w.3)
  words_kept (Step.store {v = v} {x = x} {η = η} {α = α}) w = (tt, words_set α η x v w.0 w.1, w.2, w.3)
  words_kept (Step.decl {x = x} {η = η} {α = α} e) w = (tt, words_set α η x nothing tt w.1, w.2, w.3)
  words_kept (Step.assert {n = n} {f = f} {α = α} e) w = (reach_word α f n, w.1, w.2, w.3)
  words_kept Step.assert_true w = w
  words_kept Step.assert_false w = tt
  words_kept (Step.if {n = n} {f = f} {α = α} e) w = (reach_word α f n, w.1, w.2, w.3)
  words_kept Step.if_true w = w
  words_kept Step.if_false w = w
  words_kept (Step.while e) w = w
  words_kept (Step.expr {n = n} {f = f} {α = α} e) w = (reach_word α f n, w.1, w.2, w.3)
  words_kept Step.discard w = (tt, w.1, w.2, w.3)
  words_kept (Step.enter {v = v} {vs = vs} {g = g} {α = α}) w =
      (tt, words_entered α (P.fun g) (vs ++ (v ∷ [])) (words_append α vs (v ∷ []) w.2.0 (w.0, tt)), tt, (w.1, w.2.1, w.3))
  words_kept (Step.call_none {g = g} {α = α} e) w = (tt, words_entered α (P.fun g) [] tt, tt, (w.1, w.2, w.3))
  words_kept (Step.call_entry {o} {α}) w = (tt, words_entered α (P.fun α.entry) (arguments o) w, tt, tt)
  words_kept (Step.return {n = n} {f = f} {α = α} e) w = (reach_word α f n, w.1, w.2, w.3)
  words_kept Step.leave w = (w.0, w.3.0, w.3.1, w.3.2)
  words_kept Step.leave_entry w = w.0
  words_kept Step.value w = w

-- the program of a file of bytes has words alone
abbrev pub Bytes : List ℕ → Type 0
Bytes s = (i : ℕ) → get_or s i 0 < 256

-- what is below a bound in a list is so in its first elements, and in the later ones
pub take_below : (m n : ℕ) (l : List ℕ) → ((i : ℕ) → get_or l i 0 < m) → (i : ℕ) → get_or (take n l) i 0 < m
take_below m zero l h i = omega (arith, h i)
take_below m (suc n) [] h i = h i
take_below m (suc n) (x ∷ l) h zero = h 0
take_below m (suc n) (x ∷ l) h (suc i) = take_below m n l (λ j. h (suc j)) i

pub drop_below : (m n : ℕ) (l : List ℕ) → ((i : ℕ) → get_or l i 0 < m) → (i : ℕ) → get_or (drop n l) i 0 < m
drop_below m n l h i = rw (get_or-drop n l i 0) (h (n + i))

part_bytes : (s : List ℕ) (f : ℕ) → Bytes s → Bytes (part_of s f)
unfolding part_of
part_bytes s f h = take_below 256 (12 * count_of s f) (drop (12 * start_of s f) s) (drop_below 256 (12 * start_of s f) s h)

b_word : (t : List ℕ) (i : ℕ) → Bytes t → b_at t i < 2 ^ 32
unfolding b_at u32_at u16_at
b_word t i h = omega (arith, h (12 * i + 4), h (12 * i + 4 + 1), h (12 * i + 4 + 2), h (12 * i + 4 + 2 + 1))

abbrev LookWord : ExprForm → Type 0
LookWord (const v) = IsWord empty_env v
LookWord (ExprForm.var x) = Unit {0}
LookWord (apply h ns) = Unit {0}
LookWord (ExprForm.and a b) = Unit {0}
LookWord ExprForm.stray = Unit {0}

look_word : (t : List ℕ) (i : ℕ) → Bytes t → LookWord (look_at t i)
look_word t i h = by_look t i LookWord (λ e. b_word t i h) (λ e. tt) (λ e. tt) (λ e. tt) (λ e. tt) (λ e. tt) (λ e. tt) (λ e. tt)

pub file_words : (s : List ℕ) → Bytes s → ConstWords (program_of s)
unfolding program_of
file_words s h f n c e = rw e at (look_word (part_of s f) n (part_bytes s f h))
