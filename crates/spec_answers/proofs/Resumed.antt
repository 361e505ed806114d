-- Calls of run one after another are one call of run: in the memory, the steps and the outcome.
use mathlib.Core.Path.{◌≡◌, refl, sym, ◌∙◌}
use mathlib.Core.List.{List, ◌++◌}
use Prim.Native.Nat.{ℕ, ◌+◌, ◌<◌}
use lib.ListN.{drop, get_or}
use Rattle.spec_language.specs.Check.{Verdict, accepted, refused}
use Rattle.spec_machine.specs.Machine.{State}
use Rattle.spec_machine.specs.Fit.{Fit}
use Rattle.spec_machine.specs.Run.{Ran, all_held, run_of, after}
use Rattle.spec_machine.specs.File.{program_of}
use Rattle.spec_machine.proofs.Files.{accepted_program}
use Rattle.spec_machine.proofs.KeepWords.{file_words}
use Rattle.spec_machine.proofs.Runs.{ran}
use Rattle.spec_machine.proofs.Resumed.{Joined, cut, resumed}
use Rattle.spec_image.specs.Image.{image}
use Rattle.spec_image.specs.Decode.{state_of}
use Rattle.spec_image.specs.Sizes.{size}
use Rattle.spec_image.proofs.Sized.{file_sized, fit_narrow}
use Rattle.spec_image.proofs.Memory.{held_length, held_state, whole_held, holds_fit, image_passes}
use Rattle.spec_answers.specs.Answers.{memory_answer, granted, denied, by_verdict, written, run_from, run_answer, run_memory}
use Rattle.spec_answers.proofs.Questions.{memory_so, memory_if}

-- a call that is granted, a further one with the allowance b on the memory that it leaves, and the whole run in one call
pub record Pieces (s m : List ℕ) (a b : ℕ) : Type 0 where
  pub first : Ran
  pub further : Ran
  pub whole : Ran
  pub is_first : run_answer s m a ≡ granted first
  pub is_further : run_answer s (run_memory s m a) b ≡ granted further
  pub is_whole : run_answer s m (a + b) ≡ granted whole
  pub joined : Joined b first further whole

-- an accepted run writes the image of the state that it stops at
run_writes : (s m : List ℕ) (a : ℕ) → memory_answer s m ≡ accepted → run_memory s m a ≡ image (after (program_of s) a (state_of m)) ++ drop size m
unfolding run_memory run_from written
run_writes s m a e = rw e

-- a refused run answers the refusal, whatever its allowance, and leaves the memory
pub refused_runs : (s m : List ℕ) (q p x : ℕ) → memory_answer s m ≡ refused q p x → (a : ℕ) → (run_answer s m a ≡ denied q p x) × (run_memory s m a ≡ m)
unfolding run_answer run_memory by_verdict written
refused_runs s m q p x e a = (rw e, rw e)

-- a file of bytes and any memory
module _ (s m : List ℕ) (small : (i : ℕ) → get_or s i 0 < 256) where
  -- a memory that the same file accepts, with a state in it, and with the later words of m
  record Left (t : State) (n : List ℕ) : Type 0 where
    checked : memory_answer s n ≡ accepted
    state : state_of n ≡ t
    rest : drop size n ≡ drop size m

  -- an accepted run leaves such a memory
  left : memory_answer s m ≡ accepted → (a : ℕ) → Left (after (program_of s) a (state_of m)) (run_memory s m a)
  left e a =
      let q = memory_so s m e in
      let P = program_of s in
      let t = after P a (state_of m) in
      let n = image t ++ drop size m in
      let f : Fit P t = (ran (accepted_program s q.0) (file_words s small) a (state_of m) (all_held (state_of m)) (holds_fit P m q.2).1 refl).fit in
      let h = whole_held t (drop size m) f.within in
      let z = file_sized s q.0 in
      rw (run_writes s m a e)
      (record {
        checked = memory_if s n q.0 (held_length n t f.within h.0) (image_passes P z t (drop size m) f);
        state = held_state n t f.within (fit_narrow P z t f) h.0;
        rest = h.1;
      })

  accepted_memory : memory_answer s m ≡ accepted → (a b : ℕ) → run_memory s (run_memory s m a) b ≡ run_memory s m (a + b)
  accepted_memory e a b =
      let l = left e a in
      run_writes s (run_memory s m a) b l.checked ∙ rw (l.state, l.rest, resumed (program_of s) a b (state_of m)) (sym (run_writes s m (a + b) e))

  -- accepted or refused, the memory after a run and a further one is that after the whole run
  pub resumed_memory : (a b : ℕ) → run_memory s (run_memory s m a) b ≡ run_memory s m (a + b)
  resumed_memory a b = go (memory_answer s m) refl
    where
      go : (v : Verdict) → memory_answer s m ≡ v → run_memory s (run_memory s m a) b ≡ run_memory s m (a + b)
      go accepted e = accepted_memory e a b
      go (refused q p x) e = rw ((refused_runs s m q p x e a).1, (refused_runs s m q p x e b).1, (refused_runs s m q p x e (a + b)).1)

  -- an accepted run and a further one tell the steps and the outcome of the whole run
  pub resumed_runs : memory_answer s m ≡ accepted → (a b : ℕ) → Pieces s m a b
  unfolding run_answer run_from by_verdict
  resumed_runs e a b =
      let l = left e a in
      let P = program_of s in
      record {
        first = run_of P a (state_of m);
        further = run_of P b (after P a (state_of m));
        whole = run_of P (a + b) (state_of m);
        is_first = rw e;
        is_further = rw (l.checked, l.state);
        is_whole = rw e;
        joined = cut P a b (state_of m);
      }
