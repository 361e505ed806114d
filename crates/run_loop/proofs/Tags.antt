-- The state in a memory, by the tag.
use mathlib.Core.Path.{◌≡◌, sym, ap, ◌∙◌}
use mathlib.Core.List.{List, [], ◌∷◌, ◌++◌}
use mathlib.Core.Option.{none, some}
use Prim.Native.Nat.{ℕ}
use native.Mathlib.Omega.{arith}
use lib.ListN.{length, get_or}
use Rattle.arith.specs.Int.{int}
use Rattle.spec_language.specs.Check.{accepted, check_of}
use Rattle.spec_machine.specs.Values.{Value, t_int}
use Rattle.spec_machine.specs.Machine.{Exception, abort, Frame, Control, Saved, RunEnv, State, exception, calling, returned, running}
use Rattle.spec_machine.specs.Run.{run_of}
use Rattle.spec_machine.specs.Fit.{Entry, Fit}
use Rattle.spec_machine.specs.File.{program_of}
use Rattle.spec_machine.proofs.Files.{accepted_program}
use Rattle.spec_image.specs.Image.{head_words, image}
use Rattle.spec_image.proofs.Images.{head_word_lem}
use Rattle.run_loop.specs.declared.Outcome.{Outcome}
use Rattle.run_loop.specs.declared.Outcome.TheVariants as code
use Rattle.run_loop.specs.Runs.{outcome_of, HoldsFit, AtMain, AtRunning, Ends}
use Rattle.run_loop.proofs.Ending.{run_value, run_raised}

-- the tag of a state, and its int
abbrev tag : State → ℕ
tag (State.value c) = 4
tag (exception Exception.arith) = 5
tag (exception abort) = 6
tag (calling α none) = 1
tag (calling α (some k)) = 9
tag (returned α c) = 3
tag (running c α f η K A) = 2

tagged : (s : State) (l R : List ℕ) → l ≡ image s ++ R → get_or l 0 0 ≡ tag s
unfolding head_words
tagged (State.value c) l R e = rw e (head_word_lem (State.value c) R 0 (omega arith))
tagged (exception Exception.arith) l R e = rw e (head_word_lem (exception Exception.arith) R 0 (omega arith))
tagged (exception abort) l R e = rw e (head_word_lem (exception abort) R 0 (omega arith))
tagged (calling α none) l R e = rw e (head_word_lem (calling α none) R 0 (omega arith))
tagged (calling α (some k)) l R e = rw e (head_word_lem (calling α (some k)) R 0 (omega arith))
tagged (returned α c) l R e = rw e (head_word_lem (returned α c) R 0 (omega arith))
tagged (running c α f η K A) l R e = rw e (head_word_lem (running c α f η K A) R 0 (omega arith))

-- its one state
module _ (s l : List ℕ) (n : ℕ) (o : Outcome) (st : ℕ) (m R : List ℕ) where
  abbrev Goal : State → Type 0
  Goal σ = Ends 0 (run_of (program_of s) n σ) o st m R

  pub at_main : (σ : State) → l ≡ image σ ++ R → Fit (program_of s) σ → get_or l 0 0 ≡ 1 → ((α : RunEnv) → l ≡ image (calling α none) ++ R → Fit (program_of s) (calling α none) → Goal (calling α none)) → Goal σ
  at_main (State.value k) e fit t q = absurd (omega (arith, t, tagged (State.value k) l R e))
  at_main (exception Exception.arith) e fit t q = absurd (omega (arith, t, tagged (exception Exception.arith) l R e))
  at_main (exception abort) e fit t q = absurd (omega (arith, t, tagged (exception abort) l R e))
  at_main (calling α none) e fit t q = q α e fit
  at_main (calling α (some x)) e fit t q = absurd (omega (arith, t, tagged (calling α (some x)) l R e))
  at_main (returned α k) e fit t q = absurd (omega (arith, t, tagged (returned α k) l R e))
  at_main (running c α f η K A) e fit t q = absurd (omega (arith, t, tagged (running c α f η K A) l R e))

  pub at_running : (σ : State) → l ≡ image σ ++ R → Fit (program_of s) σ → get_or l 0 0 ≡ 2 → ((c : Control) (α : RunEnv) (f : ℕ) (η : List Value) (K : List Frame) (A : List Saved) → l ≡ image (running c α f η K A) ++ R → Fit (program_of s) (running c α f η K A) → Goal (running c α f η K A)) → Goal σ
  at_running (State.value k) e fit t q = absurd (omega (arith, t, tagged (State.value k) l R e))
  at_running (exception Exception.arith) e fit t q = absurd (omega (arith, t, tagged (exception Exception.arith) l R e))
  at_running (exception abort) e fit t q = absurd (omega (arith, t, tagged (exception abort) l R e))
  at_running (calling α none) e fit t q = absurd (omega (arith, t, tagged (calling α none) l R e))
  at_running (calling α (some x)) e fit t q = absurd (omega (arith, t, tagged (calling α (some x)) l R e))
  at_running (returned α k) e fit t q = absurd (omega (arith, t, tagged (returned α k) l R e))
  at_running (running c α f η K A) e fit t q = q c α f η K A e fit

  pub at_returned : (σ : State) → l ≡ image σ ++ R → Fit (program_of s) σ → get_or l 0 0 ≡ 3 → ((α : RunEnv) (k : ℕ) → Entry (program_of s) α.entry → k ≡ get_or l 1 0 → l ≡ image (returned α k) ++ R → Goal (returned α k)) → Goal σ
  at_returned (State.value k) e fit t q = absurd (omega (arith, t, tagged (State.value k) l R e))
  at_returned (exception Exception.arith) e fit t q = absurd (omega (arith, t, tagged (exception Exception.arith) l R e))
  at_returned (exception abort) e fit t q = absurd (omega (arith, t, tagged (exception abort) l R e))
  at_returned (calling α none) e fit t q = absurd (omega (arith, t, tagged (calling α none) l R e))
  at_returned (calling α (some x)) e fit t q = absurd (omega (arith, t, tagged (calling α (some x)) l R e))
  at_returned (returned α k) e fit t q = unfold head_words in (q α k fit.proper (sym (rw e (head_word_lem (returned α k) R 1 (omega arith)))) e)
  at_returned (running c α f η K A) e fit t q = absurd (omega (arith, t, tagged (running c α f η K A) l R e))

-- main takes no argument
no_argument : (s : List ℕ) → check_of s ≡ accepted → (α : RunEnv) (k : ℕ) → Fit (program_of s) (calling α (some k)) → ⊥
no_argument s passed α k fit =
    let p : ((program_of s).fun 0).params ≡ t_int ∷ [] = rw fit.proper.0 at fit.proper.1 in
    let q : ◌≡◌ {A = ℕ} 0 1 = ap length (sym (accepted_program s passed).main_takes ∙ p) in
    omega (arith, q)

-- a final state is reported again
module _ (s l : List ℕ) (passed : check_of s ≡ accepted) (n : ℕ) (R : List ℕ) where
  pub at_value : (σ : State) → l ≡ image σ ++ R → get_or l 0 0 ≡ 4 → Ends 0 (run_of (program_of s) n σ) (code.Value (int (get_or l 1 0))) 0 l R
  at_value (State.value k) e t = unfold head_words in (let w : get_or l 1 0 ≡ k = rw e (head_word_lem (State.value k) R 1 (omega arith)) in rw w (run_value (program_of s) n k l R e))
  at_value (exception Exception.arith) e t = absurd (omega (arith, t, tagged (exception Exception.arith) l R e))
  at_value (exception abort) e t = absurd (omega (arith, t, tagged (exception abort) l R e))
  at_value (calling α none) e t = absurd (omega (arith, t, tagged (calling α none) l R e))
  at_value (calling α (some x)) e t = absurd (omega (arith, t, tagged (calling α (some x)) l R e))
  at_value (returned α k) e t = absurd (omega (arith, t, tagged (returned α k) l R e))
  at_value (running c α f η K A) e t = absurd (omega (arith, t, tagged (running c α f η K A) l R e))

  pub at_arith : (σ : State) → l ≡ image σ ++ R → get_or l 0 0 ≡ 5 → Ends 0 (run_of (program_of s) n σ) code.Arith 0 l R
  at_arith (State.value k) e t = absurd (omega (arith, t, tagged (State.value k) l R e))
  at_arith (exception Exception.arith) e t = unfold outcome_of in (run_raised (program_of s) n Exception.arith l R e)
  at_arith (exception abort) e t = absurd (omega (arith, t, tagged (exception abort) l R e))
  at_arith (calling α none) e t = absurd (omega (arith, t, tagged (calling α none) l R e))
  at_arith (calling α (some x)) e t = absurd (omega (arith, t, tagged (calling α (some x)) l R e))
  at_arith (returned α k) e t = absurd (omega (arith, t, tagged (returned α k) l R e))
  at_arith (running c α f η K A) e t = absurd (omega (arith, t, tagged (running c α f η K A) l R e))

  pub at_abort : (σ : State) → l ≡ image σ ++ R → Fit (program_of s) σ → (get_or l 0 0 ≡ 1 → ⊥) → (get_or l 0 0 ≡ 2 → ⊥) → (get_or l 0 0 ≡ 3 → ⊥) → (get_or l 0 0 ≡ 4 → ⊥) → (get_or l 0 0 ≡ 5 → ⊥)
      → Ends 0 (run_of (program_of s) n σ) code.Abort 0 l R
  at_abort (State.value k) e fit a b c d g = absurd (d (tagged (State.value k) l R e))
  at_abort (exception Exception.arith) e fit a b c d g = absurd (g (tagged (exception Exception.arith) l R e))
  at_abort (exception abort) e fit a b c d g = unfold outcome_of in (run_raised (program_of s) n abort l R e)
  at_abort (calling α none) e fit a b c d g = absurd (a (tagged (calling α none) l R e))
  at_abort (calling α (some x)) e fit a b c d g = absurd (no_argument s passed α x fit)
  at_abort (returned α k) e fit a b c d g = absurd (c (tagged (returned α k) l R e))
  at_abort (running u α v η K A) e fit a b c d g = absurd (b (tagged (running u α v η K A) l R e))

-- what the tag says of a memory that holds a fit state
module _ (s l : List ℕ) (h : HoldsFit s l) where
  pub begins : get_or l 0 0 ≡ 1 → AtMain s l
  begins t = go h.state h.held h.fit
    where
      go : (σ : State) → l ≡ image σ ++ h.rest → Fit (program_of s) σ → AtMain s l
      go (State.value k) e i = absurd (omega (arith, t, tagged (State.value k) l h.rest e))
      go (exception Exception.arith) e i = absurd (omega (arith, t, tagged (exception Exception.arith) l h.rest e))
      go (exception abort) e i = absurd (omega (arith, t, tagged (exception abort) l h.rest e))
      go (calling α none) e i = record { passed = h.passed; environment = α; rest = h.rest; held = e; fit = i }
      go (calling α (some x)) e i = absurd (omega (arith, t, tagged (calling α (some x)) l h.rest e))
      go (returned α k) e i = absurd (omega (arith, t, tagged (returned α k) l h.rest e))
      go (running c α f η K A) e i = absurd (omega (arith, t, tagged (running c α f η K A) l h.rest e))

  pub proceeds : get_or l 0 0 ≡ 2 → AtRunning s l
  proceeds t = go h.state h.held h.fit
    where
      go : (σ : State) → l ≡ image σ ++ h.rest → Fit (program_of s) σ → AtRunning s l
      go (State.value k) e i = absurd (omega (arith, t, tagged (State.value k) l h.rest e))
      go (exception Exception.arith) e i = absurd (omega (arith, t, tagged (exception Exception.arith) l h.rest e))
      go (exception abort) e i = absurd (omega (arith, t, tagged (exception abort) l h.rest e))
      go (calling α none) e i = absurd (omega (arith, t, tagged (calling α none) l h.rest e))
      go (calling α (some x)) e i = absurd (omega (arith, t, tagged (calling α (some x)) l h.rest e))
      go (returned α k) e i = absurd (omega (arith, t, tagged (returned α k) l h.rest e))
      go (running c α f η K A) e i = record { passed = h.passed; control = c; environment = α; function = f; variables = η; frames = K; callers = A; rest = h.rest; held = e; fit = i }
