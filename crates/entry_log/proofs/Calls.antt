-- An accepted logged run, and a refused one.
use Rattle.std.specs.Prelude.{Ok, Err}
use mathlib.Core.Path.{◌≡◌, ap, ◌∙◌}
use mathlib.Core.List.{List, ◌++◌}
use Prim.Native.Nat.{ℕ, ◌+◌}
use native.Mathlib.Omega.{arith}
use lib.ListN.{drop}
use Rattle.spec_language.specs.Check.{accepted, refused}
use Rattle.check_file.specs.declared.Refusal.{Refusal}
use Rattle.spec_machine.specs.Machine.{State}
use Rattle.spec_machine.specs.Fit.{Fit}
use Rattle.spec_machine.specs.File.{program_of}
use Rattle.spec_image.specs.Image.{image}
use Rattle.spec_image.specs.Decode.{state_of}
use Rattle.spec_image.specs.Sizes.{size}
use Rattle.spec_image.proofs.Memory.{held_whole, holds_fit}
use Rattle.spec_answers.specs.Answers.{memory_answer, by_verdict, written}
use Rattle.spec_answers.proofs.Questions.{memory_so}
use Rattle.spec_log.specs.Logged.{log_of}
use Rattle.spec_log.specs.Answers.{log_from, log_answer, log_memory, log_written, log_after}
use Rattle.entry_log.specs.declared.Stop.{Stop}
use Rattle.entry_log.specs.declared.Logged.{Logged}
use Rattle.entry_log.specs.Logs.{Stops}
use Rattle.entry_log.specs.Replies.{log_reply_of}

module _ (s m : List ℕ) (a : ℕ) (log : List ℕ) (used : ℕ) where
  pub log_refused : (r : Refusal) → memory_answer s m ≡ refused r.question r.place r.item
      → (Err r ≡ log_reply_of (log_answer s m a log used)) × (m ≡ log_memory s m a log used) × (log ≡ log_after s m a log used)
  unfolding log_answer log_memory log_after log_written by_verdict written log_reply_of
  log_refused r e = (rw e, rw e, rw e)

  pub log_accepted : memory_answer s m ≡ accepted → (r : Logged) (l log' : List ℕ)
      → ((σ : State) (R : List ℕ) → m ≡ image σ ++ R → Fit (program_of s) σ → Stops 0 (log_of (program_of s) a σ log used) r.stop r.steps r.used l R log')
      → (Ok r ≡ log_reply_of (log_answer s m a log used)) × (l ≡ log_memory s m a log used) × (log' ≡ log_after s m a log used)
  unfolding log_answer log_memory log_after log_written by_verdict written log_reply_of log_from
  log_accepted e r l log' f =
      let q = memory_so s m e in
      let h = holds_fit (program_of s) m q.2 in
      let d = f (state_of m) (drop size m) (held_whole m (state_of m) h.0) h.1 in
      rw e (ap Ok (same r d.stop_is d.steps_are d.used_is), d.held, d.logged)
    where
      same : (r : Logged) {o : Stop} {n u : ℕ} → r.stop ≡ o → r.steps ≡ 0 + n → r.used ≡ u → r ≡ record { stop = o; steps = n; used = u }
      same r {o} {n} {u} x y z =
          let w : r.steps ≡ n = omega (arith, y) in
          ap (λ (k : Stop). record { stop = k; steps = r.steps; used = r.used }) x
          ∙ (ap (λ (k : ℕ). record { stop = o; steps = k; used = r.used }) w ∙ ap (λ (k : ℕ). record { stop = o; steps = n; used = k }) z)
