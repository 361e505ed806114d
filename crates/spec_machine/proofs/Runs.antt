-- A run from a fit state goes as the rules say, reads no empty variable, and ends in a fit state.
use mathlib.Core.Path.{◌≡◌, refl, ap, ◌∙◌}
use mathlib.Core.Bool.{true, false}
use mathlib.Core.List.{List}
use Prim.Native.Nat.{ℕ, zero, suc}
use Rattle.varset.specs.Lowest.{pick}
use Rattle.varset.specs.Sets.{Set}
use Rattle.records.proofs.Bools.{by, clash}
use Rattle.spec_machine.specs.Program.{Program}
use Rattle.spec_machine.specs.Machine.{Exception, State, exception, calling, returned, running, Rule, Event, Step}
use Rattle.spec_machine.specs.Next.{Move, next}
use Rattle.spec_machine.specs.Fit.{Fit}
use Rattle.spec_machine.specs.Run.{carry, all_held, Outcome, raised, Spent, Full, Going, RunsTo, ended, failed, spent, full, within_limits, Ran, counted, stopped, onward, run_of}
use Rattle.spec_machine.proofs.Accepted.{Accepted}
use Rattle.spec_machine.proofs.KeepWords.{ConstWords, words_kept}
use Rattle.spec_machine.proofs.Tests.{limits_say}
use Rattle.spec_machine.proofs.One.{sound}
use Rattle.spec_machine.proofs.Keep.{keep}
use Rattle.spec_machine.proofs.Progress.{progress}
use Rattle.spec_machine.proofs.History.{carried, reads_held}

-- a report that the relation gives too, from a state with its history: the state after is fit, and the history is what is held
pub record Good (P : Program) (s : State) (h : List Set) (a : ℕ) (r : Ran) : Type 0 where
  pub history : List Set
  pub runs : RunsTo P s h a r.steps r.state history r.outcome
  pub fit : Fit P r.state
  pub same : history ≡ all_held r.state

-- with no allowance
good_stop : (P : Program) (s : State) (h : List Set) → Fit P s → h ≡ all_held s → Good P s h 0 (stopped s)
good_stop P (State.value c) h f e = record { history = h; runs = ended; fit = f; same = e }
good_stop P (exception x) h f e = record { history = h; runs = failed; fit = f; same = e }
good_stop P (calling α o) h f e = record { history = h; runs = spent tt; fit = f; same = e }
good_stop P (returned α c) h f e = record { history = h; runs = spent tt; fit = f; same = e }
good_stop P (running c α g η K A) h f e = record { history = h; runs = spent tt; fit = f; same = e }

-- where a step passes the limits
abbrev pub stands : State → Ran
stands s = record { outcome = Full; steps = 0; state = s }

-- the run's next step
pub run_step : (P : Program) (a : ℕ) (s t : State) (r : Rule) → next P s ≡ Move.goes r t → run_of P (suc a) s ≡ pick (within_limits t) (counted (run_of P a t)) (stands s)
unfolding run_of
run_step P a s t r e = ap (λ (m : Move). onward s m (λ u. run_of P a u)) e

module _ {P : Program} (c : Accepted P) (constants : ConstWords P) where
  -- from one step to the run after it
  on_step : {r : Rule} {v : Event} {s t : State} (a : ℕ) (h : List Set) → Step P r v s t → Fit P s → h ≡ all_held s
      → ((k : List Set) → Fit P t → k ≡ all_held t → Good P t k a (run_of P a t)) → Good P s h (suc a) (run_of P (suc a) s)
  on_step {r} {v} {s} {t} a h p f e rest = rw (run_step P a s t r (sound p)) (by (within_limits t) on over)
    where
      on : within_limits t ≡ true → Good P s h (suc a) (pick (within_limits t) (counted (run_of P a t)) (stands s))
      on w =
          let i = (limits_say t).so w in
          let g = rest (carry v h) (record { words = words_kept P constants p f.words; within = i; proper = keep c p f.proper }) (rw e (carried c p f.proper)) in
          rw w (record { history = g.history; runs = RunsTo.goes {h = h} p i (rw e (reads_held c p f.proper)) g.runs; fit = g.fit; same = g.same })

      over : within_limits t ≡ false → Good P s h (suc a) (pick (within_limits t) (counted (run_of P a t)) (stands s))
      over w = rw w (record { history = h; runs = full p (λ i. clash (within_limits t) ((limits_say t).if i) w); fit = f; same = e })

  -- the run function's report is a run of the relation
  pub ran : (a : ℕ) (s : State) (h : List Set) → Fit P s → h ≡ all_held s → Good P s h a (run_of P a s)
  ran zero s h f e = unfold run_of in good_stop P s h f e
  ran (suc a) (State.value k) h f e = unfold run_of in record { history = h; runs = ended; fit = f; same = e }
  ran (suc a) (exception x) h f e = unfold run_of in record { history = h; runs = failed; fit = f; same = e }
  ran (suc a) (calling α o) h f e = let p = progress c (calling α o) f.proper tt in on_step a h p.step f e (ran a p.state)
  ran (suc a) (returned α k) h f e = let p = progress c (returned α k) f.proper tt in on_step a h p.step f e (ran a p.state)
  ran (suc a) (running k α g η K A) h f e = let p = progress c (running k α g η K A) f.proper tt in on_step a h p.step f e (ran a p.state)

-- the relation is the function: outcome, steps and state are determined
abbrev Report : Outcome → ℕ → State → Ran
Report o k u = record { outcome = o; steps = k; state = u }

end_value : (P : Program) (c a : ℕ) → run_of P a (State.value c) ≡ Report (Outcome.value c) 0 (State.value c)
unfolding run_of
end_value P c zero = refl
end_value P c (suc a) = refl

end_raised : (P : Program) (x : Exception) (a : ℕ) → run_of P a (exception x) ≡ Report (raised x) 0 (exception x)
unfolding run_of
end_raised P x zero = refl
end_raised P x (suc a) = refl

end_spent : (P : Program) (s : State) → Going s → run_of P 0 s ≡ Report Spent 0 s
unfolding run_of
end_spent P (State.value c) g = absurd g
end_spent P (exception x) g = absurd g
end_spent P (calling α o) g = refl
end_spent P (returned α c) g = refl
end_spent P (running c α f η K A) g = refl

pub runs_are : {P : Program} {s u : State} {h k : List Set} {a n : ℕ} {o : Outcome} → RunsTo P s h a n u k o → run_of P a s ≡ record { outcome = o; steps = n; state = u }
runs_are {P} (ended {c} {a}) = end_value P c a
runs_are {P} (failed {x} {a}) = end_raised P x a
runs_are {P} {s} (spent g) = end_spent P s g
runs_are {P} (full {s} {t} {r} {v} {a} p n) = run_step P a s t r (sound p) ∙ by (within_limits t) (λ w. absurd (n ((limits_say t).so w))) (λ w. rw w)
runs_are {P} (RunsTo.goes {s} {t} {u} {r} {v} {a} p w q rest) = run_step P a s t r (sound p) ∙ rw ((limits_say t).if w, runs_are rest)
