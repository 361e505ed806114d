-- A run of a steps followed by a run of b steps is a run of a + b steps.
use mathlib.Core.Path.{◌≡◌, refl, sym, ap, ◌∙◌, subst}
use mathlib.Core.Bool.{true, false}
use Prim.Native.Nat.{ℕ, zero, suc, ◌+◌, ◌<◌}
use native.Mathlib.Omega.{arith}
use Rattle.records.proofs.Bools.{by}
use Rattle.spec_machine.specs.Program.{Program}
use Rattle.spec_machine.specs.Machine.{State, exception, calling, returned, running, Rule}
use Rattle.spec_machine.specs.Next.{Move, stuck, next}
use Rattle.spec_machine.specs.Run.{within_limits, Ran, counted, stopped, onward, run_of, after}
use Rattle.spec_machine.proofs.Runs.{stands, run_step}

-- what a run tells, and a further one with the allowance b, beside the whole run
pub record Joined (b : ℕ) (first further whole : Ran) : Type 0 where
  pub state : further.state ≡ whole.state
  pub steps : further.steps + first.steps ≡ whole.steps
  pub outcome : 0 < b → further.outcome ≡ whole.outcome

-- of a run cut after its first a steps
abbrev pub Cut : Program → ℕ → ℕ → State → Type 0
Cut P a b s = Joined b (run_of P a s) (run_of P b (after P a s)) (run_of P (a + b) s)

-- a report of a run that took no step
abbrev Still : State → Ran → Type 0
Still s q = (q.state ≡ s) × (q.steps ≡ 0)

stopped_still : (s : State) → Still s (stopped s)
stopped_still (State.value c) = (refl, refl)
stopped_still (exception x) = (refl, refl)
stopped_still (calling α o) = (refl, refl)
stopped_still (returned α c) = (refl, refl)
stopped_still (running c α f η K A) = (refl, refl)

none_still : (P : Program) (s : State) → Still s (run_of P 0 s)
unfolding run_of
none_still P s = stopped_still s

-- a run that tells q and stops at t, and the whole run that tells w
joined_at : (P : Program) (a b : ℕ) (s : State) {t : State} {q w : Ran} → run_of P a s ≡ q → q.state ≡ t → run_of P (a + b) s ≡ w → Joined b q (run_of P b t) w → Cut P a b s
joined_at P a b s {q = q} {w = w} e at f j = rw (e, f) (subst (λ u. Joined b q (run_of P b u) w) (sym (ap (λ (r : Ran). r.state) e ∙ at)) j)

-- a run with an allowance, cut after one step or more
later : (P : Program) (a b : ℕ) (s : State) → run_of P (suc a + b) s ≡ run_of P (suc (a + b)) s
later P a b s = let z : suc a + b ≡ suc (a + b) = omega arith in rw z

-- where every run with an allowance tells the same and takes no step, so does a further run
stay : (P : Program) (s : State) (q : Ran) → ((a : ℕ) → run_of P (suc a) s ≡ q) → Still s q → (a b : ℕ) → Cut P (suc a) b s
stay P s q same still a b = joined_at P (suc a) b s (same a) still.0 (later P a b s ∙ same (a + b)) (further b)
  where
    further : (b : ℕ) → Joined b q (run_of P b s) q
    further zero =
        let n = none_still P s in
        record { state = n.0 ∙ sym still.0; steps = omega (arith, n.1); outcome = λ h. absurd (omega (arith, h)) }
    further (suc b) = rw (same b) (record { state = refl; steps = omega (arith, still.1); outcome = λ h. refl })

module _ (P : Program) where
  -- every run, wherever it is cut
  pub cut : (a b : ℕ) (s : State) → Cut P a b s
  cut zero b s =
      let z : 0 + b ≡ b = omega arith in
      let n = none_still P s in
      joined_at P 0 b s refl n.0 (ap (λ k. run_of P k s) z) (record { state = refl; steps = omega (arith, n.1); outcome = λ h. refl })
  cut (suc a) b s = go (next P s) refl (λ t. cut a b t)
    where
      go : (m : Move) → next P s ≡ m → ((t : State) → Cut P a b t) → Cut P (suc a) b s
      go stuck e h = stay P s (stopped s) (λ k. unfold run_of in ap (λ (m : Move). onward s m (λ u. run_of P k u)) e) (stopped_still s) a b
      go (Move.goes r t) e h = by (within_limits t) on over
        where
          on : within_limits t ≡ true → Cut P (suc a) b s
          on w =
              let k : (n : ℕ) → run_of P (suc n) s ≡ counted (run_of P n t) = λ n. run_step P n s t r e ∙ rw w in
              let q = h t in
              joined_at P (suc a) b s (k a) refl (later P a b s ∙ k (a + b)) (record { state = q.state; steps = omega (arith, q.steps); outcome = q.outcome })

          over : within_limits t ≡ false → Cut P (suc a) b s
          over w = stay P s (stands s) (λ k. run_step P k s t r e ∙ rw w) (refl, refl) a b

  -- it stops where the whole run does
  pub resumed : (a b : ℕ) (s : State) → after P b (after P a s) ≡ after P (a + b) s
  resumed a b s = (cut a b s).state

  -- the steps add up
  pub resumed_steps : (a b : ℕ) (s : State) → (run_of P b (after P a s)).steps + (run_of P a s).steps ≡ (run_of P (a + b) s).steps
  resumed_steps a b s = (cut a b s).steps

  -- a second run that may take a step has the outcome of the whole run
  pub resumed_outcome : (a b : ℕ) (s : State) → 0 < b → (run_of P b (after P a s)).outcome ≡ (run_of P (a + b) s).outcome
  resumed_outcome a b s = (cut a b s).outcome
