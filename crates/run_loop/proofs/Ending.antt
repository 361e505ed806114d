-- How runs end.
use mathlib.Core.Path.{◌≡◌, refl, sym, ap, subst, ◌∙◌}
use mathlib.Core.Bool.{true, false}
use mathlib.Core.List.{List, [], ◌∷◌, ◌++◌, append_assoc}
use Prim.Native.Nat.{ℕ, zero, suc, ◌+◌, ◌-◌, ◌≤◌, ◌<◌}
use native.Mathlib.Omega.{arith}
use lib.ListN.{replicate, replicate-append-replicate}
use Rattle.varset.specs.Lowest.{pick}
use Rattle.words.specs.Blocks.{puts}
use Rattle.arith.specs.Int.{int}
use Rattle.spec_machine.specs.Values.{Value}
use Rattle.spec_machine.specs.Program.{Program}
use Rattle.spec_machine.specs.Machine as machine
use Rattle.spec_machine.specs.Machine.{Frame, Control, Saved, RunEnv, State, running, Rule}
use Rattle.spec_machine.specs.Next.{Move, goes, next}
use Rattle.spec_machine.specs.Run as run
use Rattle.spec_machine.specs.Run.{within_limits, onward, run_of}
use Rattle.spec_image.specs.Layout.{filled, env_words}
use Rattle.spec_image.specs.Image.{head_words, activations_of, frames_of, env_part, image, exception_tag}
use Rattle.spec_image.proofs.Images.{env_zero}
use Rattle.spec_image.proofs.Heads.{rooms_head, image_rooms, empty_rooms}
use Rattle.run_loop.specs.declared.Outcome.{Outcome}
use Rattle.run_loop.specs.declared.Outcome.TheVariants as code
use Rattle.run_loop.specs.Runs.{outcome_of, Ends, Emptied, Wiped, Rests}

-- ---- states without activations

pub returned_rests : (α : RunEnv) (c : ℕ) → Rests (machine.returned α c) 3 c
unfolding head_words activations_of frames_of
returned_rests α c = record { head = refl; activations = refl; frames = refl }

pub value_rests : (c : ℕ) → Rests (State.value c) 4 c
unfolding head_words activations_of frames_of
value_rests c = record { head = refl; activations = refl; frames = refl }

pub raised_rests : (x : machine.Exception) → Rests (machine.exception x) (exception_tag x) 0
unfolding head_words activations_of frames_of filled
raised_rests x = record { head = refl; activations = refl; frames = refl }

no_head : replicate {A = ℕ} 128 0 ≡ filled 128 []
unfolding filled
no_head = refl

pub rest_stored : (s : State) (m R : List ℕ) (tag word : ℕ) → Emptied m (env_part s ++ R) → Rests s tag word → puts m 0 0 (tag ∷ word ∷ []) ≡ image s ++ R
rest_stored s m R tag word c r =
    stored 14720 refl
  where
    stored : (z : ℕ) → z ≡ 14720 → puts m 0 0 (tag ∷ word ∷ []) ≡ image s ++ R
    stored z all =
        rw (c z all, ← empty_rooms z all, image_rooms s R, r.activations, r.frames, r.head, no_head) (rooms_head (env_part s ++ R) [] [] [] (tag ∷ word ∷ []) (omega arith) (omega arith))

-- ---- the environment at the end

-- words that are all zero are zero before and after the environment begins
wiped_emptied : (m R : List ℕ) → Wiped m R → Emptied m (replicate 1664 0 ++ R)
wiped_emptied m R c z all =
    let n : z + 1664 ≡ 16384 = omega arith in
    c (z + 1664) n ∙ ap (λ (l : List ℕ). l ++ R) (sym (replicate-append-replicate {A = ℕ} z 1664 0)) ∙ append_assoc (replicate z 0) (replicate 1664 0) R

-- what a value, and a return, are put into
pub value_emptied : (α : RunEnv) (w : ℕ) (m R : List ℕ) → α.entry ≡ 0 → Emptied m (env_words α ++ R) → Emptied m (env_part (State.value w) ++ R)
unfolding env_part
value_emptied α w m R n c = subst (λ (l : List ℕ). Emptied m (l ++ R)) (env_zero α n) c

pub returned_emptied : (α : RunEnv) (w : ℕ) (m R : List ℕ) → Emptied m (env_words α ++ R) → Emptied m (env_part (machine.returned α w) ++ R)
unfolding env_part
returned_emptied α w m R c = c

pub raised_emptied : (x : machine.Exception) (m R : List ℕ) → Wiped m R → Emptied m (env_part (machine.exception x) ++ R)
unfolding env_part
raised_emptied x m R c = wiped_emptied m R c

-- ---- one step, and the run after it

one-step : (P : Program) (a : ℕ) (s t : State) (r : Rule) → next P s ≡ goes r t
    → run_of P (suc a) s ≡ pick (within_limits t) (run.counted (run_of P a t)) (record { outcome = run.Full; steps = 0; state = s })
unfolding run_of
one-step P a s t r e = ap (λ (m : Move). onward s m (λ u. run_of P a u)) e

module _ (P : Program) (n k : ℕ) (s t : State) (r : Rule) (less : k < n) (e : next P s ≡ goes r t) where
  left : n - k ≡ suc (n - (k + 1))
  left = omega arith

  pub ends_step : {o : Outcome} {st : ℕ} {m R : List ℕ} → within_limits t ≡ true → Ends (k + 1) (run_of P (n - (k + 1)) t) o st m R → Ends k (run_of P (n - k) s) o st m R
  ends_step w q =
      let i : run_of P (n - k) s ≡ run.counted (run_of P (n - (k + 1)) t) = rw left (one-step P (n - (k + 1)) s t r e ∙ rw w) in
      let d = q.steps_are in
      rw i (record { outcome_is = q.outcome_is; steps_are = omega arith; held = q.held })

  pub ends_full : {m R : List ℕ} → within_limits t ≡ false → m ≡ image s ++ R → Ends k (run_of P (n - k) s) code.Full k m R
  unfolding outcome_of
  ends_full w q =
      let i : run_of P (n - k) s ≡ record { outcome = run.Full; steps = 0; state = s } = rw left (one-step P (n - (k + 1)) s t r e ∙ rw w) in
      rw i (record { outcome_is = refl; steps_are = omega arith; held = q })

-- ---- where a run stops

module _ (P : Program) where
  pub ends_spent : (n k : ℕ) (c : Control) (α : RunEnv) (f : ℕ) (η : List Value) (K : List Frame) (A : List Saved) (m R : List ℕ) → n ≤ k
      → m ≡ image (running c α f η K A) ++ R → Ends k (run_of P (n - k) (running c α f η K A)) code.Spent k m R
  unfolding run_of outcome_of
  ends_spent n k c α f η K A m R h q =
      let z : n - k ≡ 0 = omega arith in
      rw z (record { outcome_is = refl; steps_are = omega arith; held = q })

  pub ends_returned : (n k : ℕ) (α : RunEnv) (w : ℕ) (m R : List ℕ) → n ≤ k → m ≡ image (machine.returned α w) ++ R → Ends k (run_of P (n - k) (machine.returned α w)) code.Spent k m R
  unfolding run_of outcome_of
  ends_returned n k α w m R h q =
      let z : n - k ≡ 0 = omega arith in
      rw z (record { outcome_is = refl; steps_are = omega arith; held = q })

  value_run : (a w : ℕ) → run_of P a (State.value w) ≡ record { outcome = run.Outcome.value w; steps = 0; state = State.value w }
  unfolding run_of
  value_run zero w = refl
  value_run (suc a) w = refl

  pub ends_value : (n k w : ℕ) (m R : List ℕ) → m ≡ image (State.value w) ++ R → Ends k (run_of P (n - k) (State.value w)) (code.Value (int w)) k m R
  unfolding outcome_of
  ends_value n k w m R q = rw (value_run (n - k) w) (record { outcome_is = refl; steps_are = omega arith; held = q })

  raised_run : (a : ℕ) (x : machine.Exception) → run_of P a (machine.exception x) ≡ record { outcome = run.raised x; steps = 0; state = machine.exception x }
  unfolding run_of
  raised_run zero x = refl
  raised_run (suc a) x = refl

  pub ends_raised : (n k : ℕ) (x : machine.Exception) (m R : List ℕ) → m ≡ image (machine.exception x) ++ R
      → Ends k (run_of P (n - k) (machine.exception x)) (outcome_of (run.raised x)) k m R
  ends_raised n k x m R q = rw (raised_run (n - k) x) (record { outcome_is = refl; steps_are = omega arith; held = q })

  -- from the first
  pub run_value : (n w : ℕ) (m R : List ℕ) → m ≡ image (State.value w) ++ R → Ends 0 (run_of P n (State.value w)) (code.Value (int w)) 0 m R
  unfolding outcome_of
  run_value n w m R q = rw (value_run n w) (record { outcome_is = refl; steps_are = refl; held = q })

  pub run_raised : (n : ℕ) (x : machine.Exception) (m R : List ℕ) → m ≡ image (machine.exception x) ++ R → Ends 0 (run_of P n (machine.exception x)) (outcome_of (run.raised x)) 0 m R
  run_raised n x m R q = rw (raised_run n x) (record { outcome_is = refl; steps_are = refl; held = q })
