-- Statements executed, by their kind.
use mathlib.Core.Path.{◌≡◌}
use mathlib.Core.Logic.{◌⊎◌, inl, inr}
use mathlib.Core.List.{List, [], ◌∷◌}
use Prim.Native.Nat.{ℕ, ◌-◌, ◌≤◌, ◌<◌}
use native.Mathlib.Omega.{arith}
use native.Mathlib.Decide.{ℕ_discrete}
use Rattle.records.specs.Fields.{kind_at, b_at, size_at}
use Rattle.records.specs.Parts.{part_of}
use Rattle.spec_language.specs.Statements.{prior, last, shapes, shape_at}
use Rattle.spec_machine.specs.Program.{StmtForm}
use Rattle.spec_machine.specs.Machine.{Frame, check, Saved, RunEnv, running, reach_l}
use Rattle.spec_machine.specs.Values.{Value}
use Rattle.spec_machine.specs.Next.{runs}
use Rattle.spec_machine.specs.File.{ref_at, look_at, form_of, form_at, program_of}
use Rattle.spec_image.specs.Layout.{filled, block, frame_words}
use Rattle.run_rules.specs.declared.Stepped.{Stepped}
use Rattle.run_rules.specs.StepsTo.{Rest, StepsTo}
use Rattle.run_step.specs.StepsBy.{StepsBy}
use Rattle.run_step.proofs.Levels.{form_shape}

module _ (t : List ℕ) (i : ℕ) (p : 0 < i) where
  pub form_seq : kind_at t i ≡ 7 → form_at t i ≡ StmtForm.seq (ref_at t (i - 1 - size_at t (i - 1))) (ref_at t (i - 1))
  unfolding form_of shape_at shapes prior last
  form_seq e = rw (form_shape t i p, e)

  pub form_assign : kind_at t i ≡ 8 → form_at t i ≡ StmtForm.assign (b_at t i) (i - 1)
  unfolding form_of shape_at shapes prior last
  form_assign e = rw (form_shape t i p, e)

  pub form_decl : kind_at t i ≡ 9 → form_at t i ≡ StmtForm.decl (b_at t i) (ref_at t (i - 1))
  unfolding form_of shape_at shapes prior last
  form_decl e = rw (form_shape t i p, e)

  pub form_if : kind_at t i ≡ 10 → (b : ℕ) → b ≡ i - 1 - size_at t (i - 1) → form_at t i ≡ StmtForm.if (b - size_at t b) (ref_at t b) (ref_at t (i - 1))
  unfolding form_of shape_at shapes prior last
  form_if e b h = rw (h, form_shape t i p, e)

  pub form_while : kind_at t i ≡ 11 → form_at t i ≡ StmtForm.while i (i - 1 - size_at t (i - 1)) (ref_at t (i - 1))
  unfolding form_of shape_at shapes prior last
  form_while e = rw (form_shape t i p, e)

  form_return : kind_at t i ≡ 12 → form_at t i ≡ StmtForm.return (i - 1)
  unfolding form_of shape_at shapes prior last
  form_return e = rw (form_shape t i p, e)

  form_assert : kind_at t i ≡ 13 → form_at t i ≡ StmtForm.assert (i - 1)
  unfolding form_of shape_at shapes prior last
  form_assert e = rw (form_shape t i p, e)

  form_expr : kind_at t i ≡ 14 → form_at t i ≡ StmtForm.expr (i - 1)
  unfolding form_of shape_at shapes prior last
  form_expr e = rw (form_shape t i p, e)

three : (n : ℕ) → 12 ≤ n → n ≤ 14 → (n ≡ 12) ⊎ ((n ≡ 13) ⊎ (n ≡ 14))
three n a b = first (ℕ_discrete n 12) (ℕ_discrete n 13)
  where
    first : Dec (n ≡ 12) → Dec (n ≡ 13) → (n ≡ 12) ⊎ ((n ≡ 13) ⊎ (n ≡ 14))
    first (yes e) d = inl e
    first (no u) (yes e) = inr (inl e)
    first (no u) (no v) = inr (inr (omega arith))

-- the frame of a statement of one expression
module _ (s t : List ℕ) (r : Stepped) (l m : List ℕ) (R : Rest) (α : RunEnv) (f : ℕ) (η : List Value) (K : List Frame) (A : List Saved) (i : ℕ) (p : 0 < i) (part : t ≡ part_of s f) where
  pub single_done : (k : ℕ) → 12 ≤ kind_at t i → kind_at t i ≤ 14 → k ≡ kind_at t i - 5
      → ((fr : Frame) → frame_words fr ≡ filled 20 (k ∷ 0 ∷ 0 ∷ 0 ∷ []) → StepsTo s r l m R (running (reach_l (i - 1) (look_at t (i - 1))) α f η (fr ∷ K) A))
      → StepsBy s r l m R (runs (program_of s) (form_at t i) α f η K A)
  single_done k lo hi e q = go (three (kind_at t i) lo hi)
    where
      go : (kind_at t i ≡ 12) ⊎ ((kind_at t i ≡ 13) ⊎ (kind_at t i ≡ 14)) → StepsBy s r l m R (runs (program_of s) (form_at t i) α f η K A)
      go (inl h) = unfold program_of frame_words block in (rw (form_return t i p h, ← part) (q Frame.leave (rw (e, h))))
      go (inr (inl h)) = unfold program_of frame_words block in (rw (form_assert t i p h, ← part) (q check (rw (e, h))))
      go (inr (inr h)) = unfold program_of frame_words block in (rw (form_expr t i p h, ← part) (q Frame.discard (rw (e, h))))
