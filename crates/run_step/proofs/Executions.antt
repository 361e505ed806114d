-- Statements executed, by their references.
use mathlib.Core.Path.{◌≡◌, refl, ◌∙◌}
use mathlib.Core.Bool.{true, false≢true}
use mathlib.Core.List.{List, [], ◌∷◌, ◌++◌}
use Prim.Native.Nat.{ℕ, ◌+◌, ◌*◌, ◌≤◌, ◌<◌}
use lib.ListN.{length, get_or}
use Rattle.records.specs.Fields.{kind_at, b_at}
use Rattle.spec_language.specs.KindLists.{is_statement}
use Rattle.spec_language.specs.Flow.{returns}
use Rattle.spec_machine.specs.Values.{Value}
use Rattle.spec_machine.specs.Program.{Ref, node, if_of, seq_of}
use Rattle.spec_machine.specs.Machine.{Frame, gather, and, wait, branch, check, exec, Saved, RunEnv, running}
use Rattle.spec_machine.specs.Next.{runs, passes}
use Rattle.spec_machine.specs.Fit.{Fit}
use Rattle.spec_machine.specs.File.{form_at, see_at, stmt_at, program_of}
use Rattle.spec_image.specs.Sizes.{caller_room}
use Rattle.spec_image.specs.Core.{core}
use Rattle.spec_image.specs.Decode.{ref_of}
use Rattle.spec_image.specs.Layout.{ref_word}
use Rattle.spec_image.specs.Image.{saved_frames}
use Rattle.spec_image.proofs.ValueWords.{ref_back}
use Rattle.spec_image.proofs.Frames.{top_first}
use Rattle.state_words.specs.Meaning.{frame_at}
use Rattle.run_rules.specs.declared.Registers.{Registers}
use Rattle.run_rules.specs.declared.Stepped.{Stepped}
use Rattle.run_rules.specs.StepsTo.{Rest, Describes, Bounds, StepsTo}
use Rattle.run_step.specs.StepsBy.{Executes, StepsBy}

-- the word of a statement that waits in the top frame
pub waits_word : (l : List ℕ) (n f : ℕ) (η : List Value) (r : Ref) (K : List Frame) (A : List Saved) (R : List ℕ) (w : ℕ)
    → l ≡ core f η (wait r ∷ K) A ++ R → length A < caller_room → n ≡ length (K ++ saved_frames A) → w ≡ get_or l (frame_at n + 1) 0 → ref_of w ≡ r
unfolding frame_at
waits_word l n f η r K A R w e few count d =
    let q : w ≡ ref_word r = d ∙ rw e (top_first f η K A R n (4480 + n * 20) few count refl (wait r)) in
    rw q (ref_back r)

-- the word of nop
pub ref_nop : (w : ℕ) → w ≡ 0 → ref_of w ≡ Ref.nop
unfolding ref_of
ref_nop w e = rw e

module _ (t l : List ℕ) (h : Registers) (r : Ref) (b : Bounds h l) where
  pub executes_node : {i : ℕ} → r ≡ node i → Executes t r
      → (Bounds h l × (12 * i + 12 ≤ length t) × (i < 4096) × (0 < i) × (is_statement (kind_at t i) ≡ true)) × (kind_at t i ≡ 9 → b_at t i < 64)
  executes_node {i} e x = let y : Executes t (node i) = rw e at x in ((b, y.0.0, y.0.1, y.0.2, y.1), y.2)

  pub executes_if : {w : ℕ} → r ≡ if_of w → Executes t r → (Bounds h l × (12 * w + 12 ≤ length t) × (w < 4096) × (0 < w)) × (kind_at t w ≡ 11)
  executes_if {w} e x = let y : Executes t (if_of w) = rw e at x in ((b, y.0.0, y.0.1, y.0.2), y.1)

  pub executes_seq : {w : ℕ} → r ≡ seq_of w → Executes t r → (Bounds h l × (12 * w + 12 ≤ length t) × (w < 4096) × (0 < w)) × (kind_at t w ≡ 11)
  executes_seq {w} e x = let y : Executes t (seq_of w) = rw e at x in ((b, y.0.0, y.0.1, y.0.2), y.1)

module _ (s : List ℕ) (a : Stepped) (h : Registers) (l m : List ℕ) (R : Rest) (α : RunEnv) (f : ℕ) (η : List Value) where
  -- nop goes on with what waits
  waits_done : (K : List Frame) (A : List Saved) → l ≡ core f η K A ++ R α → Describes s h f K A → Fit (program_of s) (running (exec Ref.nop) α f η K A)
      → ((w : Ref) (L : List Frame) → l ≡ core f η (wait w ∷ L) A ++ R α → Describes s h f (wait w ∷ L) A → StepsTo s a l m R (running (exec w) α f η L A))
      → StepsBy s a l m R (passes α f η K A)
  unfolding program_of stmt_at returns
  waits_done [] A i j fit q = absurd (false≢true fit.proper.returns)
  waits_done (wait w ∷ L) A i j fit q = q w L i j
  waits_done (gather k vs ns ∷ L) A i j fit q = absurd fit.proper.frames.1
  waits_done (and n ∷ L) A i j fit q = absurd fit.proper.frames.1
  waits_done (Frame.store x ∷ L) A i j fit q = absurd fit.proper.frames.1
  waits_done (branch x y ∷ L) A i j fit q = absurd fit.proper.frames.1
  waits_done (Frame.leave ∷ L) A i j fit q = absurd fit.proper.frames.1
  waits_done (check ∷ L) A i j fit q = absurd fit.proper.frames.1
  waits_done (Frame.discard ∷ L) A i j fit q = absurd fit.proper.frames.1

  pub nop_done : (K : List Frame) (A : List Saved) (t : List ℕ) (r : Ref) → r ≡ Ref.nop → l ≡ core f η K A ++ R α → Describes s h f K A
      → Fit (program_of s) (running (exec r) α f η K A)
      → ((w : Ref) (L : List Frame) → l ≡ core f η (wait w ∷ L) A ++ R α → Describes s h f (wait w ∷ L) A → StepsTo s a l m R (running (exec w) α f η L A))
      → StepsBy s a l m R (runs (program_of s) (see_at t r) α f η K A)
  unfolding see_at
  nop_done K A t r e i j fit q = rw e (waits_done K A i j (rw e at fit) q)

module _ (s : List ℕ) (a : Stepped) (l m : List ℕ) (R : Rest) (α : RunEnv) (f : ℕ) (η : List Value) (K : List Frame) (A : List Saved) (t : List ℕ) (r : Ref) where
  pub node_done : {i : ℕ} → r ≡ node i → Fit (program_of s) (running (exec r) α f η K A)
      → (Fit (program_of s) (running (exec (node i)) α f η K A) → StepsBy s a l m R (runs (program_of s) (form_at t i) α f η K A))
      → StepsBy s a l m R (runs (program_of s) (see_at t r) α f η K A)
  unfolding see_at
  node_done {i} e fit q = rw e (q (rw e at fit))

  pub if_done : {w : ℕ} → r ≡ if_of w → StepsBy s a l m R (runs (program_of s) (see_at t (if_of w)) α f η K A)
      → StepsBy s a l m R (runs (program_of s) (see_at t r) α f η K A)
  if_done e q = rw e q

  pub seq_done : {w : ℕ} → r ≡ seq_of w → StepsBy s a l m R (runs (program_of s) (see_at t (seq_of w)) α f η K A)
      → StepsBy s a l m R (runs (program_of s) (see_at t r) α f η K A)
  seq_done e q = rw e q
