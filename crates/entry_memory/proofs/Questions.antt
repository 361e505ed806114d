-- The questions of the memory check and of look-up.
use mathlib.Core.Path.{◌≡◌, refl, sym, ◌∙◌}
use mathlib.Core.Bool.{Bool, true, false, false≢true}
use mathlib.Core.List.{List, [], ◌∷◌, ◌++◌, append_assoc}
use Prim.Native.Nat.{ℕ, ◌≤◌, ◌<◌}
use lib.ListN.{length, drop}
use borrow.Author.Tests.{lt-leb}
use Rattle.records.specs.Search.{unless}
use Rattle.words.proofs.Tests.{eq-same}
use Rattle.spec_language.specs.Check.{accepted, refused, questions, refuse, first_refusal, check_of}
use Rattle.spec_machine.specs.Machine.{State}
use Rattle.spec_machine.specs.Fit.{WithinLimits}
use Rattle.spec_machine.specs.Test.{fit}
use Rattle.spec_machine.specs.Run.{look_up}
use Rattle.spec_machine.specs.File.{program_of}
use Rattle.spec_image.specs.Image.{image}
use Rattle.spec_image.specs.Decode.{state_of}
use Rattle.spec_image.specs.Sizes.{size}
use Rattle.spec_image.specs.Memory.{Holds, fit_words}
use Rattle.spec_image.specs.Narrow.{Narrow}
use Rattle.spec_image.proofs.Sized.{file_sized, fit_narrow}
use Rattle.spec_image.proofs.Memory.{held_whole, holds_fit}
use Rattle.fit_state.specs.HoldsState.{HoldsState}
use Rattle.spec_answers.specs.Answers.{room_for, image_in, is_present, variable_in, memory_answer, look_verdict, granted, denied, by_verdict, value_or, look_answer}
use Rattle.spec_answers.proofs.Questions.{put_after, put_early, memory_so, memory_if, memory_unfit}

-- ---- question 16

pub image_held : (m : List ℕ) → Holds m (state_of m) × WithinLimits (state_of m) × Narrow (state_of m) → HoldsState m
image_held m h = record { state = state_of m; rest = drop size m; held = held_whole m (state_of m) h.0; within = h.1; narrow = h.2 }

module _ (s m : List ℕ) where
  -- words that are no image of a state within the limits and narrow
  pub no_image : check_of s ≡ accepted → (r : Bool) → ((t : State) → WithinLimits t → Narrow t → Holds m t → r ≡ true) → r ≡ false → false ≡ fit_words (program_of s) m
  no_image e r h q = sym (go (fit_words (program_of s) m) refl)
    where
      go : (b : Bool) → fit_words (program_of s) m ≡ b → fit_words (program_of s) m ≡ false
      go false z = z
      go true z =
          let f = holds_fit (program_of s) m z in
          absurd (false≢true (sym q ∙ h (state_of m) f.1.within (fit_narrow (program_of s) (file_sized s e) (state_of m) f.1) f.0))

  -- words that are the image of a state
  pub an_image : (r : Bool) → Holds m (state_of m) × WithinLimits (state_of m) × Narrow (state_of m)
      → ((t : State) (R : List ℕ) → m ≡ image t ++ R → WithinLimits t → Narrow t → r ≡ fit (program_of s) t) → r ≡ fit_words (program_of s) m
  unfolding fit_words
  an_image r h f = f (state_of m) (drop size m) (held_whole m (state_of m) h.0) h.1 h.2 ∙ rw (h.0, eq-same (image (state_of m)))

-- ---- the memory check

module _ (s m : List ℕ) where
  pub memory_early : (k p x : ℕ) → check_of s ≡ refused k p x → refused k p x ≡ memory_answer s m
  unfolding check_of memory_answer
  memory_early k p x e = sym (put_early (questions s) (room_for m ∷ image_in s m ∷ []) k p x e)

  pub memory_short : check_of s ≡ accepted → length m < size → refused 15 0 0 ≡ memory_answer s m
  unfolding check_of memory_answer room_for first_refusal refuse unless
  memory_short e l =
      let b : first_refusal (room_for m ∷ image_in s m ∷ []) ≡ refused 15 0 0 = rw (lt-leb size (length m) l) in
      sym (put_after (questions s) (room_for m ∷ image_in s m ∷ []) e ∙ b)

  pub memory_none : check_of s ≡ accepted → size ≤ length m → fit_words (program_of s) m ≡ false → refused 16 0 0 ≡ memory_answer s m
  memory_none e l q = sym (memory_unfit s m e l q)

  pub memory_held : check_of s ≡ accepted → size ≤ length m → fit_words (program_of s) m ≡ true → accepted ≡ memory_answer s m
  memory_held e l q = sym (memory_if s m e l q)

-- ---- an accepted memory

module _ (s m : List ℕ) (e : memory_answer s m ≡ accepted) where
  -- it is long enough, and holds a state
  pub room_held : size ≤ length m
  room_held = (memory_so s m e).1

  pub state_held : HoldsState m
  state_held =
      let f = holds_fit (program_of s) m (memory_so s m e).2 in
      image_held m (f.0, f.1.within, fit_narrow (program_of s) (file_sized s (memory_so s m e).0) (state_of m) f.1)

-- ---- look-up

module _ (s m : List ℕ) (x : ℕ) where
  look_parted : look_verdict s m x ≡ first_refusal ((questions s ++ (room_for m ∷ image_in s m ∷ [])) ++ (variable_in m x ∷ []))
  unfolding look_verdict
  look_parted = rw (append_assoc (questions s) (room_for m ∷ image_in s m ∷ []) (variable_in m x ∷ []))

  pub look_early : (k p i : ℕ) → memory_answer s m ≡ refused k p i → look_answer s m x ≡ denied k p i
  unfolding memory_answer look_answer by_verdict
  look_early k p i e =
      let a : look_verdict s m x ≡ refused k p i = look_parted ∙ put_early (questions s ++ (room_for m ∷ image_in s m ∷ [])) (variable_in m x ∷ []) k p i e in
      rw a

  look_late : memory_answer s m ≡ accepted → look_verdict s m x ≡ first_refusal (variable_in m x ∷ [])
  unfolding memory_answer
  look_late e = look_parted ∙ put_after (questions s ++ (room_for m ∷ image_in s m ∷ [])) (variable_in m x ∷ []) e

  pub look_none : memory_answer s m ≡ accepted → is_present (look_up (state_of m) x) ≡ false → look_answer s m x ≡ denied 17 0 0
  unfolding look_answer by_verdict variable_in first_refusal refuse unless
  look_none e q =
      let a : look_verdict s m x ≡ refused 17 0 0 = look_late e ∙ rw q in
      rw a

  pub look_granted : memory_answer s m ≡ accepted → is_present (look_up (state_of m) x) ≡ true → look_answer s m x ≡ granted (value_or (look_up (state_of m) x))
  unfolding look_answer by_verdict variable_in first_refusal refuse unless
  look_granted e q =
      let a : look_verdict s m x ≡ accepted = look_late e ∙ rw q in
      rw a
