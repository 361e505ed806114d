-- What an accepted step back says of its questions, and which refusal is its answer.
use mathlib.Core.Path.{◌≡◌, sym, ap, ◌∙◌}
use mathlib.Core.Bool.{true, false}
use mathlib.Core.List.{List, [], ◌∷◌, ◌++◌, append_assoc}
use Prim.Native.Nat.{ℕ, ◌-◌}
use Rattle.records.specs.Search.{unless}
use Rattle.spec_language.specs.Check.{accepted, refused, Asked, questions, refuse, first_refusal}
use Rattle.spec_machine.specs.File.{program_of}
use Rattle.spec_answers.specs.Answers.{room_for, image_in, memory_answer, granted, by_verdict}
use Rattle.spec_answers.proofs.Questions.{put_after, put_early, put_front, put_rest, test_passes, passes_test}
use Rattle.spec_log.specs.Records.{last_bytes}
use Rattle.spec_log.specs.Answers.{back_to, record_in, back_verdict, back_answer}

module _ (s m log : List ℕ) (used : ℕ) where
  -- the questions of the memory, and question 18 after them
  abbrev memory_questions : List Asked
  memory_questions = questions s ++ (room_for m ∷ image_in s m ∷ [])

  in_order : back_verdict s m log used ≡ first_refusal (memory_questions ++ (record_in s m log used ∷ []))
  unfolding back_verdict
  in_order = ap first_refusal (sym (append_assoc (questions s) (room_for m ∷ image_in s m ∷ []) (record_in s m log used ∷ [])))

  -- the memory is accepted and the record leads back
  pub back_so : back_verdict s m log used ≡ accepted → (memory_answer s m ≡ accepted) × (back_to (program_of s) m log used ≡ true)
  unfolding memory_answer record_in
  back_so e =
      let a = sym in_order ∙ e in
      (put_front memory_questions _ a, (test_passes 18 _ 0 [] (put_rest memory_questions _ a)).0)

  -- a refusal of the memory is the answer
  pub back_refused : (q p x : ℕ) → memory_answer s m ≡ refused q p x → back_verdict s m log used ≡ refused q p x
  unfolding memory_answer
  back_refused q p x e = in_order ∙ put_early memory_questions _ q p x e

  -- an accepted step back tells the used length without the last record
  pub back_tells : back_verdict s m log used ≡ accepted → back_answer s m log used ≡ granted (used - last_bytes log used)
  unfolding back_answer by_verdict
  back_tells e = rw e

  -- question 18 is left to decide
  back_last : memory_answer s m ≡ accepted → back_verdict s m log used ≡ first_refusal (record_in s m log used ∷ [])
  unfolding memory_answer
  back_last e = in_order ∙ put_after memory_questions _ e

  pub back_if : memory_answer s m ≡ accepted → back_to (program_of s) m log used ≡ true → back_verdict s m log used ≡ accepted
  unfolding record_in first_refusal
  back_if e t = back_last e ∙ passes_test 18 _ 0 [] t

  pub back_none : memory_answer s m ≡ accepted → back_to (program_of s) m log used ≡ false → back_verdict s m log used ≡ refused 18 0 0
  unfolding record_in first_refusal refuse unless
  back_none e t = back_last e ∙ rw t
