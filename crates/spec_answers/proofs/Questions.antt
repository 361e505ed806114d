-- Questions put one after another, and what an accepted answer says of each.
use Rattle.std.specs.Prelude.{Some, None}
use mathlib.Core.Path.{◌≡◌, refl, sym, ◌∙◌}
use mathlib.Core.Bool.{Bool, true, false}
use mathlib.Core.List.{List, [], ◌∷◌, ◌++◌}
use Prim.Native.Nat.{ℕ, ◌≤◌}
use native.Mathlib.Omega.{arith}
use lib.ListN.{length}
use borrow.Author.Tests.{le-leb, leb-true}
use Rattle.records.specs.Search.{At, unless}
use Rattle.spec_language.specs.Check.{accepted, refused, Asked, ask, questions, refuse, first_refusal, check_of}
use Rattle.spec_machine.specs.Run.{look_up}
use Rattle.spec_machine.specs.File.{program_of}
use Rattle.spec_image.specs.Decode.{state_of}
use Rattle.spec_image.specs.Sizes.{size}
use Rattle.spec_image.specs.Memory.{fit_words}
use Rattle.spec_answers.specs.Answers.{is_present, room_for, image_in, variable_in, start_answer, memory_answer, look_verdict}

-- no refusal is an acceptance
never : {A : Type 0} (q p x : ℕ) → refused q p x ≡ accepted → A
never q p x e = let z : ◌≡◌ {A = ℕ} 0 1 = cc in absurd (omega arith)

-- questions that pass leave the verdict to the later ones
pub put_after : (qs rs : List Asked) → first_refusal qs ≡ accepted → first_refusal (qs ++ rs) ≡ first_refusal rs
unfolding first_refusal refuse
put_after [] rs e = refl
put_after (ask k (Some found) ∷ qs) rs e = never k found.place found.item e
put_after (ask k None ∷ qs) rs e = put_after qs rs e

-- a refusal is the first one
pub put_early : (qs rs : List Asked) (k p x : ℕ) → first_refusal qs ≡ refused k p x → first_refusal (qs ++ rs) ≡ refused k p x
unfolding first_refusal refuse
put_early [] rs k p x e = never k p x (sym e)
put_early (ask j (Some found) ∷ qs) rs k p x e = e
put_early (ask j None ∷ qs) rs k p x e = put_early qs rs k p x e

-- where all pass, the first ones do
pub put_front : (qs rs : List Asked) → first_refusal (qs ++ rs) ≡ accepted → first_refusal qs ≡ accepted
unfolding first_refusal refuse
put_front [] rs e = refl
put_front (ask k (Some found) ∷ qs) rs e = never k found.place found.item e
put_front (ask k None ∷ qs) rs e = put_front qs rs e

-- and so do the later ones
pub put_rest : (qs rs : List Asked) → first_refusal (qs ++ rs) ≡ accepted → first_refusal rs ≡ accepted
put_rest qs rs e = sym (put_after qs rs (put_front qs rs e)) ∙ e

-- one question that is a test
pub test_passes : (k : ℕ) (b : Bool) (p : ℕ) (rs : List Asked) → first_refusal (ask k (unless b p) ∷ rs) ≡ accepted → (b ≡ true) × (first_refusal rs ≡ accepted)
unfolding first_refusal refuse unless
test_passes k true p rs e = (refl, e)
test_passes k false p rs e = never k p 0 e

pub passes_test : (k : ℕ) (b : Bool) (p : ℕ) (rs : List Asked) → b ≡ true → first_refusal (ask k (unless b p) ∷ rs) ≡ first_refusal rs
unfolding first_refusal refuse unless
passes_test k true p rs e = refl
passes_test k false p rs e = let z : ◌≡◌ {A = ℕ} 0 1 = cc in absurd (omega arith)

module _ (s m : List ℕ) where
  -- start: the file is accepted and the memory has room
  pub start_so : start_answer s m ≡ accepted → (check_of s ≡ accepted) × (size ≤ length m)
  unfolding start_answer check_of room_for
  start_so e = (put_front (questions s) _ e, leb-true size (length m) (test_passes 15 _ 0 [] (put_rest (questions s) _ e)).0)

  -- run and memory check: and the words are the image of a fit state
  pub memory_so : memory_answer s m ≡ accepted → (check_of s ≡ accepted) × (size ≤ length m) × (fit_words (program_of s) m ≡ true)
  unfolding memory_answer check_of room_for image_in
  memory_so e =
      let r = test_passes 15 _ 0 _ (put_rest (questions s) _ e) in
      (put_front (questions s) _ e, leb-true size (length m) r.0, (test_passes 16 _ 0 [] r.1).0)

  -- question 16 is left to decide
  memory_long : check_of s ≡ accepted → size ≤ length m → memory_answer s m ≡ first_refusal (image_in s m ∷ [])
  unfolding memory_answer check_of room_for
  memory_long e h = put_after (questions s) _ e ∙ passes_test 15 _ 0 (image_in s m ∷ []) (le-leb size (length m) h)

  pub memory_if : check_of s ≡ accepted → size ≤ length m → fit_words (program_of s) m ≡ true → memory_answer s m ≡ accepted
  unfolding image_in first_refusal
  memory_if e h f = memory_long e h ∙ passes_test 16 _ 0 [] f

  pub memory_unfit : check_of s ≡ accepted → size ≤ length m → fit_words (program_of s) m ≡ false → memory_answer s m ≡ refused 16 0 0
  unfolding image_in first_refusal refuse unless
  memory_unfit e h f = memory_long e h ∙ rw f

  -- look-up: and the current activation has the variable
  pub look_so : (x : ℕ) → look_verdict s m x ≡ accepted → (check_of s ≡ accepted) × (is_present (look_up (state_of m) x) ≡ true)
  unfolding look_verdict check_of room_for image_in variable_in
  look_so x e =
      let r = test_passes 15 _ 0 _ (put_rest (questions s) _ e) in
      let v = test_passes 16 _ 0 _ r.1 in
      (put_front (questions s) _ e, (test_passes 17 _ 0 [] v.1).0)
