-- The question of the start after those of the file, and the words of the start.
use mathlib.Core.Path.{◌≡◌, sym, ap, ◌∙◌}
use mathlib.Core.List.{List, [], ◌∷◌, ◌++◌}
use Prim.Native.Nat.{ℕ, ◌+◌, ◌≤◌, ◌<◌}
use native.Mathlib.Omega.{arith}
use lib.ListN.{length, drop, set, replicate, length-replicate, replicate-append-replicate}
use borrow.Author.Tests.{le-leb, lt-leb}
use Rattle.words.specs.Blocks.{puts}
use Rattle.words.proofs.Blocks.{zeroed}
use Rattle.records.specs.Search.{unless}
use Rattle.spec_language.specs.Check.{accepted, refused, questions, refuse, first_refusal, check_of}
use Rattle.spec_machine.specs.Machine.{main_call}
use Rattle.spec_image.specs.Layout.{filled, env_words}
use Rattle.spec_image.specs.Image.{head_words, activations_of, frames_of, env_part, image}
use Rattle.spec_image.specs.Sizes.{size}
use Rattle.spec_answers.specs.Answers.{room_for, start_answer, written, start_memory}
use Rattle.spec_answers.proofs.Questions.{put_after, put_early}

module _ (s m : List ℕ) where
  pub refused_early : (k p x : ℕ) → check_of s ≡ refused k p x → (refused k p x ≡ start_answer s m) × (m ≡ start_memory s m)
  unfolding check_of start_answer start_memory written
  refused_early k p x e =
      let a : first_refusal (questions s ++ (room_for m ∷ [])) ≡ refused k p x = put_early (questions s) (room_for m ∷ []) k p x e in
      (sym a, rw a)

  pub no_room : check_of s ≡ accepted → length m < size → (refused 15 0 0 ≡ start_answer s m) × (m ≡ start_memory s m)
  unfolding check_of start_answer start_memory written room_for first_refusal refuse unless
  no_room e l =
      let b : first_refusal (room_for m ∷ []) ≡ refused 15 0 0 = rw (lt-leb size (length m) l) in
      let a : first_refusal (questions s ++ (room_for m ∷ [])) ≡ refused 15 0 0 = put_after (questions s) (room_for m ∷ []) e ∙ b in
      (sym a, rw a)

  pub started : (l : List ℕ) → check_of s ≡ accepted → size ≤ length m → l ≡ image main_call ++ drop size m → (accepted ≡ start_answer s m) × (l ≡ start_memory s m)
  unfolding check_of start_answer start_memory written room_for first_refusal refuse unless
  started l e h g =
      let b : first_refusal (room_for m ∷ []) ≡ accepted = rw (le-leb size (length m) h) in
      let a : first_refusal (questions s ++ (room_for m ∷ [])) ≡ accepted = put_after (questions s) (room_for m ∷ []) e ∙ b in
      (sym a, rw a g)

-- main() is a tag and zeros
main_words : image main_call ≡ 1 ∷ replicate 16383 0
unfolding image head_words activations_of frames_of env_part env_words filled
main_words =
    ap (λ (l : List ℕ). 1 ∷ l) (ap (λ (l : List ℕ). replicate 127 0 ++ (replicate 4352 0 ++ l)) (replicate-append-replicate 10240 1664 0)
    ∙ ap (λ (l : List ℕ). replicate 127 0 ++ l) (replicate-append-replicate 4352 11904 0) ∙ replicate-append-replicate 127 16256 0)

-- zeros, and the tag in the first word
pub start_words : (m l : List ℕ) (n : ℕ) → n ≡ size → n ≤ length m → l ≡ set (puts m 0 0 (replicate n 0)) 0 1 → l ≡ image main_call ++ drop size m
start_words m l n q h e =
    let a : puts m 0 0 (replicate n 0) ≡ replicate n 0 ++ drop n m = zeroed m n h in
    let b : replicate n 0 ++ drop n m ≡ replicate size 0 ++ drop size m = ap (λ (k : ℕ). replicate k 0 ++ drop k m) q in
    e ∙ ap (λ (k : List ℕ). set k 0 1) (a ∙ b) ∙ ap (λ (k : List ℕ). k ++ drop size m) (sym main_words)
