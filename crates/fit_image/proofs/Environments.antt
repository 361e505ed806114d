-- The environment: words that pass are those of one, and those of a state's pass.
use mathlib.Core.Path.{◌≡◌, refl, sym, ◌∙◌}
use mathlib.Core.Bool.{Bool, true, ◌&&◌}
use mathlib.Core.List.{List, [], ◌∷◌}
use mathlib.Core.Option.{none, some}
use Prim.Native.Nat.{ℕ, ◌-◌, ◌≤◌}
use native.Mathlib.Omega.{arith}
use lib.Dec.{eqb}
use lib.ListN.{length, get_or, take, drop, replicate, length-drop}
use borrow.Author.Tests.{eqb-true}
use Rattle.words.specs.Blocks.{all_zero}
use Rattle.words.proofs.Tests.{both, tail}
use Rattle.spec_machine.specs.Machine.{Exception, abort, State, exception, calling, returned, running}
use Rattle.spec_image.specs.Layout.{filled, env_words}
use Rattle.spec_image.specs.Image.{head_words, env_part}
use Rattle.spec_image.proofs.BlockLengths.{get_d_so}
use Rattle.spec_image.proofs.Rooms.{filled_is}
use Rattle.fit_image.specs.MemoryTest.{entry_ok, env_ok}
use Rattle.fit_image.proofs.BlockTests.{zeros}

two_words : (e : List ℕ) → 2 ≤ length e → e ≡ get_or e 0 0 ∷ get_or e 1 0 ∷ drop 2 e
two_words [] h = absurd (omega arith)
two_words (a ∷ []) h = absurd (omega arith)
two_words (a ∷ b ∷ e) h = refl

module _ (t : ℕ) (e : List ℕ) (long : length e ≡ 1664) (ok : env_ok t e ≡ true) where
  pub env_sound : e ≡ env_words (record { entry = get_or e 1 0 })
  unfolding env_ok env_words
  env_sound =
      let a = both (eqb (get_or e 0 0) 0) (entry_ok t (get_or e 1 0) && all_zero (drop 2 e)) ok in
      let z : drop 2 e ≡ replicate 1662 0 = zeros (drop 2 e) 1662 (simp length-drop (omega arith)) (both (entry_ok t (get_or e 1 0)) (all_zero (drop 2 e)) a.1).1 in
      two_words e (omega arith) ∙ rw (eqb-true (get_or e 0 0) 0 a.0, z) (sym (filled_is 1664 (0 ∷ get_or e 1 0 ∷ []) (omega arith)))

  -- under a final tag they are zeros
  pub env_final : entry_ok t (get_or e 1 0) ≡ eqb (get_or e 1 0) 0 → e ≡ replicate 1664 0
  unfolding env_ok env_words
  env_final f =
      let a = both (eqb (get_or e 0 0) 0) (entry_ok t (get_or e 1 0) && all_zero (drop 2 e)) ok in
      let n : get_or e 1 0 ≡ 0 = eqb-true (get_or e 1 0) 0 (sym f ∙ (both (entry_ok t (get_or e 1 0)) (all_zero (drop 2 e)) a.1).0) in
      env_sound ∙ rw (n, filled_is 1664 (0 ∷ 0 ∷ []) (omega arith))

pub env_passes : (s : State) → env_ok (get_or (head_words s) 0 0) (env_part s) ≡ true
unfolding head_words env_part env_words filled entry_ok env_ok
env_passes (State.value c) = refl
env_passes (exception Exception.arith) = refl
env_passes (exception abort) = refl
env_passes (calling α none) = refl
env_passes (calling α (some n)) = refl
env_passes (returned α c) = refl
env_passes (running c α f η K A) = refl

-- zeros pass under every tag
entry_zero : (t : ℕ) → entry_ok t 0 ≡ true
unfolding entry_ok
entry_zero t =
    get_d_so (λ (b : Bool). b ≡ true) (true ∷ true ∷ true ∷ true ∷ true ∷ true ∷ true ∷ []) t true (refl, (refl, (refl, (refl, (refl, (refl, (refl, tt))))))) refl

pub env_blank : (t : ℕ) (e : List ℕ) → length e ≡ 1664 → all_zero e ≡ true → true ≡ env_ok t e
unfolding env_ok
env_blank t e long z = rw (zeros e 1664 long z, entry_zero t)

-- the test, as the code asks it
pub env_whole : (t : ℕ) (e : List ℕ) → (eqb (get_or e 0 0) 0 && (entry_ok t (get_or e 1 0) && all_zero (take (length e - 2) (drop 2 e)))) ≡ env_ok t e
unfolding env_ok
env_whole t e = rw (tail e 2)
