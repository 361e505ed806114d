-- The nodes that pass, one after the other.
use mathlib.Core.Path.{◌≡◌}
use mathlib.Core.Bool.{true, false, ◌&&◌, ◌||◌}
use mathlib.Core.List.{List}
use Prim.Native.Nat.{ℕ, ◌+◌, ◌≤◌, ◌<◌, min}
use native.Mathlib.Omega.{arith}
use native.Mathlib.Decide.{dec_lt}
use lib.Dec.{eqb, ltb}
use borrow.Author.Tests.{eq-eqb, ltb-false}
use Rattle.varset.specs.Lowest.{lowest}
use Rattle.records.specs.Fields.{kind_at}
use Rattle.records.specs.Children.{children}
use Rattle.records.proofs.Bools.{or_false_left, or_false_right}
use Rattle.records.proofs.Loops.{lowest_below}
use Rattle.spec_language.specs.Sorts.{is_expression}
use Rattle.spec_language.specs.Nodes.{size_ok, wrong_child, outside}
use Rattle.check_rest.specs.Sound.{Sound, SoundBefore}

module _ (s : List ℕ) (f : ℕ) (t : List ℕ) (n : ℕ) where
  -- from the tests of a node
  pub sound : (i r : ℕ) → (8 < r → size_ok t n i ≡ true)
      → (9 < r → ((eqb (1 + i) n && is_expression (kind_at t i)) || ltb (min n (lowest (wrong_child t (kind_at t i) (children t i)) n)) n) ≡ false)
      → (11 < r → outside s f t n i ≡ false) → Sound s f t n i r
  sound i r a b c =
      let last = eqb (1 + i) n && is_expression (kind_at t i) in
      let low = min n (lowest (wrong_child t (kind_at t i) (children t i)) n) in
      record {
        sized = a;
        body = λ h e. rw (eq-eqb (1 + i) n e) at (or_false_left last (ltb low n) (b h));
        placed = λ h k l. lowest_below (wrong_child t (kind_at t i) (children t i)) n k (omega (arith, ltb-false low n (or_false_right last (ltb low n) (b h))));
        scoped = c;
      }

  pub sound_to_eight : (i : ℕ) → Sound s f t n i 8
  sound_to_eight i = sound i 8 (λ z. absurd (omega arith)) (λ z. absurd (omega arith)) (λ z. absurd (omega arith))

  pub fewer : (i : ℕ) {a b : ℕ} → b ≤ a → Sound s f t n i a → Sound s f t n i b
  fewer i l h = record { sized = λ k. h.sized (omega arith); body = λ k. h.body (omega arith); placed = λ k. h.placed (omega arith); scoped = λ k. h.scoped (omega arith) }

  pub sound_next : (i : ℕ) {a b r : ℕ} → r ≤ a → r ≤ b → SoundBefore s f t n i a → Sound s f t n i b → SoundBefore s f t n (i + 1) r
  sound_next i {a} {b} {r} u w h j k l = go (dec_lt k i)
    where
      go : Dec (k < i) → Sound s f t n k r
      go (yes m) = fewer k u (h k m)
      go (no m) = let z : k ≡ i = omega arith in rw z (fewer i w j)
