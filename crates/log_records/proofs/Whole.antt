-- A record put in three parts: its mark, what stands between, and its number.
use mathlib.Core.Path.{◌≡◌, refl, ap, ◌∙◌}
use mathlib.Core.List.{List, ◌++◌}
use Prim.Native.Nat.{ℕ, ◌+◌, ◌*◌, ◌≤◌, ◌<◌}
use native.Mathlib.Omega.{arith}
use lib.ListN.{length, length-append}
use borrow.Author.Tests.{le-leb, lt-leb}
use Rattle.words.specs.Blocks.{puts}
use Rattle.words.proofs.Moves.{puts_next}
use Rattle.spec_image.specs.Sizes.{size}
use Rattle.spec_log.specs.Changes.{changes}
use Rattle.spec_log.specs.Records.{two, mark, most_changes, whole_number, longest, change_bytes, word_bytes, record_of}
use Rattle.spec_log.proofs.Bytes.{length_changes, length_bytes}
use Rattle.spec_log.proofs.Records.{record_is, number_few, number_many}

-- the three parts are the record
three_put : (log : List ℕ) (at : ℕ) (body : List ℕ) (n : ℕ) {log₁ log₂ log₃ : List ℕ} {end : ℕ} → log₁ ≡ puts log at 0 mark → log₂ ≡ puts log₁ (at + 2) 0 body
    → end ≡ at + 2 + length body → log₃ ≡ puts log₂ end 0 (two n) → log₃ ≡ puts log at 0 (mark ++ (body ++ two n))
three_put log at body n {log₁} {log₂} {log₃} {end} u v e w =
    w ∙ (rw (v, u) (puts_next body (two n) (puts log at 0 mark) (at + 2) end e) ∙ puts_next mark (body ++ two n) log at (at + 2) refl)

module _ (a b : List ℕ) (k : ℕ) (c : k ≡ length (changes 0 a b)) where
  -- few changes
  few : k ≤ most_changes → record_of a b ≡ mark ++ (change_bytes (changes 0 a b) ++ two k)
  few h = let n = number_few a b (rw (← c) (le-leb k most_changes h)) in record_is a b ∙ rw (n.0, n.1, c) refl

  pub few_room : (at l : ℕ) → k ≤ most_changes → at + length (record_of a b) ≤ l → (at + 2) + 6 * length (changes 0 a b) + 2 ≤ l
  few_room at l h r = omega (arith, ap length (few h), length-append (change_bytes (changes 0 a b)) (two k), length_changes (changes 0 a b))

  pub few_put : (log : List ℕ) (at : ℕ) {log₁ log₂ log₃ : List ℕ} {end : ℕ} → k ≤ most_changes → log₁ ≡ puts log at 0 mark → log₂ ≡ puts log₁ (at + 2) 0 (change_bytes (changes 0 a b))
      → end ≡ at + 2 + 6 * length (changes 0 a b) → log₃ ≡ puts log₂ end 0 (two k) → log₃ ≡ puts log at 0 (record_of a b)
  few_put log at h u v e w = rw (few h) (three_put log at (change_bytes (changes 0 a b)) k u v (rw (length_changes (changes 0 a b)) e) w)

  -- all words
  many : most_changes < k → record_of a b ≡ mark ++ (word_bytes a ++ two whole_number)
  many h = let n = number_many a b (rw (← c) (lt-leb k most_changes h)) in record_is a b ∙ rw (n.0, n.1) refl

  pub many_room : (at l : ℕ) → length a ≡ size → most_changes < k → at + length (record_of a b) ≤ l → at + longest ≤ l
  many_room at l s h r = omega (arith, ap length (many h), length-append (word_bytes a) (two whole_number), length_bytes a)

  pub many_put : (log : List ℕ) (at : ℕ) {log₁ log₂ log₃ : List ℕ} → length a ≡ size → most_changes < k → log₁ ≡ puts log at 0 mark → log₂ ≡ puts log₁ (at + 2) 0 (word_bytes a)
      → log₃ ≡ puts log₂ (at + 65538) 0 (two whole_number) → log₃ ≡ puts log at 0 (record_of a b)
  many_put log at s h u v w = rw (many h) (three_put log at (word_bytes a) whole_number u v (omega (arith, length_bytes a)) w)
