-- The bytes of the record of a step by its number of changes.
use mathlib.Core.Path.{◌≡◌, sym, ap, ◌∙◌}
use mathlib.Core.List.{List}
use Prim.Native.Nat.{ℕ, ◌+◌, ◌*◌, ◌<◌, ◌≤◌}
use native.Mathlib.Omega.{arith}
use lib.ListN.{length}
use borrow.Author.Tests.{le-leb, lt-leb}
use Rattle.spec_image.specs.Sizes.{size}
use Rattle.spec_log.specs.Changes.{changes}
use Rattle.spec_log.specs.Records.{most_changes, bytes_of, longest, record_of}
use Rattle.spec_log.proofs.Records.{number_few, number_many, record_length}
use Rattle.log_records.proofs.LastRecords.{bytes_whole, bytes_few}

module _ (a b : List ℕ) (k : ℕ) (ha : length a ≡ size) (hk : k ≡ length (changes 0 a b)) where
  pub few_length : k ≤ most_changes → 4 + 6 * k ≡ length (record_of a b)
  few_length h =
      let e = (number_few a b (le-leb (length (changes 0 a b)) most_changes (omega arith))).0 ∙ sym hk in
      bytes_few k (λ z. omega arith) ∙ sym (record_length a b ha ∙ ap bytes_of e)

  pub whole_length : most_changes < k → longest ≡ length (record_of a b)
  whole_length h =
      bytes_whole _ (number_many a b (lt-leb (length (changes 0 a b)) most_changes (omega arith))).0 ∙ sym (record_length a b ha)
