-- Changes put into a log one piece of words after another.
use mathlib.Core.Path.{◌≡◌, refl, sym, ap, ◌∙◌}
use mathlib.Core.List.{List, [], ◌++◌, append_assoc}
use Prim.Native.Nat.{ℕ, ◌+◌, ◌*◌, ◌≤◌}
use native.Mathlib.Omega.{arith}
use lib.ListN.{take, drop, length, length-append, length-drop, take-append-drop}
use lib.Seq.{length-take-le, take_at, drop_at, take-add, drop-drop}
use Rattle.words.specs.Blocks.{puts}
use Rattle.words.proofs.Blocks.{length_puts}
use Rattle.words.proofs.Moves.{puts_next}
use Rattle.words.proofs.Tests.{same_eq}
use Rattle.spec_image.specs.Sizes.{size}
use Rattle.spec_log.specs.Changes.{Change, changes}
use Rattle.spec_log.specs.Records.{change_bytes}
use Rattle.spec_log.proofs.Bytes.{length_changes}
use Rattle.log_records.proofs.Counts.{same_count}
use Rattle.log_records.proofs.Puts.{mixed, Putting}
use Rattle.log_records.proofs.Ranges.{changes_append, none_changed, changes_bytes}

module _ {log₀ : List ℕ} {at o : ℕ} {a₀ b log a : List ℕ} {next i : ℕ} (p : Putting log₀ at o a₀ b log a next i) (w m k : ℕ) (u : m ≡ w) (v : k ≡ w) (h : i + w ≤ length a₀) (e : length a₀ ≡ length b) where
  front : length (take i b) ≡ i
  front = length-take-le i b (omega arith)

  -- the words before i are those of b, and the others are still those of a
  gone : take i a ≡ take i b
  gone = ap (λ (l : List ℕ). take i l) p.words ∙ take_at (take i b) (drop i a₀) i front

  left : drop i a ≡ drop i a₀
  left = ap (λ (l : List ℕ). drop i l) p.words ∙ drop_at (take i b) (drop i a₀) i front

  abbrev first : List Change
  first = changes (o + i) (take w (drop i a₀)) (take w (drop i b))

  abbrev rest : List Change
  rest = changes (o + (i + w)) (drop (i + w) a₀) (drop (i + w) b)

  piece_length : length (take w (drop i a₀)) ≡ w
  piece_length = length-take-le w (drop i a₀) (omega (arith, length-drop i a₀))

  piece_length_after : length (take w (drop i b)) ≡ w
  piece_length_after = length-take-le w (drop i b) (omega (arith, length-drop i b))

  -- the changes of a piece, and the later ones
  parted : changes (o + i) (drop i a₀) (drop i b) ≡ first ++ rest
  parted =
      let z : (o + i) + length (take w (drop i a₀)) ≡ o + (i + w) = omega (arith, piece_length) in
      ap (λ (l : List ℕ). changes (o + i) l (drop i b)) (sym (take-append-drop w (drop i a₀)))
      ∙ (ap (λ (l : List ℕ). changes (o + i) (take w (drop i a₀) ++ drop w (drop i a₀)) l) (sym (take-append-drop w (drop i b)))
      ∙ (changes_append (take w (drop i a₀)) (take w (drop i b)) (drop w (drop i a₀)) (drop w (drop i b)) (o + i) (piece_length ∙ sym piece_length_after)
      ∙ rw (z, drop-drop w i a₀, drop-drop w i b) refl))

  parted_count : length (changes (o + i) (drop i a₀) (drop i b)) ≡ length first + length rest
  parted_count = ap length parted ∙ length-append first rest

  -- a piece and what it becomes are as long
  piece_lengths : length (take m (drop i a)) ≡ length (take k (drop i b))
  piece_lengths = rw (u, v, left) (piece_length ∙ sym piece_length_after)

  -- there is room for the changes of a piece
  pub piece_room : o + length a₀ ≤ size → at + 6 * length (changes o a₀ b) ≤ length log₀
      → (length (take m (drop i a)) ≡ length (take k (drop i b))) × ((o + i) + length (take m (drop i a)) ≤ size) × (next + 6 * length (changes (o + i) (take m (drop i a)) (take k (drop i b))) ≤ length log)
  piece_room s r = (piece_lengths, rw (u, left) (omega (arith, piece_length)), rw (u, v, left) (omega (arith, parted_count, p.room, p.long)))

  -- a piece is put
  pub piece_put : {x log₁ : List ℕ} {next₁ : ℕ} → next₁ ≡ next + 6 * length (changes (o + i) (take m (drop i a)) (take k (drop i b)))
      → log₁ ≡ puts log next 0 (change_bytes (changes (o + i) (take m (drop i a)) (take k (drop i b)))) → x ≡ take k (drop i b)
      → Putting log₀ at o a₀ b log₁ (take i a ++ (x ++ drop m (drop i a))) next₁ (i + w)
  piece_put {x} {log₁} {next₁} n l y =
      let n₁ : next₁ ≡ next + 6 * length first = rw (u, v, left) at n in
      let l₁ : log₁ ≡ puts log next 0 (change_bytes first) = rw (u, v, left) at l in
      let y₁ : x ≡ take w (drop i b) = rw v at y in
      let words : take i a ++ (x ++ drop m (drop i a)) ≡ mixed (i + w) b a₀
      = rw (u, left, gone, y₁, drop-drop w i a₀, take-add i w b) (sym (append_assoc (take i b) (take w (drop i b)) (drop (i + w) a₀))) in
      let s : change_bytes (changes (o + i) (drop i a₀) (drop i b)) ≡ change_bytes first ++ change_bytes rest = ap change_bytes parted ∙ changes_bytes first rest in
      let f : next₁ ≡ next + length (change_bytes first) = n₁ ∙ ap (λ (j : ℕ). next + j) (sym (length_changes first)) in
      record {
        inside = h;
        long = ap length l₁ ∙ (length_puts (change_bytes first) log next 0 ∙ p.long);
        wide = ap length words ∙ (length-append (take (i + w) b) (drop (i + w) a₀) ∙ omega (arith, length-take-le (i + w) b (omega arith), length-drop (i + w) a₀));
        words = words;
        room = omega (arith, p.room, n₁, parted_count);
        bytes =
            ap (λ (t : List ℕ). puts t next₁ 0 (change_bytes rest)) l₁
            ∙ (puts_next (change_bytes first) (change_bytes rest) log next next₁ f ∙ (ap (λ (t : List ℕ). puts log next 0 t) (sym s) ∙ p.bytes));
      }

  -- a piece that is the same is as one that is put
  pub piece_same : length (changes (o + i) (take m (drop i a)) (take k (drop i b))) ≡ 0 → Putting log₀ at o a₀ b log a next (i + w)
  unfolding change_bytes
  piece_same z =
      let q : take m (drop i a) ≡ take k (drop i b) = same_eq (take m (drop i a)) (take k (drop i b)) (same_count (take m (drop i a)) (take k (drop i b)) (o + i) piece_lengths ∙ rw z refl) in
      let c : changes (o + i) (take m (drop i a)) (take k (drop i b)) ≡ [] = none_changed (take m (drop i a)) (take k (drop i b)) (o + i) q in
      let l : log ≡ puts log next 0 (change_bytes (changes (o + i) (take m (drop i a)) (take k (drop i b)))) = rw c refl in
      let g : take i a ++ (take m (drop i a) ++ drop m (drop i a)) ≡ a = rw (take-append-drop m (drop i a)) (take-append-drop i a) in
      rw g at (piece_put {x = take m (drop i a)} {log₁ = log} {next₁ = next} (omega (arith, z)) l q)
