-- The changes of two images that are alike but in part of their words.
use mathlib.Core.Path.{◌≡◌, refl, sym, ap, ◌∙◌}
use mathlib.Core.Bool.{Bool, true, false}
use mathlib.Core.List.{List, [], ◌∷◌, ◌++◌, append-nil, append_assoc}
use Prim.Native.Nat.{ℕ, suc, ◌+◌, ◌*◌, ◌-◌, ◌≤◌}
use native.Mathlib.Omega.{arith}
use lib.Dec.{eqb}
use lib.ListN.{length, take, drop, length-append, length-drop, take-append-drop}
use lib.Seq.{length-take-le, drop-drop, take-append-add, drop-append-add}
use borrow.Author.Tests.{eq-eqb}
use Rattle.words.specs.Blocks.{puts}
use Rattle.words.proofs.Blocks.{length_puts}
use Rattle.words.proofs.Moves.{puts_next}
use Rattle.spec_image.specs.Sizes.{frames_at, size}
use Rattle.spec_log.specs.Changes.{Change, change, noted, changes}
use Rattle.spec_log.specs.Records.{change_bytes, two, four}
use Rattle.spec_log.proofs.Bytes.{length_changes}
use Rattle.log_records.specs.Ranges.{Alike}

-- the changes of lists one after another
pub changes_append : (a b c d : List ℕ) (i : ℕ) → length a ≡ length b → changes i (a ++ c) (b ++ d) ≡ changes i a b ++ changes (i + length a) c d
changes_append [] [] c d i e = let z : i + 0 ≡ i = omega arith in rw z refl
changes_append [] (y ∷ b) c d i e = absurd (omega arith)
changes_append (x ∷ a) [] c d i e = absurd (omega arith)
changes_append (x ∷ a) (y ∷ b) c d i e =
    let z : suc i + length a ≡ i + suc (length a) = omega arith in
    go (eqb x y) (rw z at (changes_append a b c d (suc i) (omega arith)))
  where
    go : (q : Bool) → changes (suc i) (a ++ c) (b ++ d) ≡ changes (suc i) a b ++ changes (i + suc (length a)) c d
        → noted q (change i x) (changes (suc i) (a ++ c) (b ++ d)) ≡ noted q (change i x) (changes (suc i) a b) ++ changes (i + suc (length a)) c d
    go true h = h
    go false h = ap (λ (l : List Change). change i x ∷ l) h

-- a list has no change against itself
pub none_changed : (a b : List ℕ) (i : ℕ) → a ≡ b → changes i a b ≡ []
none_changed a b i e = rw (← e) (alone a i)
  where
    same : (x : ℕ) (c : Change) (cs : List Change) → noted (eqb x x) c cs ≡ cs
    same x c cs = rw (eq-eqb x x refl)

    alone : (a : List ℕ) (i : ℕ) → changes i a a ≡ []
    alone [] i = refl
    alone (x ∷ a) i = same x (change i x) (changes (suc i) a a) ∙ alone a (suc i)

pub changes_bytes : (cs ds : List Change) → change_bytes (cs ++ ds) ≡ change_bytes cs ++ change_bytes ds
unfolding change_bytes
changes_bytes [] ds = refl
changes_bytes (change i x ∷ cs) ds = ap (λ (l : List ℕ). two i ++ (four x ++ l)) (changes_bytes cs ds)

module _ {p q : ℕ} {a b : List ℕ} (k : Alike p q a b) where
  -- the words below p, and those of frames below q
  abbrev pub low_of : List ℕ → List ℕ
  low_of l = take p l

  abbrev pub high_of : List ℕ → List ℕ
  high_of l = take (q - frames_at) (drop frames_at l)

  pub low_length : (l : List ℕ) → length l ≡ size → length (low_of l) ≡ p
  low_length l e = length-take-le p l (omega (arith, k.low))

  pub high_length : (l : List ℕ) → length l ≡ size → length (high_of l) ≡ q - frames_at
  high_length l e = length-take-le (q - frames_at) (drop frames_at l) (omega (arith, k.high.0, k.high.1, length-drop frames_at l))

  -- the frames begin behind p, and end before q
  below : p + (frames_at - p) ≡ frames_at
  below = omega (arith, k.low)

  above : frames_at + (q - frames_at) ≡ q
  above = omega (arith, k.high.0)

  middle_of : List ℕ → List ℕ
  middle_of l = take (frames_at - p) (drop p l)

  from_low : (l : List ℕ) → drop (frames_at - p) (drop p l) ≡ drop frames_at l
  from_low l = drop-drop (frames_at - p) p l ∙ rw below refl

  from_high : (l : List ℕ) → drop (q - frames_at) (drop frames_at l) ≡ drop q l
  from_high l = drop-drop (q - frames_at) frames_at l ∙ rw above refl

  parts : (l : List ℕ) → l ≡ low_of l ++ (middle_of l ++ (high_of l ++ drop q l))
  unfolding middle_of
  parts l =
      let x : drop frames_at l ≡ high_of l ++ drop q l = sym (take-append-drop (q - frames_at) (drop frames_at l)) ∙ ap (λ (r : List ℕ). high_of l ++ r) (from_high l) in
      let y : drop p l ≡ middle_of l ++ (high_of l ++ drop q l) = sym (take-append-drop (frames_at - p) (drop p l)) ∙ ap (λ (r : List ℕ). middle_of l ++ r) (from_low l ∙ x) in
      sym (take-append-drop p l) ∙ ap (λ (r : List ℕ). low_of l ++ r) y

  middle_length : (l : List ℕ) → length l ≡ size → length (middle_of l) ≡ frames_at - p
  unfolding middle_of
  middle_length l e = length-take-le (frames_at - p) (drop p l) (omega (arith, k.low, length-drop p l))

  -- no others have changes
  pub apart : changes 0 a b ≡ changes 0 (low_of a) (low_of b) ++ changes frames_at (high_of a) (high_of b)
  unfolding middle_of
  apart =
      let A = k.before_long in
      let B = k.after_long in
      let w : 0 + length (low_of a) ≡ p = omega (arith, low_length a A) in
      let f : p + length (middle_of a) ≡ frames_at = ap (λ (n : ℕ). p + n) (middle_length a A) ∙ below in
      let one : changes 0 (low_of a ++ (middle_of a ++ (high_of a ++ drop q a))) (low_of b ++ (middle_of b ++ (high_of b ++ drop q b)))
      ≡ changes 0 (low_of a) (low_of b) ++ changes p (middle_of a ++ (high_of a ++ drop q a)) (middle_of b ++ (high_of b ++ drop q b))
      = rw w at (changes_append (low_of a) (low_of b) (middle_of a ++ (high_of a ++ drop q a)) (middle_of b ++ (high_of b ++ drop q b)) 0 (low_length a A ∙ sym (low_length b B))) in
      let two : changes p (middle_of a ++ (high_of a ++ drop q a)) (middle_of b ++ (high_of b ++ drop q b)) ≡ changes frames_at (high_of a ++ drop q a) (high_of b ++ drop q b)
      = changes_append (middle_of a) (middle_of b) (high_of a ++ drop q a) (high_of b ++ drop q b) p (middle_length a A ∙ sym (middle_length b B)) ∙ rw (none_changed (middle_of a) (middle_of b) p k.between, f) refl in
      let three : changes frames_at (high_of a ++ drop q a) (high_of b ++ drop q b) ≡ changes frames_at (high_of a) (high_of b)
      = changes_append (high_of a) (high_of b) (drop q a) (drop q b) frames_at (high_length a A ∙ sym (high_length b B)) ∙ rw (none_changed (drop q a) (drop q b) (frames_at + length (high_of a)) k.above) (append-nil (changes frames_at (high_of a) (high_of b))) in
      ap (λ (l : List ℕ). changes 0 l b) (parts a) ∙ (ap (λ (l : List ℕ). changes 0 (low_of a ++ (middle_of a ++ (high_of a ++ drop q a))) l) (parts b)
      ∙ (one ∙ ap (λ (l : List Change). changes 0 (low_of a) (low_of b) ++ l) (two ∙ three)))

  pub apart_count : length (changes 0 a b) ≡ length (changes 0 (low_of a) (low_of b)) + length (changes frames_at (high_of a) (high_of b))
  apart_count = ap length apart ∙ length-append (changes 0 (low_of a) (low_of b)) (changes frames_at (high_of a) (high_of b))

  -- with the words below p those of b, the frames are still those of a
  pub low_done : drop frames_at (low_of b ++ drop p a) ≡ drop frames_at a
  low_done =
      let e : length (low_of b) + (frames_at - p) ≡ frames_at = rw (low_length b k.after_long) below in
      rw e at (drop-append-add (low_of b) (drop p a) (frames_at - p)) ∙ from_low a

  -- with those of frames below q too, all words are those of b
  pub all_done : take frames_at (low_of b ++ drop p a) ++ (high_of b ++ drop (q - frames_at) (drop frames_at (low_of b ++ drop p a))) ≡ b
  unfolding middle_of
  all_done =
      let e : length (low_of b) + (frames_at - p) ≡ frames_at = rw (low_length b k.after_long) below in
      let x : take frames_at (low_of b ++ drop p a) ≡ low_of b ++ middle_of b
      = rw e at (take-append-add (low_of b) (drop p a) (frames_at - p)) ∙ ap (λ (l : List ℕ). low_of b ++ l) k.between in
      let y : drop (q - frames_at) (drop frames_at (low_of b ++ drop p a)) ≡ drop q b = ap (λ (l : List ℕ). drop (q - frames_at) l) low_done ∙ (from_high a ∙ k.above) in
      rw (x, y) (append_assoc (low_of b) (middle_of b) (high_of b ++ drop q b) ∙ sym (parts b))

  -- there is room for the changes of frames behind the others
  pub second_room : {X log₁ : List ℕ} (log : List ℕ) (at : ℕ) {next : ℕ} → X ≡ low_of b → log₁ ≡ puts log at 0 (change_bytes (changes 0 (low_of a) (low_of b))) → next ≡ at + 6 * length (changes 0 (low_of a) (low_of b)) → at + 6 * length (changes 0 a b) ≤ length log
      → (length (high_of (X ++ drop p a)) ≡ length (high_of b)) × (frames_at + length (high_of (X ++ drop p a)) ≤ size) × (next + 6 * length (changes frames_at (high_of (X ++ drop p a)) (high_of b)) ≤ length log₁)
  second_room {X} {log₁} log at {next} x u n h =
      let l : length log₁ ≡ length log = ap length u ∙ length_puts (change_bytes (changes 0 (low_of a) (low_of b))) log at 0 in
      let A = high_length a k.before_long in
      let B = high_length b k.after_long in
      let r : drop frames_at (X ++ drop p a) ≡ drop frames_at a = rw x low_done in
      rw r (A ∙ sym B, omega (arith, A, k.high.0, k.high.1), omega (arith, apart_count, l, n))

  -- and then all are put
  pub both_put : {X Y log₁ log₂ : List ℕ} (log : List ℕ) (at : ℕ) {next end : ℕ} → X ≡ low_of b → Y ≡ high_of b → log₁ ≡ puts log at 0 (change_bytes (changes 0 (low_of a) (low_of b)))
      → next ≡ at + 6 * length (changes 0 (low_of a) (low_of b)) → log₂ ≡ puts log₁ next 0 (change_bytes (changes frames_at (high_of (X ++ drop p a)) (high_of b)))
      → end ≡ next + 6 * length (changes frames_at (high_of (X ++ drop p a)) (high_of b))
      → (end ≡ at + 6 * length (changes 0 a b)) × ((log₂ ≡ puts log at 0 (change_bytes (changes 0 a b))) × (take frames_at (X ++ drop p a) ++ (Y ++ drop (q - frames_at) (drop frames_at (X ++ drop p a))) ≡ b))
  both_put {X} {Y} {log₁} {log₂} log at {next} {end} x y u n v e =
      let r : drop frames_at (X ++ drop p a) ≡ drop frames_at a = rw x low_done in
      let lows = changes 0 (low_of a) (low_of b) in
      let highs = changes frames_at (high_of a) (high_of b) in
      let d : end ≡ next + 6 * length highs = rw r at e in
      let w : log₂ ≡ puts log₁ next 0 (change_bytes highs) = rw r at v in
      let s : change_bytes (changes 0 a b) ≡ change_bytes lows ++ change_bytes highs = ap change_bytes apart ∙ changes_bytes lows highs in
      let m : next ≡ at + length (change_bytes lows) = n ∙ ap (λ (j : ℕ). at + j) (sym (length_changes lows)) in
      (omega (arith, apart_count, d, n), (w ∙ (rw (u, s) (puts_next (change_bytes lows) (change_bytes highs) log at next m)), rw (x, y) all_done))
