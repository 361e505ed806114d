-- Changes put into a log one after another, while one list of words becomes another.
use mathlib.Core.Path.{◌≡◌, refl, sym, ap, ◌∙◌}
use mathlib.Core.List.{List, [], ◌∷◌, ◌++◌, append-nil}
use Prim.Native.Nat.{ℕ, suc, ◌+◌, ◌*◌, ◌<◌, ◌≤◌}
use native.Mathlib.Omega.{arith}
use lib.ListN.{set, get_or, take, drop, length, length-set, drop_of_length-le}
use lib.Seq.{take-suc, drop-cons, append_snoc, set_at, get_or_at, length-take-le, take_all}
use Rattle.words.specs.Blocks.{puts}
use Rattle.words.proofs.Blocks.{length_puts}
use Rattle.words.proofs.Moves.{puts_next}
use Rattle.spec_log.specs.Changes.{change, changes}
use Rattle.spec_log.specs.Records.{two, four, change_bytes, word_bytes}
use Rattle.spec_log.proofs.Changes.{same_word, other_word, none_more}
use Rattle.spec_log.proofs.Bytes.{length_bytes}

-- the first i words of b, and the later ones of a
abbrev pub mixed : ℕ → List ℕ → List ℕ → List ℕ
mixed i b a = take i b ++ drop i a

module _ (a b : List ℕ) (i : ℕ) (h : i < length a) (e : length a ≡ length b) where
  mixed_parts : mixed i b a ≡ take i b ++ (get_or a i 0 ∷ drop (suc i) a)
  mixed_parts = ap (λ (l : List ℕ). take i b ++ l) (drop-cons a i 0 h)

  front_length : length (take i b) ≡ i
  front_length = length-take-le i b (omega arith)

  -- the word at i is still that of a
  pub mixed_word : get_or (mixed i b a) i 0 ≡ get_or a i 0
  mixed_word = rw mixed_parts (get_or_at (take i b) (get_or a i 0) (drop (suc i) a) 0 i front_length)

  -- it becomes that of b
  pub mixed_set : set (mixed i b a) i (get_or b i 0) ≡ mixed (suc i) b a
  mixed_set =
      ap (λ (l : List ℕ). set l i (get_or b i 0)) mixed_parts
      ∙ (set_at (take i b) (get_or a i 0) (drop (suc i) a) (get_or b i 0) i front_length
      ∙ (sym (append_snoc (take i b) (get_or b i 0) (drop (suc i) a)) ∙ ap (λ (l : List ℕ). l ++ drop (suc i) a) (sym (take-suc b i 0 (omega arith)))))

  -- or was that of b
  pub mixed_same : get_or a i 0 ≡ get_or b i 0 → mixed i b a ≡ mixed (suc i) b a
  mixed_same q =
      mixed_parts
      ∙ (ap (λ (x : ℕ). take i b ++ (x ∷ drop (suc i) a)) q
      ∙ (sym (append_snoc (take i b) (get_or b i 0) (drop (suc i) a)) ∙ ap (λ (l : List ℕ). l ++ drop (suc i) a) (sym (take-suc b i 0 (omega arith)))))

-- one word more is copied
pub copy_one : (a b : List ℕ) (i : ℕ) {c : List ℕ} → i < length a → length a ≡ length b → c ≡ mixed i b a → set c i (get_or b i 0) ≡ mixed (i + 1) b a
copy_one a b i {c} h e w =
    let n : suc i ≡ i + 1 = omega arith in
    rw (← n, w) (mixed_set a b i h e)

-- the first i words were gone through: what is left to put makes the log whole
pub record Putting (log₀ : List ℕ) (at o : ℕ) (a₀ b log a : List ℕ) (next i : ℕ) : Type 0 where
  pub inside : i ≤ length a₀
  pub long : length log ≡ length log₀
  pub wide : length a ≡ length a₀
  pub words : a ≡ mixed i b a₀
  pub room : next + 6 * length (changes (o + i) (drop i a₀) (drop i b)) ≡ at + 6 * length (changes o a₀ b)
  pub bytes : puts log next 0 (change_bytes (changes (o + i) (drop i a₀) (drop i b))) ≡ puts log₀ at 0 (change_bytes (changes o a₀ b))

-- none is put
pub put_none : (log : List ℕ) (at o : ℕ) (a b : List ℕ) → Putting log at o a b log a at 0
put_none log at o a b =
    let z : o + 0 ≡ o = omega arith in
    record { inside = omega arith; long = refl; wide = refl; words = refl; room = rw z refl; bytes = rw z refl }

module _ {log₀ : List ℕ} {at o : ℕ} {a₀ b log a : List ℕ} {next i : ℕ} (p : Putting log₀ at o a₀ b log a next i) (h : i < length a₀) (e : length a₀ ≡ length b) where
  -- the word that is read
  pub word_is : get_or a i 0 ≡ get_or a₀ i 0
  word_is = ap (λ (l : List ℕ). get_or l i 0) p.words ∙ mixed_word a₀ b i h e

  -- a word that is the same
  pub same_put : get_or a i 0 ≡ get_or b i 0 → (log₁ a₁ : List ℕ) (next₁ : ℕ) → log₁ ≡ log → a₁ ≡ a → next₁ ≡ next → Putting log₀ at o a₀ b log₁ a₁ next₁ (i + 1)
  same_put r log₁ a₁ next₁ u w v =
      let q : get_or a₀ i 0 ≡ get_or b i 0 = sym word_is ∙ r in
      let n : suc i ≡ i + 1 = omega arith in
      let m : suc (o + i) ≡ o + suc i = omega arith in
      let c : changes (o + i) (drop i a₀) (drop i b) ≡ changes (o + suc i) (drop (suc i) a₀) (drop (suc i) b) = same_word a₀ b (o + i) i h e q ∙ rw m in
      rw (← n, u, w, v) (record { inside = omega arith; long = p.long; wide = p.wide; words = p.words ∙ mixed_same a₀ b i h e q; room = rw (← c) p.room; bytes = rw (← c) p.bytes })

  -- there is room for one that is not
  pub put_room : ¬ (get_or a i 0 ≡ get_or b i 0) → at + 6 * length (changes o a₀ b) ≤ length log₀ → next + 6 ≤ length log
  put_room r k =
      let q : ¬ (get_or a₀ i 0 ≡ get_or b i 0) = λ s. r (word_is ∙ s) in
      let z : length (changes (o + i) (drop i a₀) (drop i b)) ≡ suc (length (changes (suc (o + i)) (drop (suc i) a₀) (drop (suc i) b))) = ap length (other_word a₀ b (o + i) i h e q) in
      omega (arith, p.room, p.long, z)

  -- it is put
  pub other_put : (log₁ a₁ : List ℕ) (next₁ : ℕ) → log₁ ≡ puts log next 0 (two (o + i) ++ four (get_or a i 0)) → a₁ ≡ set a i (get_or b i 0)
      → next₁ ≡ next + 6 → ¬ (get_or a i 0 ≡ get_or b i 0) → Putting log₀ at o a₀ b log₁ a₁ next₁ (i + 1)
  unfolding change_bytes
  other_put log₁ a₁ next₁ u w f r =
      let q : ¬ (get_or a₀ i 0 ≡ get_or b i 0) = λ s. r (word_is ∙ s) in
      let n : suc i ≡ i + 1 = omega arith in
      let m : suc (o + i) ≡ o + suc i = omega arith in
      let rest = changes (o + suc i) (drop (suc i) a₀) (drop (suc i) b) in
      let c : changes (o + i) (drop i a₀) (drop i b) ≡ change (o + i) (get_or a₀ i 0) ∷ rest = other_word a₀ b (o + i) i h e q ∙ rw m in
      let z : length (changes (o + i) (drop i a₀) (drop i b)) ≡ suc (length rest) = ap length c in
      let old = two (o + i) ++ four (get_or a₀ i 0) in
      let v : log₁ ≡ puts log next 0 old = rw word_is at u in
      let g : puts (puts log next 0 old) (next + 6) 0 (change_bytes rest) ≡ puts log next 0 (old ++ change_bytes rest) = puts_next old (change_bytes rest) log next (next + 6) refl in
      let y : puts log next 0 (old ++ change_bytes rest) ≡ puts log₀ at 0 (change_bytes (changes o a₀ b)) = rw c at p.bytes in
      rw (← n, f) (record {
        inside = omega arith;
        long = ap length v ∙ (length_puts old log next 0 ∙ p.long);
        wide = ap length w ∙ (length-set a i (get_or b i 0) ∙ p.wide);
        words = w ∙ (ap (λ (l : List ℕ). set l i (get_or b i 0)) p.words ∙ mixed_set a₀ b i h e);
        room = omega (arith, p.room, z);
        bytes = ap (λ (l : List ℕ). puts l (next + 6) 0 (change_bytes rest)) v ∙ (g ∙ y);
      })

-- no word of a is left
pub mixed_all : (a b : List ℕ) (i : ℕ) → length a ≤ i → length a ≡ length b → mixed i b a ≡ b
mixed_all a b i h e =
    let z : drop i a ≡ [] = drop_of_length-le a h in
    rw (z, take_all i b (omega arith)) (append-nil b)

-- all are put
pub put_all : {log₀ : List ℕ} {at o : ℕ} {a₀ b log a : List ℕ} {next i : ℕ} → Putting log₀ at o a₀ b log a next i → length a₀ ≤ i → length a₀ ≡ length b
    → (next ≡ at + 6 * length (changes o a₀ b)) × (log ≡ puts log₀ at 0 (change_bytes (changes o a₀ b))) × (a ≡ b)
unfolding change_bytes
put_all {log₀} {at} {o} {a₀} {b} {log} {a} {next} {i} p h e =
    let c : changes (o + i) (drop i a₀) (drop i b) ≡ [] = none_more a₀ b (o + i) i h in
    let z : length (changes (o + i) (drop i a₀) (drop i b)) ≡ 0 = ap length c in
    (omega (arith, p.room, z), rw c at p.bytes, p.words ∙ mixed_all a₀ b i h e)

-- ---- all words

words_append : (k l : List ℕ) → word_bytes (k ++ l) ≡ word_bytes k ++ word_bytes l
unfolding word_bytes
words_append [] l = refl
words_append (x ∷ k) l = ap (λ (r : List ℕ). four x ++ r) (words_append k l)

-- the first i words were put
pub record Laying (log₀ : List ℕ) (at : ℕ) (a₀ b log a : List ℕ) (i : ℕ) : Type 0 where
  pub inside : i ≤ length a₀
  pub long : length log ≡ length log₀
  pub wide : length a ≡ length a₀
  pub words : a ≡ mixed i b a₀
  pub bytes : log ≡ puts log₀ at 0 (word_bytes (take i a₀))

pub lay_none : (log : List ℕ) (at : ℕ) (a b : List ℕ) → Laying log at a b log a 0
unfolding word_bytes
lay_none log at a b = record { inside = omega arith; long = refl; wide = refl; words = refl; bytes = refl }

-- one word more
pub lay_one : {log₀ : List ℕ} {at : ℕ} {a₀ b log a : List ℕ} {i : ℕ} → Laying log₀ at a₀ b log a i → i < length a₀ → length a₀ ≡ length b
    → (log₁ a₁ : List ℕ) → log₁ ≡ puts log (at + 4 * i) 0 (four (get_or a i 0)) → a₁ ≡ set a i (get_or b i 0) → Laying log₀ at a₀ b log₁ a₁ (i + 1)
unfolding word_bytes
lay_one {log₀} {at} {a₀} {b} {log} {a} {i} p h e log₁ a₁ u w =
    let n : suc i ≡ i + 1 = omega arith in
    let x : get_or a i 0 ≡ get_or a₀ i 0 = ap (λ (l : List ℕ). get_or l i 0) p.words ∙ mixed_word a₀ b i h e in
    let k : length (word_bytes (take i a₀)) ≡ 4 * i = length_bytes (take i a₀) ∙ ap (λ (j : ℕ). 4 * j) (length-take-le i a₀ (omega arith)) in
    let t : word_bytes (take (suc i) a₀) ≡ word_bytes (take i a₀) ++ four (get_or a₀ i 0) = ap word_bytes (take-suc a₀ i 0 h) ∙ words_append (take i a₀) (get_or a₀ i 0 ∷ []) in
    let g = puts_next (word_bytes (take i a₀)) (four (get_or a₀ i 0)) log₀ at (at + 4 * i) (rw k refl) in
    let v : log₁ ≡ puts log (at + 4 * i) 0 (four (get_or a₀ i 0)) = rw x at u in
    rw (← n) (record {
      inside = omega arith;
      long = ap length v ∙ (length_puts (four (get_or a₀ i 0)) log (at + 4 * i) 0 ∙ p.long);
      wide = ap length w ∙ (length-set a i (get_or b i 0) ∙ p.wide);
      words = w ∙ (ap (λ (l : List ℕ). set l i (get_or b i 0)) p.words ∙ mixed_set a₀ b i h e);
      bytes = v ∙ (ap (λ (l : List ℕ). puts l (at + 4 * i) 0 (four (get_or a₀ i 0))) p.bytes ∙ (g ∙ ap (λ (l : List ℕ). puts log₀ at 0 l) (sym t)));
    })

-- all words
pub lay_all : {log₀ : List ℕ} {at : ℕ} {a₀ b log a : List ℕ} {i : ℕ} → Laying log₀ at a₀ b log a i → length a₀ ≤ i → length a₀ ≡ length b
    → (log ≡ puts log₀ at 0 (word_bytes a₀)) × (a ≡ b)
lay_all {log₀} {at} {a₀} {b} {log} {a} {i} p h e = (rw (take_all i a₀ h) at p.bytes, p.words ∙ mixed_all a₀ b i h e)
