-- Numbers, changes and words that stand in a log as bytes are read as they are.
use mathlib.Core.Path.{◌≡◌, refl, ◌∙◌}
use mathlib.Core.List.{List, [], ◌∷◌, ◌++◌, append_assoc}
use Prim.Native.Nat.{ℕ, suc, ◌+◌, ◌*◌, ◌/◌, ◌%◌, ◌^◌, ◌<◌}
use native.Mathlib.Nat.{add-zero}
use native.Mathlib.Omega.{arith}
use lib.ListN.{length, get_or, length-append}
use Rattle.words.proofs.Blocks.{get_d_block}
use Rattle.records.specs.Bytes.{u16_at, u32_at}
use Rattle.spec_log.specs.Changes.{Change, change}
use Rattle.spec_log.specs.Records.{two, four, change_bytes, word_bytes, changes_at, words_at}
use Rattle.spec_log.proofs.Changes.{EachChange}

-- the bytes of a number make it up
four_bytes : (n : ℕ) → n < 2 ^ 32 → n % 256 + 256 * (n / 256 % 256) + 65536 * (n / 65536 % 256 + 256 * (n / 16777216 % 256)) ≡ n
four_bytes n h =
    let a : n / 256 / 256 ≡ n / 65536 = omega arith in
    let b : n / 65536 / 256 ≡ n / 16777216 = omega arith in
    let c : n / 16777216 < 256 = omega arith in
    let d : n / 65536 ≡ n / 65536 % 256 + 256 * (n / 16777216 % 256) = omega arith in
    let e : n / 256 ≡ n / 256 % 256 + 256 * (n / 65536) = omega arith in
    omega arith

-- two bytes of a block
pair_at : (p q r : List ℕ) (at k : ℕ) → length p ≡ at → suc k < length q → u16_at (p ++ (q ++ r)) (at + k) ≡ get_or q k 0 + 256 * get_or q (suc k) 0
unfolding u16_at
pair_at p q r at k hp hk =
    let e : at + k + 1 ≡ at + suc k = omega arith in
    rw (e, get_d_block p q r at k hp (omega arith), get_d_block p q r at (suc k) hp hk)

module _ (p q : List ℕ) (at : ℕ) (hp : length p ≡ at) (n : ℕ) where
  pub two_at : n < 65536 → u16_at (p ++ (two n ++ q)) at ≡ n
  two_at h =
      let e : u16_at (p ++ (two n ++ q)) (at + 0) ≡ n = pair_at p (two n) q at 0 hp (omega arith) ∙ omega arith in
      rw (add-zero at) at e

  pub four_at : n < 2 ^ 32 → u32_at (p ++ (four n ++ q)) at ≡ n
  unfolding u32_at
  four_at h =
      let a = pair_at p (four n) q at 0 hp (omega arith) in
      let b = pair_at p (four n) q at 2 hp (omega arith) in
      rw (← add-zero at, a, add-zero at, b) (four_bytes n h)

-- changes whose places have room in two bytes, and their words in four
abbrev pub NarrowChanges : List Change → Type 0
NarrowChanges = EachChange (λ i x. (i < 65536) × (x < 2 ^ 32))

pub changes_read : (cs : List Change) (p q : List ℕ) (at : ℕ) → length p ≡ at → NarrowChanges cs → changes_at (p ++ (change_bytes cs ++ q)) at (length cs) ≡ cs
unfolding changes_at change_bytes
changes_read [] p q at hp h = refl
changes_read (change i x ∷ cs) p q at hp h =
    let l : List ℕ = p ++ (two i ++ (four x ++ (change_bytes cs ++ q))) in
    let a : u16_at l at ≡ i = two_at p (four x ++ (change_bytes cs ++ q)) at hp i h.0.0 in
    let b : u32_at l (at + 2) ≡ x
    = rw (append_assoc p (two i) (four x ++ (change_bytes cs ++ q))) at (four_at (p ++ two i) (change_bytes cs ++ q) (at + 2) (length-append p (two i) ∙ omega arith) x h.0.1) in
    let c : changes_at l (at + 6) (length cs) ≡ cs
    = rw (append_assoc p (two i ++ four x) (change_bytes cs ++ q)) at (changes_read cs (p ++ (two i ++ four x)) q (at + 6) (length-append p (two i ++ four x) ∙ omega arith) h.1) in
    rw (a, b, c)

pub words_read : (a p q : List ℕ) (at : ℕ) → length p ≡ at → ((i : ℕ) → get_or a i 0 < 2 ^ 32) → words_at (p ++ (word_bytes a ++ q)) at (length a) ≡ a
unfolding words_at word_bytes
words_read [] p q at hp h = refl
words_read (x ∷ a) p q at hp h =
    let l : List ℕ = p ++ (four x ++ (word_bytes a ++ q)) in
    let b : u32_at l at ≡ x = four_at p (word_bytes a ++ q) at hp x (h 0) in
    let c : words_at l (at + 4) (length a) ≡ a
    = rw (append_assoc p (four x) (word_bytes a ++ q)) at (words_read a (p ++ four x) q (at + 4) (length-append p (four x) ∙ omega arith) (λ i. h (suc i))) in
    rw (b, c)

-- how many bytes they are
pub length_changes : (cs : List Change) → length (change_bytes cs) ≡ 6 * length cs
unfolding change_bytes
length_changes [] = refl
length_changes (change i x ∷ cs) = omega (arith, length_changes cs)

pub length_bytes : (a : List ℕ) → length (word_bytes a) ≡ 4 * length a
unfolding word_bytes
length_bytes [] = refl
length_bytes (x ∷ a) = omega (arith, length_bytes a)
