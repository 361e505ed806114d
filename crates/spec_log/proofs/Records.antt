-- The record of a step: how long it is, and that it is read back from the end of a log.
use mathlib.Core.Path.{◌≡◌, refl, sym, ap, ◌∙◌}
use mathlib.Core.Bool.{Bool, true, false, and-false}
use mathlib.Core.List.{List, [], ◌∷◌, ◌++◌, append_assoc}
use Prim.Native.Nat.{ℕ, suc, ◌+◌, ◌-◌, ◌^◌, ◌<◌, ◌≤◌}
use native.Mathlib.Omega.{arith}
use lib.Dec.{eqb, leb}
use lib.ListN.{length, get_or, take, drop, set, length-append}
use lib.Seq.{take-set-le, drop-set-lt}
use borrow.Author.Tests.{ne_eqb, le-leb, lt-leb, leb-true}
use Rattle.varset.specs.Lowest.{pick}
use Rattle.words.specs.Blocks.{puts}
use Rattle.records.specs.Bytes.{u16_at}
use Rattle.records.proofs.Bools.{by}
use Rattle.spec_image.specs.Sizes.{size}
use Rattle.spec_log.specs.Changes.{changes, restored}
use Rattle.spec_log.specs.Records.{two, mark, mark_number, whole_number, most_changes, bytes_of, longest, change_bytes, word_bytes, record_of, changes_at, words_at, last_number, last_bytes, has_record, earlier}
use Rattle.spec_log.proofs.Changes.{back, changes_each}
use Rattle.spec_log.proofs.Bytes.{NarrowChanges, two_at, changes_read, words_read, length_changes, length_bytes}

-- whether a record has changes alone
abbrev pub few_changes : List ℕ → List ℕ → Bool
few_changes a b = leb (length (changes 0 a b)) most_changes

-- the number of a record, and what stands between its mark and its number
unfoldable pub number_of : List ℕ → List ℕ → ℕ
number_of a b = pick (few_changes a b) (length (changes 0 a b)) whole_number

unfoldable pub body_of : List ℕ → List ℕ → List ℕ
body_of a b = pick (few_changes a b) (change_bytes (changes 0 a b)) (word_bytes a)

module _ (a b : List ℕ) where
  pub record_is : record_of a b ≡ mark ++ (body_of a b ++ two (number_of a b))
  unfolding record_of number_of body_of
  record_is = by (few_changes a b) (λ e. rw e) (λ e. rw e)

  -- a record with few changes, and one with all words
  pub number_few : few_changes a b ≡ true → (number_of a b ≡ length (changes 0 a b)) × (body_of a b ≡ change_bytes (changes 0 a b)) × (eqb (number_of a b) whole_number ≡ false)
  unfolding number_of body_of
  number_few e =
      let l = leb-true (length (changes 0 a b)) most_changes e in
      rw e (refl, refl, ne_eqb (length (changes 0 a b)) whole_number (λ z. omega arith))

  pub number_many : few_changes a b ≡ false → (number_of a b ≡ whole_number) × (body_of a b ≡ word_bytes a)
  unfolding number_of body_of
  number_many e = rw e (refl, refl)

  -- it has room in two bytes
  pub number_small : number_of a b < 65536
  number_small =
      by (few_changes a b)
      (λ e. let l = leb-true (length (changes 0 a b)) most_changes e in omega (arith, (number_few e).0))
      (λ e. omega (arith, (number_many e).0))

  module _ (ha : length a ≡ size) where
    body_length : 4 + length (body_of a b) ≡ bytes_of (number_of a b)
    unfolding bytes_of
    body_length =
        by (few_changes a b)
        (λ e. let n = number_few e in rw (n.2, n.0, n.1, length_changes (changes 0 a b)))
        (λ e. let n = number_many e in rw (n.0, n.1, length_bytes a, ha))

    -- a record is as long as its number says
    pub record_length : length (record_of a b) ≡ bytes_of (number_of a b)
    record_length = omega (arith, ap length record_is, length-append (body_of a b) (two (number_of a b)), body_length)

    pub record_least : 4 ≤ length (record_of a b)
    record_least = omega (arith, record_length, body_length)

    pub record_short : length (record_of a b) ≤ longest
    record_short =
        by (few_changes a b)
        (λ e. let n = number_few e in let l = leb-true (length (changes 0 a b)) most_changes e in omega (arith, record_length, body_length, ap length n.1, length_changes (changes 0 a b)))
        (λ e. let n = number_many e in omega (arith, record_length, body_length, ap length n.1, length_bytes a, ha))

    -- it has room in 65,600 bytes
    pub record_room : length (record_of a b) ≤ 65600
    record_room = omega (arith, record_short)

-- what says that it is longer than 65,540 bytes is no record
pub none_longer : (log : List ℕ) (used : ℕ) → 65540 < last_bytes log used → has_record log used ≡ false
unfolding has_record
none_longer log used h = rw (lt-leb (last_bytes log used) longest h, and-false (leb used (length log)))

-- a record at the end of the used part of a log
module _ (a b : List ℕ) (ha : length a ≡ size) (p q : List ℕ) (u : ℕ) (hp : length p ≡ u) where
  abbrev with_record : List ℕ
  with_record = p ++ (record_of a b ++ q)

  abbrev after : ℕ
  after = u + length (record_of a b)

  parts : with_record ≡ p ++ (mark ++ (body_of a b ++ (two (number_of a b) ++ q)))
  parts = rw (record_is a b, append_assoc (body_of a b) (two (number_of a b)) q)

  last_number_lem : last_number with_record after ≡ number_of a b
  unfolding last_number
  last_number_lem =
      let n = number_of a b in
      let e : after - 2 ≡ u + (2 + length (body_of a b)) = omega (arith, record_length a b ha, body_length a b ha) in
      let d : length (p ++ (mark ++ body_of a b)) ≡ u + (2 + length (body_of a b)) = omega (arith, length-append p (mark ++ body_of a b), hp) in
      rw (parts, e) (rw (append_assoc p (mark ++ body_of a b) (two n ++ q)) at (two_at (p ++ (mark ++ body_of a b)) q (u + (2 + length (body_of a b))) d n (number_small a b)))

  pub last_bytes_lem : last_bytes with_record after ≡ length (record_of a b)
  unfolding last_bytes
  last_bytes_lem = rw last_number_lem (sym (record_length a b ha))

  -- the place of the record
  from : after - last_bytes with_record after ≡ u
  from = omega (arith, last_bytes_lem)

  pub has_record_lem : has_record with_record after ≡ true
  unfolding has_record
  has_record_lem =
      let l : after ≤ length with_record = omega (arith, length-append p (record_of a b ++ q), length-append (record_of a b) q, hp) in
      let k : last_bytes with_record after ≤ longest = omega (arith, last_bytes_lem, record_short a b ha) in
      let j : last_bytes with_record after ≤ after = omega (arith, last_bytes_lem) in
      let i : u16_at with_record u ≡ mark_number = rw parts (two_at p (body_of a b ++ (two (number_of a b) ++ q)) u hp mark_number (omega arith)) in
      rw (from, i, le-leb after (length with_record) l, le-leb (last_bytes with_record after) longest k, le-leb (last_bytes with_record after) after j)

  -- what stands after the mark is read as it is: the changes, or the words
  inside : with_record ≡ p ++ mark ++ (body_of a b ++ (two (number_of a b) ++ q))
  inside = parts ∙ sym (append_assoc p mark (body_of a b ++ (two (number_of a b) ++ q)))

  after_mark : length (p ++ mark) ≡ u + 2
  after_mark = omega (arith, length-append p mark, hp)

  module _ (words : (i : ℕ) → get_or a i 0 < 2 ^ 32) where
    few_read : few_changes a b ≡ true → changes_at with_record (u + 2) (number_of a b) ≡ changes 0 a b
    few_read e =
        let n = number_few a b e in
        let h : NarrowChanges (changes 0 a b) = changes_each _ 0 a b (λ k l. (omega (arith, l, ha), words k)) in
        rw (inside, n.1, n.0) (changes_read (changes 0 a b) (p ++ mark) (two (length (changes 0 a b)) ++ q) (u + 2) after_mark h)

    many_read : few_changes a b ≡ false → words_at with_record (u + 2) size ≡ a
    many_read e = rw (inside, (number_many a b e).1) (rw ha at (words_read a (p ++ mark) (two (number_of a b) ++ q) (u + 2) after_mark words))

    -- all changes are put back, or all words
    few_earlier : few_changes a b ≡ true → earlier with_record after b ≡ restored (changes 0 a b) b
    unfolding earlier
    few_earlier e = rw (from, last_number_lem, (number_few a b e).2, few_read e)

    many_earlier : few_changes a b ≡ false → earlier with_record after b ≡ a
    unfolding earlier
    many_earlier e = rw (from, last_number_lem, (number_many a b e).0) (many_read e)

    -- the words before the step
    pub record_back : length b ≡ size → earlier with_record after b ≡ a
    record_back hb = by (few_changes a b) (λ e. few_earlier e ∙ back a b (ha ∙ sym hb)) many_earlier

-- words stored from a place on leave those before it
kept_from : (vs l : List ℕ) (at k v : ℕ) → v ≤ at + k → take v (puts l at k vs) ≡ take v l
kept_from [] l at k v h = refl
kept_from (x ∷ vs) l at k v h = kept_from vs (set l (at + k) x) at (suc k) v (omega arith) ∙ take-set-le v l (at + k) x h

pub kept_below : (vs l : List ℕ) (at v : ℕ) → v ≤ at → take v (puts l at 0 vs) ≡ take v l
kept_below vs l at v h = kept_from vs l at 0 v (omega arith)

-- and those after them
kept_past : (vs l : List ℕ) (at k v : ℕ) → at + (k + length vs) ≤ v → drop v (puts l at k vs) ≡ drop v l
kept_past [] l at k v h = refl
kept_past (x ∷ vs) l at k v h = kept_past vs (set l (at + k) x) at (suc k) v (omega arith) ∙ drop-set-lt v l (at + k) x (omega arith)

pub kept_above : (vs l : List ℕ) (at v : ℕ) → at + length vs ≤ v → drop v (puts l at 0 vs) ≡ drop v l
kept_above vs l at v h = kept_past vs l at 0 v (omega arith)
