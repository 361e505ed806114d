-- The last record of a log: its bytes, whether it is there, and its words put back one after another.
use mathlib.Core.Path.{◌≡◌, refl, sym, ap, ◌∙◌}
use mathlib.Core.Bool.{true}
use mathlib.Core.List.{List, [], ◌∷◌, ◌++◌, append-nil}
use Prim.Native.Nat.{ℕ, suc, ◌+◌, ◌*◌, ◌-◌, ◌<◌, ◌≤◌}
use native.Mathlib.Omega.{arith}
use lib.Dec.{eqb, leb}
use lib.ListN.{length, set, take, length-set}
use lib.Seq.{append_snoc, set_out, take_all, take-suc-set}
use borrow.Author.Tests.{ne_eqb, eqb-true, le-leb, leb-true}
use Rattle.varset.specs.Lowest.{pick}
use Rattle.words.proofs.Tests.{both}
use Rattle.records.specs.Bytes.{u16_at, u32_at}
use Rattle.records.proofs.Bools.{by}
use Rattle.spec_image.specs.Sizes.{size}
use Rattle.spec_log.specs.Changes.{restored}
use Rattle.spec_log.specs.Records.{mark_number, whole_number, bytes_of, longest, changes_at, words_at, last_number, last_bytes, has_record, earlier}

-- the bytes of a record that has all words, of one that has not, and of any
pub bytes_whole : (n : ℕ) → n ≡ whole_number → longest ≡ bytes_of n
unfolding bytes_of
bytes_whole n e = rw e

pub bytes_few : (n : ℕ) → ¬ (n ≡ whole_number) → 4 + 6 * n ≡ bytes_of n
unfolding bytes_of
bytes_few n e = rw (ne_eqb n whole_number e)

pub bytes_least : (n : ℕ) → 4 ≤ bytes_of n
unfolding bytes_of
bytes_least n = by (eqb n whole_number) (λ e. rw e (omega arith)) (λ e. rw e (omega arith))

-- what is read from a place on, at its start
pub from_start : {C : Type 0} (f : ℕ → ℕ → C) (at n : ℕ) → f (at + 0) (n - 0) ≡ f at n
from_start f at n =
    let a : at + 0 ≡ at = omega arith in
    let b : n - 0 ≡ n = omega arith in
    rw (a, b)

-- one change more, at a place p within the words or past them
module _ (log m l t : List ℕ) (at n i k p : ℕ) (h : i < n) (e : length m ≡ k) (s : restored (changes_at log (at + 6 * i) (n - i)) m ≡ t)
    (q : p ≡ u16_at log (at + 6 * i)) where
  abbrev later : Type 0
  later = (length l ≡ k) × (restored (changes_at log (at + 6 * (i + 1)) (n - (i + 1))) l ≡ t)

  pub change_put : (x : ℕ) → x ≡ u32_at log (at + 6 * i + 2) → l ≡ set m p x → later
  unfolding changes_at
  change_put x y z =
      let a : n - i ≡ suc (n - (i + 1)) = omega arith in
      let b : at + 6 * (i + 1) ≡ at + 6 * i + 6 = omega arith in
      (rw z (length-set m p x ∙ e), rw (b, z, q, y) (rw a at s))

  pub change_past : k ≤ p → l ≡ m → later
  change_past o z =
      let x = u32_at log (at + 6 * i + 2) in
      change_put x refl (z ∙ sym (set_out m p x (omega arith)))

pub changes_done : (log m : List ℕ) (at n i : ℕ) → n ≤ i → restored (changes_at log at (n - i)) m ≡ m
unfolding changes_at
changes_done log m at n i h = let a : n - i ≡ 0 = omega arith in rw a

-- one word more
pub word_put : (log m t : List ℕ) (at n i x : ℕ) → i < n → length m ≡ n → x ≡ u32_at log (at + 4 * i) → take i m ++ words_at log (at + 4 * i) (n - i) ≡ t
    → (length (set m i x) ≡ n) × (take (i + 1) (set m i x) ++ words_at log (at + 4 * (i + 1)) (n - (i + 1)) ≡ t)
unfolding words_at
word_put log m t at n i x h e q s =
    let a : n - i ≡ suc (n - (i + 1)) = omega arith in
    let b : at + 4 * (i + 1) ≡ at + 4 * i + 4 = omega arith in
    let k : i + 1 ≡ suc i = omega arith in
    let z : take (i + 1) (set m i x) ≡ take i m ++ (x ∷ []) = rw k (take-suc-set m i x (omega arith)) in
    (length-set m i x ∙ e, rw (z, b) (append_snoc (take i m) x (words_at log (at + 4 * i + 4) (n - (i + 1))) ∙ rw q (rw a at s)))

pub words_done : (log m : List ℕ) (at n i : ℕ) → n ≤ i → length m ≡ n → take i m ++ words_at log at (n - i) ≡ m
unfolding words_at
words_done log m at n i h e =
    let a : n - i ≡ 0 = omega arith in
    let k : length m ≤ i = omega arith in
    rw (a, take_all i m k) (append-nil m)

module _ (log : List ℕ) (used : ℕ) where
  -- what a record at the end of a log is
  pub has_so : has_record log used ≡ true
      → (used ≤ length log) × (last_bytes log used ≤ longest) × (last_bytes log used ≤ used) × (u16_at log (used - last_bytes log used) ≡ mark_number)
  unfolding has_record
  has_so e =
      let a = both (leb used (length log)) _ e in
      let b = both (leb (last_bytes log used) longest) _ a.1 in
      let d = both (leb (last_bytes log used) used) _ b.1 in
      (leb-true used (length log) a.0, leb-true (last_bytes log used) longest b.0, leb-true (last_bytes log used) used d.0, eqb-true _ mark_number d.1)

  pub last_least : 4 ≤ last_bytes log used
  unfolding last_bytes
  last_least = bytes_least (last_number log used)

  pub last-is : (n r : ℕ) → n ≡ u16_at log (used - 2) → r ≡ bytes_of n → r ≡ last_bytes log used
  unfolding last_bytes last_number
  last-is n r e f = f ∙ ap bytes_of e

  -- the answer: 0 where one of the tests fails
  abbrev answer : ℕ
  answer = pick (has_record log used) (last_bytes log used) 0

  none : (has_record log used ≡ true → ⊥) → 0 ≡ answer
  none h = by (has_record log used) (λ e. absurd (h e)) (λ e. rw e)

  pub none_past : length log < used → 0 ≡ answer
  none_past h = none (λ e. let a = (has_so e).0 in omega arith)

  pub none_short : used < 4 → 0 ≡ answer
  none_short h = none (λ e. let a = (has_so e).2 in let b = last_least in omega arith)

  module _ (r : ℕ) (q : r ≡ last_bytes log used) where
    pub none_long : longest < r → 0 ≡ answer
    none_long h = none (λ e. let a = (has_so e).1 in omega arith)

    pub none_over : used < r → 0 ≡ answer
    none_over h = none (λ e. let a = (has_so e).2 in omega arith)

    module _ (x : ℕ) (y : x ≡ u16_at log (used - r)) where
      pub none_marked : (x ≡ mark_number → ⊥) → 0 ≡ answer
      none_marked h = none (λ e. h (y ∙ rw q (has_so e).3))

      pub some : used ≤ length log → r ≤ longest → r ≤ used → x ≡ mark_number → r ≡ answer
      unfolding has_record
      some a b d h = rw (← q, ← y, h, le-leb used (length log) a, le-leb r longest b, le-leb r used d)

-- a record that is there ends within the log
pub used_within : (log : List ℕ) (used : ℕ) → has_record log used ≡ true → (4 ≤ used) × (used ≤ length log)
used_within log used t =
    let a = has_so log used t in
    let b = last_least log used in
    (omega arith, a.0)

-- its number n and its bytes r
module _ (log : List ℕ) (used n r : ℕ) (t : has_record log used ≡ true) (p : n ≡ u16_at log (used - 2)) (q : r ≡ bytes_of n) where
  pub bytes_within : (4 ≤ r) × (r ≤ used) × (used ≤ length log)
  bytes_within =
      let a = has_so log used t in
      let b = last-is log used n r p q in
      let d = last_least log used in
      (omega arith, omega arith, a.0)

  -- all its words stand in the log, and they are those before the step
  module _ (e : n ≡ whole_number) where
    pub words_within : (k : ℕ) → k ≡ size → used - r + 2 + 4 * k ≤ length log
    words_within k h = let a = bytes_within in let b = bytes_whole n e in omega arith

    pub words_before_lem : (w : List ℕ) (k : ℕ) → k ≡ size → words_at log (used - r + 2) k ≡ earlier log used w
    unfolding earlier last_bytes last_number
    words_before_lem w k h = rw (← p, ← q, e, h)

  -- and so its changes
  module _ (e : ¬ (n ≡ whole_number)) where
    pub changes_within : used - r + 2 + 6 * n ≤ length log
    changes_within = let a = bytes_within in let b = bytes_few n e in omega arith

    pub changes_before : (w : List ℕ) → restored (changes_at log (used - r + 2) n) w ≡ earlier log used w
    unfolding earlier last_bytes last_number
    changes_before w = rw (← p, ← q, ne_eqb n whole_number e)
