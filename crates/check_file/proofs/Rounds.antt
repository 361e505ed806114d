-- One turn of the loop over questions 7 to 14, and what the turns before it have shown.
use Rattle.std.specs.Prelude.{None, Ok, Err}
use mathlib.Core.Path.{◌≡◌, refl, sym, ap, ◌∙◌}
use mathlib.Core.Bool.{true}
use mathlib.Core.List.{List}
use mathlib.Core.Logic.{◌⊎◌, inl, inr}
use Prim.Native.Nat.{ℕ, zero, suc, ◌+◌, ◌-◌, ◌≤◌, ◌<◌}
use native.Mathlib.Omega.{arith}
use native.Mathlib.Decide.{dec_lt, dec_le}
use Rattle.records.specs.Fields.{functions, count_of}
use Rattle.records.specs.Parts.{part_of, Laid}
use Rattle.records.specs.Search.{At, first_in}
use Rattle.spec_language.specs.Nodes.{node_ok, size_ok, misplaced, answers}
use Rattle.spec_language.specs.Check.{accepted, refused, in_part, part_questions, refuse, first_refusal}
use Rattle.spec_language.proofs.Facts.{known, calls}
use Rattle.spec_language.proofs.Accept.{asked_none, all_pass, asked_part}
use Rattle.spec_language.specs.Known.{Known, CallsKnown, WellFormed}
use Rattle.records.proofs.Loops as loops
use Rattle.records.proofs.PartWalks.{part_length}
use Rattle.check_file.specs.Answers.{Answer, says}
use Rattle.check_file.specs.Stages.{PassedBefore, Ready, AnswersTo}

pub none_passed : (s : List ℕ) → PassedBefore s 7
none_passed s k p q = absurd (omega arith)

pub fewer_passed : (s : List ℕ) {q r : ℕ} → r ≤ q → PassedBefore s q → PassedBefore s r
fewer_passed s l h k p m = h k p (omega arith)

pub more_passed : (s : List ℕ) (q : ℕ) → PassedBefore s q → first_in (in_part q s) (functions s) 0 ≡ None → PassedBefore s (q + 1)
more_passed s q h e k p l = go (dec_lt k q)
  where
    go : Dec (k < q) → first_in (in_part k s) (functions s) 0 ≡ None
    go (yes m) = h k p m
    go (no m) = let z : k ≡ q = omega arith in rw z e

pub ready : (s : List ℕ) (q : ℕ) → Laid s → PassedBefore s q → Ready s q
unfolding answers
ready s q l p = (λ h. facts h, λ h f k. formed h f k)
  where
    seven : 9 < q → (f : ℕ) → f < functions s → (i : ℕ) → i < count_of s f → node_ok s f (part_of s f) i ≡ true
    seven h f k = all_pass (node_ok s f (part_of s f)) (count_of s f) (asked_none s 7 (p 7 (omega arith) (omega arith)) f k)

    eight : 9 < q → (f : ℕ) → f < functions s → (i : ℕ) → i < count_of s f → size_ok (part_of s f) (count_of s f) i ≡ true
    eight h f k = all_pass (size_ok (part_of s f) (count_of s f)) (count_of s f) (asked_none s 8 (p 8 (omega arith) (omega arith)) f k)

    facts : 9 < q → (f : ℕ) → f < functions s → Known (part_of s f) (count_of s f) × CallsKnown (functions s) (part_of s f) (count_of s f)
    facts h f k = (known s f (part_of s f) (count_of s f) l k (seven h f k) (eight h f k), calls s f (part_of s f) (count_of s f) l k (seven h f k))

    formed : 12 < q → (f : ℕ) → f < functions s → WellFormed (part_of s f) (count_of s f)
    formed h f k =
        let z = part_length s f (l.fits f k) in
        let g : 9 < q = omega arith in
        record {
          inside = omega arith;
          nodes = (facts g f k).0;
          sized = eight g f k;
          placed = loops.none_found (misplaced (part_of s f) (count_of s f)) (count_of s f) (asked_none s 9 (p 9 (omega arith) (omega arith)) f k);
        }

module _ (s : List ℕ) (q : ℕ) where
  round : q < 15 → first_refusal (part_questions s (15 - q) q) ≡ refuse q (first_in (in_part q s) (functions s) 0) (first_refusal (part_questions s (15 - (q + 1)) (q + 1)))
  unfolding part_questions first_refusal
  round h =
      let e : 15 - q ≡ suc (15 - (q + 1)) = omega arith in
      let g : suc q ≡ q + 1 = omega arith in
      ap (λ (m : ℕ). first_refusal (part_questions s m q)) e ∙ ap (λ (k : ℕ). refuse q (first_in (in_part q s) (functions s) 0) (first_refusal (part_questions s (15 - (q + 1)) k))) g

  round_found : (p x : ℕ) → q < 15 → first_in (in_part q s) (functions s) 0 ≡ At p x → first_refusal (part_questions s (15 - q) q) ≡ refused q p x
  unfolding refuse
  round_found p x h e = round h ∙ rw e

  round_on : q < 15 → first_in (in_part q s) (functions s) 0 ≡ None → first_refusal (part_questions s (15 - q) q) ≡ first_refusal (part_questions s (15 - (q + 1)) (q + 1))
  unfolding refuse
  round_on h e = round h ∙ rw e

-- the questions before q are passed over
skipped : (s : List ℕ) (k : ℕ) → k ≤ 8 → PassedBefore s (7 + k) → first_refusal (part_questions s 8 7) ≡ first_refusal (part_questions s (15 - (7 + k)) (7 + k))
skipped s zero l h = refl
skipped s (suc k) l h =
    let e : 7 + suc k ≡ 7 + k + 1 = omega arith in
    rw e (skipped s k (omega arith) (fewer_passed s (omega arith) h) ∙ round_on s (7 + k) (omega arith) (h (7 + k) (omega arith) (omega arith)))

-- the first question that finds something refuses
pub found_first : (s : List ℕ) (q p x : ℕ) → 7 ≤ q → q < 15 → PassedBefore s q → first_in (in_part q s) (functions s) 0 ≡ At p x → first_refusal (part_questions s 8 7) ≡ refused q p x
found_first s q p x l m h e =
    let k : 7 + (q - 7) ≡ q = omega arith in
    (rw k at (skipped s (q - 7) (omega arith) (rw k h))) ∙ round_found s q p x m e

-- where none finds anything, the file is accepted
pub none_found : (s : List ℕ) (q : ℕ) → 15 ≤ q → PassedBefore s q → first_refusal (part_questions s 8 7) ≡ accepted
none_found s q l h = asked_part s 8 7 (λ k p m. h k p (omega arith))

-- what two answers share, either of them has
pub one_of_two : (P : Answer → Type 0) {r a b : Answer} → (r ≡ a) ⊎ (r ≡ b) → P a → P b → P r
one_of_two P (inl e) x y = rw e x
one_of_two P (inr e) x y = rw e y

-- the answer of all questions is the check's
pub answers_all : (s : List ℕ) (r : Answer) → AnswersTo s 15 r → says r ≡ first_refusal (part_questions s 8 7)
unfolding says
answers_all s (Ok u) h = sym (none_found s 15 (omega arith) h)
answers_all s (Err r) h = h

-- the questions before the greater of two find nothing
pub greater_passed : (s : List ℕ) {a b r : ℕ} → PassedBefore s a → PassedBefore s b → (b ≤ a → r ≡ a) → (a ≤ b → r ≡ b) → PassedBefore s r
greater_passed s {a} {b} {r} h k u v = go (dec_le a b)
  where
    go : Dec (a ≤ b) → PassedBefore s r
    go (yes l) = rw (v l) k
    go (no l) = rw (u (omega arith)) h
