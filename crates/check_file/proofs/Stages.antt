-- What the answers to questions 1 to 6 make of the check's definition, and what they show of the file.
use Rattle.std.specs.Prelude.{Option, None}
use mathlib.Core.Path.{◌≡◌, sym, ◌∙◌}
use mathlib.Core.Bool.{Bool, true, false, not}
use mathlib.Core.List.{List}
use Prim.Native.Nat.{ℕ, ◌+◌, ◌*◌, ◌%◌, ◌≤◌, ◌<◌}
use native.Mathlib.Omega.{arith}
use lib.Dec.{eqb}
use lib.ListN.{length}
use borrow.Author.Tests.{eqb-true, eq-eqb, ne_eqb, le-leb, lt-leb}
use Rattle.records.specs.Fields.{functions, nodes}
use Rattle.records.specs.Parts.{sum_of, Laid}
use Rattle.records.specs.Search.{At, first_of, shift, unless}
use Rattle.records.specs.declared.Found.{Found}
use Rattle.spec_language.specs.Records.{length_ok, header_ok, records_ok, function_ok, sum_ok, main_ok}
use Rattle.spec_language.specs.Check.{refused, part_questions, questions, refuse, first_refusal, check_of}
use Rattle.spec_language.proofs.Facts.{header_is, function_is, laid}
use Rattle.spec_language.proofs.Accept.{all_pass}
use Rattle.check_file.specs.Stages.{from_four}

module _ (s : List ℕ) (two : header_ok s ≡ true) (three : records_ok s ≡ true) where
  -- how long the file is
  pub record Long : Type 0 where
    pub few : functions s ≤ 128
    pub heads : 12 * (1 + functions s) ≤ length s
    pub whole : length s ≤ 50700

  pub long : Long
  unfolding records_ok
  long =
      let h = header_is s two in
      let e : length s ≡ 12 * (1 + functions s + nodes s) = eqb-true _ _ three in
      record { few = h.few; heads = omega (arith, h.few); whole = omega (arith, h.few, h.small) }

  pub laid_out : first_of (λ f. not (function_ok s f)) (functions s) ≡ None → sum_ok s ≡ true → Laid s
  laid_out four five =
      laid s (header_is s two) three (λ f l. function_is s f (all_pass (function_ok s) (functions s) four f l)) five

module _ (s : List ℕ) where
  abbrev four : Option Found
  four = first_of (λ f. not (function_ok s f)) (functions s)

  pub four_fails : (f x : ℕ) → four ≡ At f x → first_refusal (from_four s) ≡ refused 4 (1 + f) x
  unfolding from_four first_refusal refuse shift
  four_fails f x e = rw e

  pub five_fails : four ≡ None → sum_ok s ≡ false → first_refusal (from_four s) ≡ refused 5 0 0
  unfolding from_four first_refusal refuse shift unless
  five_fails e g = rw (e, g)

  pub six_fails : four ≡ None → sum_ok s ≡ true → main_ok s ≡ false → first_refusal (from_four s) ≡ refused 6 1 0
  unfolding from_four first_refusal refuse shift unless
  six_fails e g h = rw (e, g, h)

  pub six_passes : four ≡ None → sum_ok s ≡ true → main_ok s ≡ true → first_refusal (from_four s) ≡ first_refusal (part_questions s 8 7)
  unfolding from_four first_refusal refuse shift unless
  six_passes e g h = rw (e, g, h)

  pub one_fails : length_ok s ≡ false → check_of s ≡ refused 1 0 0
  unfolding check_of questions first_refusal refuse unless
  one_fails e = rw e

  pub not_twelves : (length s % 12 ≡ 0 → ⊥) → check_of s ≡ refused 1 0 0
  unfolding length_ok
  not_twelves n = one_fails (rw (ne_eqb _ 0 n))

  pub too_short : length s % 12 ≡ 0 → length s < 36 → check_of s ≡ refused 1 0 0
  unfolding length_ok
  too_short e l = one_fails (rw (eq-eqb _ 0 e, lt-leb 36 _ l))

  one_passes : length s % 12 ≡ 0 → 36 ≤ length s → length_ok s ≡ true
  unfolding length_ok
  one_passes e l = rw (eq-eqb _ 0 e, le-leb 36 _ l)

  pub two_fails : length s % 12 ≡ 0 → 36 ≤ length s → header_ok s ≡ false → check_of s ≡ refused 2 0 0
  unfolding check_of questions first_refusal refuse unless
  two_fails e l g = rw (one_passes e l, g)

  pub three_fails : length s % 12 ≡ 0 → 36 ≤ length s → header_ok s ≡ true → records_ok s ≡ false → check_of s ≡ refused 3 0 0
  unfolding check_of questions first_refusal refuse unless
  three_fails e l g h = rw (one_passes e l, g, h)

  pub three_passes : length s % 12 ≡ 0 → 36 ≤ length s → header_ok s ≡ true → records_ok s ≡ true → check_of s ≡ first_refusal (from_four s)
  unfolding check_of questions from_four first_refusal refuse unless
  three_passes e l g h = rw (one_passes e l, g, h)

-- the sum over as many functions as the header says
pub sum_is : (s : List ℕ) {count : ℕ} {b : Bool} (r : Bool) → count ≡ functions s → r ≡ eqb (sum_of s count) (nodes s) → r ≡ b → sum_ok s ≡ b
unfolding sum_ok
sum_is s r e g h = rw (← e) (sym g ∙ h)
