-- An accepted file, question by question: the check accepts it exactly where every record passes every question.
use Rattle.std.specs.Prelude.{Some, Option, None}
use mathlib.Core.Path.{◌≡◌, refl, sym}
use mathlib.Core.Bool.{Bool, true, false, not}
use mathlib.Core.List.{List, ◌∷◌}
use Prim.Native.Nat.{ℕ, zero, suc, ◌+◌, ◌-◌, ◌≤◌, ◌<◌}
use native.Mathlib.Omega.{arith}
use lib.Dec.{eqb, ltb}
use lib.ListN.{get_or}
use borrow.Author.Tests.{eqb-true, eqb-false, not-false, ltb-false, le-ltb}
use Rattle.varset.specs.Lowest.{pick, lowest}
use Rattle.varset.specs.Sets.{below}
use Rattle.records.specs.Fields.{functions, params_of, vars_of, count_of}
use Rattle.records.specs.Parts.{part_of, Laid}
use Rattle.records.specs.Search.{At, first_of, shift, or_else, first_in, unless}
use Rattle.records.specs.declared.Found.{Found}
use Rattle.records.proofs.Loops.{Below, first-none, none_found, lowest_none, lowest_below}
use Rattle.records.proofs.PartWalks.{none_in}
use Rattle.spec_language.specs.Statements.{statement_at}
use Rattle.spec_language.specs.Flow.{lacks, returns}
use Rattle.spec_language.specs.Records.{length_ok, header_ok, records_ok, function_ok, sum_ok, main_ok}
use Rattle.spec_language.specs.Nodes.{node_ok, size_ok, misplaced, undeclared, first_undeclared, outside, mistyped, answers}
use Rattle.spec_language.specs.Check.{accepted, Asked, ask, origin_of, in_part, part_questions, questions, refuse, first_refusal, check_of}
use Rattle.spec_language.specs.Known.{Known, CallsKnown}
use Rattle.spec_language.proofs.Facts.{Header, header_is, Function, function_is, laid, known, calls}

-- every record of the file passes every question
pub record Accepted (s : List ℕ) : Type 0 where
  pub one : length_ok s ≡ true
  pub two : header_ok s ≡ true
  pub three : records_ok s ≡ true
  pub four : (f : ℕ) → f < functions s → function_ok s f ≡ true
  pub five : sum_ok s ≡ true
  pub six : main_ok s ≡ true
  pub seven : (f i : ℕ) → f < functions s → i < count_of s f → node_ok s f (part_of s f) i ≡ true
  pub eight : (f i : ℕ) → f < functions s → i < count_of s f → size_ok (part_of s f) (count_of s f) i ≡ true
  pub nine : (f i : ℕ) → f < functions s → i < count_of s f → misplaced (part_of s f) (count_of s f) i ≡ false
  pub ten : (f x : ℕ) → f < functions s → x < vars_of s f → undeclared s f (part_of s f) (count_of s f) x ≡ false
  pub eleven : (f i : ℕ) → f < functions s → i < count_of s f → outside s f (part_of s f) (count_of s f) i ≡ false
  pub twelve : (f i : ℕ) → f < functions s → i < count_of s f → mistyped s f (part_of s f) (count_of s f) i ≡ false
  pub thirteen : (f : ℕ) → f < functions s → lacks (statement_at (part_of s f) (count_of s f - 1)) (below (params_of s f)) ≡ None
  pub fourteen : (f : ℕ) → f < functions s → returns (statement_at (part_of s f) (count_of s f - 1)) ≡ true

-- ---- a question that finds nothing, both ways

put_first : (q : ℕ) (a : Option Found) (rest : List Asked) → first_refusal (ask q a ∷ rest) ≡ accepted → (a ≡ None) × (first_refusal rest ≡ accepted)
unfolding first_refusal refuse
put_first q (Some found) rest e = let z : ◌≡◌ {A = ℕ} 0 1 = cc in absurd (omega arith)
put_first q None rest e = (refl, e)

put_next : (q : ℕ) (a : Option Found) (rest : List Asked) → a ≡ None → first_refusal rest ≡ accepted → first_refusal (ask q a ∷ rest) ≡ accepted
unfolding first_refusal refuse
put_next q a rest e r = rw e r

pub unless_none : (b : Bool) (p : ℕ) → unless b p ≡ None → b ≡ true
unfolding unless
unless_none true p e = refl
unless_none false p e = let z : ◌≡◌ {A = ℕ} 0 1 = cc in absurd (omega arith)

pub none_unless : (b : Bool) (p : ℕ) → b ≡ true → unless b p ≡ None
unfolding unless
none_unless b p e = rw e

pub shift_none : (k : ℕ) (a : Option Found) → shift k a ≡ None → a ≡ None
unfolding shift
shift_none k (Some found) e = let z : ◌≡◌ {A = ℕ} 0 1 = cc in absurd (omega arith)
shift_none k None e = refl

none_shift : (k : ℕ) (a : Option Found) → a ≡ None → shift k a ≡ None
unfolding shift
none_shift k a e = rw e

pub all_pass : (p : ℕ → Bool) (n : ℕ) → first_of (λ i. not (p i)) n ≡ None → (i : ℕ) → i < n → p i ≡ true
all_pass p n e i h = not-false (p i) (none_found (λ i. not (p i)) n e i h)

pub pass_all : (p : ℕ → Bool) (n : ℕ) → ((i : ℕ) → i < n → p i ≡ true) → first_of (λ i. not (p i)) n ≡ None
pass_all p n h = sym (first-none (λ i. not (p i)) n n (omega arith) (λ k l. rw (h k l)))

pub none_fails : (p : ℕ → Bool) (n : ℕ) → Below p n → first_of p n ≡ None
none_fails p n h = sym (first-none p n n (omega arith) h)

undeclared_none : (p : ℕ → Bool) (v : ℕ) → first_undeclared (lowest p v) v ≡ None → Below p v
unfolding first_undeclared
undeclared_none p v e = go (ltb (lowest p v) v) refl e
  where
    go : (b : Bool) → ltb (lowest p v) v ≡ b → pick b (At 0 (lowest p v)) None ≡ None → Below p v
    go true q e = let z : ◌≡◌ {A = ℕ} 0 1 = cc in absurd (omega arith)
    go false q e = λ k h. lowest_below p v k (omega (arith, ltb-false (lowest p v) v q))

none_undeclared : (p : ℕ → Bool) (v : ℕ) → Below p v → first_undeclared (lowest p v) v ≡ None
unfolding first_undeclared
none_undeclared p v h = rw (lowest_none p v h, le-ltb v v (omega arith))

none_first : (t : ℕ → Option Found) (m f : ℕ) → ((k : ℕ) → f ≤ k → k < f + m → t k ≡ None) → first_in t m f ≡ None
unfolding first_in or_else
none_first t zero f h = refl
none_first t (suc m) f h = rw (h f (omega arith) (omega arith)) (none_first t m (suc f) (λ k p q. h k (omega arith) (omega arith)))

-- ---- what each of questions 7 to 14 finds in a function
module _ (s : List ℕ) (f : ℕ) where
  abbrev pub Finds : ℕ → Option Found
  Finds q = get_or (answers s f (part_of s f) (count_of s f)) (q - 7) None

  in_part_lem : (q : ℕ) → in_part q s f ≡ None → Finds q ≡ None
  unfolding in_part
  in_part_lem q e = shift_none (origin_of q s f) (Finds q) e

  part_in : (q : ℕ) → Finds q ≡ None → in_part q s f ≡ None
  unfolding in_part
  part_in q e = none_shift (origin_of q s f) (Finds q) e

pub asked_none : (s : List ℕ) (q : ℕ) → first_in (in_part q s) (functions s) 0 ≡ None → (f : ℕ) → f < functions s → Finds s f q ≡ None
asked_none s q e f h = in_part_lem s f q (none_in (in_part q s) (functions s) 0 e f (omega arith) (omega arith))

pub none_asked : (s : List ℕ) (q : ℕ) → ((f : ℕ) → f < functions s → Finds s f q ≡ None) → first_in (in_part q s) (functions s) 0 ≡ None
none_asked s q h = none_first (in_part q s) (functions s) 0 (λ f p r. part_in s f q (h f (omega arith)))

-- ---- the check accepts exactly where every record passes every question

-- one after the other of the questions from q on
part_asked : (s : List ℕ) (m q : ℕ) → first_refusal (part_questions s m q) ≡ accepted → (k : ℕ) → q ≤ k → k < q + m → first_in (in_part k s) (functions s) 0 ≡ None
unfolding part_questions
part_asked s zero q e k p r = absurd (omega arith)
part_asked s (suc m) q e k p r = go (eqb k q) refl (put_first q _ (part_questions s m (suc q)) e) (λ z. part_asked s m (suc q) z k)
  where
    go : (b : Bool) → eqb k q ≡ b → (first_in (in_part q s) (functions s) 0 ≡ None) × (first_refusal (part_questions s m (suc q)) ≡ accepted)
        → (first_refusal (part_questions s m (suc q)) ≡ accepted → suc q ≤ k → k < suc q + m → first_in (in_part k s) (functions s) 0 ≡ None) → first_in (in_part k s) (functions s) 0 ≡ None
    go true z a rest = rw (eqb-true k q z) a.0
    go false z a rest = let n : k ≡ q → ⊥ = eqb-false k q z in rest a.1 (omega arith) (omega arith)

pub asked_part : (s : List ℕ) (m q : ℕ) → ((k : ℕ) → q ≤ k → k < q + m → first_in (in_part k s) (functions s) 0 ≡ None) → first_refusal (part_questions s m q) ≡ accepted
unfolding part_questions first_refusal
asked_part s zero q h = refl
asked_part s (suc m) q h = put_next q _ (part_questions s m (suc q)) (h q (omega arith) (omega arith)) (asked_part s m (suc q) (λ k p r. h k (omega arith) (omega arith)))

pub accepted_is : (s : List ℕ) → check_of s ≡ accepted → Accepted s
unfolding check_of questions answers
accepted_is s e =
    let q1 = put_first 1 _ _ e in
    let q2 = put_first 2 _ _ q1.1 in
    let q3 = put_first 3 _ _ q2.1 in
    let q4 = put_first 4 _ _ q3.1 in
    let q5 = put_first 5 _ _ q4.1 in
    let q6 = put_first 6 _ _ q5.1 in
    let rest : (k : ℕ) → 7 ≤ k → k < 15 → (f : ℕ) → f < functions s → Finds s f k ≡ None = λ k p r. asked_none s k (part_asked s 8 7 q6.1 k p r) in
    record {
      one = unless_none _ 0 q1.0;
      two = unless_none _ 0 q2.0;
      three = unless_none _ 0 q3.0;
      four = all_pass (function_ok s) (functions s) (shift_none 1 _ q4.0);
      five = unless_none _ 0 q5.0;
      six = unless_none _ 1 q6.0;
      seven = λ f i h. all_pass (node_ok s f (part_of s f)) (count_of s f) (rest 7 (omega arith) (omega arith) f h) i;
      eight = λ f i h. all_pass (size_ok (part_of s f) (count_of s f)) (count_of s f) (rest 8 (omega arith) (omega arith) f h) i;
      nine = λ f i h. none_found (misplaced (part_of s f) (count_of s f)) (count_of s f) (rest 9 (omega arith) (omega arith) f h) i;
      ten = λ f x h. undeclared_none (undeclared s f (part_of s f) (count_of s f)) (vars_of s f) (rest 10 (omega arith) (omega arith) f h) x;
      eleven = λ f i h. none_found (outside s f (part_of s f) (count_of s f)) (count_of s f) (rest 11 (omega arith) (omega arith) f h) i;
      twelve = λ f i h. none_found (mistyped s f (part_of s f) (count_of s f)) (count_of s f) (rest 12 (omega arith) (omega arith) f h) i;
      thirteen = λ f h. rest 13 (omega arith) (omega arith) f h;
      fourteen = λ f h. unless_none _ 0 (rest 14 (omega arith) (omega arith) f h);
    }

-- a statement of each number from 7 to 14
pub seven_to_fourteen : (P : ℕ → Type 0) → P 7 → P 8 → P 9 → P 10 → P 11 → P 12 → P 13 → P 14 → (k : ℕ) → 7 ≤ k → k < 15 → P k
seven_to_fourteen P a b c d e f g h zero p q = absurd (omega arith)
seven_to_fourteen P a b c d e f g h (suc zero) p q = absurd (omega arith)
seven_to_fourteen P a b c d e f g h (suc (suc zero)) p q = absurd (omega arith)
seven_to_fourteen P a b c d e f g h (suc (suc (suc zero))) p q = absurd (omega arith)
seven_to_fourteen P a b c d e f g h (suc (suc (suc (suc zero)))) p q = absurd (omega arith)
seven_to_fourteen P a b c d e f g h (suc (suc (suc (suc (suc zero))))) p q = absurd (omega arith)
seven_to_fourteen P a b c d e f g h (suc (suc (suc (suc (suc (suc zero)))))) p q = absurd (omega arith)
seven_to_fourteen P a b c d e f g h (suc (suc (suc (suc (suc (suc (suc zero))))))) p q = a
seven_to_fourteen P a b c d e f g h (suc (suc (suc (suc (suc (suc (suc (suc zero)))))))) p q = b
seven_to_fourteen P a b c d e f g h (suc (suc (suc (suc (suc (suc (suc (suc (suc zero))))))))) p q = c
seven_to_fourteen P a b c d e f g h (suc (suc (suc (suc (suc (suc (suc (suc (suc (suc zero)))))))))) p q = d
seven_to_fourteen P a b c d e f g h (suc (suc (suc (suc (suc (suc (suc (suc (suc (suc (suc zero))))))))))) p q = e
seven_to_fourteen P a b c d e f g h (suc (suc (suc (suc (suc (suc (suc (suc (suc (suc (suc (suc zero)))))))))))) p q = f
seven_to_fourteen P a b c d e f g h (suc (suc (suc (suc (suc (suc (suc (suc (suc (suc (suc (suc (suc zero))))))))))))) p q = g
seven_to_fourteen P a b c d e f g h (suc (suc (suc (suc (suc (suc (suc (suc (suc (suc (suc (suc (suc (suc zero)))))))))))))) p q = h
seven_to_fourteen P a b c d e f g h (suc (suc (suc (suc (suc (suc (suc (suc (suc (suc (suc (suc (suc (suc (suc k))))))))))))))) p q = absurd (omega arith)

pub is_accepted : (s : List ℕ) → Accepted s → check_of s ≡ accepted
unfolding check_of questions answers
is_accepted s h =
    let t : ℕ → List ℕ = λ f. part_of s f in
    let n : ℕ → ℕ = λ f. count_of s f in
    put_next 1 _ _ (none_unless _ 0 h.one)
    (put_next 2 _ _ (none_unless _ 0 h.two)
    (put_next 3 _ _ (none_unless _ 0 h.three)
    (put_next 4 _ _ (none_shift 1 _ (pass_all (function_ok s) (functions s) h.four))
    (put_next 5 _ _ (none_unless _ 0 h.five)
    (put_next 6 _ _ (none_unless _ 1 h.six)
    (asked_part s 8 7
    (seven_to_fourteen (λ k. first_in (in_part k s) (functions s) 0 ≡ None)
    (none_asked s 7 (λ f l. pass_all (node_ok s f (t f)) (n f) (λ i. h.seven f i l)))
    (none_asked s 8 (λ f l. pass_all (size_ok (t f) (n f)) (n f) (λ i. h.eight f i l)))
    (none_asked s 9 (λ f l. none_fails (misplaced (t f) (n f)) (n f) (λ i. h.nine f i l)))
    (none_asked s 10 (λ f l. none_undeclared (undeclared s f (t f) (n f)) (vars_of s f) (λ x. h.ten f x l)))
    (none_asked s 11 (λ f l. none_fails (outside s f (t f) (n f)) (n f) (λ i. h.eleven f i l)))
    (none_asked s 12 (λ f l. none_fails (mistyped s f (t f) (n f)) (n f) (λ i. h.twelve f i l)))
    (none_asked s 13 (λ f l. h.thirteen f l))
    (none_asked s 14 (λ f l. none_unless _ 0 (h.fourteen f l))))))))))

-- ---- what the later questions, and the machine, lean on
module _ (s : List ℕ) (h : Accepted s) where
  pub header : Header s
  header = header_is s h.two

  pub function : (f : ℕ) → f < functions s → Function s f
  function f l = function_is s f (h.four f l)

  pub parts : Laid s
  parts = laid s header h.three function h.five

  pub nodes_known : (f : ℕ) → f < functions s → Known (part_of s f) (count_of s f)
  nodes_known f l = known s f (part_of s f) (count_of s f) parts l (λ i. h.seven f i l) (λ i. h.eight f i l)

  pub calls_known : (f : ℕ) → f < functions s → CallsKnown (functions s) (part_of s f) (count_of s f)
  calls_known f l = calls s f (part_of s f) (count_of s f) parts l (λ i. h.seven f i l)
