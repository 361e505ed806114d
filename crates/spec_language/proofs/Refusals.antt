-- What the check shows that refuses a file, and the lowest failing record of a file.
use Rattle.std.specs.Prelude.{Some, Option, None}
use mathlib.Core.Path.{◌≡◌, refl, ◌∙◌, sym, ap}
use mathlib.Core.Bool.{not}
use mathlib.Core.List.{List, ◌∷◌}
use Prim.Native.Nat.{ℕ, zero, suc, ◌+◌, ◌≤◌, ◌<◌}
use native.Mathlib.Omega.{arith}
use native.Mathlib.Decide.{dec_lt, ℕ_discrete}
use Rattle.records.specs.Fields.{functions}
use Rattle.records.specs.Parts.{Laid}
use Rattle.records.specs.Search.{At, first_of, shift, or_else, first_in}
use Rattle.records.specs.declared.Found.{Found}
use Rattle.records.proofs.Loops.{one_place, one_item}
use Rattle.spec_language.specs.Records.{function_ok}
use Rattle.spec_language.specs.Check.{refused, Asked, ask, origin_of, in_part, part_questions, questions, refuse, first_refusal, check_of}
use Rattle.spec_language.proofs.Facts.{header_is, function_is, laid}
use Rattle.spec_language.proofs.Accept.{Finds, unless_none, shift_none, all_pass}
use Rattle.spec_language.proofs.LowestRead.{Lowest}

-- record p is the lowest of those that fail, over all functions f: i records from origin f on
pub record LowestRecord (s : List ℕ) (origin : ℕ → ℕ) (P : ℕ → ℕ → Type 0) (p : ℕ) : Type 0 where
  pub function : ℕ
  pub node : ℕ
  pub known : function < functions s
  pub fails : P function node
  pub place : p ≡ origin function + node
  pub lowest : (f i : ℕ) → f < functions s → P f i → p ≤ origin f + i

-- what the first of m searches from f on that finds anything finds
pub record First (origin : ℕ → ℕ) (a : ℕ → Option Found) (m f p x : ℕ) : Type 0 where
  pub function : ℕ
  pub node : ℕ
  pub from : f ≤ function
  pub known : function < f + m
  pub finds : a function ≡ At node x
  pub place : p ≡ origin function + node
  pub others : (g : ℕ) → f ≤ g → g < function → a g ≡ None

first_in_lem : (origin : ℕ → ℕ) (a : ℕ → Option Found) (m f p x : ℕ) → first_in (λ f. shift (origin f) (a f)) m f ≡ At p x → First origin a m f p x
unfolding first_in or_else shift
first_in_lem origin a zero f p x e = let z : ◌≡◌ {A = ℕ} 0 1 = cc in absurd (omega arith)
first_in_lem origin a (suc m) f p x e = go (a f) refl e (first_in_lem origin a m (suc f) p x)
  where
    rest : Option Found
    rest = first_in (λ f. shift (origin f) (a f)) m (suc f)

    go : (r : Option Found) → a f ≡ r → or_else (shift (origin f) r) rest ≡ At p x → (rest ≡ At p x → First origin a m (suc f) p x) → First origin a (suc m) f p x
    go (Some found) u e h =
        let z : p ≡ origin f + found.place = sym (one_place e) in
        let v : At found.place found.item ≡ At found.place x = ap (At found.place) (one_item e) in
        record { function = f; node = found.place; from = omega arith; known = omega arith; finds = u ∙ v; place = z; others = λ g l b. absurd (omega arith) }
    go None u e h =
        let w = h e in
        record { function = w.function; node = w.node; from = omega (arith, w.from); known = omega (arith, w.known); finds = w.finds; place = w.place; others = λ g l b. near w.others g l b (ℕ_discrete g f) }
      where
        near : {k : ℕ} → ((g : ℕ) → suc f ≤ g → g < k → a g ≡ None) → (g : ℕ) → f ≤ g → g < k → Dec (g ≡ f) → a g ≡ None
        near o g l b (yes z) = rw z u
        near o g l b (no z) = o g (omega arith) b

-- where each search finds the lowest, and a function's records stand before those of the next, the place found is the lowest
pub lowest_record : (s : List ℕ) (origin : ℕ → ℕ) (P : ℕ → ℕ → Type 0) (a : ℕ → Option Found) (p x : ℕ)
    → ((f g i : ℕ) → f < functions s → f < g → P f i → origin f + i ≤ origin g) → ((f : ℕ) → f < functions s → Lowest (P f) (a f))
    → First origin a (functions s) 0 p x → LowestRecord s origin P p
lowest_record s origin P a p x rise h w =
    record { function = F; node = w.node; known = inside; fails = here.0; place = w.place; lowest = λ g i l q. rw w.place (near g i l q (dec_lt g F) (dec_lt F g)) }
  where
    F : ℕ
    F = w.function

    inside : F < functions s
    inside = omega (arith, w.known)

    here : Lowest (P F) (At w.node x)
    here = rw w.finds at (h F inside)

    near : (g i : ℕ) → g < functions s → P g i → Dec (g < F) → Dec (F < g) → origin F + w.node ≤ origin g + i
    near g i l q (yes u) v = let z : Lowest (P g) None = rw (w.others g (omega arith) u) at (h g l) in absurd (z i q)
    near g i l q (no u) (yes v) = omega (arith, rise F g w.node inside v here.0)
    near g i l q (no u) (no v) = let z : g ≡ F = omega arith in rw z (omega (arith, here.1 i (rw z at q)))

-- question q finds p and x, and the questions from r on before it find nothing
abbrev pub Asks : List ℕ → ℕ → ℕ → ℕ → ℕ → Type 0
Asks s q p x r = (r ≤ q) × (first_in (in_part q s) (functions s) 0 ≡ At p x) × ((k : ℕ) → r ≤ k → k < q → first_in (in_part k s) (functions s) 0 ≡ None)

-- what the check shows that refuses a file by question q
pub record Refused (s : List ℕ) (q p x : ℕ) : Type 0 where
  pub laid : Laid s
  pub asks : Asks s q p x 7

put_on : (r q p x : ℕ) (a : Option Found) (rest : List Asked) → (r ≡ q → ⊥) → first_refusal (ask r a ∷ rest) ≡ refused q p x → (a ≡ None) × (first_refusal rest ≡ refused q p x)
unfolding first_refusal refuse
put_on r q p x (Some found) rest l e = let z : r ≡ q = cc in absurd (l z)
put_on r q p x None rest l e = (refl, e)

part_refused : (s : List ℕ) (m r q p x : ℕ) → first_refusal (part_questions s m r) ≡ refused q p x → Asks s q p x r
unfolding part_questions first_refusal refuse
part_refused s zero r q p x e = let z : ◌≡◌ {A = ℕ} 0 1 = cc in absurd (omega arith)
part_refused s (suc m) r q p x e = go (first_in (in_part r s) (functions s) 0) refl e (part_refused s m (suc r) q p x)
  where
    go : (a : Option Found) → first_in (in_part r s) (functions s) 0 ≡ a → refuse r a (first_refusal (part_questions s m (suc r))) ≡ refused q p x → (first_refusal (part_questions s m (suc r)) ≡ refused q p x → Asks s q p x (suc r))
        → Asks s q p x r
    go (Some found) u e rest =
        let z : q ≡ r = cc in
        let v : At found.place found.item ≡ At p x = cc in
        (omega arith, rw z (u ∙ v), λ k l h. absurd (omega arith))
    go None u e rest = (omega (arith, (rest e).0), (rest e).1, λ k l h. near k l h (ℕ_discrete k r))
      where
        near : (k : ℕ) → r ≤ k → k < q → Dec (k ≡ r) → first_in (in_part k s) (functions s) 0 ≡ None
        near k l h (yes z) = rw z u
        near k l h (no z) = (rest e).2 k (omega arith) h

pub refused_is : (s : List ℕ) (q p x : ℕ) → 7 ≤ q → check_of s ≡ refused q p x → Refused s q p x
unfolding check_of questions
refused_is s q p x l e =
    let q1 = put_on 1 q p x _ _ (λ z. omega arith) e in
    let q2 = put_on 2 q p x _ _ (λ z. omega arith) q1.1 in
    let q3 = put_on 3 q p x _ _ (λ z. omega arith) q2.1 in
    let q4 = put_on 4 q p x _ _ (λ z. omega arith) q3.1 in
    let q5 = put_on 5 q p x _ _ (λ z. omega arith) q4.1 in
    let q6 = put_on 6 q p x _ _ (λ z. omega arith) q5.1 in
    let four = all_pass (function_ok s) (functions s) (shift_none 1 _ q4.0) in
    record {
      laid = laid s (header_is s (unless_none _ 0 q2.0)) (unless_none _ 0 q3.0) (λ f k. function_is s f (four f k)) (unless_none _ 0 q5.0);
      asks = part_refused s 8 7 q p x q6.1;
    }

put_here : (q p x : ℕ) (a : Option Found) (rest : List Asked) → (first_refusal rest ≡ refused q p x → ⊥) → first_refusal (ask q a ∷ rest) ≡ refused q p x → a ≡ At p x
unfolding first_refusal refuse
put_here q p x (Some found) rest n e = let z : At found.place found.item ≡ At p x = cc in z
put_here q p x None rest n e = absurd (n e)

-- a file that question 4 refuses
pub refused_four : (s : List ℕ) (p x : ℕ) → check_of s ≡ refused 4 p x → shift 1 (first_of (λ f. not (function_ok s f)) (functions s)) ≡ At p x
unfolding check_of questions
refused_four s p x e =
    let q1 = put_on 1 4 p x _ _ (λ z. omega arith) e in
    let q2 = put_on 2 4 p x _ _ (λ z. omega arith) q1.1 in
    let q3 = put_on 3 4 p x _ _ (λ z. omega arith) q2.1 in
    put_here 4 p x _ _
    (λ r. let q5 = put_on 5 4 p x _ _ (λ z. omega arith) r in
    let q6 = put_on 6 4 p x _ _ (λ z. omega arith) q5.1 in
    omega (arith, (part_refused s 8 7 4 p x q6.1).0)) q3.1

-- a question whose places in function f are counted from origin f on
module _ (s : List ℕ) (q p x : ℕ) (origin : ℕ → ℕ) (o : (f : ℕ) → origin_of q s f ≡ origin f) (l : 7 ≤ q) (e : check_of s ≡ refused q p x) where
  pub asked_first : First origin (λ f. Finds s f q) (functions s) 0 p x
  asked_first =
      let origins : in_part q s ≡ (λ f. shift (origin f) (Finds s f q)) = λ k f. at f k in
      first_in_lem origin (λ f. Finds s f q) (functions s) 0 p x (rw origins at (refused_is s q p x l e).asks.1)
    where
      at : (f : ℕ) → in_part q s f ≡ shift (origin f) (Finds s f q)
      at f = unfold in_part in rw (o f)
