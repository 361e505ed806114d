-- Question by question, the place that a refusal names is the lowest failing record.
use Rattle.std.specs.Prelude.{Option, None}
use Rattle.std.specs.Prelude as prelude
use mathlib.Core.Path.{◌≡◌, refl, sym}
use mathlib.Core.Logic.{◌↔◌}
use mathlib.Core.Bool.{Bool, true, false, not}
use mathlib.Core.List.{List}
use Prim.Native.Nat.{ℕ, ◌+◌, ◌-◌, ◌≤◌, ◌<◌}
use native.Mathlib.Omega.{arith}
use native.Mathlib.Decide.{dec_lt}
use lib.Dec.{ltb}
use borrow.Author.Tests.{ltb-true, ltb-false, not-true}
use Rattle.varset.specs.Lowest.{pick, lowest}
use Rattle.varset.specs.Sets.{below}
use Rattle.records.specs.Fields.{functions, params_of, vars_of, count_of}
use Rattle.records.specs.Parts.{start_of, part_of, Laid}
use Rattle.records.specs.Search.{At, first_of, shift, unless}
use Rattle.records.specs.declared.Found.{Found}
use Rattle.records.proofs.Bools.{by, clash}
use Rattle.records.proofs.Loops.{Below, one_place, one_item, lowest_below, lowest_passes, found_below, none_found, first_lowest}
use Rattle.spec_language.specs.Statements.{statement_at}
use Rattle.spec_language.specs.Flow.{returns}
use Rattle.spec_language.specs.Records.{function_ok}
use Rattle.spec_language.specs.Nodes.{node_ok, size_ok, misplaced, undeclared, first_undeclared, outside, mistyped, answers}
use Rattle.spec_language.specs.Check.{refused, origin_of, check_of}
use Rattle.spec_language.proofs.Facts.{sum_more, known, sized_is}
use Rattle.spec_language.proofs.Accept.{Finds, all_pass, asked_none}
use Rattle.spec_language.proofs.Tiles.{Sizes}
use Rattle.spec_language.proofs.Trees.{lacking_item}
use Rattle.spec_language.proofs.LowestRead.{Lacks, Lowest, lacking_inside, lacking_found}
use Rattle.spec_language.proofs.Refusals.{LowestRecord, lowest_record, refused_is, refused_four, asked_first}

-- ---- the questions whose place is a node

starts_rise : (s : List ℕ) (f g i : ℕ) → f < g → i < count_of s f → start_of s f + i ≤ start_of s g
unfolding start_of
starts_rise s f g i m k = omega (arith, sum_more s f g m)

lowest_node : (s : List ℕ) (q p x : ℕ) (P : ℕ → ℕ → Type 0) → ((f : ℕ) → origin_of q s f ≡ start_of s f) → 7 ≤ q → ((f i : ℕ) → f < functions s → P f i → i < count_of s f)
    → ((f : ℕ) → f < functions s → Lowest (P f) (Finds s f q)) → check_of s ≡ refused q p x → LowestRecord s (start_of s) P p
lowest_node s q p x P o l inside h e =
    lowest_record s (start_of s) P (λ f. Finds s f q) p x (λ f g i k m w. starts_rise s f g i m (inside f i k w)) h (asked_first s q p x (start_of s) o l e)

-- node i of function f fails the test
abbrev pub Fails : List ℕ → (ℕ → ℕ → Bool) → ℕ → ℕ → Type 0
Fails s test f i = (i < count_of s f) × (test f i ≡ true)

first_places : (p : ℕ → Bool) (n : ℕ) → Lowest (λ i. (i < n) × (p i ≡ true)) (first_of p n)
first_places p n = go (first_of p n) refl
  where
    go : (a : Option Found) → first_of p n ≡ a → Lowest (λ i. (i < n) × (p i ≡ true)) a
    go (prelude.Some found) e = let l = first_lowest p n found.place found.item e in ((found_below p n found.place found.item (sym e), l.0), λ j h. near j h (dec_lt j found.place))
      where
        near : (j : ℕ) → (j < n) × (p j ≡ true) → Dec (j < found.place) → found.place ≤ j
        near j h (yes q) = clash (p j) h.1 ((first_lowest p n found.place found.item e).1 j q)
        near j h (no q) = omega arith
    go None e = λ j h. clash (p j) h.1 (none_found p n e j h.0)

-- questions 7, 8, 9, 11 and 12 name the lowest node that fails their test
module _ (s : List ℕ) (p x : ℕ) where
  question_places : (q : ℕ) (test : ℕ → ℕ → Bool) → ((f : ℕ) → origin_of q s f ≡ start_of s f) → 7 ≤ q → ((f : ℕ) → Finds s f q ≡ first_of (test f) (count_of s f))
      → check_of s ≡ refused q p x → LowestRecord s (start_of s) (Fails s test) p
  question_places q test o l h = lowest_node s q p x (Fails s test) o l (λ f i k w. w.0) (λ f k. rw (h f) (first_places (test f) (count_of s f)))

  pub place_7 : check_of s ≡ refused 7 p x → LowestRecord s (start_of s) (Fails s (λ f i. not (node_ok s f (part_of s f) i))) p
  unfolding answers origin_of
  place_7 = question_places 7 _ (λ f. refl) (omega arith) (λ f. refl)

  pub place_8 : check_of s ≡ refused 8 p x → LowestRecord s (start_of s) (Fails s (λ f i. not (size_ok (part_of s f) (count_of s f) i))) p
  unfolding answers origin_of
  place_8 = question_places 8 _ (λ f. refl) (omega arith) (λ f. refl)

  pub place_9 : check_of s ≡ refused 9 p x → LowestRecord s (start_of s) (Fails s (λ f i. misplaced (part_of s f) (count_of s f) i)) p
  unfolding answers origin_of
  place_9 = question_places 9 _ (λ f. refl) (omega arith) (λ f. refl)

  pub place_11 : check_of s ≡ refused 11 p x → LowestRecord s (start_of s) (Fails s (λ f i. outside s f (part_of s f) (count_of s f) i)) p
  unfolding answers origin_of
  place_11 = question_places 11 _ (λ f. refl) (omega arith) (λ f. refl)

  pub place_12 : check_of s ≡ refused 12 p x → LowestRecord s (start_of s) (Fails s (λ f i. mistyped s f (part_of s f) (count_of s f) i)) p
  unfolding answers origin_of
  place_12 = question_places 12 _ (λ f. refl) (omega arith) (λ f. refl)

-- node k of function f reads a variable without a value
abbrev pub LacksIn : List ℕ → ℕ → ℕ → Type 0
LacksIn s f k = Lacks (statement_at (part_of s f) (count_of s f - 1)) (below (params_of s f)) k

-- question 13 in a function of a file that passes the questions before it
module _ (s : List ℕ) (g : Laid s) (h : (q : ℕ) → 7 ≤ q → q < 13 → (f : ℕ) → f < functions s → Finds s f q ≡ None) (f : ℕ) (l : f < functions s) where
  abbrev t : List ℕ
  t = part_of s f

  abbrev n : ℕ
  n = count_of s f

  seven : (i : ℕ) → i < n → node_ok s f t i ≡ true
  unfolding answers
  seven = all_pass (node_ok s f t) n (h 7 (omega arith) (omega arith) f l)

  eight : (i : ℕ) → i < n → size_ok t n i ≡ true
  unfolding answers
  eight = all_pass (size_ok t n) n (h 8 (omega arith) (omega arith) f l)

  sizes : Sizes t n
  sizes i p = sized_is t n i (eight i p)

  body : n - 1 < n
  body = omega (arith, g.some f l)

  -- it finds the lowest node that reads a variable without a value
  pub found_13 : Lowest (LacksIn s f) (Finds s f 13)
  unfolding answers
  found_13 = lacking_found t n sizes (n - 1) body (below (params_of s f))

  lacks_below : (i : ℕ) → LacksIn s f i → i < n
  lacks_below i w = let z = lacking_inside t n sizes (n - 1) body (below (params_of s f)) i w in omega (arith, body)

  -- and finds a node exactly where it is that
  pub finds_13 : (k : ℕ) → (Finds s f 13 ≡ At k 0) ↔ (LacksIn s f k × ((j : ℕ) → LacksIn s f j → k ≤ j))
  unfolding answers
  finds_13 k = (λ e. rw e at found_13, λ w. go (Finds s f 13) refl found_13 w)
    where
      go : (a : Option Found) → Finds s f 13 ≡ a → Lowest (LacksIn s f) a → LacksIn s f k × ((j : ℕ) → LacksIn s f j → k ≤ j) → a ≡ At k 0
      go (prelude.Some found) e b w =
          let z : found.place ≡ k = omega (arith, b.1 k w.0, w.1 found.place b.0) in
          let o : found.item ≡ 0 = lacking_item t n (known s f t n g l seven eight) (n - 1) found.place found.item (below (params_of s f)) body e in
          rw (z, o)
      go None e b w = absurd (b k w.0)

-- question 13 names the lowest node of the file that reads a variable without a value
pub place_13 : (s : List ℕ) (p x : ℕ) → check_of s ≡ refused 13 p x → LowestRecord s (start_of s) (LacksIn s) p
unfolding origin_of
place_13 s p x e =
    let r = refused_is s 13 p x (omega arith) e in
    let h : (q : ℕ) → 7 ≤ q → q < 13 → (f : ℕ) → f < functions s → Finds s f q ≡ None = λ q a b. asked_none s q (r.asks.2 q a b) in
    lowest_node s 13 p x (LacksIn s) (λ f. refl) (omega arith) (λ f i l. lacks_below s r.laid h f l i) (found_13 s r.laid h) e

-- ---- the questions whose place is a function's record

-- function f fails, and its own record is the place
abbrev pub Own : (ℕ → Type 0) → ℕ → ℕ → Type 0
Own R f i = (i ≡ 0) × R f

lowest_function : (s : List ℕ) (q p x : ℕ) (R : ℕ → Type 0) → ((f : ℕ) → origin_of q s f ≡ 1 + f) → 7 ≤ q
    → ((f : ℕ) → f < functions s → Lowest (Own R f) (Finds s f q)) → check_of s ≡ refused q p x → LowestRecord s (λ f. 1 + f) (Own R) p
lowest_function s q p x R o l h e =
    lowest_record s (λ f. 1 + f) (Own R) (λ f. Finds s f q) p x (λ f g i k m w. omega (arith, w.0)) h (asked_first s q p x (λ f. 1 + f) o l e)

-- a variable below v that passes the test
pub record Some (u : ℕ → Bool) (v : ℕ) : Type 0 where
  pub variable : ℕ
  pub inside : variable < v
  pub passes : u variable ≡ true

module _ (u : ℕ → Bool) (v : ℕ) where
  undeclared_found : Lowest (Own (λ f. Some u v) 0) (first_undeclared (lowest u v) v)
  unfolding first_undeclared
  undeclared_found =
      by (ltb (lowest u v) v) (λ q. let m = ltb-true (lowest u v) v q in rw q ((refl, record { variable = lowest u v; inside = m; passes = lowest_passes u v m }), λ j w. omega arith))
      (λ q. let m = ltb-false (lowest u v) v q in rw q (λ j w. clash (u w.1.variable) w.1.passes (lowest_below u v w.1.variable (omega (arith, w.1.inside)))))

  undeclared_item : (k x : ℕ) → first_undeclared (lowest u v) v ≡ At k x → (k ≡ 0) × (x < v) × (u x ≡ true) × Below u x
  unfolding first_undeclared
  undeclared_item k x e = go (ltb (lowest u v) v) refl e
    where
      go : (b : Bool) → ltb (lowest u v) v ≡ b → pick b (At 0 (lowest u v)) None ≡ At k x → (k ≡ 0) × (x < v) × (u x ≡ true) × Below u x
      go true q e =
          let m = ltb-true (lowest u v) v q in
          let z : x ≡ lowest u v = sym (one_item e) in
          let y : k ≡ 0 = sym (one_place e) in
          rw z (y, m, lowest_passes u v m, lowest_below u v)
      go false q e = let z : ◌≡◌ {A = ℕ} 0 1 = cc in absurd (omega arith)

unless_found : (b : Bool) → Lowest (Own (λ f. b ≡ false) 0) (unless b 0)
unfolding unless
unless_found true = λ j w. clash true refl w.1
unless_found false = ((refl, refl), λ j w. omega arith)

-- questions 10 and 14 name the lowest function that fails
module _ (s : List ℕ) (p x : ℕ) where
  -- variable x of function f is not declared by exactly one decl
  abbrev pub unmet : ℕ → ℕ → Bool
  unmet f = undeclared s f (part_of s f) (count_of s f)

  pub place_10 : check_of s ≡ refused 10 p x → LowestRecord s (λ f. 1 + f) (Own (λ f. Some (unmet f) (vars_of s f))) p
  unfolding answers origin_of
  place_10 = lowest_function s 10 p x _ (λ f. refl) (omega arith) (λ f l. undeclared_found (unmet f) (vars_of s f))

  -- the item is the lowest variable of the function named that fails
  pub item_10 : check_of s ≡ refused 10 p x → (f : ℕ) → p ≡ 1 + f → (x < vars_of s f) × (unmet f x ≡ true) × Below (unmet f) x
  unfolding answers origin_of
  item_10 e f q =
      let w = asked_first s 10 p x (λ f. 1 + f) (λ f. refl) (omega arith) e in
      let i = undeclared_item (unmet w.function) (vars_of s w.function) w.node x w.finds in
      let z : f ≡ w.function = omega (arith, w.place, i.0) in
      rw z (i.1, i.2, i.3)

  pub place_14 : check_of s ≡ refused 14 p x → LowestRecord s (λ f. 1 + f) (Own (λ f. returns (statement_at (part_of s f) (count_of s f - 1)) ≡ false)) p
  unfolding answers origin_of
  place_14 = lowest_function s 14 p x _ (λ f. refl) (omega arith) (λ f l. unless_found (returns (statement_at (part_of s f) (count_of s f - 1))))

-- and so does question 4
pub place_4 : (s : List ℕ) (p x : ℕ) → check_of s ≡ refused 4 p x → LowestRecord s (λ f. 1 + f) (Own (λ f. function_ok s f ≡ false)) p
unfolding shift
place_4 s p x e = go (first_of (λ f. not (function_ok s f)) (functions s)) (first_places (λ f. not (function_ok s f)) (functions s)) (refused_four s p x e)
  where
    go : (a : Option Found) → Lowest (λ f. (f < functions s) × (not (function_ok s f) ≡ true)) a → shift 1 a ≡ At p x → LowestRecord s (λ f. 1 + f) (Own (λ f. function_ok s f ≡ false)) p
    go (prelude.Some found) b e =
        let z : p ≡ 1 + found.place = sym (one_place e) in
        record { function = found.place; node = 0; known = b.0.0; fails = (refl, not-true (function_ok s found.place) b.0.1); place = omega arith; lowest = λ f i l w. omega (arith, b.1 f (l, rw w.1)) }
    go None b e = let z : ◌≡◌ {A = ℕ} 0 1 = cc in absurd (omega arith)
