-- What the questions of the records and of the nodes show, where they find nothing.
use mathlib.Core.Path.{◌≡◌, refl}
use mathlib.Core.Logic.{◌⊎◌, inl, inr}
use mathlib.Core.Bool.{Bool, true, false, not, ◌||◌}
use mathlib.Core.List.{List}
use Prim.Native.Nat.{ℕ, zero, suc, ◌+◌, ◌*◌, ◌-◌, ◌^◌, ◌≤◌, ◌<◌}
use native.Mathlib.Omega.{arith}
use native.Mathlib.Nat.{not-suc-le-zero}
use lib.Dec.{eqb, leb, ltb}
use lib.ListN.{length, get_or}
use borrow.Author.Tests.{eqb-true, leb-true, ltb-true, ltb-false, not-true, eq-eqb}
use Rattle.records.specs.Bytes.{u16_at}
use Rattle.records.specs.Fields.{mark_at, functions, nodes, edition_of, result_of, params_of, vars_of, mask_of, count_of, kind_at, a_at, b_at, size_at}
use Rattle.records.specs.Parts.{sum_of, start_of, Laid}
use Rattle.records.specs.Children.{arity_at, walk, children}
use Rattle.records.proofs.Bools.{and_left, and_right, or_cases, clash}
use Rattle.spec_language.specs.Scopes.{uses_variable}
use Rattle.spec_language.specs.Records.{within, header_ok, records_ok, function_ok, sum_ok}
use Rattle.spec_language.specs.Nodes.{fields, fields_ok, node_ok, total, size_ok}
use Rattle.spec_language.specs.Known.{names_variable, Known, CallsKnown}

pub within_is : (lo hi k : ℕ) → within lo hi k ≡ true → (lo ≤ k) × (k ≤ hi)
unfolding within
within_is lo hi k e = (leb-true lo k (and_left (leb lo k) _ e), leb-true k hi (and_right (leb lo k) _ e))

-- the header is as question 2 wants it
pub record Header (s : List ℕ) : Type 0 where
  pub mark : mark_at s 0 ≡ 21072
  pub some : 1 ≤ functions s
  pub few : functions s ≤ 128
  pub one : 1 ≤ nodes s
  pub small : nodes s ≤ 4096
  pub edition : edition_of s ≤ 1
  pub byte_9 : get_or s 9 0 ≡ 0
  pub bytes_10 : u16_at s 10 ≡ 0

pub header_is : (s : List ℕ) → header_ok s ≡ true → Header s
unfolding header_ok
header_is s e =
    let a = and_right (eqb (mark_at s 0) 21072) _ e in
    let f = within_is 1 128 (functions s) (and_left (within 1 128 (functions s)) _ a) in
    let b = and_right (within 1 128 (functions s)) _ a in
    let n = within_is 1 4096 (nodes s) (and_left (within 1 4096 (nodes s)) _ b) in
    let c = and_right (within 1 4096 (nodes s)) _ b in
    let d = and_right (leb (edition_of s) 1) _ c in
    record {
      mark = eqb-true _ _ (and_left (eqb (mark_at s 0) 21072) _ e);
      some = f.0;
      few = f.1;
      one = n.0;
      small = n.1;
      edition = leb-true _ _ (and_left (leb (edition_of s) 1) _ c);
      byte_9 = eqb-true _ _ (and_left (eqb (get_or s 9 0) 0) _ d);
      bytes_10 = eqb-true _ _ (and_right (eqb (get_or s 9 0) 0) _ d);
    }

-- the record of function f is as question 4 wants it
pub record Function (s : List ℕ) (f : ℕ) : Type 0 where
  pub result : result_of s f ≤ 2
  pub params : params_of s f ≤ 8
  pub least : params_of s f ≤ vars_of s f
  pub vars : vars_of s f ≤ 64
  pub mask : mask_of s f < 2 ^ params_of s f
  pub some : 1 ≤ count_of s f

pub function_is : (s : List ℕ) (f : ℕ) → function_ok s f ≡ true → Function s f
unfolding function_ok
function_is s f e =
    let a = and_right (eqb (mark_at s (1 + f)) 20038) _ e in
    let b = and_right (leb (result_of s f) 2) _ a in
    let c = and_right (leb (params_of s f) 8) _ b in
    let v = within_is (params_of s f) 64 (vars_of s f) (and_left (within (params_of s f) 64 (vars_of s f)) _ c) in
    let d = and_right (within (params_of s f) 64 (vars_of s f)) _ c in
    let g = and_right (ltb (mask_of s f) (2 ^ params_of s f)) _ d in
    record {
      result = leb-true _ _ (and_left (leb (result_of s f) 2) _ a);
      params = leb-true _ _ (and_left (leb (params_of s f) 8) _ b);
      least = v.0;
      vars = v.1;
      mask = ltb-true _ _ (and_left (ltb (mask_of s f) (2 ^ params_of s f)) _ d);
      some = leb-true 1 (count_of s f) (and_right (eqb (u16_at s (12 * (1 + f) + 6)) 0) _ g);
    }

-- the parts before m lie below the sum of the first m counts
pub sum_more : (s : List ℕ) (f m : ℕ) → f < m → sum_of s f + count_of s f ≤ sum_of s m
unfolding sum_of
sum_more s f zero h = absurd (not-suc-le-zero h)
sum_more s f (suc m) h = go (ltb f m) refl (sum_more s f m)
  where
    go : (b : Bool) → ltb f m ≡ b → (f < m → sum_of s f + count_of s f ≤ sum_of s m) → sum_of s f + count_of s f ≤ sum_of s m + count_of s m
    go true e r = omega (arith, r (ltb-true f m e))
    go false e r =
        let q : f ≡ m = omega (arith, ltb-false f m e) in
        rw q (omega arith)

-- questions 2 to 5 lay the parts out
pub laid : (s : List ℕ) → Header s → records_ok s ≡ true → ((f : ℕ) → f < functions s → Function s f) → sum_ok s ≡ true → Laid s
unfolding records_ok sum_ok start_of
laid s h r g u =
    let l : length s ≡ 12 * (1 + functions s + nodes s) = eqb-true _ _ r in
    let n : sum_of s (functions s) ≡ nodes s = eqb-true _ _ u in
    record {
      few = h.few;
      heads = omega arith;
      fits = λ f k. omega (arith, sum_more s f (functions s) k);
      small = λ f k. omega (arith, sum_more s f (functions s) k, h.small);
      some = λ f k. (g f k).some;
      params = λ f k. (g f k).params;
      vars = λ f k. (g f k).vars;
    }

-- question 7 at a node
pub node_fields : (s : List ℕ) (f : ℕ) (t : List ℕ) (i : ℕ) → node_ok s f t i ≡ true → fields_ok s f (kind_at t i) (a_at t i) (b_at t i) ≡ true
unfolding node_ok
node_fields s f t i e = and_right (eqb (mark_at t i) 17486) _ e

module _ (s : List ℕ) (f : ℕ) (a b : ℕ) where
  pub variable_fields : fields_ok s f 2 a b ≡ true → b < vars_of s f
  unfolding fields_ok fields
  variable_fields e = ltb-true b (vars_of s f) (and_right (eqb a 0) _ e)

  pub operator_fields : fields_ok s f 3 a b ≡ true → a < 16
  unfolding fields_ok fields
  operator_fields e = ltb-true a 16 (and_left (ltb a 16) _ e)

  pub assign_fields : fields_ok s f 8 a b ≡ true → b < vars_of s f
  unfolding fields_ok fields
  assign_fields e = ltb-true b (vars_of s f) (and_right (eqb a 0) _ e)

  pub decl_fields : fields_ok s f 9 a b ≡ true → ((a ≡ 1) ⊎ (a ≡ 2)) × (params_of s f ≤ b) × (b < vars_of s f)
  unfolding fields_ok fields
  decl_fields e =
      let r = and_right (eqb a 1 || eqb a 2) _ e in
      let o = and_left (eqb a 1 || eqb a 2) _ e in
      (or_cases (eqb a 1) (eqb a 2) o (λ q. inl (eqb-true a 1 q)) (λ q. inr (eqb-true a 2 q)), leb-true _ _ (and_left (leb (params_of s f) b) _ r), ltb-true _ _ (and_right (leb (params_of s f) b) _ r))

  pub call_fields : fields_ok s f 5 a b ≡ true → (b < functions s) × (a ≡ params_of s b)
  unfolding fields_ok fields
  call_fields e = (ltb-true _ _ (and_left (ltb b (functions s)) _ e), eqb-true _ _ (and_right (ltb b (functions s)) _ e))

-- question 8 at a node
pub record Sized (t : List ℕ) (n i : ℕ) : Type 0 where
  pub size : size_at t i ≡ 1 + total (size_at t) (children t i)
  pub inside : total (size_at t) (children t i) ≤ i
  pub whole : 1 + i ≡ n → size_at t i ≡ n

pub sized_is : (t : List ℕ) (n i : ℕ) → size_ok t n i ≡ true → Sized t n i
unfolding size_ok
sized_is t n i e =
    let z = total (size_at t) (children t i) in
    let a = and_right (eqb (size_at t i) (1 + z)) _ e in
    let b = and_right (leb z i) _ a in
    record {
      size = eqb-true _ _ (and_left (eqb (size_at t i) (1 + z)) _ e);
      inside = leb-true _ _ (and_left (leb z i) _ a);
      whole = λ q. or_cases (not (eqb (1 + i) n)) (eqb (size_at t i) n) b (λ k. clash (eqb (1 + i) n) (eq-eqb _ _ q) (not-true _ k)) (λ k. eqb-true _ _ k);
    }

no_child : (t : List ℕ) (n m : ℕ) → arity_at t 0 ≡ suc m → Sized t n 0 → ⊥
unfolding children walk total
no_child t n m e z =
    let q : total (size_at t) (children t 0) ≡ size_at t 0 + total (size_at t) (walk (size_at t) m (0 - size_at t 0)) = rw e in
    omega (arith, z.size)

-- node 0 has no children
child_above : (t : List ℕ) (n i : ℕ) → Sized t n i → 0 < arity_at t i → 0 < i
unfolding children
child_above t n zero z h = go (arity_at t 0) refl h
  where
    go : (m : ℕ) → arity_at t 0 ≡ m → 0 < m → 0 < 0
    go zero e h = h
    go (suc m) e h = absurd (no_child t n m e z)
child_above t n (suc i) z h = omega arith

names_cases : {C : Type 0} (k : ℕ) → names_variable k ≡ true → (k ≡ 2 → C) → (k ≡ 8 → C) → (k ≡ 9 → C) → C
unfolding names_variable uses_variable
names_cases k e p q r =
    or_cases (eqb k 2 || eqb k 8) (eqb k 9) e
    (λ o. or_cases (eqb k 2) (eqb k 8) o (λ u. p (eqb-true k 2 u)) (λ u. q (eqb-true k 8 u))) (λ u. r (eqb-true k 9 u))

-- questions 7 and 8 of all nodes of a part
module _ (s : List ℕ) (f : ℕ) (t : List ℕ) (n : ℕ) (g : Laid s) (l : f < functions s)
    (seven : (i : ℕ) → i < n → node_ok s f t i ≡ true) where
  at : (i : ℕ) → i < n → (k : ℕ) → kind_at t i ≡ k → fields_ok s f k (a_at t i) (b_at t i) ≡ true
  at i h k e = rw e at (node_fields s f t i (seven i h))

  pub calls : CallsKnown (functions s) t n
  calls i h e = (call_fields s f (a_at t i) (b_at t i) (at i h 5 e)).0

  pub named : (i : ℕ) → i < n → names_variable (kind_at t i) ≡ true → b_at t i < 64
  named i h e =
      names_cases (kind_at t i) e (λ k. omega (arith, variable_fields s f (a_at t i) (b_at t i) (at i h 2 k), g.vars f l))
      (λ k. omega (arith, assign_fields s f (a_at t i) (b_at t i) (at i h 8 k), g.vars f l))
      (λ k. omega (arith, (decl_fields s f (a_at t i) (b_at t i) (at i h 9 k)).2, g.vars f l))

  pub arguments : (i : ℕ) → i < n → kind_at t i ≡ 5 → a_at t i ≤ 8
  arguments i h e = let c = call_fields s f (a_at t i) (b_at t i) (at i h 5 e) in omega (arith, c.1, g.params (b_at t i) c.0)

  pub known : ((i : ℕ) → i < n → size_ok t n i ≡ true) → Known t n
  known eight =
      record {
        child = λ i h. child_above t n i (sized_is t n i (eight i h));
        sized = λ i h. let z = sized_is t n i (eight i h) in omega (arith, z.size, z.inside);
        variable = named;
        arguments = arguments;
      }
