-- Fields below their limits pass question 7.
use mathlib.Core.Path.{◌≡◌, refl, sym}
use mathlib.Core.Bool.{true, ◌&&◌}
use mathlib.Core.List.{List}
use Prim.Native.Nat.{ℕ, ◌≤◌, ◌<◌, zero-le}
use native.Mathlib.Omega.{arith}
use lib.Dec.{eqb, ltb}
use lib.ListN.{get_or, get_or-eq_default}
use borrow.Author.Tests.{ltb-true, eq-eqb}
use Rattle.records.specs.Fields.{mark_at, vars_of, kind_at, a_at, b_at}
use Rattle.records.proofs.Bools.{and_left, and_right, and_both}
use Rattle.spec_language.specs.Nodes.{fields, fields_ok, node_ok}
use Rattle.spec_language.proofs.KindLists.{in_range}
use Rattle.check_pass.specs.Limits.{a_limits, b_limits}

-- kinds 0 to 15 that have no arm of their own, and kinds past 15
pub a_rest : (k : ℕ) → k < 16 → (k ≡ 3 → ⊥) → (k ≡ 5 → ⊥) → (k ≡ 9 → ⊥) → 1 ≡ get_or a_limits k 0
unfolding a_limits
a_rest k l = in_range (λ k. (k ≡ 3 → ⊥) → (k ≡ 5 → ⊥) → (k ≡ 9 → ⊥) → 1 ≡ get_or a_limits k 0) 0 16
    (one, (one, (one, (λ p q r. absurd (p refl), (one, (λ p q r. absurd (q refl), (one, (one, (one, (λ p q r. absurd (r refl), (one, (one, (one, (one, (one, (one, refl)))))))))))))))) k zero-le l
  where
    one : {A B C : Type 0} → A → B → C → ◌≡◌ {A = ℕ} 1 1
    one p q r = refl

pub a_past : (k : ℕ) → 16 ≤ k → 0 ≡ get_or a_limits k 0
unfolding a_limits
a_past k h = sym (get_or-eq_default a_limits 0 {n = k} h)

pub b_rest : (v k : ℕ) → k < 16 → (k ≡ 0 → ⊥) → (k ≡ 1 → ⊥) → (k ≡ 2 → ⊥) → (k ≡ 8 → ⊥) → (k ≡ 5 → ⊥) → (k ≡ 9 → ⊥) → 1 ≡ get_or (b_limits v) k 0
unfolding b_limits
b_rest v k l = in_range (λ k. (k ≡ 0 → ⊥) → (k ≡ 1 → ⊥) → (k ≡ 2 → ⊥) → (k ≡ 8 → ⊥) → (k ≡ 5 → ⊥) → (k ≡ 9 → ⊥) → 1 ≡ get_or (b_limits v) k 0) 0 16
    (λ a b c d e f. absurd (a refl), (λ a b c d e f. absurd (b refl), (λ a b c d e f. absurd (c refl), (one, (one, (λ a b c d e f. absurd (e refl), (one, (one, (λ a b c d e f. absurd (d refl), (λ a b c d e f. absurd (f refl), (one, (one, (one, (one, (one, (one, refl)))))))))))))))) k zero-le l
  where
    one : {A B C D E F : Type 0} → A → B → C → D → E → F → ◌≡◌ {A = ℕ} 1 1
    one a b c d e f = refl

pub b_past : (v k : ℕ) → 16 ≤ k → 0 ≡ get_or (b_limits v) k 0
unfolding b_limits
b_past v k h = sym (get_or-eq_default (b_limits v) 0 {n = k} h)

below_one : (x : ℕ) → ltb x 1 ≡ true → eqb x 0 ≡ true
below_one x e = eq-eqb x 0 (omega (arith, ltb-true x 1 e))

below_none : {C : Type 0} (x : ℕ) → ltb x 0 ≡ true → C
below_none x e = absurd (omega (arith, ltb-true x 0 e))

module _ (s : List ℕ) (f a b : ℕ) where
  -- a node of kind k with these fields is within its limits
  abbrev Passes : ℕ → Type 0
  Passes k = ltb a (get_or a_limits k 0) ≡ true → ltb b (get_or (b_limits (vars_of s f)) k 0) ≡ true → fields_ok s f k a b ≡ true

  fields_within : (k : ℕ) → k < 16 → Passes k
  unfolding a_limits b_limits fields_ok fields
  fields_within k l = in_range Passes 0 16 (
    λ p q. below_one a p,
    (both 2, (both (vars_of s f), (λ p q. and_both _ _ p (below_one b q), (zero, (λ p q. below_none a p, (zero, (zero, (both (vars_of s f), (λ p q. below_none a p, (zero, (zero, (zero, (zero, (zero, (zero, refl))))))))))))))),
  ) k zero-le l
    where
      zero : ltb a 1 ≡ true → ltb b 1 ≡ true → (eqb a 0 && eqb b 0) ≡ true
      zero p q = and_both _ _ (below_one a p) (below_one b q)

      both : (m : ℕ) → ltb a 1 ≡ true → ltb b m ≡ true → (eqb a 0 && ltb b m) ≡ true
      both m p q = and_both _ _ (below_one a p) q

-- no decl is
no_decl : (a : ℕ) → ltb a (get_or a_limits 9 0) ≡ true → ⊥
unfolding a_limits
no_decl a x = below_none a x

pub within : (s : List ℕ) (f : ℕ) (t : List ℕ) (i : ℕ) {mark a b k : ℕ} {of-a of-b : List ℕ} → of-a ≡ a_limits → of-b ≡ b_limits (vars_of s f)
    → mark ≡ mark_at t i → a ≡ a_at t i → b ≡ b_at t i → k ≡ kind_at t i → k < 16 → ((eqb mark 17486 && ltb a (get_or of-a k 0)) && ltb b (get_or of-b k 0)) ≡ true
    → (node_ok s f t i ≡ true) × (kind_at t i ≡ 9 → ⊥)
unfolding node_ok
within s f t i {mark} {a} {b} {k} {of-a} {of-b} g h m p q r l z =
    let u = and_left (eqb mark 17486 && ltb a (get_or of-a k 0)) _ z in
    let x : ltb a (get_or a_limits k 0) ≡ true = rw g at (and_right (eqb mark 17486) _ u) in
    let y : ltb b (get_or (b_limits (vars_of s f)) k 0) ≡ true = rw h at (and_right (eqb mark 17486 && ltb a (get_or of-a k 0)) _ z) in
    (rw (← m, ← p, ← q, ← r) (and_both _ _ (and_left (eqb mark 17486) _ u) (fields_within s f a b k l x y)), λ n. no_decl a (rw (r, n) at x))
