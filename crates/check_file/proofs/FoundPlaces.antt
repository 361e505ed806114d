-- Where what a question finds lies, and what the calls in a part ask.
use Rattle.std.specs.Prelude.{Option, None}
use mathlib.Core.Path.{◌≡◌, refl, sym, ◌∙◌}
use mathlib.Core.Bool.{Bool, true, false}
use mathlib.Core.List.{List}
use Prim.Native.Nat.{ℕ, ◌+◌, ◌*◌, ◌-◌, ◌≤◌, ◌<◌}
use native.Mathlib.Omega.{arith}
use native.Mathlib.Decide.{dec_lt}
use lib.Dec.{ltb}
use lib.ListN.{length, get_or, get_or-eq_default}
use borrow.Author.Tests.{ltb-true}
use Rattle.varset.specs.Lowest.{pick, lowest}
use Rattle.records.specs.Fields.{functions}
use Rattle.records.specs.Parts.{Laid}
use Rattle.records.specs.Search.{At, first_of, unless}
use Rattle.records.specs.declared.Found.{Found}
use Rattle.records.proofs.Loops.{one_place, one_item, found_below}
use Rattle.varset.specs.Sets.{Set}
use Rattle.spec_language.specs.Statements.{statement_at}
use Rattle.spec_language.specs.Flow.{lacks}
use Rattle.spec_language.specs.Known.{Known}
use Rattle.spec_language.specs.Nodes.{first_undeclared, answers}
use Rattle.spec_language.proofs.Accept.{seven_to_fourteen}
use Rattle.spec_language.proofs.Trees.{lacking_below, lacking_item}

-- what is found is a node below n, and its item a variable
abbrev pub Placed : ℕ → Option Found → Type 0
Placed n r = (i x : ℕ) → r ≡ At i x → (i < n) × (x < 64)

item_zero : (p : ℕ → Bool) (n i x : ℕ) → first_of p n ≡ At i x → x ≡ 0
unfolding first_of
item_zero p n i x e = go (ltb (lowest p n) n) e
  where
    go : (b : Bool) → pick b (At (lowest p n) 0) None ≡ At i x → x ≡ 0
    go true e = sym (one_item e)
    go false e = let z : ◌≡◌ {A = ℕ} 0 1 = cc in absurd (omega arith)

pub placed_first : (p : ℕ → Bool) (n : ℕ) (r : Option Found) → r ≡ first_of p n → Placed n r
placed_first p n r e i x q = (found_below p n i x (sym q ∙ e), omega (arith, item_zero p n i x (sym e ∙ q)))

pub placed_undeclared : (x v n : ℕ) (r : Option Found) → r ≡ first_undeclared x v → v ≤ 64 → 1 ≤ n → Placed n r
unfolding first_undeclared
placed_undeclared x v n r e l m i y q = go (ltb x v) refl (sym e ∙ q)
  where
    go : (b : Bool) → ltb x v ≡ b → pick b (At 0 x) None ≡ At i y → (i < n) × (y < 64)
    go true k z =
        let a : 0 ≡ i = one_place z in
        let b : x ≡ y = one_item z in
        (omega arith, omega (arith, ltb-true x v k))
    go false k z = let w : ◌≡◌ {A = ℕ} 0 1 = cc in absurd (omega arith)

pub placed_unless : (b : Bool) (n : ℕ) (r : Option Found) → r ≡ unless b 0 → 1 ≤ n → Placed n r
unfolding unless
placed_unless b n r e m i y q = go b (sym e ∙ q)
  where
    go : (b : Bool) → pick b None (At 0 0) ≡ At i y → (i < n) × (y < 64)
    go true z = let w : ◌≡◌ {A = ℕ} 0 1 = cc in absurd (omega arith)
    go false z =
        let a : 0 ≡ i = one_place z in
        let c : 0 ≡ y = one_item z in
        (omega arith, omega arith)

pub placed_none : (n : ℕ) → Placed n None
placed_none n i x e = let w : ◌≡◌ {A = ℕ} 0 1 = cc in absurd (omega arith)

-- a number from 7 on that is none of 7 to 14
no_question : (q : ℕ) → 7 ≤ q → q < 15 → (q ≡ 7 → ⊥) → (q ≡ 8 → ⊥) → (q ≡ 9 → ⊥) → (q ≡ 10 → ⊥) → (q ≡ 11 → ⊥) → (q ≡ 12 → ⊥) → (q ≡ 13 → ⊥) → (q ≡ 14 → ⊥) → ⊥
no_question =
    seven_to_fourteen (λ k. (k ≡ 7 → ⊥) → (k ≡ 8 → ⊥) → (k ≡ 9 → ⊥) → (k ≡ 10 → ⊥) → (k ≡ 11 → ⊥) → (k ≡ 12 → ⊥) → (k ≡ 13 → ⊥) → (k ≡ 14 → ⊥) → ⊥)
    (λ a b c d e f g h. a refl) (λ a b c d e f g h. b refl) (λ a b c d e f g h. c refl) (λ a b c d e f g h. d refl)
    (λ a b c d e f g h. e refl) (λ a b c d e f g h. f refl) (λ a b c d e f g h. g refl) (λ a b c d e f g h. h refl)

pub past_fourteen : (s : List ℕ) (f : ℕ) (t : List ℕ) (n q : ℕ) → 7 ≤ q
    → (q ≡ 7 → ⊥) → (q ≡ 8 → ⊥) → (q ≡ 9 → ⊥) → (q ≡ 10 → ⊥) → (q ≡ 11 → ⊥) → (q ≡ 12 → ⊥) → (q ≡ 13 → ⊥) → (q ≡ 14 → ⊥) → None ≡ get_or (answers s f t n) (q - 7) None
unfolding answers
past_fourteen s f t n q l a b c d e f' g h = go (dec_lt q 15)
  where
    go : Dec (q < 15) → None ≡ get_or (answers s f t n) (q - 7) None
    go (yes p) = absurd (no_question q l p a b c d e f' g h)
    go (no p) = let m : 8 ≤ q - 7 = past q p in sym (get_or-eq_default (answers s f t n) None {n = q - 7} m)
      where
        past : (q : ℕ) → (q < 15 → ⊥) → 8 ≤ q - 7
        past q p = omega arith

-- the record of a function lies in the file
pub head_inside : (s : List ℕ) (f : ℕ) → Laid s → f < functions s → 12 * (1 + f) + 12 ≤ length s
head_inside s f h l = omega (arith, h.heads)

pub placed_lacks : (t : List ℕ) (n : ℕ) → Known t n → (d : Set) (r : Option Found) → r ≡ lacks (statement_at t (n - 1)) d → 1 ≤ n → Placed n r
placed_lacks t n k d r e m i x q =
    let z : lacks (statement_at t (n - 1)) d ≡ At i x = sym e ∙ q in
    (omega (arith, lacking_below t n k (n - 1) i x d (omega arith) z), omega (arith, lacking_item t n k (n - 1) i x d (omega arith) z))
