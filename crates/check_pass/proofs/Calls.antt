-- The arguments of a call, from the last to the first.
use mathlib.Core.Path.{◌≡◌, refl, sym, ◌∙◌}
use mathlib.Core.Bool.{Bool, true, ◌&&◌}
use mathlib.Core.List.{List}
use Prim.Native.Nat.{ℕ, zero, suc, ◌+◌, ◌*◌, ◌-◌, ◌≤◌, ◌<◌}
use native.Mathlib.Omega.{arith}
use native.Mathlib.Nat.{not-suc-le-zero}
use lib.Dec.{ltb}
use borrow.Author.Tests.{ltb-true}
use Rattle.varset.specs.Sets.{Set, has, none, either, Sub}
use Rattle.records.proofs.Children.{length-walk}
use Rattle.records.specs.Fields.{result_of, kind_at, a_at, b_at, size_at}
use Rattle.records.specs.Children.{arities, arity_of, arity_at, walk, children}
use Rattle.records.proofs.Bools.{and_left, and_right, or_more, or_last}
use Rattle.spec_language.specs.Sorts.{is_expression, wants_expression}
use Rattle.spec_language.specs.Scopes.{uses_variable}
use Rattle.spec_language.specs.Statements.{reads_of}
use Rattle.spec_language.specs.Types.{param_type, types_of, type_at, wants_of, want_at}
use Rattle.spec_language.specs.Nodes.{total, outside}
use Rattle.spec_language.proofs.Trees.{statement_rest}
use Rattle.spec_language.proofs.Typings as typings
use Rattle.check_effects.specs.declared.Effect.{Effect}
use Rattle.check_effects.specs.Effects.{statement_code, Covers}
use Rattle.check_effects.proofs.EffectParts.{nop_means}
use Rattle.check_effects.proofs.Covering.{AllCovered, covers_more, node_covered}
use Rattle.check_pass.specs.Judged.{Kid, Kids, Judged}
use Rattle.check_pass.proofs.Kids.{positive, kid_typed, suits_same}

param_small : (s : List ℕ) (f k : ℕ) → param_type s f k < statement_code
param_small s f k = omega (arith, (typings.param_small s f k).1)

module _ (s : List ℕ) (f : ℕ) (t : List ℕ) (n i : ℕ) where
  -- what the arguments looked at, which read the variables in r, leave to be shown, where j are left and the last of them is c
  pub record Left (j c sum r : ℕ) : Type 0 where
    pub few : j ≤ a_at t i
    pub bound : sum + j * 4294967296 ≤ a_at t i * 4294967296
    pub whole : total (size_at t) (children t i) ≡ sum + total (size_at t) (walk (size_at t) j c)
    pub low : 0 < i → c < i
    pub kids : 0 < i → Kids s f t n i (walk (size_at t) j c) → Kids s f t n i (children t i)
    pub reads : 0 < i → (d : Set) → Sub (has r) d → AllCovered t d (walk (size_at t) j c) → AllCovered t d (children t i)

  children_are : kind_at t i ≡ 5 → children t i ≡ walk (size_at t) (a_at t i) (i - 1)
  unfolding children arity_at arity_of arities
  children_are e = rw e

  pub left_first : {j c r : ℕ} → kind_at t i ≡ 5 → j ≡ a_at t i → c ≡ i - 1 → Left j c 0 r
  left_first e a q =
      let w = children_are e in
      record {
        few = omega arith;
        bound = omega arith;
        whole = rw (w, a, q) (omega arith);
        low = λ p. omega arith;
        kids = λ p k. rw w (rw (a, q) at k);
        reads = λ p d h k. rw w (rw (a, q) at k);
      }

  step_total : (j c : ℕ) → 0 < j → total (size_at t) (walk (size_at t) j c) ≡ size_at t c + total (size_at t) (walk (size_at t) (j - 1) (c - size_at t c))
  unfolding total walk
  step_total zero c h = absurd (not-suc-le-zero h)
  step_total (suc j) c h = let e : suc j - 1 ≡ j = omega arith in rw e

  step_kids : (j c : ℕ) → 0 < j → Kid s f t n i (j - 1) c → Kids s f t n i (walk (size_at t) (j - 1) (c - size_at t c)) → Kids s f t n i (walk (size_at t) j c)
  unfolding walk
  step_kids zero c h k ks = absurd (not-suc-le-zero h)
  step_kids (suc j) c h k ks =
      let e : suc j - 1 ≡ j = omega arith in
      (rw (length-walk (size_at t) j (c - size_at t c)) (rw e at k), rw e at ks)

  step_covered : (d : Set) (j c : ℕ) → 0 < j → Covers (reads_of t c) d → AllCovered t d (walk (size_at t) (j - 1) (c - size_at t c)) → AllCovered t d (walk (size_at t) j c)
  unfolding walk
  step_covered d zero c h k ks = absurd (not-suc-le-zero h)
  step_covered d (suc j) c h k ks = let e : suc j - 1 ≡ j = omega arith in (k, rw e at ks)

  pub left_next : {d : Set} {v : Effect} {j c sum r r' size next callee want : ℕ} → kind_at t i ≡ 5 → callee ≡ b_at t i → (c < i → Judged s f t n d c v) → 0 < j → Left j c sum r
      → want ≡ param_type s callee (j - 1) → v.code ≡ want → has r' ≡ either (has r) (has v.reads.0) → size ≡ size_at t c → size < 4294967296 → next ≡ c - size
      → Left (j - 1) next (sum + size) r'
  unfolding want_at wants_of wants_expression either
  left_next {d} {v} {j} {c} {sum} {r} {r'} {size} {next} {callee} {want} e b jc h l w g o x y q =
      let q' : next ≡ c - size_at t c = rw (← x) q in
      let small : v.code < statement_code = rw (g, w) (param_small s callee (j - 1)) in
      record {
        few = omega (arith, l.few);
        bound = omega (arith, l.bound);
        whole = l.whole ∙ rw (step_total j c h, q') (omega (arith, x));
        low = λ p. omega (arith, l.low p);
        kids =
            λ p ks. l.kids p (step_kids j c h
            (kid_typed s f t n i (j - 1) c want (rw e) (rw (e, w, b)) (jc (l.low p)) small (suits_same want v.code (sym g)))
            (rw q' at ks));
        reads =
            λ p k m ks. l.reads p k (λ x y. m x (rw o (or_more (has r x) _ y))) (step_covered k j c h
            (covers_more t c ((jc (l.low p)).covers small) (λ x y. m x (rw o (or_last (has r x) _ y))))
            (rw q' at ks));
      }

  pub call_judged : {d : Set} {v : Effect} {j c sum callee : ℕ} (fit : Bool) → kind_at t i ≡ 5 → callee ≡ b_at t i → v.code ≡ result_of s callee → j ≤ 0 → Left j c sum v.reads.0 → (ltb v.code statement_code && fit) ≡ true
      → (fit ≡ true → (size_at t i ≡ 1 + sum) × (sum ≤ i)) → has v.sets.0 ≡ none → Judged s f t n d i v
  unfolding total walk is_expression type_at types_of outside uses_variable
  call_judged {d} {v} {j} {c} {sum} {callee} fit e b v' o l₀ z g h =
      let fits = g (and_right (ltb v.code statement_code) fit z) in
      let l = l₁ in
      let small = ltb-true v.code statement_code (and_left (ltb v.code statement_code) fit z) in
      let whole : total (size_at t) (children t i) ≡ sum + 0 = l.whole in
      let size : size_at t i ≡ 1 + total (size_at t) (children t i) = omega (arith, fits.0) in
      let inside : total (size_at t) (children t i) ≤ i = omega (arith, fits.1) in
      let all = args (a_at t i) refl size in
      record {
        size = size;
        inside = inside;
        kids = all.0;
        scoped = rw e;
        sort = rw (e, and_left (ltb v.code statement_code) fit z);
        type = λ y. rw (e, v', b);
        covers = λ y. node_covered t (has v.reads.0) i size inside (λ k. absurd (omega arith)) all.1;
        means = rw (statement_rest t i (rw e)) (nop_means h (λ y. omega arith));
      }
    where
      l₁ : Left 0 c sum v.reads.0
      l₁ = let q : j ≡ 0 = omega arith in rw q at l₀

      args : (m : ℕ) → a_at t i ≡ m → size_at t i ≡ 1 + total (size_at t) (children t i) → Kids s f t n i (children t i) × AllCovered t (has v.reads.0) (children t i)
      args zero q k = rw (children_are e, q) (tt, tt)
      args (suc m) q k =
          let z : size_at t i ≡ 1 + (size_at t (i - 1) + total (size_at t) (walk (size_at t) m (i - 1 - size_at t (i - 1)))) = rw (children_are e, q) at k in
          let p = positive t i (i - 1) _ refl z in
          (l₁.kids p tt, l₁.reads p (has v.reads.0) (λ x y. y) tt)
