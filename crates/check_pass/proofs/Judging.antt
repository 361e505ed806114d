-- What the tests of a node show, kind by kind.
use mathlib.Core.Path.{◌≡◌, refl, sym, ◌∙◌}
use mathlib.Core.Bool.{Bool, true, not, ◌&&◌}
use mathlib.Core.List.{List, [], ◌∷◌}
use mathlib.Core.Logic.{◌⊎◌, inl, inr}
use Prim.Native.Nat.{ℕ, ◌+◌, ◌-◌, ◌≤◌, ◌<◌}
use native.Mathlib.Omega.{arith}
use lib.Dec.{eqb, leb, ltb}
use borrow.Author.Tests.{eqb-true, eq-eqb, leb-true, ltb-true, lt-ltb, le-ltb, not-true}
use Rattle.varset.specs.Lowest.{pick}
use Rattle.varset.specs.Sets.{Set, has, none, with, either, below}
use Rattle.records.specs.Format.{most_variables}
use Rattle.records.specs.Fields.{kind_at, b_at, size_at}
use Rattle.records.specs.Children.{arities, arity_of, arity_at}
use Rattle.records.proofs.Bools.{and_left, and_right, or_more, or_last}
use Rattle.spec_language.specs.Sorts.{is_expression, wants_expression}
use Rattle.spec_language.specs.Statements.{Read, Statement, Seq, Decl, If, While, prior, last, reads_of, statement_at}
use Rattle.spec_language.specs.Scopes.{uses_variable}
use Rattle.spec_language.specs.Types.{var_type, types_of, type_at, condition, wants_of, want_at, suits}
use Rattle.spec_language.specs.Nodes.{total, outside}
use Rattle.spec_language.proofs.Trees.{statement_seq, statement_assign, statement_decl, statement_if, statement_while, statement_return, statement_assert, statement_expr, statement_rest}
use Rattle.check_effects.specs.declared.Effect.{Effect}
use Rattle.check_effects.specs.Effects.{statement_code, return_code, Covers, Means}
use Rattle.check_effects.proofs.EffectParts.{assign_means, return_means, assert_means, expr_means, nop_means}
use Rattle.check_effects.proofs.Covering.{covers_more}
use Rattle.check_pass.specs.Judged.{Judged, Leaf, Operator, Single}
use Rattle.check_pass.proofs.Kids.{positive, kid_typed, kid_statement, judged, no_children, one_child, two_children, three_children, suits_same}

-- the sizes that `fits` shows
abbrev Fits : List ℕ → ℕ → ℕ → Type 0
Fits t i sum = (size_at t i ≡ 1 + sum) × (sum ≤ i)

-- the set of a variable alone has it
pub has_own : {r : Set} (x : ℕ) → r ≡ with none x → r x ≡ true
unfolding with
has_own x e = rw e (or_last (none x) _ (eq-eqb x x refl))

module _ (s : List ℕ) (f : ℕ) (t : List ℕ) (n i : ℕ) {d : Set} where
  pub leaf_judged : {r : Effect} → Leaf s f t n i r.code → Fits t i 0 → has r.sets.0 ≡ none → Judged s f t n d i r
  unfolding total
  leaf_judged l e g =
      judged s f t n i [] (no_children s f t n i l.arity) e.0 e.1 tt l.scoped l.sort l.type (λ y. (λ k. absurd (l.other k), tt))
      (rw (statement_rest t i l.plain) (nop_means g (λ y. omega (arith, l.small))))

  pub variable_judged : {r : Effect} (stray fit : Bool) → kind_at t i ≡ 2 → r.code ≡ var_type s f t n (b_at t i) → stray ≡ outside s f t n i
      → ((ltb r.code statement_code && not stray) && fit) ≡ true → (fit ≡ true → Fits t i 0) → has r.reads.0 (b_at t i) ≡ true → has r.sets.0 ≡ none → Judged s f t n d i r
  unfolding total arity_at arity_of arities is_expression type_at types_of
  variable_judged {r} stray fit e h o z g own m =
      let u = and_left (ltb r.code statement_code && not stray) fit z in
      let l = and_left (ltb r.code statement_code) (not stray) u in
      let v = g (and_right (ltb r.code statement_code && not stray) fit z) in
      judged s f t n i [] (no_children s f t n i (rw e)) v.0 v.1 tt (sym o ∙ not-true stray (and_right (ltb r.code statement_code) (not stray) u)) (rw (e, l)) (λ y. rw (e, h))
      (λ y. (λ k. own, tt))
      (rw (statement_rest t i (rw e)) (nop_means m (λ y. omega (arith, ltb-true r.code statement_code l))))

-- a node with two children, b and a, and one with three
module _ (t : List ℕ) (i : ℕ) {a b sa sb : ℕ} (q : b ≡ i - 1) (x : sb ≡ size_at t b) (o : a ≡ b - sb) (y : sa ≡ size_at t a) where
  pub two_fit : (rest : ℕ) → size_at t i ≡ 1 + (sb + rest) → (0 < i) × (b < i) × (a < i)
  two_fit rest e =
      let p : 0 < i = positive t i b rest q (omega (arith, e, x)) in
      (p, omega arith, omega arith)

  pub prior_is : a ≡ b - size_at t b
  prior_is = rw (← x) o

  pub two_sizes : Fits t i (sb + sa) → (size_at t i ≡ 1 + (size_at t b + (size_at t a + 0))) × (size_at t b + (size_at t a + 0) ≤ i)
  two_sizes e = (omega (arith, e.0, x, y), omega (arith, e.1, x, y))

module _ (s : List ℕ) (f : ℕ) (t : List ℕ) (n i : ℕ) {d : Set} {a b sa sb : ℕ} (q : b ≡ i - 1) (x : sb ≡ size_at t b)
    (o : a ≡ b - sb) (y : sa ≡ size_at t a) where
  pub operator_judged : {want : ℕ} {r r₁ r₂ : Effect} (fit : Bool) → Operator s f t n i want r.code → (fit ≡ true → Fits t i (sb + sa)) → (a < i → Judged s f t n d a r₁) → (b < i → Judged s f t n d b r₂)
      → ((eqb r₁.code want && eqb r₂.code want) && fit) ≡ true → has r.reads.0 ≡ either (has r₁.reads.0) (has r₂.reads.0) → has r.sets.0 ≡ none → Judged s f t n d i r
  unfolding total either
  operator_judged {want} {r} {r₁} {r₂} fit l g ja' jb' z v h =
      let ca = r₁.code in
      let cb = r₂.code in
      let e = g (and_right (eqb ca want && eqb cb want) fit z) in
      let u = and_left (eqb ca want && eqb cb want) fit z in
      let ea : ca ≡ want = eqb-true ca want (and_left (eqb ca want) (eqb cb want) u) in
      let eb : cb ≡ want = eqb-true cb want (and_right (eqb ca want) (eqb cb want) u) in
      let p = two_fit t i q x o y sa e.0 in
      let m = two_sizes t i q x o y e in
      let ja = ja' p.2 in
      let jb = jb' p.1 in
      let la : ca < statement_code = omega (arith, l.wanted) in
      let lb : cb < statement_code = omega (arith, l.wanted) in
      judged s f t n i (b ∷ a ∷ []) (two_children s f t n i l.arity q (prior_is t i q x o y)) m.0 m.1 (
        kid_typed s f t n i 1 b want (l.sorts 1) (l.types 1) jb lb (suits_same want cb (sym eb)),
        (kid_typed s f t n i 0 a want (l.sorts 0) (l.types 0) ja la (suits_same want ca (sym ea)), tt),
      )
      l.scoped (l.sort ∙ sym (lt-ltb r.code statement_code l.small)) (λ k. l.type) (λ k. (
        λ w. absurd (l.other w),
        (covers_more t b (jb.covers lb) (λ x y. rw v (or_last (has r₁.reads.0 x) _ y)), (covers_more t a (ja.covers la) (λ x y. rw v (or_more (has r₁.reads.0 x) _ y)), tt)),
      ))
      (rw (statement_rest t i l.plain) (nop_means h (λ k. omega (arith, l.small))))

  pub sequence_judged : {r r₁ r₂ : Effect} (fit : Bool) → kind_at t i ≡ 7 → (fit ≡ true → Fits t i (sb + sa))
      → (a < i → Judged s f t n d a r₁) → (b < i → Judged s f t n d b r₂)
      → (((leb statement_code r₁.code && leb statement_code r₂.code) && leb statement_code r.code) && fit) ≡ true
      → ((s u : Statement) → Means s d r₁ → Means u d r₂ → r.code < 255 → Means (Seq s u) d r) → r.code < 255 → Judged s f t n d i r
  unfolding total prior last arity_at arity_of arities is_expression wants_expression want_at wants_of outside uses_variable
  sequence_judged {r} {r₁} {r₂} fit k g ja jb z h l =
      let e = g (and_right ((leb statement_code r₁.code && leb statement_code r₂.code) && leb statement_code r.code) fit z) in
      let u = and_left ((leb statement_code r₁.code && leb statement_code r₂.code) && leb statement_code r.code) fit z in
      let v = and_left (leb statement_code r₁.code && leb statement_code r₂.code) (leb statement_code r.code) u in
      let l₁ = leb-true statement_code r₁.code (and_left (leb statement_code r₁.code) _ v) in
      let l₂ = leb-true statement_code r₂.code (and_right (leb statement_code r₁.code) _ v) in
      let l₃ = leb-true statement_code r.code (and_right (leb statement_code r₁.code && leb statement_code r₂.code) _ u) in
      let p = two_fit t i q x o y sa e.0 in
      let m = two_sizes t i q x o y e in
      let o' = prior_is t i q x o y in
      judged s f t n i (b ∷ a ∷ []) (two_children s f t n i (rw k) q o') m.0 m.1
      (kid_statement s f t n i 1 b (rw k) (rw k) (jb p.1) l₂, (kid_statement s f t n i 0 a (rw k) (rw k) (ja p.2) l₁, tt))
      (rw k) (rw (k, le-ltb r.code statement_code l₃)) (λ y. absurd (omega arith)) (λ y. absurd (omega arith))
      (rw (statement_seq t i k p.0, ← q, ← o') (h (statement_at t a) (statement_at t b) (ja p.2).means (jb p.1).means l))

  pub loop_judged : {r r₁ r₂ : Effect} (fit : Bool) → kind_at t i ≡ 11 → (fit ≡ true → Fits t i (sb + sa)) → (a < i → Judged s f t n d a r₁) → (b < i → Judged s f t n d b r₂)
      → ((eqb r₁.code 2 && (leb statement_code r₂.code && leb statement_code r.code)) && fit) ≡ true
      → ((e : List Read) (s : Statement) (d : Set) → Covers e (has r₁.reads.0) → Means s d r₂ → Means (While e s) d r) → Judged s f t n d i r
  unfolding total prior last arity_at arity_of arities is_expression wants_expression condition want_at wants_of outside uses_variable
  loop_judged {r} {r₁} {r₂} fit k g ja' jb z h =
      let ca = r₁.code in
      let rest = leb statement_code r₂.code && leb statement_code r.code in
      let e = g (and_right (eqb ca 2 && rest) fit z) in
      let u = and_left (eqb ca 2 && rest) fit z in
      let v = and_right (eqb ca 2) rest u in
      let ea : ca ≡ 2 = eqb-true ca 2 (and_left (eqb ca 2) rest u) in
      let l₁ = leb-true statement_code r₂.code (and_left (leb statement_code r₂.code) _ v) in
      let l₃ = leb-true statement_code r.code (and_right (leb statement_code r₂.code) _ v) in
      let p = two_fit t i q x o y sa e.0 in
      let m = two_sizes t i q x o y e in
      let o' = prior_is t i q x o y in
      let ja = ja' p.2 in
      judged s f t n i (b ∷ a ∷ []) (two_children s f t n i (rw k) q o') m.0 m.1
      (kid_statement s f t n i 1 b (rw k) (rw k) (jb p.1) l₁, (kid_typed s f t n i 0 a 2 (rw k) (rw k) ja (omega arith) (suits_same 2 ca (sym ea)), tt))
      (rw k) (rw (k, le-ltb r.code statement_code l₃)) (λ y. absurd (omega arith)) (λ y. absurd (omega arith))
      (rw (statement_while t i k p.0, ← q, ← o') (h (reads_of t a) (statement_at t b) d (ja.covers (omega arith)) (jb p.1).means))

  pub branches_judged : {sc k : ℕ} {r r₀ r₁ r₂ : Effect} (fit : Bool) → kind_at t i ≡ 10 → k ≡ a - sa → sc ≡ size_at t k → (fit ≡ true → Fits t i (sb + sa + sc))
      → (k < i → Judged s f t n d k r₀) → (a < i → Judged s f t n d a r₁) → (b < i → Judged s f t n d b r₂)
      → ((eqb r₀.code 2 && ((leb statement_code r₁.code && leb statement_code r₂.code) && leb statement_code r.code)) && fit) ≡ true
      → ((e : List Read) (s u : Statement) (d : Set) → Covers e (has r₀.reads.0) → Means s d r₁ → Means u d r₂ → Means (If e s u) d r) → Judged s f t n d i r
  unfolding total prior last arity_at arity_of arities is_expression wants_expression condition want_at wants_of outside uses_variable
  branches_judged {sc} {k} {r} {r₀} {r₁} {r₂} fit e₀ o'' y' g jk' ja jb z h =
      let ck = r₀.code in
      let rest = (leb statement_code r₁.code && leb statement_code r₂.code) && leb statement_code r.code in
      let e = g (and_right (eqb ck 2 && rest) fit z) in
      let u = and_left (eqb ck 2 && rest) fit z in
      let ek : ck ≡ 2 = eqb-true ck 2 (and_left (eqb ck 2) rest u) in
      let v = and_right (eqb ck 2) rest u in
      let v' = and_left (leb statement_code r₁.code && leb statement_code r₂.code) (leb statement_code r.code) v in
      let l₁ = leb-true statement_code r₁.code (and_left (leb statement_code r₁.code) _ v') in
      let l₂ = leb-true statement_code r₂.code (and_right (leb statement_code r₁.code) _ v') in
      let l₃ = leb-true statement_code r.code (and_right (leb statement_code r₁.code && leb statement_code r₂.code) _ v) in
      let p = two_fit t i q x o y (sa + sc) (omega (arith, e.0)) in
      let o' = prior_is t i q x o y in
      let p' : k ≡ a - size_at t a = rw (← y) o'' in
      let lk : k < i = omega (arith, p.2) in
      let jk = jk' lk in
      judged s f t n i (b ∷ a ∷ k ∷ []) (three_children s f t n i (rw e₀) q o' p') (omega (arith, e.0, x, y, y')) (omega (arith, e.1, x, y, y')) (
        kid_statement s f t n i 2 b (rw e₀) (rw e₀) (jb p.1) l₂,
        (kid_statement s f t n i 1 a (rw e₀) (rw e₀) (ja p.2) l₁, (kid_typed s f t n i 0 k 2 (rw e₀) (rw e₀) jk (omega arith) (suits_same 2 ck (sym ek)), tt)),
      )
      (rw e₀) (rw (e₀, le-ltb r.code statement_code l₃)) (λ y. absurd (omega arith)) (λ y. absurd (omega arith))
      (rw (statement_if t i e₀ p.0, ← q, ← o', ← p') (h (reads_of t k) (statement_at t a) (statement_at t b) d (jk.covers (omega arith)) (ja p.2).means (jb p.1).means))

-- a node with one child, b
module _ (t : List ℕ) (i : ℕ) {b sb : ℕ} (q : b ≡ i - 1) (x : sb ≡ size_at t b) where
  one_fit : size_at t i ≡ 1 + sb → (0 < i) × (b < i)
  one_fit e =
      let p : 0 < i = positive t i b 0 q (omega (arith, e, x)) in
      (p, omega arith)

  one_sizes : Fits t i sb → (size_at t i ≡ 1 + (size_at t b + 0)) × (size_at t b + 0 ≤ i)
  one_sizes e = (omega (arith, e.0, x), omega (arith, e.1, x))

module _ (s : List ℕ) (f : ℕ) (t : List ℕ) (n i : ℕ) {d : Set} {b sb : ℕ} (q : b ≡ i - 1) (x : sb ≡ size_at t b) where
  pub scope_judged : {v : ℕ} {r r₁ : Effect} (fit : Bool) → kind_at t i ≡ 9 → v ≡ b_at t i → (fit ≡ true → Fits t i sb) → (b < i → Judged s f t n d b r₁)
      → ((leb statement_code r₁.code && leb statement_code r.code) && fit) ≡ true → ((s : Statement) (d : Set) → d v ≡ true → Means s d r₁ → r.code < 255 → Means (Decl v s) d r) → ((size_at t i ≡ 1 → ⊥) → d (b_at t i) ≡ true) → r.code < 255
      → Judged s f t n d i r
  unfolding total prior last arity_at arity_of arities is_expression wants_expression want_at wants_of outside uses_variable
  scope_judged {v} {r} {r₁} fit k e₀ g jb z h own l =
      let e = g (and_right (leb statement_code r₁.code && leb statement_code r.code) fit z) in
      let u = and_left (leb statement_code r₁.code && leb statement_code r.code) fit z in
      let l₁ = leb-true statement_code r₁.code (and_left (leb statement_code r₁.code) _ u) in
      let l₃ = leb-true statement_code r.code (and_right (leb statement_code r₁.code) _ u) in
      let p = one_fit t i q x e.0 in
      let m = one_sizes t i q x e in
      judged s f t n i (b ∷ []) (one_child s f t n i (rw k) q) m.0 m.1
      (kid_statement s f t n i 0 b (rw k) (rw k) (jb p.1) l₁, tt)
      (rw k) (rw (k, le-ltb r.code statement_code l₃)) (λ y. absurd (omega arith)) (λ y. absurd (omega arith))
      (rw (statement_decl t i k p.0, ← q, ← e₀) (h (statement_at t b) d (rw e₀ (own (λ y. absurd (omega (arith, e.0, x, (jb p.1).size, y))))) (jb p.1).means l))

  pub assign_judged : {want : ℕ} {r r₁ : Effect} (suited stray fit : Bool) → kind_at t i ≡ 8 → want ≡ var_type s f t n (b_at t i) → stray ≡ outside s f t n i → (fit ≡ true → Fits t i sb)
      → (b < i → Judged s f t n d b r₁) → suited ≡ suits want r₁.code → (((ltb r₁.code statement_code && suited) && not stray) && fit) ≡ true
      → r.reads ≡ r₁.reads → has r.sets.0 ≡ with none (b_at t i) → r.code ≡ statement_code → Judged s f t n d i r
  unfolding total prior last arity_at arity_of arities is_expression wants_expression want_at wants_of
  assign_judged {want} {r} {r₁} suited stray fit k t₀ o g jb su z cover h c₀ =
      let e = g (and_right ((ltb r₁.code statement_code && suited) && not stray) fit z) in
      let u = and_left ((ltb r₁.code statement_code && suited) && not stray) fit z in
      let u' = and_left (ltb r₁.code statement_code && suited) (not stray) u in
      let small = ltb-true r₁.code statement_code (and_left (ltb r₁.code statement_code) suited u') in
      let p = one_fit t i q x e.0 in
      let m = one_sizes t i q x e in
      let j = jb p.1 in
      judged s f t n i (b ∷ []) (one_child s f t n i (rw k) q) m.0 m.1
      (kid_typed s f t n i 0 b want (rw k) (rw (k, t₀)) j small (sym su ∙ and_right (ltb r₁.code statement_code) suited u'), tt)
      (sym o ∙ not-true stray (and_right (ltb r₁.code statement_code && suited) (not stray) u)) (rw (k, c₀)) (λ y. absurd (omega arith)) (λ y. absurd (omega arith))
      (rw (statement_assign t i k p.0, ← q) (assign_means (rw cover (j.covers small)) h (λ y. omega arith)))

  pub single_judged : {want code : ℕ} {r r₁ : Effect} (suited fit : Bool) → Single s f t n i want code → (fit ≡ true → Fits t i sb) → (b < i → Judged s f t n d b r₁)
      → suited ≡ suits want r₁.code → ((ltb r₁.code statement_code && suited) && fit) ≡ true → r.reads ≡ r₁.reads → has r.sets.0 ≡ pick (eqb code return_code) (below most_variables) none → r.code ≡ code → Judged s f t n d i r
  unfolding total last
  single_judged {want} {code} {r} {r₁} suited fit l g jb su z cover h c₀ =
      let e = g (and_right (ltb r₁.code statement_code && suited) fit z) in
      let u = and_left (ltb r₁.code statement_code && suited) fit z in
      let small = ltb-true r₁.code statement_code (and_left (ltb r₁.code statement_code) suited u) in
      let p = one_fit t i q x e.0 in
      let m = one_sizes t i q x e in
      let j = jb p.1 in
      let high : statement_code ≤ r.code = by_kind l.kind in
      judged s f t n i (b ∷ []) (one_child s f t n i l.arity q) m.0 m.1
      (kid_typed s f t n i 0 b want l.sorts l.types j small (sym su ∙ and_right (ltb r₁.code statement_code) suited u), tt)
      l.scoped (l.sort ∙ sym (le-ltb r.code statement_code high)) (λ y. absurd (omega arith)) (λ y. absurd (omega arith))
      (means l.kind p.0 (rw cover (j.covers small)))
    where
      by_kind : ((kind_at t i ≡ 12) × (code ≡ return_code)) ⊎ (((kind_at t i ≡ 13) ⊎ (kind_at t i ≡ 14)) × (code ≡ statement_code)) → statement_code ≤ r.code
      by_kind (inl k) = omega (arith, k.1)
      by_kind (inr k) = omega (arith, k.1)

      means : ((kind_at t i ≡ 12) × (code ≡ return_code)) ⊎ (((kind_at t i ≡ 13) ⊎ (kind_at t i ≡ 14)) × (code ≡ statement_code)) → 0 < i → Covers (reads_of t b) (has r.reads.0) → Means (statement_at t i) d r
      means (inl k) p m = rw (statement_return t i k.0 p, ← q) (return_means m (rw k.1 at h))
      means (inr (inl k, v)) p m = rw (statement_assert t i k p, ← q) (assert_means m (rw v at h) (λ y. omega (arith, v)))
      means (inr (inr k, v)) p m = rw (statement_expr t i k p, ← q) (expr_means m (rw v at h) (λ y. omega (arith, v)))
