-- The working arrays filled node by node, and what a full pass shows.
use mathlib.Core.Path.{◌≡◌, refl, sym, ◌∙◌}
use mathlib.Core.Bool.{Bool, true, false, ◌&&◌, and-false}
use mathlib.Core.List.{List, [], ◌∷◌}
use Prim.Native.Nat.{ℕ, zero, suc, ◌+◌, ◌-◌, ◌≤◌, ◌<◌}
use native.Mathlib.Omega.{arith}
use native.Mathlib.Decide.{dec_lt}
use lib.Dec.{eqb, leb}
use lib.ListN.{set, length}
use lib.Seq.{get_or-set_same, get_or-set_other}
use borrow.Author.Tests.{eqb-true, eq-eqb, le-leb, leb-true, le-ltb}
use Rattle.varset.specs.Sets.{Set, has, none, less, Sub}
use Rattle.records.specs.Fields.{kind_at, size_at}
use Rattle.records.specs.Children.{children}
use Rattle.records.proofs.Bools.{and_left, and_right, and_both, by}
use Rattle.spec_language.specs.Statements.{statement_at}
use Rattle.spec_language.specs.Types.{type_at, want_at, agree}
use Rattle.spec_language.specs.Nodes.{size_ok, wrong_child, some, misplaced, mistyped}
use Rattle.check_effects.specs.declared.Effect.{Effect}
use Rattle.check_effects.specs.Effects.{statement_code, return_code, Means}
use Rattle.check_rest.specs.Sound.{Sound, SoundBefore}
use Rattle.check_rest.proofs.Sounds.{sound_next}
use Rattle.check_effects.proofs.EffectParts.{empty_member}
use Rattle.check_pass.specs.Judged.{Kids, Judged, Filled, effect_in}
use Rattle.check_pass.specs.Passed.{Passed}

judged_more : {s : List ℕ} {f : ℕ} {t : List ℕ} {n : ℕ} {d d' : Set} {k : ℕ} {e : Effect} → Sub d d' → Judged s f t n d k e → Judged s f t n d' k e
judged_more h j =
    record {
      size = j.size;
      inside = j.inside;
      kids = j.kids;
      scoped = j.scoped;
      sort = j.sort;
      type = j.type;
      covers = j.covers;
      means = record { reading = j.means.reading; setting = j.means.setting; declared = λ x l. h x (j.means.declared x l); returning = j.means.returning };
    }

module _ (s : List ℕ) (f : ℕ) (t : List ℕ) (n : ℕ) (d : Set) (i : ℕ) (codes reads sets : List ℕ) where
  pub filled_none : Filled s f t n d 0 codes reads sets
  filled_none = record { at = λ k l. absurd (omega arith) }

  pub filled_more : (d' : Set) → Sub d d' → Filled s f t n d i codes reads sets → Filled s f t n d' i codes reads sets
  filled_more d' h g = record { at = λ k l. judged_more h (g.at k l) }

  pub filled_next : {e : Effect} → Filled s f t n d i codes reads sets → i < length codes → i < length reads → i < length sets → Judged s f t n d i e → Filled s f t n d (i + 1) (set codes i e.code) (set reads i e.reads.0) (set sets i e.sets.0)
  filled_next {e} g a b c m = record { at = λ k l. go k l (dec_lt k i) }
    where
      go : (k : ℕ) → k < i + 1 → Dec (k < i) → Judged s f t n d k (effect_in (set codes i e.code) (set reads i e.reads.0) (set sets i e.sets.0) k)
      go k l (yes h) = rw (get_or-set_other codes i k e.code 0 (omega arith), get_or-set_other reads i k e.reads.0 0 (omega arith), get_or-set_other sets i k e.sets.0 0 (omega arith)) (g.at k h)
      go k l (no h) = let q : k ≡ i = omega arith in rw (q, get_or-set_same codes i e.code 0 a, get_or-set_same reads i e.reads.0 0 b, get_or-set_same sets i e.sets.0 0 c) m

-- ---- the tests of a part from those of its nodes

some-none : (p : ℕ → Bool) (n : ℕ) → ((q : ℕ) → q < n → p q ≡ false) → some p n ≡ false
unfolding some
some-none p zero h = refl
some-none p (suc n) h = rw (h n (omega arith), some-none p n (λ q l. h q (omega arith)))

module _ (s : List ℕ) (f : ℕ) (t : List ℕ) (n : ℕ) where
  wrong_none : (q i : ℕ) (cs : List ℕ) → Kids s f t n q cs → wrong_child t (kind_at t q) cs i ≡ false
  unfolding wrong_child
  wrong_none q i [] k = refl
  wrong_none q i (c ∷ cs) k = rw (k.0.sort, and-false (eqb i c), wrong_none q i cs k.1)

  agree_all : (i : ℕ) (cs : List ℕ) → Kids s f t n i cs → agree (want_at s f t n i) (type_at s f t n) cs ≡ true
  unfolding agree
  agree_all i [] k = refl
  agree_all i (c ∷ cs) k = rw (k.0.type, agree_all i cs k.1)

  -- a node before the last passes
  pub judged_sound : {d : Set} {i : ℕ} {v : Effect} → i < n → Judged s f t n d i v → (1 + i ≡ n → (size_at t i ≡ n) × (statement_code ≤ v.code)) → Sound s f t n i 12
  unfolding size_ok
  judged_sound {d} {i} {v} l j last =
      record {
        sized =
            λ h. rw (eq-eqb (size_at t i) _ j.size, le-leb _ i j.inside)
            (by (eqb (1 + i) n) (λ b. rw (b, eq-eqb (size_at t i) n (last (eqb-true (1 + i) n b)).0)) (λ b. rw b));
        body = λ h e. rw (j.sort, le-ltb v.code statement_code (last e).1);
        placed = λ h k m. wrong_none i k (children t i) j.kids;
        scoped = λ h. j.scoped;
      }

  -- so do the nodes that the pass has left behind
  pub filled_sound : {d : Set} {codes reads sets : List ℕ} {i₀ i : ℕ} → i < n → i ≤ i₀ → Filled s f t n d i₀ codes reads sets → SoundBefore s f t n i 12
  filled_sound h l g k m = judged_sound (omega arith) (g.at k (omega arith)) (λ e. absurd (omega arith))

  -- what nodes that pass questions up to r show of their part
  pub sound_passed : {begun : Set} {r : ℕ} → SoundBefore s f t n n r → r ≤ 12 → Passed s f t n begun r
  unfolding misplaced
  sound_passed {begun} {r} h l =
      record {
        sized = λ k i m. (h i m).sized k;
        placed =
            λ k i m. rw (some-none (λ q. wrong_child t (kind_at t q) (children t q) i) n (λ q b. (h q b).placed k i m)) (by (eqb (1 + i) n)
            (λ b. rw (b, (h i m).body k (eqb-true (1 + i) n b)))
            (λ b. rw b));
        scoped = λ k i m. (h i m).scoped k;
        typed = λ k. absurd (omega arith);
        reading = λ k. absurd (omega arith);
        returning = λ k. absurd (omega arith);
      }

  pub all-below : {d : Set} {codes reads sets : List ℕ} {b : Effect} {i₀ last size q : ℕ} (late : ℕ) (begun : Set) (e : Bool) → 1 ≤ n → n ≤ i₀ → Filled s f t n d i₀ codes reads sets → last ≡ n - 1
      → (last < i₀ → Judged s f t n d last b) → size ≡ size_at t last → has late ≡ less (has b.reads.0) begun → (e ≡ true → has late ≡ none)
      → (eqb size n && leb statement_code b.code) ≡ true → (13 < q → e ≡ true) × (14 < q → eqb b.code return_code ≡ true) × (13 ≤ q) × (q ≤ 15) → Passed s f t n begun q
  unfolding mistyped less
  all-below {d} {codes} {reads} {sets} {b} {i₀} {last} {size} {q} late begun e one all g₀ p jb x y v whole z =
      let full : size ≡ n = eqb-true size n (and_left (eqb size n) (leb statement_code b.code) whole) in
      let statement : statement_code ≤ b.code = leb-true statement_code b.code (and_right (eqb size n) (leb statement_code b.code) whole) in
      let j = jb (omega arith) in
      let m : Means (statement_at t (n - 1)) d b = rw p at j.means in
      let own : Sound s f t n last 12 = judged_sound (omega arith) j (λ h. (sym x ∙ full, statement)) in
      let end : last + 1 ≡ n = omega arith in
      let others : SoundBefore s f t n last 12 = filled_sound (omega arith) (omega arith) g₀ in
      let more : SoundBefore s f t n (last + 1) 12 = sound_next s f t n last (omega arith) (omega arith) others own in
      let sound : SoundBefore s f t n n 12 = rw end at more in
      let before : Passed s f t n begun 12 = sound_passed sound (omega arith) in
      record {
        sized = λ h. before.sized (omega arith);
        placed = λ h. before.placed (omega arith);
        scoped = λ h. before.scoped (omega arith);
        typed = λ h i l. rw (agree_all i (children t i) (g₀.at i (omega arith)).kids);
        reading = λ h. m.reading begun (λ k l. by (begun k) (λ y. y) (λ o. empty_member k (rw (← v (z.0 h), y) (and_both (has b.reads.0 k) _ l (rw o)))));
        returning = λ h. m.returning (eqb-true b.code return_code (z.1 h));
      }
