-- The loop over an activation's variables.
use mathlib.Core.Path.{◌≡◌, refl, ap, ◌∙◌}
use mathlib.Core.Bool.{Bool, true, false, ◌&&◌, not, and-false, or-false}
use mathlib.Core.List.{List, [], ◌∷◌}
use Prim.Native.Nat.{ℕ, zero, suc, ◌+◌, ◌*◌, ◌-◌, ◌≤◌, ◌<◌}
use native.Mathlib.Decide.{dec_lt, ℕ_discrete}
use native.Mathlib.Omega.{arith}
use lib.Dec.{eqb, ltb}
use lib.ListN.{length, get_or, drop}
use lib.Seq.{get_or-take, get_or-drop, drop-drop}
use borrow.Author.Tests.{eq-eqb, ne_eqb, lt-ltb, le-ltb}
use Rattle.varset.specs.Lowest.{pick}
use Rattle.varset.specs.Sets.{Set, none, with}
use Rattle.records.specs.Fields.{functions, vars_of, count_of}
use Rattle.records.specs.Parts.{part_of}
use Rattle.words.specs.Stacks.{block_at}
use Rattle.spec_language.specs.Check.{accepted, check_of}
use Rattle.spec_language.specs.Types as types
use Rattle.spec_language.proofs.Accept as accept
use Rattle.spec_machine.specs.Values.{Ty, Value, nothing, int, truth, type_v}
use Rattle.spec_machine.specs.Program.{var_types, type_of_var}
use Rattle.spec_machine.specs.Fit.{is_some, held}
use Rattle.spec_machine.specs.File.{types_from, program_of}
use Rattle.spec_machine.specs.Test.{holds_typed, all_hold_typed}
use Rattle.spec_machine.proofs.Operands.{types_length}
use Rattle.spec_machine.proofs.Nodes.{variables, variable_type_is}
use Rattle.spec_image.specs.Decode.{value_of, values_of}
use Rattle.state_words.specs.Meaning.{activation_at}
use Rattle.spec_image.proofs.ValueWords.{length_values_of}
use Rattle.fit_state.specs.Meaning.{variables_in}

-- ---- one value by the first of its words

pub nothing_holds : (tag w : ℕ) (t : Ty) → tag ≡ 0 → holds_typed (value_of tag w) t ≡ true
unfolding value_of
nothing_holds tag w t e = rw e

pub some_holds : (tag w : ℕ) (t : Ty) → (tag ≡ 0 → ⊥) → holds_typed (value_of tag w) t ≡ eqb (type_v (value_of tag w)) t
unfolding value_of
some_holds tag w t n = rw (ne_eqb tag 0 n) (go (eqb tag 1))
  where
    go : (b : Bool) → holds_typed (pick b (int w) (truth (eqb w 1))) t ≡ eqb (type_v (pick b (int w) (truth (eqb w 1)))) t
    go true = refl
    go false = refl

is_some_lem : (tag w : ℕ) → is_some (value_of tag w) ≡ not (eqb tag 0)
unfolding value_of
is_some_lem tag w = go (eqb tag 0) (eqb tag 1)
  where
    go : (a b : Bool) → is_some (pick a nothing (pick b (int w) (truth (eqb w 1)))) ≡ not a
    go true b = refl
    go false true = refl
    go false false = refl

-- ---- the values of a list of words

values_at : (v : ℕ) (l : List ℕ) (x : ℕ) → x < v → get_or (values_of v l) x nothing ≡ value_of (get_or (drop (2 * x) l) 0 0) (get_or (drop (2 * x) l) 1 0)
unfolding values_of
values_at zero l x h = absurd (omega arith)
values_at (suc v) l zero h = refl
values_at (suc v) l (suc x) h =
    let e : 2 * suc x ≡ 2 + 2 * x = omega arith in
    values_at v (drop 2 l) x (omega arith) ∙ rw (e, drop-drop (2 * x) 2 l)

values_past : (v : ℕ) (l : List ℕ) (x : ℕ) → v ≤ x → get_or (values_of v l) x nothing ≡ nothing
unfolding values_of
values_past zero l x h = refl
values_past (suc v) l zero h = absurd (omega arith)
values_past (suc v) l (suc x) h = values_past v (drop 2 l) x (omega arith)

module _ (m : List ℕ) (a x : ℕ) (room : x < 64) where
  abbrev words : List ℕ
  words = drop 8 (block_at 136 m 128 a)

  -- the first word of variable x
  variable_word : get_or (drop (2 * x) words) 0 0 ≡ get_or m (activation_at a + (8 + x * 2)) 0
  unfolding activation_at
  variable_word =
      let e : 8 + (2 * x + 0) ≡ 8 + x * 2 = omega arith in
      get_or-drop (2 * x) words 0 0
      ∙ get_or-drop 8 (block_at 136 m 128 a) (2 * x + 0) 0
      ∙ get_or-take 136 (drop (128 + a * 136) m) (8 + (2 * x + 0)) 0 (omega arith)
      ∙ get_or-drop (128 + a * 136) m (8 + (2 * x + 0)) 0
      ∙ rw e

  words_next : drop 2 (drop (2 * x) words) ≡ drop (2 * (x + 1)) words
  words_next = let e : 2 * x + 2 ≡ 2 * (x + 1) = omega arith in drop-drop 2 (2 * x) words ∙ rw e

-- ---- whether each variable holds what it may

module _ (type : ℕ → Ty) (m : List ℕ) (a v x : ℕ) where
  -- from variable x on
  abbrev pub holds_from : ℕ → Bool
  holds_from y = all_hold_typed (values_of (v - y) (drop (2 * y) (drop 8 (block_at 136 m 128 a)))) (types_from type (v - y) y)

  module _ (here : x < v) (room : v ≤ 64) (tag : ℕ) (t : Ty) (e : tag ≡ get_or m (activation_at a + (8 + x * 2)) 0) (q : t ≡ type x) where
    abbrev pub second : ℕ
    second = get_or (drop (2 * x) (drop 8 (block_at 136 m 128 a))) 1 0

    opened : holds_from x ≡ (holds_typed (value_of tag second) t && holds_from (x + 1))
    unfolding values_of types_from
    opened =
        let r : x < 64 = omega arith in
        let z : v - x ≡ suc (v - (x + 1)) = omega arith in
        let o : suc x ≡ x + 1 = omega arith in
        rw (z, variable_word m a x r, words_next m a x r, e, q, o)

    pub holds_more : holds_typed (value_of tag second) t ≡ true → holds_from x ≡ holds_from (x + 1)
    holds_more h = opened ∙ rw h

    pub holds_less : holds_typed (value_of tag second) t ≡ false → holds_from x ≡ false
    holds_less h = opened ∙ rw h

  pub holds_end : v ≤ x → holds_from x ≡ true
  unfolding values_of types_from
  holds_end h = let z : v - x ≡ 0 = omega arith in rw z

holds_length : (η : List Value) (ts : List Ty) → (length η ≡ length ts → ⊥) → all_hold_typed η ts ≡ false
holds_length [] [] n = absurd (n refl)
holds_length [] (t ∷ ts) n = refl
holds_length (v ∷ η) [] n = refl
holds_length (v ∷ η) (t ∷ ts) n = rw (holds_length η ts (λ e. n (ap suc e))) (and-false (holds_typed v t))

module _ (s : List ℕ) (e : check_of s ≡ accepted) (f : ℕ) (l : f < functions s) where
  -- the types of the variables of function f
  abbrev pub type_in : ℕ → Ty
  type_in = types.var_type s f (part_of s f) (count_of s f)

  pub holds_all : (m : List ℕ) (a v : ℕ) → v ≡ vars_of s f
      → all_hold_typed (variables_in m a v) (var_types ((program_of s).fun f)) ≡ holds_from type_in m a v 0 0
  unfolding program_of
  holds_all m a v q =
      let z : v - 0 ≡ v = omega arith in
      rw (variables s (accept.accepted_is s e) f l, z, q)

  -- another number of variables than the function has
  pub holds_count : (m : List ℕ) (a v : ℕ) → (v ≡ vars_of s f → ⊥) → all_hold_typed (variables_in m a v) (var_types ((program_of s).fun f)) ≡ false
  unfolding program_of
  holds_count m a v n =
      rw (variables s (accept.accepted_is s e) f l)
      (holds_length (variables_in m a v) (types_from type_in (vars_of s f) 0)
      (λ q. n (omega (arith, q, length_values_of v (drop 8 (block_at 136 m 128 a)), types_length type_in (vars_of s f) 0))))

  pub type_in_lem : (x : ℕ) → x < vars_of s f → type_of_var ((program_of s).fun f) x ≡ type_in x
  unfolding program_of
  type_in_lem x h = variable_type_is s (accept.accepted_is s e) f l x h

-- ---- the variables that hold values

-- those below x
abbrev pub Below : Set → List Value → ℕ → Type 0
Below d η x = (j : ℕ) → d j ≡ (ltb j x && held η j)

pub below_none : (η : List Value) (d : Set) → d ≡ none → Below d η 0
unfolding none
below_none η d e j = ap (λ (s : Set). s j) e ∙ rw (le-ltb j 0 (omega arith))

-- one more
below_next : (d : Set) (η : List Value) (x : ℕ) (b : Bool) → is_some (get_or η x nothing) ≡ not b → Below d η x → Below (pick b d (with d x)) η (x + 1)
unfolding with
below_next d η x b e h j = go b e (dec_lt j x) (ℕ_discrete j x)
  where
    go : (b : Bool) → is_some (get_or η x nothing) ≡ not b → Dec (j < x) → Dec (j ≡ x) → pick b d (with d x) j ≡ (ltb j (x + 1) && held η j)
    go true e (yes p) q = h j ∙ rw (lt-ltb j x p, lt-ltb j (x + 1) (omega arith))
    go true e (no p) (yes q) = h j ∙ rw (q, e, and-false (ltb x x), and-false (ltb x (x + 1)))
    go true e (no p) (no q) = h j ∙ rw (le-ltb j x (omega arith), le-ltb j (x + 1) (omega arith))
    go false e (yes p) q = rw (h j, lt-ltb j x p, lt-ltb j (x + 1) (omega arith), ne_eqb j x (λ z. omega arith)) (or-false (held η j))
    go false e (no p) (yes q) = rw (h j, q, eq-eqb x x refl, le-ltb x x (omega arith), lt-ltb x (x + 1) (omega arith), e)
    go false e (no p) (no q) = rw (h j, le-ltb j x (omega arith), le-ltb j (x + 1) (omega arith), ne_eqb j x q)

pub below_more : (m : List ℕ) (a v x : ℕ) (d r : Set) (tag : ℕ) → x < v → v ≤ 64 → tag ≡ get_or m (activation_at a + (8 + x * 2)) 0
    → r ≡ pick (eqb tag 0) d (with d x) → Below d (variables_in m a v) x → Below r (variables_in m a v) (x + 1)
below_more m a v x d r tag p room e q h =
    let l = drop 8 (block_at 136 m 128 a) in
    let z : x < 64 = omega arith in
    let i : is_some (get_or (values_of v l) x nothing) ≡ not (eqb tag 0)
    = rw (values_at v l x p) (is_some_lem (get_or (drop (2 * x) l) 0 0) (get_or (drop (2 * x) l) 1 0) ∙ rw (variable_word m a x z, e)) in
    λ j. ap (λ (s : Set). s j) q ∙ below_next d (values_of v l) x (eqb tag 0) i h j

-- all of them
pub below_all : (m : List ℕ) (a v x : ℕ) (d : Set) → v ≤ x → Below d (variables_in m a v) x → d ≡ held (variables_in m a v)
below_all m a v x d p h = λ k j. at j k
  where
    at : (j : ℕ) → d j ≡ held (variables_in m a v) j
    at j = h j ∙ go (dec_lt j x)
      where
        go : Dec (j < x) → (ltb j x && held (variables_in m a v) j) ≡ held (variables_in m a v) j
        go (yes q) = rw (lt-ltb j x q)
        go (no q) = rw (values_past v (drop 8 (block_at 136 m 128 a)) j (omega arith), and-false (ltb j x))
