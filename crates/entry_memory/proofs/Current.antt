-- The variables of the current activation, read from the words of a memory that holds a state.
use mathlib.Core.Path.{◌≡◌, refl, ap, ◌∙◌}
use mathlib.Core.Bool.{true, false, false≢true}
use mathlib.Core.List.{List, ◌∷◌}
use mathlib.Core.Option.{none, some}
use Prim.Native.Nat.{ℕ, zero, suc, ◌+◌, ◌*◌, ◌-◌, ◌≤◌, ◌<◌}
use native.Mathlib.Nat.{add-zero}
use native.Mathlib.Decide.{dec_lt, ℕ_discrete}
use native.Mathlib.Omega.{arith}
use lib.Dec.{ltb}
use lib.ListN.{length, get_or, drop}
use lib.Seq.{get_or-take, get_or-drop}
use borrow.Author.Tests.{lt-ltb, le-ltb, ltb-true}
use Rattle.words.specs.Stacks.{block_at, Every}
use Rattle.spec_machine.specs.Machine.{main_call}
use Rattle.spec_machine.specs.Run.{looked, look_up}
use Rattle.spec_image.specs.Layout.{Activation, activation}
use Rattle.spec_image.specs.Decode.{value_of, values_of, running_of, activations_to, activations_in, states, state_of}
use Rattle.spec_image.specs.Narrow.{NarrowActivation}
use Rattle.spec_image.proofs.Images.{activations_in_lem}
use Rattle.state_words.specs.Meaning.{activation_at, variable_at}
use Rattle.spec_image.proofs.ValueWords.{length_values_of}
use Rattle.fit_state.specs.HoldsState.{HoldsState}
use Rattle.fit_state.specs.Meaning.{variables_in}
use Rattle.fit_state.proofs.Lists.{activation_in_lem}
use Rattle.fit_state.proofs.Rests as rests
use Rattle.spec_answers.specs.Answers.{is_present, value_or}

-- ---- one of the values of a list of words

looked_here : (v : ℕ) (l : List ℕ) (x : ℕ) → x < v → looked (values_of v l) x ≡ some (value_of (get_or l (x * 2) 0) (get_or l (x * 2 + 1) 0))
unfolding values_of
looked_here zero l x h = absurd (omega arith)
looked_here (suc v) l zero h = refl
looked_here (suc v) l (suc x) h =
    let e : 2 + x * 2 ≡ suc x * 2 = omega arith in
    let f : 2 + (x * 2 + 1) ≡ suc x * 2 + 1 = omega arith in
    looked_here v (drop 2 l) x (omega arith) ∙ rw (get_or-drop 2 l (x * 2) 0, get_or-drop 2 l (x * 2 + 1) 0, e, f)

looked_past : (v : ℕ) (l : List ℕ) (x : ℕ) → v ≤ x → looked (values_of v l) x ≡ none
unfolding values_of
looked_past zero l x h = refl
looked_past (suc v) l zero h = absurd (omega arith)
looked_past (suc v) l (suc x) h = looked_past v (drop 2 l) x (omega arith)

-- ---- a state that is not running

other : (m : List ℕ) (x t : ℕ) → (t ≡ 2 → ⊥) → look_up (get_or (states m) t main_call) x ≡ none
unfolding states
other m x zero n = refl
other m x (suc zero) n = refl
other m x (suc (suc zero)) n = absurd (n refl)
other m x (suc (suc (suc zero))) n = refl
other m x (suc (suc (suc (suc zero)))) n = refl
other m x (suc (suc (suc (suc (suc zero))))) n = refl
other m x (suc (suc (suc (suc (suc (suc zero)))))) n = refl
other m x (suc (suc (suc (suc (suc (suc (suc zero))))))) n = refl
other m x (suc (suc (suc (suc (suc (suc (suc (suc zero)))))))) n = refl
other m x (suc (suc (suc (suc (suc (suc (suc (suc (suc zero))))))))) n = refl
other m x (suc (suc (suc (suc (suc (suc (suc (suc (suc (suc t)))))))))) n = refl

module _ (m : List ℕ) (x : ℕ) where
  pub none_given : (get_or m 0 0 ≡ 2 → ⊥) → false ≡ is_present (look_up (state_of m) x)
  unfolding state_of
  none_given n = rw (other m x (get_or m 0 0) n)

  -- where there is such a variable, the state is running
  pub given_runs : is_present (look_up (state_of m) x) ≡ true → get_or m 0 0 ≡ 2
  given_runs g = go (ℕ_discrete (get_or m 0 0) 2)
    where
      go : Dec (get_or m 0 0 ≡ 2) → get_or m 0 0 ≡ 2
      go (yes e) = e
      go (no n) = absurd (false≢true (none_given n ∙ g))

-- ---- a running state

module _ (m : List ℕ) (h : HoldsState m) (tag : get_or m 0 0 ≡ 2) where
  -- how many activations lie under the current one, and its variables
  abbrev a : ℕ
  a = get_or m 2 0 - 1

  abbrev count : ℕ
  count = get_or m (activation_at a + 2) 0

  abbrev current : Activation
  current = activation (get_or m (activation_at a + 0) 0) (get_or m (activation_at a + 1) 0) (variables_in m a count)

  opened : activations_in m ≡ current ∷ activations_to m a
  unfolding activations_in
  opened =
      let z : get_or m 2 0 ≡ suc a = omega (arith, rests.some m h tag) in
      ap (activations_to m) z ∙ ap (λ (y : Activation). y ∷ activations_to m a) (activation_in_lem m a _ _ _ refl refl refl)

  looks : (x : ℕ) → look_up (state_of m) x ≡ looked (variables_in m a count) x
  unfolding state_of states running_of
  looks x = rw (tag, opened)

  pub count_few : count ≤ 64
  count_few =
      let n : Every NarrowActivation (activations_in m) = rw (h.held, activations_in_lem h.state h.rest h.narrow) h.narrow.activations in
      let k : length (variables_in m a count) ≤ 64 = (rw opened at n).0 in
      omega (arith, k, length_values_of count (drop 8 (block_at 136 m 128 a)))

  word : (x j : ℕ) → x < 64 → j < 2 → get_or (drop 8 (block_at 136 m 128 a)) (x * 2 + j) 0 ≡ get_or m (variable_at a x + j) 0
  unfolding variable_at
  word x j r i =
      let e : 128 + a * 136 + (8 + (x * 2 + j)) ≡ 128 + a * 136 + (8 + x * 2) + j = omega arith in
      get_or-drop 8 (block_at 136 m 128 a) (x * 2 + j) 0
      ∙ get_or-take 136 (drop (128 + a * 136) m) (8 + (x * 2 + j)) 0 (omega arith)
      ∙ get_or-drop (128 + a * 136) m (8 + (x * 2 + j)) 0
      ∙ rw e

  pub count_given : (x v : ℕ) → v ≡ count → ltb x v ≡ is_present (look_up (state_of m) x)
  count_given x v e = rw (e, looks x) (go (dec_lt x count))
    where
      go : Dec (x < count) → ltb x count ≡ is_present (looked (variables_in m a count) x)
      go (yes l) = rw (lt-ltb x count l, looked_here count (drop 8 (block_at 136 m 128 a)) x l)
      go (no l) = rw (le-ltb x count (omega arith), looked_past count (drop 8 (block_at 136 m 128 a)) x (omega arith))

  pub given_below : (x : ℕ) → is_present (look_up (state_of m) x) ≡ true → x < count
  given_below x g = ltb-true x count (count_given x count refl ∙ g)

  pub given_few : (x : ℕ) → is_present (look_up (state_of m) x) ≡ true → x < 64
  given_few x g = omega (arith, given_below x g, count_few)

  pub value_given : (x : ℕ) → is_present (look_up (state_of m) x) ≡ true
      → value_of (get_or m (variable_at a x) 0) (get_or m (variable_at a x + 1) 0) ≡ value_or (look_up (state_of m) x)
  value_given x g =
      let l = given_below x g in
      let r = given_few x g in
      let w : get_or (drop 8 (block_at 136 m 128 a)) (x * 2) 0 ≡ get_or m (variable_at a x) 0
      = rw (add-zero (x * 2), add-zero (variable_at a x)) at (word x 0 r (omega arith)) in
      rw (looks x, looked_here count (drop 8 (block_at 136 m 128 a)) x l, w, word x 1 r (omega arith))
