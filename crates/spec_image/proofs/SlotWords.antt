-- Values and nodes in slots of two words each.
use mathlib.Core.Path.{◌≡◌, refl, sym, ap}
use mathlib.Core.List.{List, [], ◌∷◌, ◌++◌, append_assoc}
use Prim.Native.Nat.{ℕ, zero, suc, ◌+◌, ◌*◌, ◌<◌}
use native.Mathlib.Omega.{arith}
use lib.ListN.{length, get_or, set, replicate, get_or-append}
use lib.Seq.{get_or-append-add}
use Rattle.spec_machine.specs.Values.{Value, nothing, int, truth}
use Rattle.spec_image.specs.Layout.{value_words, values_words, nodes_words}

pub length_value : (v : Value) → length (value_words v) ≡ 2
unfolding value_words
length_value nothing = refl
length_value (int n) = refl
length_value (truth b) = refl

-- a value's two words
pub two_words : (v : Value) → value_words v ≡ get_or (value_words v) 0 0 ∷ get_or (value_words v) 1 0 ∷ []
unfolding value_words
two_words nothing = refl
two_words (int n) = refl
two_words (truth b) = refl

pub values_append : (us vs : List Value) → values_words (us ++ vs) ≡ values_words us ++ values_words vs
unfolding values_words
values_append [] vs = refl
values_append (u ∷ us) vs = rw (values_append us vs) (sym (append_assoc (value_words u) (values_words us) (values_words vs)))

-- one value
pub values_one : (v : Value) → values_words (v ∷ []) ≡ value_words v
unfolding values_words value_words
values_one nothing = refl
values_one (int n) = refl
values_one (truth b) = refl

-- a word of value k
pub values_at : (vs : List Value) (k j : ℕ) → k < length vs → j < 2 → get_or (values_words vs) (2 * k + j) 0 ≡ get_or (value_words (get_or vs k nothing)) j 0
unfolding values_words
values_at [] k j h i = absurd (omega arith)
values_at (v ∷ vs) zero j h i =
    let e : 2 * 0 + j ≡ j = omega arith in
    rw e (get_or-append (value_words v) (values_words vs) 0 j (rw (length_value v) i))
values_at (v ∷ vs) (suc k) j h i =
    let e : 2 * suc k + j ≡ length (value_words v) + (2 * k + j) = omega (arith, length_value v) in
    rw (e, get_or-append-add (value_words v) (values_words vs) (2 * k + j) 0) (values_at vs k j (omega arith) i)

-- node k
pub nodes_at : (ns : List ℕ) (k : ℕ) → get_or (nodes_words ns) (2 * k) 0 ≡ get_or ns k 0
unfolding nodes_words
nodes_at [] k = refl
nodes_at (n ∷ ns) zero = refl
nodes_at (n ∷ ns) (suc k) =
    let e : 2 * suc k ≡ suc (suc (2 * k)) = omega arith in
    rw e (nodes_at ns k)

pub nodes_set : (ns : List ℕ) (k n : ℕ) → set (nodes_words ns) (2 * k) n ≡ nodes_words (set ns k n)
unfolding nodes_words
nodes_set [] k n = refl
nodes_set (m ∷ ns) zero n = refl
nodes_set (m ∷ ns) (suc k) n =
    let e : 2 * suc k ≡ suc (suc (2 * k)) = omega arith in
    rw e (ap (λ (l : List ℕ). m ∷ 0 ∷ l) (nodes_set ns k n))

-- slots of nothing are zeros
pub blank_values : (n : ℕ) → values_words (replicate n nothing) ≡ replicate (2 * n) 0
unfolding values_words value_words
blank_values zero = refl
blank_values (suc n) =
    let e : 2 * suc n ≡ suc (suc (2 * n)) = omega arith in
    rw e (ap (λ (l : List ℕ). 0 ∷ 0 ∷ l) (blank_values n))

pub blank_nodes : (n : ℕ) → nodes_words (replicate n 0) ≡ replicate (2 * n) 0
unfolding nodes_words
blank_nodes zero = refl
blank_nodes (suc n) =
    let e : 2 * suc n ≡ suc (suc (2 * n)) = omega arith in
    rw e (ap (λ (l : List ℕ). 0 ∷ 0 ∷ l) (blank_nodes n))
