-- References, values, nodes and controls are read back from their words.
use mathlib.Core.Path.{◌≡◌, refl, ap, ◌∙◌}
use mathlib.Core.Bool.{true, false}
use mathlib.Core.List.{List, [], ◌∷◌, ◌++◌}
use Prim.Native.Nat.{ℕ, zero, suc, ◌+◌, ◌*◌, ◌-◌, ◌/◌, ◌%◌, ◌≤◌, ◌<◌}
use native.Mathlib.Nat.{zero-add, mod-eq_of_lt, div-eq_of_lt, add-mul-mod_self_left, add-mul-div_left}
use native.Mathlib.Omega.{arith}
use lib.ListN.{length, get_or, take, drop}
use lib.Seq.{take-append-add}
use Rattle.spec_machine.specs.Values.{Value, nothing, int, truth}
use Rattle.spec_machine.specs.Program.{Ref, node, if_of, seq_of}
use Rattle.spec_machine.specs.Machine.{Control, val, eval, exec}
use Rattle.spec_image.specs.Layout.{bit, value_words, values_words, nodes_words, ref_word, control_words}
use Rattle.spec_image.specs.Decode.{value_of, values_of, nodes_of, ref_of, control_of}

-- a number in threes, with k over
third : (k n : ℕ) → k < 3 → ((k + 3 * n) % 3 ≡ k) × ((k + 3 * n) / 3 ≡ n)
third k n h = (
  add-mul-mod_self_left k 3 n ∙ mod-eq_of_lt h,
  add-mul-div_left k n (omega arith) ∙ rw (div-eq_of_lt h) (zero-add n),
)

pub ref_back : (r : Ref) → ref_of (ref_word r) ≡ r
unfolding ref_of ref_word
ref_back Ref.nop = refl
ref_back (node n) = let e : 1 + 3 * n ≡ suc (0 + 3 * n) = omega arith in let t = third 0 n (omega arith) in rw (e, t.0, t.1)
ref_back (if_of n) = let e : 2 + 3 * n ≡ suc (1 + 3 * n) = omega arith in let t = third 1 n (omega arith) in rw (e, t.0, t.1)
ref_back (seq_of n) = let e : 3 + 3 * n ≡ suc (2 + 3 * n) = omega arith in let t = third 2 n (omega arith) in rw (e, t.0, t.1)

-- every word is a reference's
pub ref_word_lem : (w : ℕ) → ref_word (ref_of w) ≡ w
unfolding ref_of ref_word
ref_word_lem zero = refl
ref_word_lem (suc m) = go (m % 3) refl
  where
    go : (k : ℕ) → m % 3 ≡ k → ref_word (ref_of (suc m)) ≡ suc m
    go zero e = rw e (omega arith)
    go (suc zero) e = rw e (omega arith)
    go (suc (suc zero)) e = rw e (omega arith)
    go (suc (suc (suc k))) e = absurd (omega arith)

pub value_back : (v : Value) → value_of (get_or (value_words v) 0 0) (get_or (value_words v) 1 0) ≡ v
unfolding value_of value_words bit
value_back nothing = refl
value_back (int n) = refl
value_back (truth true) = refl
value_back (truth false) = refl

pub length-values : (vs : List Value) → length (values_words vs) ≡ 2 * length vs
unfolding values_words value_words
length-values [] = refl
length-values (nothing ∷ vs) = omega (arith, length-values vs)
length-values (int n ∷ vs) = omega (arith, length-values vs)
length-values (truth b ∷ vs) = omega (arith, length-values vs)

pub length_nodes : (ns : List ℕ) → length (nodes_words ns) ≡ 2 * length ns
unfolding nodes_words
length_nodes [] = refl
length_nodes (n ∷ ns) = omega (arith, length_nodes ns)

pub values_back : (vs : List Value) (R : List ℕ) → values_of (length vs) (values_words vs ++ R) ≡ vs
unfolding values_of values_words value_of value_words bit
values_back [] R = refl
values_back (nothing ∷ vs) R = rw (values_back vs R)
values_back (int n ∷ vs) R = rw (values_back vs R)
values_back (truth true ∷ vs) R = rw (values_back vs R)
values_back (truth false ∷ vs) R = rw (values_back vs R)

-- so many values and nodes are read
pub length_values_of : (n : ℕ) (l : List ℕ) → length (values_of n l) ≡ n
unfolding values_of
length_values_of zero l = refl
length_values_of (suc n) l = ap suc (length_values_of n (drop 2 l))

pub length_nodes_of : (n : ℕ) (l : List ℕ) → length (nodes_of n l) ≡ n
unfolding nodes_of
length_nodes_of zero l = refl
length_nodes_of (suc n) l = ap suc (length_nodes_of n (drop 2 l))

pub nodes_back : (ns R : List ℕ) → nodes_of (length ns) (nodes_words ns ++ R) ≡ ns
unfolding nodes_of nodes_words
nodes_back [] R = refl
nodes_back (n ∷ ns) R = rw (nodes_back ns R)

pub control_back : (c : Control) → control_of (get_or (control_words c) 0 0) (get_or (control_words c) 1 0) ≡ c
unfolding control_of control_words bit
control_back (val nothing) = refl
control_back (val (int n)) = refl
control_back (val (truth true)) = refl
control_back (val (truth false)) = refl
control_back (eval n) = refl
control_back (exec r) = rw (ref_back r)

-- the first n words of a list that is not longer, and of what follows it
pub take_over : (n : ℕ) (l R : List ℕ) → length l ≤ n → take n (l ++ R) ≡ l ++ take (n - length l) R
take_over n l R h =
    let e : n ≡ length l + (n - length l) = omega arith in
    ap (λ (k : ℕ). take k (l ++ R)) e ∙ take-append-add l R (n - length l)
