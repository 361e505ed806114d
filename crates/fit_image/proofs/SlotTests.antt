-- Values and nodes in slots of two words: those that pass are written again as they were read, and those of an image pass.
use mathlib.Core.Path.{◌≡◌, refl}
use mathlib.Core.Bool.{true, false, false≢true}
use mathlib.Core.List.{List, [], ◌∷◌, ◌++◌}
use Prim.Native.Nat.{ℕ, zero, suc, ◌*◌, ◌≤◌}
use native.Mathlib.Omega.{arith}
use lib.Dec.{eqb}
use lib.ListN.{length, get_or, take}
use borrow.Author.Tests.{eqb-true, ltb-true}
use Rattle.words.proofs.Tests.{both}
use Rattle.spec_machine.specs.Values.{Value, nothing, int, truth}
use Rattle.spec_machine.specs.Machine.{Control, val, eval, exec}
use Rattle.spec_image.specs.Layout.{bit, value_words, values_words, nodes_words, control_words}
use Rattle.spec_image.specs.Decode.{value_of, values_of, nodes_of, control_of}
use Rattle.spec_image.proofs.ValueWords.{ref_word_lem}
use Rattle.fit_image.specs.BlockTests.{value_ok, values_ok, nodes_ok, control_ok}

-- ---- what passes

pub value_sound : (t w : ℕ) → value_ok t w ≡ true → value_words (value_of t w) ≡ t ∷ w ∷ []
unfolding value_ok value_of value_words bit
value_sound zero w e = rw (eqb-true w 0 e)
value_sound (suc zero) w e = refl
value_sound (suc (suc zero)) zero e = refl
value_sound (suc (suc zero)) (suc zero) e = refl
value_sound (suc (suc zero)) (suc (suc w)) e = absurd (omega (arith, ltb-true (suc (suc w)) 2 e))
value_sound (suc (suc (suc t))) w e = absurd (false≢true e)

pub control_sound : (f w : ℕ) → control_ok f w ≡ true → control_words (control_of f w) ≡ f ∷ w ∷ []
unfolding control_ok control_of control_words bit
control_sound zero w e = absurd (false≢true e)
control_sound (suc zero) w e = rw (eqb-true w 0 e)
control_sound (suc (suc zero)) w e = refl
control_sound (suc (suc (suc zero))) zero e = refl
control_sound (suc (suc (suc zero))) (suc zero) e = refl
control_sound (suc (suc (suc zero))) (suc (suc w)) e = absurd (omega (arith, ltb-true (suc (suc w)) 2 e))
control_sound (suc (suc (suc (suc zero)))) w e = refl
control_sound (suc (suc (suc (suc (suc zero))))) w e = rw (ref_word_lem w)
control_sound (suc (suc (suc (suc (suc (suc f)))))) w e = absurd (false≢true e)

pub values_sound : (n : ℕ) (l : List ℕ) → 2 * n ≤ length l → values_ok n l ≡ true → values_words (values_of n l) ≡ take (2 * n) l
unfolding values_words values_of
values_sound zero l h e = refl
values_sound (suc n) [] h e = absurd (omega arith)
values_sound (suc n) (t ∷ []) h e = absurd (omega arith)
values_sound (suc n) (t ∷ w ∷ l) h e =
    let b = both (value_ok t w) (values_ok n l) e in
    let k : 2 * suc n ≡ suc (suc (2 * n)) = omega arith in
    rw (k, value_sound t w b.0, values_sound n l (omega arith) b.1)

pub nodes_sound : (n : ℕ) (l : List ℕ) → 2 * n ≤ length l → nodes_ok n l ≡ true → nodes_words (nodes_of n l) ≡ take (2 * n) l
unfolding nodes_words nodes_of
nodes_sound zero l h e = refl
nodes_sound (suc n) [] h e = absurd (omega arith)
nodes_sound (suc n) (t ∷ []) h e = absurd (omega arith)
nodes_sound (suc n) (t ∷ w ∷ l) h e =
    let b = both (eqb w 0) (nodes_ok n l) e in
    let k : 2 * suc n ≡ suc (suc (2 * n)) = omega arith in
    rw (k, eqb-true w 0 b.0, nodes_sound n l (omega arith) b.1)

-- ---- what an image has

pub values_pass : (vs : List Value) (R : List ℕ) → values_ok (length vs) (values_words vs ++ R) ≡ true
unfolding values_words value_words value_ok bit
values_pass [] R = refl
values_pass (nothing ∷ vs) R = values_pass vs R
values_pass (int n ∷ vs) R = values_pass vs R
values_pass (truth true ∷ vs) R = values_pass vs R
values_pass (truth false ∷ vs) R = values_pass vs R

pub nodes_pass : (ns R : List ℕ) → nodes_ok (length ns) (nodes_words ns ++ R) ≡ true
unfolding nodes_words
nodes_pass [] R = refl
nodes_pass (n ∷ ns) R = nodes_pass ns R

pub control_pass : (c : Control) → control_ok (get_or (control_words c) 0 0) (get_or (control_words c) 1 0) ≡ true
unfolding control_words control_ok bit
control_pass (val nothing) = refl
control_pass (val (int n)) = refl
control_pass (val (truth true)) = refl
control_pass (val (truth false)) = refl
control_pass (eval n) = refl
control_pass (exec r) = refl
