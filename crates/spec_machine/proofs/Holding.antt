-- Variables and what they hold.
use mathlib.Core.Path.{◌≡◌, refl, sym, ap, ◌∙◌, fun_ext}
use mathlib.Core.Logic.{inl, inr}
use mathlib.Core.Bool.{true, false, or-true, or-false, and-true, and-false, false≢true}
use mathlib.Core.List.{List, [], ◌∷◌, ◌++◌, map}
use Prim.Native.Nat.{ℕ, zero, suc, ◌<◌}
use native.Mathlib.Nat.{not-suc-le-zero, le_of_suc-le-suc}
use lib.Dec.{eqb, ltb, leb-suc-zero, leb-suc-suc, leb-zero}
use lib.ListN.{get_or, set, length}
use lib.Seq.{get_or-set_same, get_or-set_other}
use borrow.Author.Tests.{eqb-true, eqb-false}
use Rattle.varset.specs.Sets.{with, without}
use Rattle.records.proofs.Bools.{by}
use Rattle.spec_machine.specs.Values.{Ty, t_none, Value, nothing, int, truth, type_v}
use Rattle.spec_machine.specs.Machine.{blank}
use Rattle.spec_machine.specs.Fit.{HoldsTyped, AllHoldTyped, is_some, held}
use Rattle.spec_machine.proofs.Accepted.{Real}

pub holds_length : (η : List Value) (ts : List Ty) → AllHoldTyped η ts → length η ≡ length ts
holds_length [] [] h = refl
holds_length [] (t ∷ ts) h = absurd h
holds_length (v ∷ vs) [] h = absurd h
holds_length (v ∷ vs) (t ∷ ts) h = ap suc (holds_length vs ts h.1)

pub holds_set : (η : List Value) (ts : List Ty) (x : ℕ) (v : Value) → HoldsTyped v (get_or ts x t_none) → AllHoldTyped η ts → AllHoldTyped (set η x v) ts
holds_set [] ts x v k h = h
holds_set (w ∷ η) [] x v k h = absurd h
holds_set (w ∷ η) (t ∷ ts) zero v k h = (k, h.1)
holds_set (w ∷ η) (t ∷ ts) (suc x) v k h = (h.0, holds_set η ts x v k h.1)

some_held : (v : Value) (t : Ty) → is_some v ≡ true → HoldsTyped v t → type_v v ≡ t
some_held v t e (inl n) = absurd (false≢true (rw n at e))
some_held v t e (inr k) = k

-- what is read is a value of its type
pub read_type : (η : List Value) (ts : List Ty) (x : ℕ) → AllHoldTyped η ts → held η x ≡ true → type_v (get_or η x nothing) ≡ get_or ts x t_none
read_type [] ts x h e = absurd (false≢true e)
read_type (v ∷ η) [] x h e = absurd h
read_type (v ∷ η) (t ∷ ts) zero h e = some_held v t e h.0
read_type (v ∷ η) (t ∷ ts) (suc x) h e = read_type η ts x h.1 e

pub real_at : (ts : List Ty) (x : ℕ) → Real ts → x < length ts → get_or ts x t_none ≡ t_none → ⊥
real_at [] x r l e = not-suc-le-zero l
real_at (t ∷ ts) zero r l e = r.0 e
real_at (t ∷ ts) (suc x) r l e = real_at ts x r.1 (le_of_suc-le-suc l) e

pub real_some : (v : Value) → (type_v v ≡ t_none → ⊥) → is_some v ≡ true
real_some nothing r = absurd (r refl)
real_some (int n) r = refl
real_some (truth b) r = refl

pub real_left : (ps ls : List Ty) → Real (ps ++ ls) → Real ps
real_left [] ls r = tt
real_left (p ∷ ps) ls r = (r.0, real_left ps ls r.1)

-- after a store
pub stored_is : (η : List Value) (x : ℕ) (v : Value) → is_some v ≡ true → x < length η → with (held η) x ≡ held (set η x v)
unfolding with
stored_is η x v s l =
    fun_ext λ y. by (eqb y x) (λ p. rw (p, eqb-true y x p, get_or-set_same η x v nothing l, s) (or-true (held η x)))
    (λ p. rw (p, get_or-set_other η x y v nothing (eqb-false y x p)) (or-false (held η y)))

-- after a decl
empty-is : (η : List Value) (x : ℕ) → held (set η x nothing) x ≡ false
empty-is [] x = refl
empty-is (v ∷ η) zero = refl
empty-is (v ∷ η) (suc x) = empty-is η x

pub cleared_is : (η : List Value) (x : ℕ) → without (held η) x ≡ held (set η x nothing)
unfolding without
cleared_is η x =
    fun_ext λ y. by (eqb y x) (λ p. rw (p, eqb-true y x p, empty-is η x) (and-false (held η x)))
    (λ p. rw (p, get_or-set_other η x y nothing nothing (eqb-false y x p)) (and-true (held η y)))

-- at entry
blank_holds : (ls : List Ty) → AllHoldTyped (blank ls) ls
blank_holds [] = tt
blank_holds (l ∷ ls) = (inl refl, blank_holds ls)

pub enter_holds : (vs : List Value) (ls : List Ty) → AllHoldTyped (vs ++ blank ls) (map type_v vs ++ ls)
enter_holds [] ls = blank_holds ls
enter_holds (v ∷ vs) ls = (inr refl, enter_holds vs ls)

blank_is : (ls : List Ty) (x : ℕ) → held (blank ls) x ≡ false
blank_is [] x = refl
blank_is (l ∷ ls) zero = refl
blank_is (l ∷ ls) (suc x) = blank_is ls x

pub entered_at : (vs : List Value) (ls : List Ty) → Real (map type_v vs) → (x : ℕ) → ltb x (length (map type_v vs)) ≡ held (vs ++ blank ls) x
entered_at [] ls r x = leb-suc-zero x ∙ sym (blank_is ls x)
entered_at (v ∷ vs) ls r zero = rw (real_some v r.0) (leb-suc-suc 0 (length (map type_v vs)) ∙ leb-zero (length (map type_v vs)))
entered_at (v ∷ vs) ls r (suc x) = leb-suc-suc (suc x) (length (map type_v vs)) ∙ entered_at vs ls r.1 x

-- one more value is gathered
pub map_snoc {ℓ} : {B : Type ℓ} (f : Value → B) (vs : List Value) (v : Value) (r : List B) → map f (vs ++ (v ∷ [])) ++ r ≡ map f vs ++ (f v ∷ r)
map_snoc f [] v r = refl
map_snoc f (w ∷ vs) v r = ap (◌∷◌ (f w)) (map_snoc f vs v r)

pub map_last {ℓ} : {B : Type ℓ} (f : Value → B) (vs : List Value) (v : Value) → map f (vs ++ (v ∷ [])) ≡ map f vs ++ (f v ∷ [])
map_last f [] v = refl
map_last f (w ∷ vs) v = ap (◌∷◌ (f w)) (map_last f vs v)
