-- What the operators give: words, and values of their types.
use mathlib.Core.Path.{◌≡◌, refl, sym}
use mathlib.Core.Option.{some}
use Prim.Native.Nat.{ℕ, ◌-◌, ◌^◌, ◌<◌}
use native.Mathlib.Omega.{arith}
use lib.Bits.{and_lt, or_lt, xor_lt}
use lib.Dec.{ltb}
use Rattle.varset.specs.Lowest.{pick}
use Rattle.arith.proofs.WordInts.{wrap_below}
use Rattle.arith.proofs.Gives.{divided_has, shifted_has}
use Rattle.arith.specs.Operators.{add_of, sub_of, mul_of, quot_of, rem_of, shl_of, shr_of, and_of, or_of, xor_of, results, applied}
use Rattle.arith.specs.declared.Applied.{Applied}
use Rattle.arith.specs.declared.Applied.TheVariants.{Int, Truth, Arith}
use Rattle.spec_machine.specs.Values.{Value, int, truth, t_int, t_bool, type_v, result_value, result}
use Rattle.spec_machine.specs.Machine.{RunEnv}
use Rattle.spec_machine.specs.Fit.{IsWord}
use Rattle.records.proofs.EntryTables.{each_at}

-- an int among the results is a word
abbrev ResultWord : Applied → Type 0
ResultWord (Int c) = c < 2 ^ 32
ResultWord (Truth t) = Unit {0}
ResultWord Arith = Unit {0}

-- a result has its operator's type
abbrev ResultType : ℕ → Applied → Type 0
ResultType o (Int c) = t_int ≡ pick (ltb o 10) t_int t_bool
ResultType o (Truth t) = t_bool ≡ pick (ltb o 10) t_int t_bool
ResultType o Arith = Unit {0}

applied_word : (e o a b : ℕ) → a < 2 ^ 32 → b < 2 ^ 32 → ResultWord (applied e o a b)
unfolding add_of sub_of mul_of quot_of rem_of shl_of shr_of and_of or_of xor_of results applied
applied_word e o a b h k =
    each_at (λ o. ResultWord) (results e a b) Arith
    (wrap_below _, (wrap_below _, (wrap_below _, (divided_has ResultWord a b _ tt (wrap_below _), (divided_has ResultWord a b _ tt (wrap_below _), (shifted_has ResultWord e (shl_of a) b tt (λ n. wrap_below _), (shifted_has ResultWord e (shr_of a) b tt (λ n. wrap_below _), (and_lt 32 a b h k, (or_lt 32 a b h k, (xor_lt 32 a b h k, (tt, (tt, (tt, (tt, (tt, (tt, tt))))))))))))))))
    (λ o. tt)
    o

applied_type : (e o a b : ℕ) → ResultType o (applied e o a b)
unfolding results applied
applied_type e o a b =
    each_at ResultType (results e a b) Arith
    (refl, (refl, (refl, (divided_has (ResultType 3) a b _ tt refl, (divided_has (ResultType 4) a b _ tt refl, (shifted_has (ResultType 5) e (shl_of a) b tt (λ n. refl), (shifted_has (ResultType 6) e (shr_of a) b tt (λ n. refl), (refl, (refl, (refl, (refl, (refl, (refl, (refl, (refl, (refl, tt))))))))))))))))
    (λ o. tt)
    o

given_word : (α : RunEnv) (r : Applied) (v : Value) → result_value r ≡ some v → ResultWord r → IsWord α v
given_word α (Int c) v e h =
    let q : int c ≡ v = cc in
    rw (sym q) h
given_word α (Truth t) v e h =
    let q : truth t ≡ v = cc in
    rw (sym q) tt
given_word α Arith v e h =
    let z : ◌≡◌ {A = ℕ} 0 1 = cc in
    absurd (omega arith)

given_type : (o : ℕ) (r : Applied) (v : Value) → result_value r ≡ some v → ResultType o r → type_v v ≡ pick (ltb o 10) t_int t_bool
given_type o (Int c) v e h =
    let q : int c ≡ v = cc in
    rw (sym q) h
given_type o (Truth t) v e h =
    let q : truth t ≡ v = cc in
    rw (sym q) h
given_type o Arith v e h =
    let z : ◌≡◌ {A = ℕ} 0 1 = cc in
    absurd (omega arith)

-- of two words an operator gives a word, or a truth
pub result_word : (α : RunEnv) (e o a b : ℕ) (v : Value) → a < 2 ^ 32 → b < 2 ^ 32 → result e o a b ≡ some v → IsWord α v
unfolding result
result_word α e o a b v h k q = given_word α (applied e o a b) v q (applied_word e o a b h k)

-- a result is an int below operator 10, and a truth from there
pub result_type : (e o a b : ℕ) (v : Value) → result e o a b ≡ some v → type_v v ≡ pick (ltb o 10) t_int t_bool
unfolding result
result_type e o a b v q = given_type o (applied e o a b) v q (applied_type e o a b)
