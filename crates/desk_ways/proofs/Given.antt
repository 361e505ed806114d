-- What a statement leaves is what it found and what it gives by itself, but for the variables that it declares.
use mathlib.Core.Path.{◌≡◌, refl, ◌∙◌}
use mathlib.Core.Bool.{Bool, true, false, ◌&&◌, ◌||◌}
use Prim.Native.Nat.{ℕ}
use lib.Dec.{eqb}
use Rattle.varset.specs.Sets.{Set, none, with, without, both, either, less, below}
use Rattle.records.proofs.Bools.{or_false_left, or_false_right}
use Rattle.spec_language.specs.Statements.{Statement, Nop, Seq, Assign, Decl, If, While, Return, Assert, Expr}
use Rattle.spec_language.specs.Flow.{declares, leaves}

or-none : (a : Bool) → a ≡ a || false
or-none true = refl
or-none false = refl

or_twice : (a b c : Bool) → (a || b) || c ≡ a || (b || c)
or_twice true b c = refl
or_twice false b c = refl

or_both : (a b c : Bool) → (a || b) && (a || c) ≡ a || (b && c)
or_both true b c = refl
or_both false b c = refl

and-true : (a : Bool) → a && true ≡ a
and-true true = refl
and-true false = refl

-- the variables that s leaves with a value, of those in d before it
pub leaves_from : (s : Statement) (d : Set) (x : ℕ) → declares s x ≡ false → leaves s d x ≡ d x || leaves s none x
unfolding declares leaves none with without both either less below
leaves_from Nop d x h = or-none (d x)
leaves_from (Seq s t) d x h =
    let p = or_false_left (declares s x) (declares t x) h in
    let q = or_false_right (declares s x) (declares t x) h in
    leaves_from t (leaves s d) x q ∙ rw (leaves_from s d x p, or_twice (d x) (leaves s none x) (leaves t none x), ← leaves_from t (leaves s none) x q)
leaves_from (Assign y e) d x h = refl
leaves_from (Decl y s) d x h =
    let p = or_false_left (declares s x) (eqb x y) h in
    let q = or_false_right (declares s x) (eqb x y) h in
    rw (leaves_from s (without d y) x p, leaves_from s (without none y) x p, q, and-true (d x), and-true (d x || leaves s none x), and-true (leaves s none x))
leaves_from (If e s t) d x h =
    let p = or_false_left (declares s x) (declares t x) h in
    let q = or_false_right (declares s x) (declares t x) h in
    rw (leaves_from s d x p, leaves_from t d x q, or_both (d x) (leaves s none x) (leaves t none x))
leaves_from (While e s) d x h = rw (h, and-true (d x)) (or-none (d x))
leaves_from (Return e) d x h = found (d x) refl
  where
    -- whether a return leaves what it found or gives every value
    found : (b : Bool) → d x ≡ b → leaves (Return e) d x ≡ d x || leaves (Return e) none x
    found true q = rw q
    found false q = rw q
leaves_from (Assert e) d x h = or-none (d x)
leaves_from (Expr e) d x h = or-none (d x)

-- a variable without a value before a statement that gives it none has none after it
pub still_missing : (s : Statement) (d : Set) (x : ℕ) → declares s x ≡ false → d x ≡ false → leaves s none x ≡ false → leaves s d x ≡ false
still_missing s d x h p q = leaves_from s d x h ∙ rw (p, q)
