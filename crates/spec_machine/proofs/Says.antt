-- A test says a statement: it is true where the statement holds, and only there.
use mathlib.Core.Path.{◌≡◌, refl}
use mathlib.Core.Bool.{Bool, true, false, ◌&&◌, not, false≢true}
use Prim.Native.Nat.{ℕ, ◌≤◌, ◌<◌}
use lib.Dec.{eqb, leb, ltb}
use borrow.Author.Tests.{eqb-true, eq-eqb, leb-true, le-leb, ltb-true, lt-ltb, not-true}
use Rattle.records.proofs.Bools.{and_left, and_right, and_both}

pub record Says (b : Bool) (A : Type 0) : Type 0 where
  pub so : b ≡ true → A
  pub if : A → b ≡ true

pub yes_unit : Says true (Unit {0})
yes_unit = record { so = λ e. tt; if = λ u. refl }

pub never : {A : Type 0} → (A → ⊥) → Says false A
never n = record { so = λ e. absurd (false≢true e); if = λ a. absurd (n a) }

pub no_bottom : Says false ⊥
no_bottom = never (λ z. z)

pub itself : (b : Bool) → Says b (b ≡ true)
itself b = record { so = λ e. e; if = λ e. e }

pub negated : (b : Bool) → Says (not b) (b ≡ false)
negated b = record { so = not-true b; if = λ e. rw e }

pub two : {a b : Bool} {A B : Type 0} → Says a A → Says b B → Says (a && b) (A × B)
two {a} {b} p q = record { so = λ e. (p.so (and_left a b e), q.so (and_right a b e)); if = λ t. and_both a b (p.if t.0) (q.if t.1) }

pub three : {a b c : Bool} {A B C : Type 0} → Says a A → Says b B → Says c C → Says (a && (b && c)) (A × B × C)
three p q r =
    let t = two p (two q r) in
    record { so = λ e. let u = t.so e in (u.0, u.1.0, u.1.1); if = λ u. t.if (u.0, (u.1, u.2)) }

pub four : {a b c d : Bool} {A B C D : Type 0} → Says a A → Says b B → Says c C → Says d D → Says (a && (b && (c && d))) (A × B × C × D)
four p q r s =
    let t = two p (three q r s) in
    record { so = λ e. let u = t.so e in (u.0, u.1.0, u.1.1, u.1.2); if = λ u. t.if (u.0, (u.1, u.2, u.3)) }

pub five : {a b c d f : Bool} {A B C D F : Type 0} → Says a A → Says b B → Says c C → Says d D → Says f F → Says (a && (b && (c && (d && f)))) (A × B × C × D × F)
five p q r s z =
    let t = two p (four q r s z) in
    record { so = λ e. let u = t.so e in (u.0, u.1.0, u.1.1, u.1.2, u.1.3); if = λ u. t.if (u.0, (u.1, u.2, u.3, u.4)) }

pub six : {a b c d f g : Bool} {A B C D F G : Type 0} → Says a A → Says b B → Says c C → Says d D → Says f F → Says g G → Says (a && (b && (c && (d && (f && g))))) (A × B × C × D × F × G)
six p q r s z y =
    let t = two p (five q r s z y) in
    record { so = λ e. let u = t.so e in (u.0, u.1.0, u.1.1, u.1.2, u.1.3, u.1.4); if = λ u. t.if (u.0, (u.1, u.2, u.3, u.4, u.5)) }

pub below : (a b : ℕ) → Says (ltb a b) (a < b)
below a b = record { so = ltb-true a b; if = lt-ltb a b }

pub at_most : (a b : ℕ) → Says (leb a b) (a ≤ b)
at_most a b = record { so = leb-true a b; if = le-leb a b }

pub same : (a b : ℕ) → Says (eqb a b) (a ≡ b)
same a b = record { so = eqb-true a b; if = eq-eqb a b }
