-- Facts on tests that are true or false.
use mathlib.Core.Path.{◌≡◌, refl, sym, ◌∙◌}
use mathlib.Core.Bool.{Bool, true, false, ◌||◌, ◌&&◌, or-true, false≢true}

pub both_mono : (a a' b b' : Bool) → (a ≡ true → a' ≡ true) → (b ≡ true → b' ≡ true) → (a && b) ≡ true → (a' && b') ≡ true
both_mono true a' true b' h k e = rw (h refl, k refl)
both_mono true a' false b' h k e = absurd (false≢true e)
both_mono false a' b b' h k e = absurd (false≢true e)

pub either_mono : (a a' b b' : Bool) → (a ≡ true → a' ≡ true) → (b ≡ true → b' ≡ true) → (a || b) ≡ true → (a' || b') ≡ true
either_mono true a' b b' h k e = rw (h refl)
either_mono false a' true b' h k e = rw (k refl) (or-true a')
either_mono false a' false b' h k e = absurd (false≢true e)

pub and_left : (a b : Bool) → (a && b) ≡ true → a ≡ true
and_left true b e = refl
and_left false b e = e

pub and_right : (a b : Bool) → (a && b) ≡ true → b ≡ true
and_right true b e = e
and_right false b e = absurd (false≢true e)

pub and_both : (a b : Bool) → a ≡ true → b ≡ true → (a && b) ≡ true
and_both a b e f = rw (e, f)

pub or_false_left : (a b : Bool) → (a || b) ≡ false → a ≡ false
or_false_left true b e = e
or_false_left false b e = refl

pub or_false_right : (a b : Bool) → (a || b) ≡ false → b ≡ false
or_false_right true b e = absurd (false≢true (sym e))
or_false_right false b e = e

pub or_more : (a b : Bool) → a ≡ true → (a || b) ≡ true
or_more a b e = rw e

pub or_last : (a b : Bool) → b ≡ true → (a || b) ≡ true
or_last a b e = rw e (or-true a)

-- by cases on a test, with its equation
pub by : {C : Type 0} → (b : Bool) → (b ≡ true → C) → (b ≡ false → C) → C
by true f g = f refl
by false f g = g refl

pub or_cases : {C : Type 0} → (a b : Bool) → (a || b) ≡ true → (a ≡ true → C) → (b ≡ true → C) → C
or_cases true b e f g = f refl
or_cases false b e f g = g e

pub clash : {C : Type 0} → (b : Bool) → b ≡ true → b ≡ false → C
clash b p q = absurd (false≢true (sym q ∙ p))
