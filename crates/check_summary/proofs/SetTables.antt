-- Truth tables: a set taken on by two statements in turn, by two branches, and in a scope.
use mathlib.Core.Path.{◌≡◌, refl}
use mathlib.Core.Bool.{Bool, true, false, not, ◌&&◌, ◌||◌}

-- x before, what the first drops and adds, what the second drops and adds
pub in_turn : (x d a e b : Bool) → ((((x && not d) || a) && not e) || b) ≡ ((x && not (d || e)) || ((a && not e) || b))
in_turn false d a e b = refl
in_turn true true a e b = refl
in_turn true false a false b = refl
in_turn true false true true b = refl
in_turn true false false true b = refl

-- what is dropped by one of two branches that does not add it again
pub in_branches : (x d a e b : Bool) → (((x && not d) || a) && ((x && not e) || b)) ≡ ((x && not ((d && not a) || (e && not b))) || (a && b))
in_branches false d a e b = refl
in_branches true false a false b = refl
in_branches true false a true true = refl
in_branches true false true true false = refl
in_branches true false false true false = refl
in_branches true true false e b = refl
in_branches true true true false b = refl
in_branches true true true true true = refl
in_branches true true true true false = refl

-- x taken away before and after, where `own` says whether it is the variable declared
pub in_scope : (x own d a : Bool) → ((((x && not own) && not d) || a) && not own) ≡ ((x && not (d || own)) || (a && not own))
in_scope false own d a = refl
in_scope true true true a = refl
in_scope true true false a = refl
in_scope true false true a = refl
in_scope true false false a = refl

-- nothing dropped, and nothing added
pub as_found : (x : Bool) → x ≡ ((x && not false) || false)
as_found true = refl
as_found false = refl

pub adding : (x own : Bool) → (x || own) ≡ ((x && not false) || (false || own))
adding true own = refl
adding false own = refl

pub dropping : (x d : Bool) → (x && not d) ≡ ((x && not d) || false)
dropping false d = refl
dropping true true = refl
dropping true false = refl
