-- A property of each entry of a table holds of the entry that is looked up.
use mathlib.Core.List.{List, [], ◌∷◌}
use Prim.Native.Nat.{ℕ, zero, suc, ◌≤◌, suc-le-suc, zero-le}
use lib.ListN.{length, get_or}

abbrev pub Each : {A : Type 0} → (ℕ → A → Type 0) → List A → Type 0
Each Q [] = Unit {0}
Each Q (x ∷ xs) = Q 0 x × Each (λ k. Q (suc k)) xs

-- the entry at k, or past the table's end the default
pub entry_at : {A : Type 0} (Q : ℕ → A → Type 0) (xs : List A) (d : A) → Each Q xs → ((k : ℕ) → length xs ≤ k → Q k d) → (k : ℕ) → Q k (get_or xs k d)
entry_at Q [] d h z k = z k zero-le
entry_at Q (x ∷ xs) d h z zero = h.0
entry_at Q (x ∷ xs) d h z (suc k) = entry_at (λ k. Q (suc k)) xs d h.1 (λ k l. z (suc k) (suc-le-suc l)) k

pub each_at : {A : Type 0} (Q : ℕ → A → Type 0) (xs : List A) (d : A) → Each Q xs → ((k : ℕ) → Q k d) → (k : ℕ) → Q k (get_or xs k d)
each_at Q xs d h z = entry_at Q xs d h (λ k l. z k)
