-- Values of the kind that a frame wants.
use mathlib.Core.Path.{◌≡◌, ap, ◌∙◌}
use mathlib.Core.Logic.{⊎_elim}
use mathlib.Core.List.{[], ◌∷◌}
use Prim.Native.Nat.{ℕ}
use native.Mathlib.Omega.{arith}
use borrow.Enum.Refused.{Among, opened}
use denote.Enum.Declared.{tag_of}
use Rattle.spec_machine.specs.Values as values
use Rattle.spec_image.specs.Decode.{value_of}
use Rattle.state_words.specs.declared.Value.{Value}
use Rattle.state_words.specs.declared.Value.TheVariants.{Nothing, Int, Truth}
use Rattle.state_words.specs.Meaning.{value_is}
use Rattle.state_words.specs.contracts.Value.{the_type}
use Rattle.run_step.specs.StepsBy.{IsInt, IsTruth}

-- an int is of no other kind, nor is a bool
pub int_only : (v : Value) → IsInt v → Among (0 ∷ 2 ∷ []) (tag_of the_type v) → ⊥
int_only Nothing h k = h
int_only (Int n) h k = ⊎_elim (λ e. omega arith) (λ e. omega arith) (opened k)
int_only (Truth b) h k = h

pub truth_only : (v : Value) → IsTruth v → Among (0 ∷ 1 ∷ []) (tag_of the_type v) → ⊥
truth_only Nothing h k = h
truth_only (Int n) h k = h
truth_only (Truth b) h k = ⊎_elim (λ e. omega arith) (λ e. omega arith) (opened k)

-- by what a value stands for
abbrev tag : values.Value → ℕ
tag values.nothing = 0
tag (values.int n) = 1
tag (values.truth b) = 2

pub is_int : (v : Value) (n : ℕ) → value_is v ≡ values.int n → IsInt v
unfolding value_is
is_int Nothing n e = absurd (let z : ◌≡◌ {A = ℕ} 0 1 = ap tag e in omega arith)
is_int (Int m) n e = tt
is_int (Truth b) n e = absurd (let z : ◌≡◌ {A = ℕ} 2 1 = ap tag e in omega arith)

-- the value of two words whose first says int
pub int_words : (v : Value) (a b : ℕ) → value_is v ≡ value_of a b → a ≡ 1 → IsInt v
unfolding value_of
int_words v a b e h = is_int v b (e ∙ rw h)

pub int_inj : {m n : ℕ} → values.int m ≡ values.int n → m ≡ n
int_inj {m} {n} e = ap word e
  where
    word : values.Value → ℕ
    word values.nothing = 0
    word (values.int k) = k
    word (values.truth b) = 0

pub is_truth : (v : Value) → values.type_v (value_is v) ≡ values.t_bool → IsTruth v
unfolding value_is
is_truth Nothing e = absurd (let z : ◌≡◌ {A = ℕ} 0 2 = e in omega arith)
is_truth (Int n) e = absurd (let z : ◌≡◌ {A = ℕ} 1 2 = e in omega arith)
is_truth (Truth b) e = tt
