-- Types, forms and tags that there are none of.
use mathlib.Core.Path.{◌≡◌, refl}
use mathlib.Core.Bool.{true, false}
use Prim.Native.Nat.{ℕ, zero, suc}
use Rattle.fit_image.specs.BlockTests.{value_ok, control_ok}
use Rattle.fit_image.specs.MemoryTest.{tag_ok, entry_ok}

pub no_type : (t w : ℕ) → (t ≡ 0 → ⊥) → (t ≡ 1 → ⊥) → (t ≡ 2 → ⊥) → value_ok t w ≡ false
unfolding value_ok
no_type zero w a b c = absurd (a refl)
no_type (suc zero) w a b c = absurd (b refl)
no_type (suc (suc zero)) w a b c = absurd (c refl)
no_type (suc (suc (suc t))) w a b c = refl

pub no_form : (f w : ℕ) → (f ≡ 1 → ⊥) → (f ≡ 2 → ⊥) → (f ≡ 3 → ⊥) → (f ≡ 4 → ⊥) → (f ≡ 5 → ⊥) → control_ok f w ≡ false
unfolding control_ok
no_form zero w a b c d e = refl
no_form (suc zero) w a b c d e = absurd (a refl)
no_form (suc (suc zero)) w a b c d e = absurd (b refl)
no_form (suc (suc (suc zero))) w a b c d e = absurd (c refl)
no_form (suc (suc (suc (suc zero)))) w a b c d e = absurd (d refl)
no_form (suc (suc (suc (suc (suc zero))))) w a b c d e = absurd (e refl)
no_form (suc (suc (suc (suc (suc (suc f)))))) w a b c d e = refl

pub no_tag : (t i n f w : ℕ) → (t ≡ 1 → ⊥) → (t ≡ 2 → ⊥) → (t ≡ 3 → ⊥) → (t ≡ 4 → ⊥) → (t ≡ 5 → ⊥) → (t ≡ 6 → ⊥) → (t ≡ 9 → ⊥) → tag_ok t i n f w ≡ false
unfolding tag_ok
no_tag zero i n f w a b c d e g h = refl
no_tag (suc zero) i n f w a b c d e g h = absurd (a refl)
no_tag (suc (suc zero)) i n f w a b c d e g h = absurd (b refl)
no_tag (suc (suc (suc zero))) i n f w a b c d e g h = absurd (c refl)
no_tag (suc (suc (suc (suc zero)))) i n f w a b c d e g h = absurd (d refl)
no_tag (suc (suc (suc (suc (suc zero))))) i n f w a b c d e g h = absurd (e refl)
no_tag (suc (suc (suc (suc (suc (suc zero)))))) i n f w a b c d e g h = absurd (g refl)
no_tag (suc (suc (suc (suc (suc (suc (suc zero))))))) i n f w a b c d e g h = refl
no_tag (suc (suc (suc (suc (suc (suc (suc (suc zero)))))))) i n f w a b c d e g h = refl
no_tag (suc (suc (suc (suc (suc (suc (suc (suc (suc zero))))))))) i n f w a b c d e g h = absurd (h refl)
no_tag (suc (suc (suc (suc (suc (suc (suc (suc (suc (suc t)))))))))) i n f w a b c d e g h = refl

-- a tag that is not final
pub not_final : (t e : ℕ) → (t ≡ 4 → ⊥) → (t ≡ 5 → ⊥) → (t ≡ 6 → ⊥) → entry_ok t e ≡ true
unfolding entry_ok
not_final zero e a b c = refl
not_final (suc zero) e a b c = refl
not_final (suc (suc zero)) e a b c = refl
not_final (suc (suc (suc zero))) e a b c = refl
not_final (suc (suc (suc (suc zero)))) e a b c = absurd (a refl)
not_final (suc (suc (suc (suc (suc zero))))) e a b c = absurd (b refl)
not_final (suc (suc (suc (suc (suc (suc zero)))))) e a b c = absurd (c refl)
not_final (suc (suc (suc (suc (suc (suc (suc t))))))) e a b c = refl
