-- Blocks that pass a test are the words of a stack whose entries are good, and the words of such a stack pass.
use mathlib.Core.Path.{◌≡◌, refl}
use mathlib.Core.Bool.{Bool, true}
use mathlib.Core.List.{List, [], ◌∷◌, ◌++◌, append_assoc}
use Prim.Native.Nat.{ℕ, zero, suc, ◌+◌, ◌*◌, ◌-◌, ◌≤◌}
use native.Mathlib.Nat.{zero-mul, suc-mul}
use native.Mathlib.Omega.{arith}
use lib.ListN.{length, take, drop, replicate, length-drop}
use lib.Seq.{take-add, drop-drop, length-take-le}
use Rattle.words.specs.Stacks.{words, region, block_at, entries, Every, Wide}
use Rattle.words.proofs.Tests.{both}
use Rattle.words.proofs.Entries.{block_over}
use Rattle.fit_image.specs.MemoryTest.{passing}

module _ {E : Type 0} (w : ℕ) (enc : E → List ℕ) (ok : List ℕ → Bool) where
  pub passing_sound : (dec : List ℕ → E) (P : E → Type 0) → ((b : List ℕ) → length b ≡ w → ok b ≡ true → (enc (dec b) ≡ b) × P (dec b))
      → (l : List ℕ) (a n : ℕ) → a + n * w ≤ length l → passing w ok l a n ≡ true
      → (words enc (entries w dec l a n) ≡ take (n * w) (drop a l)) × Every P (entries w dec l a n)
  passing_sound dec P h l a zero q e = (rw zero-mul, tt)
  passing_sound dec P h l a (suc n) q e =
      let b = block_at w l a n in
      let z : suc n * w ≡ n * w + w = suc-mul n w in
      let k : length b ≡ w = length-take-le w (drop (a + n * w) l) (simp length-drop (omega arith)) in
      let t = both (ok b) (passing w ok l a n) e in
      let g = h b k t.0 in
      let i = passing_sound dec P h l a n (omega arith) t.1 in
      (rw (i.0, g.0, suc-mul, take-add (n * w) w (drop a l), drop-drop (n * w) a l), (g.1, i.1))

  pub passing_words : (H X : List ℕ) (a : ℕ) (K : List E) → length H ≡ a → Every (Wide w enc) K → Every (λ f. ok (enc f) ≡ true) K
      → passing w ok (H ++ (words enc K ++ X)) a (length K) ≡ true
  passing_words H X a [] ha h c = refl
  passing_words H X a (f ∷ K) ha h c =
      let b : passing w ok (H ++ ((words enc K ++ enc f) ++ X)) a (length K) ≡ true
      = rw (append_assoc (words enc K) (enc f) X) (passing_words H (enc f ++ X) a K ha h.1 c.1) in
      rw (block_over w enc H X a f K ha h, c.0, b)

  pub passing_region : (H R : List ℕ) (m a : ℕ) (K : List E) → length H ≡ a → Every (Wide w enc) K → Every (λ f. ok (enc f) ≡ true) K
      → passing w ok (H ++ (region w enc m K ++ R)) a (length K) ≡ true
  passing_region H R m a K ha h c =
      rw (append_assoc (words enc K) (replicate ((m - length K) * w) 0) R) (passing_words H (replicate ((m - length K) * w) 0 ++ R) a K ha h c)
