-- The part that the code takes is the definition's, and one step of a walk over the parts.
use Rattle.std.specs.Prelude.{Some, Option, None}
use mathlib.Core.Path.{◌≡◌, refl, ap, ◌∙◌}
use mathlib.Core.List.{List}
use Prim.Native.Nat.{ℕ, zero, suc, ◌+◌, ◌*◌, ◌-◌, ◌≤◌, ◌<◌}
use native.Mathlib.Omega.{arith}
use native.Mathlib.Numerals.{add-one}
use lib.ListN.{get_or, take, drop, length, length-take, length-drop}
use lib.Seq.{get_or-take, get_or-drop}
use Rattle.records.specs.Fields.{functions, count_of}
use Rattle.records.specs.Parts.{sum_of, start_of, part_of, Laid}
use Rattle.records.specs.Search.{At, or_else, first_in}
use Rattle.records.specs.declared.Found.{Found}

pub start_first : (s : List ℕ) → start_of s 0 ≡ 1 + functions s
unfolding start_of sum_of
start_first s = omega arith

pub start_on : (s : List ℕ) (f : ℕ) → start_of s (f + 1) ≡ start_of s f + count_of s f
unfolding start_of sum_of
start_on s f = rw (add-one f) (omega arith)

pub sum_on : (s : List ℕ) (f : ℕ) → sum_of s (f + 1) ≡ sum_of s f + count_of s f
unfolding sum_of
sum_on s f = rw (add-one f)

pub part_length : (s : List ℕ) (f : ℕ) → 12 * (start_of s f + count_of s f) ≤ length s → length (part_of s f) ≡ 12 * count_of s f
unfolding part_of
part_length s f h = simp (length-take, length-drop) (omega arith)

-- a byte of the part is a byte of the file
pub part-byte : (s : List ℕ) (f i : ℕ) → i < 12 * count_of s f → get_or (part_of s f) i 0 ≡ get_or s (12 * start_of s f + i) 0
unfolding part_of
part-byte s f i h = rw (get_or-take, get_or-drop)

-- what a loop's start and count say of the part
module _ (s : List ℕ) (f : ℕ) {start n : ℕ} (a : start ≡ start_of s f) (b : n ≡ count_of s f) where
  pub part_taken : take (12 * (start + n) - 12 * start) (drop (12 * start) s) ≡ part_of s f
  unfolding part_of
  part_taken =
      let e : 12 * (start + n) - 12 * start ≡ 12 * n = omega arith in
      ap (λ (k : ℕ). take k (drop (12 * start) s)) e ∙ rw (a, b)

  pub part_fits_lem : Laid s → f < functions s → 12 * (start + n) ≤ length s
  part_fits_lem h l = rw (a, b) (h.fits f l)

  pub start_next : start + n ≡ start_of s (f + 1)
  start_next = rw (start_on s f, a, b)

scan_step : (t : ℕ → Option Found) (F f : ℕ) → f < F → first_in t (F - f) f ≡ or_else (t f) (first_in t (F - (f + 1)) (f + 1))
unfolding first_in
scan_step t F f h =
    let e : F - f ≡ suc (F - (f + 1)) = omega arith in
    ap (λ (k : ℕ). first_in t k f) e ∙ ap (λ (k : ℕ). or_else (t f) (first_in t (F - (f + 1)) k)) (one f)
  where
    one : (f : ℕ) → suc f ≡ f + 1
    one f = omega arith

pub scan_found : (t : ℕ → Option Found) (F f i x : ℕ) → f < F → t f ≡ At i x → first_in t (F - f) f ≡ At i x
unfolding or_else
scan_found t F f i x h e = scan_step t F f h ∙ rw e

pub scan_on : (t : ℕ → Option Found) (F f : ℕ) → f < F → t f ≡ None → first_in t (F - f) f ≡ first_in t (F - (f + 1)) (f + 1)
unfolding or_else
scan_on t F f h e = scan_step t F f h ∙ rw e

pub scan-end : (t : ℕ → Option Found) (F f : ℕ) → F - f ≡ 0 → first_in t (F - f) f ≡ None
unfolding first_in
scan-end t F f e = rw e

-- where nothing is found no search of the first m from f on finds anything
pub none_in : (t : ℕ → Option Found) (m f : ℕ) → first_in t m f ≡ None → (k : ℕ) → f ≤ k → k < f + m → t k ≡ None
unfolding first_in or_else
none_in t zero f e k p q = absurd (omega arith)
none_in t (suc m) f e k p q = go (t f) refl e (λ r. none_in t m (suc f) r k)
  where
    pick_one : (r : suc f ≤ k → k < suc f + m → t k ≡ None) → t f ≡ None → t k ≡ None
    pick_one r z = near (k - f) refl r z
      where
        near : (d : ℕ) → k - f ≡ d → (suc f ≤ k → k < suc f + m → t k ≡ None) → t f ≡ None → t k ≡ None
        near zero d r z = let e : k ≡ f = omega arith in rw e z
        near (suc d) g r z = r (omega arith) (omega arith)

    go : (a : Option Found) → t f ≡ a → or_else a (first_in t m (suc f)) ≡ None → (first_in t m (suc f) ≡ None → suc f ≤ k → k < suc f + m → t k ≡ None) → t k ≡ None
    go (Some found) z g r = let u : ◌≡◌ {A = ℕ} 0 1 = cc in absurd (omega arith)
    go None z g r = pick_one (r g) z
