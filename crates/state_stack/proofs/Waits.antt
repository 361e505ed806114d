-- The nodes that wait, stored from the last to the first.
use mathlib.Core.Path.{◌≡◌, refl, sym, ap, ◌∙◌}
use mathlib.Core.List.{List, [], ◌∷◌, ◌++◌, append-nil}
use Prim.Native.Nat.{ℕ, zero, suc, ◌+◌, ◌*◌, ◌-◌, ◌≤◌, ◌<◌}
use native.Mathlib.Omega.{arith}
use lib.ListN.{length, get_or, drop, set, replicate, length-append, length-replicate}
use Rattle.records.specs.Children.{walk}
use Rattle.spec_machine.specs.File.{backwards}
use Rattle.spec_machine.specs.Values.{Value}
use Rattle.spec_machine.specs.Program.{Operation}
use Rattle.spec_machine.specs.Machine.{Frame, gather, Saved}
use Rattle.spec_image.specs.Image.{saved_frames}
use Rattle.spec_image.specs.Core.{core}
use Rattle.spec_image.proofs.Operands.{store_node}

-- the last of the nodes that are not stored yet is stored
set_last : (j c : ℕ) (done : List ℕ) → set (replicate (suc j) 0 ++ done) j c ≡ replicate j 0 ++ (c ∷ done)
set_last zero c done = refl
set_last (suc j) c done = ap (λ (l : List ℕ). 0 ∷ l) (set_last j c done)

-- what is stored so far: j nodes are not yet, of which the last is at c; then the one at c is the first
pub record Stored (size : ℕ → ℕ) (k last : ℕ) (f : ℕ) (η : List Value) (h : Operation) (K : List Frame) (A : List Saved) (R m : List ℕ) (j c : ℕ) : Type 0 where
  pub done : List ℕ
  pub held : m ≡ core f η (gather h [] (replicate j 0 ++ done) ∷ K) A ++ R
  pub rest : backwards (walk size k last) [] ≡ backwards (walk size (suc j) c) done
  pub few : j + length done ≤ 7

module _ (size : ℕ → ℕ) (k last f : ℕ) (η : List Value) (h : Operation) (K : List Frame) (A : List Saved) (R : List ℕ) where
  -- nothing
  pub stored_none : (m : List ℕ) (j : ℕ) → j ≡ k - 1 → 1 ≤ k → k ≤ 8 → m ≡ core f η (gather h [] (replicate j 0) ∷ K) A ++ R → Stored size k last f η h K A R m j last
  stored_none m j d lo hi e =
      let i : k ≡ suc j = omega arith in
      record { done = []; held = rw (append-nil {A = ℕ} (replicate j 0)) e; rest = rw i; few = omega arith }

  -- one more
  pub store_more : (m : List ℕ) (n j c i b d : ℕ) → length A < 32 → n ≡ length (K ++ saved_frames A) → 0 < j → i ≡ j - 1 → b ≡ 4480 + n * 20 + (4 + i * 2) → d ≡ c - size c
      → Stored size k last f η h K A R m j c → Stored size k last f η h K A R (set m b c) i d
  unfolding walk backwards
  store_more m n j c i b d few count pos down place next s =
      let e : j ≡ suc i = omega arith in
      let l : length (replicate {A = ℕ} (suc i) 0 ++ s.done) ≡ suc i + length s.done = length-append (replicate {A = ℕ} (suc i) 0) s.done ∙ rw (length-replicate {A = ℕ} (suc i) 0) in
      let q = s.few in
      let t : set (core f η (gather h [] (replicate (suc i) 0 ++ s.done) ∷ K) A ++ R) b c ≡ core f η (gather h [] (set (replicate (suc i) 0 ++ s.done) i c) ∷ K) A ++ R
      = store_node f η K A R n (4480 + n * 20) few count refl h (replicate (suc i) 0 ++ s.done) i c b (omega arith) (omega arith) place in
      record {
        done = c ∷ s.done;
        held = rw (s.held, e, t, set_last i c s.done);
        rest = s.rest ∙ rw (e, next);
        few = omega arith;
      }

  -- all
  pub store_done : (m : List ℕ) (j c e : ℕ) (ns : List ℕ) → j ≡ 0 → Stored size k last f η h K A R m j c → backwards (walk size k last) [] ≡ e ∷ ns
      → (c ≡ e) × (m ≡ core f η (gather h [] ns ∷ K) A ++ R)
  unfolding walk backwards
  store_done m j c e ns z s w =
      let t : c ∷ s.done ≡ e ∷ ns = sym (s.rest ∙ rw z) ∙ w in
      let a : c ≡ e = ap (λ (l : List ℕ). get_or l 0 0) t in
      let b : s.done ≡ ns = ap (λ (l : List ℕ). drop 1 l) t in
      (a, s.held ∙ rw (z, b))
