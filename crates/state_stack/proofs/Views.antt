-- A frame is what its first words say.
use mathlib.Core.Path.{◌≡◌, refl, sym, ◌∙◌}
use mathlib.Core.List.{List, ◌∷◌, ◌++◌}
use Prim.Native.Nat.{ℕ, ◌+◌, ◌*◌, ◌<◌}
use native.Mathlib.Omega.{arith}
use lib.ListN.{length, get_or}
use Rattle.spec_machine.specs.Values.{Value}
use Rattle.spec_machine.specs.Program.{op, fn}
use Rattle.spec_machine.specs.Machine.{Frame, gather, and, wait, branch, check, Saved}
use Rattle.spec_image.specs.Image.{saved_frames}
use Rattle.spec_image.specs.Core.{core}
use Rattle.spec_image.proofs.Frames.{kind_of, first_of, second_of, nodes_in, told, of_kind, top_kind, top_first, top_second, top_third}
use Rattle.state_stack.specs.Shows.{Gathers}

-- kinds 1 and 2 gather
pub operator_view : (fr : Frame) (x y z : ℕ) → kind_of fr ≡ 1 → x ≡ first_of fr → y ≡ second_of fr → z ≡ length (nodes_in fr) → Gathers fr (op x) y z
operator_view (gather (op o) vs ns) x y z k a b c = record { values = vs; nodes = ns; is = rw a; done = b; waits = c }
operator_view (gather (fn g) vs ns) x y z k a b c = absurd (omega (arith, k))
operator_view (and n) x y z k a b c = absurd (omega (arith, k))
operator_view (wait r) x y z k a b c = absurd (omega (arith, k))
operator_view (Frame.store v) x y z k a b c = absurd (omega (arith, k))
operator_view (branch l r) x y z k a b c = absurd (omega (arith, k))
operator_view Frame.leave x y z k a b c = absurd (omega (arith, k))
operator_view check x y z k a b c = absurd (omega (arith, k))
operator_view Frame.discard x y z k a b c = absurd (omega (arith, k))

pub call_view : (fr : Frame) (x y z : ℕ) → kind_of fr ≡ 2 → x ≡ first_of fr → y ≡ second_of fr → z ≡ length (nodes_in fr) → Gathers fr (fn x) y z
call_view (gather (op o) vs ns) x y z k a b c = absurd (omega (arith, k))
call_view (gather (fn g) vs ns) x y z k a b c = record { values = vs; nodes = ns; is = rw a; done = b; waits = c }
call_view (and n) x y z k a b c = absurd (omega (arith, k))
call_view (wait r) x y z k a b c = absurd (omega (arith, k))
call_view (Frame.store v) x y z k a b c = absurd (omega (arith, k))
call_view (branch l r) x y z k a b c = absurd (omega (arith, k))
call_view Frame.leave x y z k a b c = absurd (omega (arith, k))
call_view check x y z k a b c = absurd (omega (arith, k))
call_view Frame.discard x y z k a b c = absurd (omega (arith, k))

-- what is none of kinds 1 to 8 is discard
pub last_view : (fr : Frame) → (kind_of fr ≡ 1 → ⊥) → (kind_of fr ≡ 2 → ⊥) → (kind_of fr ≡ 3 → ⊥) → (kind_of fr ≡ 4 → ⊥)
    → (kind_of fr ≡ 5 → ⊥) → (kind_of fr ≡ 6 → ⊥) → (kind_of fr ≡ 7 → ⊥) → (kind_of fr ≡ 8 → ⊥) → fr ≡ Frame.discard
last_view (gather (op o) vs ns) a b c d e f g h = absurd (a refl)
last_view (gather (fn v) vs ns) a b c d e f g h = absurd (b refl)
last_view (and n) a b c d e f g h = absurd (c refl)
last_view (wait r) a b c d e f g h = absurd (d refl)
last_view (Frame.store v) a b c d e f g h = absurd (e refl)
last_view (branch l r) a b c d e f g h = absurd (f refl)
last_view Frame.leave a b c d e f g h = absurd (g refl)
last_view check a b c d e f g h = absurd (h refl)
last_view Frame.discard a b c d e f g h = refl

-- the words of the top frame, as they are read
pub record Seen (l : List ℕ) (at : ℕ) (fr : Frame) : Type 0 where
  pub kind : get_or l at 0 ≡ kind_of fr
  pub first : get_or l (at + 1) 0 ≡ first_of fr
  pub second : get_or l (at + 2) 0 ≡ second_of fr
  pub third : get_or l (at + 3) 0 ≡ length (nodes_in fr)

pub seen : (l : List ℕ) (n f : ℕ) (η : List Value) (fr : Frame) (K : List Frame) (A : List Saved) (R : List ℕ)
    → l ≡ core f η (fr ∷ K) A ++ R → length A < 32 → n ≡ length (K ++ saved_frames A) → Seen l (4480 + n * 20) fr
seen l n f η fr K A R e few count =
    record {
      kind = rw e (top_kind f η K A R n (4480 + n * 20) few count refl fr);
      first = rw e (top_first f η K A R n (4480 + n * 20) few count refl fr);
      second = rw e (top_second f η K A R n (4480 + n * 20) few count refl fr);
      third = rw e (top_third f η K A R n (4480 + n * 20) few count refl fr);
    }

module _ (l : List ℕ) (at : ℕ) (fr : Frame) (s : Seen l at fr) where
  -- the frame that a kind says
  pub said : (k : ℕ) → get_or l at 0 ≡ k → fr ≡ get_or (told fr) k Frame.discard
  said k e = of_kind fr k (sym s.kind ∙ e)

  pub is_operator : get_or l at 0 ≡ 1 → Gathers fr (op (get_or l (at + 1) 0)) (get_or l (at + 2) 0) (get_or l (at + 3) 0)
  is_operator e = operator_view fr _ _ _ (sym s.kind ∙ e) s.first s.second s.third

  pub is_call : get_or l at 0 ≡ 2 → Gathers fr (fn (get_or l (at + 1) 0)) (get_or l (at + 2) 0) (get_or l (at + 3) 0)
  is_call e = call_view fr _ _ _ (sym s.kind ∙ e) s.first s.second s.third
