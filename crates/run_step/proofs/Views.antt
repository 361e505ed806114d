-- The top frame, by its view.
use mathlib.Core.Path.{◌≡◌}
use Prim.Native.Nat.{ℕ}
use Rattle.spec_machine.specs.Program.{op, fn}
use Rattle.spec_machine.specs.Machine.{Frame, and, wait, branch, check}
use Rattle.spec_image.specs.Decode.{ref_of}
use Rattle.state_stack.specs.declared.top.Top.{Top}
use Rattle.state_stack.specs.declared.top.Top.TheVariants.{Operator, Call, And, Wait, Store, Branch, Leave, Assert, Discard}
use Rattle.state_stack.specs.Shows.{Gathers, Shows}

module _ (top : Top) (fr : Frame) (h : Shows top fr) where
  pub is_operator : (o y z : ℕ) → top ≡ Operator o y z → Gathers fr (op o) y z
  unfolding Shows
  is_operator o y z e = rw e at h

  pub is_call : (g y z : ℕ) → top ≡ Call g y z → Gathers fr (fn g) y z
  unfolding Shows
  is_call g y z e = rw e at h

  pub is_and : (n : ℕ) → top ≡ And n → fr ≡ and n
  unfolding Shows
  is_and n e = rw e at h

  pub is_wait : (r : ℕ) → top ≡ Wait r → fr ≡ wait (ref_of r)
  unfolding Shows
  is_wait r e = rw e at h

  pub is_store : (x : ℕ) → top ≡ Store x → fr ≡ Frame.store x
  unfolding Shows
  is_store x e = rw e at h

  pub is_branch : (a b : ℕ) → top ≡ Branch a b → fr ≡ branch (ref_of a) (ref_of b)
  unfolding Shows
  is_branch a b e = rw e at h

  pub is_leave : top ≡ Leave → fr ≡ Frame.leave
  unfolding Shows
  is_leave e = rw e at h

  pub is_assert : top ≡ Assert → fr ≡ check
  unfolding Shows
  is_assert e = rw e at h

  pub is_discard : top ≡ Discard → fr ≡ Frame.discard
  unfolding Shows
  is_discard e = rw e at h
