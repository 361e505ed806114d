-- What the code's view of the top frame says of it.
use Rattle.std.specs.Prelude.{◌≡◌, List, ℕ, length}
use Rattle.spec_image.specs.Decode.{ref_of}
use Rattle.spec_machine.specs.Values.{Value}
use Rattle.spec_machine.specs.Program.{Operation, op, fn}
use Rattle.spec_machine.specs.Machine.{Frame, gather, and, wait, branch, check}
use Rattle.state_stack.specs.declared.top.Top.{Top}
use Rattle.state_stack.specs.declared.top.Top.TheVariants.{Operator, Call, And, Wait, Store, Branch, Leave, Assert, Discard}

-- a frame of what gathers, with so many values and so many nodes waiting
pub record Gathers (fr : Frame) (h : Operation) (y z : ℕ) : Type 0 where
  pub values : List Value
  pub nodes : List ℕ
  pub is : fr ≡ gather h values nodes
  pub done : y ≡ length values
  pub waits : z ≡ length nodes

-- the frame that the view shows; by frame
unfoldable pub Shows : Top → Frame → Type 0
Shows (Operator o y z) fr = Gathers fr (op o) y z
Shows (Call g y z) fr = Gathers fr (fn g) y z
Shows (And n) fr = fr ≡ and n
Shows (Wait r) fr = fr ≡ wait (ref_of r)
Shows (Store x) fr = fr ≡ Frame.store x
Shows (Branch a b) fr = fr ≡ branch (ref_of a) (ref_of b)
Shows Leave fr = fr ≡ Frame.leave
Shows Assert fr = fr ≡ check
Shows Discard fr = fr ≡ Frame.discard
