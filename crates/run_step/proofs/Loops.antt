-- The if that a while equals, and the seq in it.
use mathlib.Core.Path.{◌≡◌}
use mathlib.Core.List.{List}
use Prim.Native.Nat.{ℕ, ◌-◌, ◌<◌}
use Rattle.records.specs.Fields.{kind_at, size_at}
use Rattle.spec_machine.specs.Program.{Ref, node, if_of, seq_of, StmtForm}
use Rattle.spec_machine.specs.File.{ref_at, if_form, seq_form, see_at}
use Rattle.run_step.proofs.Forms.{form_while}

module _ (t : List ℕ) (w : ℕ) (p : 0 < w) (k : kind_at t w ≡ 11) where
  pub see_if : see_at t (if_of w) ≡ StmtForm.if (w - 1 - size_at t (w - 1)) (seq_of w) Ref.nop
  unfolding see_at if_form
  see_if = rw (form_while t w p k)

  pub see_seq : see_at t (seq_of w) ≡ StmtForm.seq (ref_at t (w - 1)) (node w)
  unfolding see_at seq_form
  see_seq = rw (form_while t w p k)
