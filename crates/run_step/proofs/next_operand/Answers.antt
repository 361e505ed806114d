use Rattle.spec_machine.specs.Machine.{reach_l}
use Rattle.spec_machine.specs.File.{look_at}
use mathlib.Core.Path.{◌≡◌, refl, ap, ◌∙◌}
use mathlib.Core.List.{◌∷◌}
use native.Mathlib.Omega.{arith}
use Prim.Native.Nat.{ℕ, ◌-◌}
use Rattle.state_words.specs.Meaning.{frame_at}
use Rattle.spec_image.proofs.Operands.{read_node}
use Rattle.run_rules.proofs.Steps.{counted_under}
use Rattle.run_step.proofs.next_operand.Goals as goal

pub reach-requires : goal.reach-requires
unfolding frame_at
reach-requires c = rw c.frame_word-e.ensures c.requires.inside

pub returns : goal.returns
unfolding frame_at
returns c s α f η g vs e ns K A R held t few y z = let u = counted_under t (c.args.h.frames - 1) (omega (arith, c.requires.bounds.1)) in
    let w : c.frame_word-e.result ≡ e = c.frame_word-e.ensures
    ∙ rw held (read_node f η K A (R α) _ _ (omega (arith, t.callers, c.requires.bounds.0.1)) u refl g vs (e ∷ ns) few 0 _ (omega arith) (omega (arith, y))) in
    rw (← (c.reach.ensures ∙ ap (λ (i : ℕ). reach_l i (look_at c.args.part.now i)) w))
    (c.supply.ensures s α f η g vs e ns K A R held t few y (omega arith))
