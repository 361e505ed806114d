use Rattle.spec_machine.specs.Program.{Ref}
use Rattle.spec_machine.specs.Machine.{exec}
use Rattle.run_rules.proofs.Steps.{rebased, within_yes}
use mathlib.Core.List.{◌∷◌}
use native.Mathlib.Omega.{arith}
use Rattle.spec_image.specs.Decode.{ref_of}
use Rattle.state_words.specs.Meaning.{control_is}
use Rattle.run_rules.proofs.assign.Goals as goal

pub returns : goal.returns
unfolding control_is ref_of
returns c s α f η fr K A R e t x w = rebased s _ _ _ _ R _ α f _ K A (within_yes (exec Ref.nop) α f η K A (omega (arith, t.callers, c.requires.0.1)) (omega (arith, t.frames, t.under, c.requires.0.2)))
    (c.take_off.ensures s α f _ fr K A R (c.set_variable.ensures f η (fr ∷ K) A (R α) e t.callers x w) t)
