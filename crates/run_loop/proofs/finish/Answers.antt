use mathlib.Core.Path.{refl}
use mir.Syntax.{w32}
use mir.ValLaws.{to_z-of_z}
use Rattle.spec_machine.specs.Machine as machine
use Rattle.run_loop.proofs.Ending.{value_emptied, returned_emptied, value_rests, returned_rests, ends_step, ends_returned, ends_value}
use Rattle.run_loop.proofs.finish.Goals as goal

pub returns-then-steps-allowed : goal.returns-then-steps-allowed
returns-then-steps-allowed c P α R n cl = rw (to_z-of_z w32 c.signed.result (record { sfits = c.signed.type_inv }), c.signed.ensures)
    (ends_step P c.args.allowed c.args.steps _ _ machine.Rule.value c.if-steps-allowed.true refl refl
    (ends_value P c.args.allowed _ _ _ R (c.put_rest.ensures _ R (value_emptied α _ _ R n cl) (value_rests _))))

pub returns : goal.returns
returns c P α R n cl = ends_returned P c.args.allowed _ α _ _ R c.if-steps-allowed.false (c.put_rest-2.ensures _ R (returned_emptied α _ _ R cl) (returned_rests α _))
