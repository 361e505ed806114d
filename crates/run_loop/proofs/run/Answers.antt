use mir.Syntax.{w32}
use mir.ValLaws.{to_z-of_z}
use Rattle.run_loop.proofs.Tags.{at_main, at_running, at_returned, at_value, at_arith, at_abort, begins, proceeds}
use Rattle.run_loop.proofs.run.Goals as goal

pub begin-requires : goal.begin-requires
begin-requires c = (begins _ _ c.requires.0 c.in-1.is, c.requires.1)

pub proceed-requires : goal.proceed-requires
proceed-requires c = (proceeds _ _ c.requires.0 c.in-2.is, c.requires.1)

pub returns-in-1 : goal.returns-in-1
returns-in-1 c s R e fit = at_main _ _ _ _ _ _ R s e fit c.in-1.is (λ α i j. c.begin.ensures α R i j)

pub returns-in-2 : goal.returns-in-2
returns-in-2 c s R e fit = at_running _ _ _ _ _ _ R s e fit c.in-2.is (λ k α f η K A i j. c.proceed.ensures k α f η K A R i j)

pub returns-in-3 : goal.returns-in-3
returns-in-3 c s R e fit = at_returned _ _ _ _ _ _ R s e fit c.in-3.is (λ α k n i j. rw i (c.conclude.ensures _ α R n (rw i at j)))

pub returns-in-4 : goal.returns-in-4
returns-in-4 c s R e fit = rw (to_z-of_z w32 c.signed.result (record { sfits = c.signed.type_inv }), c.signed.ensures) (at_value c.args.file.now c.args.m.now c.requires.0.passed _ R s e c.in-4.is)

pub returns-in-5 : goal.returns-in-5
returns-in-5 c s R e fit = at_arith c.args.file.now c.args.m.now c.requires.0.passed _ R s e c.in-5.is

pub returns-in_default : goal.returns-in_default
returns-in_default c s R e fit = let r = c.in_default.in_default-own.rest in at_abort c.args.file.now c.args.m.now c.requires.0.passed _ R s e fit r.0.0.0.0.1 r.0.0.0.1 r.0.0.1 r.0.1 r.1
