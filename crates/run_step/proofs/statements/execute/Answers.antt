use native.Mathlib.Omega.{arith}
use Rattle.spec_image.specs.Decode.{ref_of}
use Rattle.state_words.proofs.Refs.{ref_node, ref_if, ref_seq}
use Rattle.run_step.proofs.Executions.{ref_nop, executes_node, executes_if, executes_seq, nop_done, node_done, if_done, seq_done}
use Rattle.run_step.proofs.statements.execute.Goals as goal

pub resume-requires : goal.resume-requires
resume-requires c = (c.requires.bounds.0, c.requires.waits (ref_nop _ c.if-r-eq0.true))

pub returns-then-r-eq0 : goal.returns-then-r-eq0
returns-then-r-eq0 c s α f η K A R e t pass part fit = nop_done _ _ _ _ _ R α f η K A _ _ (ref_nop _ c.if-r-eq0.true) e t fit (λ w L i j. c.resume.ensures s α f η w L A R i j)

pub execute_node-requires : goal.execute_node-requires
execute_node-requires c = record { bounds = (executes_node c.args.part.now c.args.m.now c.args.h (ref_of c.args.r) c.requires.bounds.0 (ref_node c.args.r (omega (arith, c.if-r-eq0.false)) c.in-0.is) c.requires.bounds.1).0; variable = (executes_node c.args.part.now c.args.m.now c.args.h (ref_of c.args.r) c.requires.bounds.0 (ref_node c.args.r (omega (arith, c.if-r-eq0.false)) c.in-0.is) c.requires.bounds.1).1 }

pub execute_loop-requires : goal.execute_loop-requires
execute_loop-requires c = (executes_if c.args.part.now c.args.m.now c.args.h (ref_of c.args.r) c.requires.bounds.0 (ref_if c.args.r (omega (arith, c.if-r-eq0.false)) c.in-1.is) c.requires.bounds.1).0

pub execute_loop-requires-in_default : goal.execute_loop-requires-in_default
execute_loop-requires-in_default c = (executes_seq c.args.part.now c.args.m.now c.args.h (ref_of c.args.r) c.requires.bounds.0 (ref_seq c.args.r (omega (arith, c.if-r-eq0.false)) c.in_default.in_default-own.rest.0.1 c.in_default.in_default-own.rest.1) c.requires.bounds.1).0

pub returns-in-0 : goal.returns-in-0
returns-in-0 c s α f η K A R e t pass part fit = node_done _ _ _ _ R α f η K A _ _ (ref_node c.args.r (omega (arith, c.if-r-eq0.false)) c.in-0.is) fit (λ i. c.execute_node.ensures s α f η K A R e t pass part i)

pub returns-in-1 : goal.returns-in-1
returns-in-1 c s α f η K A R e t pass part fit = let d = ref_if c.args.r (omega (arith, c.if-r-eq0.false)) c.in-1.is in if_done _ _ _ _ R α f η K A _ _ d (c.execute_loop.ensures s α f η K A R e t part (executes_if c.args.part.now c.args.m.now c.args.h (ref_of c.args.r) c.requires.bounds.0 d c.requires.bounds.1).1)

pub returns-in_default : goal.returns-in_default
returns-in_default c s α f η K A R e t pass part fit = let d = ref_seq c.args.r (omega (arith, c.if-r-eq0.false)) c.in_default.in_default-own.rest.0.1 c.in_default.in_default-own.rest.1 in seq_done _ _ _ _ R α f η K A _ _ d (c.execute_loop-in_default.ensures s α f η K A R e t part (executes_seq c.args.part.now c.args.m.now c.args.h (ref_of c.args.r) c.requires.bounds.0 d c.requires.bounds.1).1)
