use Rattle.check_pass.proofs.Calls.{left_first, left_next, call_judged}
use Rattle.check_types.proofs.TypeTables.{laid_at}
use mathlib.Core.Path.{◌∙◌}
use native.Mathlib.Omega.{arith}
use Rattle.check_pass.proofs.nodes.Node.call_at.Goals as goal

pub b_at-callee-requires : goal.b_at-callee-requires
b_at-callee-requires c = omega (arith, c.args.self.now.at.part.inside, c.args.self.now.at.below)

pub a_at-requires : goal.a_at-requires
a_at-requires c = omega (arith, c.args.self.now.at.part.inside, c.args.self.now.at.below)

pub loop-j-init : goal.loop-j-init
loop-j-init c = (omega (arith, c.args.self.now.at.below, c.minus-c.ensures), left_first _ _ _ _ _ c.requires (c.wide-arguments.ensures.0 ∙ c.a_at.ensures) c.minus-c.ensures)

pub effect_of-argument-requires : goal.effect_of-argument-requires
effect_of-argument-requires c = c.loop-j.invariant.0

pub param_type-requires : goal.param_type-requires
param_type-requires c = ((laid_at _ _ _ c.args.self.now.at.part.laid (c.args.self.now.at.part.calls _ c.args.self.now.at.below c.requires) c.b_at-callee.ensures).0, omega (arith, c.loop-j.invariant.1.few, c.args.self.now.at.part.arguments _ c.args.self.now.at.below c.requires))

pub size_at-size-requires : goal.size_at-size-requires
size_at-size-requires c = omega (arith, c.loop-j.invariant.0, c.args.self.now.at.part.inside)

pub overflow_add-sum : goal.overflow_add-sum
overflow_add-sum c = omega (arith, c.loop-j.invariant.1.bound, c.size_at-size.ensures.1, c.args.self.now.at.part.arguments _ c.args.self.now.at.below c.requires)

pub loop-j-preserved : goal.loop-j-preserved
loop-j-preserved c = (omega (arith, c.loop-j.invariant.0, c.minus-c-in-loop-j.ensures), left_next _ _ _ _ _ c.requires c.b_at-callee.ensures c.effect_of-argument.ensures.judged c.loop-j-test.true c.loop-j.invariant.1 c.param_type.ensures (omega (arith, c.if-argument-param_type.false)) c.union-all.ensures c.size_at-size.ensures.0 c.size_at-size.ensures.1 c.minus-c-in-loop-j.ensures)

pub result_of-found-requires : goal.result_of-found-requires
result_of-found-requires c = (laid_at _ _ _ c.args.self.now.at.part.laid (c.args.self.now.at.part.calls _ c.args.self.now.at.below c.requires) c.b_at-callee.ensures).0

pub fits-requires : goal.fits-requires
fits-requires c = omega (arith, c.loop-j.invariant.1.bound, c.args.self.now.at.part.arguments _ c.args.self.now.at.below c.requires)

pub returns : goal.returns
returns c = λ l. let g = c.guard.ensures l in rw (g.1, c.plain.ensures) (call_judged _ _ _ _ _ _ c.requires c.b_at-callee.ensures c.result_of-found.ensures (omega arith) c.loop-j.invariant.1 g.0 c.fits.ensures c.empty.ensures)
