use mathlib.Core.Path.{refl}
use Rattle.spec_language.specs.Known.{names_variable}
use Rattle.spec_language.specs.Scopes.{uses_variable}
use Rattle.check_pass.proofs.Judging.{scope_judged}
use Rattle.check_pass.proofs.nodes.Node.scope_at.Goals as goal

pub in_scope-e-requires : goal.in_scope-e-requires
unfolding names_variable uses_variable
in_scope-e-requires c = rw c.b_at-x.ensures (c.args.self.now.at.part.named _ c.args.self.now.at.below (rw c.requires refl))

pub returns : goal.returns
returns c = λ l. let g = c.guard.ensures l in rw g.1 (scope_judged _ _ _ _ _ c.minus-b.ensures c.size_at.ensures.0 _ c.requires c.b_at-x.ensures c.fits-fit.ensures c.effect_of-inner.ensures.judged g.0 c.in_scope-e.ensures (c.args.self.now.at.own c.requires) (rw g.1 at l))
