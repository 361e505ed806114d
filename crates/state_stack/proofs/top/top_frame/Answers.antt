use mathlib.Core.Path.{◌∙◌}
use Rattle.state_stack.specs.Shows.{Shows}
use Rattle.state_stack.proofs.Views.{seen, said, is_operator, is_call, last_view}
use Rattle.state_stack.proofs.top.top_frame.Goals as goal

pub returns-in-1 : goal.returns-in-1
unfolding Shows
returns-in-1 c f η fr K A R e few n = is_operator _ _ fr (seen _ _ f η fr K A R e few n) c.in-1.is

pub returns-in-2 : goal.returns-in-2
unfolding Shows
returns-in-2 c f η fr K A R e few n = is_call _ _ fr (seen _ _ f η fr K A R e few n) c.in-2.is

pub returns-in-3 : goal.returns-in-3
unfolding Shows
returns-in-3 c f η fr K A R e few n = let s = seen _ _ f η fr K A R e few n in said _ _ fr s 3 c.in-3.is ∙ rw s.first

pub returns-in-4 : goal.returns-in-4
unfolding Shows
returns-in-4 c f η fr K A R e few n = let s = seen _ _ f η fr K A R e few n in said _ _ fr s 4 c.in-4.is ∙ rw s.first

pub returns-in-5 : goal.returns-in-5
unfolding Shows
returns-in-5 c f η fr K A R e few n = let s = seen _ _ f η fr K A R e few n in said _ _ fr s 5 c.in-5.is ∙ rw s.first

pub returns-in-6 : goal.returns-in-6
unfolding Shows
returns-in-6 c f η fr K A R e few n = let s = seen _ _ f η fr K A R e few n in said _ _ fr s 6 c.in-6.is ∙ rw (s.first, s.second)

pub returns-in-7 : goal.returns-in-7
unfolding Shows
returns-in-7 c f η fr K A R e few n = said _ _ fr (seen _ _ f η fr K A R e few n) 7 c.in-7.is

pub returns-in-8 : goal.returns-in-8
unfolding Shows
returns-in-8 c f η fr K A R e few n = said _ _ fr (seen _ _ f η fr K A R e few n) 8 c.in-8.is

pub returns-in_default : goal.returns-in_default
unfolding Shows
returns-in_default c f η fr K A R e few n = let s = seen _ _ f η fr K A R e few n in
    let r = c.in_default.in_default-own.rest in
    last_view fr (λ k. r.0.0.0.0.0.0.0.1 (s.kind ∙ k)) (λ k. r.0.0.0.0.0.0.1 (s.kind ∙ k)) (λ k. r.0.0.0.0.0.1 (s.kind ∙ k)) (λ k. r.0.0.0.0.1 (s.kind ∙ k)) (λ k. r.0.0.0.1 (s.kind ∙ k)) (λ k. r.0.0.1 (s.kind ∙ k)) (λ k. r.0.1 (s.kind ∙ k)) (λ k. r.1 (s.kind ∙ k))
