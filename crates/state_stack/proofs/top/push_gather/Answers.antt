use Rattle.spec_image.proofs.Frames.{push_frame}
use mathlib.Core.Path.{refl, ◌∙◌}
use mathlib.Core.List.{[], ◌∷◌}
use Prim.Native.Nat.{◌-◌, ◌≤◌}
use lib.ListN.{replicate}
use native.Mathlib.Omega.{arith}
use borrow.Author.Rules.{rules}
use Rattle.state_words.specs.Meaning.{frame_at}
use Rattle.records.specs.Fields.{size_at}
use Rattle.spec_machine.specs.Machine.{gather}
use Rattle.state_stack.proofs.Waits.{stored_none, store_more, store_done}
use Rattle.state_stack.proofs.top.push_gather.Goals as goal

pub loop-j-init : goal.loop-j-init
loop-j-init c = (search rules, λ f η h K A R e few n d lo hi. stored_none (size_at _) _ _ f η h K A R _ _ d lo hi e)

pub loop-j-preserved : goal.loop-j-preserved
loop-j-preserved c = let l = c.loop-j in (
  omega (arith, l.invariant.0, c.prior-c.ensures),
  λ f η h K A R e few n d lo hi.
      store_more _ _ _ f η h K A R _ _ _ _ _ _ _ few n (search rules) refl refl c.prior-c.ensures (l.invariant.1 f η h K A R e few n d lo hi),
)

pub returns : goal.returns
unfolding frame_at
returns c = let l = c.loop-j in
    let q : c.args.k - 1 ≤ 7 = omega arith in (
      l.invariant.0,
      λ f η h e ns K A R held few n words kids.
          store_done _ _ _ f η h K A R _ _ _ e ns (omega arith) (l.invariant.1 f η h K A R
          (c.put_frame.ensures ∙ rw held (push_frame f η K A R _ _ few n refl (gather h [] (replicate (c.args.k - 1) 0)) (c.args.kind ∷ c.args.x ∷ 0 ∷ (c.args.k - 1) ∷ []) (search rules) (omega arith) (words _ q)))
          few n refl (search rules) (search rules)) kids,
    )
