-- The flow of values through the if and the seq of a while, from the flow through its condition and its body.
use Rattle.std.specs.Prelude.{Some, Option, None}
use mathlib.Core.Path.{◌≡◌, refl, ◌∙◌}
use mathlib.Core.Bool.{Bool, false, ◌&&◌, ◌||◌, and-true, and-false, or-false}
use mathlib.Core.List.{List}
use Prim.Native.Nat.{ℕ, ◌-◌, ◌<◌}
use Rattle.varset.specs.Sets.{Set, has, both}
use Rattle.records.specs.Fields.{kind_at, size_at}
use Rattle.records.specs.Search.{At, or_else}
use Rattle.records.specs.declared.Found.{Found}
use Rattle.spec_language.specs.Statements.{Read, Statement, Nop, Seq, If, prior, last, reads_of, statement_at}
use Rattle.spec_language.specs.Flow.{leaves, missing, lacks, returns}
use Rattle.spec_language.proofs.Trees.{statement_while}
use Rattle.spec_machine.specs.File.{unrolled, looped}
use Rattle.records.specs.Search.{clear}
use Rattle.check_summary.specs.declared.Flowed.{Flowed}
use Rattle.check_summary.specs.Flowed.{FlowedIs}

-- two searches are clear together
clear_both : (a b : Option Found) → clear (or_else a b) ≡ clear a && clear b
unfolding or_else
clear_both (Some found) b = refl
clear_both None b = refl

-- one statement after another
goes_seq : (s t : Statement) (d : Set) (a b r : Flowed) → FlowedIs s d a → FlowedIs t (has a.left.0) b
    → r.ok ≡ a.ok && b.ok → r.left ≡ b.left → FlowedIs (Seq s t) d r
unfolding lacks leaves
goes_seq s t d a b r g h e l =
    record {
      ok = e ∙ rw (clear_both (lacks s d) (lacks t (leaves s d)), g.ok, h.ok, g.left);
      left = rw l (h.left ∙ rw g.left);
    }

-- a statement under a condition
goes_if : (e : List Read) (s : Statement) (d : Set) (held : Bool) (a r : Flowed) → held ≡ clear (missing e d) → FlowedIs s d a
    → r.ok ≡ held && a.ok → has r.left.0 ≡ both (has a.left.0) d → FlowedIs (If e s Nop) d r
unfolding lacks leaves
goes_if e s d held a r c g q l =
    record {
      ok = q ∙ rw (clear_both (missing e d) (or_else (lacks s d) None), clear_both (lacks s d) None, and-true, c, g.ok);
      left = l ∙ rw g.left;
    }

-- ---- a while of a part
module _ (t : List ℕ) (w : ℕ) (k : kind_at t w ≡ 11) (l : 0 < w) where
  seq_is : looped (statement_at t w) ≡ Seq (statement_at t (last w)) (statement_at t w)
  unfolding looped
  seq_is = rw (statement_while t w k l)

  if_is : unrolled (statement_at t w) ≡ If (reads_of t (prior t (last w))) (looped (statement_at t w)) Nop
  unfolding looped unrolled
  if_is = rw (statement_while t w k l)

  pub loop_seq : {d : Set} {a b r : Flowed} → FlowedIs (statement_at t (w - 1)) d a → FlowedIs (statement_at t w) (has a.left.0) b
      → r.ok ≡ a.ok && b.ok → r.left ≡ b.left → FlowedIs (looped (statement_at t w)) d r
  unfolding last
  loop_seq {d} {a} {b} {r} g h e q = rw seq_is (goes_seq (statement_at t (w - 1)) (statement_at t w) d a b r g h e q)

  pub loop_if : {d : Set} {c : ℕ} {held : Bool} {a r : Flowed} → c ≡ w - 1 - size_at t (w - 1) → held ≡ clear (missing (reads_of t c) d) → FlowedIs (looped (statement_at t w)) d a
      → r.ok ≡ held && a.ok → has r.left.0 ≡ both (has a.left.0) d → FlowedIs (unrolled (statement_at t w)) d r
  unfolding last prior
  loop_if {d} {c} {held} {a} {r} o m g e q = rw (if_is, ← o) (goes_if (reads_of t c) (looped (statement_at t w)) d held a r m g e q)

  -- the seq returns where the body does, the if never
  pub seq_returns : returns (looped (statement_at t w)) ≡ returns (statement_at t (w - 1))
  unfolding looped returns last
  seq_returns = rw (statement_while t w k l) (or-false _)

  pub if_returns : returns (unrolled (statement_at t w)) ≡ false
  unfolding unrolled returns last
  if_returns = rw (statement_while t w k l) (and-false (returns (statement_at t (last w)) || false))
