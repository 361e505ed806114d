-- A statement by its reference: how values flow through it, and whether it returns.
use mathlib.Core.Path.{◌≡◌, refl}
use mathlib.Core.Bool.{true, false}
use mathlib.Core.List.{List}
use Prim.Native.Nat.{ℕ, ◌-◌, ◌<◌}
use Rattle.varset.specs.Sets.{Set, has}
use Rattle.spec_language.specs.Statements.{Nop, statement_at}
use Rattle.spec_language.specs.Flow.{leaves, lacks, returns}
use Rattle.spec_machine.specs.File.{unrolled, looped, stmt_at, program_of}
use Rattle.spec_machine.specs.Test.{stmt_in, ok}
use Rattle.state_words.specs.declared.Ref.{Ref}
use Rattle.state_words.specs.declared.Ref.TheVariants as ref
use Rattle.state_words.specs.Meaning.{ref_is}
use Rattle.fit_nodes.specs.Part.{IsPart}
use Rattle.fit_nodes.proofs.AcceptedParts.{loop-above}
use Rattle.fit_nodes.proofs.Refs.{if-within, seq_within}
use Rattle.check_summary.specs.declared.Flowed.{Flowed}
use Rattle.check_summary.specs.Flowed.{FlowedIs}
use Rattle.fit_flow.proofs.Trees.{seq_returns, if_returns}

-- what is asked of the way through a statement begun with d
abbrev Answered : List ℕ → ℕ → Ref → Set → Flowed → Type 0
Answered s f r d b = (b.ok ≡ ok (program_of s) f (ref_is r) d) × (has b.left.0 ≡ leaves ((program_of s).stmt f (ref_is r)) d)

module _ {s : List ℕ} {f : ℕ} {t : List ℕ} {n : ℕ} (p : IsPart s f t n) {r : Ref} where
  -- ---- the nop
  module _ (e : r ≡ ref.Nop) where
    nop_tree : (program_of s).stmt f (ref_is r) ≡ Nop
    unfolding program_of ref_is stmt_at
    nop_tree = rw e

    pub nop_flows : (d : Set) → (true ≡ ok (program_of s) f (ref_is r) d) × (d ≡ leaves ((program_of s).stmt f (ref_is r)) d)
    unfolding lacks leaves
    nop_flows d = rw nop_tree (refl, refl)

    pub nop_returns : false ≡ returns ((program_of s).stmt f (ref_is r))
    unfolding returns
    nop_returns = rw nop_tree

  -- ---- a node's
  module _ {i : ℕ} (e : r ≡ ref.Node i) where
    node_tree : (program_of s).stmt f (ref_is r) ≡ statement_at t i
    unfolding program_of ref_is stmt_at
    node_tree = rw (e, p.part)

    pub node_flows : {d : Set} {b : Flowed} → FlowedIs (statement_at t i) d b → Answered s f r d b
    node_flows g = rw node_tree (g.ok, g.left)

    pub node_returns : returns (statement_at t i) ≡ returns ((program_of s).stmt f (ref_is r))
    node_returns = rw node_tree

  -- ---- the if of a while
  module _ {w : ℕ} (e : r ≡ ref.IfOf w) where
    if_tree : (program_of s).stmt f (ref_is r) ≡ unrolled (statement_at t w)
    unfolding program_of ref_is stmt_at
    if_tree = rw (e, p.part)

    pub if_flows : {d : Set} {b : Flowed} → FlowedIs (unrolled (statement_at t w)) d b → Answered s f r d b
    if_flows g = rw if_tree (g.ok, g.left)

    pub if_returning : stmt_in (program_of s) f (ref_is r) ≡ true → false ≡ returns ((program_of s).stmt f (ref_is r))
    if_returning h = let k = if-within p e h in rw (if_tree, if_returns t w k.1 (loop-above p k))

  -- ---- the seq of a while
  module _ {w : ℕ} (e : r ≡ ref.SeqOf w) where
    seq_tree : (program_of s).stmt f (ref_is r) ≡ looped (statement_at t w)
    unfolding program_of ref_is stmt_at
    seq_tree = rw (e, p.part)

    pub seq_flows : {d : Set} {b : Flowed} → FlowedIs (looped (statement_at t w)) d b → Answered s f r d b
    seq_flows g = rw seq_tree (g.ok, g.left)

    pub seq_above : stmt_in (program_of s) f (ref_is r) ≡ true → 0 < w
    seq_above h = loop-above p (seq_within p e h)

    pub seq_returning : stmt_in (program_of s) f (ref_is r) ≡ true → returns (statement_at t (w - 1)) ≡ returns ((program_of s).stmt f (ref_is r))
    seq_returning h = rw (seq_tree, seq_returns t w (seq_within p e h).1 (seq_above h))
