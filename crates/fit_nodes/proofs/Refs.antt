-- A statement by its reference: whether it is one.
use mathlib.Core.Path.{◌≡◌}
use mathlib.Core.Bool.{true, ◌&&◌}
use mathlib.Core.List.{List}
use Prim.Native.Nat.{ℕ, ◌<◌}
use lib.Dec.{eqb, ltb}
use Rattle.records.specs.Fields.{kind_at}
use Rattle.spec_language.specs.KindLists.{is_statement}
use Rattle.spec_machine.specs.File.{see_at, program_of}
use Rattle.spec_machine.specs.Test.{stmt_in}
use Rattle.state_words.specs.declared.Ref.{Ref}
use Rattle.state_words.specs.declared.Ref.TheVariants as ref
use Rattle.state_words.specs.Meaning.{ref_is}
use Rattle.fit_nodes.specs.Part.{IsPart}
use Rattle.fit_nodes.proofs.Sorts.{node_sort, if_sort, seq_sort, node_inside, if_inside, seq_inside}

module _ {s : List ℕ} {f : ℕ} {t : List ℕ} {n : ℕ} (p : IsPart s f t n) {r : Ref} where
  -- ---- the nop
  module _ (e : r ≡ ref.Nop) where
    pub nop_is : true ≡ stmt_in (program_of s) f (ref_is r)
    unfolding program_of ref_is see_at
    nop_is = rw e

  -- ---- a node's
  module _ {i : ℕ} (e : r ≡ ref.Node i) where
    pub node_is : (ltb i n && is_statement (kind_at t i)) ≡ stmt_in (program_of s) f (ref_is r)
    unfolding ref_is
    node_is = rw e (node_sort p i)

    pub node_within : stmt_in (program_of s) f (ref_is r) ≡ true → i < n
    unfolding ref_is
    node_within h = node_inside p i (rw e at h)

  -- ---- the if of a while
  module _ {w : ℕ} (e : r ≡ ref.IfOf w) where
    pub if_is : (ltb w n && eqb (kind_at t w) 11) ≡ stmt_in (program_of s) f (ref_is r)
    unfolding ref_is
    if_is = rw e (if_sort p w)

    pub if-within : stmt_in (program_of s) f (ref_is r) ≡ true → (w < n) × (kind_at t w ≡ 11)
    unfolding ref_is
    if-within h = if_inside p w (rw e at h)

  -- ---- the seq of a while
  module _ {w : ℕ} (e : r ≡ ref.SeqOf w) where
    pub seq_is : (ltb w n && eqb (kind_at t w) 11) ≡ stmt_in (program_of s) f (ref_is r)
    unfolding ref_is
    seq_is = rw e (seq_sort p w)

    pub seq_within : stmt_in (program_of s) f (ref_is r) ≡ true → (w < n) × (kind_at t w ≡ 11)
    unfolding ref_is
    seq_within h = seq_inside p w (rw e at h)
