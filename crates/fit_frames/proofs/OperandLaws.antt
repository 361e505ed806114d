-- The operands of a frame are those wanted exactly where each is.
use mathlib.Core.Path.{◌≡◌, refl, sym, ap, ◌∙◌}
use mathlib.Core.Bool.{Bool, true, false, ◌&&◌, and_assoc, and-false}
use mathlib.Core.List.{List, [], ◌∷◌, ◌++◌, map}
use Prim.Native.Nat.{ℕ, suc, ◌+◌}
use native.Mathlib.Nat.{zero-add, add-zero}
use native.Mathlib.Omega.{arith}
use lib.Dec.{eqb}
use lib.ListN.{length, length-append, length-map}
use Rattle.varset.specs.Sets.{Set}
use Rattle.spec_machine.specs.Values.{Ty, Value, type_v}
use Rattle.spec_machine.specs.Program.{Program, type_n}
use Rattle.spec_machine.specs.File.{types_from}
use Rattle.spec_machine.specs.Test.{are_ty, reads, expr_in, exprs_in, reads_nodes}
use Rattle.spec_machine.proofs.Operands.{types_length}
use Rattle.fit_frames.specs.Operands.{values_suit, node_suits, nodes_suit, gathered}

-- lists of two lengths have not the same types
are_ty_length : (a b : List Ty) → (length a ≡ length b → ⊥) → are_ty a b ≡ false
are_ty_length [] [] n = absurd (n refl)
are_ty_length [] (u ∷ us) n = refl
are_ty_length (t ∷ ts) [] n = refl
are_ty_length (t ∷ ts) (u ∷ us) n = rw (are_ty_length ts us (λ e. n (ap suc e))) (and-false (eqb t u))

-- three tests of a node, before those of the rest
turned : (t e r a x y : Bool) → ((t && a) && ((e && x) && (r && y))) ≡ ((e && (t && r)) && (a && (x && y)))
turned true true true a x y = refl
turned true true false a x y = rw (and-false x) (and-false a)
turned true false r a x y = and-false a
turned false true r a x y = refl
turned false false r a x y = refl

module _ (P : Program) (f : ℕ) (d : Set) (want : ℕ → Ty) where
  nodes_law : (k : ℕ) (ns : List ℕ)
      → (are_ty (types_from want (length ns) k) (map (type_n P f) ns) && (exprs_in P f ns && reads_nodes P f ns d)) ≡ nodes_suit P f d want k ns
  unfolding types_from
  nodes_law k [] = refl
  nodes_law k (n ∷ ns) =
      turned (eqb (want k) (type_n P f n)) (expr_in P f n) (reads P f n d) (are_ty (types_from want (length ns) (suc k)) (map (type_n P f) ns)) (exprs_in P f ns) (reads_nodes P f ns d)
      ∙ ap (λ (b : Bool). node_suits P f d (want k) n && b) (nodes_law (suc k) ns)

  operands_law : (k : ℕ) (vs : List Value) (t : Ty) (ns : List ℕ)
      → (are_ty (types_from want (length vs + suc (length ns)) k) (map type_v vs ++ (t ∷ map (type_n P f) ns)) && (exprs_in P f ns && reads_nodes P f ns d))
      ≡ (values_suit want k vs && (eqb (want (k + length vs)) t && nodes_suit P f d want (suc (k + length vs)) ns))
  unfolding types_from
  operands_law k [] t ns =
      rw (zero-add (suc (length ns)), add-zero k)
      (and_assoc (eqb (want k) t) (are_ty (types_from want (length ns) (suc k)) (map (type_n P f) ns)) (exprs_in P f ns && reads_nodes P f ns d)
      ∙ ap (λ (b : Bool). eqb (want k) t && b) (nodes_law (suc k) ns))
  operands_law k (v ∷ vs) t ns =
      let e : suc (length vs) + suc (length ns) ≡ suc (length vs + suc (length ns)) = omega arith in
      let q : k + suc (length vs) ≡ suc k + length vs = omega arith in
      rw (e, q)
      (and_assoc (eqb (want k) (type_v v)) (are_ty (types_from want (length vs + suc (length ns)) (suc k)) (map type_v vs ++ (t ∷ map (type_n P f) ns))) (exprs_in P f ns && reads_nodes P f ns d)
      ∙ ap (λ (b : Bool). eqb (want k) (type_v v) && b) (operands_law (suc k) vs t ns)
      ∙ sym (and_assoc (eqb (want k) (type_v v)) (values_suit want (suc k) vs) (eqb (want (suc k + length vs)) t && nodes_suit P f d want (suc (suc k + length vs)) ns)))

  module _ (c : ℕ) (t : Ty) (vs : List Value) (ns : List ℕ) where
    -- another number of operands than wanted
    pub gathered_count : (length vs + suc (length ns) ≡ c → ⊥) → gathered P f d want c t vs ns ≡ false
    unfolding gathered
    gathered_count n =
        let z : are_ty (types_from want c 0) (map type_v vs ++ (t ∷ map (type_n P f) ns)) ≡ false
        = are_ty_length (types_from want c 0) (map type_v vs ++ (t ∷ map (type_n P f) ns))
        (λ e. n (omega (arith, types_length want c 0, e, length-append (map type_v vs) (t ∷ map (type_n P f) ns), length-map vs type_v, length-map ns (type_n P f)))) in
        rw z

    -- as many as wanted
    pub gathered_each : length vs + suc (length ns) ≡ c
        → gathered P f d want c t vs ns ≡ (values_suit want 0 vs && (eqb (want (length vs)) t && nodes_suit P f d want (suc (length vs)) ns))
    unfolding gathered
    gathered_each e = rw (← e) (rw (zero-add (length vs)) at (operands_law 0 vs t ns))
