-- The answer of a step over a frame that gathers operands, an assignment and a return.
use mathlib.Core.Path.{◌≡◌, refl, sym, ◌∙◌}
use mathlib.Core.Bool.{Bool, true, false, and_assoc, and-false, and-true}
use mathlib.Core.List.{List}
use Prim.Native.Nat.{ℕ}
use lib.Dec.{eqb}
use borrow.Author.Tests.{eq-eqb, eqb-true, eqb-false, ne_eqb}
use Rattle.std.specs.Prelude.{◌&&◌, Option, Some, None, is_some, unwrap_or, IfSome}
use Rattle.varset.specs.Sets.{Set, has, with, either, below}
use Rattle.records.specs.Format.{most_variables}
use Rattle.spec_machine.specs.Values.{Ty, Value}
use Rattle.spec_machine.specs.Program.{Operation, Program, type_of_var, wants, gives}
use Rattle.spec_machine.specs.Machine.{Frame, gather}
use Rattle.spec_machine.specs.File.{types_from}
use Rattle.spec_machine.specs.Test.{are_ty, exprs_in, has_var, known_operation, reads_nodes}
use Rattle.fit_frames.specs.declared.Received.{Received}
use Rattle.fit_frames.specs.Incoming.{incoming, handed, frame_fits, hands_on}
use Rattle.fit_frames.specs.Operands.{gathered}
use Rattle.fit_frames.specs.Meaning.{given_is, incoming_is, Steps}

eqb_swap : (a b : ℕ) → eqb a b ≡ eqb b a
eqb_swap a b = go (eqb a b) refl
  where
    go : (t : Bool) → eqb a b ≡ t → eqb a b ≡ eqb b a
    go true e = e ∙ sym (eq-eqb b a (sym (eqb-true a b e)))
    go false e = e ∙ sym (ne_eqb b a (λ q. eqb-false a b e (sym q)))

-- the test of a return, and what it hands on, whatever is given
leave_fits : (P : Program) (f : ℕ) (g : Option ℕ) (s : Set) (e : Bool) → frame_fits P f (given_is g s e) Frame.leave ≡ is_some g && eqb (unwrap_or g 0) (P.fun f).result
leave_fits P f (Some t) s e = and-true (eqb t (P.fun f).result)
leave_fits P f None s e = refl

leave_hands : (P : Program) (f : ℕ) (g : Option ℕ) (s : Set) (e : Bool) → hands_on P f (given_is g s e) Frame.leave ≡ incoming false 0 (either s (below most_variables)) true
leave_hands P f (Some t) s e = refl
leave_hands P f None s e = refl

module _ {P : Program} {f : ℕ} {d : Received} where
  -- ---- operands

  module _ {h : Operation} {vs : List Value} {ns : List ℕ} where
    module _ {t : ℕ} (g : d.given ≡ Some t) where
      pub gather_unknown : known_operation P h ≡ false → Steps P f d (gather h vs ns) None
      gather_unknown q = record { ok = rw (g, q, and-false (exprs_in P f ns), and-false (are_ty (wants P h) _)); on = tt }

      module _ (want : ℕ → Ty) (c : ℕ) (k : known_operation P h ≡ true) (w : wants P h ≡ types_from want c 0) where
        pub gather_less : false ≡ gathered P f (has d.set.0) want c t vs ns → Steps P f d (gather h vs ns) None
        unfolding gathered
        gather_less o = record { ok = o ∙ rw (g, k, w, and-true (exprs_in P f ns)) (sym (and_assoc (are_ty (types_from want c 0) _) (exprs_in P f ns) (reads_nodes P f ns (has d.set.0)))); on = tt }

        pub gather_law : {r : Received} → true ≡ gathered P f (has d.set.0) want c t vs ns → incoming_is r ≡ handed (gives P h) (has d.set.0) d.come
            → Steps P f d (gather h vs ns) (Some r)
        unfolding gathered
        gather_law o n = record { ok = o ∙ rw (g, k, w, and-true (exprs_in P f ns)) (sym (and_assoc (are_ty (types_from want c 0) _) (exprs_in P f ns) (reads_nodes P f ns (has d.set.0)))); on = rw g n }

  -- ---- an assignment

  module _ {x t : ℕ} (g : d.given ≡ Some t) where
    pub store_unknown : has_var P f x ≡ false → Steps P f d (Frame.store x) None
    store_unknown q = record { ok = rw (g, q, and-false (eqb t (type_of_var (P.fun f) x))); on = tt }

    pub store_law : {r : Received} → has_var P f x ≡ true → t ≡ type_of_var (P.fun f) x → incoming_is r ≡ incoming false 0 (with (has d.set.0) x) d.come
        → Steps P f d (Frame.store x) (Some r)
    store_law k o n = record { ok = rw (g, k, eq-eqb t (type_of_var (P.fun f) x) o); on = rw g n }

  -- ---- a return

  pub leave_law : {r : Option Received} → is_some r ≡ (is_some d.given && eqb (unwrap_or d.given 0) (P.fun f).result)
      → IfSome r (λ w. incoming_is w ≡ incoming false 0 (either (has d.set.0) (below most_variables)) true) → Steps P f d Frame.leave r
  leave_law o n = record { ok = o ∙ sym (leave_fits P f d.given (has d.set.0) d.come); on = rw (leave_hands P f d.given (has d.set.0) d.come) n }
