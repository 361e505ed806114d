-- The three walks over an activation's frames are one walk.
use mathlib.Core.Path.{◌≡◌, refl, sym, ap, ◌∙◌}
use mathlib.Core.Bool.{Bool, true, false, ◌&&◌, ◌||◌, not, and_assoc, and_comm, and-false, or_assoc, or-true, or-false}
use mathlib.Core.List.{List, [], ◌∷◌, ◌++◌, map}
use mathlib.Core.Option.{Option, none, some}
use Prim.Native.Nat.{ℕ}
use Rattle.varset.specs.Sets.{Set, both}
use Rattle.varset.specs.Lowest.{pick}
use Rattle.words.specs.Stacks.{chain}
use lib.Dec.{eqb}
use Rattle.spec_machine.specs.Values.{Ty, t_bool, type_v}
use Rattle.spec_language.specs.Flow.{leaves, returns}
use Rattle.spec_machine.specs.Program.{Program, type_n, type_of_var, wants, gives, if_given}
use Rattle.spec_machine.specs.Machine.{Frame, gather, and, wait, branch, check, Control, val, eval, exec}
use Rattle.spec_machine.specs.Fit.{is_const, comes, comes_from}
use Rattle.spec_machine.specs.Test.{are_ty, reads, ok, expr_in, stmt_in, exprs_in, has_var, known_operation, takes, takes_none, control_over, flows, flows_from}
use Rattle.fit_frames.specs.Incoming.{Incoming, incoming, giving, handed, typed, flown, frame_fits, hands_on, ends, start_ok, start}

-- ---- tests in another order

swapped : (a x t h : Bool) → (a && (x && (t && h))) ≡ ((a && (x && h)) && t)
swapped true true t h = and_comm t h
swapped true false t h = refl
swapped false x t h = refl

third : (a x y t : Bool) → (a && (x && (y && t))) ≡ ((a && (x && y)) && t)
third true true y t = refl
third true false y t = refl
third false x y t = refl

apart : (a w b f c : Bool) → ((a && w) && ((b && f) && c)) ≡ ((a && b) && (w && (f && c)))
apart true w true f c = refl
apart true w false f c = and-false w
apart false w b f c = refl

-- ---- what each walk asks of the frames under a place

abbrev wanted : Program → ℕ → Incoming → List Frame → Bool
wanted P f (incoming b t d e) K = pick b (takes P f t K) (takes_none P f K)

abbrev flowing : Program → ℕ → Incoming → List Frame → Bool
flowing P f (incoming b t d e) K = flows P f K d

abbrev coming : Program → ℕ → Incoming → List Frame → Bool
coming P f (incoming b t d e) K = e || comes P f K

module _ (P : Program) (f : ℕ) where
  given_wanted : (o : Option Ty) (d : Set) (e : Bool) (K : List Frame) → if_given o (λ t. takes P f t K) (takes_none P f K) ≡ wanted P f (handed o d e) K
  given_wanted none d e K = refl
  given_wanted (some t) d e K = refl

  wanted_step : (b : Bool) (t : Ty) (d : Set) (e : Bool) (fr : Frame) (K : List Frame)
      → wanted P f (incoming b t d e) (fr ∷ K) ≡ (typed P f b t fr && wanted P f (hands_on P f (incoming b t d e) fr) K)
  wanted_step true t d e (gather h vs ns) K =
      rw (given_wanted (gives P h) d e K) (swapped (are_ty (wants P h) (map type_v vs ++ (t ∷ map (type_n P f) ns))) (exprs_in P f ns) _ (known_operation P h))
  wanted_step true t d e (and n) K = third (eqb t t_bool) (expr_in P f n) (eqb (type_n P f n) t_bool) (takes P f t_bool K)
  wanted_step true t d e (wait r) K = refl
  wanted_step true t d e (Frame.store x) K = sym (and_assoc (eqb t (type_of_var (P.fun f) x)) (has_var P f x) (takes_none P f K))
  wanted_step true t d e (branch r q) K = third (eqb t t_bool) (stmt_in P f r) (stmt_in P f q) (takes_none P f K)
  wanted_step true t d e Frame.leave K = refl
  wanted_step true t d e check K = refl
  wanted_step true t d e Frame.discard K = refl
  wanted_step false t d e (gather h vs ns) K = refl
  wanted_step false t d e (and n) K = refl
  wanted_step false t d e (wait r) K = refl
  wanted_step false t d e (Frame.store x) K = refl
  wanted_step false t d e (branch r q) K = refl
  wanted_step false t d e Frame.leave K = refl
  wanted_step false t d e check K = refl
  wanted_step false t d e Frame.discard K = refl

  flowing_step : (b : Bool) (t : Ty) (d : Set) (e : Bool) (fr : Frame) (K : List Frame)
      → flows P f (fr ∷ K) d ≡ (flown P f d fr && flowing P f (hands_on P f (incoming b t d e) fr) K)
  flowing_step b t d e (gather h vs ns) K = refl
  flowing_step b t d e (and n) K = refl
  flowing_step b t d e (wait r) K = refl
  flowing_step b t d e (Frame.store x) K = refl
  flowing_step b t d e (branch r q) K =
      sym (and_assoc (ok P f r d) (ok P f q d) (flows P f K (both (leaves (P.stmt f r) d) (leaves (P.stmt f q) d))))
  flowing_step b t d e Frame.leave K = refl
  flowing_step b t d e check K = refl
  flowing_step b t d e Frame.discard K = refl

  coming_step : (b : Bool) (t : Ty) (d : Set) (e : Bool) (fr : Frame) (K : List Frame)
      → (e || comes P f (fr ∷ K)) ≡ coming P f (hands_on P f (incoming b t d e) fr) K
  coming_step b t d e (gather h vs ns) K = refl
  coming_step b t d e (and n) K = refl
  coming_step b t d e (wait r) K = sym (or_assoc e (returns (P.stmt f r)) (comes P f K))
  coming_step b t d e (Frame.store x) K = refl
  coming_step b t d e (branch r q) K = sym (or_assoc e (returns (P.stmt f r) && returns (P.stmt f q)) (comes P f K))
  coming_step b t d e Frame.leave K = or-true e
  coming_step b t d e check K = refl
  coming_step b t d e Frame.discard K = refl

  at-end : (b : Bool) (t : Ty) (d : Set) (e : Bool) → (wanted P f (incoming b t d e) [] && (true && (e || false))) ≡ ends (incoming b t d e)
  at-end true t d e = refl
  at-end false t d e = or-false e

  -- the three walks from a place on are the one
  three_walks : (s : Incoming) (K : List Frame) → (wanted P f s K && (flowing P f s K && coming P f s K)) ≡ chain (frame_fits P f) (hands_on P f) ends s K
  three_walks (incoming b t d e) [] = at-end b t d e
  three_walks (incoming b t d e) (fr ∷ K) =
      rw (wanted_step b t d e fr K, flowing_step b t d e fr K, coming_step b t d e fr K)
      (apart (typed P f b t fr) (wanted P f (hands_on P f (incoming b t d e) fr) K) (flown P f d fr) (flowing P f (hands_on P f (incoming b t d e) fr) K) (coming P f (hands_on P f (incoming b t d e) fr) K)
      ∙ ap (λ (x : Bool). (typed P f b t fr && flown P f d fr) && x) (three_walks (hands_on P f (incoming b t d e) fr) K))

  -- of a saved caller
  pub caller_walk : (t : Ty) (d : Set) (L : List Frame)
      → (takes P f t L && (flows P f L d && comes P f L)) ≡ chain (frame_fits P f) (hands_on P f) ends (giving t d) L
  caller_walk t d L = three_walks (giving t d) L

  -- of the current activation
  pub current_walk : (c : Control) (d : Set) (K : List Frame)
      → (control_over P f c K && (flows_from P f c K d && comes_from P f c K)) ≡ (start_ok P f d c && chain (frame_fits P f) (hands_on P f) ends (start P f d c) K)
  current_walk (val v) d K = three_walks (start P f d (val v)) K
  current_walk (eval n) d K = first (expr_in P f n) (not (is_const (P.look f n))) (reads P f n d) (takes P f (type_n P f n) K) (flows P f K d) (comes P f K) ∙ ap (λ (x : Bool). start_ok P f d (eval n) && x) (three_walks (start P f d (eval n)) K)
    where
      first : (a w b t x c : Bool) → ((a && (w && t)) && ((b && x) && c)) ≡ ((a && (w && b)) && (t && (x && c)))
      first true true b t x c = apart true t b x c
      first true false b t x c = refl
      first false w b t x c = refl
  current_walk (exec r) d K = apart (stmt_in P f r) (takes_none P f K) (ok P f r d) (flows P f K (leaves (P.stmt f r) d)) (returns (P.stmt f r) || comes P f K) ∙ ap (λ (x : Bool). start_ok P f d (exec r) && x) (three_walks (start P f d (exec r)) K)
