use mathlib.Core.Path.{◌≡◌, refl, sym}
use mathlib.Core.Bool.{true}
use Prim.Native.Nat.{zero-le}
use native.Mathlib.Omega.{arith}
use Rattle.spec_language.specs.KindLists.{constants, is_constant}
use Rattle.spec_language.proofs.KindLists.{none_of, in_range}
use Rattle.fit_nodes.proofs.is_constant_kind.Goals as goal

pub returns-in-15 : goal.returns-in-15
returns-in-15 c = rw c.in-15.is

pub returns-in-0-to-1 : goal.returns-in-0-to-1
returns-in-0-to-1 c = in_range (λ k. true ≡ is_constant k) 0 2 (refl, (refl, refl)) _ zero-le c.in-0-to-1.if-kind-lt2-own.true

pub returns-in_default : goal.returns-in_default
returns-in_default c = sym (none_of constants _ (λ e. omega (arith, c.in_default.if-kind-lt2-own.false), (λ e. omega (arith, c.in_default.if-kind-lt2-own.false), (c.in_default.in_default-own.rest.1, tt))))
