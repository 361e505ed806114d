-- What the part of a function of an accepted file gives.
use mathlib.Core.Path.{◌≡◌, refl}
use mathlib.Core.List.{List}
use Prim.Native.Nat.{ℕ, ◌+◌, ◌*◌, ◌≤◌, ◌<◌}
use native.Mathlib.Omega.{arith}
use lib.ListN.{length}
use Rattle.records.specs.Fields.{functions, params_of, vars_of, kind_at}
use Rattle.records.specs.Parts.{Laid}
use Rattle.records.proofs.PartWalks.{part_length}
use Rattle.spec_language.specs.Known.{Known, CallsKnown, WellFormed}
use Rattle.spec_language.proofs.Accept.{Accepted, accepted_is, parts, nodes_known, calls_known}
use Rattle.spec_language.proofs.KnownNodes.{inner}
use Rattle.check_scopes.specs.Counts.{Named}
use Rattle.fit_nodes.specs.Part.{IsPart}

module _ {s : List ℕ} {f : ℕ} {t : List ℕ} {n : ℕ} (p : IsPart s f t n) where
  pub all : Accepted s
  all = accepted_is s p.passed

  pub laid : Laid s
  laid = parts s all

  pub inside : 12 * n ≤ length t
  inside = let e = part_length s f (laid.fits f p.known) in rw (p.part, p.count) (omega arith)

  pub some : 1 ≤ n
  some = rw p.count (laid.some f p.known)

  pub nodes : Known t n
  nodes = rw (p.part, p.count) (nodes_known s all f p.known)

  pub well-formed : WellFormed t n
  well-formed =
      record {
        inside = inside;
        nodes = nodes;
        sized = rw (p.part, p.count) (λ i l. all.eight f i p.known l);
        placed = rw (p.part, p.count) (λ i l. all.nine f i p.known l);
      }

  pub calls : CallsKnown (functions s) t n
  calls = rw (p.part, p.count) (calls_known s all f p.known)

  pub named : Named t n
  named = nodes.variable

  -- what the type of a variable asks
  pub variable_asks : {x : ℕ} → x < vars_of s f → ((12 * (1 + f) + 12 ≤ length s) × (params_of s f ≤ 8)) × ((12 * n ≤ length t) × (1 ≤ n) × (x < 64))
  variable_asks l =
      let h = laid.heads in
      let k = p.known in
      let v = laid.vars f k in
      ((omega arith, laid.params f k), (inside, some, omega arith))

  -- a while has a body before it
  pub loop-above : {w : ℕ} → (w < n) × (kind_at t w ≡ 11) → 0 < w
  loop-above h = inner 11 nodes h.0 h.1 refl
