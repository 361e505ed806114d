-- A part that passes the questions, from what each of them shows.
use Rattle.std.specs.Prelude.{None}
use mathlib.Core.Path.{◌≡◌}
use mathlib.Core.List.{List}
use Prim.Native.Nat.{ℕ, ◌*◌, ◌-◌, ◌≤◌, ◌<◌}
use native.Mathlib.Omega.{arith}
use lib.ListN.{length, get_or}
use Rattle.varset.specs.Sets.{Set, below}
use Rattle.records.specs.Fields.{functions, params_of}
use Rattle.records.specs.Parts.{Laid}
use Rattle.spec_language.specs.Nodes.{node_ok, size_ok, misplaced, outside, mistyped, answers}
use Rattle.spec_language.proofs.Facts.{named, arguments, calls}
use Rattle.spec_language.proofs.Accept.{all_pass, pass_all, none_fails, none_unless, seven_to_fourteen}
use Rattle.check_pass.specs.Surveyed.{Surveyed}
use Rattle.check_pass.specs.Judged.{PartFacts}
use Rattle.check_pass.specs.Passed.{Passed, ClearBelow}

module _ (s : List ℕ) (f : ℕ) (t : List ℕ) (n : ℕ) where
  pub part_known : {decls : List ℕ} {a : ℕ} → Laid s → f < functions s → 12 * n ≤ length t → Surveyed s f t n decls a → PartFacts s f t n decls
  part_known g l h k =
      let seven = all_pass (node_ok s f t) n k.seven in
      record { laid = g; function = l; inside = h; named = named s f t n g l seven; arguments = arguments s f t n g l seven; calls = calls s f t n g l seven; told = k.told }

  -- no question below what the survey says and below what the pass says finds anything
  pub clear : {begun : Set} {decls : List ℕ} {a p r : ℕ} → begun ≡ below (params_of s f) → Surveyed s f t n decls a → Passed s f t n begun p → r ≤ p → r ≤ a → r ≤ 15 → ClearBelow s f t n r
  unfolding answers
  clear {begun} {decls} {a} {p} {r} b k h u v top q low high =
      seven_to_fourteen (λ m. m < r → get_or (answers s f t n) (m - 7) None ≡ None) (λ l. k.seven) (λ l. pass_all (size_ok t n) n (h.sized (omega arith))) (λ l. none_fails (misplaced t n) n (h.placed (omega arith)))
      (λ l. k.ten (omega arith)) (λ l. none_fails (outside s f t n) n (h.scoped (omega arith))) (λ l. none_fails (mistyped s f t n) n (h.typed (omega arith))) (λ l. rw (← b) (h.reading (omega arith))) (λ l. none_unless _ 0 (h.returning (omega arith)))
      q low (omega arith) high
