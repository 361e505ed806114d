use mathlib.Core.Bool.{not, and-false}
use Prim.Native.Nat.{◌%◌}
use lib.Dec.{eqb, ltb}
use lib.ListN.{length}
use borrow.Author.Tests.{not-true, ltb-true, lt-leb}
use Rattle.records.proofs.Bools.{or_cases}
use Rattle.spec_language.specs.Records.{length_ok}
use Rattle.check_header.proofs.is_cut.Goals as goal

pub returns : goal.returns
unfolding length_ok
returns c = λ z. let n = length c.args.file.now in
    or_cases (not (eqb (n % 12) 0)) (ltb n 36) z (λ e. rw (not-true (eqb (n % 12) 0) e)) (λ e. rw (lt-leb 36 n (ltb-true n 36 e)) (and-false (eqb (n % 12) 0)))
