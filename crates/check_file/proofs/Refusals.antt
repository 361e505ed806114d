-- What a refusal is that is handed on.
use Rattle.std.specs.Prelude.{◌≡◌, Result, Ok, Err}
use Rattle.std.specs.Result.{IsErrAnd}
use Rattle.std.proofs.Common.{ap}
use Rattle.check_file.specs.declared.Refusal.{Refusal}

pub err_is : {T : Type 0} (r : Result T Refusal) (e : Refusal) → IsErrAnd r (λ x. x ≡ e) → r ≡ Err e
err_is (Ok t) e h = absurd h
err_is (Err x) e h = ap Err h
