use mathlib.Core.Path.{◌≡◌}
use mathlib.Core.List.{◌++◌}
use Prim.Native.Nat.{◌+◌, ◌*◌, ◌-◌}
use lib.ListN.{length, take}
use Rattle.spec_log.specs.Records.{words_at}
use Rattle.log_records.proofs.last.restore_words.Given as goal

abbrev pub invariant-loop-i : goal.invariant-loop-i
invariant-loop-i l = (length l.m ≡ length l.initial.m) × (take l.i l.m ++ words_at l.log (l.at + 4 * l.i) (length l.initial.m - l.i) ≡ words_at l.log l.at (length l.initial.m))
