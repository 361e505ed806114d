-- The check's answer as one number.
use Rattle.std.specs.Prelude.{ℕ, ◌+◌, ◌*◌}
use Rattle.spec_language.specs.Check.{Verdict, accepted, refused}
use Rattle.check_file.specs.declared.Refusal.{Refusal}
use Rattle.check_file.specs.Answers.{refusal_of}

-- the question, 256 times the item and 65,536 times the place together
abbrev pub packed_refusal : Refusal → ℕ
packed_refusal r = r.question + 256 * r.item + 65536 * r.place

-- 0 where the file is accepted; else the number of the refusal
unfoldable pub packed : Verdict → ℕ
packed accepted = 0
packed (refused question place item) = packed_refusal (refusal_of question place item)
