-- The check's answer in the paper's numbers.
use Rattle.std.specs.Prelude.{ℕ, ◌<◌, Result, Ok, Err}
use Rattle.spec_language.specs.Check.{Verdict, accepted, refused}
use Rattle.check_file.specs.declared.Refusal.{Refusal}
use Rattle.records.specs.Format.{most_variables, most_records}

-- a refusal by the question's number, the place and the item
abbrev pub refusal_of : ℕ → ℕ → ℕ → Refusal
refusal_of question place item = record { question = question; place = place; item = item }

-- the answer of an entry point that gives nothing but a refusal
abbrev pub Answer : Type 0
Answer = Result (Unit {0}) Refusal

-- accepted, or the question's number, the place and the item
unfoldable pub says : Answer → Verdict
says (Ok u) = accepted
says (Err r) = refused r.question r.place r.item

-- a place is a record of the longest file, and an item a variable
abbrev pub SmallRefusal : Refusal → Type 0
SmallRefusal r = (r.place < most_records) × (r.item < most_variables)

-- an answer whose refusal is small
abbrev pub Small : Answer → Type 0
Small (Ok u) = Unit {0}
Small (Err r) = SmallRefusal r
