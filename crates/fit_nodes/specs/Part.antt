-- What is known of the part of a function while its nodes are judged.
use Rattle.std.specs.Prelude.{◌≡◌, List, ℕ, ◌<◌}
use Rattle.records.specs.Fields.{functions, count_of}
use Rattle.records.specs.Parts.{part_of}
use Rattle.spec_language.specs.Check.{accepted, check_of}

-- the file is accepted, and t is the part of its function f, with n nodes
pub record IsPart (s : List ℕ) (f : ℕ) (t : List ℕ) (n : ℕ) : Type 0 where
  pub passed : check_of s ≡ accepted
  pub known : f < functions s
  pub part : t ≡ part_of s f
  pub count : n ≡ count_of s f
