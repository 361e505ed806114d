-- What is kept of a file.
use Rattle.std.specs.Prelude.{ℕ, ◌≤◌, Result, Ok, Err}
use Rattle.desk_files.specs.declared.SystemError.{SystemError}

-- the bytes kept are bytes of the buffer, whose length is n
abbrev pub Inside : Result ℕ SystemError → ℕ → Type 0
Inside (Ok k) n = k ≤ n
Inside (Err e) n = Unit {0}
