-- The numbers of the procedure file: marks, the last edition, the most functions, nodes, parameters and variables, and the longest file.
use Rattle.std.specs.Prelude.{ℕ}

-- "PR", "FN" and "ND" as numbers of two bytes
abbrev pub header_mark : ℕ
header_mark = 21072

abbrev pub function_mark : ℕ
function_mark = 20038

abbrev pub node_mark : ℕ
node_mark = 17486

-- the most functions and nodes of a file
abbrev pub most_functions : ℕ
most_functions = 128

abbrev pub most_nodes : ℕ
most_nodes = 4096

-- the last edition that there is
abbrev pub last_edition : ℕ
last_edition = 1

-- the most parameters and variables of a function
abbrev pub most_parameters : ℕ
most_parameters = 8

abbrev pub most_variables : ℕ
most_variables = 64

-- the records of the longest file, its header among them, and its bytes
abbrev pub most_records : ℕ
most_records = 4225

abbrev pub longest_file : ℕ
longest_file = 50700
