use lib.Dec.{lit≤}
use mathlib.Core.Logic.{inl, inr}
use native.Mathlib.Omega.{arith}
use Rattle.check_summary.proofs.Rooms.{parts_within}
use Rattle.check_file.proofs.sizes.file_floor.Goals as goal

pub floor_within-requires : goal.floor_within-requires
floor_within-requires c = (c.requires, parts_within _ 32 c.requires (inl (omega (arith, c.if-file-functions.true))), lit≤ tt)

pub floor_apart-requires : goal.floor_apart-requires
floor_apart-requires c = (c.requires, parts_within _ 256 c.requires (inl (omega (arith, c.if-file-functions-2.true))), lit≤ tt)

pub floor_apart-requires-then-file-functions-3 : goal.floor_apart-requires-then-file-functions-3
floor_apart-requires-then-file-functions-3 c = (c.requires, parts_within _ 1024 c.requires (inl (omega (arith, c.if-file-functions-3.true))), lit≤ tt)

pub floor_apart-requires-2 : goal.floor_apart-requires-2
floor_apart-requires-2 c = (c.requires, parts_within _ 4096 c.requires (inr (lit≤ tt)), lit≤ tt)
