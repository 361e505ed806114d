use lib.Dec.{lit≤}
use mathlib.Core.Logic.{inl, inr}
use native.Mathlib.Omega.{arith}
use Rattle.check_summary.proofs.Rooms.{table_room}
use Rattle.check_file.proofs.sizes.check_flows.Goals as goal

pub flows_apart-requires : goal.flows_apart-requires
flows_apart-requires c = (c.requires, table_room _ 256 c.requires.0 (inl (omega (arith, c.if-file-functions.true))), lit≤ tt)

pub flows_apart-requires-then-file-functions-2 : goal.flows_apart-requires-then-file-functions-2
flows_apart-requires-then-file-functions-2 c = (c.requires, table_room _ 1024 c.requires.0 (inl (omega (arith, c.if-file-functions-2.true))), lit≤ tt)

pub flows_apart-requires-2 : goal.flows_apart-requires-2
flows_apart-requires-2 c = (c.requires, table_room _ 4096 c.requires.0 (inr (lit≤ tt)), lit≤ tt)
