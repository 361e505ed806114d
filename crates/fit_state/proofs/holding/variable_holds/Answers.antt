use mathlib.Core.Path.{sym}
use Rattle.spec_machine.specs.Program.{type_of_var}
use Rattle.spec_machine.specs.File.{program_of}
use Rattle.fit_state.proofs.Values.{nothing_holds, some_holds}
use Rattle.fit_state.proofs.holding.variable_holds.Goals as goal

pub returns-then-tag-eq0 : goal.returns-then-tag-eq0
returns-then-tag-eq0 c = let p = c.args.known.now.part in λ w. sym (nothing_holds c.args.tag w (type_of_var ((program_of p.file.now).fun p.function) c.args.x) c.if-tag-eq0.true)

pub returns : goal.returns
returns c = let p = c.args.known.now.part in λ w. rw (c.variable_type.ensures, c.tag_type.ensures w) (sym (some_holds c.args.tag w (type_of_var ((program_of p.file.now).fun p.function) c.args.x) c.if-tag-eq0.false))
