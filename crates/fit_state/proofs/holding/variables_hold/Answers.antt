use mathlib.Core.Path.{sym, ◌∙◌}
use Prim.Native.Nat.{◌*◌}
use native.Mathlib.Omega.{arith}
use lib.ListN.{get_or, drop}
use Rattle.varset.specs.Sets.{has}
use Rattle.words.specs.Stacks.{block_at}
use Rattle.spec_machine.specs.Program.{type_of_var}
use Rattle.spec_machine.specs.File.{program_of}
use Rattle.fit_state.specs.Meaning.{variables_in}
use Rattle.fit_state.proofs.Values.{holds_more, holds_less, holds_end, holds_all, type_in, type_in_lem, below_none, below_more, below_all}
use Rattle.fit_state.proofs.holding.variables_hold.Goals as goal

pub loop-x-init : goal.loop-x-init
loop-x-init c = let a = c.args.activation.now in let p = c.args.known.now.part in record { typed = holds_all p.file.now p.known.passed p.function p.known.known a.memory.now a.place a.variables c.requires; held = below_none (variables_in a.memory.now a.place a.variables) (has c.empty-set.result.0) c.empty-set.ensures }

pub returns-then-not-variable_holds : goal.returns-then-not-variable_holds
returns-then-not-variable_holds c = let l = c.loop-x in let a = c.args.activation.now in let p = c.args.known.now.part in record { ok = sym (l.invariant.typed ∙ holds_less (type_in p.file.now p.known.passed p.function p.known.known) a.memory.now a.place a.variables l.x c.loop-x-test.true a.few_variables c.activation_word-tag.result (type_of_var ((program_of p.file.now).fun p.function) l.x) c.activation_word-tag.ensures (type_in_lem p.file.now p.known.passed p.function p.known.known l.x (omega (arith, c.loop-x-test.true, c.requires))) (sym (c.if-not-variable_holds.ensures (get_or (drop (2 * l.x) (drop 8 (block_at 136 a.memory.now 128 a.place))) 1 0)))); set = tt }

pub loop-x-preserved : goal.loop-x-preserved
loop-x-preserved c = let l = c.loop-x in let a = c.args.activation.now in let p = c.args.known.now.part in record { typed = l.invariant.typed ∙ holds_more (type_in p.file.now p.known.passed p.function p.known.known) a.memory.now a.place a.variables l.x c.loop-x-test.true a.few_variables c.activation_word-tag.result (type_of_var ((program_of p.file.now).fun p.function) l.x) c.activation_word-tag.ensures (type_in_lem p.file.now p.known.passed p.function p.known.known l.x (omega (arith, c.loop-x-test.true, c.requires))) (sym (c.if-not-variable_holds.ensures (get_or (drop (2 * l.x) (drop 8 (block_at 136 a.memory.now 128 a.place))) 1 0))); held = below_more a.memory.now a.place a.variables l.x (has l.set.0) (has c.with_value-set.result.0) c.activation_word-tag.result c.loop-x-test.true a.few_variables c.activation_word-tag.ensures c.with_value-set.ensures l.invariant.held }

pub returns : goal.returns
returns c = let l = c.loop-x in let a = c.args.activation.now in let p = c.args.known.now.part in record { ok = sym (l.invariant.typed ∙ holds_end (type_in p.file.now p.known.passed p.function p.known.known) a.memory.now a.place a.variables l.x c.loop-x-test.false); set = below_all a.memory.now a.place a.variables l.x (has l.set.0) c.loop-x-test.false l.invariant.held }
