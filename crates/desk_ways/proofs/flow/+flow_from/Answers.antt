use Rattle.std.proofs.Common.{◌≡◌, ℕ, ◌<◌, List, true, refl, sym, ◌∙◌, arith}
use Rattle.records.specs.Fields.{kind_at}
use Rattle.spec_language.specs.KindLists.{is_statement}
use Rattle.spec_language.specs.Known.{Known}
use Rattle.spec_language.proofs.KnownNodes.{inner}
use Rattle.desk_ways.proofs.Walks.{follows_seq, follows_assign, follows_decl, follows_if, follows_while, follows_return, follows_rest}
use Rattle.desk_ways.proofs.flow.+flow_from.Goals as goal

-- a statement other than nop stands after a node
after : {t : List ℕ} {n i k : ℕ} (kind : ℕ) → Known t n → i < n → k ≡ kind_at t i → k ≡ kind → is_statement kind ≡ true → 0 < i
after kind h l e f p = inner kind h l (sym e ∙ f) p

pub overflow_sub-b : goal.overflow_sub-b
overflow_sub-b t c = after 7 c.args.part.known c.requires c.kind_at-kind.ensures c.in-7.is refl

pub flow_from-first-requires : goal.flow_from-first-requires
flow_from-first-requires t c = let l = after 7 c.args.part.known c.requires c.kind_at-kind.ensures c.in-7.is refl in (omega arith, omega arith)

pub flow_from-requires : goal.flow_from-requires
flow_from-requires t c = let l = after 7 c.args.part.known c.requires c.kind_at-kind.ensures c.in-7.is refl in (omega arith, omega arith)

pub overflow_sub-i : goal.overflow_sub-i
overflow_sub-i t c = after 9 c.args.part.known c.requires c.kind_at-kind.ensures c.in-9.is refl

pub flow_from-requires-in-9 : goal.flow_from-requires-in-9
flow_from-requires-in-9 t c = let l = after 9 c.args.part.known c.requires c.kind_at-kind.ensures c.in-9.is refl in (omega arith, omega arith)

pub overflow_sub-b-in-10 : goal.overflow_sub-b-in-10
overflow_sub-b-in-10 t c = after 10 c.args.part.known c.requires c.kind_at-kind.ensures c.in-10.is refl

pub flow_from-first-requires-in-10 : goal.flow_from-first-requires-in-10
flow_from-first-requires-in-10 t c = let l = after 10 c.args.part.known c.requires c.kind_at-kind.ensures c.in-10.is refl in (omega arith, omega arith)

pub flow_from-requires-in-10 : goal.flow_from-requires-in-10
flow_from-requires-in-10 t c = let l = after 10 c.args.part.known c.requires c.kind_at-kind.ensures c.in-10.is refl in (omega arith, omega arith)

pub overflow_sub-i-in-11 : goal.overflow_sub-i-in-11
overflow_sub-i-in-11 t c = after 11 c.args.part.known c.requires c.kind_at-kind.ensures c.in-11.is refl

pub flow_from-requires-in-11 : goal.flow_from-requires-in-11
flow_from-requires-in-11 t c = let l = after 11 c.args.part.known c.requires c.kind_at-kind.ensures c.in-11.is refl in (omega arith, omega arith)

pub returns-in-7 : goal.returns-in-7
returns-in-7 t c = follows_seq c.args.part.bytes.now c.args.i (sym c.kind_at-kind.ensures ∙ c.in-7.is) (after 7 c.args.part.known c.requires c.kind_at-kind.ensures c.in-7.is refl) c.prior.ensures c.in_sequence.ensures c.flow_from-first.ensures c.flow_from.ensures

pub returns-in-8 : goal.returns-in-8
returns-in-8 t c = follows_assign c.args.part.bytes.now c.args.i (sym c.kind_at-kind.ensures ∙ c.in-8.is) (after 8 c.args.part.known c.requires c.kind_at-kind.ensures c.in-8.is refl) c.b_at.ensures c.plain.ensures c.insert.ensures

pub returns-in-9 : goal.returns-in-9
returns-in-9 t c = follows_decl c.args.part.bytes.now c.args.i (sym c.kind_at-kind.ensures ∙ c.in-9.is) (after 9 c.args.part.known c.requires c.kind_at-kind.ensures c.in-9.is refl) c.b_at-x.ensures c.in_scope.ensures (rw c.remove.ensures at c.flow_from-in-9.ensures)

pub returns-in-10 : goal.returns-in-10
returns-in-10 t c = follows_if c.args.part.bytes.now c.args.i (sym c.kind_at-kind.ensures ∙ c.in-10.is) (after 10 c.args.part.known c.requires c.kind_at-kind.ensures c.in-10.is refl) c.prior-in-10.ensures c.in_branches.ensures c.flow_from-first-in-10.ensures c.flow_from-in-10.ensures

pub returns-in-11 : goal.returns-in-11
returns-in-11 t c = follows_while c.args.part.bytes.now c.args.i (sym c.kind_at-kind.ensures ∙ c.in-11.is) (after 11 c.args.part.known c.requires c.kind_at-kind.ensures c.in-11.is refl) c.in_loop.ensures c.flow_from-in-11.ensures

pub returns-in-12 : goal.returns-in-12
returns-in-12 t c = follows_return c.args.part.bytes.now c.args.i (sym c.kind_at-kind.ensures ∙ c.in-12.is) (after 12 c.args.part.known c.requires c.kind_at-kind.ensures c.in-12.is refl) c.plain-in-12.ensures (rw c.full.ensures at c.union.ensures)

pub returns-in_default : goal.returns-in_default
returns-in_default t c = follows_rest c.args.part.bytes.now c.args.i c.args.set _ (sym c.kind_at-kind.ensures) c.in_default.in_default-own.rest.0.0.0.0.0.1 c.in_default.in_default-own.rest.0.0.0.0.1 c.in_default.in_default-own.rest.0.0.0.1 c.in_default.in_default-own.rest.0.0.1 c.in_default.in_default-own.rest.0.1 c.in_default.in_default-own.rest.1 c.plain-in_default.ensures
