use Rattle.std.proofs.Common.{arith}
use Rattle.wasm_module_validator_resources.proofs.Answering.{then, never, unrolled, not_placed, not_counted}
use Rattle.wasm_module_validator_resources.proofs.resources.OperatorValidatorResources.unroll_alike.Goals as goal

pub returns-then-number-first : goal.returns-then-number-first
returns-then-number-first c =
    never (not_placed (c.args.self.now.«module».now.settings.features) (c.args.self.now.types.now.groups) c.type_count-count.ensures.formed c.args.self.now.settled.settled
    c.requires.plain c.args.a.0 c.args.b.0 c.span_of-first.result.first c.span_of-first.result.len c.span_of-other.result.first c.span_of-other.result.len c.requires.a_known
    c.requires.b_known c.span_of-first.ensures c.span_of-other.ensures (λ e. let x = c.number.ensures in let y = c.number-2.ensures in omega arith))

pub returns : goal.returns
returns c =
    then c.are_stored_alike.ensures (unrolled (c.args.self.now.«module».now.settings.features) (c.args.self.now.types.now.groups) c.type_count-count.ensures.formed
    c.args.self.now.settled.settled c.requires.plain c.args.a.0 c.args.b.0 c.span_of-first.result.first c.span_of-first.result.len c.span_of-other.result.first
    c.span_of-other.result.len c.requires.a_known c.requires.b_known c.span_of-first.ensures c.span_of-other.ensures (let x = c.number.ensures in let y = c.number-2.ensures in
    omega arith) (omega arith))

pub returns-then-first-other : goal.returns-then-first-other
returns-then-first-other c =
    never (not_counted (c.args.self.now.«module».now.settings.features) (c.args.self.now.types.now.groups) c.type_count-count.ensures.formed c.args.self.now.settled.settled
    c.requires.plain c.args.a.0 c.args.b.0 c.span_of-first.result.first c.span_of-first.result.len c.span_of-other.result.first c.span_of-other.result.len c.requires.a_known
    c.requires.b_known c.span_of-first.ensures c.span_of-other.ensures (λ e. omega arith))

pub overflow_sub-number : goal.overflow_sub-number
overflow_sub-number c =
    let begins = c.span_of-first.ensures.begins in
    let same = c.number.ensures in
    omega arith

pub overflow_sub-number-2 : goal.overflow_sub-number-2
overflow_sub-number-2 c =
    let begins = c.span_of-other.ensures.begins in
    let same = c.number-2.ensures in
    omega arith

pub are_stored_alike-requires-clause-first : goal.are_stored_alike-requires-clause-first
are_stored_alike-requires-clause-first c = c.span_of-first.ensures.known

pub are_stored_alike-requires-clause-other : goal.are_stored_alike-requires-clause-other
are_stored_alike-requires-clause-other c = let known = c.span_of-other.ensures.known in omega arith
