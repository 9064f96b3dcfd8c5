use Rattle.std.proofs.Common.{◌∙◌, sym}
use Rattle.wasm_operator_validator_fast_steps.proofs.Indexed.{names_none, names_one}
use Rattle.wasm_operator_validator_fast_steps.proofs.indices.memory_named.Goals as goal

pub returns-then-flags-lt16-clause-named : goal.returns-then-flags-lt16-clause-named
returns-then-flags-lt16-clause-named c = names_none c.args.features.0 c.args.bytes.now c.args.at c.requires c.if-flags-lt16.true

pub returns-clause-named : goal.returns-clause-named
returns-clause-named c =
    names_one c.args.features.0 c.args.bytes.now c.args.at c.in-Some.memory c.in-Some.end c.requires c.if-flags-lt64.false c.if-flags-ge80.false
    (sym c.multi_memory.ensures ∙ c.if-not-multi_memory.false) c.in-Some.ensures.found
