use Rattle.wasm_module_validator_section_order.specs.rules_in_order.BetweenLaws.{number_between}
use Rattle.wasm_module_validator_declarations.proofs.short.add_short_function.Goals as goal

pub returns-in-Ok-clause-added : goal.returns-in-Ok-clause-added
returns-in-Ok-clause-added c = record {
  item = c.in-Some.index;
  bytes = number_between c.args.bytes.now c.args.at c.in-Some.index c.in-Some.end c.in-Some.ensures.found;
  added = (c.in-Ok.ensures.answer, c.in-Ok.ensures.added);
}
