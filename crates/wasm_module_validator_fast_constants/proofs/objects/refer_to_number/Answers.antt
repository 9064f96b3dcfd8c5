use Rattle.wasm_module_validator_fast_constants.proofs.objects.refer_to_number.Goals as goal

pub returns : goal.returns
returns c h = (c.take_integer.new.stack.items, c.in-Some.reference, c.take_integer.ensures c.if-not-take_integer.false, c.in-Some.ensures.value, c.put.ensures h)
