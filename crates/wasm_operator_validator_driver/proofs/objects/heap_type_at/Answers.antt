use Rattle.std.proofs.Common.{rules, ◌≡◌, ◌<◌, ◌≤◌, get_or, length, Some, sym, ◌∙◌}
use Rattle.wasm_types.specs.values.Decode.{type_of_byte}
use Rattle.wasm_operator_validator_driver.proofs.Carried.{abstract_there}
use Rattle.wasm_operator_validator_driver.proofs.objects.heap_type_at.Goals as goal

pub returns-in-Some : goal.returns-in-Some
returns-in-Some c =
    let inside : c.args.at < length c.args.bytes.now = search rules in
    let low : 0x66 ≤ get_or c.args.bytes.now c.args.at 0 = search rules in
    let is : type_of_byte (get_or c.args.bytes.now c.args.at 0) ≡ Some c.in-Some.ty = search rules in
    abstract_there c.args.bytes.now c.args.at inside (sym c.begins_index.ensures ∙ c.if-begins_index.false) c.in-Some.ty low is
