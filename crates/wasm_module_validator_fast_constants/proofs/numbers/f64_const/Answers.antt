use Rattle.std.proofs.Common.{rules}
use Rattle.wasm_types.specs.settings.Features.{Floats}
use Rattle.wasm_types.specs.trees.Gates.{Has}
use Rattle.wasm_module_validator_fast_constants.proofs.Passing.{f64_next}
use Rattle.wasm_module_validator_fast_constants.proofs.numbers.f64_const.Goals as goal

pub returns : goal.returns
returns c m =
    let allowed : Has c.args.features.now.0 Floats = search rules in
    f64_next c.args.features.now.0 m c.args.bytes.now c.args.at c.in-Some.end c.args.stack.now.items c.in-Some._value c.put.new.stack.items c.requires c.in-Some.ensures allowed
    (c.put.ensures c.if-not-put.false)
