use Rattle.std.proofs.Common.{refl}
use Rattle.wasm_module_validator_exports.specs.declared.names.imports.KeptNames.{KeptNames}
use Rattle.wasm_module_validator_exports.proofs.Keeping.{read}
use Rattle.wasm_module_validator_exports.proofs.names.imports.push_at.Goals as goal

pub returns-in-Ok : goal.returns-in-Ok
returns-in-Ok c =
    let x : KeptNames = c.index_mut-kept.result.now in
    let y : KeptNames = record x { others = c.push.new.self } in
    (x, y, read c.args.pairs.now.items c.args.at x c.requires c.index_mut-kept.ensures.value, refl, refl, refl, refl, c.in-Ok.ensures.items)

pub returns-in-Err : goal.returns-in-Err
returns-in-Err c =
    let x : KeptNames = c.index_mut-kept.result.now in
    let y : KeptNames = record x { others = c.push.new.self } in
    (x, y, read c.args.pairs.now.items c.args.at x c.requires c.index_mut-kept.ensures.value, refl, refl, refl, refl, c.in-Err.ensures.items)
