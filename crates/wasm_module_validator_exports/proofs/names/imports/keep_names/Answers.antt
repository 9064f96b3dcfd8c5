use Rattle.std.proofs.Common.{◌∙◌, ◌++◌, ap, length, refl, List, ℕ, Some}
use Rattle.wasm_module_validator_exports.specs.declared.names.imports.KeptNames.{KeptNames}
use Rattle.wasm_module_validator_exports.proofs.Keeping.{keeps_names, stays_without}
use Rattle.wasm_module_validator_exports.proofs.names.imports.keep_names.Goals as goal

pub returns-in_default-reserve : goal.returns-in_default-reserve
returns-in_default-reserve c =
    stays_without c.args.module.now c.args.name.now c.args.place c.args.modules.now.items c.keep_module.new.modules.items c.args.names.now.items c.reserve.new.self.items
    (Some c.in-Some.module) c.in-Some.ensures c.in_default-reserve.ensures.items

pub returns : goal.returns
returns c =
    let f = c.args.name.now in
    let same = c.in-Ok.ensures.items in
    let put = c.push_name_in_room-name.ensures in
    let kept : KeptNames = record { «module» = c.in-Some.module; name = c.push_name_in_room-name.result; first = c.args.place; others = c.new.result } in
    keeps_names c.args.module.now f c.args.place c.args.modules.now.items c.keep_module.new.modules.items c.args.names.now.items c.push_name_in_room-name.new.names.items
    kept c.in-Some.ensures (put.bytes ∙ ap (λ (v : List ℕ). v ++ f) same) put.utf8 (put.start ∙ ap length same) put.end refl c.new.ensures.items
