use Rattle.std.proofs.Common.{◌≡◌, ◌+◌, ℕ, subst, rules}
use Rattle.wasm_types.specs.decoding.Leb.{u32}
use Rattle.wasm_types.specs.decoding.Numbers.{GivesAt}
use Rattle.wasm_types.specs.settings.Features.{Gc}
use Rattle.wasm_types.specs.trees.Gates.{Has}
use Rattle.wasm_operators_frequent.specs.Short.{BeginsPrefixed}
use Rattle.wasm_module_validator_fast_constants.proofs.Passing.{number_next}
use Rattle.wasm_module_validator_fast_constants.proofs.objects.object.Goals as goal

pub returns-then-code-eq28 : goal.returns-then-code-eq28
returns-then-code-eq28 g c =
    let m = g.R.WasmModuleResources.meaning c.args.resources.now in
    let text = c.args.bytes.now in
    let gc : Has c.args.features.now.0 Gc = search rules in
    let is : c.in-Some.code ≡ 0x1c = search rules in
    let begins : BeginsPrefixed text c.args.at 0xfb 0x1c c.in-Some.middle
    = record { prefix_there = c.requires; code_there = subst (λ (n : ℕ). GivesAt u32 text (c.args.at + 1) n c.in-Some.middle) is c.in-Some.ensures.found } in
    number_next c.args.features.now.0 m text c.args.at c.in-Some.middle c.args.stack.now.items c.refer_to_number.new.stack.items begins gc
    (c.refer_to_number.ensures c.if-not-refer_to_number.false)
