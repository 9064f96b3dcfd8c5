use Rattle.wasm_module_validator_declarations.proofs.ShortItems.{short_export}
use Rattle.wasm_module_validator_declarations.proofs.short.short_export_at.Goals as goal

pub returns : goal.returns
returns c =
    short_export c.args.bytes.now c.args.at c.in-Some.middle c.in-Some-short_u32_at.index c.in-Some-short_u32_at.end c.in-Some-kind_of.kind c.in-Some.name.now c.args.limits.now
    c.in-Some.ensures.name c.in-Some.ensures.inside c.in-Some-kind_of.ensures.byte c.in-Some-kind_of.ensures.exported c.in-Some-short_u32_at.ensures.found
