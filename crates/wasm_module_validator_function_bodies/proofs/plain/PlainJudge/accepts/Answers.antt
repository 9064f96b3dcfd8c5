use Rattle.std.proofs.Common.{◌∙◌, refl, sym, ap, subst}
use Rattle.wasm_types.specs.decoding.Decoder.{State as Bytes}
use Rattle.wasm_module_validator_function_bodies.specs.Locals.{judged_by}
use Rattle.wasm_operator_validator_arity.specs.resources.Meaning.{entry_in}
use Rattle.wasm_module_validator_function_bodies.specs.Functions.{SpellsValidFunction}
use Rattle.wasm_module_validator_function_bodies.proofs.Judged.{valid_body, not_shared}
use Rattle.wasm_module_validator_function_bodies.proofs.plain.PlainJudge.accepts.Goals as goal

pub returns-clause-valid : goal.returns-clause-valid
returns-clause-valid g c = λ holds.
    let m = g.R.WasmModuleResources.meaning c.args.resources.now in
    let z = judged_by c.args.features.0 c.args.limits in
    let k = c.requires c.if-not-self.false in
    rw c.as_bytes-bytes.ensures at (valid_body k.ids z m.«module» c.args.ty c.as_bytes-bytes.result.now c.args.self.now.tables c.begin.new.tables c.in-Some-begin.start
    c.in-Some-begin.ensures.begun k.tells k.features c.begin.ensures.same c.if-bytes-limits.false (c.if-not-allows_lists.ensures refl)
    (not_shared (entry_in m c.in-Some.sub_type.now) _ c.in-Some.ensures c.if-sub_type.false)
    (λ h fits params others. c.accepts-valid.ensures holds k.ids z h fits params others))
