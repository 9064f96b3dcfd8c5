use Rattle.wasm_types.specs.values.declared.value.ValType.{ValType}
use Rattle.std.proofs.Common.{subst}
use Rattle.wasm_types.specs.trees.Gates.{ValueIsAllowed}
use Rattle.wasm_types.specs.values.Values.{value_of}
use Rattle.wasm_operator_validator_resources.proofs.Naming.{named_value, plain_value}
use Rattle.wasm_operator_validator_resources.proofs.resources.WasmModuleResources.check_value_type.Goals as goal

pub returns-in-Ref-clause-answer : goal.returns-in-Ref-clause-answer
returns-in-Ref-clause-answer g c =
    let m = g.Self.WasmModuleResources.meaning c.args.self.now in
    rw c.in-Ref.is
    (named_value c.check_ref_type.result m c.args.features.now.0 c.in-Ref.reference c.check_ref_type.new.ty
    (subst (λ (t : ValType). ValueIsAllowed c.args.features.now.0 (value_of t)) c.in-Ref.is c.in_ok-check_value_type_features.ensures.answer)
    c.check_ref_type.ensures.answer c.check_ref_type.ensures.named)

pub returns : goal.returns
returns g c =
    record {
      answer = plain_value (g.Self.WasmModuleResources.meaning c.args.self.now) c.args.features.now.0 c.args.ty.now c.in_default.not-Ref c.in_ok-check_value_type_features.ensures.answer;
      refused = tt;
      at = tt;
    }
