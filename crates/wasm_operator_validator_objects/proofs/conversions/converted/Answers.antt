use Rattle.wasm_operator_validator_objects.proofs.Converting.{bottom_converted, unknown_converted, unknown_unconvertible}
use Rattle.wasm_operator_validator_objects.proofs.conversions.converted.Goals as goal

pub returns-in-Bottom : goal.returns-in-Bottom
returns-in-Bottom g c =
    let m = g.R.WasmModuleResources.meaning c.args.resources.now in
    rw c.in-Bottom.is (bottom_converted m c.args.from c.args.to)

pub returns-then-is_of_kind : goal.returns-then-is_of_kind
returns-then-is_of_kind g c =
    let m = g.R.WasmModuleResources.meaning c.args.resources.now in
    rw c.in-UnknownRef.is (unknown_converted m c.in-UnknownRef.field-0 c.args.from c.args.to c.is_of_kind.result (rw c.in-UnknownRef.is at c.is_of_kind.ensures) c.if-is_of_kind.true)

pub returns-else-is_of_kind : goal.returns-else-is_of_kind
returns-else-is_of_kind g c =
    let m = g.R.WasmModuleResources.meaning c.args.resources.now in
    rw c.in-UnknownRef.is (unknown_unconvertible m c.in-UnknownRef.field-0 c.args.from c.is_of_kind.result (rw c.in-UnknownRef.is at c.is_of_kind.ensures) c.if-is_of_kind.false)
