use Rattle.std.proofs.Common.{rules}
use Rattle.std.proofs.Common.{ℕ}
use Rattle.wasm_module_validator_rules.specs.Valid.{IsValidElementType, IsValidTableType}
use Rattle.wasm_module_validator_checks.specs.externs.Refusals.{allowing}
use Rattle.wasm_module_validator_checks.proofs.Refusing.{refusal_from}
use Rattle.wasm_module_validator_checks.proofs.externs.table.check_table_type.Goals as goal

pub returns-in-Err-clause-refused : goal.returns-in-Err-clause-refused
returns-in-Err-clause-refused g c =
    let m = g.R.WasmModuleResources.meaning c.args.resources.now in
    let z = c.args.settings.now in
    refusal_from z.features (λ b. IsValidElementType (allowing b z) m.«module» c.args.ty.now.element_type) (λ b. IsValidTableType (allowing b z) m.«module» c.args.ty.now)
    c.in-Err.error.kind (λ b h. h.element) c.in-Err.ensures.refused

pub returns-then-not-are_within-clause-refused : goal.returns-then-not-are_within-clause-refused
returns-then-not-are_within-clause-refused c = search rules
