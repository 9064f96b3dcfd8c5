use Rattle.std.proofs.Common.{ℕ, arith, rules}
use Rattle.std.proofs.lemmas.Grind.{common_steps}
use Rattle.wasm_module_validator_rules.specs.Valid.{IsValidValueType, IsValidGlobalType}
use Rattle.wasm_module_validator_checks.specs.externs.Refusals.{allowing, has}
use Rattle.wasm_module_validator_checks.proofs.Refusing.{refusal_from}
use Rattle.wasm_module_validator_checks.proofs.externs.values.check_global_type.Goals as goal

pub returns-in-Err-clause-refused : goal.returns-in-Err-clause-refused
returns-in-Err-clause-refused g c =
    let m = g.R.WasmModuleResources.meaning c.args.resources.now in
    let z = c.args.settings.now in
    refusal_from z.features (λ b. IsValidValueType (allowing b z) m.«module» c.args.ty.now.content_type) (λ b. IsValidGlobalType (allowing b z) m.«module» c.args.ty.now)
    c.in-Err.error.kind (λ b h. h.content) c.in-Err.ensures.refused

pub returns-clause-answer : goal.returns-clause-answer
returns-clause-answer c = search rules

pub returns-in_err-require-clause-refused : goal.returns-in_err-require-clause-refused
unfolding has
returns-in_err-require-clause-refused c = first_of (search rules, grind (arith, common_steps))
