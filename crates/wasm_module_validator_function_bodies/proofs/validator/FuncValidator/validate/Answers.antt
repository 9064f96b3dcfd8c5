use Rattle.std.proofs.Common.{◌≡◌, ◌∙◌, ℕ, Ok, Err, ap, subst}
use Rattle.wasm_types.specs.decoding.Decoder.{State as Bytes}
use Rattle.wasm_types.specs.settings.declared.Limits.{Limits}
use Rattle.wasm_operator_validator_arity.specs.resources.Meaning.{Meaning}
use Rattle.wasm_operator_validator_expression.specs.Validating.{Validates}
use Rattle.wasm_module_validator_function_bodies.specs.Locals.{judged_by, ReadsLocals}
use Rattle.wasm_module_validator_function_bodies.specs.Functions.{under}
use Rattle.wasm_module_validator_function_bodies.specs.laws.Functions.{locals_refused, expression_judged}
use Rattle.wasm_module_validator_function_bodies.proofs.validator.FuncValidator.validate.Goals as goal

-- the bytes of a body, by the features and the limits of its validator
same_bytes : (n k : ℕ) (l h : Limits) (r s b : Bytes) → n ≡ k → l ≡ h → s ≡ b → r ≡ under (judged_by n l) s → r ≡ under (judged_by k h) b
same_bytes n k l h r s b e i f j = j ∙ ap (λ (x : ℕ). under (judged_by x l) s) e ∙ ap (λ (x : Limits). under (judged_by k x) s) i ∙ ap (under (judged_by k h)) f

pub returns-in-Err-clause-validates : goal.returns-in-Err-clause-validates
returns-in-Err-clause-validates g c =
    let m = g.R.WasmModuleResources.meaning c.args.self.now.resources in
    let σ = c.args.self.now.validator in
    let l = c.args.self.now.limits in
    let same = same_bytes c.features.result.0 σ.given.bits c.get-limits.result l c.read_under-reader.result c.get_binary_reader.result c.args.body.now c.features.ensures c.get-limits.ensures.value
    c.get_binary_reader.ensures c.read_under-reader.ensures in
    locals_refused m l c.args.body.now σ c.in-Err.error c.read_locals.new.reader c.read_locals.new.self.validator
    (subst (λ (b : Bytes). ReadsLocals m l b σ (Err c.in-Err.error) c.read_locals.new.reader c.read_locals.new.self.validator) same c.in-Err.ensures.reads)

pub returns-clause-validates : goal.returns-clause-validates
returns-clause-validates g c =
    let m = g.R.WasmModuleResources.meaning c.args.self.now.resources in
    let σ = c.args.self.now.validator in
    let l = c.args.self.now.limits in
    let same = same_bytes c.features.result.0 σ.given.bits c.get-limits.result l c.read_under-reader.result c.get_binary_reader.result c.args.body.now c.features.ensures c.get-limits.ensures.value
    c.get_binary_reader.ensures c.read_under-reader.ensures in
    expression_judged m l c.args.body.now σ c.read_locals.new.reader c.read_locals.new.self.validator
    (subst (λ (b : Bytes). ReadsLocals m l b σ (Ok (tt {0})) c.read_locals.new.reader c.read_locals.new.self.validator) same c.in-Ok.ensures.reads)
    c.validate_expression.result c.validate_expression.new.validator
    (subst (λ (n : Meaning). Validates n c.read_locals.new.self.validator c.read_locals.new.reader c.validate_expression.result c.validate_expression.new.validator) (ap g.R.WasmModuleResources.meaning c.in-Ok.ensures.resources) c.validate_expression.ensures.validates)
