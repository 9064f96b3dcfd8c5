use Rattle.std.proofs.Common.{◌≡◌, ◌∙◌, ℕ, Option, Some, None, Bool, true, false, refl, sym, subst, slice_get}
use Rattle.wasm_operators_enums.specs.Op.{Op, op_of}
use Rattle.wasm_operator_validator_rules.specs.Context.{Module}
use Rattle.wasm_operator_validator_rules.specs.constants.Constants.{IsConstantOperator, IsConstantGlobal}
use Rattle.wasm_operator_validator_constants.specs.declared.refusal.ConstantRefusal.{ConstantRefusal}
use Rattle.wasm_operator_validator_constants.specs.Operators.{global_read, is_listed, is_allowed, RefusesListed, RefusesBy, RefusesOperator}
use Rattle.wasm_operator_validator_constants.specs.declared.refusal.ConstantRefusal.TheVariants as refusals
use Rattle.wasm_operator_validator_constants.specs.laws.Operators.{constant_listed, not_listed, refusal_denies}
use Rattle.wasm_operator_validator_constants.proofs.operators.is_constant_operator.Goals as goal

-- an operator that reads no global is refused so
refused_so : (bits : ℕ) (g : Module) (count : ℕ) (o : Op) → global_read o ≡ None → (r : ConstantRefusal) → RefusesListed bits o r → RefusesOperator bits g count o r
refused_so bits g count o e r h = subst (λ (at : Option ℕ). RefusesBy bits g count o at r) (sym e) h

pub returns-then-not-is_listed : goal.returns-then-not-is_listed
returns-then-not-is_listed g c =
    let m = (g.R.WasmModuleResources.meaning c.args.resources.now).«module» in
    let o = op_of c.args.op.now in
    let none : global_read o ≡ None = sym c.global_read.ensures ∙ c.in_default.is in
    let off : is_listed o ≡ false = sym c.is_listed.ensures ∙ c.if-not-is_listed.true in
    let why : RefusesOperator c.args.features.0 m c.args.imported_globals o (refusals.NonConstant c.visit_name.result) =
    refused_so c.args.features.0 m c.args.imported_globals o none (refusals.NonConstant c.visit_name.result) (not_listed o none off) in
    record { constant = tt; refused = refusal_denies c.args.features.0 m c.args.imported_globals o (refusals.NonConstant c.visit_name.result) why; why = why }

pub returns-then-not-is_allowed : goal.returns-then-not-is_allowed
returns-then-not-is_allowed g c =
    let m = (g.R.WasmModuleResources.meaning c.args.resources.now).«module» in
    let o = op_of c.args.op.now in
    let none : global_read o ≡ None = sym c.global_read.ensures ∙ c.in_default.is in
    let listed : is_listed o ≡ true = sym c.is_listed.ensures ∙ c.if-not-is_listed.false in
    let off : is_allowed c.args.features.0 o ≡ false = sym c.is_allowed.ensures ∙ c.if-not-is_allowed.true in
    let r = refusals.NotEnabled c.feature_of.result c.info.result.name in
    let why : RefusesOperator c.args.features.0 m c.args.imported_globals o r =
    refused_so c.args.features.0 m c.args.imported_globals o none r (listed, off, c.feature_of.ensures) in
    record { constant = tt; refused = refusal_denies c.args.features.0 m c.args.imported_globals o r why; why = why }

pub returns : goal.returns
returns g c =
    let m = (g.R.WasmModuleResources.meaning c.args.resources.now).«module» in
    let o = op_of c.args.op.now in
    let none : global_read o ≡ None = sym c.global_read.ensures ∙ c.in_default.is in
    let listed : is_listed o ≡ true = sym c.is_listed.ensures ∙ c.if-not-is_listed.false in
    let allowed : is_allowed c.args.features.0 o ≡ true = sym c.is_allowed.ensures ∙ c.if-not-is_allowed.false in
    record { constant = (constant_listed c.args.features.0 m c.args.imported_globals o none).1 (listed, allowed); refused = tt; why = tt }
