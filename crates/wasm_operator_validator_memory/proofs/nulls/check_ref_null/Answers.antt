use Rattle.std.proofs.Common.{ℕ, [], ◌∷◌, false, refl, subst}
use Rattle.wasm_types.specs.decoding.Denials.{Denies}
use Rattle.wasm_operators_immediates.specs.declared.proposal.Proposal.TheVariants.{ReferenceTypes}
use Rattle.wasm_operators_enums.specs.declared.bulk.BulkOperator.TheVariants as bulk
use Rattle.wasm_operator_validator_rules.specs.Context.{IsType}
use Rattle.wasm_operator_validator_state.specs.resources.Meaning.{type_in}
use Rattle.wasm_operator_validator_state.specs.Refusals.{kind_of, refused}
use Rattle.wasm_operator_validator_state.specs.State.{types_in}
use Rattle.wasm_operator_validator_stacks.specs.determined.laws.Determined.{not_begun, refused_here, given_only, by_types}
use Rattle.wasm_operator_validator_memory.specs.Tables.{null_of}
use Rattle.wasm_operator_validator_memory.proofs.Indexing.{is_bulk}
use Rattle.wasm_operator_validator_memory.proofs.Null.{IsSome, null_op, null_row, null_unknown, null_unusable}
use Rattle.wasm_operator_validator_memory.proofs.nulls.check_ref_null.Goals as goal

pub returns-in-Err : goal.returns-in-Err
returns-in-Err g c =
    let m = g.R.WasmModuleResources.meaning c.args.resources.now in
    not_begun c.in-Err.refusal m c.args.validator.now (null_op c.args.hty) ReferenceTypes false (is_bulk (bulk.RefNull c.args.hty)) c.in-Err.ensures.begins c.in-Err.ensures.stops

pub returns-in-Err-name_null : goal.returns-in-Err-name_null
returns-in-Err-name_null g c =
    let m = g.R.WasmModuleResources.meaning c.args.resources.now in
    null_unknown (kind_of c.in-Err-name_null.refusal) m c.args.validator.now c.args.hty c.in-Ok.ensures.begins
    (subst (λ (x : ℕ). Denies (kind_of c.in-Err-name_null.refusal) (IsSome x m (null_of c.args.hty))) c.features-features.ensures c.in-Err-name_null.ensures)

pub returns-then-not-may_use_type : goal.returns-then-not-may_use_type
returns-then-not-may_use_type g c =
    let m = g.R.WasmModuleResources.meaning c.args.resources.now in
    let n = c.in-Ok-name_null.ty in
    let i = subst (λ (x : ℕ). IsType x m.«module» (null_of c.args.hty) (type_in m n)) c.features-features.ensures c.in-Ok-name_null.ensures in
    refused_here _ m c.args.validator.now (null_op c.args.hty) ReferenceTypes false c.in-Ok.ensures.begins
    (null_unusable m c.args.validator.now c.args.hty n c.may_use_type.result c.in-Ok.ensures.begins i c.may_use_type.ensures c.if-not-may_use_type.true)

pub returns : goal.returns
returns g c =
    let m = g.R.WasmModuleResources.meaning c.args.resources.now in
    let n = c.in-Ok-name_null.ty in
    let i = subst (λ (x : ℕ). IsType x m.«module» (null_of c.args.hty) (type_in m n)) c.features-features.ensures c.in-Ok-name_null.ensures in
    by_types (refused c.push_operands.result) m c.args.validator.now c.push_operands.new.self (null_op c.args.hty) ReferenceTypes false [] (types_in m (n ∷ [])) (is_bulk (bulk.RefNull c.args.hty))
    c.in-Ok.ensures.begins (λ set. refl) (null_row m c.args.validator.now c.args.hty n i (c.may_use_type.ensures.0 c.if-not-may_use_type.false))
    (given_only (refused c.push_operands.result) m c.args.validator.now c.push_operands.new.self (types_in m (n ∷ [])) c.push_operands.ensures.does)
    (record { given = c.push_operands.ensures.given; failed = c.push_operands.ensures.failed; saved = c.push_operands.ensures.saved })
