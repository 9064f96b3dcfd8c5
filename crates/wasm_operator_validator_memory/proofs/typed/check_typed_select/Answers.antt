use Rattle.std.proofs.Common.{ℕ, [], ◌∷◌, false, refl, subst}
use Rattle.wasm_types.specs.decoding.Denials.{Denies}
use Rattle.wasm_types.specs.values.declared.value.ValType.TheVariants as vals
use Rattle.wasm_operators_immediates.specs.declared.proposal.Proposal.TheVariants.{ReferenceTypes}
use Rattle.wasm_operator_validator_rules.specs.Context.{IsType}
use Rattle.wasm_operator_validator_state.specs.resources.Meaning.{type_in}
use Rattle.wasm_operator_validator_state.specs.Refusals.{kind_of, refused}
use Rattle.wasm_operator_validator_state.specs.State.{types_in}
use Rattle.wasm_operator_validator_stacks.specs.determined.laws.Same.{stays_refl}
use Rattle.wasm_operator_validator_stacks.specs.determined.laws.Determined.{not_begun, refused_then, refused_here, by_types}
use Rattle.wasm_operator_validator_stacks.specs.determined.laws.Usable.{denies_as}
use Rattle.wasm_operator_validator_memory.proofs.WrittenTypes.{typed_op, typed_is, typed_row, not_typed, not_used}
use Rattle.wasm_operator_validator_memory.proofs.typed.check_typed_select.Goals as goal

pub returns-in-Err : goal.returns-in-Err
returns-in-Err g c =
    not_begun c.in-Err.refusal (g.R.WasmModuleResources.meaning c.args.resources.now) c.args.validator.now (typed_op c.args.ty) ReferenceTypes false (typed_is c.args.ty) c.in-Err.ensures.begins c.in-Err.ensures.stops

pub returns-in-Err-check_value_type : goal.returns-in-Err-check_value_type
returns-in-Err-check_value_type g c =
    let m = g.R.WasmModuleResources.meaning c.args.resources.now in
    let n = c.check_value_type.new.ty in
    let d = subst (λ (x : ℕ). Denies c.in-Err-check_value_type.error.kind (IsType x m.«module» c.args.ty (type_in m n))) c.features-features.ensures c.in-Err-check_value_type.ensures.answer in
    refused_then (kind_of c.refusal_of.result) m c.args.validator.now c.args.validator.now (typed_op c.args.ty) ReferenceTypes false c.in-Ok.ensures.begins (stays_refl c.args.validator.now)
    (rw c.refusal_of.ensures (denies_as c.in-Err-check_value_type.error.kind _ (not_typed c.in-Err-check_value_type.error.kind m c.args.validator.now c.args.ty n c.in-Ok.ensures.begins c.in-Err-check_value_type.ensures.refused d)))

pub returns-then-not-may_use_type : goal.returns-then-not-may_use_type
returns-then-not-may_use_type g c =
    let m = g.R.WasmModuleResources.meaning c.args.resources.now in
    let n = c.check_value_type.new.ty in
    let i = subst (λ (x : ℕ). IsType x m.«module» c.args.ty (type_in m n)) c.features-features.ensures c.in-Ok-check_value_type.ensures.answer in
    refused_here _ m c.args.validator.now (typed_op c.args.ty) ReferenceTypes false c.in-Ok.ensures.begins
    (not_used m c.args.validator.now c.args.ty n c.may_use_type.result c.in-Ok.ensures.begins i c.may_use_type.ensures c.if-not-may_use_type.true)

pub returns : goal.returns
returns g c =
    let m = g.R.WasmModuleResources.meaning c.args.resources.now in
    let n = c.check_value_type.new.ty in
    let i = subst (λ (x : ℕ). IsType x m.«module» c.args.ty (type_in m n)) c.features-features.ensures c.in-Ok-check_value_type.ensures.answer in
    by_types (refused c.exchange.result) m c.args.validator.now c.exchange.new.self (typed_op c.args.ty) ReferenceTypes false (types_in m (n ∷ n ∷ vals.I32 ∷ [])) (types_in m (n ∷ [])) (typed_is c.args.ty) c.in-Ok.ensures.begins
    (λ set. refl) (typed_row m c.args.validator.now c.args.ty n i (c.may_use_type.ensures.0 c.if-not-may_use_type.false)) (rw (c.copied.ensures, c.copied-2.ensures, c.copied-3.ensures) at c.exchange.ensures.does) (record { given = c.exchange.ensures.given; failed = c.exchange.ensures.failed; saved = c.exchange.ensures.saved })
