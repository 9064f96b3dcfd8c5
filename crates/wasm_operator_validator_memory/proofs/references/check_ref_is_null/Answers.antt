use Rattle.std.proofs.Common.{◌∙◌, sym, false}
use Rattle.wasm_operators_immediates.specs.declared.proposal.Proposal.TheVariants.{ReferenceTypes}
use Rattle.wasm_operators_enums.specs.declared.bulk.BulkOperator.TheVariants as bulk
use Rattle.wasm_operator_validator_state.specs.Refusals.{kind_of, refused}
use Rattle.wasm_operator_validator_state.specs.laws.Accepting.{same_open}
use Rattle.wasm_operator_validator_stacks.specs.determined.laws.Determined.{not_begun}
use Rattle.wasm_operator_validator_memory.proofs.Indexing.{is_bulk}
use Rattle.wasm_operator_validator_memory.proofs.Referring.{is_null, tested, nothing_tested, no_reference}
use Rattle.wasm_operator_validator_memory.proofs.references.check_ref_is_null.Goals as goal

pub returns-in-Err : goal.returns-in-Err
returns-in-Err g c =
    let m = g.R.WasmModuleResources.meaning c.args.resources.now in
    not_begun c.in-Err.refusal m c.args.validator.now is_null ReferenceTypes false (is_bulk bulk.RefIsNull) c.in-Err.ensures.begins c.in-Err.ensures.stops

pub returns-in-Err-pop_any : goal.returns-in-Err-pop_any
returns-in-Err-pop_any g c =
    let m = g.R.WasmModuleResources.meaning c.args.resources.now in
    nothing_tested (kind_of c.in-Err-pop_any.refusal) m c.args.validator.now c.pop_any.new.self c.in-Ok.ensures.begins (c.in-Err-pop_any.ensures.does m)
    (record { given = c.pop_any.ensures.given; failed = c.pop_any.ensures.failed; saved = c.pop_any.ensures.saved })

pub returns-then-not-is_referring : goal.returns-then-not-is_referring
returns-then-not-is_referring g c =
    let m = g.R.WasmModuleResources.meaning c.args.resources.now in
    no_reference _ m c.args.validator.now c.pop_any.new.self c.in-Ok-pop_any.found c.in-Ok.ensures.begins (c.in-Ok-pop_any.ensures.does m) (sym c.is_referring.ensures ∙ c.if-not-is_referring.true)

pub push_operands-requires : goal.push_operands-requires
push_operands-requires g c =
    let m = g.R.WasmModuleResources.meaning c.args.resources.now in
    (same_open c.args.validator.now.opens c.pop_any.new.self.opens (c.in-Ok-pop_any.ensures.does m).same.frames).1

pub returns : goal.returns
returns g c =
    let m = g.R.WasmModuleResources.meaning c.args.resources.now in
    tested (refused c.push_operands.result) m c.args.validator.now c.pop_any.new.self c.push_operands.new.self c.in-Ok-pop_any.found c.in-Ok.ensures.begins (c.in-Ok-pop_any.ensures.does m)
    (sym c.is_referring.ensures ∙ c.if-not-is_referring.false) c.push_operands.ensures.does
    (record { given = c.push_operands.ensures.given; failed = c.push_operands.ensures.failed; saved = c.push_operands.ensures.saved })
