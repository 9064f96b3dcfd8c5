use Rattle.std.proofs.Common.{◌∙◌, sym, ap}
use Rattle.wasm_types.specs.settings.Features.{judges_vectors}
use Rattle.wasm_operator_validator_stacks.specs.determined.laws.Determined.{not_begun}
use Rattle.wasm_operator_validator_vectors.proofs.Vectors.{checks_unswitched}
use Rattle.wasm_operator_validator_vectors.proofs.entering.begin_vector.Goals as goal

pub returns-then-not-vector_operators-clause-stops : goal.returns-then-not-vector_operators-clause-stops
returns-then-not-vector_operators-clause-stops c = λ m o i. checks_unswitched m c.args.validator.now o c.args.proposal c.args.floats i (sym c.if-has_failed.ensures)
    (sym (c.if-not-vector_operators.ensures ∙ ap judges_vectors c.features.ensures))

pub returns-in-Err-clause-stops : goal.returns-in-Err-clause-stops
returns-in-Err-clause-stops c = λ m o i. not_begun c.in-Err.refusal m c.args.validator.now o c.args.proposal c.args.floats i.table.is c.in-Err.ensures.begins c.in-Err.ensures.stops
