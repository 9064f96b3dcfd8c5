use Rattle.std.proofs.Common.{◌∙◌, refl, sym}
use Rattle.wasm_operator_validator_fast_tables.proofs.Standing.{abstract_stands}
use Rattle.wasm_operator_validator_fast_tables.proofs.codes.code_of_reference.Goals as goal

pub returns-in-Some : goal.returns-in-Some
returns-in-Some c = λ lt m.
    abstract_stands m c.args.ty _ c.last_bit-last.result c.last_bit-last.ensures.few (c.last_bit-last.ensures.null ∙ c.is_nullable.ensures)
    c.heap_type.result c.in-Abstract.shared c.in-Abstract.ty c.in-Some.number c.heap_type.ensures.value (sym c.in-Abstract.is) c.if-shared.false c.in-Some.ensures.0 c.in-Some.ensures.1 refl
