use Rattle.wasm_module_validator_resources.specs.Reading.{names_in}
use Rattle.wasm_module_validator_resources.proofs.Answering.{then, never, through, references_below, not_number, numbers_below}
use Rattle.wasm_module_validator_resources.proofs.resources.OperatorValidatorResources.value_is_below.Goals as goal

pub returns-in-Some-as_reference_type : goal.returns-in-Some-as_reference_type
returns-in-Some-as_reference_type c =
    references_below (names_in (c.args.self.now.types.now.groups) (c.args.self.now.«module».now.types)) c.args.a c.args.b c.in-Some.a_ref c.in-Some-as_reference_type.b_ref
    c.reference_is_below.result c.in-Some.ensures c.in-Some-as_reference_type.ensures c.reference_is_below.ensures

pub returns-in-None-as_reference_type : goal.returns-in-None-as_reference_type
returns-in-None-as_reference_type c =
    never (not_number (names_in (c.args.self.now.types.now.groups) (c.args.self.now.«module».now.types)) c.args.a c.args.b c.in-Some.a_ref c.in-Some.ensures c.in-None-as_reference_type.ensures)

pub returns-in-None : goal.returns-in-None
returns-in-None c =
    then (through c.eq.result _ c.eq.ensures (c.equality_is_identity.ensures.value c.args.a c.args.b)) (numbers_below (names_in (c.args.self.now.types.now.groups)
    (c.args.self.now.«module».now.types)) c.args.a c.args.b c.in-None.ensures)
