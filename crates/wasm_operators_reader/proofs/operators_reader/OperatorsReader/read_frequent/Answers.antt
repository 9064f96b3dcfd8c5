use Rattle.std.proofs.Common.{◌∙◌, subst}
use Rattle.wasm_operators_enums.specs.Op.{op_of}
use Rattle.wasm_operators_reader.specs.Standing.{Standing, Reads}
use Rattle.wasm_operators_reader.specs.StandingLaws.{same_parts}
use Rattle.wasm_operators_reader.proofs.operators_reader.OperatorsReader.read_frequent.Goals as goal

pub returns-clause-read : goal.returns-clause-read
returns-clause-read c =
    let there : Standing = record { bytes = c.read_frequent.new.reader; frames = c.read_frequent.new.control.frames } in
    subst (λ (s : Standing). Reads s (op_of c.in-Some.op) there) c.self.view_is c.in-Some.ensures.read

pub returns-in_default-clause-stays : goal.returns-in_default-clause-stays
returns-in_default-clause-stays c =
    same_parts c.read_frequent.new.reader c.self.inside.reader c.read_frequent.new.control.frames c.self.inside.control.frames c.in_default.ensures.stays.0 c.in_default.ensures.stays.1 ∙ c.self.view_is
