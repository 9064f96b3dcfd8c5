use Rattle.std.proofs.Common.{subst}
use Rattle.wasm_operators_enums.specs.Op.{Op}
use Rattle.wasm_operators_reader.specs.Standing.{Standing, Reads}
use Rattle.wasm_operators_reader.proofs.frequent.read_frequent.Goals as goal

-- the operator that was told is the one that is answered
pub returns-clause-read : goal.returns-clause-read
returns-clause-read c =
    let told = c.in-Some.ensures.visited in
    let from : Standing = record { bytes = c.args.reader.now; frames = c.args.control.now.frames } in
    let there : Standing = record { bytes = c.visit_frequent.new.reader; frames = c.visit_frequent.new.control.frames } in
    subst (λ (o : Op). Reads from o there) told.3 told.1
