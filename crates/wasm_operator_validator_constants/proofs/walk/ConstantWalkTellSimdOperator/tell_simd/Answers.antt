use Rattle.std.proofs.Common.{rules, refl}
use Rattle.wasm_operators_enums.specs.Op.{op_of}
use Rattle.wasm_operator_validator_constants.specs.Checked.{Surroundings}
use Rattle.wasm_operator_validator_constants.specs.laws.Driven.{refused_visit}
use Rattle.wasm_operator_validator_constants.proofs.walk.ConstantWalkTellSimdOperator.tell_simd.Goals as goal

pub returns-in-Err : goal.returns-in-Err
returns-in-Err g c =
    let w : Surroundings = record {
      bits = c.args.self.now.features.0;
      meaning = g.R.WasmModuleResources.meaning c.args.self.now.walk.visitor.resources.now;
      imported = c.args.self.now.imported_globals;
    } in
    (refused_visit w c.args.self.now.walk.visitor.inner.now c.fail.new.self (op_of c.args.op) c.in-Err.refusal c.in-Err.ensures.why c.fail.ensures, refl, refl, refl, refl)

pub returns-in-Err-tell_simd : goal.returns-in-Err-tell_simd
returns-in-Err-tell_simd c = search rules
