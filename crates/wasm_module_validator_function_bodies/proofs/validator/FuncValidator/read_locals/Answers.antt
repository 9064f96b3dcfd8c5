use Rattle.std.proofs.Common.{sym, subst}
use Rattle.wasm_types.specs.decoding.Decoder.{State as Bytes}
use Rattle.wasm_module_validator_function_bodies.specs.Locals.{judged_by, TakesLocals, StopsLocals}
use Rattle.wasm_module_validator_function_bodies.specs.laws.Reading.{read_refused, read_taken}
use Rattle.wasm_module_validator_function_bodies.proofs.validator.FuncValidator.read_locals.Goals as goal

pub returns-in-Err-clause-reads : goal.returns-in-Err-clause-reads
returns-in-Err-clause-reads g c =
    let m = g.R.WasmModuleResources.meaning c.args.self.now.resources in
    read_refused m c.args.self.now.limits c.args.reader.now c.args.self.now.validator (sym c.if-has_failed.ensures) c.in-Err.error c.take_locals.new.self.validator c.fail.new.self
    (subst (λ (b : Bytes). StopsLocals m (judged_by c.args.self.now.validator.given.bits c.args.self.now.limits) b c.args.self.now.validator c.in-Err.error) c.clone-ahead.ensures c.in-Err.ensures.refused) c.in-Err.ensures.others c.fail.ensures

pub returns-clause-reads : goal.returns-clause-reads
returns-clause-reads g c =
    let m = g.R.WasmModuleResources.meaning c.args.self.now.resources in
    read_taken m c.args.self.now.limits c.args.reader.now c.args.self.now.validator (sym c.if-has_failed.ensures) c.take_locals.new.reader c.take_locals.new.self.validator
    (subst (λ (b : Bytes). TakesLocals m (judged_by c.args.self.now.validator.given.bits c.args.self.now.limits) b c.args.self.now.validator c.take_locals.new.reader c.take_locals.new.self.validator) c.clone-ahead.ensures c.in-Ok.ensures.taken) c.in-Ok.ensures.others
