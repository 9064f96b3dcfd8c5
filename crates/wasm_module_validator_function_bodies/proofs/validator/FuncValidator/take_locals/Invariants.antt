use Rattle.std.proofs.Common.{◌≡◌}
use Rattle.wasm_module_validator_function_bodies.specs.Locals.{judged_by, TakesSome}
use Rattle.wasm_module_validator_function_bodies.proofs.validator.FuncValidator.take_locals.Given as goal

-- so many groups of those that were counted were taken
abbrev pub invariant-loop : goal.invariant-loop
invariant-loop g l = record {
  taken : TakesSome (g.R.WasmModuleResources.meaning l.fn.self.resources) (judged_by l.fn.self.validator.given.bits l.fn.self.limits) l.fn.reader l.fn.self.validator l.count l.counter l.reader l.self.validator;
  resources : l.self.resources ≡ l.fn.self.resources;
  index : l.self.index ≡ l.fn.self.index;
  limits : l.self.limits ≡ l.fn.self.limits;
}
