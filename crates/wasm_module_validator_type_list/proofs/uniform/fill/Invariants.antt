use Rattle.wasm_module_validator_type_list.specs.Uniform.{AreUniform}
use Rattle.wasm_module_validator_type_list.proofs.uniform.fill.Given as goal

abbrev pub invariant-types : goal.invariant-types
invariant-types l = AreUniform l.types.items l.supertypes.items l.flags.items
