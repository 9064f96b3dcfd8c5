use Rattle.std.proofs.Common.{◌≡◌, take}
use Rattle.wasm_operator_validator_fast_tables.specs.Stacks.{with_all}
use Rattle.wasm_operator_validator_fast_tables.proofs.stack.Stack.put_all.Given as goal

abbrev pub invariant-loop-ty : goal.invariant-loop-ty
invariant-loop-ty l = l.self ≡ with_all (take l.ty-index l.types) l.fn.self
