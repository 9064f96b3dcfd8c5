-- Where a constant begins (WebAssembly 3.0, validation, constant expressions).
use Rattle.std.specs.Prelude.{ℕ, [], false}
use Rattle.wasm_types.specs.values.declared.value.ValType.{ValType}
use Rattle.wasm_operators_immediates.specs.declared.block.BlockType.TheVariants as block
use Rattle.wasm_operator_validator_state.specs.Bodies.{fresh}
use Rattle.wasm_operator_validator_state.specs.State.{State}
use Rattle.wasm_operator_validator_stacks.specs.Layout.{none_saved}

-- what is known there: no locals, and one open frame that gives a value of this type
abbrev pub constant_begins : ℕ → ValType → State
constant_begins bits t = fresh (record { bits = bits; locals = []; params = 0; shared = false }) (block.Val t) none_saved
