-- Code in functions of a module: blocks and their labels, branches out of them, and locals across them.
use Rattle.std.specs.Prelude.{ℕ, ℤ, false, [], ◌∷◌}
use Rattle.wasm_types.specs.settings.Features.{MultiValue}
use Rattle.wasm_types.specs.trees.Types.{i32, number, ref, abstract, func}
use Rattle.wasm_types.specs.trees.ValidGroup.{Written}
use Rattle.wasm_types.specs.values.declared.value.ValType.TheVariants as value
use Rattle.wasm_operators_immediates.specs.declared.block.BlockType.{BlockType}
use Rattle.wasm_operators_immediates.specs.declared.block.BlockType.TheVariants as block
use Rattle.wasm_operators_enums.specs.declared.control.ControlOperator.TheVariants as control
use Rattle.wasm_operators_enums.specs.Op as op
use Rattle.wasm_operators_enums.specs.Op.{Op}
use Rattle.wasm_operators_encoding.specs.expressions.Code.{Code, plain, nested, turn}
use Rattle.wasm_module_validator_rules.specs.Syntax.{ModuleTree}
use Rattle.wasm_module_validator_rules.specs.worked.Trees.{Yes, No, Needs, one_function, procedure, takes_i32, gives_i32, taking_and_giving, empty_struct, end, only}
use Rattle.wasm_module_validator_rules.specs.worked.Trees.{constant, long, drop, local_get, local_set, some_function, does, locals_of}

-- ---- code

abbrev pub block_of : BlockType → Code → Code → Code
block_of t body more = nested (op.Control (control.Block t)) body more

abbrev pub loop_of : BlockType → Code → Code → Code
loop_of t body more = nested (op.Control (control.Loop t)) body more

abbrev pub if_of : BlockType → Code → Code → Code
if_of t body more = nested (op.Control (control.If t)) body more

-- the rest of an `if`, behind `else`
abbrev pub otherwise : Code → Code
otherwise more = turn (op.Control control.Else) more

abbrev pub br : ℕ → Op
br l = op.Control (control.Br l)

abbrev pub br_if : ℕ → Op
br_if l = op.Control (control.BrIf l)

-- a block without parameters and results, or with one result, and one of the type with this index
abbrev pub i32_block : BlockType
i32_block = block.Val value.I32

abbrev pub nothing : BlockType
nothing = block.Empty

abbrev pub typed : ℕ → BlockType
typed x = block.FuncType x

-- ---- functions

-- a function of the first of two types
abbrev pub beside : Written → Written → Code → ModuleTree
beside t u c = record (one_function t c) { types = t ∷ u ∷ [] }

abbrev pub i32_to_i32 : Written
i32_to_i32 = taking_and_giving (number i32 ∷ []) (number i32 ∷ [])

-- a function that takes an i32 and gives one, with a block of that type around this code
abbrev pub block_around : Code → ModuleTree
block_around c = one_function i32_to_i32 (plain (local_get 0) (block_of (typed 0) c end))

-- a function with a parameter that is no null, and a local like it that has no value at first
abbrev pub takes_function : Written
takes_function = taking_and_giving (ref false (abstract false func) ∷ []) []

abbrev pub with_local : Code → ModuleTree
with_local c = record (one_function takes_function c) { code = does (locals_of 1 (value.Ref some_function)) c ∷ [] }

-- the local is set, or read
abbrev pub setting : Code → Code
setting more = plain (local_get 0) (plain (local_set 1) more)

abbrev pub reading : Code → Code
reading more = plain (local_get 1) (plain drop more)

-- ---- the rows

pub record BlocksWorked (x : ℤ) : Type 0 where
  -- branches out of a block, and out of the function
  pub br_to_block : Yes (one_function procedure (block_of nothing (only (br 0)) end))
  pub br_to_function : Yes (one_function procedure (block_of nothing (only (br 1)) end))
  pub br_too_far : No (one_function procedure (block_of nothing (only (br 2)) end))
  pub br_with_value : Yes (one_function gives_i32 (block_of i32_block (plain (constant x) (only (br 0))) end))
  pub br_if_in_block : Yes (one_function procedure (block_of nothing (plain (constant x) (only (br_if 0))) end))
  pub br_if_by_long : No (one_function procedure (block_of nothing (plain (long x) (only (br_if 0))) end))
  pub br_if_with_value : Yes (one_function gives_i32 (block_of i32_block (plain (constant x) (plain (constant x) (only (br_if 0)))) end))
  pub br_if_without_value : No (one_function gives_i32 (block_of i32_block (plain (constant x) (only (br_if 0))) end))
  pub br_if_with_another_type : No (one_function gives_i32 (block_of i32_block (plain (long x) (plain (constant x) (only (br_if 0)))) end))
  pub br_if_to_function : Yes (one_function gives_i32 (block_of nothing (plain (constant x) (plain (constant x) (plain (br_if 1) (only drop)))) (only (constant x))))
  pub br_if_to_function_without_value : No (one_function gives_i32 (block_of nothing (plain (constant x) (only (br_if 1))) (only (constant x))))
  -- a loop's label takes what the loop takes, and a block's what the block gives
  pub br_to_loop : Yes (one_function gives_i32 (loop_of i32_block (only (br 0)) end))
  pub br_to_loop_with_parameter : Yes (one_function takes_i32 (plain (local_get 0) (loop_of (typed 0) (only (br 0)) end)))
  pub br_if_to_loop : Yes (one_function takes_i32 (plain (local_get 0) (loop_of (typed 0) (plain (constant x) (plain (br_if 0) (only drop))) end)))
  pub br_if_to_loop_without_parameter : No (one_function takes_i32 (plain (local_get 0) (loop_of (typed 0) (plain drop (plain (constant x) (only (br_if 0)))) end)))
  pub br_if_to_block_without_parameter : Yes (one_function takes_i32 (plain (local_get 0) (block_of (typed 0) (plain drop (plain (constant x) (only (br_if 0)))) end)))
  -- blocks by the index of their type
  pub block_of_type_needs : Needs MultiValue (one_function procedure (block_of (typed 0) end end))
  pub block_of_unknown_type : No (one_function procedure (block_of (typed 1) end end))
  pub block_of_other_type : Yes (beside procedure procedure (block_of (typed 1) end end))
  pub block_of_struct : No (beside procedure empty_struct (block_of (typed 1) end end))
  pub block_with_parameter : Yes (block_around end)
  pub block_without_parameter : No (one_function i32_to_i32 (block_of (typed 0) end end))
  pub block_with_another_parameter : No (one_function i32_to_i32 (plain (long x) (block_of (typed 0) end end)))
  pub block_dropping_parameter : No (block_around (only drop))
  pub block_replacing_parameter : Yes (block_around (plain drop (only (constant x))))
  pub block_reaching_out : No (one_function i32_to_i32 (plain (local_get 0) (block_of nothing (only drop) (only (constant x)))))
  pub block_leaving_one : No (one_function procedure (block_of i32_block (only (constant x)) end))
  pub block_result_dropped : Yes (one_function procedure (block_of i32_block (only (constant x)) (only drop)))

pub record LocalsWorked (x : ℤ) : Type 0 where
  pub parameter : Yes (with_local (plain (local_get 0) (only drop)))
  pub unset : No (with_local (reading end))
  pub set : Yes (with_local (setting (reading end)))
  pub set_before_block : Yes (with_local (setting (block_of nothing (reading end) end)))
  pub set_in_block : Yes (with_local (block_of nothing (setting (reading end)) end))
  pub set_in_block_before : No (with_local (block_of nothing (setting end) (reading end)))
  pub set_in_loop_before : No (with_local (loop_of nothing (setting end) (reading end)))
  pub set_before_else : Yes (with_local (setting (plain (constant x) (if_of nothing (reading (otherwise (reading end))) end))))
  pub set_in_each_part : Yes (with_local (plain (constant x) (if_of nothing (setting (reading (otherwise (setting (reading end))))) end)))
  pub set_in_first_part : No (with_local (plain (constant x) (if_of nothing (setting (reading (otherwise (reading end)))) end)))
  pub set_in_both_parts_before : No (with_local (plain (constant x) (if_of nothing (setting (otherwise (setting end))) (reading end))))
  pub of_number : Yes (record (one_function procedure end) { code = does (locals_of 1 value.I64) (plain (local_get 0) (only drop)) ∷ [] })
  pub of_number_unknown : No (record (one_function procedure end) { code = does (locals_of 1 value.I64) (plain (local_get 1) (only drop)) ∷ [] })

pub record ElseWorked (x : ℤ) : Type 0 where
  pub both_give : Yes (one_function gives_i32 (plain (constant x) (if_of i32_block (plain (constant x) (otherwise (only (constant x)))) end)))
  pub first_gives_nothing : No (one_function gives_i32 (plain (constant x) (if_of i32_block (otherwise (only (constant x))) end)))
  pub second_gives_nothing : No (one_function gives_i32 (plain (constant x) (if_of i32_block (plain (constant x) (otherwise end)) end)))
  pub second_gives_another_type : No (one_function gives_i32 (plain (constant x) (if_of i32_block (plain (constant x) (otherwise (only (long x)))) end)))
  pub second_missing : No (one_function gives_i32 (plain (constant x) (if_of i32_block (only (constant x)) end)))
  pub second_takes_parameter : Yes (one_function takes_i32 (plain (local_get 0) (plain (constant x) (if_of (typed 0) (plain drop (otherwise (only drop))) end))))
  pub second_leaves_parameter : No (one_function takes_i32 (plain (local_get 0) (plain (constant x) (if_of (typed 0) (plain drop (otherwise end)) end))))
  pub passes_parameter : Yes (one_function i32_to_i32 (plain (local_get 0) (plain (constant x) (if_of (typed 0) end end))))
