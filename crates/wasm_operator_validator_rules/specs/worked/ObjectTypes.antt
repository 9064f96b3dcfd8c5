-- Instruction types of structs, arrays, tests and casts by the table, and operators for which it has none.
use Rattle.std.specs.Prelude.{◌≡◌, true, false, List, [], ◌∷◌, Some}
use Rattle.wasm_types.specs.trees.declared.index.UnpackedIndex.TheVariants as index
use Rattle.wasm_types.specs.trees.Types.{i32, i64, i31, any, func, extern, noextern, number, ref, abstract, exact}
use Rattle.wasm_types.specs.trees.Trees.{TypeTree}
use Rattle.wasm_types.specs.values.declared.heap.AbstractHeapType.TheVariants as kind
use Rattle.wasm_types.specs.values.declared.heap.HeapType.TheVariants as heap
use Rattle.wasm_operators_enums.specs.declared.gc.GcOperator.{GcOperator}
use Rattle.wasm_operators_enums.specs.declared.gc.GcOperator.TheVariants as gc
use Rattle.wasm_operators_enums.specs.Op as op
use Rattle.wasm_operator_validator_rules.specs.Operands.{ValueType}
use Rattle.wasm_operator_validator_rules.specs.Context.{Context}
use Rattle.wasm_operator_validator_rules.specs.InstructionTypes.{◌⟶◌, instruction_type}
use Rattle.wasm_operator_validator_rules.specs.worked.InstructionTypes.{HasNone}
use Rattle.wasm_operator_validator_rules.specs.worked.References.{null_to, to, cell}
use Rattle.wasm_operator_validator_rules.specs.worked.Objects.{here, plainly, here_shared, node, numbers, bytes, cells, describing}

abbrev pub exactly : TypeTree → ValueType
exactly t = ref false (exact t)

-- the table says that it takes these and gives those
abbrev pub Gives : Context → GcOperator → List ValueType → List ValueType → Type 0
Gives g o ts us = instruction_type g (op.Gc o) ≡ Some (ts ⟶ us)

abbrev pub Is : GcOperator → List ValueType → List ValueType → Type 0
Is o ts us = Gives here o ts us

abbrev pub IsNot : GcOperator → Type 0
IsNot o = HasNone here (op.Gc o)

pub record StructsWorked : Type 0 where
  pub new : Is (gc.StructNew 3) (number i32 ∷ number i32 ∷ to cell ∷ []) (exactly node ∷ [])
  pub new_plainly : Gives plainly (gc.StructNew 1) (number i32 ∷ []) (to cell ∷ [])
  pub new_array : IsNot (gc.StructNew 4)
  pub new_unknown : IsNot (gc.StructNew 16)
  pub new_described : IsNot (gc.StructNew 8)
  pub new_describing : Is (gc.StructNew 9) [] (exactly describing ∷ [])
  pub new_default : Is (gc.StructNewDefault 1) [] (exactly cell ∷ [])
  pub new_no_default : IsNot (gc.StructNewDefault 3)
  pub new_default_described : IsNot (gc.StructNewDefault 8)
  pub get : Is (gc.StructGet 3 2) (null_to node ∷ []) (to cell ∷ [])
  pub get_packed : IsNot (gc.StructGet 3 1)
  pub get_unknown : IsNot (gc.StructGet 3 3)
  pub get_unsigned : Is (gc.StructGetU 3 1) (null_to node ∷ []) (number i32 ∷ [])
  pub get_unsigned_value : IsNot (gc.StructGetU 3 2)
  pub get_signed : Is (gc.StructGetS 3 1) (null_to node ∷ []) (number i32 ∷ [])
  pub get_signed_value : IsNot (gc.StructGetS 3 0)
  pub set : Is (gc.StructSet 3 1) (null_to node ∷ number i32 ∷ []) []
  pub set_immutable : IsNot (gc.StructSet 1 0)
  pub get_not_shared : HasNone here_shared (op.Gc (gc.StructGet 1 0))

pub record ArraysWorked : Type 0 where
  pub new : Is (gc.ArrayNew 6) (null_to cell ∷ number i32 ∷ []) (exactly cells ∷ [])
  pub new_struct : IsNot (gc.ArrayNew 1)
  pub new_default : Is (gc.ArrayNewDefault 5) (number i32 ∷ []) (exactly bytes ∷ [])
  pub new_no_default : IsNot (gc.ArrayNewDefault 12)
  pub new_fixed : Is (gc.ArrayNewFixed 4 2) (number i64 ∷ number i64 ∷ []) (exactly numbers ∷ [])
  pub new_fixed_struct : IsNot (gc.ArrayNewFixed 1 0)
  pub new_data : Is (gc.ArrayNewData 4 1) (number i32 ∷ number i32 ∷ []) (exactly numbers ∷ [])
  pub new_data_references : IsNot (gc.ArrayNewData 6 1)
  pub new_data_unknown : IsNot (gc.ArrayNewData 4 2)
  pub get : Is (gc.ArrayGet 4) (null_to numbers ∷ number i32 ∷ []) (number i64 ∷ [])
  pub get_packed : IsNot (gc.ArrayGet 5)
  pub get_signed : Is (gc.ArrayGetS 5) (null_to bytes ∷ number i32 ∷ []) (number i32 ∷ [])
  pub get_signed_value : IsNot (gc.ArrayGetS 4)
  pub get_unsigned : Is (gc.ArrayGetU 5) (null_to bytes ∷ number i32 ∷ []) (number i32 ∷ [])
  pub get_unsigned_value : IsNot (gc.ArrayGetU 6)
  pub set : Is (gc.ArraySet 5) (null_to bytes ∷ number i32 ∷ number i32 ∷ []) []
  pub set_immutable : IsNot (gc.ArraySet 7)
  pub fill : Is (gc.ArrayFill 4) (null_to numbers ∷ number i32 ∷ number i64 ∷ number i32 ∷ []) []
  pub fill_immutable : IsNot (gc.ArrayFill 7)
  pub init_data : Is (gc.ArrayInitData 5 0) (null_to bytes ∷ number i32 ∷ number i32 ∷ number i32 ∷ []) []
  pub init_data_references : IsNot (gc.ArrayInitData 6 0)
  pub init_data_unknown : IsNot (gc.ArrayInitData 5 2)
  pub init_data_immutable : IsNot (gc.ArrayInitData 13 0)

pub record CastsWorked : Type 0 where
  pub test : Is (gc.RefTestNullable (heap.Concrete (index.Module 2))) (ref true (abstract false any) ∷ []) (number i32 ∷ [])
  pub test_function : Is (gc.RefTestNonNull (heap.Concrete (index.Module 0))) (ref true (abstract false func) ∷ []) (number i32 ∷ [])
  pub cast : Is (gc.RefCastNonNull (heap.Concrete (index.Module 1))) (ref true (abstract false any) ∷ []) (to cell ∷ [])
  pub cast_null : Is (gc.RefCastNullable (heap.Abstract false kind.NoExtern)) (ref true (abstract false extern) ∷ []) (ref true (abstract false noextern) ∷ [])
  pub cast_exact : Is (gc.RefCastNullable (heap.Exact (index.Module 1))) (ref true (abstract false any) ∷ []) (ref true (exact cell) ∷ [])
  pub cast_unknown : IsNot (gc.RefCastNonNull (heap.Concrete (index.Module 16)))
  pub cast_shared : Is (gc.RefCastNonNull (heap.Abstract true kind.I31)) (ref true (abstract true any) ∷ []) (ref false (abstract true i31) ∷ [])
  pub cast_not_shared : HasNone here_shared (op.Gc (gc.RefCastNonNull (heap.Abstract false kind.I31)))
  pub test_unknown : IsNot (gc.RefTestNullable (heap.Concrete (index.Module 16)))
  pub test_continuation : IsNot (gc.RefTestNonNull (heap.Abstract false kind.Cont))
  pub cast_continuation_type : IsNot (gc.RefCastNullable (heap.Concrete (index.Module 10)))
  pub small_number : Is gc.RefI31 (number i32 ∷ []) (ref false (abstract false i31) ∷ [])
  pub of_its_own_row : IsNot gc.RefEq
