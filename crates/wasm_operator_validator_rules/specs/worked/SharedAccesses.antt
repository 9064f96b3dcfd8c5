-- Rows of atomic accesses to globals, tables, structs and arrays that hold, and rows that do not.
use Rattle.std.specs.Prelude.{true, false, Bool, List, [], ◌∷◌, Some, None}
use Rattle.wasm_types.specs.trees.Types.{i32, i64, f64, i31, any, eq, extern, number, ref, abstract, struct_of, array_of}
use Rattle.wasm_types.specs.trees.Trees.{TypeTree}
use Rattle.wasm_types.specs.trees.worked.Types.{alone, declared_entry, variable, constant}
use Rattle.wasm_operators_immediates.specs.declared.memory.Ordering.TheVariants as ordering
use Rattle.wasm_operators_enums.specs.declared.atomic.SharedOperator.TheVariants as shared
use Rattle.wasm_operator_validator_rules.specs.Operands.{ValueType, Operand, known}
use Rattle.wasm_operator_validator_rules.specs.Context.{Module, Context, Table}
use Rattle.wasm_operator_validator_rules.specs.SharedAccesses.{SharedRow}
use Rattle.wasm_operator_validator_rules.specs.worked.Contexts.{somewhere, some_module, global_of, table_of}
use Rattle.wasm_operator_validator_rules.specs.worked.Operators.{i32_known, i64_known}
use Rattle.wasm_operator_validator_rules.specs.worked.References.{null_to, cell, HasNo}
use Rattle.wasm_operator_validator_rules.specs.worked.Objects.{node, numbers, bytes, cells}
use Rattle.wasm_operator_validator_rules.specs.worked.ObjectRows.{to_abstract}

-- ---- types and contexts

-- a shared struct of a number, and arrays of floats
abbrev pub shared_cell : TypeTree
shared_cell = alone (declared_entry None true (struct_of (variable (number i64) ∷ [])))

abbrev pub floats : TypeTree
floats = alone (declared_entry None false (array_of (variable (number f64))))

abbrev pub to_any : ValueType
to_any = ref true (abstract false any)

abbrev pub to_extern : ValueType
to_extern = ref true (abstract false extern)

abbrev pub to_shared_eq : ValueType
to_shared_eq = ref true (abstract true eq)

-- A module with globals of a number, of references to anything, of references of the host, of shared references, one that may not be
-- written, and a shared number; tables of references that can be compared, of 64 bits, and of references of the host; these types.
abbrev pub with_places : Module
with_places = record some_module {
  types = cell ∷ node ∷ numbers ∷ bytes ∷ cells ∷ shared_cell ∷ floats ∷ [];
  globals =
      global_of (number i32) true false ∷ global_of to_any true false ∷ global_of to_extern true false ∷ global_of to_shared_eq true false
      ∷ global_of (number i32) false false ∷ global_of (number i64) true true ∷ [];
  tables = table_of (ref true (abstract false eq)) true ∷ table_of to_extern false ∷ [];
}

abbrev pub there : Context
there = record somewhere { «module» = with_places }

abbrev pub there_shared : Context
there_shared = record there { shared = true }

-- ---- rows

pub record SharedWorked : Type 0 where
  pub get : SharedRow there (shared.GlobalAtomicGet ordering.SeqCst 1) [] (known to_any ∷ [])
  pub get_extern : HasNo (SharedRow there (shared.GlobalAtomicGet ordering.SeqCst 2))
  pub get_unknown : HasNo (SharedRow there (shared.GlobalAtomicGet ordering.SeqCst 6))
  pub get_shared : SharedRow there_shared (shared.GlobalAtomicGet ordering.SeqCst 5) [] (i64_known ∷ [])
  pub get_not_shared : HasNo (SharedRow there_shared (shared.GlobalAtomicGet ordering.SeqCst 0))
  pub set : SharedRow there (shared.GlobalAtomicSet ordering.AcqRel 0) (i32_known ∷ []) []
  pub set_extern : HasNo (SharedRow there (shared.GlobalAtomicSet ordering.SeqCst 2))
  pub set_immutable : HasNo (SharedRow there (shared.GlobalAtomicSet ordering.SeqCst 4))
  pub add : SharedRow there (shared.GlobalAtomicRmwAdd ordering.SeqCst 0) (i32_known ∷ []) (i32_known ∷ [])
  pub add_reference : HasNo (SharedRow there (shared.GlobalAtomicRmwAdd ordering.SeqCst 1))
  pub add_immutable : HasNo (SharedRow there (shared.GlobalAtomicRmwAdd ordering.SeqCst 4))
  pub sub : SharedRow there (shared.GlobalAtomicRmwSub ordering.SeqCst 0) (i32_known ∷ []) (i32_known ∷ [])
  pub conjunction : SharedRow there (shared.GlobalAtomicRmwAnd ordering.SeqCst 0) (i32_known ∷ []) (i32_known ∷ [])
  pub disjunction : SharedRow there (shared.GlobalAtomicRmwOr ordering.SeqCst 0) (i32_known ∷ []) (i32_known ∷ [])
  pub difference : SharedRow there (shared.GlobalAtomicRmwXor ordering.SeqCst 0) (i32_known ∷ []) (i32_known ∷ [])
  pub exchange : SharedRow there (shared.GlobalAtomicRmwXchg ordering.AcqRel 1) (known to_any ∷ []) (known to_any ∷ [])
  pub exchange_extern : HasNo (SharedRow there (shared.GlobalAtomicRmwXchg ordering.SeqCst 2))
  pub compare_any : HasNo (SharedRow there (shared.GlobalAtomicRmwCmpxchg ordering.AcqRel 1))
  pub compare_shared : SharedRow there (shared.GlobalAtomicRmwCmpxchg ordering.SeqCst 3) (known to_shared_eq ∷ known to_shared_eq ∷ []) (known to_shared_eq ∷ [])
  pub table_get : SharedRow there (shared.TableAtomicGet ordering.SeqCst 0) (i64_known ∷ []) (to_abstract true false eq ∷ [])
  pub table_get_extern : HasNo (SharedRow there (shared.TableAtomicGet ordering.SeqCst 1))
  pub table_get_not_shared : HasNo (SharedRow there_shared (shared.TableAtomicGet ordering.SeqCst 0))
  pub table_set : SharedRow there (shared.TableAtomicSet ordering.SeqCst 0) (i64_known ∷ to_abstract true false eq ∷ []) []
  pub table_set_unknown : HasNo (SharedRow there (shared.TableAtomicSet ordering.SeqCst 2))
  pub table_exchange : SharedRow there (shared.TableAtomicRmwXchg ordering.SeqCst 0) (i64_known ∷ to_abstract true false eq ∷ []) (to_abstract true false eq ∷ [])
  pub table_compare : SharedRow there (shared.TableAtomicRmwCmpxchg ordering.SeqCst 0)
      (i64_known ∷ to_abstract true false eq ∷ to_abstract true false eq ∷ []) (to_abstract true false eq ∷ [])
  pub table_compare_extern : HasNo (SharedRow there (shared.TableAtomicRmwCmpxchg ordering.SeqCst 1))
  pub field_get : SharedRow there (shared.StructAtomicGet ordering.SeqCst 1 0) (known (null_to node) ∷ []) (i32_known ∷ [])
  pub field_get_packed : HasNo (SharedRow there (shared.StructAtomicGet ordering.SeqCst 1 1))
  pub field_signed : SharedRow there (shared.StructAtomicGetS ordering.SeqCst 1 1) (known (null_to node) ∷ []) (i32_known ∷ [])
  pub field_signed_unpacked : HasNo (SharedRow there (shared.StructAtomicGetS ordering.SeqCst 1 0))
  pub field_unsigned : SharedRow there (shared.StructAtomicGetU ordering.SeqCst 1 1) (known (null_to node) ∷ []) (i32_known ∷ [])
  pub field_set_packed : SharedRow there (shared.StructAtomicSet ordering.SeqCst 1 1) (known (null_to node) ∷ i32_known ∷ []) []
  pub field_set_immutable : HasNo (SharedRow there (shared.StructAtomicSet ordering.SeqCst 0 0))
  pub field_add : SharedRow there (shared.StructAtomicRmwAdd ordering.SeqCst 1 0) (known (null_to node) ∷ i32_known ∷ []) (i32_known ∷ [])
  pub field_add_packed : HasNo (SharedRow there (shared.StructAtomicRmwAdd ordering.SeqCst 1 1))
  pub field_sub_immutable : HasNo (SharedRow there (shared.StructAtomicRmwSub ordering.SeqCst 0 0))
  pub field_and_unknown : HasNo (SharedRow there (shared.StructAtomicRmwAnd ordering.SeqCst 1 3))
  pub field_or_array : HasNo (SharedRow there (shared.StructAtomicRmwOr ordering.SeqCst 2 0))
  pub field_xor : SharedRow there_shared (shared.StructAtomicRmwXor ordering.SeqCst 5 0) (known (null_to shared_cell) ∷ i64_known ∷ []) (i64_known ∷ [])
  pub field_xor_not_shared : HasNo (SharedRow there_shared (shared.StructAtomicRmwXor ordering.SeqCst 1 0))
  pub field_exchange_immutable : HasNo (SharedRow there (shared.StructAtomicRmwXchg ordering.SeqCst 0 0))
  pub field_compare_immutable : HasNo (SharedRow there (shared.StructAtomicRmwCmpxchg ordering.SeqCst 0 0))
  pub element_get : SharedRow there (shared.ArrayAtomicGet ordering.SeqCst 2) (known (null_to numbers) ∷ i32_known ∷ []) (i64_known ∷ [])
  pub element_get_float : HasNo (SharedRow there (shared.ArrayAtomicGet ordering.SeqCst 6))
  pub element_signed : SharedRow there (shared.ArrayAtomicGetS ordering.SeqCst 3) (known (null_to bytes) ∷ i32_known ∷ []) (i32_known ∷ [])
  pub element_unsigned_unpacked : HasNo (SharedRow there (shared.ArrayAtomicGetU ordering.SeqCst 2))
  pub element_set : SharedRow there (shared.ArrayAtomicSet ordering.SeqCst 3) (known (null_to bytes) ∷ i32_known ∷ i32_known ∷ []) []
  pub element_set_float : HasNo (SharedRow there (shared.ArrayAtomicSet ordering.SeqCst 6))
  pub element_add : SharedRow there (shared.ArrayAtomicRmwAdd ordering.SeqCst 2) (known (null_to numbers) ∷ i32_known ∷ i64_known ∷ []) (i64_known ∷ [])
  pub element_sub_packed : HasNo (SharedRow there (shared.ArrayAtomicRmwSub ordering.SeqCst 3))
  pub element_and_reference : HasNo (SharedRow there (shared.ArrayAtomicRmwAnd ordering.SeqCst 4))
  pub element_or_struct : HasNo (SharedRow there (shared.ArrayAtomicRmwOr ordering.SeqCst 1))
  pub element_xor_float : HasNo (SharedRow there (shared.ArrayAtomicRmwXor ordering.SeqCst 6))
  pub element_exchange_packed : HasNo (SharedRow there (shared.ArrayAtomicRmwXchg ordering.SeqCst 3))
  pub element_compare : SharedRow there (shared.ArrayAtomicRmwCmpxchg ordering.SeqCst 4)
      (known (null_to cells) ∷ i32_known ∷ known (null_to cell) ∷ known (null_to cell) ∷ []) (known (null_to cell) ∷ [])
  pub element_compare_eq : SharedRow there (shared.ArrayAtomicRmwCmpxchg ordering.SeqCst 4)
      (known (null_to cells) ∷ i32_known ∷ to_abstract true false eq ∷ known (null_to cell) ∷ []) (known (null_to cell) ∷ []) → ⊥
  pub small_number : SharedRow there shared.RefI31Shared (i32_known ∷ []) (to_abstract false true i31 ∷ [])
  pub small_number_unshared : SharedRow there shared.RefI31Shared (i32_known ∷ []) (to_abstract false false i31 ∷ []) → ⊥
