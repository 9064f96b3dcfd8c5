-- Rows of atomic accesses to globals, tables, structs and arrays (the proposal on shared everything).
use Rattle.std.specs.Prelude.{◌≡◌, true, false, IsTrue, Bool, List, [], ◌∷◌, ◌++◌, Option, Some}
use Rattle.wasm_types.specs.trees.Types.{i32, i64, i31, Abstract, any, eq, number, ref, abstract, StorageOf, i8, i16, value}
use Rattle.wasm_types.specs.trees.Trees.{TypeTree}
use Rattle.wasm_types.specs.trees.Below.{Below}
use Rattle.wasm_operators_enums.specs.declared.atomic.SharedOperator.{SharedOperator}
use Rattle.wasm_operators_enums.specs.declared.atomic.SharedOperator.TheVariants as shared
use Rattle.wasm_operator_validator_rules.specs.Operands.{ValueType, Operand}
use Rattle.wasm_operator_validator_rules.specs.Context.{Context}
use Rattle.wasm_operator_validator_rules.specs.Places.{unpacked, is_packed, Place, field_place, element_place, global_place, table_place}
use Rattle.wasm_operator_validator_rules.specs.InstructionTypes.{i32_type}
use Rattle.wasm_operator_validator_rules.specs.Taken.{Takes}

-- What is done at a place: it is read, or read as a packed type and extended; it is written; it is replaced by what it and another
-- number make, by another value, or by another value if it was as expected, and given as it was.
pub data AtomicAccess : Type 0 where
  reads : AtomicAccess
  reads_packed : AtomicAccess
  writes : AtomicAccess
  modifies : AtomicAccess
  exchanges : AtomicAccess
  compares : AtomicAccess

-- ---- what may be stored at a place that is accessed so

-- standard: part of SharedRow
abbrev pub IsInteger : ValueType → Type 0
IsInteger (number i32) = Unit {0}
IsInteger (number i64) = Unit {0}
IsInteger t = ⊥

-- standard: part of SharedRow
-- an integer, or a reference below this abstract type, shared or not
abbrev pub IsAtomic : Abstract → ValueType → Type 0
IsAtomic a (number n) = IsInteger (number n)
IsAtomic a (ref n h) = (s : Bool) × Below (ref n h) (ref true (abstract s a))

-- standard: part of SharedRow
abbrev pub StoresInteger : StorageOf TypeTree → Type 0
StoresInteger i8 = ⊥
StoresInteger i16 = ⊥
StoresInteger (value t) = IsInteger t

-- standard: part of SharedRow
abbrev pub StoresAtomic : Abstract → StorageOf TypeTree → Type 0
StoresAtomic a i8 = ⊥
StoresAtomic a i16 = ⊥
StoresAtomic a (value t) = IsAtomic a t

-- standard: part of SharedRow
-- the same, or a packed type, which is written as a number
abbrev pub StoresWritten : StorageOf TypeTree → Type 0
StoresWritten i8 = Unit {0}
StoresWritten i16 = Unit {0}
StoresWritten (value t) = IsAtomic any t

-- ---- one row a kind of access

-- standard: part of SharedRow
-- what may be stored at its place, and whether that has to be mutable
abbrev pub Stores : AtomicAccess → StorageOf TypeTree → Type 0
Stores reads s = StoresAtomic any s
Stores reads_packed s = IsTrue (is_packed s)
Stores writes s = StoresWritten s
Stores modifies s = StoresInteger s
Stores exchanges s = StoresAtomic any s
Stores compares s = StoresAtomic eq s

-- standard: part of SharedRow
abbrev pub MayChange : AtomicAccess → Bool → Type 0
MayChange reads mutable = Unit {0}
MayChange reads_packed mutable = Unit {0}
MayChange a mutable = IsTrue mutable

-- what it takes above the operands by which the place is reached: of the place's type
abbrev pub taken_above : AtomicAccess → ValueType → List ValueType
taken_above reads t = []
taken_above reads_packed t = []
taken_above writes t = t ∷ []
taken_above modifies t = t ∷ []
taken_above exchanges t = t ∷ []
taken_above compares t = t ∷ t ∷ []

-- what it gives: what was stored there
abbrev pub given_by_access : AtomicAccess → ValueType → List ValueType
given_by_access writes t = []
given_by_access a t = t ∷ []

-- standard: part of SharedRow
abbrev pub AccessRow : AtomicAccess → Place → List Operand → List Operand → Type 0
AccessRow a p popped pushed = MayChange a p.mutable × Stores a p.storage
    × Takes (p.reached_by ++ taken_above a (unpacked p.storage)) (given_by_access a (unpacked p.storage)) popped pushed

-- standard: part of SharedRow
-- at a place, if it is there
abbrev pub At : AtomicAccess → Option Place → List Operand → List Operand → Type 0
At a o popped pushed = (p : Place) × (o ≡ Some p) × AccessRow a p popped pushed

-- ---- the operators

-- standard: proposal-shared-everything-threads: atomic accesses that read (for At reads)
-- standard: proposal-shared-everything-threads: atomic accesses that write (for At writes)
-- standard: proposal-shared-everything-threads: atomic accesses that modify (for At modifies)
-- standard: proposal-shared-everything-threads: atomic accesses that exchange (for At exchanges)
-- standard: proposal-shared-everything-threads: atomic accesses that compare and exchange (for At compares)
-- standard: proposal-shared-everything-threads: ref.i31_shared
abbrev pub SharedRow : Context → SharedOperator → List Operand → List Operand → Type 0
SharedRow g (shared.GlobalAtomicGet order x) popped pushed = At reads (global_place g x) popped pushed
SharedRow g (shared.GlobalAtomicSet order x) popped pushed = At writes (global_place g x) popped pushed
SharedRow g (shared.GlobalAtomicRmwAdd order x) popped pushed = At modifies (global_place g x) popped pushed
SharedRow g (shared.GlobalAtomicRmwSub order x) popped pushed = At modifies (global_place g x) popped pushed
SharedRow g (shared.GlobalAtomicRmwAnd order x) popped pushed = At modifies (global_place g x) popped pushed
SharedRow g (shared.GlobalAtomicRmwOr order x) popped pushed = At modifies (global_place g x) popped pushed
SharedRow g (shared.GlobalAtomicRmwXor order x) popped pushed = At modifies (global_place g x) popped pushed
SharedRow g (shared.GlobalAtomicRmwXchg order x) popped pushed = At exchanges (global_place g x) popped pushed
SharedRow g (shared.GlobalAtomicRmwCmpxchg order x) popped pushed = At compares (global_place g x) popped pushed
SharedRow g (shared.TableAtomicGet order x) popped pushed = At reads (table_place g x) popped pushed
SharedRow g (shared.TableAtomicSet order x) popped pushed = At writes (table_place g x) popped pushed
SharedRow g (shared.TableAtomicRmwXchg order x) popped pushed = At exchanges (table_place g x) popped pushed
SharedRow g (shared.TableAtomicRmwCmpxchg order x) popped pushed = At compares (table_place g x) popped pushed
SharedRow g (shared.StructAtomicGet order x i) popped pushed = At reads (field_place g x i) popped pushed
SharedRow g (shared.StructAtomicGetS order x i) popped pushed = At reads_packed (field_place g x i) popped pushed
SharedRow g (shared.StructAtomicGetU order x i) popped pushed = At reads_packed (field_place g x i) popped pushed
SharedRow g (shared.StructAtomicSet order x i) popped pushed = At writes (field_place g x i) popped pushed
SharedRow g (shared.StructAtomicRmwAdd order x i) popped pushed = At modifies (field_place g x i) popped pushed
SharedRow g (shared.StructAtomicRmwSub order x i) popped pushed = At modifies (field_place g x i) popped pushed
SharedRow g (shared.StructAtomicRmwAnd order x i) popped pushed = At modifies (field_place g x i) popped pushed
SharedRow g (shared.StructAtomicRmwOr order x i) popped pushed = At modifies (field_place g x i) popped pushed
SharedRow g (shared.StructAtomicRmwXor order x i) popped pushed = At modifies (field_place g x i) popped pushed
SharedRow g (shared.StructAtomicRmwXchg order x i) popped pushed = At exchanges (field_place g x i) popped pushed
SharedRow g (shared.StructAtomicRmwCmpxchg order x i) popped pushed = At compares (field_place g x i) popped pushed
SharedRow g (shared.ArrayAtomicGet order x) popped pushed = At reads (element_place g x) popped pushed
SharedRow g (shared.ArrayAtomicGetS order x) popped pushed = At reads_packed (element_place g x) popped pushed
SharedRow g (shared.ArrayAtomicGetU order x) popped pushed = At reads_packed (element_place g x) popped pushed
SharedRow g (shared.ArrayAtomicSet order x) popped pushed = At writes (element_place g x) popped pushed
SharedRow g (shared.ArrayAtomicRmwAdd order x) popped pushed = At modifies (element_place g x) popped pushed
SharedRow g (shared.ArrayAtomicRmwSub order x) popped pushed = At modifies (element_place g x) popped pushed
SharedRow g (shared.ArrayAtomicRmwAnd order x) popped pushed = At modifies (element_place g x) popped pushed
SharedRow g (shared.ArrayAtomicRmwOr order x) popped pushed = At modifies (element_place g x) popped pushed
SharedRow g (shared.ArrayAtomicRmwXor order x) popped pushed = At modifies (element_place g x) popped pushed
SharedRow g (shared.ArrayAtomicRmwXchg order x) popped pushed = At exchanges (element_place g x) popped pushed
SharedRow g (shared.ArrayAtomicRmwCmpxchg order x) popped pushed = At compares (element_place g x) popped pushed
SharedRow g shared.RefI31Shared popped pushed = Takes (i32_type ∷ []) (ref false (abstract true i31) ∷ []) popped pushed
