-- The instruction types that the module alone determines, as one table (WebAssembly 3.0, validation, instructions): numbers,
-- constants, globals, memories, tables, atomic accesses and calls of references. An operator whose type is free in something has a row of its own
-- (`Row.antt`), and none here.
use Rattle.std.specs.Prelude.{ℕ, Bool, true, false, not, List, [], ◌∷◌, ◌++◌, ◌&&◌, replicate, is_some, Option, Some, None, slice_get, nat_lt, if◌then◌else◌}
use Rattle.wasm_types.specs.settings.Features.{CustomDescriptors, has, judges_vectors}
use Rattle.wasm_types.specs.trees.Types.{i32, i31, number, ref, HeapOf, abstract, concrete, exact}
use Rattle.wasm_types.specs.trees.Trees.{TypeTree, opened}
use Rattle.wasm_types.specs.trees.Below.{expanded}
use Rattle.wasm_types.specs.values.declared.heap.HeapType.{HeapType}
use Rattle.wasm_types.specs.externs.declared.memory.MemoryType.{MemoryType}
use Rattle.wasm_operators_enums.specs.declared.control.ControlOperator.{ControlOperator}
use Rattle.wasm_operators_enums.specs.declared.control.ControlOperator.TheVariants as control
use Rattle.wasm_operators_enums.specs.declared.memory.MemoryOperator.{MemoryOperator}
use Rattle.wasm_operators_enums.specs.declared.memory.MemoryOperator.TheVariants as memory
use Rattle.wasm_operators_enums.specs.declared.bulk.BulkOperator.{BulkOperator}
use Rattle.wasm_operators_enums.specs.declared.bulk.BulkOperator.TheVariants as bulk
use Rattle.wasm_operators_enums.specs.declared.atomic.AtomicOperator.{AtomicOperator}
use Rattle.wasm_operators_enums.specs.declared.atomic.AtomicOperator.TheVariants as atomic
use Rattle.wasm_operators_enums.specs.declared.gc.GcOperator.{GcOperator}
use Rattle.wasm_operators_enums.specs.declared.gc.GcOperator.TheVariants as gc
use Rattle.wasm_operators_enums.specs.declared.vector.SimdOperator.{SimdOperator}
use Rattle.wasm_operators_enums.specs.declared.vector_numeric.SimdNumericOperator.{SimdNumericOperator}
use Rattle.wasm_operators_enums.specs.Op as op
use Rattle.wasm_operators_enums.specs.Op.{Op}
use Rattle.wasm_operator_validator_rules.specs.Operands.{ValueType}
use Rattle.wasm_operator_validator_rules.specs.Context.{Context, Table, Global, Signature, may_use, address_type}
use Rattle.wasm_operator_validator_rules.specs.Named.{used_type, as_function}
use Rattle.wasm_operator_validator_rules.specs.Aggregates.{Struct, Array, struct_named, array_named, heap_named, top_heap, is_castable}
use Rattle.wasm_operator_validator_rules.specs.Places.{unpacked, is_packed, is_of_bytes, has_default, have_defaults, operands_for, Place, field_place, element_place}
use Rattle.wasm_operator_validator_rules.specs.Numbers.{numbers, class_of, taken_by, given_by, constant_type}
use Rattle.wasm_operator_validator_rules.specs.Accesses.{AccessOf, access_of, atomic_access_of, operands_of, results_of, may_access}
use Rattle.wasm_operator_validator_rules.specs.Vectors.{VectorClass, vectors_taken, vectors_given, VectorWork, on_lanes, reaches, work_of, vector_class}

-- standard: syntax-instrtype: instrtype
-- what is taken off the operands and what is put on, the last on top (validation, conventions, instruction types)
pub record InstructionType : Type 0 where
  pub takes : List ValueType
  pub gives : List ValueType

infix 5 ◌⟶◌
abbrev pub ◌⟶◌ : List ValueType → List ValueType → InstructionType
ts ⟶ us = record { takes = ts; gives = us }

-- a type under a condition
abbrev pub provided : Bool → InstructionType → Option InstructionType
provided true t = Some t
provided false t = None

-- f of what an index names, if it names something
abbrev pub named : {A : Type 0} → Option A → (A → Option InstructionType) → Option InstructionType
named None f = None
named (Some x) f = f x

abbrev pub i32_type : ValueType
i32_type = number i32

-- ---- memories

abbrev pub memory_at : Context → ℕ → (MemoryType → Option InstructionType) → Option InstructionType
memory_at g x f = named (slice_get g.«module».memories x) f

-- standard: valid-instr-memory: the address and the numbers of a load or store
-- an access takes the address first
abbrev pub accesses : Context → Bool → Option AccessOf → Option InstructionType
accesses g is_atomic None = None
accesses g is_atomic (Some a) =
    memory_at g a.argument.memory (λ m. provided (may_access is_atomic m a.argument) ((address_type m.memory64 ∷ numbers (operands_of a.access)) ⟶ numbers (results_of a.access)))

-- standard: valid-context: C.datas[x] (differs: by the data count section, without which no code names data)
-- the data count section, where it stands, names the data segment
abbrev pub names_data : Option ℕ → ℕ → Bool
names_data None x = false
names_data (Some n) x = nat_lt x n

-- standard: valid-instr-memory: memory.copy, table.copy: the type of the length
-- lengths are of 64 bits where both memories, or both tables, are
abbrev pub shorter : Bool → Bool → ValueType
shorter m n = address_type (m && n)

-- ---- globals and tables; a shared function may use what is shared alone (the proposal on shared everything)

abbrev pub global_at : Context → ℕ → (Global → Option InstructionType) → Option InstructionType
global_at g x f = named (slice_get g.«module».globals x) (λ v. if may_use g v.shared then f v else None)

abbrev pub table_at : Context → ℕ → (Table → Option InstructionType) → Option InstructionType
table_at g x f = named (slice_get g.«module».tables x) (λ t. if may_use g t.shared then f t else None)

-- ---- functions by reference (validation, control instructions)

-- a function type that is named
abbrev pub function_at : Context → ℕ → (TypeTree → Signature → Option InstructionType) → Option InstructionType
function_at g y f = named (used_type g y) (λ t. named (as_function (expanded t)) (f t))

-- a reference to a type, that may be null
abbrev pub reference_to : TypeTree → ValueType
reference_to t = ref true (concrete t)

-- ---- structs and arrays (validation, aggregate instructions)

abbrev pub struct_at : Context → ℕ → (Struct → Option InstructionType) → Option InstructionType
struct_at g x f = named (struct_named g x) f

abbrev pub array_at : Context → ℕ → (Array → Option InstructionType) → Option InstructionType
array_at g x f = named (array_named g x) f

-- standard: valid-instr-aggr: what an allocation gives (differs: of an exact type with custom descriptors)
-- what an allocation gives: exactly the type, by the proposal on custom descriptors
abbrev pub allocated : Context → TypeTree → ValueType
allocated g t = ref false (if has CustomDescriptors g.bits then exact t else concrete t)

-- standard: proposal-custom-descriptors: a struct with a descriptor is made with it
-- a struct with a descriptor is made with it alone (the same proposal)
abbrev pub is_described : Struct → Bool
is_described s = is_some (opened s.type).descriptor

abbrev pub element_of : Array → ValueType
element_of a = unpacked a.element.storage

-- standard: valid-instr-aggr: struct.get, array.get: not of a packed type
-- a place is read: what is stored there, or a packed type, which is extended; it is written, if it may be
abbrev pub read : Place → Option InstructionType
read p = provided (not (is_packed p.storage)) (p.reached_by ⟶ unpacked p.storage ∷ [])

-- standard: valid-instr-aggr: struct.get_sx, array.get_sx: of a packed type
abbrev pub read_packed : Place → Option InstructionType
read_packed p = provided (is_packed p.storage) (p.reached_by ⟶ i32_type ∷ [])

-- standard: valid-instr-aggr: struct.set, array.set: of a mutable field or element
abbrev pub written : Place → Option InstructionType
written p = provided p.mutable ((p.reached_by ++ unpacked p.storage ∷ []) ⟶ [])

-- ---- tests and casts (validation, reference instructions)

-- standard: valid-instr-ref: ref.test, ref.cast: from the top of the hierarchy
-- of a reference of the hierarchy of the type that is named
abbrev pub cast_at : Context → HeapType → (HeapOf TypeTree → ValueType) → Option InstructionType
cast_at g h f = named (heap_named g h) (λ k. provided (is_castable k) (ref true (top_heap k) ∷ [] ⟶ f k ∷ []))

-- ---- the tables of the groups

-- standard: valid-instr-control: call_ref
abbrev pub control_type_of : Context → ControlOperator → Option InstructionType
control_type_of g (control.CallRef y) = function_at g y (λ t b. Some ((b.params ++ reference_to t ∷ []) ⟶ b.results))
control_type_of g o = None

-- standard: valid-instr-variable: global.get, global.set
-- standard: valid-instr-memory: memory.size, memory.grow
abbrev pub memory_type_of : Context → MemoryOperator → Option InstructionType
memory_type_of g (memory.GlobalGet x) = global_at g x (λ v. Some ([] ⟶ v.content ∷ []))
memory_type_of g (memory.GlobalSet x) = global_at g x (λ v. provided v.mutable (v.content ∷ [] ⟶ []))
memory_type_of g (memory.MemorySize x) = memory_at g x (λ m. Some ([] ⟶ address_type m.memory64 ∷ []))
memory_type_of g (memory.MemoryGrow x) = memory_at g x (λ m. Some (address_type m.memory64 ∷ [] ⟶ address_type m.memory64 ∷ []))
memory_type_of g o = accesses g false (access_of o)

-- standard: valid-instr-table: table.get, table.set, table.grow, table.size, table.fill, elem.drop
-- standard: valid-instr-memory: data.drop, memory.init, memory.copy, memory.fill
-- standard: proposal-memory-control: memory.discard
abbrev pub bulk_type_of : Context → BulkOperator → Option InstructionType
bulk_type_of g (bulk.TableGet x) = table_at g x (λ t. Some (address_type t.table64 ∷ [] ⟶ t.element ∷ []))
bulk_type_of g (bulk.TableSet x) = table_at g x (λ t. Some (address_type t.table64 ∷ t.element ∷ [] ⟶ []))
bulk_type_of g (bulk.TableGrow x) = table_at g x (λ t. Some (t.element ∷ address_type t.table64 ∷ [] ⟶ address_type t.table64 ∷ []))
bulk_type_of g (bulk.TableSize x) = table_at g x (λ t. Some ([] ⟶ address_type t.table64 ∷ []))
bulk_type_of g (bulk.TableFill x) = table_at g x (λ t. Some (address_type t.table64 ∷ t.element ∷ address_type t.table64 ∷ [] ⟶ []))
bulk_type_of g (bulk.ElemDrop x) = named (slice_get g.«module».elements x) (λ t. Some ([] ⟶ []))
bulk_type_of g (bulk.DataDrop x) = provided (names_data g.«module».data_count x) ([] ⟶ [])
bulk_type_of g (bulk.MemoryInit d x) = memory_at g x (λ m. provided (names_data g.«module».data_count d) (address_type m.memory64 ∷ i32_type ∷ i32_type ∷ [] ⟶ []))
bulk_type_of g (bulk.MemoryCopy x y) = memory_at g x (λ m. memory_at g y (λ n. Some (address_type m.memory64 ∷ address_type n.memory64 ∷ shorter m.memory64 n.memory64 ∷ [] ⟶ [])))
bulk_type_of g (bulk.MemoryFill x) = memory_at g x (λ m. Some (address_type m.memory64 ∷ i32_type ∷ address_type m.memory64 ∷ [] ⟶ []))
bulk_type_of g (bulk.MemoryDiscard x) = memory_at g x (λ m. Some (address_type m.memory64 ∷ address_type m.memory64 ∷ [] ⟶ []))
bulk_type_of g o = None

-- standard: proposal-threads: atomic.fence
abbrev pub atomic_type_of : Context → AtomicOperator → Option InstructionType
atomic_type_of g atomic.AtomicFence = Some ([] ⟶ [])
atomic_type_of g o = accesses g true (atomic_access_of o)

-- standard: valid-instr-aggr: struct.new, struct.new_default, struct.get, struct.get_s, struct.get_u, struct.set
-- standard: valid-instr-aggr: array.new, array.new_default, array.new_fixed, array.new_data, array.fill, array.init_data
-- standard: valid-instr-aggr: array.get, array.get_s, array.get_u, array.set
-- standard: valid-instr-ref: ref.test, ref.cast (differs: exact and shared types too, whatever the features are)
-- standard: valid-instr-aggr: ref.i31
abbrev pub gc_type_of : Context → GcOperator → Option InstructionType
gc_type_of g (gc.StructNew x) = struct_at g x (λ s. provided (not (is_described s)) (operands_for s.fields ⟶ allocated g s.type ∷ []))
gc_type_of g (gc.StructNewDefault x) = struct_at g x (λ s. provided (not (is_described s) && have_defaults s.fields) ([] ⟶ allocated g s.type ∷ []))
gc_type_of g (gc.StructGet x i) = named (field_place g x i) read
gc_type_of g (gc.StructGetS x i) = named (field_place g x i) read_packed
gc_type_of g (gc.StructGetU x i) = named (field_place g x i) read_packed
gc_type_of g (gc.StructSet x i) = named (field_place g x i) written
gc_type_of g (gc.ArrayNew x) = array_at g x (λ a. Some (element_of a ∷ i32_type ∷ [] ⟶ allocated g a.type ∷ []))
gc_type_of g (gc.ArrayNewDefault x) = array_at g x (λ a. provided (has_default a.element) (i32_type ∷ [] ⟶ allocated g a.type ∷ []))
gc_type_of g (gc.ArrayNewFixed x n) = array_at g x (λ a. Some (replicate n (element_of a) ⟶ allocated g a.type ∷ []))
gc_type_of g (gc.ArrayNewData x d) = array_at g x
    (λ a. provided (is_of_bytes a.element.storage && names_data g.«module».data_count d) (i32_type ∷ i32_type ∷ [] ⟶ allocated g a.type ∷ []))
gc_type_of g (gc.ArrayGet x) = named (element_place g x) read
gc_type_of g (gc.ArrayGetS x) = named (element_place g x) read_packed
gc_type_of g (gc.ArrayGetU x) = named (element_place g x) read_packed
gc_type_of g (gc.ArraySet x) = named (element_place g x) written
gc_type_of g (gc.ArrayFill x) = array_at g x (λ a. provided a.element.mutable (reference_to a.type ∷ i32_type ∷ element_of a ∷ i32_type ∷ [] ⟶ []))
gc_type_of g (gc.ArrayInitData x d) = array_at g x
    (λ a. provided (a.element.mutable && (is_of_bytes a.element.storage && names_data g.«module».data_count d))
    (reference_to a.type ∷ i32_type ∷ i32_type ∷ i32_type ∷ [] ⟶ []))
gc_type_of g (gc.RefTestNonNull h) = cast_at g h (λ k. i32_type)
gc_type_of g (gc.RefTestNullable h) = cast_at g h (λ k. i32_type)
gc_type_of g (gc.RefCastNonNull h) = cast_at g h (λ k. ref false k)
gc_type_of g (gc.RefCastNullable h) = cast_at g h (λ k. ref true k)
gc_type_of g gc.RefI31 = Some (i32_type ∷ [] ⟶ ref false (abstract false i31) ∷ [])
gc_type_of g o = None

-- standard: changes: vector instructions (differs: they are refused without the switch)
-- of vectors, if they are judged
abbrev pub where_vectors : Context → Option InstructionType → Option InstructionType
where_vectors g t = if judges_vectors g.bits then t else None

abbrev pub lanes_type : VectorClass → InstructionType
lanes_type c = numbers (vectors_taken c) ⟶ numbers (vectors_given c)

abbrev pub work_type : Context → VectorWork → Option InstructionType
work_type g (on_lanes c) = Some (lanes_type c)
work_type g (reaches a) = accesses g false (Some a)

-- standard: part of instruction_type
abbrev pub simd_type_of : Context → SimdOperator → Option InstructionType
simd_type_of g o = where_vectors g (work_type g (work_of o))

-- standard: part of instruction_type
abbrev pub simd_numeric_type_of : Context → SimdNumericOperator → Option InstructionType
simd_numeric_type_of g o = where_vectors g (Some (lanes_type (vector_class o)))

-- standard: valid-instr: the type of an instruction that the module alone determines
-- what an operator takes and gives, where the module determines it
abbrev pub instruction_type : Context → Op → Option InstructionType
instruction_type g (op.Control o) = control_type_of g o
instruction_type g (op.Memory o) = memory_type_of g o
instruction_type g (op.Const o) = Some ([] ⟶ number (constant_type o) ∷ [])
instruction_type g (op.Numeric o) = Some (numbers (taken_by (class_of o)) ⟶ numbers (given_by (class_of o)))
instruction_type g (op.Bulk o) = bulk_type_of g o
instruction_type g (op.Atomic o) = atomic_type_of g o
instruction_type g (op.Gc o) = gc_type_of g o
instruction_type g (op.Simd o) = simd_type_of g o
instruction_type g (op.SimdNumeric o) = simd_numeric_type_of g o
instruction_type g o = None
