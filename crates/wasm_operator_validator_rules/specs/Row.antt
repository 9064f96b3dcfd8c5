-- What each operator takes and gives (WebAssembly 3.0, validation, instructions), and the features that it needs.
use Rattle.std.specs.Prelude.{◌≡◌, ℕ, Bool, true, false, IsTrue, List, [], ◌∷◌, ◌++◌, Option, Some, None, slice_get, if◌then◌else◌, ◌==◌, ◌⊎◌}
use Rattle.std.specs.Int.RustNames.{bit_and}
use Rattle.wasm_types.specs.settings.Features.{Floats, CustomDescriptors}
use Rattle.wasm_types.specs.trees.Types.{number, ref, HeapOf, abstract, concrete, exact, func}
use Rattle.wasm_types.specs.trees.Trees.{TypeTree}
use Rattle.wasm_types.specs.trees.Below.{Below, is_shared, value_is_shared}
use Rattle.wasm_types.specs.trees.Gates.{Has}
use Rattle.wasm_types.specs.values.declared.value.ValType.TheVariants as value
use Rattle.wasm_operators_immediates.specs.Info.{features_of}
use Rattle.wasm_operators_enums.specs.declared.control.ControlOperator.{ControlOperator}
use Rattle.wasm_operators_enums.specs.declared.control.ControlOperator.TheVariants as control
use Rattle.wasm_operators_enums.specs.declared.memory.MemoryOperator.{MemoryOperator}
use Rattle.wasm_operators_enums.specs.declared.memory.MemoryOperator.TheVariants as memory
use Rattle.wasm_operators_enums.specs.declared.bulk.BulkOperator.{BulkOperator}
use Rattle.wasm_operators_enums.specs.declared.bulk.BulkOperator.TheVariants as bulk
use Rattle.wasm_operators_enums.specs.Op as op
use Rattle.wasm_operators_enums.specs.Op.{Op, ParametricTree}
use Rattle.wasm_operators_enums.specs.Table.{info_of}
use Rattle.wasm_operator_validator_rules.specs.Operands.{ValueType, Operand, bottom, some_reference, known, IsReference, AllBelow, all_known}
use Rattle.wasm_operator_validator_rules.specs.Context.{Context, Table, Initialised, Signature, IsFunctionType, IsType, MayUse, address_type}
use Rattle.wasm_operator_validator_rules.specs.Numbers.{class_of, has_float, constant_type, is_float}
use Rattle.wasm_operator_validator_rules.specs.Accesses.{AccessOf, access_of, moves_float}
use Rattle.wasm_operator_validator_rules.specs.Vectors.{has_float_lanes, has_float_work, work_of, vector_class}
use Rattle.wasm_operator_validator_rules.specs.Named.{used_type}
use Rattle.wasm_operator_validator_rules.specs.InstructionTypes.{i32_type, shorter, reference_to}
pub use Rattle.wasm_operator_validator_rules.specs.Taken.{Takes, TableRow, IsLabel}
use Rattle.wasm_operator_validator_rules.specs.Exceptions.{ExceptionRow}
use Rattle.wasm_operator_validator_rules.specs.Objects.{GcRow}
use Rattle.wasm_operator_validator_rules.specs.Descriptors.{DescriptorRow}
use Rattle.wasm_operator_validator_rules.specs.SharedAccesses.{SharedRow}
use Rattle.wasm_operator_validator_rules.specs.Continuations.{ContinuationRow}

-- ---- control (validation, control instructions); where the next place is not reached, what is given is free

-- standard: valid-instr-control: br_table: each label
-- the operands may be taken for what each of these labels takes
abbrev pub FitEach : Context → List Operand → List ℕ → Type 0
FitEach g s [] = Unit {0}
FitEach g s (l ∷ ls) = ((ts : List ValueType) × IsLabel g l ts × AllBelow s (all_known ts)) × FitEach g s ls

-- standard: valid-context: C.funcs[x] (differs: a shared function calls shared ones alone)
-- a function of the module, by the type that it has
abbrev pub IsCallee : Context → ℕ → Signature → Type 0
IsCallee g x b = (t : TypeTree) × (slice_get g.«module».functions x ≡ Some t) × MayUse g (is_shared t) × IsFunctionType t b

-- standard: valid-instr-control: call_indirect: the table and the type (differs: of shared functions too)
-- a table of functions, and the type that a call through it expects
pub record IsIndirect (g : Context) (y x : ℕ) (t : Table) (b : Signature) : Type 0 where
  pub table : slice_get g.«module».tables x ≡ Some t
  pub table_used : MayUse g t.shared
  pub functions : (s : Bool) × Below t.element (ref true (abstract s func))
  pub callee : TypeTree
  pub type : slice_get g.«module».types y ≡ Some callee
  pub type_used : MayUse g (is_shared callee)
  pub function : IsFunctionType callee b

-- standard: valid-instr-control: return_call: the results
-- a call that takes the place of its caller gives what the function gives
abbrev pub IsReturned : Context → Signature → Type 0
IsReturned g b = AllBelow (all_known b.results) (all_known g.results)

-- standard: valid-instr-ref: ref.as_non_null, br_on_null: the reference that is not null
-- a reference where it is not null; one to the bottom heap type stays one
abbrev pub not_null : Operand → Operand
not_null (known (ref n h)) = known (ref false h)
not_null t = t

-- standard: valid-instr-control: unreachable, br, br_if, br_table, br_on_null, br_on_non_null, return
-- standard: valid-instr-control: nop
-- standard: valid-instr-control: call, call_indirect, return_call, return_call_indirect, return_call_ref
-- standard: valid-instr-ref: ref.as_non_null
abbrev pub ControlRow : Context → ControlOperator → List Operand → List Operand → Type 0
ControlRow g control.Unreachable popped pushed = Unit {0}
ControlRow g control.Nop popped pushed = Takes [] [] popped pushed
ControlRow g (control.Br l) popped pushed = (ts : List ValueType) × (any : List Operand) × IsLabel g l ts × (popped ≡ any ++ all_known ts)
ControlRow g (control.BrIf l) popped pushed = (ts : List ValueType) × IsLabel g l ts × Takes (ts ++ i32_type ∷ []) ts popped pushed
ControlRow g (control.BrTable t) popped pushed = (s any : List Operand) × FitEach g s (t.default ∷ t.targets)
    × (popped ≡ any ++ (s ++ known i32_type ∷ []))
ControlRow g control.Return popped pushed = (any : List Operand) × (popped ≡ any ++ all_known g.results)
ControlRow g (control.Call x) popped pushed = (b : Signature) × IsCallee g x b × Takes b.params b.results popped pushed
ControlRow g (control.CallIndirect y x) popped pushed = (t : Table) × (b : Signature) × IsIndirect g y x t b
    × Takes (b.params ++ address_type t.table64 ∷ []) b.results popped pushed
ControlRow g (control.ReturnCall x) popped pushed = (b : Signature) × (any : List Operand) × IsCallee g x b × IsReturned g b
    × (popped ≡ any ++ all_known b.params)
ControlRow g (control.ReturnCallIndirect y x) popped pushed = (t : Table) × (b : Signature) × (any : List Operand) × IsIndirect g y x t b
    × IsReturned g b × (popped ≡ any ++ all_known (b.params ++ address_type t.table64 ∷ []))
ControlRow g (control.ReturnCallRef y) popped pushed = (t : TypeTree) × (b : Signature) × (any : List Operand) × (used_type g y ≡ Some t)
    × IsFunctionType t b × IsReturned g b × (popped ≡ any ++ all_known (b.params ++ reference_to t ∷ []))
ControlRow g control.RefAsNonNull popped pushed = (t : Operand) × IsReference t × (popped ≡ t ∷ []) × (pushed ≡ not_null t ∷ [])
ControlRow g (control.BrOnNull l) popped pushed = (ts : List ValueType) × (t : Operand) × IsLabel g l ts × IsReference t
    × (popped ≡ all_known ts ++ t ∷ []) × (pushed ≡ all_known ts ++ not_null t ∷ [])
ControlRow g (control.BrOnNonNull l) popped pushed = (ts : List ValueType) × (n : Bool) × (h : HeapOf TypeTree)
    × IsLabel g l (ts ++ ref n h ∷ []) × Takes (ts ++ ref true h ∷ []) ts popped pushed
ControlRow g o popped pushed = TableRow g (op.Control o) popped pushed

-- ---- operands of any type (validation, parametric instructions)

-- standard: valid-instr-parametric: select without types: numtype, vectype
-- `select` without a type is for numbers and vectors
abbrev pub IsNumber : Operand → Type 0
IsNumber bottom = Unit {0}
IsNumber some_reference = ⊥
IsNumber (known (number n)) = Unit {0}
IsNumber (known (ref n h)) = ⊥

-- standard: valid-instr-parametric: drop, select
abbrev pub ParametricRow : Context → ParametricTree → List Operand → List Operand → Type 0
ParametricRow g op.Drop popped pushed = (t : Operand) × (popped ≡ t ∷ []) × (pushed ≡ [])
ParametricRow g op.Select popped pushed = (t : Operand) × IsNumber t × (popped ≡ t ∷ t ∷ known i32_type ∷ []) × (pushed ≡ t ∷ [])
ParametricRow g (op.TypedSelect written) popped pushed = (t : ValueType) × IsType g.bits g.«module» written t × MayUse g (value_is_shared t)
    × Takes (t ∷ t ∷ i32_type ∷ []) (t ∷ []) popped pushed
ParametricRow g (op.TypedSelectMulti written) popped pushed = ⊥

-- ---- variables (validation, variable instructions); globals are in the table

-- standard: valid-context: C.locals[x] (differs: a shared function uses shared locals alone)
-- a local of the function
pub record IsLocal (g : Context) (x : ℕ) (t : ValueType) : Type 0 where
  pub local : slice_get g.locals x ≡ Some t
  pub used : MayUse g (value_is_shared t)

-- standard: valid-instr-variable: local.get, local.set, local.tee
abbrev pub MemoryRow : Context → Initialised → MemoryOperator → List Operand → List Operand → Type 0
MemoryRow g set (memory.LocalGet x) popped pushed = (t : ValueType) × IsLocal g x t × IsTrue (set x) × Takes [] (t ∷ []) popped pushed
MemoryRow g set (memory.LocalSet x) popped pushed = (t : ValueType) × IsLocal g x t × Takes (t ∷ []) [] popped pushed
MemoryRow g set (memory.LocalTee x) popped pushed = (t : ValueType) × IsLocal g x t × Takes (t ∷ []) (t ∷ []) popped pushed
MemoryRow g set o popped pushed = TableRow g (op.Memory o) popped pushed

-- ---- references, and copies into tables (validation, reference instructions, table instructions)

-- standard: part of BulkRow
-- one of these
abbrev pub IsOneOf : ℕ → List ℕ → Type 0
IsOneOf x [] = ⊥
IsOneOf x (y ∷ ys) = (x ≡ y) ⊎ IsOneOf x ys

-- standard: valid-instr-ref: ref.func: the type of the reference (differs: exactly of it with custom descriptors)
-- the reference to a function: of its type, or exactly of it where that is known (the proposal on custom descriptors)
pub data IsReferenceTo (g : Context) (x : ℕ) (t : TypeTree) : HeapOf TypeTree → Type 0 where
  of_type : IsReferenceTo g x t (concrete t)
  of_exactly : Has g.bits CustomDescriptors → IsOneOf x g.«module».exact_functions → IsReferenceTo g x t (exact t)

-- standard: valid-instr-ref: ref.null, ref.is_null, ref.func
-- standard: valid-instr-table: table.init, table.copy
abbrev pub BulkRow : Context → BulkOperator → List Operand → List Operand → Type 0
BulkRow g (bulk.RefNull h) popped pushed = (t : ValueType) × IsType g.bits g.«module» (value.Ref (record { nullable = true; heap = h })) t
    × MayUse g (value_is_shared t) × Takes [] (t ∷ []) popped pushed
BulkRow g bulk.RefIsNull popped pushed = (t : Operand) × IsReference t × (popped ≡ t ∷ []) × (pushed ≡ all_known (i32_type ∷ []))
BulkRow g (bulk.RefFunc x) popped pushed =
    (t : TypeTree) × (h : HeapOf TypeTree) × (slice_get g.«module».functions x ≡ Some t) × IsOneOf x g.«module».referenced × MayUse g (is_shared t)
    × IsReferenceTo g x t h × Takes [] (ref false h ∷ []) popped pushed
BulkRow g (bulk.TableInit e x) popped pushed =
    (t : Table) × (s : ValueType) × (slice_get g.«module».tables x ≡ Some t) × MayUse g t.shared × (slice_get g.«module».elements e ≡ Some s) × Below s t.element
    × Takes (address_type t.table64 ∷ i32_type ∷ i32_type ∷ []) [] popped pushed
BulkRow g (bulk.TableCopy x y) popped pushed =
    (t s : Table) × (slice_get g.«module».tables x ≡ Some t) × (slice_get g.«module».tables y ≡ Some s) × MayUse g t.shared × MayUse g s.shared × Below s.element t.element
    × Takes (address_type t.table64 ∷ address_type s.table64 ∷ shorter t.table64 s.table64 ∷ []) [] popped pushed
BulkRow g o popped pushed = TableRow g (op.Bulk o) popped pushed

-- ---- all of them

-- whether an access, if there is one, moves a float
abbrev pub float_access : Option AccessOf → Bool
float_access None = false
float_access (Some a) = moves_float a.access

-- whether an operator has a float in its name
abbrev pub names_float : Op → Bool
names_float (op.Numeric o) = has_float (class_of o)
names_float (op.Const o) = is_float (constant_type o)
names_float (op.Memory o) = float_access (access_of o)
names_float (op.Simd o) = has_float_work (work_of o)
names_float (op.SimdNumeric o) = has_float_lanes (vector_class o)
names_float o = false

-- standard: changes: an instruction needs the features of its proposal
-- the features of the operator's proposal, and floats where it has one in its name
pub record IsEnabled (bits : ℕ) (o : Op) : Type 0 where
  pub proposal : bit_and bits (features_of (info_of o).proposal) ≡ features_of (info_of o).proposal
  pub floats : IsTrue (names_float o) → Has bits Floats

-- standard: part of Row
abbrev pub GroupRow : Context → Initialised → Op → List Operand → List Operand → Type 0
GroupRow g set (op.Control o) popped pushed = ControlRow g o popped pushed
GroupRow g set (op.Parametric o) popped pushed = ParametricRow g o popped pushed
GroupRow g set (op.Memory o) popped pushed = MemoryRow g set o popped pushed
GroupRow g set (op.Bulk o) popped pushed = BulkRow g o popped pushed
GroupRow g set (op.Exception o) popped pushed = ExceptionRow g o popped pushed
GroupRow g set (op.Gc o) popped pushed = GcRow g o popped pushed
GroupRow g set (op.Descriptor o) popped pushed = DescriptorRow g o popped pushed
GroupRow g set (op.Shared o) popped pushed = SharedRow g o popped pushed
GroupRow g set (op.Continuation o) popped pushed = ContinuationRow g o popped pushed
GroupRow g set o popped pushed = TableRow g o popped pushed

-- standard: valid-instr: instr, without subsumption
-- what an operator takes off the operands and puts on, the last on top
abbrev pub Row : Context → Initialised → Op → List Operand → List Operand → Type 0
Row g set o popped pushed = IsEnabled g.bits o × GroupRow g set o popped pushed

-- ---- the locals that are initialised after an operator (validation, conventions, instruction types)

-- standard: part of after
abbrev pub sets : MemoryOperator → Initialised → Initialised
sets (memory.LocalSet x) set = λ k. if x == k then true else set k
sets (memory.LocalTee x) set = λ k. if x == k then true else set k
sets o set = set

-- standard: valid-instr-seq: locals that are set after an instruction
abbrev pub after : Op → Initialised → Initialised
after (op.Memory o) set = sets o set
after o set = set
