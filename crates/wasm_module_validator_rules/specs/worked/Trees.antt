-- The parts of which the worked modules are made.
use Rattle.std.specs.Prelude.{ℕ, ℤ, true, false, List, [], ◌∷◌, map, Option, Some, None}
use Rattle.wasm_types.specs.settings.Settings.{Settings}
use Rattle.wasm_types.specs.settings.Features.{Feature}
use Rattle.wasm_types.specs.settings.Sets.{bits_of}
use Rattle.wasm_types.specs.trees.declared.index.UnpackedIndex.TheVariants as index
use Rattle.wasm_types.specs.trees.Types.{ValueOf, i32, number, function, struct_of}
use Rattle.wasm_types.specs.trees.ValidGroup.{Written}
use Rattle.wasm_types.specs.trees.worked.Gates.{all_but}
use Rattle.wasm_types.specs.trees.worked.Groups.{allowing, single, final_type}
use Rattle.wasm_types.specs.values.Reference.{Reference}
use Rattle.wasm_types.specs.values.declared.heap.AbstractHeapType.TheVariants as heap
use Rattle.wasm_types.specs.values.declared.heap.HeapType.{HeapType}
use Rattle.wasm_types.specs.values.declared.heap.HeapType.TheVariants.{Abstract, Concrete}
use Rattle.wasm_types.specs.values.declared.value.ValType.{ValType}
use Rattle.wasm_types.specs.externs.declared.table.TableType.{TableType}
use Rattle.wasm_types.specs.externs.declared.memory.MemoryType.{MemoryType}
use Rattle.wasm_types.specs.externs.declared.global.GlobalType.{GlobalType}
use Rattle.wasm_types.specs.externs.declared.tag.TagType.{TagType}
use Rattle.wasm_types.specs.externs.declared.tag.TagKind.TheVariants as tag_kind
use Rattle.wasm_operators_enums.specs.declared.control.ControlOperator.TheVariants as control
use Rattle.wasm_operators_enums.specs.declared.memory.MemoryOperator.TheVariants as memory
use Rattle.wasm_operators_enums.specs.declared.constant.ConstOperator.TheVariants as const
use Rattle.wasm_operators_enums.specs.declared.bulk.BulkOperator.TheVariants as bulk
use Rattle.wasm_operators_enums.specs.declared.numeric.NumericOperator.TheVariants as numeric
use Rattle.wasm_operators_enums.specs.Op as op
use Rattle.wasm_operators_enums.specs.Op.{Op}
use Rattle.wasm_operators_encoding.specs.expressions.Code.{Code, close, plain}
use Rattle.wasm_operators_encoding.specs.Locals.{LocalGroup}
use Rattle.wasm_sections_items.specs.declared.imports.kind.ExternalKind.{ExternalKind}
use Rattle.wasm_sections_items.specs.declared.imports.type_ref.TypeRef.{TypeRef}
use Rattle.wasm_sections_items.specs.imports.Spells.{ImportTree, ExportTree}
use Rattle.wasm_sections_items.specs.segments.Spells.{GlobalTree, DataTree}
use Rattle.wasm_sections_items.specs.segments.Spells as data_mode
use Rattle.wasm_sections_items.specs.segments.Tables.{TableTree}
use Rattle.wasm_sections_items.specs.elements.Spells.{ElementTree, ElementItems, passive, active, declared, functions}
use Rattle.wasm_module_validator_rules.specs.Syntax.{Function, ModuleTree}
use Rattle.wasm_module_validator_rules.specs.Valid.{IsValid}

-- ---- what is judged

-- every feature, every feature but one, and the limits by default
abbrev pub everything : Settings
everything = allowing 0xfff_ffff

abbrev pub without : Feature → Settings
without f = allowing (all_but f)

-- the module is valid with every feature; it is not
abbrev pub Yes : ModuleTree → Type 0
Yes m = IsValid everything m

abbrev pub No : ModuleTree → Type 0
No m = IsValid everything m → ⊥

-- it is valid with every feature, and not with every feature but one
abbrev pub Needs : Feature → ModuleTree → Type 0
Needs f m = IsValid everything m × (IsValid (without f) m → ⊥)

-- it is valid with these features alone; it is not
abbrev pub ValidBy : List Feature → ModuleTree → Type 0
ValidBy fs m = IsValid (allowing (bits_of fs)) m

abbrev pub InvalidBy : List Feature → ModuleTree → Type 0
InvalidBy fs m = IsValid (allowing (bits_of fs)) m → ⊥

-- ---- code

abbrev pub end : Code
end = close (op.Control control.End)

abbrev pub only : Op → Code
only o = plain o end

abbrev pub constant : ℤ → Op
constant x = op.Const (const.I32Const x)

abbrev pub long : ℤ → Op
long x = op.Const (const.I64Const x)

abbrev pub sum : Op
sum = op.Numeric numeric.I32Add

abbrev pub drop : Op
drop = op.Parametric op.Drop

abbrev pub unreachable : Op
unreachable = op.Control control.Unreachable

abbrev pub local_get : ℕ → Op
local_get x = op.Memory (memory.LocalGet x)

abbrev pub local_set : ℕ → Op
local_set x = op.Memory (memory.LocalSet x)

abbrev pub memory_size : ℕ → Op
memory_size x = op.Memory (memory.MemorySize x)

abbrev pub table_size : ℕ → Op
table_size x = op.Bulk (bulk.TableSize x)

abbrev pub global_get : ℕ → Op
global_get x = op.Memory (memory.GlobalGet x)

abbrev pub function_at : ℕ → Op
function_at x = op.Bulk (bulk.RefFunc x)

abbrev pub null_of : HeapType → Op
null_of h = op.Bulk (bulk.RefNull h)

-- a reference to this function, dropped
abbrev pub refers_to : ℕ → Code
refers_to x = plain (function_at x) (only drop)

-- ---- types

-- a function type by itself
abbrev pub taking_and_giving : List (ValueOf ℕ) → List (ValueOf ℕ) → Written
taking_and_giving ps rs = single (final_type [] (function ps rs))

abbrev pub procedure : Written
procedure = taking_and_giving [] []

abbrev pub takes_i32 : Written
takes_i32 = taking_and_giving (number i32 ∷ []) []

abbrev pub gives_i32 : Written
gives_i32 = taking_and_giving [] (number i32 ∷ [])

abbrev pub empty_struct : Written
empty_struct = single (final_type [] (struct_of []))

-- references to functions, nullable or not, and to external values
abbrev pub funcref : Reference
funcref = record { nullable = true; heap = Abstract false heap.Func }

abbrev pub some_function : Reference
some_function = record { nullable = false; heap = Abstract false heap.Func }

abbrev pub externref : Reference
externref = record { nullable = true; heap = Abstract false heap.Extern }

-- a reference to a shared function, and one to a type of the module, by its index
abbrev pub shared_funcref : Reference
shared_funcref = record { nullable = true; heap = Abstract true heap.Func }

abbrev pub typed_by : ℕ → Reference
typed_by x = record { nullable = true; heap = Concrete (index.Module x) }

-- a table of so many elements at first, a memory of so many pages, a global that is never written and one that is, a tag
abbrev pub table_with : Reference → ℕ → TableType
table_with r n = record { element_type = r; table64 = false; initial = n; maximum = None; shared = false }

abbrev pub memory_with : ℕ → Option ℕ → MemoryType
memory_with n most = record { memory64 = false; shared = false; initial = n; maximum = most; page_size_log2 = None }

-- the same with 64 bits for indices and addresses; a memory with pages of 2^n bytes
abbrev pub wide_table : Reference → ℕ → TableType
wide_table r n = record (table_with r n) { table64 = true }

abbrev pub wide_memory : MemoryType
wide_memory = record (memory_with 1 None) { memory64 = true }

abbrev pub with_page : ℕ → MemoryType → MemoryType
with_page n t = record t { page_size_log2 = Some n }

abbrev pub constant_of : ValType → GlobalType
constant_of t = record { content_type = t; mutable = false; shared = false }

abbrev pub variable_of : ValType → GlobalType
variable_of t = record { content_type = t; mutable = true; shared = false }

abbrev pub tag_with : ℕ → TagType
tag_with x = record { kind = tag_kind.Exception; func_type_idx = x }

-- ---- items

-- an import without names, an export by a name of one byte
abbrev pub imports : TypeRef → ImportTree
imports t = record { module_name = []; field_name = []; ty = t }

abbrev pub exports : ℕ → ExternalKind → ℕ → ExportTree
exports byte k x = record { name = byte ∷ []; kind = k; index = x }

abbrev pub null_table : TableType → TableTree Code
null_table t = record { ty = t; init = None }

abbrev pub filled_table : TableType → Code → TableTree Code
filled_table t c = record { ty = t; init = Some c }

abbrev pub global_with : GlobalType → Code → GlobalTree Code
global_with t c = record { ty = t; init = c }

-- elements, active in a table at an offset, or not
abbrev pub active_elements : Option ℕ → Code → ElementItems Code → ElementTree Code
active_elements table offset items = record { mode = active table offset; items = items }

abbrev pub passive_elements : ElementItems Code → ElementTree Code
passive_elements items = record { mode = passive; items = items }

-- references to functions, active in table 0 at an offset, or declared alone
abbrev pub active_functions : Code → List ℕ → ElementTree Code
active_functions offset xs = active_elements None offset (functions xs)

abbrev pub declared_functions : List ℕ → ElementTree Code
declared_functions xs = record { mode = declared; items = functions xs }

-- no bytes, active in a memory at an offset, in memory 0, or not
abbrev pub active_data_in : ℕ → Code → DataTree Code
active_data_in memory offset = record { mode = data_mode.active memory offset; content = [] }

abbrev pub active_data : Code → DataTree Code
active_data offset = active_data_in 0 offset

abbrev pub passive_data : DataTree Code
passive_data = record { mode = data_mode.passive; content = [] }

-- so many locals of this type, and a function with locals that does this
abbrev pub locals_of : ℕ → ValType → List LocalGroup
locals_of n t = record { count = n; type = t } ∷ []

abbrev pub does : List LocalGroup → Code → Function
does gs c = record { locals = gs; body = c }

-- a module with nothing in it
abbrev pub empty : ModuleTree
empty = record {
  types = [];
  imports = [];
  functions = [];
  tables = [];
  memories = [];
  tags = [];
  globals = [];
  exports = [];
  start = None;
  element_segments = [];
  data_count = None;
  code = [];
  data_segments = [];
}

-- one function of this type, which does this
abbrev pub one_function : Written → Code → ModuleTree
one_function t c = record empty { types = t ∷ []; functions = 0 ∷ []; code = does [] c ∷ [] }

-- tables that are null at first, memories, or types alone
abbrev pub of_tables : List TableType → ModuleTree
of_tables ts = record empty { tables = map null_table ts }

abbrev pub of_memories : List MemoryType → ModuleTree
of_memories ms = record empty { memories = ms }

abbrev pub of_types : List Written → ModuleTree
of_types ws = record empty { types = ws }

-- types, and tags or imports
abbrev pub of_tags : List Written → List TagType → ModuleTree
of_tags ws ts = record empty { types = ws; tags = ts }

abbrev pub of_imports : List Written → List TypeRef → ModuleTree
of_imports ws ts = record empty { types = ws; imports = map imports ts }
