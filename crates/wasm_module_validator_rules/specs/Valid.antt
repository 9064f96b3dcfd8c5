-- Valid modules (WebAssembly 3.0, validation, modules; appendix, implementation limitations).
--
-- Each item is judged in the context of the whole module, since what it may name was declared before it: types by types, imports
-- and functions by types, exports and segments by the spaces. Only constants see less than that: the value of a table sees the
-- imported globals alone, that of a global these and the globals before it.
use Rattle.std.specs.Prelude.{◌≡◌, ◌⊎◌, ℕ, suc, ◌+◌, ◌≤◌, ◌<◌, ◌^◌, ◌/◌, ◌-◌, min, Bool, true, false, IsTrue, List}
use Rattle.std.specs.Prelude.{[], ◌∷◌, ◌++◌, length, map, flat_map, replicate, Option, Some, None, slice_get, if◌then◌else◌}
use Rattle.std.specs.List.{AllZip}
use Rattle.wasm_types.specs.settings.Settings.{Settings}
use Rattle.wasm_types.specs.settings.Features.{MutableGlobal, ReferenceTypes, BulkMemory, Threads, SharedEverythingThreads, MultiMemory, Exceptions, Memory64}
use Rattle.wasm_types.specs.settings.Features.{FunctionReferences, CustomPageSizes, StackSwitching, CustomDescriptors, has}
use Rattle.wasm_types.specs.trees.Types.{InnerOf, function}
use Rattle.wasm_types.specs.trees.Trees.{TypeTree}
use Rattle.wasm_types.specs.trees.Below.{Below, expanded, is_shared, value_is_shared}
use Rattle.wasm_types.specs.trees.Gates.{Has}
use Rattle.wasm_types.specs.trees.ValidGroup.{AreValidGroups}
use Rattle.wasm_types.specs.values.Reference.{Reference}
use Rattle.wasm_types.specs.values.declared.value.ValType.{ValType}
use Rattle.wasm_types.specs.values.declared.value.ValType.TheVariants as value
use Rattle.wasm_types.specs.externs.declared.table.TableType.{TableType}
use Rattle.wasm_types.specs.externs.declared.memory.MemoryType.{MemoryType}
use Rattle.wasm_types.specs.externs.declared.global.GlobalType.{GlobalType}
use Rattle.wasm_types.specs.externs.declared.tag.TagType.{TagType}
use Rattle.wasm_operators_encoding.specs.expressions.Code.{Code}
use Rattle.wasm_operators_encoding.specs.Locals.{LocalGroup, total}
use Rattle.wasm_sections_items.specs.declared.imports.kind.ExternalKind.{ExternalKind}
use Rattle.wasm_sections_items.specs.declared.imports.kind.ExternalKind.TheVariants as kind
use Rattle.wasm_sections_items.specs.declared.imports.type_ref.TypeRef.{TypeRef}
use Rattle.wasm_sections_items.specs.declared.imports.type_ref.TypeRef.TheVariants as import
use Rattle.wasm_sections_items.specs.imports.Spells.{ImportTree, ExportTree}
use Rattle.wasm_sections_items.specs.segments.Spells.{GlobalTree, DataTree, DataMode}
use Rattle.wasm_sections_items.specs.segments.Spells as data_mode
use Rattle.wasm_sections_items.specs.segments.Tables.{TableTree}
use Rattle.wasm_sections_items.specs.elements.Spells.{ElementTree, ElementMode, ElementItems, passive, active, declared, functions, expressions, any_function}
use Rattle.wasm_operator_validator_rules.specs.Operands.{ValueType}
use Rattle.wasm_operator_validator_rules.specs.Context.{Module, Table, Global, Context, Signature, IsType, IsFunctionType, address_type}
use Rattle.wasm_operator_validator_rules.specs.Typed.{IsBody}
use Rattle.wasm_module_validator_rules.specs.Syntax.{Function, ModuleTree}
use Rattle.wasm_module_validator_rules.specs.Spaces.{value_in, imported_globals}
use Rattle.wasm_module_validator_rules.specs.Spaces.{element_type, module_of}
use Rattle.wasm_operator_validator_rules.specs.constants.Constants.{seeing, IsConstant}

-- standard: part of IsValidWith
-- each of these
abbrev pub Each : {A : Type 0} → (A → Type 0) → List A → Type 0
Each P [] = Unit {0}
Each P (x ∷ xs) = P x × Each P xs

-- standard: part of IsValidWith
-- what there is of an option
abbrev pub IfThere : {A : Type 0} → (A → Type 0) → Option A → Type 0
IfThere P None = Unit {0}
IfThere P (Some x) = P x

-- ---- types that the module writes (validation, types)

-- standard: valid-valtype: a type that the module writes
-- a value type that the module may write
abbrev pub IsValidValueType : Settings → Module → ValType → Type 0
IsValidValueType z g written = (t : ValueType) × IsType z.features g written t

-- standard: valid-func: the index of a function type
-- standard: valid-typeuse: of a function
-- the index of a function type of the module
abbrev pub IsFunctionIndex : Module → ℕ → Type 0
IsFunctionIndex g x = (t : TypeTree) × (b : Signature) × (slice_get g.types x ≡ Some t) × IsFunctionType t b

-- standard: valid-limits: limits
-- a minimum and a maximum, if there is one: both are at most this, and the minimum at most the maximum (validation, types, limits)
pub record IsValidLimits (most least : ℕ) (maximum : Option ℕ) : Type 0 where
  pub least_within : least ≤ most
  pub most_within : IfThere (λ n. n ≤ most) maximum
  pub ordered : IfThere (λ n. least ≤ n) maximum

-- standard: valid-reftype: of the elements of a table (differs: funcref needs no feature)
-- the type of a table's elements: funcref, which needs no feature, or any reference that the module may write
abbrev pub IsValidElementType : Settings → Module → Reference → Type 0
IsValidElementType z g r = (r ≡ any_function) ⊎ IsValidValueType z g (value.Ref r)

-- standard: valid-tabletype: the range of a table
-- the most elements of a table, by whether its indices are of 64 bits
abbrev pub most_elements : Bool → ℕ
most_elements true = 2 ^ 64 - 1
most_elements false = 2 ^ 32 - 1

-- standard: valid-tabletype: tabletype (differs: memory64 is a feature; shared tables too)
-- a table type; a shared one has shared elements (the proposal on shared everything)
pub record IsValidTableType (z : Settings) (g : Module) (t : TableType) : Type 0 where
  pub element : IsValidElementType z g t.element_type
  pub limits : IsValidLimits (most_elements t.table64) t.initial t.maximum
  pub wide : IsTrue t.table64 → Has z.features Memory64
  pub shared : IsTrue t.shared → Has z.features SharedEverythingThreads
      × IsTrue (value_is_shared (value_in g.types (value.Ref t.element_type)))

-- standard: proposal-custom-page-sizes: the size of a page
-- the size of a page by its logarithm, which is 0 or 16 (the proposal on custom page sizes)
abbrev pub page_size : Option ℕ → ℕ
page_size None = 2 ^ 16
page_size (Some n) = 2 ^ n

-- standard: valid-memtype: the range of a memory (differs: for pages of any size)
-- the most pages of a memory: as many as there are addresses, but for pages of one byte of a memory of 64 bits, one less
abbrev pub most_pages : Bool → ℕ → ℕ
most_pages true page = min (2 ^ 64 / page) (2 ^ 64 - 1)
most_pages false page = 2 ^ 32 / page

-- standard: valid-memtype: memtype (differs: memory64 is a feature; shared memories and sizes of pages too)
-- standard: valid-mem: mem
-- a memory type; a shared one has a maximum (the proposal on threads)
pub record IsValidMemoryType (z : Settings) (t : MemoryType) : Type 0 where
  pub page : IfThere (λ n. Has z.features CustomPageSizes × ((n ≡ 0) ⊎ (n ≡ 16))) t.page_size_log2
  pub limits : IsValidLimits (most_pages t.memory64 (page_size t.page_size_log2)) t.initial t.maximum
  pub wide : IsTrue t.memory64 → Has z.features Memory64
  pub shared : IsTrue t.shared → Has z.features Threads × ((n : ℕ) × (t.maximum ≡ Some n))

-- standard: valid-globaltype: globaltype (differs: shared globals too)
-- a global type; a shared one has a shared value
pub record IsValidGlobalType (z : Settings) (g : Module) (t : GlobalType) : Type 0 where
  pub content : IsValidValueType z g t.content_type
  pub shared : IsTrue t.shared → Has z.features SharedEverythingThreads × IsTrue (value_is_shared (value_in g.types t.content_type))

-- standard: valid-tagtype: tagtype (differs: exceptions are a feature; results are allowed with stack switching)
-- standard: valid-tag: tag
-- a tag type: of a function, with results by the proposal on stack switching alone
pub record IsValidTagType (z : Settings) (g : Module) (t : TagType) : Type 0 where
  pub exceptions : Has z.features Exceptions
  pub type : TypeTree
  pub signature : Signature
  pub named : slice_get g.types t.func_type_idx ≡ Some type
  pub function : IsFunctionType type signature
  pub results : (signature.results ≡ []) ⊎ Has z.features StackSwitching

-- ---- imports and exports (validation, modules, imports and exports)

-- standard: changes: imports and exports of mutable globals need mutable-global
-- a mutable global is imported or exported by a feature alone
abbrev pub MayCross : Settings → Bool → Type 0
MayCross z mutable = IsTrue mutable → Has z.features MutableGlobal

-- standard: valid-import: import
-- standard: valid-externtype: externtype (differs: functions of an exact type too)
-- the type of an import
abbrev pub IsValidImport : Settings → Module → TypeRef → Type 0
IsValidImport z g (import.Func x) = IsFunctionIndex g x
IsValidImport z g (import.FuncExact x) = Has z.features CustomDescriptors × IsFunctionIndex g x
IsValidImport z g (import.Table t) = IsValidTableType z g t
IsValidImport z g (import.Memory t) = IsValidMemoryType z t
IsValidImport z g (import.Global t) = IsValidGlobalType z g t × MayCross z t.mutable
IsValidImport z g (import.Tag t) = IsValidTagType z g t

-- standard: valid-export: export
-- standard: valid-externidx: externidx (differs: the kind of functions of an exact type too)
-- an export, by its kind and index: the index is in its space
abbrev pub IsValidExport : Settings → Module → ExternalKind → ℕ → Type 0
IsValidExport z g kind.Func x = x < length g.functions
IsValidExport z g kind.FuncExact x = x < length g.functions
IsValidExport z g kind.Table x = x < length g.tables
IsValidExport z g kind.Memory x = x < length g.memories
IsValidExport z g kind.Tag x = x < length g.tags
IsValidExport z g kind.Global x = (v : Global) × (slice_get g.globals x ≡ Some v) × MayCross z v.mutable

-- standard: valid-module: the names of exports differ
-- no two exports have one name
abbrev pub HaveOwnNames : List ExportTree → Type 0
HaveOwnNames [] = Unit {0}
HaveOwnNames (e ∷ es) = Each (λ (f : ExportTree). e.name ≡ f.name → ⊥) es × HaveOwnNames es

-- ---- what the module has itself (validation, modules)

-- standard: valid-table: its expression (differs: which needs function-references)
-- a table: without an expression its elements are null at first
abbrev pub IsInitialised : Settings → Module → ℕ → TableType → Option Code → Type 0
IsInitialised z g imported t None = IsTrue t.element_type.nullable
IsInitialised z g imported t (Some c) = Has z.features FunctionReferences
    × IsConstant z.features (seeing imported g) imported (value_in g.types (value.Ref t.element_type)) c

-- standard: valid-table: table
abbrev pub IsValidTable : Settings → Module → ℕ → TableTree Code → Type 0
IsValidTable z g imported x = IsValidTableType z g x.ty × IsInitialised z g imported x.ty x.init

-- standard: valid-global: global
-- a global, whose value sees so many globals
abbrev pub IsValidGlobal : Settings → Module → ℕ → ℕ → GlobalTree Code → Type 0
IsValidGlobal z g imported seen x = IsValidGlobalType z g x.ty
    × IsConstant z.features (seeing seen g) imported (value_in g.types x.ty.content_type) x.init

-- standard: valid-globals: globals, each in the context of those before it
-- globals one after the other, each seeing those before it
abbrev pub AreValidGlobals : Settings → Module → ℕ → ℕ → List (GlobalTree Code) → Type 0
AreValidGlobals z g imported seen [] = Unit {0}
AreValidGlobals z g imported seen (x ∷ xs) = IsValidGlobal z g imported seen x × AreValidGlobals z g imported (suc seen) xs

-- standard: valid-start: start
-- the start function takes and gives nothing
abbrev pub IsValidStart : Module → ℕ → Type 0
IsValidStart g x = (t : TypeTree) × (slice_get g.functions x ≡ Some t) × IsFunctionType t (record { params = []; results = [] })

-- ---- segments (validation, modules, element segments and data segments)

-- standard: valid-expr: constant, an offset
-- a constant offset into a table or a memory, by whether it is of 64 bits
abbrev pub IsOffset : Settings → Module → ℕ → Bool → Code → Type 0
IsOffset z g imported wide c = IsConstant z.features g imported (address_type wide) c

-- the table that an element segment names, 0 where it names none
abbrev pub table_index : Option ℕ → ℕ
table_index None = 0
table_index (Some x) = x

-- standard: valid-elemmode: active, passive, declare (differs: passive and declared ones need bulk-memory)
-- how elements of type t are used: an active segment has a table that they fit, and an offset
abbrev pub IsValidMode : Settings → Module → ℕ → ValueType → ElementMode Code → Type 0
IsValidMode z g imported t passive = Has z.features BulkMemory
IsValidMode z g imported t declared = Has z.features BulkMemory
IsValidMode z g imported t (active x c) = (v : Table) × (slice_get g.tables (table_index x) ≡ Some v) × Below t v.element
    × IsOffset z g imported v.table64 c

-- standard: valid-elem: the items
-- the elements: functions of the module, or constants of the type that is written
abbrev pub AreValidItems : Settings → Module → ℕ → ElementItems Code → Type 0
AreValidItems z g imported (functions xs) = Each (λ x. x < length g.functions) xs
AreValidItems z g imported (expressions r cs) = IsValidValueType z g (value.Ref r)
    × Each (IsConstant z.features g imported (value_in g.types (value.Ref r))) cs

-- how many elements there are
abbrev pub item_count : ElementItems Code → ℕ
item_count (functions xs) = length xs
item_count (expressions r cs) = length cs

-- standard: valid-elem: elem (differs: at most as many items as the limit)
pub record IsValidElement (z : Settings) (g : Module) (imported : ℕ) (x : ElementTree Code) : Type 0 where
  pub mode : IsValidMode z g imported (element_type g.types x.items) x.mode
  pub items : AreValidItems z g imported x.items
  pub within : item_count x.items ≤ z.limits.segment_items

-- standard: valid-datamode: active, passive (differs: a passive one needs bulk-memory)
-- standard: valid-data: data
-- how a data segment is used: an active one has a memory, and an offset
abbrev pub IsValidData : Settings → Module → ℕ → DataMode Code → Type 0
IsValidData z g imported data_mode.passive = Has z.features BulkMemory
IsValidData z g imported (data_mode.active x c) = (m : MemoryType) × (slice_get g.memories x ≡ Some m) × IsOffset z g imported m.memory64 c

-- ---- functions (validation, modules, functions and locals)

-- standard: valid-local: local
-- the locals of groups
abbrev pub locals_in : List TypeTree → List LocalGroup → List ValueType
locals_in ts gs = flat_map (λ (l : LocalGroup). replicate l.count (value_in ts l.type)) gs

-- standard: valid-func: the context of a body
-- the context of a body: its parameters are its first locals
abbrev pub body_context : Settings → Module → TypeTree → Signature → List LocalGroup → Context
body_context z g t b gs = record {
  bits = z.features;
  «module» = g;
  locals = b.params ++ locals_in g.types gs;
  labels = [];
  catches = [];
  results = b.results;
  shared = is_shared t;
}

-- standard: valid-func: func, its locals and its body (differs: at most as many locals as the limit)
-- standard: valid-local: local: set at first if it has a default
-- a function of this type
pub record IsValidFunction (z : Settings) (g : Module) (t : TypeTree) (f : Function) : Type 0 where
  pub signature : Signature
  pub function : IsFunctionType t signature
  pub locals : Each (λ (l : LocalGroup). IsValidValueType z g l.type) f.locals
  pub within : length signature.params + total f.locals ≤ z.limits.locals
  pub body : IsBody (body_context z g t signature f.locals) (length signature.params) f.body

-- standard: valid-func: func
-- a function of the type with this index
abbrev pub HasValidBody : Settings → Module → ℕ → Function → Type 0
HasValidBody z g x f = (t : TypeTree) × (slice_get g.types x ≡ Some t) × IsValidFunction z g t f

-- ---- limits

-- the size of a function type, as an import, an export or a tag
abbrev pub function_size : InnerOf TypeTree → ℕ
function_size (function ps rs) = 2 + (length ps + length rs)
function_size x = 2

abbrev pub size_at : Option TypeTree → ℕ
size_at None = 0
size_at (Some t) = function_size (expanded t)

-- the size of the type of an import, and of an export
abbrev pub import_size : Module → TypeRef → ℕ
import_size g (import.Func x) = size_at (slice_get g.types x)
import_size g (import.FuncExact x) = size_at (slice_get g.types x)
import_size g (import.Tag t) = size_at (slice_get g.types t.func_type_idx)
import_size g t = 1

abbrev pub export_size : Module → ExternalKind → ℕ → ℕ
export_size g kind.Func x = size_at (slice_get g.functions x)
export_size g kind.FuncExact x = size_at (slice_get g.functions x)
export_size g kind.Tag x = size_at (slice_get g.tags x)
export_size g k x = 1

-- standard: impl: sizes of the types of imports and exports
-- sizes are added one by one, and each sum is below the limit
abbrev pub SumsBelow : ℕ → ℕ → List ℕ → Type 0
SumsBelow limit sum [] = Unit {0}
SumsBelow limit sum (n ∷ ns) = (sum + n < limit) × SumsBelow limit (sum + n) ns

abbrev pub type_sizes : Module → ModuleTree → List ℕ
type_sizes g m = map (λ (i : ImportTree). import_size g i.ty) m.imports ++ map (λ (e : ExportTree). export_size g e.kind e.index) m.exports

-- standard: changes: several tables need reference-types
-- the most tables and memories: without their features one at most
abbrev pub most_tables : Settings → ℕ
most_tables z = if has ReferenceTypes z.features then z.limits.tables else min 1 z.limits.tables

-- standard: valid-module: memories (differs: several need multi-memory)
abbrev pub most_memories : Settings → ℕ
most_memories z = if has MultiMemory z.features then z.limits.memories else min 1 z.limits.memories

-- standard: impl: numbers of items
-- how many there may be of each thing; imports count in their spaces, and a group without types counts as a group
pub record IsWithinLimits (z : Settings) (g : Module) (m : ModuleTree) : Type 0 where
  pub groups : length m.types ≤ z.limits.types
  pub types : length g.types ≤ z.limits.types
  pub imports : length m.imports ≤ z.limits.imports
  pub functions : length g.functions ≤ z.limits.functions
  pub tables : length g.tables ≤ most_tables z
  pub memories : length g.memories ≤ most_memories z
  pub tags : length g.tags ≤ z.limits.tags
  pub globals : length g.globals ≤ z.limits.globals
  pub exports : length m.exports ≤ z.limits.exports
  pub element_segments : length m.element_segments ≤ z.limits.element_segments
  pub data_segments : length m.data_segments ≤ z.limits.data_segments
  pub data_count : IfThere (λ n. n ≤ z.limits.data_segments) m.data_count
  pub sizes : SumsBelow z.limits.type_size 1 (type_sizes g m)

-- ---- modules

-- standard: valid-module: module
-- The module is valid in the context g, in which the first so many globals are imported, and of its bodies this holds.
pub record IsValidWith (Bodies : Type 0) (z : Settings) (g : Module) (imported : ℕ) (m : ModuleTree) : Type 0 where
  pub types : AreValidGroups z [] m.types g.types
  pub imports : Each (λ (i : ImportTree). IsValidImport z g i.ty) m.imports
  pub functions : Each (IsFunctionIndex g) m.functions
  pub tables : Each (IsValidTable z g imported) m.tables
  pub memories : Each (IsValidMemoryType z) m.memories
  pub tags : Each (IsValidTagType z g) m.tags
  pub globals : AreValidGlobals z g imported imported m.globals
  pub exports : Each (λ (e : ExportTree). IsValidExport z g e.kind e.index) m.exports
  pub names : HaveOwnNames m.exports
  pub start : IfThere (IsValidStart g) m.start
  pub element_segments : Each (IsValidElement z g imported) m.element_segments
  pub data_count : IfThere (λ n. Has z.features BulkMemory) m.data_count
  pub code : Bodies
  pub data_segments : Each (λ (x : DataTree Code). IsValidData z g imported x.mode) m.data_segments
  pub limits : IsWithinLimits z g m

-- standard: valid-module: funcs
-- each function has a valid body
abbrev pub HasValidBodies : Settings → Module → ModuleTree → Type 0
HasValidBodies z g m = AllZip (HasValidBody z g) m.functions m.code

-- standard: valid-module: module
-- a valid module (validation, modules)
abbrev pub IsValid : Settings → ModuleTree → Type 0
IsValid z m = IsValidWith (HasValidBodies z (module_of m) m) z (module_of m) (imported_globals m) m
