-- The bytes of imports and exports (WebAssembly 3.0, binary format, types and modules; exact functions by the proposal on custom
-- descriptors).
use Rattle.std.specs.Prelude.{◌≡◌, ℕ, List, [], ◌∷◌, ◌++◌}
use Rattle.wasm_types.specs.decoding.Decoder.{Grammar}
use Rattle.wasm_types.specs.decoding.Leb.{IsUnsigned}
use Rattle.wasm_types.specs.settings.Settings.{Settings}
use Rattle.wasm_types.specs.decoding.Text.{IsName}
use Rattle.wasm_types.specs.externs.Spells.{SpelledMemory, SpelledTable, SpelledGlobal, SpelledTag}
use Rattle.wasm_sections_items.specs.declared.imports.kind.ExternalKind.{ExternalKind}
use Rattle.wasm_sections_items.specs.declared.imports.kind.ExternalKind.TheVariants as kind
use Rattle.wasm_sections_items.specs.declared.imports.type_ref.TypeRef.{TypeRef}
use Rattle.wasm_sections_items.specs.declared.imports.type_ref.TypeRef.TheVariants as ref

-- ---- kinds and types

-- standard: binary-externtype: the byte of each kind (differs: 0x20 too)
-- the byte of each kind (binary format, types, external types)
abbrev pub kind_byte : ExternalKind → ℕ
kind_byte kind.Func = 0x00
kind_byte kind.Table = 0x01
kind_byte kind.Memory = 0x02
kind_byte kind.Global = 0x03
kind_byte kind.Tag = 0x04
kind_byte kind.FuncExact = 0x20

-- standard: part of SpelledExportKind
-- a kind by its byte
abbrev pub SpelledKind : Grammar ExternalKind
SpelledKind k text = text ≡ kind_byte k ∷ []

-- standard: binary-externidx: externidx: its kind
-- the kind of an export: 0x00 to 0x04 (binary format, modules, export section); 0x20 is of imports alone
abbrev pub SpelledExportKind : Grammar ExternalKind
SpelledExportKind k text = SpelledKind k text × (k ≡ kind.FuncExact → ⊥)

-- the kind that a type is of
abbrev pub kind_of : TypeRef → ExternalKind
kind_of (ref.Func x) = kind.Func
kind_of (ref.Table t) = kind.Table
kind_of (ref.Memory t) = kind.Memory
kind_of (ref.Global t) = kind.Global
kind_of (ref.Tag t) = kind.Tag
kind_of (ref.FuncExact x) = kind.FuncExact

-- standard: part of SpelledTypeRef
-- what follows the kind: of a function the index of its type
abbrev pub SpelledContent : Grammar TypeRef
SpelledContent (ref.Func x) text = IsUnsigned 32 x text
SpelledContent (ref.Table t) text = SpelledTable t text
SpelledContent (ref.Memory t) text = SpelledMemory t text
SpelledContent (ref.Global t) text = SpelledGlobal t text
SpelledContent (ref.Tag t) text = SpelledTag t text
SpelledContent (ref.FuncExact x) text = IsUnsigned 32 x text

-- standard: binary-externtype: externtype (differs: 0x20 for a function of an exact type too)
-- externtype ::= 0x00 x:typeidx | 0x01 tt:tabletype | 0x02 mt:memtype | 0x03 gt:globaltype | 0x04 jt:tagtype
-- (binary format, types, external types), and 0x20 x:typeidx for exactly this type
pub record SpelledTypeRef (t : TypeRef) (text : List ℕ) : Type 0 where
  pub content : List ℕ
  pub spelled : SpelledContent t content
  pub whole : text ≡ kind_byte (kind_of t) ∷ content

-- ---- imports and exports

-- an import: the bytes of its names, and its type
pub record ImportTree : Type 0 where
  pub module_name : List ℕ
  pub field_name : List ℕ
  pub ty : TypeRef

-- an export: the bytes of its name, its kind and its index
pub record ExportTree : Type 0 where
  pub name : List ℕ
  pub kind : ExternalKind
  pub index : ℕ

-- standard: binary-importsec: import (differs: names of at most as many bytes as the limit)
-- import ::= nm1:name nm2:name xt:externtype => (import nm1 nm2 xt) (binary format, modules, import section)
pub record SpelledImport (z : Settings) (i : ImportTree) (text : List ℕ) : Type 0 where
  pub module_text : List ℕ
  pub field_text : List ℕ
  pub type_text : List ℕ
  pub from_module : IsName z.limits.string_bytes i.module_name module_text
  pub named : IsName z.limits.string_bytes i.field_name field_text
  pub typed : SpelledTypeRef i.ty type_text
  pub whole : text ≡ module_text ++ (field_text ++ type_text)

-- standard: binary-exportsec: export (differs: a name of at most as many bytes as the limit)
-- export ::= nm:name xx:externidx => (export nm xx) (binary format, modules, export section)
pub record SpelledExport (z : Settings) (e : ExportTree) (text : List ℕ) : Type 0 where
  pub name_text : List ℕ
  pub kind_text : List ℕ
  pub index_text : List ℕ
  pub named : IsName z.limits.string_bytes e.name name_text
  pub of_kind : SpelledExportKind e.kind kind_text
  pub indexed : IsUnsigned 32 e.index index_text
  pub whole : text ≡ name_text ++ (kind_text ++ index_text)
