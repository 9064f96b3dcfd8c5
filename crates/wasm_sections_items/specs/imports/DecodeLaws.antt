-- The readers of imports and exports are lawful, and read exactly what the bytes spell.
use Rattle.std.proofs.Common.{◌≡◌, ℕ, List, [], ◌∷◌, ◌++◌, refl, sym, ap, ◌∙◌, subst, append-nil}
use Rattle.wasm_types.specs.decoding.declared.Refusal.TheVariants.{Other}
use Rattle.wasm_types.specs.settings.Settings.{Settings}
use Rattle.wasm_types.specs.decoding.Decoder.{Grammar, pure, refuse, byte, choice, IsLawful, Decides, Then}
use Rattle.wasm_types.specs.decoding.Laws.{lawful-byte, lawful->>=, lawful-pure, lawful-refuse, lawful-choice}
use Rattle.wasm_types.specs.decoding.ExactLaws.{Mapped, ReadsTagged, decides->>=, decides-same, decides-map, decides-pure, decides-refuse, decides-table, sound-pure, reads-pure}
use Rattle.wasm_types.specs.decoding.Leb.{u32, IsUnsigned}
use Rattle.wasm_types.specs.decoding.LebLaws.{lawful-unsigned, decides-u32}
use Rattle.wasm_types.specs.decoding.Text.{name, IsName}
use Rattle.wasm_types.specs.decoding.TextLaws.{lawful-name, decides-name}
use Rattle.wasm_types.specs.externs.Decode.{memory_type, table_type, global_type, tag_type}
use Rattle.wasm_types.specs.externs.Spells.{SpelledMemory, SpelledTable, SpelledGlobal, SpelledTag}
use Rattle.wasm_types.specs.externs.DecodeLaws.{
  lawful-memory_type,
  decides-memory_type,
  lawful-table_type,
  decides-table_type,
  lawful-global_type,
  decides-global_type,
  lawful-tag_type,
  decides-tag_type,
}
use Rattle.wasm_types.specs.externs.declared.table.TableType.{TableType}
use Rattle.wasm_types.specs.externs.declared.memory.MemoryType.{MemoryType}
use Rattle.wasm_types.specs.externs.declared.global.GlobalType.{GlobalType}
use Rattle.wasm_types.specs.externs.declared.tag.TagType.{TagType}
use Rattle.wasm_sections_items.specs.declared.imports.kind.ExternalKind.{ExternalKind}
use Rattle.wasm_sections_items.specs.declared.imports.kind.ExternalKind.TheVariants as kind
use Rattle.wasm_sections_items.specs.declared.imports.type_ref.TypeRef.{TypeRef}
use Rattle.wasm_sections_items.specs.declared.imports.type_ref.TypeRef.TheVariants as ref
use Rattle.wasm_sections_items.specs.imports.Spells.{
  kind_byte,
  SpelledKind,
  SpelledExportKind,
  kind_of,
  SpelledContent,
  SpelledTypeRef,
  ImportTree,
  ExportTree,
  SpelledImport,
  SpelledExport,
}
use Rattle.wasm_sections_items.specs.imports.Decode.{kinds, external_kind, content_of, type_ref, import_of, import, exported, export_kind, export_of, export}

-- ---- kinds

pub lawful-external_kind : IsLawful external_kind
unfolding external_kind
lawful-external_kind = lawful->>= byte _ lawful-byte (λ b. lawful-choice kinds _ b (
  lawful-pure kind.Func,
  (lawful-pure kind.Table, (lawful-pure kind.Memory, (lawful-pure kind.Global, (lawful-pure kind.Tag, (lawful-pure kind.FuncExact, tt))))),
) (lawful-refuse Other 1))

kind_reads : (k : ExternalKind) (text : List ℕ) → SpelledKind k text → ReadsTagged (choice kinds (refuse Other 1)) k text
kind_reads kind.Func text h = subst (ReadsTagged (choice kinds (refuse Other 1)) kind.Func) (sym h) (reads-pure kind.Func)
kind_reads kind.Table text h = subst (ReadsTagged (choice kinds (refuse Other 1)) kind.Table) (sym h) (reads-pure kind.Table)
kind_reads kind.Memory text h = subst (ReadsTagged (choice kinds (refuse Other 1)) kind.Memory) (sym h) (reads-pure kind.Memory)
kind_reads kind.Global text h = subst (ReadsTagged (choice kinds (refuse Other 1)) kind.Global) (sym h) (reads-pure kind.Global)
kind_reads kind.Tag text h = subst (ReadsTagged (choice kinds (refuse Other 1)) kind.Tag) (sym h) (reads-pure kind.Tag)
kind_reads kind.FuncExact text h = subst (ReadsTagged (choice kinds (refuse Other 1)) kind.FuncExact) (sym h) (reads-pure kind.FuncExact)

pub decides-external_kind : Decides external_kind SpelledKind
unfolding external_kind
decides-external_kind = decides-table Other SpelledKind kinds (
  sound-pure kind.Func _ refl,
  (sound-pure kind.Table _ refl, (sound-pure kind.Memory _ refl, (sound-pure kind.Global _ refl, (sound-pure kind.Tag _ refl, (sound-pure kind.FuncExact _ refl, tt))))),
) kind_reads

-- ---- types

lawful-content_of : (k : ExternalKind) → IsLawful (content_of k)
lawful-content_of kind.Func = lawful->>= u32 _ (lawful-unsigned 4 4) (λ x. lawful-pure (ref.Func x))
lawful-content_of kind.Table = lawful->>= table_type _ (lawful-table_type) (λ x. lawful-pure (ref.Table x))
lawful-content_of kind.Memory = lawful->>= memory_type _ (lawful-memory_type) (λ x. lawful-pure (ref.Memory x))
lawful-content_of kind.Global = lawful->>= global_type _ (lawful-global_type) (λ x. lawful-pure (ref.Global x))
lawful-content_of kind.Tag = lawful->>= tag_type _ (lawful-tag_type) (λ x. lawful-pure (ref.Tag x))
lawful-content_of kind.FuncExact = lawful->>= u32 _ (lawful-unsigned 4 4) (λ x. lawful-pure (ref.FuncExact x))

pub lawful-type_ref : IsLawful type_ref
unfolding type_ref
lawful-type_ref = lawful->>= external_kind content_of lawful-external_kind lawful-content_of

-- what follows a kind
abbrev OfKind : ExternalKind → Grammar TypeRef
OfKind k t text = (kind_of t ≡ k) × SpelledContent t text

abbrev func_ref : ℕ → TypeRef
func_ref x = ref.Func x

func_from : (t : TypeRef) (text : List ℕ) → OfKind kind.Func t text → Mapped func_ref (IsUnsigned 32) t text
func_from (ref.Func x) text h = (x, h.1, refl)
func_from (ref.Table x) text h = absurd (let no : kind.Table ≡ kind.Func = h.0 in cc)
func_from (ref.Memory x) text h = absurd (let no : kind.Memory ≡ kind.Func = h.0 in cc)
func_from (ref.Global x) text h = absurd (let no : kind.Global ≡ kind.Func = h.0 in cc)
func_from (ref.Tag x) text h = absurd (let no : kind.Tag ≡ kind.Func = h.0 in cc)
func_from (ref.FuncExact x) text h = absurd (let no : kind.FuncExact ≡ kind.Func = h.0 in cc)

abbrev table_ref : TableType → TypeRef
table_ref x = ref.Table x

table_from : (t : TypeRef) (text : List ℕ) → OfKind kind.Table t text → Mapped table_ref SpelledTable t text
table_from (ref.Func x) text h = absurd (let no : kind.Func ≡ kind.Table = h.0 in cc)
table_from (ref.Table x) text h = (x, h.1, refl)
table_from (ref.Memory x) text h = absurd (let no : kind.Memory ≡ kind.Table = h.0 in cc)
table_from (ref.Global x) text h = absurd (let no : kind.Global ≡ kind.Table = h.0 in cc)
table_from (ref.Tag x) text h = absurd (let no : kind.Tag ≡ kind.Table = h.0 in cc)
table_from (ref.FuncExact x) text h = absurd (let no : kind.FuncExact ≡ kind.Table = h.0 in cc)

abbrev memory_ref : MemoryType → TypeRef
memory_ref x = ref.Memory x

memory_from : (t : TypeRef) (text : List ℕ) → OfKind kind.Memory t text → Mapped memory_ref SpelledMemory t text
memory_from (ref.Func x) text h = absurd (let no : kind.Func ≡ kind.Memory = h.0 in cc)
memory_from (ref.Table x) text h = absurd (let no : kind.Table ≡ kind.Memory = h.0 in cc)
memory_from (ref.Memory x) text h = (x, h.1, refl)
memory_from (ref.Global x) text h = absurd (let no : kind.Global ≡ kind.Memory = h.0 in cc)
memory_from (ref.Tag x) text h = absurd (let no : kind.Tag ≡ kind.Memory = h.0 in cc)
memory_from (ref.FuncExact x) text h = absurd (let no : kind.FuncExact ≡ kind.Memory = h.0 in cc)

abbrev global_ref : GlobalType → TypeRef
global_ref x = ref.Global x

global_from : (t : TypeRef) (text : List ℕ) → OfKind kind.Global t text → Mapped global_ref SpelledGlobal t text
global_from (ref.Func x) text h = absurd (let no : kind.Func ≡ kind.Global = h.0 in cc)
global_from (ref.Table x) text h = absurd (let no : kind.Table ≡ kind.Global = h.0 in cc)
global_from (ref.Memory x) text h = absurd (let no : kind.Memory ≡ kind.Global = h.0 in cc)
global_from (ref.Global x) text h = (x, h.1, refl)
global_from (ref.Tag x) text h = absurd (let no : kind.Tag ≡ kind.Global = h.0 in cc)
global_from (ref.FuncExact x) text h = absurd (let no : kind.FuncExact ≡ kind.Global = h.0 in cc)

abbrev tag_ref : TagType → TypeRef
tag_ref x = ref.Tag x

tag_from : (t : TypeRef) (text : List ℕ) → OfKind kind.Tag t text → Mapped tag_ref SpelledTag t text
tag_from (ref.Func x) text h = absurd (let no : kind.Func ≡ kind.Tag = h.0 in cc)
tag_from (ref.Table x) text h = absurd (let no : kind.Table ≡ kind.Tag = h.0 in cc)
tag_from (ref.Memory x) text h = absurd (let no : kind.Memory ≡ kind.Tag = h.0 in cc)
tag_from (ref.Global x) text h = absurd (let no : kind.Global ≡ kind.Tag = h.0 in cc)
tag_from (ref.Tag x) text h = (x, h.1, refl)
tag_from (ref.FuncExact x) text h = absurd (let no : kind.FuncExact ≡ kind.Tag = h.0 in cc)

abbrev exact_ref : ℕ → TypeRef
exact_ref x = ref.FuncExact x

exact_from : (t : TypeRef) (text : List ℕ) → OfKind kind.FuncExact t text → Mapped exact_ref (IsUnsigned 32) t text
exact_from (ref.Func x) text h = absurd (let no : kind.Func ≡ kind.FuncExact = h.0 in cc)
exact_from (ref.Table x) text h = absurd (let no : kind.Table ≡ kind.FuncExact = h.0 in cc)
exact_from (ref.Memory x) text h = absurd (let no : kind.Memory ≡ kind.FuncExact = h.0 in cc)
exact_from (ref.Global x) text h = absurd (let no : kind.Global ≡ kind.FuncExact = h.0 in cc)
exact_from (ref.Tag x) text h = absurd (let no : kind.Tag ≡ kind.FuncExact = h.0 in cc)
exact_from (ref.FuncExact x) text h = (x, h.1, refl)

decides-content_of : (k : ExternalKind) → Decides (content_of k) (OfKind k)
decides-content_of kind.Func = decides-same _ (Mapped func_ref (IsUnsigned 32)) (OfKind kind.Func) (decides-map u32 func_ref (IsUnsigned 32) decides-u32)
    (λ t text h. subst (λ (r : TypeRef). OfKind kind.Func r text) (sym h.2) (refl, h.1)) func_from
decides-content_of kind.Table = decides-same _ (Mapped table_ref SpelledTable) (OfKind kind.Table) (decides-map table_type table_ref SpelledTable decides-table_type)
    (λ t text h. subst (λ (r : TypeRef). OfKind kind.Table r text) (sym h.2) (refl, h.1)) table_from
decides-content_of kind.Memory = decides-same _ (Mapped memory_ref SpelledMemory) (OfKind kind.Memory) (decides-map memory_type memory_ref SpelledMemory decides-memory_type)
    (λ t text h. subst (λ (r : TypeRef). OfKind kind.Memory r text) (sym h.2) (refl, h.1)) memory_from
decides-content_of kind.Global = decides-same _ (Mapped global_ref SpelledGlobal) (OfKind kind.Global) (decides-map global_type global_ref SpelledGlobal decides-global_type)
    (λ t text h. subst (λ (r : TypeRef). OfKind kind.Global r text) (sym h.2) (refl, h.1)) global_from
decides-content_of kind.Tag = decides-same _ (Mapped tag_ref SpelledTag) (OfKind kind.Tag) (decides-map tag_type tag_ref SpelledTag decides-tag_type)
    (λ t text h. subst (λ (r : TypeRef). OfKind kind.Tag r text) (sym h.2) (refl, h.1)) tag_from
decides-content_of kind.FuncExact = decides-same _ (Mapped exact_ref (IsUnsigned 32)) (OfKind kind.FuncExact) (decides-map u32 exact_ref (IsUnsigned 32) decides-u32)
    (λ t text h. subst (λ (r : TypeRef). OfKind kind.FuncExact r text) (sym h.2) (refl, h.1)) exact_from

type_to : (t : TypeRef) (text : List ℕ) → Then SpelledKind OfKind t text → SpelledTypeRef t text
type_to t text h = record {
  content = h.back;
  spelled = h.second.1;
  whole = h.whole ∙ ap (λ (z : List ℕ). z ++ h.back) h.first ∙ ap (λ (k : ExternalKind). kind_byte k ∷ h.back) (sym h.second.0);
}

type_from : (t : TypeRef) (text : List ℕ) → SpelledTypeRef t text → Then SpelledKind OfKind t text
type_from t text h = record { value = kind_of t; front = kind_byte (kind_of t) ∷ []; back = h.content; first = refl; second = (refl, h.spelled); whole = h.whole }

pub decides-type_ref : Decides type_ref SpelledTypeRef
unfolding type_ref
decides-type_ref = decides-same _ (Then SpelledKind OfKind) SpelledTypeRef (decides->>= external_kind content_of SpelledKind OfKind decides-external_kind decides-content_of) type_to type_from

-- ---- imports

-- the most bytes of a name
abbrev most : Settings → ℕ
most z = z.limits.string_bytes

pub lawful-import : (z : Settings) → IsLawful (import z)
unfolding import
lawful-import z =
    lawful->>= (name (most z)) _ (lawful-name (most z)) (λ m.
    lawful->>= (name (most z)) _ (lawful-name (most z)) (λ n.
    lawful->>= type_ref _ lawful-type_ref (λ t. lawful-pure (import_of m n t))))

abbrev type_behind : List ℕ → List ℕ → Grammar ImportTree
type_behind m n = Mapped (import_of m n) SpelledTypeRef

abbrev field_behind : Settings → List ℕ → Grammar ImportTree
field_behind z m = Then (IsName (most z)) (type_behind m)

import_to : (z : Settings) (i : ImportTree) (text : List ℕ) → Then (IsName (most z)) (field_behind z) i text → SpelledImport z i text
import_to z i text h =
    let a = h.second in
    let b = a.second in
    subst (λ (k : ImportTree). SpelledImport z k text) (sym b.2) (record {
      module_text = h.front;
      field_text = a.front;
      type_text = a.back;
      from_module = h.first;
      named = a.first;
      typed = b.1;
      whole = h.whole ∙ ap (λ (bs : List ℕ). h.front ++ bs) a.whole;
    })

import_from : (z : Settings) (i : ImportTree) (text : List ℕ) → SpelledImport z i text → Then (IsName (most z)) (field_behind z) i text
import_from z i text h = record {
  value = i.module_name;
  front = h.module_text;
  back = h.field_text ++ h.type_text;
  first = h.from_module;
  second = record { value = i.field_name; front = h.field_text; back = h.type_text; first = h.named; second = (i.ty, h.typed, refl); whole = refl };
  whole = h.whole;
}

pub decides-import : (z : Settings) → Decides (import z) (SpelledImport z)
unfolding import
decides-import z = decides-same _ (Then (IsName (most z)) (field_behind z)) (SpelledImport z)
    (decides->>= (name (most z)) _ (IsName (most z)) (field_behind z) (decides-name (most z)) (λ m.
    decides->>= (name (most z)) _ (IsName (most z)) (type_behind m) (decides-name (most z)) (λ n.
    decides-map type_ref (import_of m n) SpelledTypeRef decides-type_ref)))
    (import_to z) (import_from z)

-- ---- exports

lawful-exported : (k : ExternalKind) → IsLawful (exported k)
lawful-exported kind.Func = lawful-pure kind.Func
lawful-exported kind.Table = lawful-pure kind.Table
lawful-exported kind.Memory = lawful-pure kind.Memory
lawful-exported kind.Global = lawful-pure kind.Global
lawful-exported kind.Tag = lawful-pure kind.Tag
lawful-exported kind.FuncExact = lawful-refuse Other 0

pub lawful-export_kind : IsLawful export_kind
unfolding export_kind
lawful-export_kind = lawful->>= external_kind exported lawful-external_kind lawful-exported

-- no byte more, after the kind of an export
abbrev OfExport : ExternalKind → Grammar ExternalKind
OfExport k y text = (y ≡ k) × (text ≡ []) × (k ≡ kind.FuncExact → ⊥)

allowed : (k : ExternalKind) → (k ≡ kind.FuncExact → ⊥) → Decides (pure k) (OfExport k)
allowed k ok = decides-pure k (OfExport k) (refl, refl, ok) (λ y text h. (h.0, h.1))

decides-exported : (k : ExternalKind) → Decides (exported k) (OfExport k)
decides-exported kind.Func = allowed kind.Func (λ e. absurd cc)
decides-exported kind.Table = allowed kind.Table (λ e. absurd cc)
decides-exported kind.Memory = allowed kind.Memory (λ e. absurd cc)
decides-exported kind.Global = allowed kind.Global (λ e. absurd cc)
decides-exported kind.Tag = allowed kind.Tag (λ e. absurd cc)
decides-exported kind.FuncExact = decides-refuse Other 0 (OfExport kind.FuncExact) (λ y text h. h.2 refl)

export_kind_to : (k : ExternalKind) (text : List ℕ) → Then SpelledKind OfExport k text → SpelledExportKind k text
export_kind_to k text h =
    let same = sym h.second.0 in
    let whole = h.whole ∙ ap (λ (bs : List ℕ). h.front ++ bs) h.second.1 ∙ append-nil h.front in
    (whole ∙ h.first ∙ ap (λ (j : ExternalKind). kind_byte j ∷ []) same, λ e. h.second.2 (same ∙ e))

export_kind_from : (k : ExternalKind) (text : List ℕ) → SpelledExportKind k text → Then SpelledKind OfExport k text
export_kind_from k text h = record { value = k; front = text; back = []; first = h.0; second = (refl, refl, h.1); whole = sym (append-nil text) }

pub decides-export_kind : Decides export_kind SpelledExportKind
unfolding export_kind
decides-export_kind = decides-same _ (Then SpelledKind OfExport) SpelledExportKind
    (decides->>= external_kind exported SpelledKind OfExport decides-external_kind decides-exported) export_kind_to export_kind_from

pub lawful-export : (z : Settings) → IsLawful (export z)
unfolding export
lawful-export z =
    lawful->>= (name (most z)) _ (lawful-name (most z)) (λ n.
    lawful->>= export_kind _ lawful-export_kind (λ k.
    lawful->>= u32 _ (lawful-unsigned 4 4) (λ x. lawful-pure (export_of n k x))))

abbrev index_behind : List ℕ → ExternalKind → Grammar ExportTree
index_behind n k = Mapped (export_of n k) (IsUnsigned 32)

abbrev kind_behind : List ℕ → Grammar ExportTree
kind_behind n = Then SpelledExportKind (index_behind n)

export_to : (z : Settings) (e : ExportTree) (text : List ℕ) → Then (IsName (most z)) kind_behind e text → SpelledExport z e text
export_to z e text h =
    let a = h.second in
    let b = a.second in
    subst (λ (k : ExportTree). SpelledExport z k text) (sym b.2) (record {
      name_text = h.front;
      kind_text = a.front;
      index_text = a.back;
      named = h.first;
      of_kind = a.first;
      indexed = b.1;
      whole = h.whole ∙ ap (λ (bs : List ℕ). h.front ++ bs) a.whole;
    })

export_from : (z : Settings) (e : ExportTree) (text : List ℕ) → SpelledExport z e text → Then (IsName (most z)) kind_behind e text
export_from z e text h = record {
  value = e.name;
  front = h.name_text;
  back = h.kind_text ++ h.index_text;
  first = h.named;
  second = record { value = e.kind; front = h.kind_text; back = h.index_text; first = h.of_kind; second = (e.index, h.indexed, refl); whole = refl };
  whole = h.whole;
}

pub decides-export : (z : Settings) → Decides (export z) (SpelledExport z)
unfolding export
decides-export z = decides-same _ (Then (IsName (most z)) kind_behind) (SpelledExport z)
    (decides->>= (name (most z)) _ (IsName (most z)) kind_behind (decides-name (most z)) (λ n.
    decides->>= export_kind _ SpelledExportKind (index_behind n) decides-export_kind (λ k.
    decides-map u32 (export_of n k) (IsUnsigned 32) decides-u32)))
    (export_to z) (export_from z)
