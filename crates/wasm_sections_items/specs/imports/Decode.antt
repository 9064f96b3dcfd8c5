-- How imports and exports are read.
use Rattle.std.specs.Prelude.{ℕ, List, [], ◌∷◌}
use Rattle.wasm_types.specs.decoding.declared.Refusal.TheVariants.{Other}
use Rattle.wasm_types.specs.settings.Settings.{Settings}
use Rattle.wasm_types.specs.decoding.Decoder.{Decoder, ◌>>=◌, pure, refuse, byte, choice}
use Rattle.wasm_types.specs.decoding.Leb.{u32}
use Rattle.wasm_types.specs.decoding.Text.{name}
use Rattle.wasm_types.specs.externs.Decode.{memory_type, table_type, global_type, tag_type}
use Rattle.wasm_sections_items.specs.declared.imports.kind.ExternalKind.{ExternalKind}
use Rattle.wasm_sections_items.specs.declared.imports.kind.ExternalKind.TheVariants as kind
use Rattle.wasm_sections_items.specs.declared.imports.type_ref.TypeRef.{TypeRef}
use Rattle.wasm_sections_items.specs.declared.imports.type_ref.TypeRef.TheVariants as ref
use Rattle.wasm_sections_items.specs.imports.Spells.{ImportTree, ExportTree}

-- the kinds by their bytes
abbrev pub kinds : List (ℕ × Decoder ExternalKind)
kinds = (0x00, pure kind.Func) ∷ (0x01, pure kind.Table) ∷ (0x02, pure kind.Memory) ∷ (0x03, pure kind.Global) ∷ (0x04, pure kind.Tag) ∷
    (0x20, pure kind.FuncExact) ∷ []

-- one of these bytes
unfoldable pub external_kind : Decoder ExternalKind
external_kind = byte >>= choice kinds (refuse Other 1)

-- what a kind asks for
abbrev pub content_of : ExternalKind → Decoder TypeRef
content_of kind.Func = u32 >>= λ x. pure (ref.Func x)
content_of kind.Table = table_type >>= λ t. pure (ref.Table t)
content_of kind.Memory = memory_type >>= λ t. pure (ref.Memory t)
content_of kind.Global = global_type >>= λ t. pure (ref.Global t)
content_of kind.Tag = tag_type >>= λ t. pure (ref.Tag t)
content_of kind.FuncExact = u32 >>= λ x. pure (ref.FuncExact x)

-- a kind, and what it asks for
unfoldable pub type_ref : Decoder TypeRef
type_ref = external_kind >>= content_of

-- an import of its parts
abbrev pub import_of : List ℕ → List ℕ → TypeRef → ImportTree
import_of m n t = record { module_name = m; field_name = n; ty = t }

-- two names and a type
unfoldable pub import : Settings → Decoder ImportTree
import z = name z.limits.string_bytes >>= λ m. name z.limits.string_bytes >>= λ n. type_ref >>= λ t. pure (import_of m n t)

-- an export of its parts
abbrev pub export_of : List ℕ → ExternalKind → ℕ → ExportTree
export_of n k x = record { name = n; kind = k; index = x }

-- what an export may be: a kind, except that of a function of exactly its type
abbrev pub exported : ExternalKind → Decoder ExternalKind
exported kind.Func = pure kind.Func
exported kind.Table = pure kind.Table
exported kind.Memory = pure kind.Memory
exported kind.Global = pure kind.Global
exported kind.Tag = pure kind.Tag
exported kind.FuncExact = refuse Other 0

-- the kind of an export; that of imports alone is refused after its byte
unfoldable pub export_kind : Decoder ExternalKind
export_kind = external_kind >>= exported

-- a name, a kind and an index
unfoldable pub export : Settings → Decoder ExportTree
export z = name z.limits.string_bytes >>= λ n. export_kind >>= λ k. u32 >>= λ x. pure (export_of n k x)
