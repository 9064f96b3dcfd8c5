-- Worked bytes of kinds, types, imports and exports, and what is refused. Names of two letters are UTF-8 where `is_utf8` says so,
-- which is a premise of a row.
use Rattle.std.proofs.Common.{◌≡◌, ℕ, List, [], ◌∷◌, refl, true, false, Some, None}
use Rattle.std.specs.Str.{is_utf8}
use Rattle.wasm_types.specs.decoding.declared.Refusal.TheVariants.{Other}
use Rattle.wasm_types.specs.settings.Limits.{default_limits}
use Rattle.wasm_types.specs.settings.Settings.{no_features}
use Rattle.wasm_types.specs.decoding.Decoder.{Done, Short, Fault}
use Rattle.wasm_types.specs.decoding.Leb.{unsigned}
use Rattle.wasm_types.specs.decoding.Text.{text_of, counted_within}
use Rattle.wasm_types.specs.values.declared.heap.AbstractHeapType.TheVariants as heap
use Rattle.wasm_types.specs.values.declared.heap.HeapType.TheVariants.{Abstract}
use Rattle.wasm_types.specs.values.declared.value.ValType.TheVariants.{I32}
use Rattle.wasm_types.specs.values.Decode.{reference, reference_after, reference_type}
use Rattle.wasm_types.specs.values.DecodeValues.{value_type_after, value_type}
use Rattle.wasm_types.specs.values.WorkedTypeLaws.{start_of, behind}
use Rattle.wasm_types.specs.externs.Spells.{flags}
use Rattle.wasm_types.specs.externs.Decode.{limits_flags, size, written, memory_of, memory_after, memory_type, table_of, table_after, table_type, global_of, global_type, tag_of, tag_type}
use Rattle.wasm_sections_items.specs.declared.imports.kind.ExternalKind.{ExternalKind}
use Rattle.wasm_sections_items.specs.declared.imports.kind.ExternalKind.TheVariants as kind
use Rattle.wasm_sections_items.specs.declared.imports.type_ref.TypeRef.{TypeRef}
use Rattle.wasm_sections_items.specs.declared.imports.type_ref.TypeRef.TheVariants as ref
use Rattle.wasm_sections_items.specs.imports.Decode.{external_kind, type_ref, import_of, import, export_kind, export_of, export}

-- ---- kinds

abbrev IsKind : ℕ → ExternalKind → Type 0
IsKind b k = external_kind (start_of (b ∷ [])) ≡ Done k (behind 1)

abbrev IsNoKind : ℕ → Type 0
IsNoKind b = external_kind (start_of (b ∷ [])) ≡ Fault Other 0

-- each kind; the bytes next to theirs; those of imports that share a module's name, which are not read; the kinds of exports, without that
-- of a function of exactly its type
pub record KindRows : Type 0 where
  pub function : IsKind 0x00 kind.Func
  pub table : IsKind 0x01 kind.Table
  pub memory : IsKind 0x02 kind.Memory
  pub global : IsKind 0x03 kind.Global
  pub tag : IsKind 0x04 kind.Tag
  pub exact : IsKind 0x20 kind.FuncExact
  pub fifth : IsNoKind 0x05
  pub below_exact : IsNoKind 0x1f
  pub above_exact : IsNoKind 0x21
  pub compact : IsNoKind 0x7e
  pub compact_kind : IsNoKind 0x7f
  pub nothing : external_kind (start_of []) ≡ Short 0 1
  pub function_exported : export_kind (start_of (0x00 ∷ [])) ≡ Done kind.Func (behind 1)
  pub tag_exported : export_kind (start_of (0x04 ∷ [])) ≡ Done kind.Tag (behind 1)
  pub exact_not_exported : export_kind (start_of (0x20 ∷ [])) ≡ Fault Other 1

pub kind_rows : KindRows
unfolding export_kind external_kind
kind_rows = record {
  function = refl;
  table = refl;
  memory = refl;
  global = refl;
  tag = refl;
  exact = refl;
  fifth = refl;
  below_exact = refl;
  above_exact = refl;
  compact =
      refl;
  compact_kind = refl;
  nothing = refl;
  function_exported = refl;
  tag_exported = refl;
  exact_not_exported = refl;
}

-- ---- types

abbrev IsType : List ℕ → TypeRef → ℕ → Type 0
IsType bytes t n = type_ref (start_of bytes) ≡ Done t (behind n)

-- each kind with what it asks for; a kind with what another asks for
pub record TypeRows : Type 0 where
  pub function : IsType (0x00 ∷ 0x05 ∷ []) (ref.Func 5) 2
  pub table : IsType (0x01 ∷ 0x70 ∷ 0x00 ∷ 0x0a ∷ []) (ref.Table (table_of (reference true (Abstract false heap.Func)) (flags false false false false) 10 None)) 4
  pub memory : IsType (0x02 ∷ 0x01 ∷ 0x01 ∷ 0x02 ∷ []) (ref.Memory (memory_of (flags true false false false) 1 (Some 2) None)) 4
  pub global : IsType (0x03 ∷ 0x7f ∷ 0x01 ∷ []) (ref.Global (global_of I32 1)) 3
  pub tag : IsType (0x04 ∷ 0x00 ∷ 0x05 ∷ []) (ref.Tag (tag_of 5)) 3
  pub exact : IsType (0x20 ∷ 0x05 ∷ []) (ref.FuncExact 5) 2
  pub not_of_a_table : type_ref (start_of (0x01 ∷ 0x01 ∷ 0x01 ∷ 0x02 ∷ [])) ≡ Fault Other 1
  pub no_index : type_ref (start_of (0x00 ∷ [])) ≡ Short 1 1

pub type_rows : TypeRows
unfolding type_ref external_kind memory_type memory_after table_type table_after global_type tag_type limits_flags size written unsigned reference_type reference_after value_type value_type_after
type_rows = record { function = refl; table = refl; memory = refl; global = refl; tag = refl; exact = refl; not_of_a_table = refl; no_index = refl }

-- ---- imports and exports

pub record ImportRows : Type 0 where
  pub function : is_utf8 (0x61 ∷ []) ≡ true → is_utf8 (0x62 ∷ 0x63 ∷ []) ≡ true
      → import no_features (start_of (0x01 ∷ 0x61 ∷ 0x02 ∷ 0x62 ∷ 0x63 ∷ 0x00 ∷ 0x05 ∷ [])) ≡ Done (import_of (0x61 ∷ []) (0x62 ∷ 0x63 ∷ []) (ref.Func 5)) (behind 7)
  pub malformed_module : is_utf8 (0x80 ∷ []) ≡ false → import no_features (start_of (0x01 ∷ 0x80 ∷ 0x00 ∷ 0x00 ∷ 0x05 ∷ [])) ≡ Fault Other 1
  pub malformed_name : is_utf8 (0x61 ∷ []) ≡ true → is_utf8 (0x80 ∷ []) ≡ false → import no_features (start_of (0x01 ∷ 0x61 ∷ 0x01 ∷ 0x80 ∷ 0x00 ∷ 0x05 ∷ [])) ≡ Fault Other 3
  pub module_too_long : import no_features (start_of (0xa1 ∷ 0x8d ∷ 0x06 ∷ [])) ≡ Fault Other 2
  pub longest_module : import no_features (start_of (0xa0 ∷ 0x8d ∷ 0x06 ∷ [])) ≡ Short 3 100000
  pub no_type : is_utf8 (0x61 ∷ []) ≡ true → import no_features (start_of (0x01 ∷ 0x61 ∷ 0x01 ∷ 0x61 ∷ [])) ≡ Short 4 1
  pub another_kind : is_utf8 (0x61 ∷ []) ≡ true → import no_features (start_of (0x01 ∷ 0x61 ∷ 0x01 ∷ 0x61 ∷ 0x7f ∷ [])) ≡ Fault Other 4

pub import_rows : ImportRows
unfolding default_limits import type_ref external_kind unsigned counted_within text_of
import_rows = record {
  function = λ e f. rw (e, f) refl;
  malformed_module = λ e. rw e refl;
  malformed_name = λ e f. rw (e, f) refl;
  module_too_long = refl;
  longest_module =
      refl;
  no_type = λ e. rw (e, e) refl;
  another_kind = λ e. rw (e, e) refl;
}

pub record ExportRows : Type 0 where
  pub memory : is_utf8 (0x61 ∷ []) ≡ true → export no_features (start_of (0x01 ∷ 0x61 ∷ 0x02 ∷ 0x05 ∷ [])) ≡ Done (export_of (0x61 ∷ []) kind.Memory 5) (behind 4)
  pub malformed : is_utf8 (0x80 ∷ []) ≡ false → export no_features (start_of (0x01 ∷ 0x80 ∷ 0x02 ∷ 0x05 ∷ [])) ≡ Fault Other 1
  pub too_long : export no_features (start_of (0xa1 ∷ 0x8d ∷ 0x06 ∷ [])) ≡ Fault Other 2
  pub another_kind : is_utf8 (0x61 ∷ []) ≡ true → export no_features (start_of (0x01 ∷ 0x61 ∷ 0x05 ∷ 0x05 ∷ [])) ≡ Fault Other 2
  pub exact : is_utf8 (0x61 ∷ []) ≡ true → export no_features (start_of (0x01 ∷ 0x61 ∷ 0x20 ∷ 0x00 ∷ [])) ≡ Fault Other 3
  pub no_index : is_utf8 (0x61 ∷ []) ≡ true → export no_features (start_of (0x01 ∷ 0x61 ∷ 0x02 ∷ [])) ≡ Short 3 1

pub export_rows : ExportRows
unfolding default_limits export export_kind external_kind unsigned counted_within text_of
export_rows = record { memory = λ e. rw e refl; malformed = λ e. rw e refl; too_long = refl; another_kind = λ e. rw e refl; exact = λ e. rw e refl; no_index = λ e. rw e refl }
