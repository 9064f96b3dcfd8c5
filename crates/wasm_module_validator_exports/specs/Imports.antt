-- The type of an import by ids, in place of the one that is written.
use Rattle.std.specs.Prelude.{◌≡◌}
use Rattle.wasm_sections_items.specs.declared.imports.type_ref.TypeRef.{TypeRef}
use Rattle.wasm_sections_items.specs.declared.imports.type_ref.TypeRef.TheVariants as import
use Rattle.wasm_module_validator_checks.specs.operator_resources.Meaning.{Meaning, table_in, global_in}
use Rattle.wasm_module_validator_checks.specs.rules.Spaces.{table_in as table_written, global_in as global_written}
-- for attributes that unfold it
unfoldable pub use Rattle.wasm_types.specs.settings.Features.{has}

-- what is by ids stands for what is written; only tables and globals name types by ids
abbrev pub IsNamedImport : Meaning → TypeRef → TypeRef → Type 0
IsNamedImport m (import.Table t) (import.Table u) = (table_in m u ≡ table_written m.«module».types t) × (u.initial ≡ t.initial)
    × (u.maximum ≡ t.maximum)
IsNamedImport m (import.Global t) (import.Global u) = global_in m u ≡ global_written m.«module».types t
IsNamedImport m t u = u ≡ t
