-- Imports, exports and functions that their bytes alone tell (WebAssembly 3.0, binary format, modules, import section, export section and
-- function section).
use Rattle.std.specs.Prelude.{◌≡◌, ℕ, Bool, true, false, List}
use Rattle.wasm_types.specs.decoding.Leb.{IsUnsigned}
use Rattle.wasm_types.specs.settings.declared.Limits.{Limits}
use Rattle.wasm_types.specs.settings.Settings.{Settings}
use Rattle.wasm_module_validator_type_storage.specs.trees.Groups.{Group}
use Rattle.wasm_module_validator_state.specs.Items.{Items}
use Rattle.wasm_module_validator_section_order.specs.rules_in_order.Between.{IsBetween}
use Rattle.wasm_module_validator_section_order.specs.rules_in_order.Sections as section
use Rattle.wasm_sections_items.specs.declared.imports.kind.ExternalKind.{ExternalKind}
use Rattle.wasm_sections_items.specs.declared.imports.kind.ExternalKind.TheVariants as kinds
use Rattle.wasm_sections_items.specs.imports.Spells.{ImportTree, ExportTree, SpelledImport, SpelledExport}
use Rattle.wasm_module_validator_state.specs.invariant.Standing.{IsAdded}

-- a kind that an export may be of: any except that of a function of exactly its type
abbrev pub is_exported : ExternalKind → Bool
is_exported kinds.Func = true
is_exported kinds.Table = true
is_exported kinds.Memory = true
is_exported kinds.Global = true
is_exported kinds.Tag = true
is_exported kinds.FuncExact = false

-- the bytes of an export, by any settings with these limits
abbrev pub SpellsExport : Limits → ExportTree → List ℕ → Type 0
SpellsExport l e front = (z : Settings) → z.limits ≡ l → SpelledExport z e front

-- the same of an import
abbrev pub SpellsImport : Limits → ImportTree → List ℕ → Type 0
SpellsImport l i front = (z : Settings) → z.limits ≡ l → SpelledImport z i front

-- from one offset to another stand the bytes of an import, which is added
pub record AddsImport (l : Limits) (groups : List Group) (old new : Items) (text : List ℕ) (i j : ℕ) : Type 0 where
  pub item : ImportTree
  pub bytes : IsBetween (SpellsImport l item) text i j
  pub added : IsAdded section.imports groups old item new

-- from one offset to another stand the bytes of an export, which is added
pub record AddsExport (l : Limits) (groups : List Group) (old new : Items) (text : List ℕ) (i j : ℕ) : Type 0 where
  pub item : ExportTree
  pub bytes : IsBetween (SpellsExport l item) text i j
  pub added : IsAdded section.exports groups old item new

-- the same of a function, by the index of its type
pub record AddsFunction (groups : List Group) (old new : Items) (text : List ℕ) (i j : ℕ) : Type 0 where
  pub item : ℕ
  pub bytes : IsBetween (IsUnsigned 32 item) text i j
  pub added : IsAdded section.functions groups old item new
