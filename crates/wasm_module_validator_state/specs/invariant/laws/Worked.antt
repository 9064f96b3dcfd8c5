-- Worked states: of a module of which nothing was read, and of one that has an export.
use Rattle.std.proofs.Common.{◌≡◌, ℕ, List, [], ◌∷◌, refl, ap}
use Rattle.wasm_types.specs.settings.Settings.{Settings}
use Rattle.wasm_module_validator_type_storage.specs.trees.Groups.{Group}
use Rattle.wasm_module_validator_state.specs.invariant.so_far.laws.Adding.{nothing_is}
use Rattle.wasm_module_validator_state.specs.invariant.so_far.laws.Referring.{none_are_referred_to}
use Rattle.wasm_module_validator_state.specs.Items as state
use Rattle.wasm_module_validator_state.specs.Items.{Items}
use Rattle.wasm_module_validator_exports.specs.declared.names.imports.Place.{Place}
use Rattle.wasm_module_validator_exports.specs.names.Imports.{ImportedName}
use Rattle.wasm_types.specs.externs.declared.memory.MemoryType.{MemoryType}
use Rattle.wasm_sections_items.specs.imports.Spells.{ImportTree, ExportTree}
use Rattle.wasm_sections_items.specs.declared.imports.kind.ExternalKind.TheVariants as kind
use Rattle.wasm_sections_items.specs.declared.imports.type_ref.TypeRef.{TypeRef}
use Rattle.wasm_sections_items.specs.declared.imports.type_ref.TypeRef.TheVariants as import
use Rattle.wasm_module_validator_checks.specs.rules.Syntax.{ModuleTree}
use Rattle.wasm_module_validator_resources.specs.rules_in_order.contexts.InOrder.{no_items}
use Rattle.wasm_module_validator_resources.specs.rules_in_order.Sections as section
use Rattle.wasm_module_validator_state.specs.invariant.Standing.{Stands, IsReading, IsBefore, imports_by_name}

-- it stands for nothing, whatever other types the list has
pub worked_nothing : (groups : List Group) (z : Settings) → Stands groups (state.no_items z) z no_items
worked_nothing groups z = record {
  settings = refl;
  read = nothing_is groups z;
  referred = none_are_referred_to z;
  imports = refl;
  exports = refl;
  size = refl;
}

-- and for no tree with an export
pub worked_exported : (groups : List Group) (z : Settings) (e : ExportTree) → Stands groups (state.no_items z) z (record no_items { exports = e ∷ [] }) → ⊥
worked_exported groups z e r = none r.exports
  where
    none : [] ≡ e ∷ [] → ⊥
    none k = absurd cc

-- any section may begin there
pub worked_begun : (groups : List Group) (z : Settings) → IsBefore section.types groups (state.no_items z) z no_items
worked_begun groups z = record { stands = worked_nothing groups z; unread = refl }

-- and where something is exported, imports are no longer read
pub worked_late : (groups : List Group) (i : Items) (z : Settings) (e : ExportTree) → IsReading section.imports groups i z (record no_items { exports = e ∷ [] }) → ⊥
worked_late groups i z e r = none (ap (λ (m : ModuleTree). m.exports) r.last)
  where
    none : e ∷ [] ≡ [] → ⊥
    none k = absurd cc

-- ---- imports by their names

-- "a" and "b"
abbrev a : List ℕ
a = 0x61 ∷ []

abbrev b : List ℕ
b = 0x62 ∷ []

abbrev import_of : List ℕ → List ℕ → TypeRef → ImportTree
import_of m f t = record { module_name = m; field_name = f; ty = t }

abbrev named : List ℕ → List ℕ → List Place → ImportedName
named m f ps = record { module_name = m; field_name = f; places = ps }

-- a function, another by another module's name, and a memory by the names of the first
abbrev pub three_imports : MemoryType → List ImportTree
three_imports t = import_of a b (import.Func 0) ∷ import_of b b (import.FuncExact 5) ∷ import_of a b (import.Memory t) ∷ []

-- the memory stands with the first function; it is the first of its space, and the other function is the second
abbrev pub three_names : List ImportedName
three_names = named a b (record { kind = kind.Func; index = 0 } ∷ record { kind = kind.Memory; index = 0 } ∷ []) ∷ named b b (record { kind = kind.FuncExact; index = 1 } ∷ []) ∷ []

pub worked_names : (t : MemoryType) → imports_by_name (three_imports t) ≡ three_names
worked_names t = refl
