-- When the state of a module that is being read stands for a tree, what a call that adds an item tells of each such tree and leaves, and
-- what is told where a section begins (WebAssembly 3.0, validation, modules). The item is a memory, which names no type.
use Rattle.std.specs.Prelude.{◌≡◌, ◌+◌, ℕ, List, [], ◌∷◌, Some, None, Ok, Err}
use Rattle.wasm_types.specs.decoding.ErrorValue.{ErrorValue}
use Rattle.wasm_types.specs.decoding.declared.error.ErrorKind.TheVariants.{Other}
use Rattle.wasm_types.specs.settings.Limits.{default_limits}
use Rattle.wasm_types.specs.settings.Settings.{Settings}
use Rattle.wasm_types.specs.externs.declared.memory.MemoryType.{MemoryType}
use Rattle.wasm_sections_items.specs.declared.imports.kind.ExternalKind.TheVariants as kind
use Rattle.wasm_sections_items.specs.imports.Spells.{ImportTree}
use Rattle.wasm_module_validator_type_storage.specs.trees.Groups.{Group}
use Rattle.wasm_module_validator_section_order.specs.rules.Syntax.{ModuleTree}
use Rattle.wasm_module_validator_section_order.specs.rules.worked.Trees.{everything, memory_with}
use Rattle.wasm_module_validator_section_order.specs.rules_in_order.contexts.InOrder as tree
use Rattle.wasm_module_validator_section_order.specs.rules_in_order.Sections as section
use Rattle.wasm_module_validator_section_order.specs.rules_in_order.Texts.{AddsRead}
use Rattle.wasm_module_validator_initialisers.specs.state.Adding.{adding_memory}
use Rattle.wasm_module_validator_initialisers.specs.state.Items.{Items, no_items}
use Rattle.wasm_module_validator_initialisers.specs.state.invariant.Standing.{IsGrown, Stands, IsReading, IsBefore, TellsItem, AddsItem, TellsFit}

-- ---- lists that grow

pub record Grown (g h : Group) : Type 0 where
  pub same : IsGrown (g ∷ []) (g ∷ [])
  pub more : IsGrown (g ∷ []) (h ∷ g ∷ [])
  pub lost : IsGrown (g ∷ []) [] → ⊥
  pub another : (g ≡ h → ⊥) → IsGrown (g ∷ []) (h ∷ []) → ⊥

-- ---- states and trees

-- a memory of one page, and one of which more pages are asked for than it may have
abbrev pub one_page : MemoryType
one_page = memory_with 1 None

abbrev pub backwards : MemoryType
backwards = memory_with 2 (Some 1)

-- nothing was read; a memory was
abbrev pub with_memory : Settings → Items
with_memory z = record (no_items z) { spaces = adding_memory one_page (no_items z).spaces }

abbrev pub memory_read : ModuleTree
memory_read = record tree.no_items { memories = one_page ∷ [] }

-- with one part of the state or of the tree turned it does not stand for the tree
pub record StandsRows (groups : List Group) (z : Settings) : Type 0 where
  pub memory : Stands groups (with_memory z) z memory_read
  pub memory_missing : Stands groups (no_items z) z memory_read → ⊥
  pub memory_unread : Stands groups (with_memory z) z tree.no_items → ⊥
  pub other_features : Stands groups (no_items z) (record z { features = z.features + 1 }) tree.no_items → ⊥
  pub import_missing : (i : ImportTree) → Stands groups (no_items z) z (record tree.no_items { imports = i ∷ [] }) → ⊥
  pub another_size : Stands groups (record (no_items z) { type_size = 2 }) z tree.no_items → ⊥
  pub data_uncounted : Stands groups (no_items z) z (record tree.no_items { data_count = Some 1 }) → ⊥
  pub function_missing : Stands groups (no_items z) z (record tree.no_items { functions = 0 ∷ [] }) → ⊥
  pub export_missing : Stands groups (record (no_items z) { exports = record { name = []; kind = kind.Memory; index = 0 } ∷ [] }) z tree.no_items → ⊥

-- ---- items

-- not out of memory, and not for the item
abbrev pub at_seven : ErrorValue
at_seven = record { kind = Other; offset = 7; message = [] }

pub record ItemsTold (groups : List Group) : Type 0 where
  pub added : AddsRead everything section.memories tree.no_items one_page memory_read
  pub added_elsewhere : AddsRead everything section.memories tree.no_items one_page tree.no_items → ⊥
  pub added_backwards : (n : ModuleTree) → AddsRead everything section.memories tree.no_items backwards n → ⊥
  pub told : TellsItem {X = ℕ} section.memories groups (no_items everything) one_page (Ok 0)
  pub told_backwards : TellsItem {X = ℕ} section.memories groups (no_items everything) backwards (Ok 0) → ⊥
  pub refused : TellsItem {X = ℕ} section.memories groups (no_items everything) backwards (Err at_seven)
  pub refused_wrongly : TellsItem {X = ℕ} section.memories groups (no_items everything) one_page (Err at_seven) → ⊥
  pub left : AddsItem section.memories groups (no_items everything) one_page groups (with_memory everything)
  pub left_without : AddsItem section.memories groups (no_items everything) one_page groups (no_items everything) → ⊥

-- ---- sections

-- nothing was read, with every feature, and there may be two exports
abbrev pub two_exports : Items
two_exports = no_items (record { features = 0xfff_ffff; limits = record default_limits { exports = 2 } })

pub record FitsTold (groups : List Group) : Type 0 where
  pub fit : TellsFit {X = ℕ} section.exports groups two_exports 2 (Ok 0)
  pub fit_not : TellsFit {X = ℕ} section.exports groups two_exports 3 (Ok 0) → ⊥
  pub refused : TellsFit {X = ℕ} section.exports groups two_exports 3 (Err at_seven)
  pub refused_wrongly : TellsFit {X = ℕ} section.exports groups two_exports 2 (Err at_seven) → ⊥
  pub begun : (z : Settings) → IsBefore section.exports groups (no_items z) z tree.no_items
  pub begun_before : (z : Settings) (x : ℕ) → IsBefore section.exports groups (no_items z) z (record tree.no_items { start = Some x }) → ⊥
  pub reading : (z : Settings) → IsReading section.memories groups (with_memory z) z memory_read
  pub reading_before : (z : Settings) → IsReading section.tables groups (with_memory z) z memory_read → ⊥
