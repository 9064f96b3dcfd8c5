-- Why items with constants are refused where nothing was read: a global and a table of a type that is not there, and an element segment for a
-- table that is not there (WebAssembly 3.0, validation, modules). Each is refused at its own offset, and at no other.
use Rattle.std.specs.Prelude.{ℕ, true, [], None}
use Rattle.wasm_types.specs.decoding.Decoder.{State}
use Rattle.wasm_types.specs.decoding.ErrorValue.{ErrorValue}
use Rattle.wasm_types.specs.decoding.declared.error.ErrorKind.TheVariants.{Other}
use Rattle.wasm_types.specs.trees.declared.index.UnpackedIndex.TheVariants.{Module}
use Rattle.wasm_types.specs.settings.Settings.{Settings}
use Rattle.wasm_types.specs.values.Reference.{Reference}
use Rattle.wasm_types.specs.values.declared.heap.HeapType.TheVariants.{Concrete}
use Rattle.wasm_types.specs.values.declared.value.ValType.TheVariants.{Ref}
use Rattle.wasm_sections_items.specs.declared.limited.section.SectionLimited.{SectionLimited}
use Rattle.wasm_sections_items.specs.declared.segments.global.GlobalOf.{GlobalOf}
use Rattle.wasm_sections_items.specs.declared.segments.table.TableOf.{TableOf}
use Rattle.wasm_sections_items.specs.declared.segments.table.TableInitOf.TheVariants.{RefNull}
use Rattle.wasm_sections_items.specs.declared.elements.element.ElementOf.{ElementOf}
use Rattle.wasm_sections_items.specs.declared.elements.element.ElementKindOf.TheVariants.{Active}
use Rattle.wasm_sections_items.specs.declared.elements.element.ElementItemsOf.TheVariants.{Functions}
use Rattle.wasm_module_validator_section_order.specs.rules.worked.Trees.{table_with, constant_of}
use Rattle.wasm_module_validator_initialisers.specs.state.Items.{no_items}
use Rattle.wasm_module_validator_initialisers.specs.state.invariant.Standing.{constants_of}
use Rattle.wasm_module_validator_initialisers.specs.elements.Refusals.{RefusesElement}
use Rattle.wasm_module_validator_initialisers.specs.adding.Refusals.{RefusesNewGlobal, RefusesNewTable, RefusesNewElement}

-- an error at this offset
abbrev pub refused_at : ℕ → ErrorValue
refused_at n = record { kind = Other; offset = n; message = [] }

-- a reference to the first type, which is not there
abbrev pub to_nothing : Reference
to_nothing = record { nullable = true; heap = Concrete (Module 0) }

abbrev pub global : State → GlobalOf State
global s = record { ty = constant_of (Ref to_nothing); init_expr = s }

abbrev pub table : TableOf State
table = record { ty = table_with to_nothing 1; init = RefNull }

-- functions for the first table
abbrev pub element : ElementOf State → SectionLimited ℕ → State → ElementOf State
element x f s = record x { kind = Active None s; items = Functions f }

pub record ItemsRefused (z : Settings) (s : State) (x : ElementOf State) (f : SectionLimited ℕ) : Type 0 where
  pub global_refused : RefusesNewGlobal [] (no_items z) 7 (global s) (refused_at 7)
  pub global_elsewhere : RefusesNewGlobal [] (no_items z) 7 (global s) (refused_at 6) → ⊥
  pub table_refused : RefusesNewTable [] (no_items z) 7 table (refused_at 7)
  pub table_elsewhere : RefusesNewTable [] (no_items z) 7 table (refused_at 6) → ⊥
  pub element_refused : RefusesElement z (constants_of [] (no_items z).spaces) 0 7 (element x f s) (refused_at 7)
  pub element_elsewhere : RefusesElement z (constants_of [] (no_items z).spaces) 0 7 (element x f s) (refused_at 6) → ⊥
  pub new_element_refused : RefusesNewElement [] (no_items z) 7 (element x f s) (refused_at 7)
  pub new_element_elsewhere : RefusesNewElement [] (no_items z) 7 (element x f s) (refused_at 6) → ⊥
