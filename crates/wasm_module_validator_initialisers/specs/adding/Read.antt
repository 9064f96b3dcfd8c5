-- Data segments as they are read, and what the expression of a table names (WebAssembly 3.0, validation, modules).
use Rattle.std.specs.Prelude.{◌≡◌, ℕ, List, Option, Some, None}
use Rattle.wasm_types.specs.settings.Settings.{Settings}
use Rattle.wasm_types.specs.decoding.Decoder.{State}
use Rattle.wasm_sections_items.specs.declared.segments.segment.DataOf.{DataOf}
use Rattle.wasm_sections_items.specs.segments.Spells.{DataTree}
use Rattle.wasm_module_validator_resources.specs.referring.Naming.{NamesMore}
use Rattle.wasm_module_validator_initialisers.specs.segments.Trees.{data_read}

-- a data segment as it is read, with its bytes
abbrev pub data_tree : DataOf State → DataTree (List ℕ)
data_tree x = record { mode = data_read x; content = x.bytes.now }

-- The functions that an expression refers to, if there is one, stand behind the others, in their order.
abbrev pub NamesInit : Settings → Option (List ℕ) → List ℕ → List ℕ → Type 0
NamesInit z None before after = after ≡ before
NamesInit z (Some text) before after = NamesMore z text before after
