-- Element segments as they are read, where an expression is its bytes (WebAssembly 3.0, binary format, element section). Which code the
-- bytes spell is said by wasm_module_validator_rules_in_order.
use Rattle.std.specs.Prelude.{ℕ, List, Option}
use Rattle.wasm_types.specs.decoding.Decoder.{State}
use Rattle.wasm_operators_encoding.specs.ConstantDecoder.{constant}
use Rattle.wasm_sections_items.specs.declared.elements.element.ElementOf.{ElementOf}
use Rattle.wasm_sections_items.specs.elements.Spells.{ElementTree}
use Rattle.wasm_sections_items.specs.elements.Elements.{tree_of}
use Rattle.wasm_module_validator_initialisers.specs.segments.Trees.{bytes_of}

-- an element segment as it is read, which is none where its readers have other elements than they count
abbrev pub element_read : ElementOf State → Option (ElementTree (List ℕ))
element_read x = tree_of bytes_of constant x
