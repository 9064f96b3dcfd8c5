-- Data segments that their bytes alone tell (WebAssembly 3.0, binary format, modules, data section).
use Rattle.std.specs.Prelude.{◌≡◌, ℕ, List, Some, false, slice_get}
use Rattle.wasm_types.specs.externs.declared.memory.MemoryType.{MemoryType}
use Rattle.wasm_types.specs.settings.Settings.{Settings}
use Rattle.wasm_operators_bodies.specs.declared.short.ShortConstant.TheVariants as short
use Rattle.wasm_operators_bodies.specs.Short.{SpellsShort}
use Rattle.wasm_operators_encoding.specs.ConstantDecoder.{ConstantText}
use Rattle.wasm_sections_items.specs.segments.Spells.{DataTree, SpelledData, active}
use Rattle.wasm_operator_validator_rules.specs.Context.{Module}
use Rattle.wasm_module_validator_resources.specs.rules_in_order.Between.{IsBetween}

-- a segment with these bytes, at an offset in memory 0 that these bytes spell
abbrev pub in_first_memory : List ℕ → List ℕ → DataTree (List ℕ)
in_first_memory constant content = record { mode = active 0 constant; content = content }

-- the bytes of such a segment, whatever the settings are
abbrev pub SpellsInFirst : List ℕ → List ℕ → List ℕ → Type 0
SpellsInFirst constant content front = (z : Settings) → SpelledData (ConstantText z) (in_first_memory constant content) front

-- memory 0 of a module has addresses of 32 bits
abbrev pub HasNarrowMemory : Module → Type 0
HasNarrowMemory g = (m : MemoryType) × (slice_get g.memories 0 ≡ Some m) × (m.memory64 ≡ false)

-- From one offset of a text to another stand the bytes of a data segment in memory 0 at a number of 32 bits.
pub record IsShortData (text : List ℕ) (i j : ℕ) : Type 0 where
  pub constant : List ℕ
  pub content : List ℕ
  pub number : SpellsShort short.I32 constant
  pub bytes : IsBetween (SpellsInFirst constant content) text i j
