-- What is read of items stands for the items that the same bytes spell, for each kind of section.
use Rattle.wasm_types.specs.decoding.Leb.{IsUnsigned}
use Rattle.wasm_types.specs.settings.Settings.{Settings}
use Rattle.wasm_types.specs.externs.Spells.{SpelledMemory, SpelledTag}
use Rattle.wasm_sections_items.specs.imports.Spells.{SpelledImport, SpelledExport}
use Rattle.wasm_module_validator_rules_in_order.specs.rules.Binary.{SpelledGroup}
use Rattle.wasm_module_validator_rules_in_order.specs.Sections.{Section}
use Rattle.wasm_module_validator_rules_in_order.specs.Sections as section
use Rattle.wasm_module_validator_rules_in_order.specs.Texts.{StandsFor}
use Rattle.wasm_module_validator_section_order.specs.sections.Grammars.{SpelledRead, SpelledItem}
use Rattle.wasm_module_validator_section_order.specs.sections.laws.Linked.{Linked, itself}
use Rattle.wasm_module_validator_section_order.specs.sections.laws.Constants.{tables, globals, segments}
use Rattle.wasm_module_validator_section_order.specs.sections.laws.Elements.{elements}

pub linked : (z : Settings) (s : Section) → Linked (StandsFor z s) (SpelledRead z s) (SpelledItem z s)
linked z section.types = itself (SpelledGroup z)
linked z section.imports = itself (SpelledImport z)
linked z section.functions = itself (IsUnsigned 32)
linked z section.tables = tables z
linked z section.memories = itself SpelledMemory
linked z section.tags = itself SpelledTag
linked z section.globals = globals z
linked z section.exports = itself (SpelledExport z)
linked z section.start = itself (IsUnsigned 32)
linked z section.element_segments = elements z
linked z section.data_count = itself (IsUnsigned 32)
linked z section.data_segments = segments z
