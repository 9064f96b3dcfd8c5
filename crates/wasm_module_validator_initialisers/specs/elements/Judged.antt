-- Element segments judged over the bytes of their constant expressions (WebAssembly 3.0, validation, modules, element segments).
--
-- The settings are the features that are allowed and the limits that hold, g is the context so far, and of its globals the first so
-- many are imported.
use Rattle.std.specs.Prelude.{ℕ, List, Option, Some, None}
use Rattle.wasm_types.specs.settings.Settings.{Settings}
use Rattle.wasm_sections_items.specs.elements.Spells.{ElementTree}
use Rattle.wasm_operators_encoding.specs.expressions.Code.{Code}
use Rattle.wasm_operator_validator_rules.specs.Context.{Module}
use Rattle.wasm_module_validator_checks.specs.rules.Valid.{IsValidElement}
use Rattle.wasm_module_validator_resources.specs.rules_in_order.Texts.{SpelledMode, SpelledElements}

-- an element segment that is valid
abbrev pub IsElement : Settings → Module → ℕ → ElementTree (List ℕ) → Type 0
IsElement z g count x = (y : ElementTree Code) × SpelledMode z x.mode y.mode × SpelledElements z x.items y.items
    × IsValidElement z g count y

-- the same, where there is one
abbrev pub IsElementThere : Settings → Module → ℕ → Option (ElementTree (List ℕ)) → Type 0
IsElementThere z g count None = ⊥
IsElementThere z g count (Some x) = IsElement z g count x
