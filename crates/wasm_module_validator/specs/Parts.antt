-- A module judged in parts: each part takes all sections, and one body in so many.
use Rattle.std.specs.Prelude.{ℕ, List}
use Rattle.wasm_types.specs.settings.Settings.{Settings}
use Rattle.wasm_module_validator_section_order.specs.rules_in_order.Steps.{SoFar}
use Rattle.wasm_module_validator_rules.specs.Accepts.{IsValidOutsideBodies}
use Rattle.wasm_module_validator_drivers.specs.judging.Bodies.{ArePartBodies}
use Rattle.wasm_module_validator_drivers.specs.reading.Reading.{IsReadAs}

-- The bytes are a module that is valid outside its bodies; and of the bodies of what is read each is that of a valid function of its type, if
-- its number, counted from 0, is this part's modulo so many.
abbrev pub AcceptsPart : Settings → ℕ → ℕ → List ℕ → Type 0
AcceptsPart z part parts bytes = IsValidOutsideBodies z bytes × ((q : SoFar) → IsReadAs z bytes q → ArePartBodies z part parts q)
