-- Modules without operators on vectors: all that are accepted while a set of features does not ask that these be judged.
use Rattle.std.specs.Prelude.{ℕ, ◌<◌, ◌^◌, List}
use Rattle.wasm_types.specs.settings.Settings.{Settings}
use Rattle.wasm_operators_encoding.specs.expressions.Code.{Code, walk}
use Rattle.wasm_sections_items.specs.segments.Spells.{GlobalTree, DataTree, DataMode}
use Rattle.wasm_sections_items.specs.segments.Spells as data_mode
use Rattle.wasm_sections_items.specs.segments.Tables.{TableTree}
use Rattle.wasm_sections_items.specs.elements.Spells.{ElementTree, ElementMode, ElementItems, passive, active, declared, functions, expressions}
use Rattle.wasm_operator_validator_expression.specs.Unasked.{HasNoVectors}
use Rattle.wasm_module_validator_rules.specs.Syntax.{Function, ModuleTree}
use Rattle.wasm_module_validator_rules.specs.Valid.{Each, IfThere}
use Rattle.wasm_module_validator_rules.specs.Accepts.{Judges}

-- no operator of the code is on vectors
abbrev pub IsWithout : Code → Type 0
IsWithout c = HasNoVectors (walk c)

-- the offset of an element segment, if it has one
abbrev pub ModeIsWithout : ElementMode Code → Type 0
ModeIsWithout passive = Unit {0}
ModeIsWithout (active x c) = IsWithout c
ModeIsWithout declared = Unit {0}

-- its elements, if they are expressions
abbrev pub ItemsAreWithout : ElementItems Code → Type 0
ItemsAreWithout (functions xs) = Unit {0}
ItemsAreWithout (expressions r cs) = Each IsWithout cs

-- the offset of a data segment, if it has one
abbrev pub DataIsWithout : DataMode Code → Type 0
DataIsWithout data_mode.passive = Unit {0}
DataIsWithout (data_mode.active x c) = IsWithout c

-- no body and no constant of the module has an operator on vectors
pub record HasNoVectorCode (m : ModuleTree) : Type 0 where
  pub tables : Each (λ (x : TableTree Code). IfThere IsWithout x.init) m.tables
  pub globals : Each (λ (x : GlobalTree Code). IsWithout x.init) m.globals
  pub element_segments : Each (λ (x : ElementTree Code). ModeIsWithout x.mode × ItemsAreWithout x.items) m.element_segments
  pub code : Each (λ (f : Function). IsWithout f.body) m.code
  pub data_segments : Each (λ (x : DataTree Code). DataIsWithout x.mode) m.data_segments

-- what bytes spell that are accepted by features alone has none
abbrev pub VectorsAreAskedFor : Type 0
VectorsAreAskedFor = (z : Settings) (bytes : List ℕ) (m : ModuleTree) → z.features < 2 ^ 28 → Judges z bytes m → HasNoVectorCode m
