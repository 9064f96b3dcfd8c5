-- Items judged over the bytes of their constant expressions (WebAssembly 3.0, validation, modules).
--
-- The settings are the features that are allowed and the limits that hold, g is the context so far, and of its globals the first so
-- many are imported. Constants see all globals that the context has, and may refer to the functions that it says are referenced: in
-- the context so far each function is.
use Rattle.std.specs.Prelude.{ℕ, Bool, IsTrue, List, Option, Some, None, length}
use Rattle.wasm_types.specs.settings.Settings.{Settings}
use Rattle.wasm_types.specs.settings.Features.{FunctionReferences}
use Rattle.wasm_types.specs.trees.Gates.{Has}
use Rattle.wasm_types.specs.values.declared.value.ValType.TheVariants as value
use Rattle.wasm_sections_items.specs.segments.Spells.{GlobalTree, DataMode}
use Rattle.wasm_sections_items.specs.segments.Tables.{TableTree}
use Rattle.wasm_operators_encoding.specs.expressions.Code.{Code}
use Rattle.wasm_operators_encoding.specs.expressions.Spelling.{SpelledExpression}
use Rattle.wasm_operator_validator_rules.specs.constants.Constants.{IsConstant}
use Rattle.wasm_operator_validator_rules.specs.Operands.{ValueType}
use Rattle.wasm_operator_validator_rules.specs.Context.{Module}
use Rattle.wasm_module_validator_checks.specs.rules.Spaces.{value_in}
use Rattle.wasm_module_validator_checks.specs.rules.Valid.{IsValidTableType, IsValidTable, IsValidGlobal, IsValidData}
use Rattle.wasm_module_validator_resources.specs.rules_in_order.Texts.{SpelledInit, SpelledDataMode}

-- bytes that spell a constant expression of this type
abbrev pub IsConstantText : Settings → Module → ℕ → ValueType → List ℕ → Type 0
IsConstantText z g count t text = (c : Code) × SpelledExpression z c text × IsConstant z.features g count t c

-- ---- globals and tables

-- a global that is valid, where its value sees the globals that there are
abbrev pub IsGlobal : Settings → Module → ℕ → GlobalTree (List ℕ) → Type 0
IsGlobal z g count x = (c : Code) × SpelledExpression z c x.init
    × IsValidGlobal z g count (length g.globals) (record { ty = x.ty; init = c })

-- what elements of this type, which may be null or not, are at first: null, or the value of an expression
abbrev pub IsInitText : Settings → Module → ℕ → Bool → ValueType → Option (List ℕ) → Type 0
IsInitText z g count nullable t None = IsTrue nullable
IsInitText z g count nullable t (Some text) = Has z.features FunctionReferences × IsConstantText z g count t text

-- a table whose expression sees the globals that there are
abbrev pub IsTableHere : Settings → Module → ℕ → TableTree (List ℕ) → Type 0
IsTableHere z g count x = IsValidTableType z g x.ty
    × IsInitText z g count x.ty.element_type.nullable (value_in g.types (value.Ref x.ty.element_type)) x.init

-- a table that is valid: its expression sees the imported globals alone
abbrev pub IsTable : Settings → Module → ℕ → TableTree (List ℕ) → Type 0
IsTable z g count x = (o : Option Code) × SpelledInit z x.init o × IsValidTable z g count (record { ty = x.ty; init = o })

-- ---- data segments

-- a data segment that is valid, by how it is used
abbrev pub IsData : Settings → Module → ℕ → DataMode (List ℕ) → Type 0
IsData z g count x = (y : DataMode Code) × SpelledDataMode z x y × IsValidData z g count y
