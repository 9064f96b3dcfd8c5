-- Why items are refused, and where.
--
-- What is wrong with an item itself is refused at the offset that the caller gives, a constant inside its bytes.
use Rattle.std.specs.Prelude.{◌≡◌, ◌⊎◌, ℕ, Some, None, Bool, false, slice_get}
use Rattle.wasm_types.specs.settings.Settings.{Settings}
use Rattle.wasm_types.specs.settings.Features.{Feature, BulkMemory, FunctionReferences}
use Rattle.wasm_types.specs.decoding.Decoder.{State}
use Rattle.wasm_types.specs.decoding.ErrorValue.{ErrorValue}
use Rattle.wasm_types.specs.decoding.declared.error.ErrorKind.TheVariants as kinds
-- for attributes that unfold them
unfoldable pub use Rattle.wasm_types.specs.settings.Features.{has}
use Rattle.wasm_types.specs.trees.Gates.{Has}
use Rattle.wasm_types.specs.values.declared.value.ValType.{ValType}
use Rattle.wasm_types.specs.values.declared.value.ValType.TheVariants as value
use Rattle.wasm_types.specs.externs.declared.memory.MemoryType.{MemoryType}
use Rattle.wasm_sections_items.specs.declared.segments.global.GlobalOf.{GlobalOf}
use Rattle.wasm_sections_items.specs.declared.segments.table.TableOf.{TableOf}
use Rattle.wasm_sections_items.specs.declared.segments.table.TableInitOf.{TableInitOf}
use Rattle.wasm_sections_items.specs.declared.segments.table.TableInitOf.TheVariants as init
use Rattle.wasm_sections_items.specs.declared.segments.segment.DataKindOf.{DataKindOf}
use Rattle.wasm_sections_items.specs.declared.segments.segment.DataKindOf.TheVariants as data_kind
use Rattle.wasm_operator_validator_constants.specs.Checked.{Surroundings, StopsConstant}
use Rattle.wasm_operator_validator_state.specs.resources.Meaning.{Meaning, type_in}
use Rattle.wasm_operator_validator_rules.specs.Operands.{ValueType}
use Rattle.wasm_operator_validator_rules.specs.Context.{address_type}
use Rattle.wasm_module_validator_checks.specs.externs.Refusals.{IsRefusal, IsNeeded, allowing}
use Rattle.wasm_module_validator_checks.specs.rules.Spaces.{value_in}
use Rattle.wasm_module_validator_checks.specs.rules.Valid.{IsValidGlobalType, IsValidTableType}

-- what is wrong is no missing feature, and stands at this offset
abbrev pub IsFault : ℕ → ErrorValue → Type 0
IsFault offset e = (e.kind ≡ kinds.Other) × (e.offset ≡ offset)

-- what a type is refused for, at this offset
abbrev pub IsTypeRefusal : Settings → (Settings → Type 0) → ℕ → ErrorValue → Type 0
IsTypeRefusal z P offset e = IsRefusal z.features (λ b. P (allowing b z)) e.kind × (e.offset ≡ offset)

-- this feature is missing, at this offset
abbrev pub IsMissing : Settings → Feature → ℕ → ErrorValue → Type 0
IsMissing z f offset e = IsNeeded z.features (λ b. Has b f) e.kind × (e.offset ≡ offset)

-- ---- constants

-- what constants are judged by
abbrev pub around : Settings → Meaning → ℕ → Surroundings
around z m count = record { bits = z.features; meaning = m; imported = count }

-- the bytes of an expression, by these settings
abbrev pub read_by : Settings → State → State
read_by z s = record { rest = s.rest; place = s.place; settings = z; start = s.start }

-- why the bytes of an expression are no constant of this type, which the code names in some way
abbrev pub StopsText : Settings → Meaning → ℕ → ValueType → State → ErrorValue → Type 0
StopsText z m count t s e = (named : ValType) × (type_in m named ≡ t) × StopsConstant (around z m count) named (read_by z s) e

-- ---- globals and tables

-- its type is refused, or its value
abbrev pub RefusesGlobal : Settings → Meaning → ℕ → ℕ → GlobalOf State → ErrorValue → Type 0
RefusesGlobal z m count offset x e = IsTypeRefusal z (λ y. IsValidGlobalType y m.«module» x.ty) offset e
    ⊎ (IsValidGlobalType z m.«module» x.ty × StopsText z m count (value_in m.«module».types x.ty.content_type) x.init_expr e)

-- Elements that are not null have no expression; or the feature of expressions is missing; or the expression is refused.
abbrev pub RefusesInit : Settings → Meaning → ℕ → ℕ → Bool → ValueType → TableInitOf State → ErrorValue → Type 0
RefusesInit z m count offset nullable t init.RefNull e = (nullable ≡ false) × IsFault offset e
RefusesInit z m count offset nullable t (init.Expr s) e = IsMissing z FunctionReferences offset e
    ⊎ (Has z.features FunctionReferences × StopsText z m count t s e)

-- its type is refused, or what it holds at first
abbrev pub RefusesTable : Settings → Meaning → ℕ → ℕ → TableOf State → ErrorValue → Type 0
RefusesTable z m count offset x e = IsTypeRefusal z (λ y. IsValidTableType y m.«module» x.ty) offset e
    ⊎ (IsValidTableType z m.«module» x.ty × RefusesInit z m count offset x.ty.element_type.nullable (value_in m.«module».types (value.Ref x.ty.element_type)) x.init e)

-- ---- data segments

-- the feature of passive segments is missing; or there is no such memory; or the offset is refused
abbrev pub RefusesData : Settings → Meaning → ℕ → ℕ → DataKindOf State → ErrorValue → Type 0
RefusesData z m count offset data_kind.Passive e = IsMissing z BulkMemory offset e
RefusesData z m count offset (data_kind.Active x s) e = ((slice_get m.«module».memories x ≡ None) × IsFault offset e)
    ⊎ ((v : MemoryType) × (slice_get m.«module».memories x ≡ Some v) × StopsText z m count (address_type v.memory64) s e)
