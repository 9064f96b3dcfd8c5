-- Why element segments are refused, and where.
--
-- What is wrong with a segment itself is refused at the offset that the caller gives. A constant is refused inside its bytes, an index
-- of a function where it stands.
use Rattle.std.specs.Prelude.{◌≡◌, ◌⊎◌, ◌<◌, ◌≤◌, ℕ, Some, None, List, slice_get}
use Rattle.wasm_types.specs.settings.Settings.{Settings}
use Rattle.wasm_types.specs.settings.Features.{BulkMemory}
use Rattle.wasm_types.specs.decoding.Decoder.{State, Done}
use Rattle.wasm_types.specs.decoding.ErrorValue.{ErrorValue}
-- for attributes that unfold it
unfoldable pub use Rattle.wasm_types.specs.settings.Features.{has}
use Rattle.wasm_types.specs.trees.Below.{Below}
use Rattle.wasm_operators_encoding.specs.ConstantDecoder.{constant}
use Rattle.wasm_sections_items.specs.limited.Walking.{Walk, fresh}
use Rattle.wasm_sections_items.specs.declared.elements.element.ElementOf.{ElementOf}
use Rattle.wasm_sections_items.specs.declared.elements.element.ElementKindOf.{ElementKindOf}
use Rattle.wasm_sections_items.specs.declared.elements.element.ElementKindOf.TheVariants as element_kind
use Rattle.wasm_sections_items.specs.declared.elements.element.ElementItemsOf.{ElementItemsOf}
use Rattle.wasm_sections_items.specs.declared.elements.element.ElementItemsOf.TheVariants as items
use Rattle.wasm_operator_validator_state.specs.resources.Meaning.{Meaning}
use Rattle.wasm_operator_validator_rules.specs.Operands.{ValueType}
use Rattle.wasm_operator_validator_rules.specs.Context.{Module, Table, address_type}
use Rattle.wasm_module_validator_checks.specs.rules.Valid.{table_index}
use Rattle.wasm_module_validator_initialisers.specs.segments.Judged.{IsConstantText}
use Rattle.wasm_module_validator_initialisers.specs.segments.Refusals.{IsFault, IsMissing, IsTypeRefusal, StopsText}
use Rattle.wasm_module_validator_initialisers.specs.elements.Items.{StopsAmong, IsFunction, function_index, item_type, IsItemType, IsMode}

-- The feature of other segments than active ones is missing; or there is no such table; or its elements are of another type; or the
-- offset is refused.
abbrev pub RefusesMode : Settings → Meaning → ℕ → ℕ → ValueType → ElementKindOf State → ErrorValue → Type 0
RefusesMode z m count offset t element_kind.Passive e = IsMissing z BulkMemory offset e
RefusesMode z m count offset t element_kind.Declared e = IsMissing z BulkMemory offset e
RefusesMode z m count offset t (element_kind.Active x s) e = ((slice_get m.«module».tables (table_index x) ≡ None) × IsFault offset e)
    ⊎ ((v : Table) × (slice_get m.«module».tables (table_index x) ≡ Some v)
    × (((Below t v.element → ⊥) × IsFault offset e) ⊎ (Below t v.element × StopsText z m count (address_type v.table64) s e)))

-- the next index is none of a function, and is refused where it begins
abbrev pub RefusesFunction : Module → Walk → ErrorValue → Type 0
RefusesFunction g w e = (x : ℕ) × (t : State) × (function_index w.reader.settings w.reader ≡ Done x t) × (IsFunction g x → ⊥)
    × IsFault w.reader.place e

-- the next expression is refused, somewhere in its bytes, which begin where it does
abbrev pub RefusesConstant : Settings → Meaning → ℕ → ValueType → Walk → ErrorValue → Type 0
RefusesConstant z m count t w e = (text : List ℕ) × (u : State) × (constant w.reader.settings w.reader ≡ Done text u)
    × ((s : State) × (s.rest ≡ text) × (s.place ≡ w.reader.place) × StopsText z m count t s e)

-- there are more elements than the limit; or some are so, and behind them none is read or the next one is refused
abbrev pub RefusesItems : Settings → Meaning → ℕ → ℕ → ValueType → ElementItemsOf State → ErrorValue → Type 0
RefusesItems z m count offset t (items.Functions s) e = ((z.limits.segment_items < s.count) × IsFault offset e)
    ⊎ ((s.count ≤ z.limits.segment_items) × StopsAmong (IsFunction m.«module») function_index (RefusesFunction m.«module») (fresh s.count s.reader) e)
RefusesItems z m count offset t (items.Expressions r s) e = ((z.limits.segment_items < s.count) × IsFault offset e)
    ⊎ ((s.count ≤ z.limits.segment_items) × StopsAmong (IsConstantText z m.«module» count t) constant (RefusesConstant z m count t) (fresh s.count s.reader) e)

-- the type of its elements is refused, or how it is used, or an element
abbrev pub RefusesElement : Settings → Meaning → ℕ → ℕ → ElementOf State → ErrorValue → Type 0
RefusesElement z m count offset x e = IsTypeRefusal z (λ y. IsItemType y m.«module» x.items) offset e
    ⊎ (IsItemType z m.«module» x.items × (RefusesMode z m count offset (item_type m.«module».types x.items) x.kind e
    ⊎ (IsMode z m.«module» count (item_type m.«module».types x.items) x.kind × RefusesItems z m count offset (item_type m.«module».types x.items) x.items e)))
