-- The elements of a segment, judged as they are read (WebAssembly 3.0, validation, modules, element segments).
use Rattle.std.specs.Prelude.{◌≡◌, ◌⊎◌, ℕ, zero, suc, ◌+◌, ◌<◌, ◌≤◌, false, List, [], length, Some, slice_get}
use Rattle.wasm_types.specs.settings.Settings.{Settings}
use Rattle.wasm_types.specs.settings.Features.{BulkMemory}
use Rattle.wasm_types.specs.decoding.Decoder.{State, Decoder, Done, repeated}
use Rattle.wasm_types.specs.decoding.Leb.{u32}
use Rattle.wasm_types.specs.decoding.ErrorValue.{ErrorValue}
use Rattle.wasm_types.specs.reader.Reading.{Fails}
use Rattle.wasm_types.specs.trees.Gates.{Has}
use Rattle.wasm_types.specs.trees.Below.{Below}
use Rattle.wasm_types.specs.trees.Types.{ref, abstract, func}
use Rattle.wasm_types.specs.trees.Trees.{TypeTree}
use Rattle.wasm_types.specs.values.declared.value.ValType.TheVariants as value
use Rattle.wasm_operators_encoding.specs.ConstantDecoder.{constant}
use Rattle.wasm_sections_items.specs.limited.Walking.{Walk, fresh, IsTrailing}
use Rattle.wasm_sections_items.specs.declared.elements.element.ElementKindOf.{ElementKindOf}
use Rattle.wasm_sections_items.specs.declared.elements.element.ElementKindOf.TheVariants as kinds
use Rattle.wasm_sections_items.specs.declared.elements.element.ElementItemsOf.{ElementItemsOf}
use Rattle.wasm_sections_items.specs.declared.elements.element.ElementItemsOf.TheVariants as items
use Rattle.wasm_operator_validator_rules.specs.Operands.{ValueType}
use Rattle.wasm_operator_validator_rules.specs.Context.{Module, Table, address_type}
use Rattle.wasm_module_validator_checks.specs.rules.Spaces.{value_in}
use Rattle.wasm_module_validator_checks.specs.rules.Valid.{Each, IsValidValueType, table_index}
use Rattle.wasm_module_validator_initialisers.specs.segments.Judged.{IsConstantText}

-- ---- walks

-- the values that are left are read, no byte is behind them, and each of them is so
abbrev pub AllLeft : {A : Type 0} → (A → Type 0) → (Settings → Decoder A) → Walk → Type 0
AllLeft {A} P d w = (xs : List A) × (t : State) × (repeated w.left (d w.reader.settings) w.reader ≡ Done xs t) × (t.rest ≡ []) × Each P xs

-- one value is read, and is so
pub record Passes {A : Type 0} (P : A → Type 0) (d : Settings → Decoder A) (w v : Walk) : Type 0 where
  pub value : A
  pub one : w.left ≡ v.left + 1
  pub read : d w.reader.settings w.reader ≡ Done value v.reader
  pub is : P value

-- so many values are
abbrev pub PassesTo : {A : Type 0} → (A → Type 0) → (Settings → Decoder A) → ℕ → Walk → Walk → Type 0
PassesTo P d zero w v = v ≡ w
PassesTo P d (suc n) w v = (u : Walk) × Passes P d w u × PassesTo P d n u v

-- no value is read: a byte is left behind the last one, or the bytes of the next one spell none
abbrev pub IsUnread : {A : Type 0} → (Settings → Decoder A) → Walk → ErrorValue → Type 0
IsUnread d w e = IsTrailing w e ⊎ ((0 < w.left) × Fails e (d w.reader.settings w.reader))

-- some values are so, and behind them no value is read, or the next one is refused
abbrev pub StopsAmong : {A : Type 0} → (A → Type 0) → (Settings → Decoder A) → (Walk → ErrorValue → Type 0) → Walk → ErrorValue → Type 0
StopsAmong P d Refused w e = (n : ℕ) × (v : Walk) × PassesTo P d n w v × (IsUnread d v e ⊎ Refused v e)

-- ---- the parts of a segment

-- an index of a function, as it is read
abbrev pub function_index : Settings → Decoder ℕ
function_index z = u32

abbrev pub IsFunction : Module → ℕ → Type 0
IsFunction g x = x < length g.functions

-- the type of the elements: what a segment of functions has is never null
abbrev pub item_type : List TypeTree → ElementItemsOf State → ValueType
item_type ts (items.Functions s) = ref false (abstract false func)
item_type ts (items.Expressions r s) = value_in ts (value.Ref r)

-- a segment of functions writes no type; one of expressions writes one that the module may write
abbrev pub IsItemType : Settings → Module → ElementItemsOf State → Type 0
IsItemType z g (items.Functions s) = Unit {0}
IsItemType z g (items.Expressions r s) = IsValidValueType z g (value.Ref r)

-- how elements of this type are used: an active segment has a table that they fit, and an offset
abbrev pub IsMode : Settings → Module → ℕ → ValueType → ElementKindOf State → Type 0
IsMode z g count t kinds.Passive = Has z.features BulkMemory
IsMode z g count t kinds.Declared = Has z.features BulkMemory
IsMode z g count t (kinds.Active x e) = (v : Table) × (slice_get g.tables (table_index x) ≡ Some v) × Below t v.element
    × IsConstantText z g count (address_type v.table64) e.rest

-- as many elements as are counted, and no more of them than the limit: functions of the module, or constants of this type
abbrev pub AreItems : Settings → Module → ℕ → ValueType → ElementItemsOf State → Type 0
AreItems z g count t (items.Functions s) = (s.count ≤ z.limits.segment_items)
    × AllLeft (IsFunction g) function_index (fresh s.count s.reader)
AreItems z g count t (items.Expressions r s) = (s.count ≤ z.limits.segment_items)
    × AllLeft (IsConstantText z g count t) constant (fresh s.count s.reader)
