-- Tables and references.
use Rattle.std.specs.Prelude.{◌≡◌, ◌↔◌, ℕ, Bool, true, false, IsTrue, Some, slice_get}
use Rattle.wasm_types.specs.settings.Features.{CustomDescriptors}
-- for attributes that unfold it
unfoldable pub use Rattle.wasm_types.specs.settings.Features.{has}
use Rattle.wasm_types.specs.trees.Types.{HeapOf, concrete, exact, ref}
use Rattle.wasm_types.specs.trees.Trees.{TypeTree}
use Rattle.wasm_types.specs.trees.Below.{is_shared}
use Rattle.wasm_types.specs.trees.Gates.{Has}
use Rattle.wasm_types.specs.trees.declared.index.UnpackedIndex.TheVariants as index
use Rattle.wasm_types.specs.values.declared.heap.HeapType.{HeapType}
use Rattle.wasm_types.specs.values.declared.heap.HeapType.TheVariants as heap
use Rattle.wasm_types.specs.values.declared.value.ValType.{ValType}
use Rattle.wasm_types.specs.values.declared.value.ValType.TheVariants as vals
use Rattle.wasm_types.specs.values.Reference.{Reference}
use Rattle.wasm_types.specs.values.ValueKinds.{is_reference}
use Rattle.wasm_operator_validator_rules.specs.Operands.{ValueType}
use Rattle.wasm_operator_validator_rules.specs.Context.{Table}
use Rattle.wasm_operator_validator_rules.specs.Row.{IsOneOf}
use Rattle.wasm_operator_validator_state.specs.resources.Meaning.{Meaning}
use Rattle.wasm_operator_validator_state.specs.State.{State}
use Rattle.wasm_operator_validator_stacks.specs.determined.Operators.{MayUseIn}
use Rattle.wasm_operator_validator_state.specs.declared.operand.MaybeType.{MaybeType}
use Rattle.wasm_operator_validator_state.specs.declared.operand.MaybeType.TheVariants as maybe

abbrev pub table_is_shared : Table → Bool
table_is_shared t = t.shared

-- what is known of an operand allows that it is a reference
abbrev pub may_refer : MaybeType → Bool
may_refer maybe.Bottom = true
may_refer (maybe.UnknownRef a) = true
may_refer (maybe.Known v) = is_reference v

-- the value type of a reference, and of a null of a heap type
abbrev pub reference_to : Reference → ValType
reference_to r = vals.Ref r

abbrev pub null_of : HeapType → ValType
null_of h = vals.Ref (record { nullable = true; heap = h })

-- code may refer to the function at an index, which has this type
pub record IsReferable (m : Meaning) (σ : State) (x : ℕ) (t : TypeTree) : Type 0 where
  pub function : slice_get m.«module».functions x ≡ Some t
  pub referenced : IsOneOf x m.«module».referenced
  pub used : MayUseIn σ (is_shared t)

-- its type is known exactly, and code may say so (the proposal on custom descriptors)
abbrev pub IsExactly : Meaning → State → ℕ → Type 0
IsExactly m σ x = Has σ.given.bits CustomDescriptors × IsOneOf x m.«module».exact_functions

-- references to what has a type, or exactly that type
abbrev pub heap_to : Bool → TypeTree → HeapOf TypeTree
heap_to true t = exact t
heap_to false t = concrete t

-- the least of the references to the function
pub record IsFunctionReference (m : Meaning) (σ : State) (x : ℕ) (u : ValueType) : Type 0 where
  pub type : TypeTree
  pub referable : IsReferable m σ x type
  pub exactly : Bool
  pub known : IsTrue exactly ↔ IsExactly m σ x
  pub is : u ≡ ref false (heap_to exactly type)

-- such a heap type as a module writes it
abbrev pub written_heap : Bool → ℕ → HeapType
written_heap true n = heap.Exact (index.Module n)
written_heap false n = heap.Concrete (index.Module n)
