-- What look-ups answer.
use Rattle.std.specs.Prelude.{◌≡◌, ℕ, Option, Some, None, slice_get, false, ◌==◌, bit_and}
use Rattle.wasm_types.specs.decoding.declared.error.ErrorKind.{ErrorKind}
use Rattle.wasm_types.specs.decoding.declared.error.ErrorKind.TheVariants as kinds
-- for attributes that unfold it
unfoldable pub use Rattle.wasm_types.specs.settings.Features.{has}
use Rattle.wasm_types.specs.trees.Types.{heap_map}
use Rattle.wasm_types.specs.trees.Trees.{TypeTree}
use Rattle.wasm_types.specs.trees.Each.{EachHeap}
use Rattle.wasm_types.specs.values.declared.heap.HeapType.{HeapType}
use Rattle.wasm_types.specs.values.Reference.{Reference}
use Rattle.wasm_types.specs.values.Trees.{heap_of}
use Rattle.wasm_types.specs.values.Bits.{Fits}
use Rattle.wasm_operator_validator_rules.specs.Context.{Module, IsTypeIndex, written_type}
use Rattle.wasm_operator_validator_resources.specs.Meaning.{Meaning, IsKnownIndex, heap_in}

-- the index of a type that a function has, where there is such a function
abbrev pub IsTypeOf : Module → ℕ → Option ℕ → Type 0
IsTypeOf g at None = slice_get g.functions at ≡ None
IsTypeOf g at (Some x) = (t : TypeTree) × (slice_get g.functions at ≡ Some t) × (slice_get g.types x ≡ Some t)

-- a heap type that a module may write: of types of its own
abbrev pub IsWritten : Meaning → HeapType → Type 0
IsWritten m h = EachHeap (IsTypeIndex m.«module») (heap_of h)

-- a heap type by ids, in place of one that a module writes
pub record IsNamed (m : Meaning) (written named : HeapType) : Type 0 where
  pub same : heap_in m named ≡ heap_map (written_type m.«module») (heap_of written)
  pub known : EachHeap (IsKnownIndex m) (heap_of named)
  pub fits : Fits named

-- the same of a reference, which may be null where the other may
pub record IsNamedReference (m : Meaning) (written named : Reference) : Type 0 where
  pub nullable : named.nullable ≡ written.nullable
  pub heap : IsNamed m written.heap named.heap

-- a feature is missing among these bits, and nothing else is wrong
abbrev pub IsMissing : ℕ → ErrorKind → Type 0
IsMissing bits (kinds.EndOfData h) = ⊥
IsMissing bits (kinds.MissingFeature f) = (bit_and bits f.0 == f.0) ≡ false
IsMissing bits kinds.OutOfMemory = ⊥
IsMissing bits kinds.Failed = ⊥
IsMissing bits kinds.Other = ⊥
