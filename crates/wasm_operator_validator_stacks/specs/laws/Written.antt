-- What a type that a module writes stands for.
use Rattle.std.proofs.Common.{◌≡◌, ℕ, refl, ap}
use Rattle.wasm_types.specs.trees.declared.index.UnpackedIndex.TheVariants as index
use Rattle.wasm_types.specs.trees.Types.{ref, heap_map, value_map}
use Rattle.wasm_types.specs.trees.Each.{EachHeap, EachValue}
use Rattle.wasm_types.specs.values.declared.heap.HeapType.{HeapType}
use Rattle.wasm_types.specs.values.declared.heap.HeapType.TheVariants as heap
use Rattle.wasm_types.specs.values.declared.value.ValType.{ValType}
use Rattle.wasm_types.specs.values.declared.value.ValType.TheVariants as vals
use Rattle.wasm_types.specs.values.Trees.{heap_of}
use Rattle.wasm_types.specs.values.Values.{value_of}
use Rattle.wasm_operator_validator_rules.specs.Operands.{ValueType}
use Rattle.wasm_operator_validator_rules.specs.Context.{IsTypeIndex, IsType, written_type}
use Rattle.wasm_operator_validator_state.specs.resources.Meaning.{Meaning, type_in, named_type}

heap_written : (m : Meaning) (h : HeapType) → EachHeap (IsTypeIndex m.«module») (heap_of h) → heap_map (named_type m) (heap_of h) ≡ heap_map (written_type m.«module») (heap_of h)
heap_written m (heap.Abstract s a) k = refl
heap_written m (heap.Concrete (index.Module n)) k = refl
heap_written m (heap.Concrete (index.RecGroup n)) k = absurd k
heap_written m (heap.Concrete (index.Id i)) k = absurd k
heap_written m (heap.Exact (index.Module n)) k = refl
heap_written m (heap.Exact (index.RecGroup n)) k = absurd k
heap_written m (heap.Exact (index.Id i)) k = absurd k

type_written : (m : Meaning) (t : ValType) → EachValue (IsTypeIndex m.«module») (value_of t) → type_in m t ≡ value_map (written_type m.«module») (value_of t)
unfolding type_in
type_written m vals.I32 k = refl
type_written m vals.I64 k = refl
type_written m vals.F32 k = refl
type_written m vals.F64 k = refl
type_written m vals.V128 k = refl
type_written m (vals.Ref r) k = ap (ref r.nullable) (heap_written m r.heap k)

pub is_written : (m : Meaning) (bits : ℕ) (t : ValType) (u : ValueType) → IsType bits m.«module» t u → IsType bits m.«module» t (type_in m t)
is_written m bits t u i = record { allowed = i.allowed; known = i.known; is = type_written m t i.known }
