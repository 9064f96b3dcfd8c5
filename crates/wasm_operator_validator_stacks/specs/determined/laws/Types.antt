-- What types in code stand for, where that needs no module.
-- what a type that a module writes stands for
pub use Rattle.wasm_operator_validator_stacks.specs.laws.Written.{is_written}
use Rattle.std.proofs.Common.{◌≡◌, ◌∙◌, ℕ, List, [], ◌∷◌, Bool, true, false, refl, ap, map}
use Rattle.wasm_types.specs.trees.declared.index.UnpackedIndex.TheVariants as index
use Rattle.wasm_types.specs.trees.Types.{Number, i32, number, ref, heap_map, value_map}
use Rattle.wasm_types.specs.trees.Each.{EachHeap, EachValue}
use Rattle.wasm_types.specs.externs.Addresses as addresses
use Rattle.wasm_types.specs.values.declared.heap.HeapType.{HeapType}
use Rattle.wasm_types.specs.values.declared.heap.HeapType.TheVariants as heap
use Rattle.wasm_types.specs.values.declared.value.ValType.{ValType}
use Rattle.wasm_types.specs.values.declared.value.ValType.TheVariants as vals
use Rattle.wasm_types.specs.values.Reference.{Reference}
use Rattle.wasm_types.specs.values.Trees.{heap_of}
use Rattle.wasm_types.specs.values.Values.{value_of}
use Rattle.wasm_operator_validator_rules.specs.Numbers.{numbers}
use Rattle.wasm_operator_validator_rules.specs.Operands.{ValueType}
use Rattle.wasm_operator_validator_rules.specs.Context.{IsTypeIndex, IsType, written_type, address_type}
use Rattle.wasm_operator_validator_state.specs.resources.Meaning.{Meaning, type_in, named_type, reference_in}
use Rattle.wasm_operator_validator_state.specs.State.{types_in}

pub number_in : (m : Meaning) (t : ValType) (n : Number) → value_of t ≡ number n → type_in m t ≡ number n
unfolding type_in
number_in m t n e = ap (value_map (named_type m)) e

pub numbers_in : (m : Meaning) (ts : List ValType) (ns : List Number) → map value_of ts ≡ map number ns → types_in m ts ≡ numbers ns
numbers_in m [] [] e = refl
numbers_in m [] (n ∷ ns) e = cc
numbers_in m (t ∷ ts) [] e = cc
numbers_in m (t ∷ ts) (n ∷ ns) e =
    let f : value_of t ≡ number n = cc in
    let h : map value_of ts ≡ map number ns = cc in
    rw (number_in m t n f, numbers_in m ts ns h) refl

pub i32_in : (m : Meaning) → type_in m vals.I32 ≡ number i32
i32_in m = number_in m vals.I32 i32 refl

pub reference_is : (m : Meaning) (r : Reference) → type_in m (vals.Ref r) ≡ reference_in m r
unfolding type_in
reference_is m r = refl

-- the type of addresses, or of indices
address_in : (m : Meaning) (b : Bool) → type_in m (addresses.address_type b) ≡ address_type b
unfolding type_in
address_in m true = refl
address_in m false = refl

pub address_is : (m : Meaning) (b : Bool) (t : ValType) → t ≡ addresses.address_type b → type_in m t ≡ address_type b
address_is m b t e = ap (type_in m) e ∙ address_in m b
