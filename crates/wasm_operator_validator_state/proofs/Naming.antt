-- Types that code writes, by ids and as they are written.
use Rattle.std.proofs.Common.{◌≡◌, ℕ, refl, sym, ap}
use Rattle.wasm_types.specs.decoding.declared.error.ErrorKind.{ErrorKind}
use Rattle.wasm_types.specs.decoding.declared.error.ErrorKind.TheVariants as kinds
use Rattle.wasm_types.specs.decoding.Denials.{Denies}
use Rattle.wasm_types.specs.decoding.DenialLaws.{denies_from}
use Rattle.wasm_types.specs.trees.declared.index.UnpackedIndex.{UnpackedIndex}
use Rattle.wasm_types.specs.trees.declared.index.UnpackedIndex.TheVariants as index
use Rattle.wasm_types.specs.trees.Types.{HeapOf, ValueOf, abstract, concrete, exact, number, ref, heap_map, value_map}
use Rattle.wasm_types.specs.trees.Each.{EachHeap, EachValue}
use Rattle.wasm_types.specs.values.declared.value.ValType.{ValType}
use Rattle.wasm_types.specs.values.declared.value.ValType.TheVariants.{I32, I64}
use Rattle.wasm_types.specs.values.Values.{value_of}
use Rattle.wasm_operator_validator_rules.specs.Operands.{ValueType}
use Rattle.wasm_operator_validator_rules.specs.Context.{IsType, IsTypeIndex, written_type}
use Rattle.wasm_operator_validator_resources.specs.Meaning.{Meaning, named_type, type_in}

same_index : (m : Meaning) (i : UnpackedIndex) → IsTypeIndex m.«module» i → written_type m.«module» i ≡ named_type m i
same_index m (index.Module n) k = refl
same_index m (index.RecGroup n) k = absurd k
same_index m (index.Id i) k = absurd k

same_heap : (m : Meaning) (h : HeapOf UnpackedIndex) → EachHeap (IsTypeIndex m.«module») h → heap_map (written_type m.«module») h ≡ heap_map (named_type m) h
same_heap m (abstract s a) k = refl
same_heap m (concrete i) k = ap concrete (same_index m i k)
same_heap m (exact i) k = ap exact (same_index m i k)

same_value : (m : Meaning) (v : ValueOf UnpackedIndex) → EachValue (IsTypeIndex m.«module») v → value_map (written_type m.«module») v ≡ value_map (named_type m) v
same_value m (number n) k = refl
same_value m (ref n h) k = ap (ref n) (same_heap m h k)

-- a type that may be written is what its own names say
pub written_as : (m : Meaning) (bits : ℕ) (v : ValType) (t : ValueType) → IsType bits m.«module» v t → IsType bits m.«module» v (type_in m v)
unfolding type_in
written_as m bits v t i = record { allowed = i.allowed; known = i.known; is = sym (same_value m (value_of v) i.known) }

-- a number that needs no feature is what it says
pub plain_i32 : (m : Meaning) (bits : ℕ) → IsType bits m.«module» I32 (type_in m I32)
unfolding type_in
plain_i32 m bits = record { allowed = tt; known = tt; is = refl }

pub plain_i64 : (m : Meaning) (bits : ℕ) → IsType bits m.«module» I64 (type_in m I64)
unfolding type_in
plain_i64 m bits = record { allowed = tt; known = tt; is = refl }

-- ---- a denial of another kind

plainly : (k : ErrorKind) (P : Type 0) → (k ≡ kinds.OutOfMemory → ⊥) → Denies k P → P → ⊥
plainly (kinds.EndOfData h) P n d = d
plainly (kinds.MissingFeature f) P n d = d
plainly kinds.OutOfMemory P n d = absurd (n refl)
plainly kinds.Failed P n d = d
plainly kinds.Other P n d = d

pub denies_as : (k l : ErrorKind) (P : Type 0) → (k ≡ kinds.OutOfMemory → l ≡ kinds.OutOfMemory) → Denies k P → Denies l P
denies_as k (kinds.EndOfData h) P f d = plainly k P (λ e. let x = f e in cc) d
denies_as k (kinds.MissingFeature h) P f d = plainly k P (λ e. let x = f e in cc) d
denies_as k kinds.OutOfMemory P f d = tt
denies_as k kinds.Failed P f d = plainly k P (λ e. let x = f e in cc) d
denies_as k kinds.Other P f d = plainly k P (λ e. let x = f e in cc) d

-- the type is refused, whichever of its names was tried
pub no_type_at_all : (k l : ErrorKind) (m : Meaning) (bits : ℕ) (v u : ValType) → u ≡ v → (k ≡ kinds.OutOfMemory → l ≡ kinds.OutOfMemory)
    → Denies k (IsType bits m.«module» v (type_in m u)) → Denies l ((t : ValueType) × IsType bits m.«module» v t)
no_type_at_all k l m bits v u e f d =
    denies_as k l _ f (denies_from k _ _ (λ (t, i). (let j = written_as m bits v t i in let g : type_in m v ≡ type_in m u = ap (type_in m) (sym e) in
    let P : ValueType → Type 0 = λ x. IsType bits m.«module» v x in rw (← g) j)) d)
