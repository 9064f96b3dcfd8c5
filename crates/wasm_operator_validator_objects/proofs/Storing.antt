-- What is stored, and the instruction types of operators on structs and arrays by it.
use Rattle.std.proofs.Common.{◌≡◌, ◌↔◌, ◌∙◌, ◌&&◌, ℕ, Bool, true, false, not, IsTrue, List, [], ◌∷◌, ◌++◌, replicate, Option, Some, None, slice_get, refl, sym, ap, subst}
use Rattle.wasm_types.specs.trees.Types.{Abstract, HeapOf, i31, ref, abstract, value}
use Rattle.wasm_types.specs.trees.Trees.{TypeTree}
use Rattle.wasm_types.specs.values.declared.heap.AbstractHeapType.TheVariants.{I31}
use Rattle.wasm_types.specs.values.declared.heap.HeapType.TheVariants as Heap
use Rattle.wasm_types.specs.values.declared.heap.HeapType.{HeapType}
use Rattle.wasm_types.specs.values.declared.heap.AbstractHeapType.{AbstractHeapType}
use Rattle.wasm_types.specs.values.Reference.{Reference}
use Rattle.wasm_types.specs.values.Trees.{abstract_of}
use Rattle.wasm_types.specs.trees.Below.{Below, heap_is_shared}
use Rattle.wasm_types.specs.trees.Matches.{StorageMatches}
use Rattle.wasm_types.specs.values.declared.value.StorageType.{StorageType}
use Rattle.wasm_types.specs.values.declared.value.StorageType.TheVariants as storage
use Rattle.wasm_types.specs.values.declared.value.ValType.{ValType}
use Rattle.wasm_types.specs.values.declared.value.ValType.TheVariants as vals
use Rattle.wasm_types.specs.values.ValueKinds.{is_packed_type, unpacked_type, is_defaultable_type}
use Rattle.wasm_types.specs.fields.declared.field.FieldType.{FieldType}
use Rattle.wasm_operators_enums.specs.declared.gc.GcOperator.TheVariants as gc
use Rattle.wasm_operator_validator_rules.specs.Operands.{ValueType}
use Rattle.wasm_operator_validator_rules.specs.Context.{defaultable}
use Rattle.wasm_operator_validator_rules.specs.Aggregates.{Struct, Array, array_named, heap_named, top_above, top_heap, is_cont, is_castable}
use Rattle.wasm_operator_validator_rules.specs.Places.{Place, unpacked, is_of_bytes, have_defaults, operands_for}
use Rattle.wasm_operator_validator_rules.specs.InstructionTypes.{InstructionType, ◌⟶◌, named, provided, i32_type, reference_to, allocated, is_described, element_of, written, names_data, cast_at, gc_type_of}
use Rattle.wasm_operator_validator_rules.specs.Taken.{Takes}
use Rattle.wasm_operator_validator_rules.specs.Objects.{MayHold}
use Rattle.wasm_operator_validator_stacks.specs.determined.laws.Usable.{fails}
use Rattle.wasm_operator_validator_resources.specs.Meaning.{Meaning, type_in, heap_in, reference_in}
use Rattle.wasm_operator_validator_state.specs.State.{State, types_in}
use Rattle.wasm_operator_validator_stacks.specs.determined.laws.Types.{i32_in, reference_is}
use Rattle.wasm_operator_validator_objects.specs.Rows.{here, reading, IsRow, HasNoRow}
use Rattle.wasm_operator_validator_objects.specs.Found.{TypeAt, IsStruct, IsArray, storage_in, fields_in, array_with, place_in, unpacked_field, unpacked_fields, is_defaultable_field, are_defaultable, is_of_references, MayStore}

-- ---- what is stored

pub unpacked_in : (m : Meaning) (s : StorageType) → type_in m (unpacked_type s) ≡ unpacked (storage_in m s)
unfolding type_in
unpacked_in m storage.I8 = refl
unpacked_in m storage.I16 = refl
unpacked_in m (storage.Val t) = refl

default_in : (m : Meaning) (s : StorageType) → defaultable (unpacked (storage_in m s)) ≡ is_defaultable_type (unpacked_type s)
default_in m storage.I8 = refl
default_in m storage.I16 = refl
default_in m (storage.Val vals.I32) = refl
default_in m (storage.Val vals.I64) = refl
default_in m (storage.Val vals.F32) = refl
default_in m (storage.Val vals.F64) = refl
default_in m (storage.Val vals.V128) = refl
default_in m (storage.Val (vals.Ref r)) = refl

bytes_in : (m : Meaning) (s : StorageType) → is_of_bytes (storage_in m s) ≡ not (is_of_references s)
bytes_in m storage.I8 = refl
bytes_in m storage.I16 = refl
bytes_in m (storage.Val vals.I32) = refl
bytes_in m (storage.Val vals.I64) = refl
bytes_in m (storage.Val vals.F32) = refl
bytes_in m (storage.Val vals.F64) = refl
bytes_in m (storage.Val vals.V128) = refl
bytes_in m (storage.Val (vals.Ref r)) = refl

pub operands_in : (m : Meaning) (fs : List FieldType) → operands_for (fields_in m fs) ≡ types_in m (unpacked_fields fs)
operands_in m [] = refl
operands_in m (f ∷ fs) = rw (unpacked_in m f.element_type, operands_in m fs) refl

pub defaults_in : (m : Meaning) (fs : List FieldType) → have_defaults (fields_in m fs) ≡ are_defaultable fs
defaults_in m [] = refl
defaults_in m (f ∷ fs) = rw (default_in m f.element_type, defaults_in m fs) refl

-- ---- places

reading_is : (m : Meaning) (ts : List ValType) (s : StorageType) (mutable packed : Bool) → is_packed_type s ≡ packed
    → reading packed (record { reached_by = types_in m ts; storage = storage_in m s; mutable = mutable }) ≡ Some (types_in m ts ⟶ type_in m (unpacked_type s) ∷ [])
unfolding type_in
reading_is m ts storage.I8 mutable true e = refl
reading_is m ts storage.I8 mutable false e = cc
reading_is m ts storage.I16 mutable true e = refl
reading_is m ts storage.I16 mutable false e = cc
reading_is m ts (storage.Val t) mutable true e = cc
reading_is m ts (storage.Val t) mutable false e = refl

reading_not : (m : Meaning) (ts : List ValType) (s : StorageType) (mutable packed : Bool) → (is_packed_type s ≡ packed → ⊥)
    → reading packed (record { reached_by = types_in m ts; storage = storage_in m s; mutable = mutable }) ≡ None
reading_not m ts storage.I8 mutable true e = absurd (e refl)
reading_not m ts storage.I8 mutable false e = refl
reading_not m ts storage.I16 mutable true e = absurd (e refl)
reading_not m ts storage.I16 mutable false e = refl
reading_not m ts (storage.Val t) mutable true e = refl
reading_not m ts (storage.Val t) mutable false e = absurd (e refl)

-- a place that was found is read, or it is not there
pub place_read : (m : Meaning) (o : Option Place) (ts : List ValType) (f : FieldType) (packed : Bool) → o ≡ Some (place_in m ts f) → is_packed_type f.element_type ≡ packed
    → named o (reading packed) ≡ Some (types_in m ts ⟶ types_in m (unpacked_field f ∷ []))
place_read m o ts f packed e h = ap (λ (x : Option Place). named x (reading packed)) e ∙ reading_is m ts f.element_type f.mutable packed h

pub place_unread : (m : Meaning) (o : Option Place) (ts : List ValType) (f : FieldType) (packed : Bool) → o ≡ Some (place_in m ts f) → (is_packed_type f.element_type ≡ packed → ⊥)
    → named o (reading packed) ≡ None
place_unread m o ts f packed e h = ap (λ (x : Option Place). named x (reading packed)) e ∙ reading_not m ts f.element_type f.mutable packed h

pub nothing_named : {A : Type 0} (o : Option A) (f : A → Option InstructionType) → o ≡ None → named o f ≡ None
nothing_named {A} o f e = ap (λ (x : Option A). named x f) e

writing : (m : Meaning) (o : Option Place) (ts : List ValType) (f : FieldType) (b : Bool) → o ≡ Some (place_in m ts f) → f.mutable ≡ b
    → named o written ≡ provided b ((types_in m ts ++ unpacked (storage_in m f.element_type) ∷ []) ⟶ [])
writing m o ts f b e h = ap (λ (x : Option Place). named x written) e ∙ ap (λ (c : Bool). provided c ((types_in m ts ++ unpacked (storage_in m f.element_type) ∷ []) ⟶ [])) h

pub place_written : (m : Meaning) (o : Option Place) (ts : List ValType) (f : FieldType) → o ≡ Some (place_in m ts f) → f.mutable ≡ true
    → named o written ≡ Some ((types_in m ts ++ type_in m (unpacked_field f) ∷ []) ⟶ [])
place_written m o ts f e h = writing m o ts f true e h ∙ ap (λ (t : ValueType). Some ((types_in m ts ++ t ∷ []) ⟶ [])) (sym (unpacked_in m f.element_type))

pub place_unwritten : (m : Meaning) (o : Option Place) (ts : List ValType) (f : FieldType) → o ≡ Some (place_in m ts f) → f.mutable ≡ false → named o written ≡ None
place_unwritten m o ts f e h = writing m o ts f false e h

-- ---- structs

abbrev Made : Meaning → State → ℕ → ValType → Type 0
Made m σ x t = type_in m t ≡ allocated (here m σ) (TypeAt m x)

new_of : (m : Meaning) (σ : State) (x : ℕ) (fs : List FieldType) (d : Bool) → IsStruct m σ x fs d
    → gc_type_of (here m σ) (gc.StructNew x) ≡ provided (not d) (types_in m (unpacked_fields fs) ⟶ allocated (here m σ) (TypeAt m x) ∷ [])
new_of m σ x fs d s =
    ap (λ (o : Option Struct). named o (λ s. provided (not (is_described s)) (operands_for s.fields ⟶ allocated (here m σ) s.type ∷ []))) s.0
    ∙ ap (λ (b : Bool). provided (not b) (operands_for (fields_in m fs) ⟶ allocated (here m σ) (TypeAt m x) ∷ [])) s.1
    ∙ ap (λ (ts : List ValueType). provided (not d) (ts ⟶ allocated (here m σ) (TypeAt m x) ∷ [])) (operands_in m fs)

pub struct_new : (m : Meaning) (σ : State) (x : ℕ) (fs : List FieldType) (d : Bool) (t : ValType) → IsStruct m σ x fs d → d ≡ false → Made m σ x t
    → gc_type_of (here m σ) (gc.StructNew x) ≡ Some (types_in m (unpacked_fields fs) ⟶ types_in m (t ∷ []))
struct_new m σ x fs d t s e h =
    new_of m σ x fs d s ∙ ap (λ (b : Bool). provided (not b) (types_in m (unpacked_fields fs) ⟶ allocated (here m σ) (TypeAt m x) ∷ [])) e
    ∙ ap (λ (v : ValueType). Some (types_in m (unpacked_fields fs) ⟶ v ∷ [])) (sym h)

pub struct_new_described : (m : Meaning) (σ : State) (x : ℕ) (fs : List FieldType) (d : Bool) → IsStruct m σ x fs d → d ≡ true → gc_type_of (here m σ) (gc.StructNew x) ≡ None
struct_new_described m σ x fs d s e =
    new_of m σ x fs d s ∙ ap (λ (b : Bool). provided (not b) (types_in m (unpacked_fields fs) ⟶ allocated (here m σ) (TypeAt m x) ∷ [])) e

default_of : (m : Meaning) (σ : State) (x : ℕ) (fs : List FieldType) (d : Bool) → IsStruct m σ x fs d
    → gc_type_of (here m σ) (gc.StructNewDefault x) ≡ provided (not d && are_defaultable fs) ([] ⟶ allocated (here m σ) (TypeAt m x) ∷ [])
default_of m σ x fs d s =
    ap (λ (o : Option Struct). named o (λ s. provided (not (is_described s) && have_defaults s.fields) ([] ⟶ allocated (here m σ) s.type ∷ []))) s.0
    ∙ ap (λ (b : Bool). provided (not b && have_defaults (fields_in m fs)) ([] ⟶ allocated (here m σ) (TypeAt m x) ∷ [])) s.1
    ∙ ap (λ (b : Bool). provided (not d && b) ([] ⟶ allocated (here m σ) (TypeAt m x) ∷ [])) (defaults_in m fs)

pub struct_default : (m : Meaning) (σ : State) (x : ℕ) (fs : List FieldType) (d b : Bool) (t : ValType) → IsStruct m σ x fs d → d ≡ false → b ≡ are_defaultable fs → b ≡ true → Made m σ x t
    → gc_type_of (here m σ) (gc.StructNewDefault x) ≡ Some (types_in m [] ⟶ types_in m (t ∷ []))
struct_default m σ x fs d b t s e f g h =
    default_of m σ x fs d s ∙ ap (λ (c : Bool). provided (not c && are_defaultable fs) ([] ⟶ allocated (here m σ) (TypeAt m x) ∷ [])) e
    ∙ ap (λ (c : Bool). provided c ([] ⟶ allocated (here m σ) (TypeAt m x) ∷ [])) (sym f ∙ g)
    ∙ ap (λ (v : ValueType). Some ([] ⟶ v ∷ [])) (sym h)

pub struct_default_described : (m : Meaning) (σ : State) (x : ℕ) (fs : List FieldType) (d : Bool) → IsStruct m σ x fs d → d ≡ true → gc_type_of (here m σ) (gc.StructNewDefault x) ≡ None
struct_default_described m σ x fs d s e =
    default_of m σ x fs d s ∙ ap (λ (c : Bool). provided (not c && are_defaultable fs) ([] ⟶ allocated (here m σ) (TypeAt m x) ∷ [])) e

pub struct_no_default : (m : Meaning) (σ : State) (x : ℕ) (fs : List FieldType) (d b : Bool) → IsStruct m σ x fs d → d ≡ false → b ≡ are_defaultable fs → b ≡ false
    → gc_type_of (here m σ) (gc.StructNewDefault x) ≡ None
struct_no_default m σ x fs d b s e f g =
    default_of m σ x fs d s ∙ ap (λ (c : Bool). provided (not c && are_defaultable fs) ([] ⟶ allocated (here m σ) (TypeAt m x) ∷ [])) e
    ∙ ap (λ (c : Bool). provided c ([] ⟶ allocated (here m σ) (TypeAt m x) ∷ [])) (sym f ∙ g)

-- ---- arrays

pub array_new : (m : Meaning) (σ : State) (x : ℕ) (f : FieldType) (t : ValType) → IsArray m σ x f → Made m σ x t
    → gc_type_of (here m σ) (gc.ArrayNew x) ≡ Some (types_in m (unpacked_field f ∷ vals.I32 ∷ []) ⟶ types_in m (t ∷ []))
array_new m σ x f t a h =
    ap (λ (o : Option Array). named o (λ a. Some (element_of a ∷ i32_type ∷ [] ⟶ allocated (here m σ) a.type ∷ []))) a
    ∙ rw (unpacked_in m f.element_type, h, i32_in m) refl

pub array_default : (m : Meaning) (σ : State) (x : ℕ) (f : FieldType) (b : Bool) (t : ValType) → IsArray m σ x f → b ≡ is_defaultable_field f → b ≡ true → Made m σ x t
    → gc_type_of (here m σ) (gc.ArrayNewDefault x) ≡ Some (types_in m (vals.I32 ∷ []) ⟶ types_in m (t ∷ []))
array_default m σ x f b t a e g h =
    ap (λ (o : Option Array). named o (λ a. provided (defaultable (unpacked a.element.storage)) (i32_type ∷ [] ⟶ allocated (here m σ) a.type ∷ []))) a
    ∙ ap (λ (c : Bool). provided c (i32_type ∷ [] ⟶ allocated (here m σ) (TypeAt m x) ∷ [])) (default_in m f.element_type ∙ sym e ∙ g)
    ∙ rw (h, i32_in m) refl

pub array_no_default : (m : Meaning) (σ : State) (x : ℕ) (f : FieldType) (b : Bool) → IsArray m σ x f → b ≡ is_defaultable_field f → b ≡ false
    → gc_type_of (here m σ) (gc.ArrayNewDefault x) ≡ None
array_no_default m σ x f b a e g =
    ap (λ (o : Option Array). named o (λ a. provided (defaultable (unpacked a.element.storage)) (i32_type ∷ [] ⟶ allocated (here m σ) a.type ∷ []))) a
    ∙ ap (λ (c : Bool). provided c (i32_type ∷ [] ⟶ allocated (here m σ) (TypeAt m x) ∷ [])) (default_in m f.element_type ∙ sym e ∙ g)

pub array_fixed : (m : Meaning) (σ : State) (x n : ℕ) (f : FieldType) (t : ValType) → IsArray m σ x f → Made m σ x t
    → gc_type_of (here m σ) (gc.ArrayNewFixed x n) ≡ Some (replicate n (type_in m (unpacked_field f)) ⟶ types_in m (t ∷ []))
array_fixed m σ x n f t a h =
    ap (λ (o : Option Array). named o (λ a. Some (replicate n (element_of a) ⟶ allocated (here m σ) a.type ∷ []))) a
    ∙ rw (unpacked_in m f.element_type, h) refl

abbrev Referred : Meaning → ℕ → ValType → Type 0
Referred m x t = type_in m t ≡ reference_to (TypeAt m x)

fill_of : (m : Meaning) (σ : State) (x : ℕ) (f : FieldType) (b : Bool) → IsArray m σ x f → f.mutable ≡ b
    → gc_type_of (here m σ) (gc.ArrayFill x) ≡ provided b (reference_to (TypeAt m x) ∷ i32_type ∷ unpacked (storage_in m f.element_type) ∷ i32_type ∷ [] ⟶ [])
fill_of m σ x f b a e =
    ap (λ (o : Option Array). named o (λ a. provided a.element.mutable (reference_to a.type ∷ i32_type ∷ element_of a ∷ i32_type ∷ [] ⟶ []))) a
    ∙ ap (λ (c : Bool). provided c (reference_to (TypeAt m x) ∷ i32_type ∷ unpacked (storage_in m f.element_type) ∷ i32_type ∷ [] ⟶ [])) e

pub array_fill : (m : Meaning) (σ : State) (x : ℕ) (f : FieldType) (t : ValType) → IsArray m σ x f → f.mutable ≡ true → Referred m x t
    → gc_type_of (here m σ) (gc.ArrayFill x) ≡ Some (types_in m (t ∷ vals.I32 ∷ unpacked_field f ∷ vals.I32 ∷ []) ⟶ types_in m [])
array_fill m σ x f t a e h = fill_of m σ x f true a e ∙ rw (h, unpacked_in m f.element_type, i32_in m) refl

pub array_no_fill : (m : Meaning) (σ : State) (x : ℕ) (f : FieldType) → IsArray m σ x f → f.mutable ≡ false → gc_type_of (here m σ) (gc.ArrayFill x) ≡ None
array_no_fill m σ x f a e = fill_of m σ x f false a e

-- ---- data segments

new_data_of : (m : Meaning) (σ : State) (x d : ℕ) (f : FieldType) (b c : Bool) → IsArray m σ x f → is_of_references f.element_type ≡ b → names_data m.«module».data_count d ≡ c
    → gc_type_of (here m σ) (gc.ArrayNewData x d) ≡ provided (not b && c) (i32_type ∷ i32_type ∷ [] ⟶ allocated (here m σ) (TypeAt m x) ∷ [])
new_data_of m σ x d f b c a e g =
    ap (λ (o : Option Array). named o (λ a. provided (is_of_bytes a.element.storage && names_data m.«module».data_count d) (i32_type ∷ i32_type ∷ [] ⟶ allocated (here m σ) a.type ∷ []))) a
    ∙ ap (λ (y : Bool). provided (y && names_data m.«module».data_count d) (i32_type ∷ i32_type ∷ [] ⟶ allocated (here m σ) (TypeAt m x) ∷ [])) (bytes_in m f.element_type ∙ ap not e)
    ∙ ap (λ (y : Bool). provided (not b && y) (i32_type ∷ i32_type ∷ [] ⟶ allocated (here m σ) (TypeAt m x) ∷ [])) g

pub new_data : (m : Meaning) (σ : State) (x d : ℕ) (f : FieldType) (b : Bool) (t : ValType) → IsArray m σ x f → b ≡ is_of_references f.element_type → b ≡ false
    → names_data m.«module».data_count d ≡ true → Made m σ x t
    → gc_type_of (here m σ) (gc.ArrayNewData x d) ≡ Some (types_in m (vals.I32 ∷ vals.I32 ∷ []) ⟶ types_in m (t ∷ []))
new_data m σ x d f b t a e n g h = new_data_of m σ x d f false true a (sym e ∙ n) g ∙ rw (h, i32_in m) refl

pub new_data_references : (m : Meaning) (σ : State) (x d : ℕ) (f : FieldType) (b : Bool) → IsArray m σ x f → b ≡ is_of_references f.element_type → b ≡ true
    → gc_type_of (here m σ) (gc.ArrayNewData x d) ≡ None
new_data_references m σ x d f b a e n = new_data_of m σ x d f true _ a (sym e ∙ n) refl

pub new_data_unknown : (m : Meaning) (σ : State) (x d : ℕ) (f : FieldType) (b : Bool) → IsArray m σ x f → b ≡ is_of_references f.element_type → b ≡ false
    → names_data m.«module».data_count d ≡ false → gc_type_of (here m σ) (gc.ArrayNewData x d) ≡ None
new_data_unknown m σ x d f b a e n g = new_data_of m σ x d f false false a (sym e ∙ n) g

abbrev into : Meaning → ℕ → InstructionType
into m x = reference_to (TypeAt m x) ∷ i32_type ∷ i32_type ∷ i32_type ∷ [] ⟶ []

init_data_of : (m : Meaning) (σ : State) (x d : ℕ) (f : FieldType) (k b c : Bool) → IsArray m σ x f → f.mutable ≡ k → is_of_references f.element_type ≡ b → names_data m.«module».data_count d ≡ c
    → gc_type_of (here m σ) (gc.ArrayInitData x d) ≡ provided (k && (not b && c)) (into m x)
init_data_of m σ x d f k b c a i e g =
    ap (λ (o : Option Array). named o (λ a. provided (a.element.mutable && (is_of_bytes a.element.storage && names_data m.«module».data_count d)) (reference_to a.type ∷ i32_type ∷ i32_type ∷ i32_type ∷ [] ⟶ []))) a
    ∙ ap (λ (y : Bool). provided (y && (is_of_bytes (storage_in m f.element_type) && names_data m.«module».data_count d)) (into m x)) i
    ∙ ap (λ (y : Bool). provided (k && (y && names_data m.«module».data_count d)) (into m x)) (bytes_in m f.element_type ∙ ap not e)
    ∙ ap (λ (y : Bool). provided (k && (not b && y)) (into m x)) g

pub init_data : (m : Meaning) (σ : State) (x d : ℕ) (f : FieldType) (b : Bool) (t : ValType) → IsArray m σ x f → f.mutable ≡ true → b ≡ is_of_references f.element_type → b ≡ false
    → names_data m.«module».data_count d ≡ true → Referred m x t
    → gc_type_of (here m σ) (gc.ArrayInitData x d) ≡ Some (types_in m (t ∷ vals.I32 ∷ vals.I32 ∷ vals.I32 ∷ []) ⟶ types_in m [])
init_data m σ x d f b t a i e n g h = init_data_of m σ x d f true false true a i (sym e ∙ n) g ∙ rw (h, i32_in m) refl

pub init_data_immutable : (m : Meaning) (σ : State) (x d : ℕ) (f : FieldType) → IsArray m σ x f → f.mutable ≡ false → gc_type_of (here m σ) (gc.ArrayInitData x d) ≡ None
init_data_immutable m σ x d f a i = init_data_of m σ x d f false _ _ a i refl refl

pub init_data_references : (m : Meaning) (σ : State) (x d : ℕ) (f : FieldType) (b : Bool) → IsArray m σ x f → f.mutable ≡ true → b ≡ is_of_references f.element_type → b ≡ true
    → gc_type_of (here m σ) (gc.ArrayInitData x d) ≡ None
init_data_references m σ x d f b a i e n = init_data_of m σ x d f true true _ a i (sym e ∙ n) refl

pub init_data_unknown : (m : Meaning) (σ : State) (x d : ℕ) (f : FieldType) (b : Bool) → IsArray m σ x f → f.mutable ≡ true → b ≡ is_of_references f.element_type → b ≡ false
    → names_data m.«module».data_count d ≡ false → gc_type_of (here m σ) (gc.ArrayInitData x d) ≡ None
init_data_unknown m σ x d f b a i e n g = init_data_of m σ x d f true false false a i (sym e ∙ n) g

-- ---- references to small numbers

pub ref_i31 : (m : Meaning) (t : ValType) → t ≡ vals.Ref (record { nullable = false; heap = Heap.Abstract false I31 })
    → ◌≡◌ {A = Option InstructionType} (Some (i32_type ∷ [] ⟶ ref false (abstract false i31) ∷ [])) (Some (types_in m (vals.I32 ∷ []) ⟶ types_in m (t ∷ [])))
unfolding type_in
ref_i31 m t e = rw e refl

-- ---- what may be stored

pub value_fits : (m : Meaning) (x y : StorageType) (v w : ValType) (b : Bool) → x ≡ storage.Val v → y ≡ storage.Val w → IsTrue b ↔ Below (type_in m v) (type_in m w)
    → IsTrue b ↔ StorageMatches (storage_in m x) (storage_in m y)
unfolding type_in
value_fits m x y v w b e f i = rw (e, f) i

-- ---- tests and casts

top_is : (s r : Bool) (a b : Abstract) → ◌≡◌ {A = HeapOf TypeTree} (abstract s a) (abstract r b) → b ≡ a
top_is s r a b e = cc

castable_top : (m : Meaning) (h : HeapOf TypeTree) (s : Bool) (a : AbstractHeapType) (b : Bool) (v : ValType) → abstract s (abstract_of a) ≡ top_heap h
    → b ≡ is_cont (abstract_of a) → b ≡ false → v ≡ vals.Ref (record { nullable = true; heap = Heap.Abstract s a }) → (is_castable h ≡ true) × (type_in m v ≡ ref true (top_heap h))
unfolding type_in
castable_top m h s a b v e f n j = (
  ap (λ (t : Abstract). not (is_cont t)) (top_is s (heap_is_shared h) (abstract_of a) (top_above h) e) ∙ ap not (sym f ∙ n),
  ap (type_in m) j ∙ ap (ref true) e,
)

pub castable_is : (m : Meaning) (q r : HeapType) (s : Bool) (a : AbstractHeapType) (b : Bool) (v : ValType) → q ≡ r → abstract s (abstract_of a) ≡ top_heap (heap_in m q)
    → b ≡ is_cont (abstract_of a) → b ≡ false → v ≡ vals.Ref (record { nullable = true; heap = Heap.Abstract s a })
    → (is_castable (heap_in m r) ≡ true) × (type_in m v ≡ ref true (top_heap (heap_in m r)))
castable_is m q r s a b v i e f n j =
    subst (λ (h : HeapType). (is_castable (heap_in m h) ≡ true) × (type_in m v ≡ ref true (top_heap (heap_in m h)))) i (castable_top m (heap_in m q) s a b v e f n j)

cast_of : (m : Meaning) (σ : State) (w : HeapType) (h : HeapOf TypeTree) (f : HeapOf TypeTree → ValueType) (b : Bool) → heap_named (here m σ) w ≡ Some h → is_castable h ≡ b
    → cast_at (here m σ) w f ≡ provided b (ref true (top_heap h) ∷ [] ⟶ f h ∷ [])
cast_of m σ w h f b e i =
    ap (λ (o : Option (HeapOf TypeTree)). named o (λ k. provided (is_castable k) (ref true (top_heap k) ∷ [] ⟶ f k ∷ []))) e
    ∙ ap (λ (c : Bool). provided c (ref true (top_heap h) ∷ [] ⟶ f h ∷ [])) i

pub cast_unnamed : (m : Meaning) (σ : State) (w : HeapType) (f : HeapOf TypeTree → ValueType) → heap_named (here m σ) w ≡ None → cast_at (here m σ) w f ≡ None
cast_unnamed m σ w f e = ap (λ (o : Option (HeapOf TypeTree)). named o (λ k. provided (is_castable k) (ref true (top_heap k) ∷ [] ⟶ f k ∷ []))) e

pub cast_of_continuation : (m : Meaning) (σ : State) (w : HeapType) (h : HeapOf TypeTree) (f : HeapOf TypeTree → ValueType) → heap_named (here m σ) w ≡ Some h → is_castable h ≡ false
    → cast_at (here m σ) w f ≡ None
cast_of_continuation m σ w h f e i = cast_of m σ w h f false e i

pub test_type : (m : Meaning) (σ : State) (w : HeapType) (h : HeapOf TypeTree) (t : ValType) → heap_named (here m σ) w ≡ Some h → (is_castable h ≡ true) × (type_in m t ≡ ref true (top_heap h))
    → cast_at (here m σ) w (λ k. i32_type) ≡ Some (types_in m (t ∷ []) ⟶ types_in m (vals.I32 ∷ []))
test_type m σ w h t e i = cast_of m σ w h (λ k. i32_type) true e i.0 ∙ rw (i.1, i32_in m) refl

pub cast_type : (m : Meaning) (σ : State) (w : HeapType) (r : Reference) (n : Bool) (t : ValType) → (r.nullable ≡ n) × (heap_named (here m σ) w ≡ Some (heap_in m r.heap))
    → (is_castable (heap_in m r.heap) ≡ true) × (type_in m t ≡ ref true (top_heap (heap_in m r.heap)))
    → cast_at (here m σ) w (λ k. ref n k) ≡ Some (types_in m (t ∷ []) ⟶ types_in m (vals.Ref r ∷ []))
cast_type m σ w r n t e i =
    cast_of m σ w (heap_in m r.heap) (λ k. ref n k) true e.1 i.0
    ∙ rw (i.1, reference_is m r, e.0) refl

-- ---- element segments

abbrev Segment : Meaning → ℕ → Option ValueType
Segment m e = slice_get m.«module».elements e

one_array : (m : Meaning) (σ : State) (x : ℕ) (f : FieldType) (a : Array) → IsArray m σ x f → array_named (here m σ) x ≡ Some a → a ≡ array_with m x f
one_array m σ x f a i e = let h : ◌≡◌ {A = Option Array} (Some a) (Some (array_with m x f)) = sym e ∙ i in cc

one_segment : (m : Meaning) (e : ℕ) (r : Reference) (s : ValueType) → Segment m e ≡ Some (reference_in m r) → Segment m e ≡ Some s → s ≡ type_in m (vals.Ref r)
one_segment m e r s i h = let k : ◌≡◌ {A = Option ValueType} (Some s) (Some (reference_in m r)) = sym h ∙ i in let j : s ≡ reference_in m r = cc in j ∙ sym (reference_is m r)

-- what may be stored of a segment
held : (m : Meaning) (r : Reference) (s : StorageType) → MayStore m r s → (t : ValueType) × (storage_in m s ≡ value t) × Below (type_in m (vals.Ref r)) t
unfolding type_in
held m r storage.I8 h = absurd h
held m r storage.I16 h = absurd h
held m r (storage.Val t) h = (type_in m t, refl, h)

stored : (m : Meaning) (r : Reference) (s : StorageType) (t : ValueType) → storage_in m s ≡ value t → Below (type_in m (vals.Ref r)) t → MayStore m r s
unfolding type_in
stored m r storage.I8 t e b = cc
stored m r storage.I16 t e b = cc
stored m r (storage.Val v) t e b = let i : t ≡ type_in m v = cc in subst (λ (u : ValueType). Below (type_in m (vals.Ref r)) u) i b

may_hold : (m : Meaning) (σ : State) (x e : ℕ) (f : FieldType) (r : Reference) → Segment m e ≡ Some (reference_in m r) → MayStore m r f.element_type
    → MayHold (here m σ) (array_with m x f) e
may_hold m σ x e f r i h =
    let (t, k, b) = held m r f.element_type h in
    (type_in m (vals.Ref r), t, i ∙ ap (λ (u : ValueType). Some u) (sym (reference_is m r)), k, b)

may_store : (m : Meaning) (σ : State) (x e : ℕ) (f : FieldType) (r : Reference) (a : Array) → IsArray m σ x f → array_named (here m σ) x ≡ Some a
    → Segment m e ≡ Some (reference_in m r) → MayHold (here m σ) a e → MayStore m r f.element_type
may_store m σ x e f r a i n j (s, t, h, k, b) =
    let o : a ≡ array_with m x f = one_array m σ x f a i n in
    stored m r f.element_type t (sym (ap (λ (y : Array). y.element.storage) o) ∙ k)
    (subst (λ (u : ValueType). Below u t) (one_segment m e r s j h) b)

-- array.new_elem

pub new_elem_row : (m : Meaning) (σ : State) (x e : ℕ) (f : FieldType) (r : Reference) (t : ValType) → IsArray m σ x f → Segment m e ≡ Some (reference_in m r) → MayStore m r f.element_type → Made m σ x t
    → IsRow m σ (gc.ArrayNewElem x e) (types_in m (vals.I32 ∷ vals.I32 ∷ [])) (types_in m (t ∷ []))
new_elem_row m σ x e f r t i j h k popped pushed = rw (i32_in m, k) (
  λ (a, n, l, c). subst (λ (y : Array). Takes (i32_type ∷ i32_type ∷ []) (allocated (here m σ) y.type ∷ []) popped pushed) (one_array m σ x f a i n) c,
  λ c. (array_with m x f, i, may_hold m σ x e f r j h, c),
)

pub new_elem_nothing : (m : Meaning) (σ : State) (x e : ℕ) → array_named (here m σ) x ≡ None → HasNoRow m σ (gc.ArrayNewElem x e)
new_elem_nothing m σ x e n popped pushed (a, h, l, c) = let k : ◌≡◌ {A = Option Array} None (Some a) = sym n ∙ h in cc

pub new_elem_unknown : (m : Meaning) (σ : State) (x e : ℕ) → Segment m e ≡ None → HasNoRow m σ (gc.ArrayNewElem x e)
new_elem_unknown m σ x e n popped pushed (a, h, (s, t, i, l, z), c) = let k : ◌≡◌ {A = Option ValueType} None (Some s) = sym n ∙ i in cc

pub new_elem_unfit : (m : Meaning) (σ : State) (x e : ℕ) (f : FieldType) (r : Reference) (b : Bool) → IsArray m σ x f → Segment m e ≡ Some (reference_in m r)
    → IsTrue b ↔ MayStore m r f.element_type → b ≡ false → HasNoRow m σ (gc.ArrayNewElem x e)
new_elem_unfit m σ x e f r b i j k n popped pushed (a, h, l, c) = fails b k n (may_store m σ x e f r a i h j l)

-- array.init_elem

pub init_elem_row : (m : Meaning) (σ : State) (x e : ℕ) (f : FieldType) (r : Reference) (t : ValType) → IsArray m σ x f → f.mutable ≡ true → Segment m e ≡ Some (reference_in m r)
    → MayStore m r f.element_type → Referred m x t
    → IsRow m σ (gc.ArrayInitElem x e) (types_in m (t ∷ vals.I32 ∷ vals.I32 ∷ vals.I32 ∷ [])) (types_in m [])
init_elem_row m σ x e f r t i u j h k popped pushed = rw (i32_in m, k) (
  λ (a, n, v, l, c). subst (λ (y : Array). Takes (reference_to y.type ∷ i32_type ∷ i32_type ∷ i32_type ∷ []) [] popped pushed) (one_array m σ x f a i n) c,
  λ c. (array_with m x f, i, u, may_hold m σ x e f r j h, c),
)

pub init_elem_nothing : (m : Meaning) (σ : State) (x e : ℕ) → array_named (here m σ) x ≡ None → HasNoRow m σ (gc.ArrayInitElem x e)
init_elem_nothing m σ x e n popped pushed (a, h, v, l, c) = let k : ◌≡◌ {A = Option Array} None (Some a) = sym n ∙ h in cc

-- an array that is not mutable
immutable : (m : Meaning) (σ : State) (x : ℕ) (f : FieldType) (a : Array) → IsArray m σ x f → f.mutable ≡ false → array_named (here m σ) x ≡ Some a → IsTrue a.element.mutable → ⊥
immutable m σ x f a i n h u =
    let k : a.element.mutable ≡ f.mutable = ap (λ (y : Array). y.element.mutable) (one_array m σ x f a i h) in
    let j : false ≡ true = sym n ∙ sym k ∙ u in cc

pub init_elem_immutable : (m : Meaning) (σ : State) (x e : ℕ) (f : FieldType) → IsArray m σ x f → f.mutable ≡ false → HasNoRow m σ (gc.ArrayInitElem x e)
init_elem_immutable m σ x e f i n popped pushed (a, h, u, l, c) = immutable m σ x f a i n h u

pub init_elem_unknown : (m : Meaning) (σ : State) (x e : ℕ) → Segment m e ≡ None → HasNoRow m σ (gc.ArrayInitElem x e)
init_elem_unknown m σ x e n popped pushed (a, h, u, (s, t, i, l, z), c) = let k : ◌≡◌ {A = Option ValueType} None (Some s) = sym n ∙ i in cc

pub init_elem_unfit : (m : Meaning) (σ : State) (x e : ℕ) (f : FieldType) (r : Reference) (b : Bool) → IsArray m σ x f → Segment m e ≡ Some (reference_in m r)
    → IsTrue b ↔ MayStore m r f.element_type → b ≡ false → HasNoRow m σ (gc.ArrayInitElem x e)
init_elem_unfit m σ x e f r b i j k n popped pushed (a, h, u, l, c) = fails b k n (may_store m σ x e f r a i h j l)

-- array.copy

pub copy_row : (m : Meaning) (σ : State) (x y : ℕ) (f d : FieldType) (t u : ValType) → IsArray m σ x f → f.mutable ≡ true → IsArray m σ y d
    → StorageMatches (storage_in m d.element_type) (storage_in m f.element_type) → Referred m x t → Referred m y u
    → IsRow m σ (gc.ArrayCopy x y) (types_in m (t ∷ vals.I32 ∷ u ∷ vals.I32 ∷ vals.I32 ∷ [])) (types_in m [])
copy_row m σ x y f d t u i n j h k l popped pushed = rw (i32_in m, k, l) (
  λ (a, b, p, q, v, w, c). (
      let c' : Takes (reference_to (TypeAt m x) ∷ i32_type ∷ reference_to b.type ∷ i32_type ∷ i32_type ∷ []) [] popped pushed =
      subst (λ (z : Array). Takes (reference_to z.type ∷ i32_type ∷ reference_to b.type ∷ i32_type ∷ i32_type ∷ []) [] popped pushed) (one_array m σ x f a i p) c in
      subst (λ (z : Array). Takes (reference_to (TypeAt m x) ∷ i32_type ∷ reference_to z.type ∷ i32_type ∷ i32_type ∷ []) [] popped pushed) (one_array m σ y d b j q) c'),
  λ c. (array_with m x f, array_with m y d, i, j, n, h, c),
)

pub copy_into_nothing : (m : Meaning) (σ : State) (x y : ℕ) → array_named (here m σ) x ≡ None → HasNoRow m σ (gc.ArrayCopy x y)
copy_into_nothing m σ x y n popped pushed (a, b, p, q, v, w, c) = let k : ◌≡◌ {A = Option Array} None (Some a) = sym n ∙ p in cc

pub copy_of_nothing : (m : Meaning) (σ : State) (x y : ℕ) → array_named (here m σ) y ≡ None → HasNoRow m σ (gc.ArrayCopy x y)
copy_of_nothing m σ x y n popped pushed (a, b, p, q, v, w, c) = let k : ◌≡◌ {A = Option Array} None (Some b) = sym n ∙ q in cc

pub copy_immutable : (m : Meaning) (σ : State) (x y : ℕ) (f : FieldType) → IsArray m σ x f → f.mutable ≡ false → HasNoRow m σ (gc.ArrayCopy x y)
copy_immutable m σ x y f i n popped pushed (a, b, p, q, v, w, c) = immutable m σ x f a i n p v

pub copy_unfit : (m : Meaning) (σ : State) (x y : ℕ) (f d : FieldType) (b : Bool) → IsArray m σ x f → IsArray m σ y d
    → IsTrue b ↔ StorageMatches (storage_in m d.element_type) (storage_in m f.element_type) → b ≡ false → HasNoRow m σ (gc.ArrayCopy x y)
copy_unfit m σ x y f d b i j k n popped pushed (a, o, p, q, v, w, c) =
    let w' : StorageMatches (storage_in m d.element_type) a.element.storage = subst (λ (z : Array). StorageMatches z.element.storage a.element.storage) (one_array m σ y d o j q) w in
    fails b k n (subst (λ (z : Array). StorageMatches (storage_in m d.element_type) z.element.storage) (one_array m σ x f a i p) w')
