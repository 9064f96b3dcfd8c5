-- What checks look up.
use Rattle.std.proofs.Common.{◌≡◌, ◌↔◌, ◌∙◌, ◌<◌, ℕ, zero, suc, arith, Bool, true, false, IsTrue, List, [], ◌∷◌, length, Option, Some, None, option_map, option_and_then, slice_get, is_some, if◌then◌else◌, refl, sym, ap, subst}
use Rattle.std.proofs.lemmas.Option.{slice_get_within, slice_get_past, slice_get-get_or, get_or_from_slice_get}
use Rattle.wasm_types.specs.trees.Types.{FieldOf, EntryOf, HeapOf, ref, abstract, concrete, exact, heap_map}
use Rattle.wasm_types.specs.trees.Each.{EachHeap}
use Rattle.wasm_types.specs.trees.Trees.{TypeTree, opened}
use Rattle.wasm_types.specs.trees.Below.{is_shared, heap_is_shared, expanded}
use Rattle.wasm_types.specs.decoding.declared.error.ErrorKind.{ErrorKind}
use Rattle.wasm_types.specs.decoding.declared.error.ErrorKind.TheVariants as kinds
use Rattle.wasm_types.specs.decoding.Denials.{Denies}
use Rattle.wasm_types.specs.trees.declared.index.UnpackedIndex.{UnpackedIndex}
use Rattle.wasm_types.specs.trees.declared.index.UnpackedIndex.TheVariants as index
use Rattle.wasm_types.specs.values.Trees.{heap_of}
use Rattle.wasm_types.specs.values.declared.heap.HeapType.{HeapType}
use Rattle.wasm_types.specs.values.declared.value.ValType.{ValType}
use Rattle.wasm_types.specs.values.declared.value.ValType.TheVariants as vals
use Rattle.wasm_types.specs.values.Reference.{Reference}
use Rattle.wasm_types.specs.fields.declared.field.FieldType.{FieldType}
use Rattle.wasm_types.specs.declared.composite.CompositeInnerType.{CompositeInnerType}
use Rattle.wasm_types.specs.declared.composite.CompositeInnerType.TheVariants as composite
use Rattle.wasm_types.specs.declared.sub_type.SubType.{SubType}
use Rattle.wasm_operator_validator_rules.specs.Context.{Context, may_use, IsTypeIndex, written_type}
use Rattle.wasm_operator_validator_rules.specs.Named.{used_type}
use Rattle.wasm_operator_validator_rules.specs.Aggregates.{as_struct, as_array, Struct, Array, struct_named, array_named, index_named, heap_meant, heap_named}
use Rattle.wasm_operator_validator_rules.specs.Places.{Place, field_place, element_place}
use Rattle.wasm_operator_validator_rules.specs.InstructionTypes.{i32_type}
use Rattle.wasm_operator_validator_rules.specs.Operands.{ValueType}
use Rattle.wasm_operator_validator_resources.specs.Meaning.{Meaning, entry_in, named_type, type_in, heap_in, reference_in}
use Rattle.wasm_operator_validator_resources.specs.Answers.{IsNamed, IsWritten}
use Rattle.wasm_operator_validator_state.specs.State.{State}
use Rattle.wasm_operator_validator_stacks.specs.determined.Operators.{MayUseIn}
use Rattle.wasm_operator_validator_stacks.specs.determined.laws.Usable.{may, may_not, fails}
use Rattle.wasm_operator_validator_stacks.specs.determined.laws.Types.{i32_in, reference_is}
use Rattle.wasm_operator_validator_objects.specs.Rows.{here}
use Rattle.wasm_operator_validator_objects.specs.Found.{TypeAt, array_element, IsUsed, IsStruct, IsArray, fields_in, field_in, struct_fields, struct_with, array_with, place_in, written_heap, heap_to}

-- ---- a type that may be used

abbrev Looked : Meaning → ℕ → EntryOf TypeTree → Type 0
Looked m x e = ◌≡◌ {A = Option (EntryOf TypeTree)} (Some e) (option_map opened (slice_get m.«module».types x))

-- what was looked up is there
looked_at : (m : Meaning) (x : ℕ) (e : EntryOf TypeTree) → Looked m x e → (slice_get m.«module».types x ≡ Some (TypeAt m x)) × (opened (TypeAt m x) ≡ e)
looked_at m x e l = of (slice_get m.«module».types x) refl l
  where
    of : (o : Option TypeTree) → slice_get m.«module».types x ≡ o → ◌≡◌ {A = Option (EntryOf TypeTree)} (Some e) (option_map opened o)
        → (slice_get m.«module».types x ≡ Some (TypeAt m x)) × (opened (TypeAt m x) ≡ e)
    of None h k = cc
    of (Some t) h k =
        let is : TypeAt m x ≡ t = get_or_from_slice_get m.«module».types x t _ h in
        let o : e ≡ opened t = cc in
        (h ∙ ap (λ (u : TypeTree). Some u) (sym is), ap opened is ∙ sym o)

abbrev kept : Context → Option TypeTree → Option TypeTree
kept g o = option_and_then (λ t. if may_use g (is_shared t) then Some t else None) o

pub nothing_used : (m : Meaning) (σ : State) (x : ℕ) → ◌≡◌ {A = Option (EntryOf TypeTree)} None (option_map opened (slice_get m.«module».types x))
    → used_type (here m σ) x ≡ None
nothing_used m σ x e = of (slice_get m.«module».types x) e
  where
    of : (o : Option TypeTree) → ◌≡◌ {A = Option (EntryOf TypeTree)} None (option_map opened o) → kept (here m σ) o ≡ None
    of None h = refl
    of (Some t) h = cc

pub not_used : (m : Meaning) (σ : State) (x : ℕ) (e : EntryOf TypeTree) (b : Bool) → Looked m x e → IsTrue b ↔ MayUseIn σ e.shared → b ≡ false
    → used_type (here m σ) x ≡ None
not_used m σ x e b l i n =
    let (h, o) = looked_at m x e l in
    let u : MayUseIn σ (is_shared (TypeAt m x)) → ⊥ =
    λ v. (let y : b ≡ true = i.1 (subst (λ (z : EntryOf TypeTree). MayUseIn σ z.shared) o v) in let z : false ≡ true = sym n ∙ y in cc) in
    ap (kept (here m σ)) h ∙ ap (λ (c : Bool). if c then Some (TypeAt m x) else None) (may_not (here m σ) (is_shared (TypeAt m x)) u)

pub is_used : (m : Meaning) (σ : State) (x : ℕ) (e : EntryOf TypeTree) (b : Bool) → Looked m x e → IsTrue b ↔ MayUseIn σ e.shared → b ≡ true → IsUsed m σ x e
is_used m σ x e b l i n =
    let (h, o) = looked_at m x e l in
    let u : MayUseIn σ (is_shared (TypeAt m x)) = subst (λ (z : EntryOf TypeTree). MayUseIn σ z.shared) (sym o) (i.0 n) in
    (ap (kept (here m σ)) h ∙ ap (λ (c : Bool). if c then Some (TypeAt m x) else None) (may (here m σ) (is_shared (TypeAt m x)) u), o)

-- ---- structs and arrays

abbrev struct_of_type : TypeTree → Option Struct
struct_of_type t = option_map (λ xs. record { type = t; fields = xs }) (as_struct (expanded t))

abbrev array_of_type : TypeTree → Option Array
array_of_type t = option_map (λ y. record { type = t; element = y }) (as_array (expanded t))

pub no_struct_used : (m : Meaning) (σ : State) (x : ℕ) → used_type (here m σ) x ≡ None → struct_named (here m σ) x ≡ None
no_struct_used m σ x e = ap (λ (o : Option TypeTree). option_and_then struct_of_type o) e

pub no_array_used : (m : Meaning) (σ : State) (x : ℕ) → used_type (here m σ) x ≡ None → array_named (here m σ) x ≡ None
no_array_used m σ x e = ap (λ (o : Option TypeTree). option_and_then array_of_type o) e

fields_are : (m : Meaning) (t : SubType) → as_struct (entry_in m t).inner ≡ option_map (fields_in m) (struct_fields t.composite_type.inner)
fields_are m t = of t.composite_type.inner refl
  where
    of : (i : CompositeInnerType) → t.composite_type.inner ≡ i → as_struct (entry_in m t).inner ≡ option_map (fields_in m) (struct_fields i)
    of (composite.Func f) e = rw e refl
    of (composite.Array f) e = rw e refl
    of (composite.Struct f) e = rw e refl
    of (composite.Cont f) e = rw e refl

element_is : (m : Meaning) (t : SubType) → as_array (entry_in m t).inner ≡ option_map (field_in m) (array_element t.composite_type.inner)
element_is m t = of t.composite_type.inner refl
  where
    of : (i : CompositeInnerType) → t.composite_type.inner ≡ i → as_array (entry_in m t).inner ≡ option_map (field_in m) (array_element i)
    of (composite.Func f) e = rw e refl
    of (composite.Array f) e = rw e refl
    of (composite.Struct f) e = rw e refl
    of (composite.Cont f) e = rw e refl

struct_is : (m : Meaning) (σ : State) (x : ℕ) (t : SubType) (o : Option (List FieldType)) → IsUsed m σ x (entry_in m t) → o ≡ struct_fields t.composite_type.inner
    → struct_named (here m σ) x ≡ option_map (λ (fs : List FieldType). struct_with m x fs) o
struct_is m σ x t o u e =
    ap (λ (v : Option TypeTree). option_and_then struct_of_type v) u.0
    ∙ ap (λ (v : EntryOf TypeTree). option_map (λ xs. record { type = TypeAt m x; fields = xs }) (as_struct v.inner)) u.1
    ∙ ap (λ (v : Option (List (FieldOf TypeTree))). option_map (λ xs. record { type = TypeAt m x; fields = xs }) v) (fields_are m t ∙ ap (λ (v : Option (List FieldType)). option_map (fields_in m) v) (sym e))
    ∙ mapped o
  where
    mapped : (v : Option (List FieldType)) → option_map (λ xs. record { type = TypeAt m x; fields = xs }) (option_map (fields_in m) v) ≡ option_map (λ (fs : List FieldType). struct_with m x fs) v
    mapped None = refl
    mapped (Some fs) = refl

array_is : (m : Meaning) (σ : State) (x : ℕ) (t : SubType) (o : Option FieldType) → IsUsed m σ x (entry_in m t) → o ≡ array_element t.composite_type.inner
    → array_named (here m σ) x ≡ option_map (λ (f : FieldType). array_with m x f) o
array_is m σ x t o u e =
    ap (λ (v : Option TypeTree). option_and_then array_of_type v) u.0
    ∙ ap (λ (v : EntryOf TypeTree). option_map (λ y. record { type = TypeAt m x; element = y }) (as_array v.inner)) u.1
    ∙ ap (λ (v : Option (FieldOf TypeTree)). option_map (λ y. record { type = TypeAt m x; element = y }) v) (element_is m t ∙ ap (λ (v : Option FieldType). option_map (field_in m) v) (sym e))
    ∙ mapped o
  where
    mapped : (v : Option FieldType) → option_map (λ y. record { type = TypeAt m x; element = y }) (option_map (field_in m) v) ≡ option_map (λ (f : FieldType). array_with m x f) v
    mapped None = refl
    mapped (Some fs) = refl

pub no_struct : (m : Meaning) (σ : State) (x : ℕ) (t : SubType) → IsUsed m σ x (entry_in m t) → None ≡ struct_fields t.composite_type.inner → struct_named (here m σ) x ≡ None
no_struct m σ x t u e = struct_is m σ x t None u e

pub no_array : (m : Meaning) (σ : State) (x : ℕ) (t : SubType) → IsUsed m σ x (entry_in m t) → None ≡ array_element t.composite_type.inner → array_named (here m σ) x ≡ None
no_array m σ x t u e = array_is m σ x t None u e

as_many : {A B : Type 0} (f : A → B) (o : Option A) → is_some (option_map f o) ≡ is_some o
as_many f None = refl
as_many f (Some y) = refl

pub found_struct : (m : Meaning) (σ : State) (x : ℕ) (t : SubType) (fs : List FieldType) (d : Bool) → IsUsed m σ x (entry_in m t) → Some fs ≡ struct_fields t.composite_type.inner
    → d ≡ is_some t.composite_type.descriptor_idx → IsStruct m σ x fs d
found_struct m σ x t fs d u e h = (
  struct_is m σ x t (Some fs) u e,
  ap (λ (v : EntryOf TypeTree). is_some v.descriptor) u.1 ∙ as_many (named_type m) t.composite_type.descriptor_idx ∙ sym h,
)

pub found_array : (m : Meaning) (σ : State) (x : ℕ) (t : SubType) (f : FieldType) → IsUsed m σ x (entry_in m t) → Some f ≡ array_element t.composite_type.inner → IsArray m σ x f
found_array m σ x t f u e = array_is m σ x t (Some f) u e

-- ---- a type that was found has an index

pub used_within : (m : Meaning) (σ : State) (x : ℕ) (t : TypeTree) → used_type (here m σ) x ≡ Some t → x < length m.«module».types
used_within m σ x t e = of (slice_get m.«module».types x) refl e
  where
    of : (o : Option TypeTree) → slice_get m.«module».types x ≡ o → kept (here m σ) o ≡ Some t → x < length m.«module».types
    of None h k = cc
    of (Some u) h k = slice_get_within m.«module».types x u h

struct_within : (m : Meaning) (σ : State) (x : ℕ) (s : Struct) → struct_named (here m σ) x ≡ Some s → x < length m.«module».types
struct_within m σ x s e = of (used_type (here m σ) x) refl e
  where
    of : (o : Option TypeTree) → used_type (here m σ) x ≡ o → option_and_then struct_of_type o ≡ Some s → x < length m.«module».types
    of None h k = cc
    of (Some u) h k = used_within m σ x u h

array_within : (m : Meaning) (σ : State) (x : ℕ) (a : Array) → array_named (here m σ) x ≡ Some a → x < length m.«module».types
array_within m σ x a e = of (used_type (here m σ) x) refl e
  where
    of : (o : Option TypeTree) → used_type (here m σ) x ≡ o → option_and_then array_of_type o ≡ Some a → x < length m.«module».types
    of None h k = cc
    of (Some u) h k = used_within m σ x u h

pub struct_index : (m : Meaning) (σ : State) (x : ℕ) (fs : List FieldType) (d : Bool) → IsStruct m σ x fs d → x < length m.«module».types
struct_index m σ x fs d s = struct_within m σ x (struct_with m x fs) s.0

pub array_index : (m : Meaning) (σ : State) (x : ℕ) (f : FieldType) → IsArray m σ x f → x < length m.«module».types
array_index m σ x f a = array_within m σ x (array_with m x f) a

-- ---- fields and elements

abbrev place_of : Struct → FieldOf TypeTree → Place
place_of s y = record { reached_by = ref true (concrete s.type) ∷ []; storage = y.storage; mutable = y.mutable }

abbrev field_of_struct : ℕ → Struct → Option Place
field_of_struct i s = option_map (place_of s) (slice_get s.fields i)

pub no_struct_field : (m : Meaning) (σ : State) (x i : ℕ) → struct_named (here m σ) x ≡ None → field_place (here m σ) x i ≡ None
no_struct_field m σ x i e = ap (λ (o : Option Struct). option_and_then (field_of_struct i) o) e

-- an item of a list of fields
field_at : (m : Meaning) (fs : List FieldType) (i : ℕ) → slice_get (fields_in m fs) i ≡ option_map (field_in m) (slice_get fs i)
field_at m [] i = refl
field_at m (f ∷ fs) zero = refl
field_at m (f ∷ fs) (suc i) = field_at m fs i

field_is : (m : Meaning) (σ : State) (x i : ℕ) (fs : List FieldType) (d : Bool) (o : Option FieldType) → IsStruct m σ x fs d → o ≡ slice_get fs i
    → field_place (here m σ) x i ≡ option_map (λ (f : FieldType). place_of (struct_with m x fs) (field_in m f)) o
field_is m σ x i fs d o s e =
    ap (λ (v : Option Struct). option_and_then (field_of_struct i) v) s.0
    ∙ ap (λ (v : Option (FieldOf TypeTree)). option_map (place_of (struct_with m x fs)) v) (field_at m fs i ∙ ap (λ (v : Option FieldType). option_map (field_in m) v) (sym e))
    ∙ mapped o
  where
    mapped : (v : Option FieldType) → option_map (place_of (struct_with m x fs)) (option_map (field_in m) v) ≡ option_map (λ (f : FieldType). place_of (struct_with m x fs) (field_in m f)) v
    mapped None = refl
    mapped (Some f) = refl

pub no_field : (m : Meaning) (σ : State) (x i : ℕ) (fs : List FieldType) (d : Bool) → IsStruct m σ x fs d → None ≡ slice_get fs i → field_place (here m σ) x i ≡ None
no_field m σ x i fs d s e = field_is m σ x i fs d None s e

pub found_field : (m : Meaning) (σ : State) (x i : ℕ) (fs : List FieldType) (d : Bool) (f : FieldType) (r : ValType) → IsStruct m σ x fs d → Some f ≡ slice_get fs i
    → type_in m r ≡ ref true (concrete (TypeAt m x)) → field_place (here m σ) x i ≡ Some (place_in m (r ∷ []) f)
found_field m σ x i fs d f r s e h =
    field_is m σ x i fs d (Some f) s e
    ∙ ap (λ (v : ValueType). Some (record { reached_by = v ∷ []; storage = (field_in m f).storage; mutable = f.mutable })) (sym h)

abbrev element_of_array : Array → Place
element_of_array a = record { reached_by = ref true (concrete a.type) ∷ i32_type ∷ []; storage = a.element.storage; mutable = a.element.mutable }

pub no_element : (m : Meaning) (σ : State) (x : ℕ) → array_named (here m σ) x ≡ None → element_place (here m σ) x ≡ None
no_element m σ x e = ap (λ (o : Option Array). option_map element_of_array o) e

pub found_element : (m : Meaning) (σ : State) (x : ℕ) (f : FieldType) (r : ValType) → IsArray m σ x f → type_in m r ≡ ref true (concrete (TypeAt m x))
    → element_place (here m σ) x ≡ Some (place_in m (r ∷ vals.I32 ∷ []) f)
found_element m σ x f r a h =
    ap (λ (o : Option Array). option_map element_of_array o) a
    ∙ ap (λ (v : ValueType). Some (record { reached_by = v ∷ i32_type ∷ []; storage = (field_in m f).storage; mutable = f.mutable })) (sym h)
    ∙ ap (λ (v : ValueType). Some (record { reached_by = type_in m r ∷ v ∷ []; storage = (field_in m f).storage; mutable = f.mutable })) (sym (i32_in m))

-- ---- references

heap_is : (m : Meaning) (x : ℕ) (b : Bool) (named : HeapType) → IsNamed m (written_heap b x) named → heap_in m named ≡ heap_to b (TypeAt m x)
heap_is m x true named i = i.same
heap_is m x false named i = i.same

pub reference_named : (m : Meaning) (x : ℕ) (n b : Bool) (written named : HeapType) (r : Reference) → written ≡ written_heap b x → IsNamed m written named
    → r ≡ record { nullable = n; heap = named } → type_in m (vals.Ref r) ≡ ref n (heap_to b (TypeAt m x))
reference_named m x n b written named r e i f =
    let i' : IsNamed m (written_heap b x) named = subst (λ (h : HeapType). IsNamed m h named) e i in
    reference_is m r ∙ ap (reference_in m) f ∙ ap (ref n) (heap_is m x b named i')

-- ---- heap types that code writes

abbrev Index : Meaning → UnpackedIndex → Type 0
Index m i = IsTypeIndex m.«module» i

index_found : (m : Meaning) (σ : State) (i : UnpackedIndex) (b : Bool) → Index m i → IsTrue b ↔ MayUseIn σ (is_shared (written_type m.«module» i)) → b ≡ true
    → index_named (here m σ) i ≡ Some (written_type m.«module» i)
index_found m σ (index.Module n) b w j e =
    ap (kept (here m σ)) (slice_get-get_or m.«module».types n _ w)
    ∙ ap (λ (c : Bool). if c then Some (TypeAt m n) else None) (may (here m σ) (is_shared (TypeAt m n)) (j.0 e))
index_found m σ (index.RecGroup n) b w j e = absurd w
index_found m σ (index.Id i) b w j e = absurd w

index_unused : (m : Meaning) (σ : State) (i : UnpackedIndex) (b : Bool) → Index m i → IsTrue b ↔ MayUseIn σ (is_shared (written_type m.«module» i)) → b ≡ false
    → index_named (here m σ) i ≡ None
index_unused m σ (index.Module n) b w j e =
    ap (kept (here m σ)) (slice_get-get_or m.«module».types n _ w)
    ∙ ap (λ (c : Bool). if c then Some (TypeAt m n) else None) (may_not (here m σ) (is_shared (TypeAt m n)) (fails b j e))
index_unused m σ (index.RecGroup n) b w j e = absurd w
index_unused m σ (index.Id i) b w j e = absurd w

index_unknown : (m : Meaning) (σ : State) (i : UnpackedIndex) → (Index m i → ⊥) → index_named (here m σ) i ≡ None
index_unknown m σ (index.Module n) w = ap (kept (here m σ)) (slice_get_past m.«module».types n (omega (arith, w)))
index_unknown m σ (index.RecGroup n) w = refl
index_unknown m σ (index.Id i) w = refl

-- the heap type that is meant, if the function may use it
meant : (m : Meaning) (σ : State) (h : HeapOf UnpackedIndex) (b : Bool) → EachHeap (IsTypeIndex m.«module») h
    → IsTrue b ↔ MayUseIn σ (heap_is_shared (heap_map (written_type m.«module») h)) → b ≡ true → heap_meant (here m σ) h ≡ Some (heap_map (written_type m.«module») h)
meant m σ (abstract s a) b w j e = ap (λ (c : Bool). if c then Some (abstract s a) else None) (may (here m σ) s (j.0 e))
meant m σ (concrete i) b w j e = ap (λ (o : Option TypeTree). option_map (λ t. concrete t) o) (index_found m σ i b w j e)
meant m σ (exact i) b w j e = ap (λ (o : Option TypeTree). option_map (λ t. exact t) o) (index_found m σ i b w j e)

not_meant : (m : Meaning) (σ : State) (h : HeapOf UnpackedIndex) (b : Bool) → EachHeap (IsTypeIndex m.«module») h
    → IsTrue b ↔ MayUseIn σ (heap_is_shared (heap_map (written_type m.«module») h)) → b ≡ false → heap_meant (here m σ) h ≡ None
not_meant m σ (abstract s a) b w j e = ap (λ (c : Bool). if c then Some (abstract s a) else None) (may_not (here m σ) s (fails b j e))
not_meant m σ (concrete i) b w j e = ap (λ (o : Option TypeTree). option_map (λ t. concrete t) o) (index_unused m σ i b w j e)
not_meant m σ (exact i) b w j e = ap (λ (o : Option TypeTree). option_map (λ t. exact t) o) (index_unused m σ i b w j e)

unknown_meant : (m : Meaning) (σ : State) (h : HeapOf UnpackedIndex) → (EachHeap (IsTypeIndex m.«module») h → ⊥) → heap_meant (here m σ) h ≡ None
unknown_meant m σ (abstract s a) w = absurd (w tt)
unknown_meant m σ (concrete i) w = ap (λ (o : Option TypeTree). option_map (λ t. concrete t) o) (index_unknown m σ i w)
unknown_meant m σ (exact i) w = ap (λ (o : Option TypeTree). option_map (λ t. exact t) o) (index_unknown m σ i w)

-- the sharedness of what was named
shared_as : (m : Meaning) (σ : State) (w n : HeapType) (r : Reference) (k : Bool) (s b : Bool) → IsNamed m w n → r ≡ record { nullable = k; heap = n }
    → s ≡ heap_is_shared (heap_in m r.heap) → IsTrue b ↔ MayUseIn σ s → IsTrue b ↔ MayUseIn σ (heap_is_shared (heap_map (written_type m.«module») (heap_of w)))
shared_as m σ w n r k s b i e f j =
    subst (λ (c : Bool). IsTrue b ↔ MayUseIn σ c) (f ∙ ap (λ (v : Reference). heap_is_shared (heap_in m v.heap)) e ∙ ap heap_is_shared i.same) j

pub heap_found : (m : Meaning) (σ : State) (w n : HeapType) (r : Reference) (k : Bool) (s b : Bool) → IsWritten m w → IsNamed m w n → r ≡ record { nullable = k; heap = n }
    → s ≡ heap_is_shared (heap_in m r.heap) → IsTrue b ↔ MayUseIn σ s → b ≡ true
    → (r.nullable ≡ k) × (heap_named (here m σ) w ≡ Some (heap_in m r.heap))
heap_found m σ w n r k s b v i e f j t = (
  ap (λ (x : Reference). x.nullable) e,
  meant m σ (heap_of w) b v (shared_as m σ w n r k s b i e f j) t ∙ ap (λ (h : HeapOf TypeTree). Some h) (sym (ap (λ (x : Reference). heap_in m x.heap) e ∙ i.same)),
)

pub heap_unused : (m : Meaning) (σ : State) (w n : HeapType) (r : Reference) (k : Bool) (s b : Bool) → IsWritten m w → IsNamed m w n → r ≡ record { nullable = k; heap = n }
    → s ≡ heap_is_shared (heap_in m r.heap) → IsTrue b ↔ MayUseIn σ s → b ≡ false → heap_named (here m σ) w ≡ None
heap_unused m σ w n r k s b v i e f j t = not_meant m σ (heap_of w) b v (shared_as m σ w n r k s b i e f j) t

denied : (k : ErrorKind) (P : Type 0) → k ≡ kinds.Other → Denies k P → P → ⊥
denied k P e d = (rw e at d)

pub heap_unknown : (m : Meaning) (σ : State) (w : HeapType) (k : ErrorKind) → k ≡ kinds.Other → Denies k (IsWritten m w) → heap_named (here m σ) w ≡ None
heap_unknown m σ w k e d = unknown_meant m σ (heap_of w) (denied k (IsWritten m w) e d)
