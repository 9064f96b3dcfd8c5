-- Laws: each tree that bytes spell is declared by a value, and so is read.
use Rattle.std.proofs.Common.{◌≡◌, ℕ, zero, suc, List, [], ◌∷◌, refl, sym, ap, map, Bool, true, false, inl, inr, ◌∙◌, length}
use Rattle.wasm_types_decoding.specs.Decoder.{Many}
use Rattle.wasm_types_settings.specs.Settings.{Settings}
use Rattle.wasm_types_trees.specs.declared.index.UnpackedIndex.{UnpackedIndex}
use Rattle.wasm_types_trees.specs.Types as tree
use Rattle.wasm_types_trees.specs.Types.{Abstract, HeapOf, ValueOf, StorageOf, FieldOf, InnerOf}
use Rattle.wasm_types_values.specs.declared.heap.AbstractHeapType.{AbstractHeapType}
use Rattle.wasm_types_values.specs.declared.heap.AbstractHeapType.TheVariants as heap
use Rattle.wasm_types_values.specs.declared.heap.HeapType.{HeapType}
use Rattle.wasm_types_values.specs.declared.heap.HeapType.TheVariants as heap_type
use Rattle.wasm_types_values.specs.declared.value.ValType.{ValType}
use Rattle.wasm_types_values.specs.declared.value.ValType.TheVariants.{I32, I64, F32, F64, V128, Ref}
use Rattle.wasm_types_values.specs.declared.value.StorageType.{StorageType}
use Rattle.wasm_types_values.specs.declared.value.StorageType.TheVariants.{I8, I16, Val}
use Rattle.wasm_types_values.specs.Trees.{abstract_of, heap_of}
use Rattle.wasm_types_values.specs.Values.{value_of, storage_of}
use Rattle.wasm_types_fields.specs.declared.field.FieldType.{FieldType}
use Rattle.wasm_types_fields.specs.Fields.{field_of}
use Rattle.wasm_types.specs.Entries.{first_of, Declared}
use Rattle.wasm_types.specs.SpellsTypes.{InnerValue, SubValue, GroupValue, function, array_of, struct_of, continuation, inner_tree, declared_by}
use Rattle.wasm_types.specs.Spells.{SpellsSub, SpellsGroup}

-- ---- the value of a tree

abbrev abstract_from : Abstract → AbstractHeapType
abstract_from tree.func = heap.Func
abstract_from tree.extern = heap.Extern
abstract_from tree.any = heap.Any
abstract_from tree.none = heap.None
abstract_from tree.noextern = heap.NoExtern
abstract_from tree.nofunc = heap.NoFunc
abstract_from tree.eq = heap.Eq
abstract_from tree.struct = heap.Struct
abstract_from tree.array = heap.Array
abstract_from tree.i31 = heap.I31
abstract_from tree.exn = heap.Exn
abstract_from tree.noexn = heap.NoExn
abstract_from tree.cont = heap.Cont
abstract_from tree.nocont = heap.NoCont

same_abstract : (a : Abstract) → abstract_of (abstract_from a) ≡ a
same_abstract tree.func = refl
same_abstract tree.extern = refl
same_abstract tree.any = refl
same_abstract tree.none = refl
same_abstract tree.noextern = refl
same_abstract tree.nofunc = refl
same_abstract tree.eq = refl
same_abstract tree.struct = refl
same_abstract tree.array = refl
same_abstract tree.i31 = refl
same_abstract tree.exn = refl
same_abstract tree.noexn = refl
same_abstract tree.cont = refl
same_abstract tree.nocont = refl

abbrev heap_from : HeapOf UnpackedIndex → HeapType
heap_from (tree.abstract s a) = heap_type.Abstract s (abstract_from a)
heap_from (tree.concrete i) = heap_type.Concrete i
heap_from (tree.exact i) = heap_type.Exact i

same_heap : (h : HeapOf UnpackedIndex) → heap_of (heap_from h) ≡ h
same_heap (tree.abstract s a) = ap (λ (b : Abstract). tree.abstract s b) (same_abstract a)
same_heap (tree.concrete i) = refl
same_heap (tree.exact i) = refl

abbrev value_from : ValueOf UnpackedIndex → ValType
value_from (tree.number tree.i32) = I32
value_from (tree.number tree.i64) = I64
value_from (tree.number tree.f32) = F32
value_from (tree.number tree.f64) = F64
value_from (tree.number tree.v128) = V128
value_from (tree.ref b h) = Ref (record { nullable = b; heap = heap_from h })

same_value : (v : ValueOf UnpackedIndex) → value_of (value_from v) ≡ v
same_value (tree.number tree.i32) = refl
same_value (tree.number tree.i64) = refl
same_value (tree.number tree.f32) = refl
same_value (tree.number tree.f64) = refl
same_value (tree.number tree.v128) = refl
same_value (tree.ref b h) = ap (λ (k : HeapOf UnpackedIndex). tree.ref b k) (same_heap h)

abbrev storage_from : StorageOf UnpackedIndex → StorageType
storage_from tree.i8 = I8
storage_from tree.i16 = I16
storage_from (tree.value v) = Val (value_from v)

same_storage : (x : StorageOf UnpackedIndex) → storage_of (storage_from x) ≡ x
same_storage tree.i8 = refl
same_storage tree.i16 = refl
same_storage (tree.value v) = ap (λ (w : ValueOf UnpackedIndex). tree.value w) (same_value v)

abbrev field_from : FieldOf UnpackedIndex → FieldType
field_from x = record { element_type = storage_from x.storage; mutable = x.mutable }

same_field : (x : FieldOf UnpackedIndex) → field_of (field_from x) ≡ x
same_field x = ap (λ (s : StorageOf UnpackedIndex). record { storage = s; mutable = x.mutable }) (same_storage x.storage)

map_back : {A B : Type 0} (f : A → B) (g : B → A) → ((y : B) → f (g y) ≡ y) → (ys : List B) → map f (map g ys) ≡ ys
map_back f g h [] = refl
map_back f g h (y ∷ ys) = let first = h y in let rest = map_back f g h ys in cc

abbrev inner_from : InnerOf UnpackedIndex → InnerValue
inner_from (tree.function ps rs) = function (record { params = map value_from ps; results = map value_from rs })
inner_from (tree.array_of x) = array_of (field_from x)
inner_from (tree.struct_of xs) = struct_of (map field_from xs)
inner_from (tree.continuation i) = continuation i

same_inner : (x : InnerOf UnpackedIndex) → inner_tree (inner_from x) ≡ x
same_inner (tree.function ps rs) = let a = map_back value_of value_from same_value ps in let b = map_back value_of value_from same_value rs in cc
same_inner (tree.array_of x) = ap (λ (y : FieldOf UnpackedIndex). tree.array_of y) (same_field x)
same_inner (tree.struct_of xs) = ap (λ (ys : List (FieldOf UnpackedIndex)). tree.struct_of ys) (map_back field_of field_from same_field xs)
same_inner (tree.continuation i) = refl

-- ---- subtypes and groups

abbrev IsDeclared : Declared → Type 0
IsDeclared d = (x : SubValue) × (declared_by x ≡ d)

declared : (d : Declared) → d.entry.supertype ≡ first_of d.supertypes → IsDeclared d
declared d e =
    let x : SubValue = record {
      is_final = d.entry.is_final;
      supertypes = d.supertypes;
      composite = record { inner = inner_from d.entry.inner; shared = d.entry.shared; descriptor = d.entry.descriptor; describes = d.entry.describes };
    } in (
      x,
      (λ i. record {
        supertypes = d.supertypes;
        entry = record {
          is_final = d.entry.is_final;
          supertype = sym e i;
          shared = d.entry.shared;
          descriptor = d.entry.descriptor;
          describes =
              d.entry.describes;
          inner = same_inner d.entry.inner i;
        };
      }),
    )

module _ (settings : Settings) where
  sub_read : (d : Declared) (text : List ℕ) → SpellsSub settings d text → IsDeclared d
  sub_read d text (inl h) = declared d (h.none ∙ sym (ap first_of h.alone))
  sub_read d text (inr h) = declared d h.first

  list_read : (n : ℕ) (ds : List Declared) (text : List ℕ) → Many (SpellsSub settings) n ds text → (xs : List SubValue) × (map declared_by xs ≡ ds)
  list_read zero [] text m = ([], refl)
  list_read zero (d ∷ ds) text m = absurd m
  list_read (suc n) [] text m = absurd m
  list_read (suc n) (d ∷ ds) text m =
      let first = sub_read d m.0 m.2 in
      let rest = list_read n ds m.1 m.3 in
      (first.0 ∷ rest.0, (let a = first.1 in let b = rest.1 in cc))

  pub group_read : (b : Bool) (ds : List Declared) (text : List ℕ) → SpellsGroup settings b ds text → (g : GroupValue) × (g.is_explicit ≡ b) × (map declared_by g.types ≡ ds)
  group_read false ds text h =
      let one = sub_read h.0 text h.2 in
      (record { is_explicit = false; types = one.0 ∷ [] }, refl, (let a = one.1 in let b = h.1 in cc))
  group_read true ds text h =
      let all = list_read (length ds) ds h.2.listed.values h.2.listed.each in
      (record { is_explicit = true; types = all.0 }, refl, all.1)
