-- What holds of each index of a type, put together from two facts and taken back through a map.
use Rattle.std.proofs.Common.{◌≤◌, List, [], ◌∷◌, length, map, Option, Some, None, arith}
use Rattle.std.specs.Option.{option_map}
use Rattle.wasm_types.specs.trees.declared.index.UnpackedIndex.{UnpackedIndex}
use Rattle.wasm_types.specs.trees.Types.{HeapOf, abstract, concrete, exact, ValueOf, number, ref, StorageOf, i8, i16, value, FieldOf, InnerOf}
use Rattle.wasm_types.specs.trees.Types.{function, array_of, struct_of, continuation, EntryOf, heap_map, value_map, storage_map, field_map, inner_map, entry_map}
use Rattle.wasm_types.specs.trees.Each.{EachOption, EachHeap, EachValue, EachStorage, EachValues, EachFields, EachInner, EachEntry}
use Rattle.wasm_types.specs.Entries.{first_of}
use Rattle.wasm_module_validator_canonical_types.specs.Canonical.{EachIn}

-- ---- two facts

module _ {R : Type 0} (P Q S : R → Type 0) (then : (r : R) → P r → Q r → S r) where
  pub both_option : (o : Option R) → EachOption P o → EachOption Q o → EachOption S o
  both_option None v w = tt
  both_option (Some r) v w = then r v w

  both_heap : (h : HeapOf R) → EachHeap P h → EachHeap Q h → EachHeap S h
  both_heap (abstract s a) v w = tt
  both_heap (concrete r) v w = then r v w
  both_heap (exact r) v w = then r v w

  both_value : (x : ValueOf R) → EachValue P x → EachValue Q x → EachValue S x
  both_value (number n) v w = tt
  both_value (ref n h) v w = both_heap h v w

  both_storage : (x : StorageOf R) → EachStorage P x → EachStorage Q x → EachStorage S x
  both_storage i8 v w = tt
  both_storage i16 v w = tt
  both_storage (value x) v w = both_value x v w

  both_values : (xs : List (ValueOf R)) → EachValues P xs → EachValues Q xs → EachValues S xs
  both_values [] v w = tt
  both_values (x ∷ xs) v w = (both_value x v.0 w.0, both_values xs v.1 w.1)

  both_fields : (xs : List (FieldOf R)) → EachFields P xs → EachFields Q xs → EachFields S xs
  both_fields [] v w = tt
  both_fields (x ∷ xs) v w = (both_storage x.storage v.0 w.0, both_fields xs v.1 w.1)

  both_inner : (x : InnerOf R) → EachInner P x → EachInner Q x → EachInner S x
  both_inner (function ps rs) v w = (both_values ps v.0 w.0, both_values rs v.1 w.1)
  both_inner (array_of x) v w = both_storage x.storage v w
  both_inner (struct_of xs) v w = both_fields xs v w
  both_inner (continuation r) v w = then r v w

  pub both_entry : (x : EntryOf R) → EachEntry P x → EachEntry Q x → EachEntry S x
  both_entry x v w = record {
    supertype = both_option x.supertype v.supertype w.supertype;
    descriptor = both_option x.descriptor v.descriptor w.descriptor;
    describes = both_option x.describes v.describes w.describes;
    inner = both_inner x.inner v.inner w.inner;
  }

-- ---- back through a map

module _ {R S : Type 0} (f : R → S) (P : S → Type 0) where
  pub back_option : (o : Option R) → EachOption P (option_map f o) → EachOption (λ r. P (f r)) o
  back_option None w = tt
  back_option (Some r) w = w

  back_heap : (x : HeapOf R) → EachHeap P (heap_map f x) → EachHeap (λ r. P (f r)) x
  back_heap (abstract s a) w = tt
  back_heap (concrete r) w = w
  back_heap (exact r) w = w

  back_value : (v : ValueOf R) → EachValue P (value_map f v) → EachValue (λ r. P (f r)) v
  back_value (number n) w = tt
  back_value (ref n x) w = back_heap x w

  back_values : (vs : List (ValueOf R)) → EachValues P (map (value_map f) vs) → EachValues (λ r. P (f r)) vs
  back_values [] w = tt
  back_values (v ∷ vs) w = (back_value v w.0, back_values vs w.1)

  back_storage : (s : StorageOf R) → EachStorage P (storage_map f s) → EachStorage (λ r. P (f r)) s
  back_storage i8 w = tt
  back_storage i16 w = tt
  back_storage (value v) w = back_value v w

  back_fields : (xs : List (FieldOf R)) → EachFields P (map (field_map f) xs) → EachFields (λ r. P (f r)) xs
  back_fields [] w = tt
  back_fields (x ∷ xs) w = (back_storage x.storage w.0, back_fields xs w.1)

  back_inner : (x : InnerOf R) → EachInner P (inner_map f x) → EachInner (λ r. P (f r)) x
  back_inner (function ps rs) w = (back_values ps w.0, back_values rs w.1)
  back_inner (array_of x) w = back_storage x.storage w
  back_inner (struct_of xs) w = back_fields xs w
  back_inner (continuation r) w = w

  pub back_entry : (x : EntryOf R) → EachEntry P (entry_map f x) → EachEntry (λ r. P (f r)) x
  back_entry x w = record {
    supertype = back_option x.supertype w.supertype;
    descriptor = back_option x.descriptor w.descriptor;
    describes = back_option x.describes w.describes;
    inner = back_inner x.inner w.inner;
  }

-- ---- lists of one index at most

module _ (P : UnpackedIndex → Type 0) where
  pub first_each : (is : List UnpackedIndex) → EachIn P is → EachOption P (first_of is)
  first_each [] w = tt
  first_each (i ∷ is) w = w.0

  pub each_first : (is : List UnpackedIndex) → length is ≤ 1 → EachOption P (first_of is) → EachIn P is
  each_first [] le w = tt
  each_first (i ∷ []) le w = (w, tt)
  each_first (i ∷ j ∷ is) le w = absurd (omega arith)
