-- Laws: a subtype is determined by its shape and its indices in order. Where it has the shape of another and the other's
-- indices, each mapped, it is the other subtype, mapped.
use Rattle.std.proofs.Common.{◌≡◌, suc, List, [], ◌∷◌, ◌++◌, refl, sym, ap, ◌∙◌, length, map, Bool, Option, Some, None}
use Rattle.std.specs.List.{flat_map}
use Rattle.std.specs.Option.{option_map}
use Rattle.std.proofs.lemmas.List.{length-append}
use Rattle.wasm_types_trees.specs.Types as tree
use Rattle.wasm_types_trees.specs.Types.{HeapOf, ValueOf, StorageOf, FieldOf, InnerOf, EntryOf, heap_map, value_map, storage_map, field_map, inner_map, entry_map}
use Rattle.wasm_types_values.specs.Remap.{heap_indices, value_indices, storage_indices, value_shape, storage_shape}
use Rattle.wasm_types_fields.specs.Remap.{field_indices, field_shape, inner_indices, inner_shape}
use Rattle.wasm_types.specs.Entries.{first_of, DeclaredOf, declared_with}
use Rattle.wasm_types.specs.Remap.{option_indices, entry_indices, list_shape, declared_indices, declared_shape, declared_map}

-- ---- lists

-- parts of the same length
parted : {R : Type 0} (xs bs cs ds : List R) → length xs ≡ length bs → xs ++ cs ≡ bs ++ ds → (xs ≡ bs) × (cs ≡ ds)
parted [] [] cs ds l e = (refl, e)
parted [] (b ∷ bs) cs ds l e = absurd cc
parted (a ∷ xs) [] cs ds l e = absurd cc
parted (a ∷ xs) (b ∷ bs) cs ds l e =
    let k : length xs ≡ length bs = cc in
    let f : xs ++ cs ≡ bs ++ ds = cc in
    let rest = parted xs bs cs ds k f in
    ((let h = rest.0 in cc), rest.1)

map_append : {R S : Type 0} (m : R → S) (xs bs : List R) → map m (xs ++ bs) ≡ map m xs ++ map m bs
map_append m [] bs = refl
map_append m (a ∷ xs) bs = ap (λ (cs : List _). m a ∷ cs) (map_append m xs bs)

length_map : {R S : Type 0} (m : R → S) (xs : List R) → length (map m xs) ≡ length xs
length_map m [] = refl
length_map m (a ∷ xs) = ap suc (length_map m xs)

-- two parts, of which the first has xs many indices xs that which it was
halves : {R S : Type 0} (m : R → S) (xs bs : List R) (cs ds : List S) → length cs ≡ length xs → cs ++ ds ≡ map m (xs ++ bs) → (cs ≡ map m xs) × (ds ≡ map m bs)
halves m xs bs cs ds l e = parted cs (map m xs) ds (map m bs) (l ∙ sym (length_map m xs)) (e ∙ map_append m xs bs)

both_lengths : {R S : Type 0} (xs bs : List R) (cs ds : List S) → length cs ≡ length xs → length ds ≡ length bs → length (cs ++ ds) ≡ length (xs ++ bs)
both_lengths xs bs cs ds h k = length-append cs ds ∙ (let p = h in let q = k in cc) ∙ sym (length-append xs bs)

module _ {R S : Type 0} (m : R → S) where
  module _ {X Y Z : Type 0} (f : X → Y) (shape : X → Z) (shape' : Y → Z) (indices : X → List R) (indices' : Y → List S)
      (count : (x : X) (y : Y) → shape' y ≡ shape x → length (indices' y) ≡ length (indices x))
      (mapped : (x : X) (y : Y) → shape' y ≡ shape x → indices' y ≡ map m (indices x) → y ≡ f x) where
    count_list : (xs : List X) (ys : List Y) → map shape' ys ≡ map shape xs → length (flat_map indices' ys) ≡ length (flat_map indices xs)
    count_list [] [] s = refl
    count_list [] (y ∷ ys) s = absurd cc
    count_list (x ∷ xs) [] s = absurd cc
    count_list (x ∷ xs) (y ∷ ys) s = both_lengths (indices x) (flat_map indices xs) (indices' y) (flat_map indices' ys) (count x y cc) (count_list xs ys cc)

    mapped_list : (xs : List X) (ys : List Y) → map shape' ys ≡ map shape xs → flat_map indices' ys ≡ map m (flat_map indices xs) → ys ≡ map f xs
    mapped_list [] [] s e = refl
    mapped_list [] (y ∷ ys) s e = absurd cc
    mapped_list (x ∷ xs) [] s e = absurd cc
    mapped_list (x ∷ xs) (y ∷ ys) s e =
        let s1 : shape' y ≡ shape x = cc in
        let s2 : map shape' ys ≡ map shape xs = cc in
        let parts = halves m (indices x) (flat_map indices xs) (indices' y) (flat_map indices' ys) (count x y s1) e in
        let first = mapped x y s1 parts.0 in
        let rest = mapped_list xs ys s2 parts.1 in
        cc

  -- ---- heap types to fields

  abbrev SameHeap : HeapOf R → HeapOf S → Type 0
  SameHeap h k = heap_map (λ i. tt {0}) k ≡ heap_map (λ i. tt {0}) h

  count_heap : (h : HeapOf R) (k : HeapOf S) → SameHeap h k → length (heap_indices k) ≡ length (heap_indices h)
  count_heap (tree.abstract s a) (tree.abstract t b) e = refl
  count_heap (tree.abstract s a) (tree.concrete j) e = absurd cc
  count_heap (tree.abstract s a) (tree.exact j) e = absurd cc
  count_heap (tree.concrete i) (tree.abstract t b) e = absurd cc
  count_heap (tree.concrete i) (tree.concrete j) e = refl
  count_heap (tree.concrete i) (tree.exact j) e = refl
  count_heap (tree.exact i) (tree.abstract t b) e = absurd cc
  count_heap (tree.exact i) (tree.concrete j) e = refl
  count_heap (tree.exact i) (tree.exact j) e = refl

  mapped_heap : (h : HeapOf R) (k : HeapOf S) → SameHeap h k → heap_indices k ≡ map m (heap_indices h) → k ≡ heap_map m h
  mapped_heap (tree.abstract s a) (tree.abstract t b) e f = cc
  mapped_heap (tree.abstract s a) (tree.concrete j) e f = absurd cc
  mapped_heap (tree.abstract s a) (tree.exact j) e f = absurd cc
  mapped_heap (tree.concrete i) (tree.abstract t b) e f = absurd cc
  mapped_heap (tree.concrete i) (tree.concrete j) e f = cc
  mapped_heap (tree.concrete i) (tree.exact j) e f = absurd cc
  mapped_heap (tree.exact i) (tree.abstract t b) e f = absurd cc
  mapped_heap (tree.exact i) (tree.concrete j) e f = absurd cc
  mapped_heap (tree.exact i) (tree.exact j) e f = cc

  count_value : (v : ValueOf R) (w : ValueOf S) → value_shape w ≡ value_shape v → length (value_indices w) ≡ length (value_indices v)
  count_value (tree.number a) (tree.number b) e = refl
  count_value (tree.number a) (tree.ref b h) e = absurd cc
  count_value (tree.ref b h) (tree.number a) e = absurd cc
  count_value (tree.ref b h) (tree.ref c k) e = count_heap h k cc

  mapped_value : (v : ValueOf R) (w : ValueOf S) → value_shape w ≡ value_shape v → value_indices w ≡ map m (value_indices v) → w ≡ value_map m v
  mapped_value (tree.number a) (tree.number b) e f = cc
  mapped_value (tree.number a) (tree.ref b h) e f = absurd cc
  mapped_value (tree.ref b h) (tree.number a) e f = absurd cc
  mapped_value (tree.ref b h) (tree.ref c k) e f = let s : SameHeap h k = cc in let t = mapped_heap h k s f in cc

  count_storage : (x : StorageOf R) (y : StorageOf S) → storage_shape y ≡ storage_shape x → length (storage_indices y) ≡ length (storage_indices x)
  count_storage tree.i8 tree.i8 e = refl
  count_storage tree.i8 tree.i16 e = refl
  count_storage tree.i8 (tree.value w) e = absurd cc
  count_storage tree.i16 tree.i8 e = refl
  count_storage tree.i16 tree.i16 e = refl
  count_storage tree.i16 (tree.value w) e = absurd cc
  count_storage (tree.value v) tree.i8 e = absurd cc
  count_storage (tree.value v) tree.i16 e = absurd cc
  count_storage (tree.value v) (tree.value w) e = count_value v w cc

  mapped_storage : (x : StorageOf R) (y : StorageOf S) → storage_shape y ≡ storage_shape x → storage_indices y ≡ map m (storage_indices x) → y ≡ storage_map m x
  mapped_storage tree.i8 tree.i8 e f = refl
  mapped_storage tree.i8 tree.i16 e f = absurd cc
  mapped_storage tree.i8 (tree.value w) e f = absurd cc
  mapped_storage tree.i16 tree.i8 e f = absurd cc
  mapped_storage tree.i16 tree.i16 e f = refl
  mapped_storage tree.i16 (tree.value w) e f = absurd cc
  mapped_storage (tree.value v) tree.i8 e f = absurd cc
  mapped_storage (tree.value v) tree.i16 e f = absurd cc
  mapped_storage (tree.value v) (tree.value w) e f = let s : value_shape w ≡ value_shape v = cc in let t = mapped_value v w s f in cc

  count_field : (x : FieldOf R) (y : FieldOf S) → field_shape y ≡ field_shape x → length (field_indices y) ≡ length (field_indices x)
  count_field x y e = count_storage x.storage y.storage (ap (λ (z : FieldOf (Unit {0})). z.storage) e)

  mapped_field : (x : FieldOf R) (y : FieldOf S) → field_shape y ≡ field_shape x → field_indices y ≡ map m (field_indices x) → y ≡ field_map m x
  mapped_field x y e f =
      let s = mapped_storage x.storage y.storage (ap (λ (z : FieldOf (Unit {0})). z.storage) e) f in
      let t = ap (λ (z : FieldOf (Unit {0})). z.mutable) e in
      λ i. record { storage = s i; mutable = t i }

  -- ---- composite types

  count_values : (vs : List (ValueOf R)) (ws : List (ValueOf S)) → map value_shape ws ≡ map value_shape vs → length (flat_map value_indices ws) ≡ length (flat_map value_indices vs)
  count_values = count_list (value_map m) value_shape value_shape value_indices value_indices count_value mapped_value

  mapped_values : (vs : List (ValueOf R)) (ws : List (ValueOf S)) → map value_shape ws ≡ map value_shape vs → flat_map value_indices ws ≡ map m
      (flat_map value_indices vs) → ws ≡ map (value_map m) vs
  mapped_values = mapped_list (value_map m) value_shape value_shape value_indices value_indices count_value mapped_value

  count_fields : (xs : List (FieldOf R)) (ys : List (FieldOf S)) → map field_shape ys ≡ map field_shape xs → length (flat_map field_indices ys) ≡ length (flat_map field_indices xs)
  count_fields = count_list (field_map m) field_shape field_shape field_indices field_indices count_field mapped_field

  mapped_fields : (xs : List (FieldOf R)) (ys : List (FieldOf S)) → map field_shape ys ≡ map field_shape xs → flat_map field_indices ys ≡ map m
      (flat_map field_indices xs) → ys ≡ map (field_map m) xs
  mapped_fields = mapped_list (field_map m) field_shape field_shape field_indices field_indices count_field mapped_field

  count_inner : (x : InnerOf R) (y : InnerOf S) → inner_shape y ≡ inner_shape x → length (inner_indices y) ≡ length (inner_indices x)
  count_inner (tree.function ps rs) (tree.function qs ss) e =
      both_lengths (flat_map value_indices ps) (flat_map value_indices rs) (flat_map value_indices qs) (flat_map value_indices ss) (count_values ps qs cc) (count_values rs ss cc)
  count_inner (tree.function ps rs) (tree.array_of y) e = absurd cc
  count_inner (tree.function ps rs) (tree.struct_of ys) e = absurd cc
  count_inner (tree.function ps rs) (tree.continuation j) e = absurd cc
  count_inner (tree.array_of x) (tree.function qs ss) e = absurd cc
  count_inner (tree.array_of x) (tree.array_of y) e = count_field x y cc
  count_inner (tree.array_of x) (tree.struct_of ys) e = absurd cc
  count_inner (tree.array_of x) (tree.continuation j) e = absurd cc
  count_inner (tree.struct_of xs) (tree.function qs ss) e = absurd cc
  count_inner (tree.struct_of xs) (tree.array_of y) e = absurd cc
  count_inner (tree.struct_of xs) (tree.struct_of ys) e = count_fields xs ys cc
  count_inner (tree.struct_of xs) (tree.continuation j) e = absurd cc
  count_inner (tree.continuation i) (tree.function qs ss) e = absurd cc
  count_inner (tree.continuation i) (tree.array_of y) e = absurd cc
  count_inner (tree.continuation i) (tree.struct_of ys) e = absurd cc
  count_inner (tree.continuation i) (tree.continuation j) e = refl

  mapped_inner : (x : InnerOf R) (y : InnerOf S) → inner_shape y ≡ inner_shape x → inner_indices y ≡ map m (inner_indices x) → y ≡ inner_map m x
  mapped_inner (tree.function ps rs) (tree.function qs ss) e f =
      let s : map value_shape qs ≡ map value_shape ps = cc in
      let t : map value_shape ss ≡ map value_shape rs = cc in
      let parts = halves m (flat_map value_indices ps) (flat_map value_indices rs) (flat_map value_indices qs) (flat_map value_indices ss) (count_values ps qs s) f in
      let a = mapped_values ps qs s parts.0 in
      let b = mapped_values rs ss t parts.1 in
      cc
  mapped_inner (tree.function ps rs) (tree.array_of y) e f = absurd cc
  mapped_inner (tree.function ps rs) (tree.struct_of ys) e f = absurd cc
  mapped_inner (tree.function ps rs) (tree.continuation j) e f = absurd cc
  mapped_inner (tree.array_of x) (tree.function qs ss) e f = absurd cc
  mapped_inner (tree.array_of x) (tree.array_of y) e f = let s : field_shape y ≡ field_shape x = cc in ap (λ (z : FieldOf S). tree.array_of z) (mapped_field x y s f)
  mapped_inner (tree.array_of x) (tree.struct_of ys) e f = absurd cc
  mapped_inner (tree.array_of x) (tree.continuation j) e f = absurd cc
  mapped_inner (tree.struct_of xs) (tree.function qs ss) e f = absurd cc
  mapped_inner (tree.struct_of xs) (tree.array_of y) e f = absurd cc
  mapped_inner (tree.struct_of xs) (tree.struct_of ys) e f = let s : map field_shape ys ≡ map field_shape xs = cc in ap
      (λ (zs : List (FieldOf S)). tree.struct_of zs) (mapped_fields xs ys s f)
  mapped_inner (tree.struct_of xs) (tree.continuation j) e f = absurd cc
  mapped_inner (tree.continuation i) (tree.function qs ss) e f = absurd cc
  mapped_inner (tree.continuation i) (tree.array_of y) e f = absurd cc
  mapped_inner (tree.continuation i) (tree.struct_of ys) e f = absurd cc
  mapped_inner (tree.continuation i) (tree.continuation j) e f = cc

  -- ---- subtypes

  abbrev SameOption : Option R → Option S → Type 0
  SameOption o p = option_map (λ j. tt {0}) p ≡ option_map (λ i. tt {0}) o

  count_option : (o : Option R) (p : Option S) → SameOption o p → length (option_indices p) ≡ length (option_indices o)
  count_option None None e = refl
  count_option None (Some j) e = absurd cc
  count_option (Some i) None e = absurd cc
  count_option (Some i) (Some j) e = refl

  mapped_option : (o : Option R) (p : Option S) → SameOption o p → option_indices p ≡ map m (option_indices o) → p ≡ option_map m o
  mapped_option None None e f = refl
  mapped_option None (Some j) e f = absurd cc
  mapped_option (Some i) None e f = absurd cc
  mapped_option (Some i) (Some j) e f = cc

  first_mapped : (is : List R) → first_of (map m is) ≡ option_map m (first_of is)
  first_mapped [] = refl
  first_mapped (i ∷ is) = refl

  same_lengths : (is : List R) (js : List S) → list_shape js ≡ list_shape is → length js ≡ length is
  same_lengths is js e = sym (length_map (λ j. tt {0}) js) ∙ ap length e ∙ length_map (λ i. tt {0}) is

  pub mapped_declared : (f g : Bool) (is : List R) (js : List S) (c : EntryOf R) (d : EntryOf S) → declared_shape (declared_with g js d) ≡ declared_shape (declared_with f is c)
      → declared_indices (declared_with g js d) ≡ map m (declared_indices (declared_with f is c)) → declared_with g js d ≡ declared_map m (declared_with f is c)
  mapped_declared f g is js c d e h =
      let a : list_shape js ≡ list_shape is = ap (λ (z : DeclaredOf (Unit {0})). z.supertypes) e in
      let final = ap (λ (z : DeclaredOf (Unit {0})). z.entry.is_final) e in
      let shared = ap (λ (z : DeclaredOf (Unit {0})). z.entry.shared) e in
      let s1 = ap (λ (z : DeclaredOf (Unit {0})). z.entry.inner) e in
      let s2 = ap (λ (z : DeclaredOf (Unit {0})). z.entry.descriptor) e in
      let s3 = ap (λ (z : DeclaredOf (Unit {0})). z.entry.describes) e in
      let p0 = halves m is (entry_indices c) js (entry_indices d) (same_lengths is js a) h in
      let p1 = halves m (inner_indices c.inner) (option_indices c.descriptor ++ option_indices c.describes) (inner_indices d.inner)
      (option_indices d.descriptor ++ option_indices d.describes) (count_inner c.inner d.inner s1) p0.1 in
      let p2 = halves m (option_indices c.descriptor) (option_indices c.describes) (option_indices d.descriptor) (option_indices d.describes)
      (count_option c.descriptor d.descriptor s2) p1.1 in
      let supers = p0.0 in
      let first : first_of js ≡ option_map m (first_of is) = ap first_of supers ∙ first_mapped is in
      let inner = mapped_inner c.inner d.inner s1 p1.0 in
      let descriptor = mapped_option c.descriptor d.descriptor s2 p2.0 in
      let describes = mapped_option c.describes d.describes s3 p2.1 in
      λ i. record {
        supertypes = supers i;
        entry = record {
          is_final = final i;
          supertype = first i;
          shared = shared i;
          descriptor = descriptor i;
          describes = describes i;
          inner = inner i;
        };
      }
