-- What `==` of types promises: that their plain trees are equal.
use Rattle.std.proofs.Common.{◌≡◌, ◌∙◌, Bool, true, false, ◌&&◌, List, [], ◌∷◌, refl, ap, sym, map, Option, Some, None}
use mathlib.Core.Bool.{beq}
use lib.Pointwise.{pointwise}
use Rattle.std.specs.Option.{option_eq, option_map}
use Rattle.wasm_types_values.specs.types_trees.declared.index.UnpackedIndex.{UnpackedIndex}
use Rattle.wasm_types_values.specs.types_trees.IndicesLaws.{packed-equality}
use Rattle.wasm_types_values.specs.types_trees.contracts.packed.PackedIndexPartialEq.TheImpl as index
use Rattle.wasm_types_values.specs.declared.heap.AbstractHeapType.{AbstractHeapType}
use Rattle.wasm_types_values.specs.declared.heap.AbstractHeapType.TheVariants as heap
use Rattle.wasm_types_values.specs.declared.heap.HeapType.{HeapType}
use Rattle.wasm_types_values.specs.declared.heap.HeapType.TheVariants.{Abstract as AbstractType, Concrete, Exact}
use Rattle.wasm_types_values.specs.declared.value.ValType.{ValType}
use Rattle.wasm_types_values.specs.declared.value.ValType.TheVariants.{I32, I64, F32, F64, V128, Ref}
use Rattle.wasm_types_values.specs.declared.value.StorageType.{StorageType}
use Rattle.wasm_types_values.specs.declared.value.StorageType.TheVariants.{I8, I16, Val}
use Rattle.wasm_types_values.specs.contracts.value.ValTypePartialEq.TheImpl as value_type
use Rattle.wasm_types_values.specs.contracts.value.StorageTypePartialEq.TheImpl as storage_type
use Rattle.wasm_types_values.specs.Trees.{abstract_of, heap_of}
use Rattle.wasm_types_values.specs.Values.{value_of, storage_of}
use Rattle.wasm_types_values.specs.Laws.{ValueEqualityIsIdentity, StorageEqualityIsIdentity}
use Rattle.wasm_types_values.specs.types_trees.Types as tree
use Rattle.wasm_types_values.specs.types_trees.Types.{Abstract, HeapOf, ValueOf, StorageOf}

-- ---- trees give types back

type_from : Abstract → AbstractHeapType
type_from tree.func = heap.Func
type_from tree.extern = heap.Extern
type_from tree.any = heap.Any
type_from tree.none = heap.None
type_from tree.noextern = heap.NoExtern
type_from tree.nofunc = heap.NoFunc
type_from tree.eq = heap.Eq
type_from tree.struct = heap.Struct
type_from tree.array = heap.Array
type_from tree.i31 = heap.I31
type_from tree.exn = heap.Exn
type_from tree.noexn = heap.NoExn
type_from tree.cont = heap.Cont
type_from tree.nocont = heap.NoCont

type_back : (a : AbstractHeapType) → type_from (abstract_of a) ≡ a
unfolding type_from
type_back heap.Func = refl
type_back heap.Extern = refl
type_back heap.Any = refl
type_back heap.None = refl
type_back heap.NoExtern = refl
type_back heap.NoFunc = refl
type_back heap.Eq = refl
type_back heap.Struct = refl
type_back heap.Array = refl
type_back heap.I31 = refl
type_back heap.Exn = refl
type_back heap.NoExn = refl
type_back heap.Cont = refl
type_back heap.NoCont = refl

heap_from : HeapOf UnpackedIndex → HeapType
heap_from (tree.abstract s a) = AbstractType s (type_from a)
heap_from (tree.concrete i) = Concrete i
heap_from (tree.exact i) = Exact i

heap_back : (h : HeapType) → heap_from (heap_of h) ≡ h
unfolding heap_from
heap_back (AbstractType s a) = ap (AbstractType s) (type_back a)
heap_back (Concrete i) = refl
heap_back (Exact i) = refl

value_from : ValueOf UnpackedIndex → ValType
value_from (tree.number tree.i32) = I32
value_from (tree.number tree.i64) = I64
value_from (tree.number tree.f32) = F32
value_from (tree.number tree.f64) = F64
value_from (tree.number tree.v128) = V128
value_from (tree.ref n h) = Ref (record { nullable = n; heap = heap_from h })

value_back : (v : ValType) → value_from (value_of v) ≡ v
unfolding value_from
value_back I32 = refl
value_back I64 = refl
value_back F32 = refl
value_back F64 = refl
value_back V128 = refl
value_back (Ref r) = ap (λ (h : HeapType). Ref (record { nullable = r.nullable; heap = h })) (heap_back r.heap)

storage_from : StorageOf UnpackedIndex → StorageType
storage_from tree.i8 = I8
storage_from tree.i16 = I16
storage_from (tree.value v) = Val (value_from v)

storage_back : (s : StorageType) → storage_from (storage_of s) ≡ s
unfolding storage_from
storage_back I8 = refl
storage_back I16 = refl
storage_back (Val v) = ap Val (value_back v)

pub value_inj : (v w : ValType) → value_of v ≡ value_of w → v ≡ w
value_inj v w e = sym (value_back v) ∙ ap value_from e ∙ value_back w

pub storage_inj : (s t : StorageType) → storage_of s ≡ storage_of t → s ≡ t
storage_inj s t e = sym (storage_back s) ∙ ap storage_from e ∙ storage_back t

-- ---- tests and what they tell

-- a test is true exactly where two views are equal
pub record Tells {A B : Type 0} (test : A → A → Bool) (view : A → B) : Type 0 where
  pub sound : (x y : A) → test x y ≡ true → view x ≡ view y
  pub complete : (x y : A) → view x ≡ view y → test x y ≡ true

pub first : (s t : Bool) → (s && t) ≡ true → s ≡ true
first true t h = refl
first false t h = h

pub second : (s t : Bool) → (s && t) ≡ true → t ≡ true
second true t h = h
second false t h = cc

pub both : (s t : Bool) → s ≡ true → t ≡ true → (s && t) ≡ true
both s t g h = cc

-- lists, place by place
module _ {A B : Type 0} {test : A → A → Bool} {view : A → B} (tells : Tells test view) where
  lists_sound : (xs ys : List A) → pointwise test xs ys ≡ true → map view xs ≡ map view ys
  lists_sound [] [] h = refl
  lists_sound [] (y ∷ ys) h = cc
  lists_sound (x ∷ xs) [] h = cc
  lists_sound (x ∷ xs) (y ∷ ys) h =
      let e = tells.sound x y (first (test x y) (pointwise test xs ys) h) in
      let f = lists_sound xs ys (second (test x y) (pointwise test xs ys) h) in
      cc

  lists_complete : (xs ys : List A) → map view xs ≡ map view ys → pointwise test xs ys ≡ true
  lists_complete [] [] h = refl
  lists_complete [] (y ∷ ys) h = cc
  lists_complete (x ∷ xs) [] h = cc
  lists_complete (x ∷ xs) (y ∷ ys) h =
      both (test x y) (pointwise test xs ys) (tells.complete x y cc) (lists_complete xs ys cc)

  pub lists : Tells (pointwise test) (map view)
  lists = record { sound = lists_sound; complete = lists_complete }

  options_sound : (x y : Option A) → option_eq test x y ≡ true → option_map view x ≡ option_map view y
  options_sound None None h = refl
  options_sound None (Some b) h = cc
  options_sound (Some a) None h = cc
  options_sound (Some a) (Some b) h = ap Some (tells.sound a b h)

  options_complete : (x y : Option A) → option_map view x ≡ option_map view y → option_eq test x y ≡ true
  options_complete None None h = refl
  options_complete None (Some b) h = cc
  options_complete (Some a) None h = cc
  options_complete (Some a) (Some b) h = tells.complete a b cc

  pub options : Tells (option_eq test) (option_map view)
  options = record { sound = options_sound; complete = options_complete }

pub map_id : {A : Type 0} (xs : List A) → map (λ x. x) xs ≡ xs
map_id [] = refl
map_id (x ∷ xs) = ap (λ ys. x ∷ ys) (map_id xs)

pub option_id : {A : Type 0} (o : Option A) → option_map (λ x. x) o ≡ o
option_id None = refl
option_id (Some x) = refl

pub flags : Tells beq (λ b. b)
flags = record { sound = flag_sound; complete = flag_complete }
  where
    flag_sound : (x y : Bool) → beq x y ≡ true → x ≡ y
    flag_sound true true h = refl
    flag_sound true false h = cc
    flag_sound false true h = cc
    flag_sound false false h = refl

    flag_complete : (x y : Bool) → x ≡ y → beq x y ≡ true
    flag_complete true true h = refl
    flag_complete true false h = cc
    flag_complete false true h = cc
    flag_complete false false h = refl

-- ---- indices, values and storage types

pub indices : Tells index.ghosts.eq (λ i. i)
indices = record { sound = λ x y h. (packed-equality x y).0 h; complete = λ x y e. (packed-equality x y).1 e }

pub values : ValueEqualityIsIdentity → Tells value_type.ghosts.eq value_of
values same = record { sound = λ x y h. ap value_of ((same x y).0 h); complete = λ x y e. (same x y).1 (value_inj x y e) }

pub storages : StorageEqualityIsIdentity → Tells storage_type.ghosts.eq storage_of
storages same = record { sound = λ x y h. ap storage_of ((same x y).0 h); complete = λ x y e. (same x y).1 (storage_inj x y e) }
