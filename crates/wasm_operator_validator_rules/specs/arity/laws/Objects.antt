-- The rows of operators on structs, arrays and references are counted by the table of numbers.
use Rattle.std.proofs.Common.{◌≡◌, ◌+◌, ◌∙◌, ℕ, suc, Bool, true, false, not, List, [], ◌∷◌, ◌++◌, ◌&&◌, length, replicate, Option, Some, None, option_map, option_and_then, slice_get, refl, sym, ap, arith, length-append}
use Rattle.std.proofs.lemmas.List.{length-replicate}
use Rattle.wasm_types.specs.trees.Types.{InnerOf, function, array_of, struct_of, continuation, FieldOf, ref, HeapOf, abstract, eq, any, extern, i31, array}
use Rattle.wasm_types.specs.trees.Trees.{TypeTree}
use Rattle.wasm_types.specs.trees.Below.{expanded}
use Rattle.wasm_types.specs.values.declared.heap.HeapType.{HeapType}
use Rattle.wasm_operators_enums.specs.declared.gc.GcOperator.{GcOperator}
use Rattle.wasm_operators_enums.specs.declared.gc.GcOperator.TheVariants as gc
use Rattle.wasm_operators_enums.specs.Op as op
use Rattle.wasm_operator_validator_rules.specs.Operands.{ValueType, Operand}
use Rattle.wasm_operator_validator_rules.specs.Context.{Context}
use Rattle.wasm_operator_validator_rules.specs.Named.{used_type}
use Rattle.wasm_operator_validator_rules.specs.Aggregates.{as_struct, Struct, Array, struct_named, array_named, heap_named, top_heap, is_castable}
use Rattle.wasm_operator_validator_rules.specs.Places.{unpacked, is_packed, is_of_bytes, has_default, have_defaults, operands_for, Place, field_place, element_place}
use Rattle.wasm_operator_validator_rules.specs.InstructionTypes as types
use Rattle.wasm_operator_validator_rules.specs.InstructionTypes.{InstructionType, ◌⟶◌, provided, named, i32_type, names_data, reference_to, allocated, is_described, element_of, cast_at, struct_at, array_at, gc_type_of}
use Rattle.wasm_operator_validator_rules.specs.Taken.{TableRow}
use Rattle.wasm_operator_validator_rules.specs.Objects.{GcRow, Branches, difference}
use Rattle.wasm_operator_validator_rules.specs.arity.Arity.{Known, Counts, counts_of, keeping, label_of_frame, field_count, struct_size}
use Rattle.wasm_operator_validator_rules.specs.arity.Exchanges.{Standing, IsAround}
use Rattle.wasm_operator_validator_rules.specs.arity.laws.Counting.{takes_counted, table_counted, label_is, Measures, some_measures, provided_measures, named_measures}
use Rattle.wasm_operator_validator_rules.specs.arity.laws.Lookups.{named_is, used_is}

abbrev just : ℕ → ℕ → Option Counts
just n c = Some (n, c)

-- ---- structs by their fields

and_then_is : {A B : Type 0} (o : Option A) (f : A → Option B) (y : B) → option_and_then f o ≡ Some y → (x : A) × (o ≡ Some x) × (f x ≡ Some y)
and_then_is None f y e = absurd cc
and_then_is (Some x) f y e = (x, refl, e)

map_is : {A B : Type 0} (o : Option A) (f : A → B) (y : B) → option_map f o ≡ Some y → (x : A) × (o ≡ Some x) × (f x ≡ y)
map_is None f y e = absurd cc
map_is (Some x) f y e = (x, refl, cc)

struct_is : (i : InnerOf TypeTree) (xs : List (FieldOf TypeTree)) → as_struct i ≡ Some xs → field_count i ≡ Some (length xs)
struct_is (function ps rs) xs e = absurd cc
struct_is (array_of x) xs e = absurd cc
struct_is (struct_of ys) xs e = let h : ys ≡ xs = cc in rw h refl
struct_is (continuation f) xs e = absurd cc

abbrev struct_with : TypeTree → List (FieldOf TypeTree) → Struct
struct_with t xs = record { type = t; fields = xs }

pub struct_counted : (g : Context) (x : ℕ) (s : Struct) → struct_named g x ≡ Some s
    → struct_size (slice_get g.«module».types x) ≡ Some (length s.fields)
struct_counted g x s e =
    let t = and_then_is (used_type g x) (λ u. option_map (struct_with u) (as_struct (expanded u))) s e in
    let xs = map_is (as_struct (expanded t.0)) (struct_with t.0) s t.2 in
    ap struct_size (used_is g x t.0 t.1) ∙ struct_is (expanded t.0) xs.0 xs.1 ∙ ap (λ (y : Struct). Some (length y.fields)) xs.2

pub operands_length : (xs : List (FieldOf TypeTree)) → length (operands_for xs) ≡ length xs
operands_length [] = refl
operands_length (x ∷ xs) = ap (λ n. suc n) (operands_length xs)

-- ---- instruction types of structs, arrays and casts

struct_measures : (g : Context) (x : ℕ) (f : Struct → InstructionType) (b : Struct → Bool) (n c : ℕ) → ((s : Struct) → length (f s).takes ≡ n)
    → ((s : Struct) → length (f s).gives ≡ c) → Measures (struct_at g x (λ s. provided (b s) (f s))) n c
struct_measures g x f b n c h i =
    named_measures (struct_named g x) (λ s. provided (b s) (f s)) n c (λ s. rw (sym (h s), sym (i s)) (provided_measures (b s) (f s)))

array_measures : (g : Context) (x : ℕ) (f : Array → InstructionType) (b : Array → Bool) (n c : ℕ) → ((s : Array) → length (f s).takes ≡ n)
    → ((s : Array) → length (f s).gives ≡ c) → Measures (array_at g x (λ s. provided (b s) (f s))) n c
array_measures g x f b n c h i =
    named_measures (array_named g x) (λ s. provided (b s) (f s)) n c (λ s. rw (sym (h s), sym (i s)) (provided_measures (b s) (f s)))

always_measures : (g : Context) (x : ℕ) (f : Array → InstructionType) (n c : ℕ) → ((s : Array) → length (f s).takes ≡ n)
    → ((s : Array) → length (f s).gives ≡ c) → Measures (array_at g x (λ s. Some (f s))) n c
always_measures g x f n c h i =
    named_measures (array_named g x) (λ s. Some (f s)) n c (λ s. rw (sym (h s), sym (i s)) (some_measures (f s)))

cast_measures : (g : Context) (h : HeapType) (f : HeapOf TypeTree → ValueType) → Measures (cast_at g h f) 1 1
cast_measures g h f =
    named_measures (heap_named g h) (λ k. provided (is_castable k) (ref true (top_heap k) ∷ [] ⟶ f k ∷ [])) 1 1
    (λ k. provided_measures (is_castable k) (ref true (top_heap k) ∷ [] ⟶ f k ∷ []))

-- ---- instruction types of places

-- so many operands reach a place, if it is there
abbrev pub IsReachedBy : Option Place → ℕ → Type 0
IsReachedBy o n = (p : Place) → o ≡ Some p → length p.reached_by ≡ n

mapped : {A : Type 0} (o : Option A) (f : A → Place) (n : ℕ) → ((x : A) → length (f x).reached_by ≡ n) → IsReachedBy (option_map f o) n
mapped None f n h p e = absurd cc
mapped (Some x) f n h p e = let i : f x ≡ p = cc in sym (ap (λ (y : Place). length y.reached_by) i) ∙ h x

pub looked_up : {A : Type 0} (o : Option A) (f : A → Option Place) (n : ℕ) → ((x : A) → IsReachedBy (f x) n) → IsReachedBy (option_and_then f o) n
looked_up None f n h p e = absurd cc
looked_up (Some x) f n h p e = h x p e

pub field_reached : (g : Context) (x i : ℕ) → IsReachedBy (field_place g x i) 1
field_reached g x i = looked_up (struct_named g x) _ 1 (λ s. mapped (slice_get s.fields i) _ 1 (λ y. refl))

pub element_reached : (g : Context) (x : ℕ) → IsReachedBy (element_place g x) 2
element_reached g x = mapped (array_named g x) _ 2 (λ a. refl)

place_measures : (o : Option Place) (f : Place → Option InstructionType) (n m c : ℕ) → IsReachedBy o n
    → ((p : Place) → length p.reached_by ≡ n → Measures (f p) m c) → Measures (named o f) m c
place_measures None f n m c h i t e = absurd cc
place_measures (Some p) f n m c h i t e = i p (h p refl) t e

read_measures : (o : Option Place) (n : ℕ) → IsReachedBy o n → Measures (named o types.read) n 1
read_measures o n h = place_measures o types.read n n 1 h
    (λ p i. rw (sym i) (provided_measures (not (is_packed p.storage)) (p.reached_by ⟶ unpacked p.storage ∷ [])))

packed_measures : (o : Option Place) (n : ℕ) → IsReachedBy o n → Measures (named o types.read_packed) n 1
packed_measures o n h = place_measures o types.read_packed n n 1 h
    (λ p i. rw (sym i) (provided_measures (is_packed p.storage) (p.reached_by ⟶ i32_type ∷ [])))

written_measures : (o : Option Place) (n : ℕ) → IsReachedBy o n → Measures (named o types.written) (n + 1) 0
written_measures o n h = place_measures o types.written n (n + 1) 0 h
    (λ p i.
    let e : length (p.reached_by ++ unpacked p.storage ∷ []) ≡ n + 1 = length-append p.reached_by (unpacked p.storage ∷ []) ∙ ap (λ (k : ℕ). k + 1) i in
    rw (sym e) (provided_measures p.mutable ((p.reached_by ++ unpacked p.storage ∷ []) ⟶ [])))

-- ---- branches on casts

branch_counted : (k : Known) (g : Context) (fs : List Standing) → IsAround k g fs → (l : ℕ) (cast taken left : ValueType) (p q : List Operand)
    → Branches g l cast taken left p q → keeping 0 0 (label_of_frame k l) ≡ Some (length p, length q)
branch_counted k g fs a l cast taken left p q r =
    let ts = r.0 in
    let label = label_is k g fs l (ts ++ r.1.0 ∷ []) a r.1.1 in
    let one : (x : ValueType) → length (ts ++ x ∷ []) ≡ length ts + 1 = λ x. length-append ts (x ∷ []) in
    let takes : length (ts ++ r.1.0 ∷ []) + 0 ≡ length (ts ++ cast ∷ []) = omega (arith, one r.1.0, one cast) in
    let gives : length (ts ++ r.1.0 ∷ []) + 0 ≡ length (ts ++ left ∷ []) = omega (arith, one r.1.0, one left) in
    takes_counted _ (ts ++ cast ∷ []) (ts ++ left ∷ []) p q r.2
    (rw label (ap (λ (x : ℕ). just x (length (ts ++ r.1.0 ∷ []) + 0)) takes ∙ ap (λ (x : ℕ). just (length (ts ++ cast ∷ [])) x) gives))

-- ---- all of them

-- the table of instruction types has these numbers
tabled : (k : Known) (g : Context) (o : GcOperator) (n c : ℕ) (p q : List Operand) → counts_of k (op.Gc o) ≡ just n c
    → Measures (gc_type_of g o) n c → TableRow g (op.Gc o) p q → counts_of k (op.Gc o) ≡ Some (length p, length q)
tabled k g o n c p q e m r = table_counted g (op.Gc o) _ n c p q m e r

pub gc_counted : (k : Known) (g : Context) (fs : List Standing) → IsAround k g fs → (o : GcOperator) (p q : List Operand) → GcRow g o p q
    → counts_of k (op.Gc o) ≡ Some (length p, length q)
gc_counted k g fs a gc.RefEq p q r = takes_counted _ (ref true (abstract r.0 eq) ∷ ref true (abstract r.0 eq) ∷ []) (i32_type ∷ []) p q r.1 refl
gc_counted k g fs a (gc.StructNew x) p q r =
    let s = named_is (struct_named g x) (λ s. provided (not (is_described s)) (operands_for s.fields ⟶ allocated g s.type ∷ [])) r.0 r.1 in
    let m = provided_measures (not (is_described s.0)) (operands_for s.0.fields ⟶ allocated g s.0.type ∷ []) r.0 s.2 in
    takes_counted _ r.0.takes r.0.gives p q r.2 (rw (a.«module», struct_counted g x s.0 s.1, m.0, m.1, operands_length s.0.fields) refl)
gc_counted k g fs a (gc.StructNewDefault x) p q r = tabled k g (gc.StructNewDefault x) 0 1 p q refl
    (struct_measures g x (λ s. [] ⟶ allocated g s.type ∷ []) (λ s. not (is_described s) && have_defaults s.fields) 0 1 (λ s. refl) (λ s. refl)) r
gc_counted k g fs a (gc.StructGet x i) p q r =
    tabled k g (gc.StructGet x i) 1 1 p q refl (read_measures (field_place g x i) 1 (field_reached g x i)) r
gc_counted k g fs a (gc.StructGetS x i) p q r =
    tabled k g (gc.StructGetS x i) 1 1 p q refl (packed_measures (field_place g x i) 1 (field_reached g x i)) r
gc_counted k g fs a (gc.StructGetU x i) p q r =
    tabled k g (gc.StructGetU x i) 1 1 p q refl (packed_measures (field_place g x i) 1 (field_reached g x i)) r
gc_counted k g fs a (gc.StructSet x i) p q r =
    tabled k g (gc.StructSet x i) 2 0 p q refl (written_measures (field_place g x i) 1 (field_reached g x i)) r
gc_counted k g fs a (gc.ArrayNew x) p q r = tabled k g (gc.ArrayNew x) 2 1 p q refl
    (always_measures g x (λ a. element_of a ∷ i32_type ∷ [] ⟶ allocated g a.type ∷ []) 2 1 (λ s. refl) (λ s. refl)) r
gc_counted k g fs a (gc.ArrayNewDefault x) p q r = tabled k g (gc.ArrayNewDefault x) 1 1 p q refl
    (array_measures g x (λ a. i32_type ∷ [] ⟶ allocated g a.type ∷ []) (λ a. has_default a.element) 1 1 (λ s. refl) (λ s. refl)) r
gc_counted k g fs a (gc.ArrayNewFixed x n) p q r = tabled k g (gc.ArrayNewFixed x n) n 1 p q refl
    (always_measures g x (λ a. replicate n (element_of a) ⟶ allocated g a.type ∷ []) n 1 (λ s. length-replicate n (element_of s)) (λ s. refl)) r
gc_counted k g fs a (gc.ArrayNewData x d) p q r = tabled k g (gc.ArrayNewData x d) 2 1 p q refl
    (array_measures g x (λ a. i32_type ∷ i32_type ∷ [] ⟶ allocated g a.type ∷ [])
    (λ a. is_of_bytes a.element.storage && names_data g.«module».data_count d) 2 1 (λ s. refl) (λ s. refl)) r
gc_counted k g fs a (gc.ArrayNewElem x e) p q r = takes_counted _ (i32_type ∷ i32_type ∷ []) (allocated g r.0.type ∷ []) p q r.3 refl
gc_counted k g fs a (gc.ArrayGet x) p q r =
    tabled k g (gc.ArrayGet x) 2 1 p q refl (read_measures (element_place g x) 2 (element_reached g x)) r
gc_counted k g fs a (gc.ArrayGetS x) p q r =
    tabled k g (gc.ArrayGetS x) 2 1 p q refl (packed_measures (element_place g x) 2 (element_reached g x)) r
gc_counted k g fs a (gc.ArrayGetU x) p q r =
    tabled k g (gc.ArrayGetU x) 2 1 p q refl (packed_measures (element_place g x) 2 (element_reached g x)) r
gc_counted k g fs a (gc.ArraySet x) p q r =
    tabled k g (gc.ArraySet x) 3 0 p q refl (written_measures (element_place g x) 2 (element_reached g x)) r
gc_counted k g fs a gc.ArrayLen p q r = takes_counted _ (ref true (abstract r.0 array) ∷ []) (i32_type ∷ []) p q r.1 refl
gc_counted k g fs a (gc.ArrayFill x) p q r = tabled k g (gc.ArrayFill x) 4 0 p q refl
    (array_measures g x (λ a. reference_to a.type ∷ i32_type ∷ element_of a ∷ i32_type ∷ [] ⟶ []) (λ a. a.element.mutable) 4 0 (λ s. refl) (λ s. refl)) r
gc_counted k g fs a (gc.ArrayCopy x y) p q r =
    takes_counted _ (reference_to r.0.type ∷ i32_type ∷ reference_to r.1.type ∷ i32_type ∷ i32_type ∷ []) [] p q r.6 refl
gc_counted k g fs a (gc.ArrayInitData x d) p q r = tabled k g (gc.ArrayInitData x d) 4 0 p q refl
    (array_measures g x (λ a. reference_to a.type ∷ i32_type ∷ i32_type ∷ i32_type ∷ [] ⟶ [])
    (λ a. a.element.mutable && (is_of_bytes a.element.storage && names_data g.«module».data_count d)) 4 0 (λ s. refl) (λ s. refl)) r
gc_counted k g fs a (gc.ArrayInitElem x e) p q r =
    takes_counted _ (reference_to r.0.type ∷ i32_type ∷ i32_type ∷ i32_type ∷ []) [] p q r.4 refl
gc_counted k g fs a (gc.RefTestNonNull h) p q r = tabled k g (gc.RefTestNonNull h) 1 1 p q refl (cast_measures g h (λ k. i32_type)) r
gc_counted k g fs a (gc.RefTestNullable h) p q r = tabled k g (gc.RefTestNullable h) 1 1 p q refl (cast_measures g h (λ k. i32_type)) r
gc_counted k g fs a (gc.RefCastNonNull h) p q r = tabled k g (gc.RefCastNonNull h) 1 1 p q refl (cast_measures g h (λ k. ref false k)) r
gc_counted k g fs a (gc.RefCastNullable h) p q r = tabled k g (gc.RefCastNullable h) 1 1 p q refl (cast_measures g h (λ k. ref true k)) r
gc_counted k g fs a (gc.BrOnCast l from to) p q r =
    branch_counted k g fs a l (ref from.nullable r.0) (ref to.nullable r.1) (difference from to r.0) p q r.3
gc_counted k g fs a (gc.BrOnCastFail l from to) p q r =
    branch_counted k g fs a l (ref from.nullable r.0) (difference from to r.0) (ref to.nullable r.1) p q r.3
gc_counted k g fs a gc.AnyConvertExtern p q r =
    takes_counted _ (ref r.0 (abstract r.1 extern) ∷ []) (ref r.0 (abstract r.1 any) ∷ []) p q r.2 refl
gc_counted k g fs a gc.ExternConvertAny p q r =
    takes_counted _ (ref r.0 (abstract r.1 any) ∷ []) (ref r.0 (abstract r.1 extern) ∷ []) p q r.2 refl
gc_counted k g fs a gc.RefI31 p q r =
    tabled k g gc.RefI31 1 1 p q refl (some_measures (i32_type ∷ [] ⟶ ref false (abstract false i31) ∷ [])) r
gc_counted k g fs a gc.I31GetS p q r = takes_counted _ (ref true (abstract r.0 i31) ∷ []) (i32_type ∷ []) p q r.1 refl
gc_counted k g fs a gc.I31GetU p q r = takes_counted _ (ref true (abstract r.0 i31) ∷ []) (i32_type ∷ []) p q r.1 refl
