-- The functions that continuations go on with, and how many operands they take and give.
use Rattle.std.proofs.Common.{◌≡◌, ◌∙◌, ◌-◌, ℕ, Bool, zero, suc, List, [], ◌∷◌, map, length, get_or, arith, Option, Some, None, option_map, option_and_then, slice_get, refl, sym, ap}
use Rattle.std.proofs.lemmas.Option.{slice_get-get_or}
use Rattle.wasm_types.specs.trees.declared.index.UnpackedIndex.{UnpackedIndex}
use Rattle.wasm_types.specs.trees.Types.{EntryOf, InnerOf, value_map, inner_map}
use Rattle.wasm_types.specs.trees.Trees.{TypeTree, opened}
use Rattle.wasm_types.specs.trees.Below.{expanded}
use Rattle.wasm_types.specs.values.declared.heap.HeapType.{HeapType}
use Rattle.wasm_types.specs.values.declared.heap.HeapType.TheVariants as heap
use Rattle.wasm_types.specs.values.declared.value.ValType.{ValType}
use Rattle.wasm_types.specs.values.declared.value.ValType.TheVariants.{I32, I64, F32, F64, V128, Ref}
use Rattle.wasm_types.specs.values.Values.{value_of}
use Rattle.wasm_types.specs.fields.declared.func.FuncType.{FuncType}
use Rattle.wasm_types.specs.Entries.{inner_of}
use Rattle.wasm_types.specs.declared.composite.CompositeInnerType.{CompositeInnerType}
use Rattle.wasm_types.specs.declared.composite.CompositeInnerType.TheVariants.{Func, Array, Struct, Cont}
use Rattle.wasm_types.specs.declared.sub_type.SubType.{SubType}
use Rattle.wasm_operator_validator_resources.specs.Meaning.{Meaning, named_type, entry_in, function_in}
use Rattle.wasm_operator_validator_rules.specs.arity.Arity.{Counts, function_counts, type_counts, continuation_counts, resumed, referred, last_referred}
use Rattle.wasm_operator_validator_arity.specs.Knowing.{type_named, heap_named, type_referred, function_alone, function_named, function_resumed, index_resumed, declared_counts}
use Rattle.wasm_operator_validator_arity.proofs.Looking.{type_behind, nothing_behind, counts_found, values_long}
use Rattle.wasm_operator_validator_arity.proofs.Named.{named, unnamed}

pub function_counted : (m : Meaning) (f : FuncType) → function_counts (function_in m f) ≡ Some (length f.params, length f.results)
function_counted m f = rw (values_long m f.params, values_long m f.results) refl

-- ---- the type that a continuation goes on with

pub resumed_is : (m : Meaning) (k : CompositeInnerType) → resumed (inner_map (named_type m) (inner_of k)) ≡ option_map (named_type m) (index_resumed k)
resumed_is m (Func f) = refl
resumed_is m (Array a) = refl
resumed_is m (Struct s) = refl
resumed_is m (Cont c) = refl

-- how many its function takes and gives
counts_are : (m : Meaning) (x : SubType) (r : Option UnpackedIndex) → r ≡ index_resumed x.composite_type.inner
    → type_counts (resumed (entry_in m x).inner) ≡ type_counts (option_map (named_type m) r)
counts_are m x r e = ap type_counts (resumed_is m x.composite_type.inner ∙ ap (option_map (named_type m)) (sym e))

pub nothing_resumed : (m : Meaning) (x : SubType) → None ≡ index_resumed x.composite_type.inner → None ≡ type_counts (resumed (entry_in m x).inner)
nothing_resumed m x e = sym (counts_are m x None e)

pub unknown_counted : (m : Meaning) (x : SubType) (i : UnpackedIndex) → Some i ≡ index_resumed x.composite_type.inner
    → None ≡ option_map opened (type_named m i)
    → Some (0, 0) ≡ type_counts (resumed (entry_in m x).inner)
unknown_counted m x i e f = sym (counts_are m x (Some i) e ∙ ap function_counts (unnamed m i (nothing_behind (type_named m i) f)))

pub resumed_counted : (m : Meaning) (x y : SubType) (i : UnpackedIndex) → Some i ≡ index_resumed x.composite_type.inner
    → Some (entry_in m y) ≡ option_map opened (type_named m i)
    → declared_counts y.composite_type.inner ≡ type_counts (resumed (entry_in m x).inner)
resumed_counted m x y i e f =
    let (t, is, same) = type_behind (entry_in m y) (type_named m i) f in
    let it : Some t ≡ Some (named_type m i) = ap (λ (u : TypeTree). Some u) (sym (named m i t is)) in
    counts_found m y (type_named m i) f ∙ ap type_counts (is ∙ it) ∙ sym (counts_are m x (Some i) e)

-- the function itself
pub no_index : (m : Meaning) (k : CompositeInnerType) → None ≡ index_resumed k → None ≡ function_resumed m k
no_index m k e = ap (option_and_then (function_named m)) e

pub no_function : (m : Meaning) (k : CompositeInnerType) (i : UnpackedIndex) → Some i ≡ index_resumed k → None ≡ option_map opened (type_named m i)
    → None ≡ function_resumed m k
no_function m k i e f =
    sym (ap (option_and_then (λ t. function_alone (expanded t))) (nothing_behind (type_named m i) f)) ∙ ap (option_and_then (function_named m)) e

-- ---- continuations by an index of the module

pub continuation_missing : (o : Option TypeTree) → None ≡ option_map opened o → None ≡ continuation_counts o
continuation_missing o e = sym (ap continuation_counts (nothing_behind o e))

pub continuation_counted : (m : Meaning) (x : SubType) (o : Option TypeTree) → Some (entry_in m x) ≡ option_map opened o
    → type_counts (resumed (entry_in m x).inner) ≡ continuation_counts o
continuation_counted m x o e =
    let (t, is, same) = type_behind (entry_in m x) o e in
    ap (λ (y : EntryOf TypeTree). type_counts (resumed y.inner)) same ∙ sym (ap continuation_counts is)

-- ---- what the last of some types refers to

by_index : (m : Meaning) (i : UnpackedIndex) (o : Option TypeTree) → type_named m i ≡ o → continuation_counts (Some (named_type m i)) ≡ continuation_counts o
by_index m i None e = ap (λ (y : InnerOf TypeTree). type_counts (resumed y)) (unnamed m i e)
by_index m i (Some t) e = ap (λ (u : TypeTree). continuation_counts (Some u)) (named m i t e)

by_heap : (m : Meaning) (n : Bool) (h : HeapType)
    → continuation_counts (referred (value_map (named_type m) (value_of (Ref (record { nullable = n; heap = h }))))) ≡ continuation_counts (heap_named m h)
by_heap m n (heap.Abstract s a) = refl
by_heap m n (heap.Concrete i) = by_index m i (type_named m i) refl
by_heap m n (heap.Exact i) = by_index m i (type_named m i) refl

referred_counted : (m : Meaning) (v : ValType) → continuation_counts (referred (value_map (named_type m) (value_of v))) ≡ continuation_counts (type_referred m v)
referred_counted m I32 = refl
referred_counted m I64 = refl
referred_counted m F32 = refl
referred_counted m F64 = refl
referred_counted m V128 = refl
referred_counted m (Ref r) = by_heap m r.nullable r.heap

last_seen : (m : Meaning) (ts : List ValType) (n : ℕ) (v : ValType) → suc n ≡ length ts → slice_get ts n ≡ Some v
    → last_referred (map (value_map (named_type m)) (map value_of ts)) ≡ referred (value_map (named_type m) (value_of v))
last_seen m [] n v l e = absurd (omega (arith, l))
last_seen m (t ∷ []) zero v l e = let is : t ≡ v = cc in rw is refl
last_seen m (t ∷ []) (suc n) v l e = cc
last_seen m (t ∷ u ∷ ts) zero v l e = absurd (omega (arith, l))
last_seen m (t ∷ u ∷ ts) (suc n) v l e = last_seen m (u ∷ ts) n v (omega (arith, l)) e

some_long : (ts : List ValType) (v : ValType) → slice_get ts (length ts - 1) ≡ Some v → suc (length ts - 1) ≡ length ts
some_long [] v e = cc
some_long (t ∷ ts) v e = omega arith

-- how many parameters the continuation takes to which the last refers
abbrev taken_by_last : Meaning → List ValType → Option ℕ
taken_by_last m ts = option_map (λ d. d.0) (continuation_counts (last_referred (map (value_map (named_type m)) (map value_of ts))))

taken_is : (m : Meaning) (ts : List ValType) (v : ValType) → slice_get ts (length ts - 1) ≡ Some v
    → taken_by_last m ts ≡ option_map (λ d. d.0) (continuation_counts (type_referred m v))
taken_is m ts v l =
    let last = last_seen m ts (length ts - 1) v (some_long ts v l) l in
    ap (option_map (λ (d : Counts). d.0)) (ap continuation_counts last ∙ referred_counted m v)

pub no_last : (m : Meaning) (ts : List ValType) → None ≡ slice_get ts (length ts - 1)
    → None ≡ option_map (λ d. d.0) (continuation_counts (last_referred (map (value_map (named_type m)) (map value_of ts))))
no_last m [] e = refl
no_last m (t ∷ ts) e =
    let there : slice_get (t ∷ ts) (length ts) ≡ Some (get_or (t ∷ ts) (length ts) t) = slice_get-get_or (t ∷ ts) (length ts) t (omega arith) in
    let k : suc (length ts) - 1 ≡ length ts = omega arith in
    let none : None ≡ slice_get (t ∷ ts) (length ts) = rw k at e in
    absurd cc

pub last_unknown : (m : Meaning) (ts : List ValType) (v : ValType) → slice_get ts (length ts - 1) ≡ Some v → None ≡ option_map opened (type_referred m v)
    → None ≡ option_map (λ d. d.0) (continuation_counts (last_referred (map (value_map (named_type m)) (map value_of ts))))
last_unknown m ts v l e =
    sym (taken_is m ts v l ∙ ap (λ (o : Option TypeTree). option_map (λ (d : Counts). d.0) (continuation_counts o)) (nothing_behind (type_referred m v) e))

pub last_counted : (m : Meaning) (ts : List ValType) (v : ValType) (x : SubType) (c : Option Counts) (taken : Option ℕ)
    → slice_get ts (length ts - 1) ≡ Some v → Some (entry_in m x) ≡ option_map opened (type_referred m v)
    → c ≡ type_counts (resumed (entry_in m x).inner) → taken ≡ option_map (λ d. d.0) c
    → taken ≡ option_map (λ d. d.0) (continuation_counts (last_referred (map (value_map (named_type m)) (map value_of ts))))
last_counted m ts v x c taken l e f g =
    g ∙ ap (option_map (λ (d : Counts). d.0)) (f ∙ continuation_counted m x (type_referred m v) e) ∙ sym (taken_is m ts v l)
