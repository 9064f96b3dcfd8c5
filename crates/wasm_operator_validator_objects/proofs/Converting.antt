-- What is known of converted references.
use Rattle.std.proofs.Common.{◌≡◌, ◌↔◌, ◌∙◌, ⊎_elim, ℕ, Bool, true, false, IsTrue, List, [], All, Option, Some, None, refl, sym, ap, subst}
use Rattle.std.proofs.lemmas.List.{get_or_past}
use Rattle.std.proofs.lemmas.List.Elements.{All-get_or}
use Rattle.std.proofs.lemmas.Option.{slice_get_cases}
use Rattle.wasm_types.specs.trees.declared.index.UnpackedIndex.TheVariants as index
use Rattle.wasm_types.specs.trees.Types.{abstract}
use Rattle.wasm_types.specs.trees.Trees.{TypeTree, opened, group_tree}
use Rattle.wasm_types.specs.trees.Each.{EachHeap}
use Rattle.wasm_types.specs.trees.AbstractOrder.{AbstractBelow, same}
use Rattle.wasm_types.specs.trees.Below.{HeapBelow, NullBelow, itself, declared, heap_is_shared}
use Rattle.wasm_types.specs.trees.Chains.{IsSound}
use Rattle.wasm_types.specs.trees.ValidGroup.{type_at}
use Rattle.wasm_types.specs.trees.laws.Below.{sharedness_agrees}
use Rattle.wasm_types.specs.values.declared.heap.AbstractHeapType.{AbstractHeapType}
use Rattle.wasm_types.specs.values.declared.heap.HeapType.{HeapType}
use Rattle.wasm_types.specs.values.declared.heap.HeapType.TheVariants as heap
use Rattle.wasm_types.specs.values.declared.value.ValType.{ValType}
use Rattle.wasm_types.specs.values.declared.value.ValType.TheVariants as vals
use Rattle.wasm_types.specs.values.Reference.{Reference}
use Rattle.wasm_types.specs.values.Trees.{abstract_of}
use Rattle.wasm_types.specs.values.ValueKinds.{reference_in}
use Rattle.wasm_operator_validator_rules.specs.Operands.{known}
use Rattle.wasm_operator_validator_resources.specs.Meaning.{Meaning, type_in, heap_in}
use Rattle.wasm_operator_validator_state.specs.declared.operand.MaybeType.TheVariants as maybe
use Rattle.wasm_operator_validator_state.specs.State.{Stands}
use Rattle.wasm_operator_validator_objects.specs.Rows.{nullable_to}
use Rattle.wasm_operator_validator_objects.specs.Either.{reference_of, IsConverted, IsUnconvertible}

-- ---- each type of a module is as shared as those above it

sound_past : (n : ℕ) → IsSound (record { group = group_tree []; place = n })
unfolding opened
sound_past n u itself = record { shared = refl; constructor = refl }
sound_past n u (declared e b) = cc

sound_at : (space : List TypeTree) (n : ℕ) → All IsSound space → IsSound (type_at space n)
sound_at space n a = ⊎_elim
    (λ f. All-get_or IsSound space n (record { group = group_tree []; place = n }) f.1 a)
    (λ f. subst (λ (t : TypeTree). IsSound t) (sym (get_or_past space n (record { group = group_tree []; place = n }) f.0)) (sound_past n))
    (slice_get_cases space n).1

heap_sound : (m : Meaning) (h : HeapType) → All IsSound m.«module».types → All IsSound m.ids → EachHeap IsSound (heap_in m h)
heap_sound m (heap.Abstract s a) t i = tt
heap_sound m (heap.Concrete (index.Module n)) t i = sound_at m.«module».types n t
heap_sound m (heap.Concrete (index.RecGroup n)) t i = sound_at m.«module».types n t
heap_sound m (heap.Concrete (index.Id n)) t i = sound_at m.ids n.0 i
heap_sound m (heap.Exact (index.Module n)) t i = sound_at m.«module».types n t
heap_sound m (heap.Exact (index.RecGroup n)) t i = sound_at m.«module».types n t
heap_sound m (heap.Exact (index.Id n)) t i = sound_at m.ids n.0 i

-- ---- operands that are not known, or references to bottom

pub bottom_converted : (m : Meaning) (from to : AbstractHeapType) → IsConverted m maybe.Bottom (maybe.UnknownRef (Some to)) from to
bottom_converted m from to = record {
  least = λ n s k. (s, (tt, (refl, same)));
  reached = λ t (s, b). (false, s, tt, b);
}

pub unknown_converted : (m : Meaning) (k : Option AbstractHeapType) (from to : AbstractHeapType) (b : Bool) → IsTrue b ↔ Stands m (maybe.UnknownRef k) (known (nullable_to from false)) → b ≡ true
    → IsConverted m (maybe.UnknownRef k) (maybe.UnknownRef (Some to)) from to
unknown_converted m None from to b i e = record {
  least = λ n s k. (s, (tt, (refl, same)));
  reached = λ t (s, b). (false, s, tt, b);
}
unknown_converted m (Some a) from to b i e =
    let w : AbstractBelow (abstract_of a) (abstract_of from) = (i.0 e).1.1.1 in
    record {
      least = λ n s k. (s, (tt, (refl, same)));
      reached = λ t (s, b). (false, s, (s, (tt, (refl, w))), b);
    }

pub unknown_unconvertible : (m : Meaning) (k : Option AbstractHeapType) (from : AbstractHeapType) (b : Bool) → IsTrue b ↔ Stands m (maybe.UnknownRef k) (known (nullable_to from false)) → b ≡ false
    → IsUnconvertible m (maybe.UnknownRef k) from
unknown_unconvertible m None from b i e n s k = let x : b ≡ true = i.1 tt in let y : false ≡ true = sym e ∙ x in cc
unknown_unconvertible m (Some a) from b i e n s k =
    let w : AbstractBelow (abstract_of a) (abstract_of from) = k.1.1.1 in
    let x : b ≡ true = i.1 (false, (tt, (refl, w))) in let y : false ≡ true = sym e ∙ x in cc

-- ---- known types

null_below : (n : Bool) → NullBelow n n
null_below true = tt
null_below false = tt

null_above : (n : Bool) → NullBelow n true
null_above true = tt
null_above false = tt

-- a type that is no reference
pub number_unconvertible : (m : Meaning) (t : ValType) (from : AbstractHeapType) → None ≡ reference_in t → IsUnconvertible m (maybe.Known t) from
unfolding type_in
number_unconvertible m vals.I32 from e n s k = k
number_unconvertible m vals.I64 from e n s k = k
number_unconvertible m vals.F32 from e n s k = k
number_unconvertible m vals.F64 from e n s k = k
number_unconvertible m vals.V128 from e n s k = k
number_unconvertible m (vals.Ref r) from e n s k = cc

the_type : (t : ValType) (r : Reference) → Some r ≡ reference_in t → t ≡ vals.Ref r
the_type vals.I32 r e = cc
the_type vals.I64 r e = cc
the_type vals.F32 r e = cc
the_type vals.F64 r e = cc
the_type vals.V128 r e = cc
the_type (vals.Ref s) r e = let f : s ≡ r = cc in ap (λ (x : Reference). vals.Ref x) (f)

-- a reference is as shared as what it is below
agrees : (m : Meaning) (r : Reference) (from : AbstractHeapType) (s n q : Bool) → All IsSound m.«module».types → All IsSound m.ids → s ≡ heap_is_shared (heap_in m r.heap)
    → Stands m (maybe.Known (vals.Ref r)) (reference_of from n q) → s ≡ q
unfolding type_in
agrees m r from s n q t i e k = e ∙ sharedness_agrees (heap_in m r.heap) (abstract q (abstract_of from)) (heap_sound m r.heap t i) k.1

converted_reference : (m : Meaning) (r : Reference) (from to : AbstractHeapType) (s : Bool) → All IsSound m.«module».types → All IsSound m.ids → s ≡ heap_is_shared (heap_in m r.heap)
    → Stands m (maybe.Known (vals.Ref r)) (known (nullable_to from s))
    → IsConverted m (maybe.Known (vals.Ref r)) (maybe.Known (vals.Ref (record { nullable = r.nullable; heap = heap.Abstract s to }))) from to
unfolding type_in
converted_reference m r from to s t i e k = record {
  least = λ n q j. (j.0, (agrees m r from s n q t i e j, same));
  reached = λ u b. (r.nullable, s, (null_below r.nullable, k.1), b);
}

pub reference_converted : (m : Meaning) (t : ValType) (r : Reference) (from to : AbstractHeapType) (s n b : Bool) (v : ValType) → All IsSound m.«module».types → All IsSound m.ids
    → Some r ≡ reference_in t → s ≡ heap_is_shared (heap_in m r.heap) → n ≡ r.nullable → IsTrue b ↔ Stands m (maybe.Known (vals.Ref r)) (known (nullable_to from s)) → b ≡ true
    → v ≡ vals.Ref (record { nullable = n; heap = heap.Abstract s to }) → IsConverted m (maybe.Known t) (maybe.Known v) from to
reference_converted m t r from to s n b v a i e f h j l z =
    let w : vals.Ref (record { nullable = r.nullable; heap = heap.Abstract s to }) ≡ v = ap (λ (x : Bool). vals.Ref (record { nullable = x; heap = heap.Abstract s to })) (sym h) ∙ sym z in
    subst (λ (x : ValType). IsConverted m (maybe.Known x) (maybe.Known v) from to) (sym (the_type t r e))
    (subst (λ (x : ValType). IsConverted m (maybe.Known (vals.Ref r)) (maybe.Known x) from to) w (converted_reference m r from to s a i f (j.0 l)))

top_stands : (m : Meaning) (r : Reference) (from : AbstractHeapType) (s n q : Bool) → s ≡ q → Stands m (maybe.Known (vals.Ref r)) (reference_of from n q)
    → Stands m (maybe.Known (vals.Ref r)) (known (nullable_to from s))
unfolding type_in
top_stands m r from s n q e k = (null_above r.nullable, subst (λ (x : Bool). HeapBelow (heap_in m r.heap) (abstract x (abstract_of from))) (sym e) k.1)

pub reference_unconvertible : (m : Meaning) (t : ValType) (r : Reference) (from : AbstractHeapType) (s b : Bool) → All IsSound m.«module».types → All IsSound m.ids
    → Some r ≡ reference_in t → s ≡ heap_is_shared (heap_in m r.heap) → IsTrue b ↔ Stands m (maybe.Known (vals.Ref r)) (known (nullable_to from s)) → b ≡ false
    → IsUnconvertible m (maybe.Known t) from
reference_unconvertible m t r from s b a i e f j l n q k =
    let k' : Stands m (maybe.Known (vals.Ref r)) (reference_of from n q) = subst (λ (x : ValType). Stands m (maybe.Known x) (reference_of from n q)) (the_type t r e) k in
    let x : b ≡ true = j.1 (top_stands m r from s n q (agrees m r from s n q a i f k') k') in let y : false ≡ true = sym l ∙ x in cc
