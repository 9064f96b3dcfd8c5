-- What codes stand for.
use Rattle.std.proofs.Common.{◌≡◌, ◌≤◌, ◌<◌, ◌∙◌, ◌+◌, ◌-◌, ◌*◌, ◌/◌, ◌%◌, ℕ, Bool, false, List, refl, sym, ap, arith, lt-ltb, le-ltb}
use Rattle.std.specs.Prelude.{◌==◌}
use Rattle.wasm_types.specs.trees.Types.{ref, abstract, concrete}
use Rattle.wasm_types.specs.trees.Trees.{TypeTree}
use Rattle.wasm_types.specs.trees.ValidGroup.{type_at}
use Rattle.wasm_types.specs.values.Trees.{abstract_of as tree_of}
use Rattle.wasm_types.specs.values.Reference.{Reference}
use Rattle.wasm_types.specs.values.declared.heap.AbstractHeapType.{AbstractHeapType}
use Rattle.wasm_types.specs.values.declared.heap.HeapType.{HeapType}
use Rattle.wasm_types.specs.values.declared.heap.HeapType.TheVariants as heap
use Rattle.wasm_types.specs.values.declared.value.ValType.{ValType}
use Rattle.wasm_types.specs.values.declared.value.ValType.TheVariants as vals
use Rattle.wasm_operator_validator_state.specs.resources.Meaning.{Meaning, type_in, heap_in, reference_in}
use Rattle.wasm_operator_validator_fast_tables.specs.Values.{abstract_of, heap_of, type_of}
use Rattle.wasm_operator_validator_fast_tables.proofs.Reaching.{is_reference}

-- ---- numbers

pub code_is : (m : Meaning) (t u : ValType) (n : ℕ) → t ≡ u → type_in m u ≡ type_of m.ids n → type_in m t ≡ type_of m.ids n
code_is m t u n e h = ap (type_in m) e ∙ h

pub i32_is : (m : Meaning) → type_in m vals.I32 ≡ type_of m.ids 0
unfolding type_in
i32_is m = refl

pub i64_is : (m : Meaning) → type_in m vals.I64 ≡ type_of m.ids 1
unfolding type_in
i64_is m = refl

pub f32_is : (m : Meaning) → type_in m vals.F32 ≡ type_of m.ids 2
unfolding type_in
f32_is m = refl

pub f64_is : (m : Meaning) → type_in m vals.F64 ≡ type_of m.ids 3
unfolding type_in
f64_is m = refl

pub v128_is : (m : Meaning) → type_in m vals.V128 ≡ type_of m.ids 4
unfolding type_in
v128_is m = refl

pub reference_is : (m : Meaning) (r : Reference) → type_in m (vals.Ref r) ≡ reference_in m r
unfolding type_in
reference_is m r = refl

-- ---- heap types

module _ (ids : List TypeTree) where
  pub heap_abstract : (h : ℕ) → h < 16 → heap_of ids h ≡ abstract false (abstract_of h)
  heap_abstract h few = rw (lt-ltb h 16 few) refl

  pub heap_defined : (h id : ℕ) → h ≡ 16 + id → heap_of ids h ≡ concrete (type_at ids id)
  heap_defined h id e =
      let high : 16 ≤ h = omega (arith, e) in
      let over : h - 16 ≡ id = omega (arith, e) in
      rw (le-ltb h 16 high) (ap (λ (k : ℕ). concrete (type_at ids k)) over)

  -- a code by its parts
  pub by_parts : (n h last : ℕ) → n ≡ 8 + 2 * h + last → last < 2 → type_of ids n ≡ ref (last == 0) (heap_of ids h)
  by_parts n h last e few =
      let high : 8 ≤ n = omega (arith, e) in
      let bit : n % 2 ≡ last = omega (arith, e, few) in
      let rest : (n - 8) / 2 ≡ h = omega (arith, e, few) in
      is_reference ids n high ∙ ap (λ (k : ℕ). ref (k == 0) (heap_of ids ((n - 8) / 2))) bit ∙ ap (λ (k : ℕ). ref (last == 0) (heap_of ids k)) rest

-- ---- references

module _ (m : Meaning) (r : Reference) (n last : ℕ) (few : last < 2) (null : (last == 0) ≡ r.nullable) where
  pub abstract_stands : (a : HeapType) (shared : Bool) (ty : AbstractHeapType) (h : ℕ) → a ≡ r.heap → heap.Abstract shared ty ≡ a → shared ≡ false → h < 12 → tree_of ty ≡ abstract_of h
      → n ≡ 8 + 2 * h + last → reference_in m r ≡ type_of m.ids n
  abstract_stands a shared ty h is was alone small same e =
      let there : heap_in m (heap.Abstract false ty) ≡ heap_of m.ids h = ap (abstract false) same ∙ sym (heap_abstract m.ids h (omega (arith, small))) in
      let all : heap_in m r.heap ≡ heap_of m.ids h =
      ap (heap_in m) (sym is ∙ sym was) ∙ ap (λ (s : Bool). heap_in m (heap.Abstract s ty)) alone ∙ there in
      ap (ref r.nullable) all ∙ ap (λ (b : Bool). ref b (heap_of m.ids h)) (sym null) ∙ sym (by_parts m.ids n h last e few)
