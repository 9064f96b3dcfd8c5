-- The index of a value type is replaced, or refused.
use Rattle.std.proofs.Common.{◌≡◌, refl, sym, subst, Some, Bool, true, false}
use Rattle.std.specs.Prelude.{Result, Ok, Err}
use Rattle.wasm_types_reader.specs.decoding.ErrorValue.{ErrorValue}
use Rattle.wasm_types_trees.specs.declared.index.UnpackedIndex.{UnpackedIndex}
use Rattle.wasm_types_trees.specs.Types as tree
use Rattle.wasm_types_trees.specs.Types.{HeapOf}
use Rattle.wasm_types_values.specs.declared.heap.HeapType.{HeapType}
use Rattle.wasm_types_values.specs.declared.heap.HeapType.TheVariants.{Abstract, Concrete, Exact}
use Rattle.wasm_types_values.specs.declared.value.ValType.{ValType}
use Rattle.wasm_types_values.specs.declared.value.ValType.TheVariants.{I32, I64, F32, F64, V128, Ref}
use Rattle.wasm_types_values.specs.Reference.{Reference}
use Rattle.wasm_types_values.specs.Kinds.{index_of, is_exact}
use Rattle.wasm_types_values.specs.ValueKinds.{reference_in}
use Rattle.wasm_types_values.specs.Trees.{heap_of}
use Rattle.wasm_types_values.specs.Values.{value_of}
use Rattle.wasm_types_values.specs.Remap.{Remapped, value_shape, value_indices}
use Rattle.wasm_types_values.specs.RemapLaws.{refused_alone}

module _ (answers : UnpackedIndex → Result UnpackedIndex ErrorValue → Type 0) where
  -- by what a heap type holds, a reference to it
  refused_heap : (b : Bool) (h : HeapType) (i : UnpackedIndex) (e : ErrorValue) → index_of h ≡ Some i → answers i (Err e)
      → Remapped {U = Unit {0}} value_shape value_indices answers (Err e) (tree.ref b (heap_of h)) (tree.ref b (heap_of h))
  refused_heap b (Abstract s a) i e p h = absurd cc
  refused_heap b (Concrete j) i e p h = let same : j ≡ i = cc in
      record { same = refl; walked = refused_alone answers e j (subst (λ (k : UnpackedIndex). answers k (Err e)) (sym same) h) }
  refused_heap b (Exact j) i e p h = let same : j ≡ i = cc in
      record { same = refl; walked = refused_alone answers e j (subst (λ (k : UnpackedIndex). answers k (Err e)) (sym same) h) }

  pub refused_value : (v : ValType) (r : Reference) (i : UnpackedIndex) (e : ErrorValue) → reference_in v ≡ Some r → index_of r.heap ≡ Some i → answers i (Err e)
      → Remapped {U = Unit {0}} value_shape value_indices answers (Err e) (value_of v) (value_of v)
  refused_value I32 r i e p q h = absurd cc
  refused_value I64 r i e p q h = absurd cc
  refused_value F32 r i e p q h = absurd cc
  refused_value F64 r i e p q h = absurd cc
  refused_value V128 r i e p q h = absurd cc
  refused_value (Ref s) r i e p q h = let same : s ≡ r = cc in refused_heap s.nullable s.heap i e (subst (λ (t : Reference). index_of t.heap ≡ Some i) (sym same) q) h

  -- ---- and replaced

  abbrev with_index : Bool → UnpackedIndex → HeapOf UnpackedIndex
  with_index true j = tree.exact j
  with_index false j = tree.concrete j

  replaced_heap : (b : Bool) (h : HeapType) (i j : UnpackedIndex) → index_of h ≡ Some i → answers i (Ok j)
      → Remapped value_shape value_indices answers (Ok (tt {0})) (tree.ref b (heap_of h)) (tree.ref b (with_index (is_exact h) j))
  replaced_heap b (Abstract s a) i j p h = absurd cc
  replaced_heap b (Concrete k) i j p h = let same : k ≡ i = cc in record { same = refl; walked = (subst (λ (l : UnpackedIndex). answers l (Ok j)) (sym same) h, tt) }
  replaced_heap b (Exact k) i j p h = let same : k ≡ i = cc in record { same = refl; walked = (subst (λ (l : UnpackedIndex). answers l (Ok j)) (sym same) h, tt) }

  replaced_value : (v : ValType) (r : Reference) (i j : UnpackedIndex) → reference_in v ≡ Some r → index_of r.heap ≡ Some i → answers i (Ok j)
      → Remapped value_shape value_indices answers (Ok (tt {0})) (value_of v) (tree.ref r.nullable (with_index (is_exact r.heap) j))
  replaced_value I32 r i j p q h = absurd cc
  replaced_value I64 r i j p q h = absurd cc
  replaced_value F32 r i j p q h = absurd cc
  replaced_value F64 r i j p q h = absurd cc
  replaced_value V128 r i j p q h = absurd cc
  replaced_value (Ref s) r i j p q h =
      let same : s ≡ r = cc in
      subst (λ (t : Reference). Remapped value_shape value_indices answers (Ok (tt {0})) (value_of (Ref s)) (tree.ref t.nullable (with_index (is_exact t.heap) j))) same
      (replaced_heap s.nullable s.heap i j (subst (λ (t : Reference). index_of t.heap ≡ Some i) (sym same) q) h)

  pub replaced_exact : (v : ValType) (r : Reference) (i j : UnpackedIndex) → reference_in v ≡ Some r → index_of r.heap ≡ Some i → is_exact r.heap ≡ true → answers i (Ok j)
      → Remapped value_shape value_indices answers (Ok (tt {0})) (value_of v) (tree.ref r.nullable (tree.exact j))
  replaced_exact v r i j p q x h = subst (λ (b : Bool). Remapped value_shape value_indices answers (Ok (tt {0})) (value_of v)
      (tree.ref r.nullable (with_index b j))) x (replaced_value v r i j p q h)

  pub replaced_concrete : (v : ValType) (r : Reference) (i j : UnpackedIndex) → reference_in v ≡ Some r → index_of r.heap ≡ Some i → is_exact r.heap ≡ false → answers i (Ok j)
      → Remapped value_shape value_indices answers (Ok (tt {0})) (value_of v) (tree.ref r.nullable (tree.concrete j))
  replaced_concrete v r i j p q x h = subst (λ (b : Bool). Remapped value_shape value_indices answers (Ok (tt {0})) (value_of v)
      (tree.ref r.nullable (with_index b j))) x (replaced_value v r i j p q h)
