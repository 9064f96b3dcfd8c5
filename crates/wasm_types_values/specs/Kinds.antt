-- What reference types and heap types are, by cases, and how they compare.
use Rattle.std.specs.Prelude.{◌≡◌, ℕ, Bool, true, false, ◌==◌, Option, Some, None}
use Rattle.std.specs.Ordering.{nat_cmp, on, then_cmp, eq_of_both}
use Rattle.std.specs.declared.cmp.Ordering.{Ordering}
use Rattle.wasm_types_trees.specs.declared.index.UnpackedIndex.{UnpackedIndex}
use Rattle.wasm_types_values.specs.declared.heap.AbstractHeapType.{AbstractHeapType}
use Rattle.wasm_types_values.specs.declared.heap.HeapType.{HeapType}
use Rattle.wasm_types_values.specs.declared.heap.HeapType.TheVariants.{Abstract, Concrete, Exact}
use Rattle.wasm_types_values.specs.Reference.{Reference}
use Rattle.wasm_types_values.specs.Bits.{code_of, bit, class_of}
use Rattle.wasm_types_trees.specs.Indices.{kind_of, number_of}

-- whether it refers by an index
abbrev pub is_concrete : HeapType → Bool
is_concrete (Abstract shared ty) = false
is_concrete (Concrete i) = true
is_concrete (Exact i) = true

-- whether it refers to exactly one type
abbrev pub is_exact : HeapType → Bool
is_exact (Abstract shared ty) = false
is_exact (Concrete i) = false
is_exact (Exact i) = true

-- it is this abstract type, shared or not
abbrev pub IsOf : AbstractHeapType → HeapType → Type 0
IsOf other (Abstract shared ty) = ty ≡ other
IsOf other (Concrete i) = ⊥
IsOf other (Exact i) = ⊥

-- the index, if it has one
abbrev pub index_of : HeapType → Option UnpackedIndex
index_of (Abstract shared ty) = None
index_of (Concrete i) = Some i
index_of (Exact i) = Some i

-- the shared form
abbrev pub shared_form : Bool → HeapType → Option Reference
shared_form nullable (Abstract shared ty) = Some (record { nullable = nullable; heap = Abstract true ty })
shared_form nullable (Concrete i) = None
shared_form nullable (Exact i) = None

-- the shared form of a reference, which only an abstract type has
abbrev pub shared_of : Reference → Option Reference
shared_of r = shared_form r.nullable r.heap

-- ---- comparing: by class, null, and then kind and number of an index, or sharedness and number of an abstract type

-- sharedness, or the kind of the index
abbrev pub part_of : HeapType → ℕ
part_of (Abstract shared ty) = bit shared
part_of (Concrete i) = kind_of i
part_of (Exact i) = kind_of i

-- the number of the abstract type, or of the index
abbrev pub last_of : HeapType → ℕ
last_of (Abstract shared ty) = code_of ty
last_of (Concrete i) = number_of i
last_of (Exact i) = number_of i

-- equal in all four
abbrev pub reference_eq : Reference → Reference → Bool
reference_eq = eq_of_both (on (λ r. class_of r.heap) ◌==◌) (eq_of_both (on (λ r. bit r.nullable) ◌==◌) (eq_of_both (on (λ r. part_of r.heap) ◌==◌) (on (λ r. last_of r.heap) ◌==◌)))

-- by the first of the four that differs
abbrev pub reference_cmp : Reference → Reference → Ordering
reference_cmp = then_cmp (on (λ r. class_of r.heap) nat_cmp)
    (then_cmp (on (λ r. bit r.nullable) nat_cmp) (then_cmp (on (λ r. part_of r.heap) nat_cmp) (on (λ r. last_of r.heap) nat_cmp)))
