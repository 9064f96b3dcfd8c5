-- Operators are found by prefix and code, and made of their immediates: by groups, which have their codes in runs.
use Rattle.std.proofs.Common.{◌≡◌, ◌∙◌, ◌+◌, ◌*◌, ℕ, Bool, true, false, eqb, ltb, List, [], ◌∷◌, map, get_or, Option, Some, None, option_map, refl, sym, ap, subst}
use Rattle.wasm_operators_immediates.specs.Info.{Info}
use Rattle.wasm_operators_immediates.proofs.Codes.{key, same_key, is_eq, in_list, row_at, kinds_at, made_at}
use Rattle.wasm_operators_immediates.specs.Kinds.{Kind}
use Rattle.wasm_operators_immediates.specs.Immediates.{Immediate, kind_of}
use Rattle.wasm_operators_enums.specs.control.Table.{control_info, parametric_info, exception_info, continuation_info}
use Rattle.wasm_operators_enums.specs.memory.Table.{memory_info, const_info, bulk_info}
use Rattle.wasm_operators_enums.specs.numbers.Table.{numeric_info}
use Rattle.wasm_operators_enums.specs.control.Immediates.{control_immediates, parametric_immediates, exception_immediates, continuation_immediates}
use Rattle.wasm_operators_enums.specs.memory.Immediates.{memory_immediates, const_immediates, bulk_immediates}
use Rattle.wasm_operators_enums.specs.numbers.Immediates.{numeric_immediates}
use Rattle.wasm_operators_enums.proofs.ControlCodes.{control_list, control_told, control_made, parametric_list, parametric_told, parametric_made}
use Rattle.wasm_operators_enums.proofs.ControlCodes.{exception_list, exception_told, exception_made, continuation_list, continuation_told}
use Rattle.wasm_operators_enums.proofs.ControlCodes.{continuation_made}
use Rattle.wasm_operators_enums.proofs.MemoryCodes.{memory_list, memory_told, memory_made, const_list, const_told, const_made, bulk_list, bulk_told, bulk_made}
use Rattle.wasm_operators_enums.proofs.NumbersCodes.{numeric_list, numeric_told, numeric_made}
use Rattle.wasm_operators_enums.specs.gc.Table.{gc_info, descriptor_info}
use Rattle.wasm_operators_enums.specs.threads.Table.{atomic_info, shared_info}
use Rattle.wasm_operators_enums.specs.gc.Immediates.{gc_immediates, descriptor_immediates}
use Rattle.wasm_operators_enums.specs.threads.Immediates.{atomic_immediates, shared_immediates}
use Rattle.wasm_operators_enums.proofs.GcCodes.{gc_list, gc_told, gc_made, descriptor_list, descriptor_told, descriptor_made}
use Rattle.wasm_operators_enums.proofs.ThreadsCodes.{atomic_list, atomic_told, atomic_made, shared_list, shared_told, shared_made}
use Rattle.wasm_operators_enums.specs.VectorsTable.{simd_info, simd_numeric_info}
use Rattle.wasm_operators_enums.specs.VectorsImmediates.{simd_immediates, simd_numeric_immediates}
use Rattle.wasm_operators_enums.proofs.VectorsCodes.{simd_list, simd_told, simd_made, simd_numeric_list, simd_numeric_told, simd_numeric_made}
use Rattle.wasm_operators_enums.specs.declared.control.ControlOperator.{ControlOperator}
use Rattle.wasm_operators_enums.specs.declared.memory.MemoryOperator.{MemoryOperator}
use Rattle.wasm_operators_enums.specs.declared.constant.ConstOperator.{ConstOperator}
use Rattle.wasm_operators_enums.specs.declared.numeric.NumericOperator.{NumericOperator}
use Rattle.wasm_operators_enums.specs.declared.bulk.BulkOperator.{BulkOperator}
use Rattle.wasm_operators_enums.specs.declared.gc.GcOperator.{GcOperator}
use Rattle.wasm_operators_enums.specs.declared.gc.DescriptorOperator.{DescriptorOperator}
use Rattle.wasm_operators_enums.specs.declared.vector.SimdOperator.{SimdOperator}
use Rattle.wasm_operators_enums.specs.declared.vector_numeric.SimdNumericOperator.{SimdNumericOperator}
use Rattle.wasm_operators_enums.specs.declared.atomic.AtomicOperator.{AtomicOperator}
use Rattle.wasm_operators_enums.specs.declared.atomic.SharedOperator.{SharedOperator}
use Rattle.wasm_operators_enums.specs.Op as op
use Rattle.wasm_operators_enums.specs.Op.{Op, ParametricTree, ExceptionTree, ContinuationTree}
use Rattle.wasm_operators_enums.specs.Table.{info_of}
use Rattle.wasm_operators_enums.specs.Immediates.{immediates_of, kinds_of, is_canonical}
use Rattle.wasm_operators_enums.specs.Laws.{RowsFollowFromCodes, KindsFollowFromCodes, CodesTellOperatorsApart}

-- ---- the group of a key

-- each run up to the first key of the next, and its group's number, in the order of `Op`
abbrev runs : List (ℕ × ℕ)
runs =
    (0x06, 0) ∷
    (0x0b, 2) ∷
    (0x18, 0) ∷
    (0x1a, 2) ∷
    (0x1f, 1) ∷
    (0x20, 2) ∷
    (0x25, 3) ∷
    (0x28, 6) ∷
    (0x41, 3) ∷
    (0x45, 4) ∷
    (0xd0, 5) ∷
    (0xd3, 6) ∷
    (0xd4, 7) ∷
    (0xe0, 0) ∷
    (0xfb * 4096, 13) ∷
    (0xfb * 4096 + 0x20, 7) ∷
    (0xfc * 4096, 8) ∷
    (0xfc * 4096 + 0x08, 5) ∷
    (0xfc * 4096 + 0x13, 6) ∷
    (0xfd * 4096, 5) ∷
    (0xfd * 4096 + 0x0e, 9) ∷
    (0xfd * 4096 + 0x15, 10) ∷
    (0xfd * 4096 + 0x23, 9) ∷
    (0xfd * 4096 + 0x54, 10) ∷
    (0xfd * 4096 + 0x5e, 9) ∷
    (0xfe * 4096, 10) ∷
    (0xfe * 4096 + 0x4f, 11) ∷
    (0xff * 4096, 12) ∷ []

abbrev group_in : List (ℕ × ℕ) → ℕ → ℕ
group_in [] k = 14
group_in (r ∷ rs) k = elim (ltb k r.0) [ true ↦ r.1 | false ↦ group_in rs k ]

abbrev group_at : ℕ → ℕ
group_at k = group_in runs k

abbrev is_of : ℕ → ℕ → Bool
is_of group k = eqb (group_at k) group

control_group : (o : ControlOperator) → group_at (key (control_info o)) ≡ 0
control_group o = is_eq (group_at (key (control_info o))) 0 (in_list control_info control_immediates (map kind_of) control_list (is_of 0) refl o (control_told o))

parametric_group : (o : ParametricTree) → group_at (key (parametric_info o)) ≡ 1
parametric_group o = is_eq (group_at (key (parametric_info o))) 1 (in_list parametric_info parametric_immediates (map kind_of) parametric_list (is_of 1) refl o (parametric_told o))

exception_group : (o : ExceptionTree) → group_at (key (exception_info o)) ≡ 2
exception_group o = is_eq (group_at (key (exception_info o))) 2 (in_list exception_info exception_immediates (map kind_of) exception_list (is_of 2) refl o (exception_told o))

memory_group : (o : MemoryOperator) → group_at (key (memory_info o)) ≡ 3
memory_group o = is_eq (group_at (key (memory_info o))) 3 (in_list memory_info memory_immediates (map kind_of) memory_list (is_of 3) refl o (memory_told o))

const_group : (o : ConstOperator) → group_at (key (const_info o)) ≡ 4
const_group o = is_eq (group_at (key (const_info o))) 4 (in_list const_info const_immediates (map kind_of) const_list (is_of 4) refl o (const_told o))

numeric_group : (o : NumericOperator) → group_at (key (numeric_info o)) ≡ 5
numeric_group o = is_eq (group_at (key (numeric_info o))) 5 (in_list numeric_info numeric_immediates (map kind_of) numeric_list (is_of 5) refl o (numeric_told o))

bulk_group : (o : BulkOperator) → group_at (key (bulk_info o)) ≡ 6
bulk_group o = is_eq (group_at (key (bulk_info o))) 6 (in_list bulk_info bulk_immediates (map kind_of) bulk_list (is_of 6) refl o (bulk_told o))

gc_group : (o : GcOperator) → group_at (key (gc_info o)) ≡ 7
gc_group o = is_eq (group_at (key (gc_info o))) 7 (in_list gc_info gc_immediates (map kind_of) gc_list (is_of 7) refl o (gc_told o))

descriptor_group : (o : DescriptorOperator) → group_at (key (descriptor_info o)) ≡ 8
descriptor_group o = is_eq (group_at (key (descriptor_info o))) 8 (in_list descriptor_info descriptor_immediates (map kind_of) descriptor_list (is_of 8) refl o (descriptor_told o))

simd_group : (o : SimdOperator) → group_at (key (simd_info o)) ≡ 9
simd_group o = is_eq (group_at (key (simd_info o))) 9 (in_list simd_info simd_immediates (map kind_of) simd_list (is_of 9) refl o (simd_told o))

simd_numeric_group : (o : SimdNumericOperator) → group_at (key (simd_numeric_info o)) ≡ 10
simd_numeric_group o = is_eq (group_at (key (simd_numeric_info o))) 10
    (in_list simd_numeric_info simd_numeric_immediates (map kind_of) simd_numeric_list (is_of 10) refl o (simd_numeric_told o))

atomic_group : (o : AtomicOperator) → group_at (key (atomic_info o)) ≡ 11
atomic_group o = is_eq (group_at (key (atomic_info o))) 11 (in_list atomic_info atomic_immediates (map kind_of) atomic_list (is_of 11) refl o (atomic_told o))

shared_group : (o : SharedOperator) → group_at (key (shared_info o)) ≡ 12
shared_group o = is_eq (group_at (key (shared_info o))) 12 (in_list shared_info shared_immediates (map kind_of) shared_list (is_of 12) refl o (shared_told o))

continuation_group : (o : ContinuationTree) → group_at (key (continuation_info o)) ≡ 13
continuation_group o = is_eq (group_at (key (continuation_info o))) 13
    (in_list continuation_info continuation_immediates (map kind_of) continuation_list (is_of 13) refl o (continuation_told o))

-- ---- what belongs to a key

abbrev rows : List (ℕ → Option Info)
rows =
    row_at control_info control_immediates (map kind_of) control_list ∷
    row_at parametric_info parametric_immediates (map kind_of) parametric_list ∷
    row_at exception_info exception_immediates (map kind_of) exception_list ∷
    row_at memory_info memory_immediates (map kind_of) memory_list ∷
    row_at const_info const_immediates (map kind_of) const_list ∷
    row_at numeric_info numeric_immediates (map kind_of) numeric_list ∷
    row_at bulk_info bulk_immediates (map kind_of) bulk_list ∷
    row_at gc_info gc_immediates (map kind_of) gc_list ∷
    row_at descriptor_info descriptor_immediates (map kind_of) descriptor_list ∷
    row_at simd_info simd_immediates (map kind_of) simd_list ∷
    row_at simd_numeric_info simd_numeric_immediates (map kind_of) simd_numeric_list ∷
    row_at atomic_info atomic_immediates (map kind_of) atomic_list ∷
    row_at shared_info shared_immediates (map kind_of) shared_list ∷
    row_at continuation_info continuation_immediates (map kind_of) continuation_list ∷ []

abbrev kinds : List (ℕ → Option (List Kind))
kinds =
    kinds_at control_info control_immediates (map kind_of) control_list ∷
    kinds_at parametric_info parametric_immediates (map kind_of) parametric_list ∷
    kinds_at exception_info exception_immediates (map kind_of) exception_list ∷
    kinds_at memory_info memory_immediates (map kind_of) memory_list ∷
    kinds_at const_info const_immediates (map kind_of) const_list ∷
    kinds_at numeric_info numeric_immediates (map kind_of) numeric_list ∷
    kinds_at bulk_info bulk_immediates (map kind_of) bulk_list ∷
    kinds_at gc_info gc_immediates (map kind_of) gc_list ∷
    kinds_at descriptor_info descriptor_immediates (map kind_of) descriptor_list ∷
    kinds_at simd_info simd_immediates (map kind_of) simd_list ∷
    kinds_at simd_numeric_info simd_numeric_immediates (map kind_of) simd_numeric_list ∷
    kinds_at atomic_info atomic_immediates (map kind_of) atomic_list ∷
    kinds_at shared_info shared_immediates (map kind_of) shared_list ∷
    kinds_at continuation_info continuation_immediates (map kind_of) continuation_list ∷ []

abbrev makers : List (ℕ → List Immediate → Option Op)
makers =
    (λ k is. option_map op.Control (made_at control_info control_immediates (map kind_of) control_list k is)) ∷
    (λ k is. option_map op.Parametric (made_at parametric_info parametric_immediates (map kind_of) parametric_list k is)) ∷
    (λ k is. option_map op.Exception (made_at exception_info exception_immediates (map kind_of) exception_list k is)) ∷
    (λ k is. option_map op.Memory (made_at memory_info memory_immediates (map kind_of) memory_list k is)) ∷
    (λ k is. option_map op.Const (made_at const_info const_immediates (map kind_of) const_list k is)) ∷
    (λ k is. option_map op.Numeric (made_at numeric_info numeric_immediates (map kind_of) numeric_list k is)) ∷
    (λ k is. option_map op.Bulk (made_at bulk_info bulk_immediates (map kind_of) bulk_list k is)) ∷
    (λ k is. option_map op.Gc (made_at gc_info gc_immediates (map kind_of) gc_list k is)) ∷
    (λ k is. option_map op.Descriptor (made_at descriptor_info descriptor_immediates (map kind_of) descriptor_list k is)) ∷
    (λ k is. option_map op.Simd (made_at simd_info simd_immediates (map kind_of) simd_list k is)) ∷
    (λ k is. option_map op.SimdNumeric (made_at simd_numeric_info simd_numeric_immediates (map kind_of) simd_numeric_list k is)) ∷
    (λ k is. option_map op.Atomic (made_at atomic_info atomic_immediates (map kind_of) atomic_list k is)) ∷
    (λ k is. option_map op.Shared (made_at shared_info shared_immediates (map kind_of) shared_list k is)) ∷
    (λ k is. option_map op.Continuation (made_at continuation_info continuation_immediates (map kind_of) continuation_list k is)) ∷ []

abbrev row_of_key : ℕ → Option Info
row_of_key k = get_or rows (group_at k) (λ n. None) k

abbrev kinds_of_key : ℕ → Option (List Kind)
kinds_of_key k = get_or kinds (group_at k) (λ n. None) k

abbrev made_of_key : ℕ → List Immediate → Option Op
made_of_key k is = get_or makers (group_at k) (λ n js. None) k is

-- ---- each operator's own

row_again : (o : Op) → row_of_key (key (info_of o)) ≡ Some (info_of o)
row_again (op.Control o) = subst (λ (g : ℕ). get_or rows g (λ n. None) (key (control_info o)) ≡ Some (control_info o)) (sym (control_group o)) (control_told o).0
row_again (op.Parametric o) = subst (λ (g : ℕ). get_or rows g (λ n. None) (key (parametric_info o)) ≡ Some (parametric_info o)) (sym (parametric_group o)) (parametric_told o).0
row_again (op.Exception o) = subst (λ (g : ℕ). get_or rows g (λ n. None) (key (exception_info o)) ≡ Some (exception_info o)) (sym (exception_group o)) (exception_told o).0
row_again (op.Memory o) = subst (λ (g : ℕ). get_or rows g (λ n. None) (key (memory_info o)) ≡ Some (memory_info o)) (sym (memory_group o)) (memory_told o).0
row_again (op.Const o) = subst (λ (g : ℕ). get_or rows g (λ n. None) (key (const_info o)) ≡ Some (const_info o)) (sym (const_group o)) (const_told o).0
row_again (op.Numeric o) = subst (λ (g : ℕ). get_or rows g (λ n. None) (key (numeric_info o)) ≡ Some (numeric_info o)) (sym (numeric_group o)) (numeric_told o).0
row_again (op.Bulk o) = subst (λ (g : ℕ). get_or rows g (λ n. None) (key (bulk_info o)) ≡ Some (bulk_info o)) (sym (bulk_group o)) (bulk_told o).0
row_again (op.Gc o) = subst (λ (g : ℕ). get_or rows g (λ n. None) (key (gc_info o)) ≡ Some (gc_info o)) (sym (gc_group o)) (gc_told o).0
row_again (op.Descriptor o) = subst (λ (g : ℕ). get_or rows g (λ n. None) (key (descriptor_info o)) ≡ Some (descriptor_info o)) (sym (descriptor_group o)) (descriptor_told o).0
row_again (op.Simd o) = subst (λ (g : ℕ). get_or rows g (λ n. None) (key (simd_info o)) ≡ Some (simd_info o)) (sym (simd_group o)) (simd_told o).0
row_again (op.SimdNumeric o) = subst (λ (g : ℕ). get_or rows g (λ n. None) (key (simd_numeric_info o)) ≡ Some (simd_numeric_info o))
    (sym (simd_numeric_group o)) (simd_numeric_told o).0
row_again (op.Atomic o) = subst (λ (g : ℕ). get_or rows g (λ n. None) (key (atomic_info o)) ≡ Some (atomic_info o)) (sym (atomic_group o)) (atomic_told o).0
row_again (op.Shared o) = subst (λ (g : ℕ). get_or rows g (λ n. None) (key (shared_info o)) ≡ Some (shared_info o)) (sym (shared_group o)) (shared_told o).0
row_again (op.Continuation o) = subst (λ (g : ℕ). get_or rows g (λ n. None) (key (continuation_info o)) ≡ Some (continuation_info o))
    (sym (continuation_group o)) (continuation_told o).0

kinds_again : (o : Op) → kinds_of_key (key (info_of o)) ≡ Some (kinds_of o)
kinds_again (op.Control o) = subst (λ (g : ℕ). get_or kinds g (λ n. None) (key (control_info o)) ≡ Some (map kind_of (control_immediates o)))
    (sym (control_group o)) (control_told o).1
kinds_again (op.Parametric o) = subst (λ (g : ℕ). get_or kinds g (λ n. None) (key (parametric_info o)) ≡ Some (map kind_of (parametric_immediates o)))
    (sym (parametric_group o)) (parametric_told o).1
kinds_again (op.Exception o) = subst (λ (g : ℕ). get_or kinds g (λ n. None) (key (exception_info o)) ≡ Some (map kind_of (exception_immediates o)))
    (sym (exception_group o)) (exception_told o).1
kinds_again (op.Memory o) = subst (λ (g : ℕ). get_or kinds g (λ n. None) (key (memory_info o)) ≡ Some (map kind_of (memory_immediates o))) (sym (memory_group o)) (memory_told o).1
kinds_again (op.Const o) = subst (λ (g : ℕ). get_or kinds g (λ n. None) (key (const_info o)) ≡ Some (map kind_of (const_immediates o))) (sym (const_group o)) (const_told o).1
kinds_again (op.Numeric o) = subst (λ (g : ℕ). get_or kinds g (λ n. None) (key (numeric_info o)) ≡ Some (map kind_of (numeric_immediates o)))
    (sym (numeric_group o)) (numeric_told o).1
kinds_again (op.Bulk o) = subst (λ (g : ℕ). get_or kinds g (λ n. None) (key (bulk_info o)) ≡ Some (map kind_of (bulk_immediates o))) (sym (bulk_group o)) (bulk_told o).1
kinds_again (op.Gc o) = subst (λ (g : ℕ). get_or kinds g (λ n. None) (key (gc_info o)) ≡ Some (map kind_of (gc_immediates o))) (sym (gc_group o)) (gc_told o).1
kinds_again (op.Descriptor o) = subst (λ (g : ℕ). get_or kinds g (λ n. None) (key (descriptor_info o)) ≡ Some (map kind_of (descriptor_immediates o)))
    (sym (descriptor_group o)) (descriptor_told o).1
kinds_again (op.Simd o) = subst (λ (g : ℕ). get_or kinds g (λ n. None) (key (simd_info o)) ≡ Some (map kind_of (simd_immediates o))) (sym (simd_group o)) (simd_told o).1
kinds_again (op.SimdNumeric o) = subst (λ (g : ℕ). get_or kinds g (λ n. None) (key (simd_numeric_info o)) ≡ Some
    (map kind_of (simd_numeric_immediates o))) (sym (simd_numeric_group o)) (simd_numeric_told o).1
kinds_again (op.Atomic o) = subst (λ (g : ℕ). get_or kinds g (λ n. None) (key (atomic_info o)) ≡ Some (map kind_of (atomic_immediates o))) (sym (atomic_group o)) (atomic_told o).1
kinds_again (op.Shared o) = subst (λ (g : ℕ). get_or kinds g (λ n. None) (key (shared_info o)) ≡ Some (map kind_of (shared_immediates o))) (sym (shared_group o)) (shared_told o).1
kinds_again (op.Continuation o) = subst (λ (g : ℕ). get_or kinds g (λ n. None) (key (continuation_info o)) ≡ Some
    (map kind_of (continuation_immediates o))) (sym (continuation_group o)) (continuation_told o).1

made_again : (o : Op) → is_canonical o ≡ true → made_of_key (key (info_of o)) (immediates_of o) ≡ Some o
made_again (op.Control o) h = subst (λ (g : ℕ). get_or makers g (λ n js. None) (key (control_info o)) (control_immediates o) ≡ Some (op.Control o))
    (sym (control_group o)) (ap (option_map op.Control) (control_made o))
made_again (op.Parametric o) h = subst (λ (g : ℕ). get_or makers g (λ n js. None) (key (parametric_info o)) (parametric_immediates o) ≡ Some
    (op.Parametric o)) (sym (parametric_group o)) (ap (option_map op.Parametric) (parametric_made o h))
made_again (op.Exception o) h = subst (λ (g : ℕ). get_or makers g (λ n js. None) (key (exception_info o)) (exception_immediates o) ≡ Some
    (op.Exception o)) (sym (exception_group o)) (ap (option_map op.Exception) (exception_made o))
made_again (op.Memory o) h = subst (λ (g : ℕ). get_or makers g (λ n js. None) (key (memory_info o)) (memory_immediates o) ≡ Some (op.Memory o))
    (sym (memory_group o)) (ap (option_map op.Memory) (memory_made o))
made_again (op.Const o) h = subst (λ (g : ℕ). get_or makers g (λ n js. None) (key (const_info o)) (const_immediates o) ≡ Some (op.Const o))
    (sym (const_group o)) (ap (option_map op.Const) (const_made o))
made_again (op.Numeric o) h = subst (λ (g : ℕ). get_or makers g (λ n js. None) (key (numeric_info o)) (numeric_immediates o) ≡ Some (op.Numeric o))
    (sym (numeric_group o)) (ap (option_map op.Numeric) (numeric_made o))
made_again (op.Bulk o) h = subst (λ (g : ℕ). get_or makers g (λ n js. None) (key (bulk_info o)) (bulk_immediates o) ≡ Some (op.Bulk o))
    (sym (bulk_group o)) (ap (option_map op.Bulk) (bulk_made o))
made_again (op.Gc o) h = subst (λ (g : ℕ). get_or makers g (λ n js. None) (key (gc_info o)) (gc_immediates o) ≡ Some (op.Gc o)) (sym (gc_group o))
    (ap (option_map op.Gc) (gc_made o))
made_again (op.Descriptor o) h = subst (λ (g : ℕ). get_or makers g (λ n js. None) (key (descriptor_info o)) (descriptor_immediates o) ≡ Some
    (op.Descriptor o)) (sym (descriptor_group o)) (ap (option_map op.Descriptor) (descriptor_made o))
made_again (op.Simd o) h = subst (λ (g : ℕ). get_or makers g (λ n js. None) (key (simd_info o)) (simd_immediates o) ≡ Some (op.Simd o))
    (sym (simd_group o)) (ap (option_map op.Simd) (simd_made o))
made_again (op.SimdNumeric o) h = subst (λ (g : ℕ). get_or makers g (λ n js. None) (key (simd_numeric_info o)) (simd_numeric_immediates o) ≡ Some
    (op.SimdNumeric o)) (sym (simd_numeric_group o)) (ap (option_map op.SimdNumeric) (simd_numeric_made o))
made_again (op.Atomic o) h = subst (λ (g : ℕ). get_or makers g (λ n js. None) (key (atomic_info o)) (atomic_immediates o) ≡ Some (op.Atomic o))
    (sym (atomic_group o)) (ap (option_map op.Atomic) (atomic_made o))
made_again (op.Shared o) h = subst (λ (g : ℕ). get_or makers g (λ n js. None) (key (shared_info o)) (shared_immediates o) ≡ Some (op.Shared o))
    (sym (shared_group o)) (ap (option_map op.Shared) (shared_made o))
made_again (op.Continuation o) h = subst (λ (g : ℕ). get_or makers g (λ n js. None) (key (continuation_info o)) (continuation_immediates o) ≡ Some
    (op.Continuation o)) (sym (continuation_group o)) (ap (option_map op.Continuation) (continuation_made o))

-- ---- the laws

some_one : {A : Type 0} (x y : A) → Some x ≡ Some y → x ≡ y
some_one x y e = cc

pub rows_follow : RowsFollowFromCodes
rows_follow a b p c =
    some_one (info_of a) (info_of b) (sym (row_again a) ∙ ap row_of_key (same_key (info_of a) (info_of b) p c) ∙ row_again b)

pub kinds_follow : KindsFollowFromCodes
kinds_follow a b p c =
    some_one (kinds_of a) (kinds_of b) (sym (kinds_again a) ∙ ap kinds_of_key (same_key (info_of a) (info_of b) p c) ∙ kinds_again b)

pub apart : CodesTellOperatorsApart
apart a b f g p c e =
    let k = same_key (info_of a) (info_of b) p c in
    let same : made_of_key (key (info_of a)) (immediates_of a) ≡ made_of_key (key (info_of b)) (immediates_of b) = λ i. made_of_key (k i) (e i) in
    some_one a b (sym (made_again a f) ∙ same ∙ made_again b g)
