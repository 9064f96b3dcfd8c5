-- At an operator's opcode the table of opcodes has the kinds of this operator.
use Rattle.std.proofs.Common.{◌≡◌, List, [], ◌∷◌, Some, None, refl}
use Rattle.wasm_operators_enums.specs.control.Table.{control_info, parametric_info, exception_info}
use Rattle.wasm_operators_enums.specs.memory.Table.{memory_info, const_info}
use Rattle.wasm_operators_enums.specs.numbers.Table.{numeric_info}
use Rattle.wasm_operators_enums.specs.control.Immediates.{control_immediates, parametric_immediates, exception_immediates}
use Rattle.wasm_operators_enums.specs.memory.Immediates.{memory_immediates, const_immediates}
use Rattle.wasm_operators_enums.specs.numbers.Immediates.{numeric_immediates}
use Rattle.wasm_operators_enums.proofs.ControlCodes.{control_list, control_told, parametric_list, parametric_told, exception_list, exception_told}
use Rattle.wasm_operators_enums.proofs.MemoryCodes.{memory_list, memory_told, const_list, const_told}
use Rattle.wasm_operators_enums.proofs.NumbersCodes.{numeric_list, numeric_told}
use Rattle.wasm_operators_enums.specs.memory.Table.{bulk_info}
use Rattle.wasm_operators_enums.specs.gc.Table.{gc_info, descriptor_info}
use Rattle.wasm_operators_enums.specs.threads.Table.{atomic_info, shared_info}
use Rattle.wasm_operators_enums.specs.control.Table.{continuation_info}
use Rattle.wasm_operators_enums.specs.memory.Immediates.{bulk_immediates}
use Rattle.wasm_operators_enums.specs.gc.Immediates.{gc_immediates, descriptor_immediates}
use Rattle.wasm_operators_enums.specs.threads.Immediates.{atomic_immediates, shared_immediates}
use Rattle.wasm_operators_enums.specs.control.Immediates.{continuation_immediates}
use Rattle.wasm_operators_enums.proofs.MemoryCodes.{bulk_list, bulk_told}
use Rattle.wasm_operators_enums.proofs.GcCodes.{gc_list, gc_told, descriptor_list, descriptor_told}
use Rattle.wasm_operators_enums.proofs.ThreadsCodes.{atomic_list, atomic_told, shared_list, shared_told}
use Rattle.wasm_operators_enums.proofs.ControlCodes.{continuation_list, continuation_told}
use Rattle.wasm_operators_enums.specs.VectorsTable.{simd_info, simd_numeric_info}
use Rattle.wasm_operators_enums.specs.VectorsImmediates.{simd_immediates, simd_numeric_immediates}
use Rattle.wasm_operators_enums.proofs.VectorsCodes.{simd_list, simd_told, simd_numeric_list, simd_numeric_told}
use Rattle.wasm_operators_enums.specs.Op as op
use Rattle.wasm_operators_enums.specs.Op.{Op}
use Rattle.wasm_operators_enums.specs.Immediates.{kinds_of}
use Rattle.wasm_operators_encoding.specs.Rows.{Row, rows}
use Rattle.wasm_operators_encoding.specs.Groups.{numeric_kinds, simd_numeric_kinds}
use Rattle.wasm_operators_encoding.specs.Coded.{kinds_behind, kinds_at}
use Rattle.wasm_operators_encoding.specs.RowLaws.{own_kinds, own_kinds_of_two, from_group}
use Rattle.wasm_operators_encoding.specs.Operators.{opcode_of}

-- ---- the rows of each group, by prefix

abbrev control_rows : List Row
control_rows = rows control_info control_immediates None control_list

abbrev parametric_rows : List Row
parametric_rows = rows parametric_info parametric_immediates None parametric_list

abbrev exception_rows : List Row
exception_rows = rows exception_info exception_immediates None exception_list

abbrev memory_rows : List Row
memory_rows = rows memory_info memory_immediates None memory_list

abbrev const_rows : List Row
const_rows = rows const_info const_immediates None const_list

abbrev numeric_rows : List Row
numeric_rows = rows numeric_info numeric_immediates None numeric_list

abbrev bulk_plain_rows : List Row
bulk_plain_rows = rows bulk_info bulk_immediates None bulk_list

abbrev gc_plain_rows : List Row
gc_plain_rows = rows gc_info gc_immediates None gc_list

abbrev continuation_rows : List Row
continuation_rows = rows continuation_info continuation_immediates None continuation_list

abbrev gc_rows : List Row
gc_rows = rows gc_info gc_immediates (Some 0xfb) gc_list

abbrev descriptor_rows : List Row
descriptor_rows = rows descriptor_info descriptor_immediates (Some 0xfb) descriptor_list

abbrev numeric_prefixed_rows : List Row
numeric_prefixed_rows = rows numeric_info numeric_immediates (Some 0xfc) numeric_list

abbrev bulk_rows : List Row
bulk_rows = rows bulk_info bulk_immediates (Some 0xfc) bulk_list

abbrev simd_rows : List Row
simd_rows = rows simd_info simd_immediates (Some 0xfd) simd_list

abbrev simd_numeric_rows : List Row
simd_numeric_rows = rows simd_numeric_info simd_numeric_immediates (Some 0xfd) simd_numeric_list

abbrev atomic_rows : List Row
atomic_rows = rows atomic_info atomic_immediates (Some 0xfe) atomic_list

abbrev shared_rows : List Row
shared_rows = rows shared_info shared_immediates (Some 0xfe) shared_list

-- behind control, and behind the first group with each prefix, the others in their order
abbrev plain_others : List (List Row)
plain_others = parametric_rows ∷ exception_rows ∷ memory_rows ∷ const_rows ∷ numeric_rows ∷ bulk_plain_rows ∷ gc_plain_rows ∷ continuation_rows ∷ []

abbrev fb_others : List (List Row)
fb_others = descriptor_rows ∷ []

abbrev fc_others : List (List Row)
fc_others = bulk_rows ∷ []

abbrev fd_others : List (List Row)
fd_others = simd_numeric_rows ∷ []

abbrev fe_others : List (List Row)
fe_others = shared_rows ∷ []

-- ---- each operator's own kinds

pub own_kinds_at : (o : Op) → kinds_at (opcode_of o) ≡ Some (kinds_of o)
unfolding numeric_kinds simd_numeric_kinds
own_kinds_at (op.Control o) = own_kinds control_info control_immediates control_list o (control_told o) kinds_behind None refl (from_group 0 control_rows plain_others refl)
own_kinds_at (op.Parametric o) = own_kinds parametric_info parametric_immediates parametric_list o (parametric_told o) kinds_behind None refl
    (from_group 1 control_rows plain_others refl)
own_kinds_at (op.Exception o) = own_kinds exception_info exception_immediates exception_list o (exception_told o) kinds_behind None refl
    (from_group 2 control_rows plain_others refl)
own_kinds_at (op.Memory o) = own_kinds memory_info memory_immediates memory_list o (memory_told o) kinds_behind None refl (from_group 3 control_rows plain_others refl)
own_kinds_at (op.Const o) = own_kinds const_info const_immediates const_list o (const_told o) kinds_behind None refl (from_group 4 control_rows plain_others refl)
own_kinds_at (op.Numeric o) = own_kinds_of_two numeric_info numeric_immediates numeric_list o (numeric_told o) kinds_behind None (Some 0xfc) refl
    (from_group 5 control_rows plain_others refl) (from_group 0 numeric_prefixed_rows fc_others refl)
own_kinds_at (op.Bulk o) = own_kinds_of_two bulk_info bulk_immediates bulk_list o (bulk_told o) kinds_behind None (Some 0xfc) refl
    (from_group 6 control_rows plain_others refl) (from_group 1 numeric_prefixed_rows fc_others refl)
own_kinds_at (op.Gc o) = own_kinds_of_two gc_info gc_immediates gc_list o (gc_told o) kinds_behind None (Some 0xfb) refl
    (from_group 7 control_rows plain_others refl) (from_group 0 gc_rows fb_others refl)
own_kinds_at (op.Descriptor o) = own_kinds descriptor_info descriptor_immediates descriptor_list o (descriptor_told o) kinds_behind (Some 0xfb) refl
    (from_group 1 gc_rows fb_others refl)
own_kinds_at (op.Simd o) = own_kinds simd_info simd_immediates simd_list o (simd_told o) kinds_behind (Some 0xfd) refl (from_group 0 simd_rows fd_others refl)
own_kinds_at (op.SimdNumeric o) = own_kinds simd_numeric_info simd_numeric_immediates simd_numeric_list o (simd_numeric_told o) kinds_behind
    (Some 0xfd) refl (from_group 1 simd_rows fd_others refl)
own_kinds_at (op.Atomic o) = own_kinds atomic_info atomic_immediates atomic_list o (atomic_told o) kinds_behind (Some 0xfe) refl (from_group 0 atomic_rows fe_others refl)
own_kinds_at (op.Shared o) = own_kinds shared_info shared_immediates shared_list o (shared_told o) kinds_behind (Some 0xfe) refl (from_group 1 atomic_rows fe_others refl)
own_kinds_at (op.Continuation o) = own_kinds continuation_info continuation_immediates continuation_list o (continuation_told o) kinds_behind None
    refl (from_group 8 control_rows plain_others refl)
