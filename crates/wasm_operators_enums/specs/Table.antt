-- The table of opcodes: what is told of each operator (WebAssembly 3.0, appendix, index of instructions). The groups' parts
-- are in the files of this name of the crates below.
use Rattle.wasm_operators_immediates.specs.Info.{Info}
use Rattle.wasm_operators_enums.specs.control.Table.{control_info, parametric_info, exception_info, continuation_info}
use Rattle.wasm_operators_enums.specs.memory.Table.{memory_info, const_info, bulk_info}
use Rattle.wasm_operators_enums.specs.numbers.Table.{numeric_info}
use Rattle.wasm_operators_enums.specs.gc.Table.{gc_info, descriptor_info}
use Rattle.wasm_operators_enums.specs.threads.Table.{atomic_info, shared_info}
use Rattle.wasm_operators_enums.specs.VectorsTable.{simd_info, simd_numeric_info}
use Rattle.wasm_operators_enums.specs.Op as op
use Rattle.wasm_operators_enums.specs.Op.{Op}

-- standard: index-instr: opcodes, with the text name and the proposal of each
-- the row of each operator, by the tables of the groups
abbrev pub info_of : Op → Info
info_of (op.Control o) = control_info o
info_of (op.Parametric o) = parametric_info o
info_of (op.Exception o) = exception_info o
info_of (op.Memory o) = memory_info o
info_of (op.Const o) = const_info o
info_of (op.Numeric o) = numeric_info o
info_of (op.Bulk o) = bulk_info o
info_of (op.Gc o) = gc_info o
info_of (op.Descriptor o) = descriptor_info o
info_of (op.Simd o) = simd_info o
info_of (op.SimdNumeric o) = simd_numeric_info o
info_of (op.Atomic o) = atomic_info o
info_of (op.Shared o) = shared_info o
info_of (op.Continuation o) = continuation_info o
