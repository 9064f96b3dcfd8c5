-- What each operator carries behind its opcode, in the order of the bytes (WebAssembly 3.0, binary format, instructions). The
-- groups' parts are in the files of this name of the crates below.
use Rattle.std.specs.Prelude.{Bool, true, List, map}
use Rattle.wasm_operators_immediates.specs.Kinds.{Kind}
use Rattle.wasm_operators_immediates.specs.Immediates.{Immediate, kind_of}
use Rattle.wasm_operators_enums.specs.control.Immediates.{control_immediates, parametric_immediates, exception_immediates}
use Rattle.wasm_operators_enums.specs.control.Immediates.{is_canonical as parametric_is_canonical, continuation_immediates}
use Rattle.wasm_operators_enums.specs.memory.Immediates.{memory_immediates, const_immediates, bulk_immediates}
use Rattle.wasm_operators_enums.specs.numbers.Immediates.{numeric_immediates}
use Rattle.wasm_operators_enums.specs.gc.Immediates.{gc_immediates, descriptor_immediates}
use Rattle.wasm_operators_enums.specs.threads.Immediates.{atomic_immediates, shared_immediates}
use Rattle.wasm_operators_enums.specs.VectorsImmediates.{simd_immediates, simd_numeric_immediates}
use Rattle.wasm_operators_enums.specs.Op as op
use Rattle.wasm_operators_enums.specs.Op.{Op}

-- standard: binary-instr: what follows each opcode
-- what each operator carries, by the tables of the groups
abbrev pub immediates_of : Op → List Immediate
immediates_of (op.Control o) = control_immediates o
immediates_of (op.Parametric o) = parametric_immediates o
immediates_of (op.Exception o) = exception_immediates o
immediates_of (op.Memory o) = memory_immediates o
immediates_of (op.Const o) = const_immediates o
immediates_of (op.Numeric o) = numeric_immediates o
immediates_of (op.Bulk o) = bulk_immediates o
immediates_of (op.Gc o) = gc_immediates o
immediates_of (op.Descriptor o) = descriptor_immediates o
immediates_of (op.Simd o) = simd_immediates o
immediates_of (op.SimdNumeric o) = simd_numeric_immediates o
immediates_of (op.Atomic o) = atomic_immediates o
immediates_of (op.Shared o) = shared_immediates o
immediates_of (op.Continuation o) = continuation_immediates o

-- the kinds alone, by which the bytes are read
abbrev pub kinds_of : Op → List Kind
kinds_of o = map kind_of (immediates_of o)

-- standard: binary-instr-parametric: select t*, in one form for each number of types
-- the form that an operator has by the number of types that it carries: `select` with one type is not TypedSelectMulti
abbrev pub is_canonical : Op → Bool
is_canonical (op.Parametric o) = parametric_is_canonical o
is_canonical o = true
