-- Which operators are those on vectors (WebAssembly 3.0, structure, vector instructions).
use Rattle.std.specs.Prelude.{Bool, true, false}
use Rattle.wasm_operators_enums.specs.Op.{Op, Control, Parametric, Exception, Memory, Const, Numeric, Bulk, Gc, Descriptor, Simd}
use Rattle.wasm_operators_enums.specs.Op.{SimdNumeric, Atomic, Shared, Continuation}

-- the two groups of vectors
abbrev pub is_simd : Op → Bool
is_simd (Control o) = false
is_simd (Parametric o) = false
is_simd (Exception o) = false
is_simd (Memory o) = false
is_simd (Const o) = false
is_simd (Numeric o) = false
is_simd (Bulk o) = false
is_simd (Gc o) = false
is_simd (Descriptor o) = false
is_simd (Simd o) = true
is_simd (SimdNumeric o) = true
is_simd (Atomic o) = false
is_simd (Shared o) = false
is_simd (Continuation o) = false
