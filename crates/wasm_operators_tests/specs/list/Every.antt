-- All rows of the list.
use Rattle.std.specs.Prelude.{List, ◌++◌}
use Rattle.wasm_operators_tests.specs.list.Listed.{Carried, Listed}
use Rattle.wasm_operators_tests.specs.list.ControlRows.{control_rows, parametric_rows, exception_rows, continuation_rows}
use Rattle.wasm_operators_tests.specs.list.MemoryRows.{memory_rows, const_rows, bulk_rows}
use Rattle.wasm_operators_tests.specs.list.NumbersRows.{numeric_rows}
use Rattle.wasm_operators_tests.specs.list.GcRows.{gc_rows, descriptor_rows}
use Rattle.wasm_operators_tests.specs.list.ThreadsRows.{atomic_rows, shared_rows}
use Rattle.wasm_operators_tests.specs.list.VectorsRows.{simd_rows}
use Rattle.wasm_operators_tests.specs.list.VectorNumbersRows.{simd_numeric_rows}

abbrev pub every_row : Carried → List Listed
every_row c = control_rows c ++ parametric_rows c ++ exception_rows c ++ continuation_rows c ++ memory_rows c ++ const_rows c ++ bulk_rows c ++
    numeric_rows c ++ gc_rows c ++ descriptor_rows c ++ atomic_rows c ++ shared_rows c ++ simd_rows c ++ simd_numeric_rows c
