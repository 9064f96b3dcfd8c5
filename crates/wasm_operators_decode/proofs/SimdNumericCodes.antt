-- The rows of a run have the kinds that all rows have at a code of the run, and no row has a code above all runs.
use Rattle.std.proofs.Common.{◌≡◌, ◌≤◌, ◌<◌, ℕ, leb, Some, None, sym}
use Rattle.std.proofs.lemmas.Bool.{le-leb}
use Rattle.wasm_operators_enums.specs.VectorsTable.{simd_numeric_info}
use Rattle.wasm_operators_enums.specs.VectorsImmediates.{simd_numeric_immediates}
use Rattle.wasm_operators_enums.proofs.VectorsCodes.{simd_numeric_list}
use Rattle.wasm_operators_encoding.specs.Rows.{rows}
use Rattle.wasm_operators_encoding.specs.Groups.{simd_numeric_kinds}
use Rattle.wasm_operators_encoding.specs.KeptRows.{between, kinds_kept, is_between}
use Rattle.wasm_operators_decode.specs.SimdNumeric.{simd_numeric_run}

pub in_run : (from to code : ℕ) → from ≤ code → code ≤ to → simd_numeric_run from to code ≡ simd_numeric_kinds code
in_run from to code low high = unfold simd_numeric_run simd_numeric_kinds in sym
    (kinds_kept (between from to) code (is_between from to code low high) (rows simd_numeric_info simd_numeric_immediates (Some 0xfd) simd_numeric_list))

pub none_above : (code : ℕ) → 0x113 < code → simd_numeric_kinds code ≡ None
unfolding simd_numeric_kinds
none_above code h = kinds_kept (leb 0x114) code (le-leb 0x114 code h) (rows simd_numeric_info simd_numeric_immediates (Some 0xfd) simd_numeric_list)
