-- Which kinds stand behind a code, by the rows of a run of codes alone.
use Rattle.std.specs.Prelude.{ℕ, List, Option, Some}
use Rattle.wasm_operators_immediates.specs.Kinds.{Kind}
use Rattle.wasm_operators_enums.specs.VectorsTable.{simd_numeric_info}
use Rattle.wasm_operators_enums.specs.VectorsImmediates.{simd_numeric_immediates}
use Rattle.wasm_operators_enums.proofs.VectorsCodes.{simd_numeric_list}
use Rattle.wasm_operators_encoding.specs.Rows.{kinds_by, rows}
use Rattle.wasm_operators_encoding.specs.KeptRows.{between, kept}

-- the kinds of a code, by the rows with codes of this run
unfoldable pub simd_numeric_run : ℕ → ℕ → ℕ → Option (List Kind)
simd_numeric_run from to = kinds_by (kept (between from to) (rows simd_numeric_info simd_numeric_immediates (Some 0xfd) simd_numeric_list))
