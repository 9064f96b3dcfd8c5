-- Which codes of one byte are of numbers.
use Rattle.std.proofs.Common.{◌≡◌, ◌<◌, ℕ, leb, List, [], Some, None, arith}
use Rattle.std.proofs.lemmas.Bool.{le-leb}
use Rattle.wasm_operators_enums.specs.declared.numeric.NumericOperator.{NumericOperator}
use Rattle.wasm_operators_enums.specs.numbers.Table.{numeric_info}
use Rattle.wasm_operators_enums.specs.numbers.Immediates.{numeric_immediates}
use Rattle.wasm_operators_enums.proofs.NumbersCodes.{numeric_list, numeric_told}
use Rattle.wasm_operators_encoding.specs.Rows.{Row, rows}
use Rattle.wasm_operators_encoding.specs.Groups.{numeric_kinds}
use Rattle.wasm_operators_encoding.specs.KeptRows.{kinds_kept}
use Rattle.wasm_operators_encoding.specs.RowLaws.{own_kinds_behind}

abbrev numeric_rows : List Row
numeric_rows = rows numeric_info numeric_immediates None numeric_list

pub known : (o : NumericOperator) → (numeric_info o).prefix ≡ None → numeric_kinds (numeric_info o).code ≡ Some []
unfolding numeric_kinds
known o p = own_kinds_behind numeric_info numeric_immediates numeric_list o (numeric_told o) None p

pub below : (code : ℕ) → code < 0x45 → numeric_kinds code ≡ None
unfolding numeric_kinds
below code h = kinds_kept (λ n. leb n 0x44) code (le-leb code 0x44 (omega (arith, h))) numeric_rows

pub above : (code : ℕ) → 0xc4 < code → numeric_kinds code ≡ None
unfolding numeric_kinds
above code h = kinds_kept (leb 0xc5) code (le-leb 0xc5 code h) numeric_rows

pub ruleset numeric_codes = (known, below, above)
