-- The groups that are asked last for a code of one byte.
use Rattle.std.specs.Prelude.{ℕ, List, Option}
use Rattle.wasm_operators_immediates.specs.Kinds.{Kind}
use Rattle.wasm_operators_encoding.specs.Groups.{numeric_kinds, bulk_plain_kinds, gc_plain_kinds, continuation_kinds}
use Rattle.wasm_operators_encoding.specs.Coded.{or_else}

-- behind an opcode that is none of control, variables, memories and constants
abbrev pub further_kinds : ℕ → Option (List Kind)
further_kinds code = or_else (numeric_kinds code) (or_else (bulk_plain_kinds code) (or_else (gc_plain_kinds code) (continuation_kinds code)))
